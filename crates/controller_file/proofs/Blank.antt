-- A text in form for each choice of sizes.
use Rattle.std.proofs.Common.{◌≡◌, ℕ, ◌+◌, ◌*◌, ◌≤◌, ℤ, pos, ◌≤ℤ◌, length, get_or, replicate, FitsSigned, refl, sym, subst, arith}
use Rattle.std.specs.Prelude.{All}
use Rattle.std.specs.Int.{w128}
use Rattle.std.proofs.lemmas.Bool.Decides.{nat_tests}
use Rattle.std.proofs.lemmas.Int.{ints}
use Rattle.std.proofs.lemmas.List.{length-replicate, get_or-replicate}
use Rattle.mat_int.specs.Matrix.{zero_matrix}
use Rattle.qp_model.specs.problem.Limits.{most_states, most_stages, most_rows}
use Rattle.qp_model.specs.problem.Range.{LiesIn, IsNumerator}
use Rattle.qp_model.specs.machine.Controller.{Numbers, HasShape, IsInForm, FitsWord}
use Rattle.controller_text.proofs.Forms.{plain_back}
use Rattle.controller_text.specs.TextForm.{most_steps, multiplier_words, plain_version, IsTextForm}

pub all_same : {X : Type 0} (P : X → Type 0) (x : X) → P x → (n : ℕ) → All P (replicate n x)
all_same P x h n k d lt = subst P (sym (get_or-replicate n k x d (omega (arith, lt, length-replicate n x)))) h

-- zeros in each list, and the least of each range
abbrev pub blank : ℕ → ℕ → ℕ → ℕ → ℕ → Numbers
blank version n p stages m = record {
  version = version;
  states = n;
  inputs = p;
  stages = stages;
  rows = m;
  fraction_bits = 0;
  grid_bits = 0;
  step_exponent = 0;
  width = 2;
  steps = 1;
  clamp = pos 0;
  words = n + multiplier_words version m + 2 * (p * stages);
  exponents = replicate m 0;
  low = replicate n (pos 0);
  high = replicate n (pos 0);
  state_gains = zero_matrix (p * stages) n;
  offsets = replicate (p * stages) (pos 0);
  dual_gains = zero_matrix (p * stages) m;
  plan_rows = zero_matrix m (p * stages);
  state_rows = zero_matrix m n;
  bounds = replicate m (pos 0);
}

zeros_shape : (height breadth : ℕ) → HasShape (zero_matrix height breadth) height breadth
zeros_shape height breadth = record {
  rows = length-replicate height (replicate breadth (pos 0));
  cols = refl;
  each = all_same (λ row. length row ≡ breadth) (replicate breadth (pos 0)) (length-replicate breadth (pos 0)) height;
}

zeros_fit : (n : ℕ) → All (FitsSigned w128) (replicate n (pos 0))
zeros_fit n = all_same (FitsSigned w128) (pos 0) (record { sfits = omega arith }) n

rows_fit : (height breadth : ℕ) → All (All (FitsSigned w128)) (zero_matrix height breadth).rows
rows_fit height breadth = all_same (All (FitsSigned w128)) (replicate breadth (pos 0)) (zeros_fit breadth) height

pub same_le : (z : ℤ) → z ≤ℤ z
same_le z = omega (arith, ints)

-- ---- the sizes of a version are those of a plain one
pub most_plain : (v : ℕ) → (most_states (plain_version v) ≡ most_states v) × (most_stages (plain_version v) ≡ most_stages v)
most_plain v = grind (arith, nat_tests)

plain_range : (v : ℕ) → LiesIn 1 3 v → LiesIn 1 2 (plain_version v)
plain_range v h = grind (arith, nat_tests, h)

pub plain_first : (v : ℕ) → plain_version v ≡ 1 → v ≡ 1
plain_first v h = grind (arith, nat_tests, h)

steps_one : (v : ℕ) → 1 ≤ most_steps v
steps_one v = grind (arith, nat_tests)

pub blank_form : (version n p stages m : ℕ) → LiesIn 1 3 version → LiesIn 1 (most_states version) n → LiesIn 1 3 p → LiesIn 1 (most_stages version) stages → LiesIn 1 (most_rows version) m → IsTextForm (blank version n p stages m)
blank_form version n p stages m hv hn hp hs hm =
    let most = most_plain version in
    record {
      version = hv;
      steps = (omega arith, steps_one version);
      words = refl;
      sized = record {
        version = plain_range version hv;
        states = (hn.0, omega (arith, hn.1, most.0));
        inputs = hp;
        stages = (hs.0, omega (arith, hs.1, most.1));
        rows = (hm.0, omega (arith, hm.1, most.1));
        grid_bits = omega arith;
        fraction_bits = (omega arith, omega arith);
        step_exponent = omega arith;
        exponents = all_same (λ s. s ≤ 0) 0 (omega arith) m;
        same_exponents = λ first. refl;
        steps = (omega arith, omega arith);
        clamp_low = omega (arith, ints);
        clamp_high = omega (arith, ints);
        words = refl;
        shaped = record {
          exponents = length-replicate m 0;
          low = length-replicate n (pos 0);
          high = length-replicate n (pos 0);
          state_gains = zeros_shape (p * stages) n;
          offsets = length-replicate (p * stages) (pos 0);
          dual_gains = zeros_shape (p * stages) m;
          plan_rows = zeros_shape m (p * stages);
          state_rows = zeros_shape m n;
          bounds = length-replicate m (pos 0);
        };
        low = all_same IsNumerator (pos 0) (omega arith) n;
        high = all_same IsNumerator (pos 0) (omega arith) n;
        box = λ i lt. same_le (get_or (replicate n (pos 0)) i (pos 0));
      };
      width = (omega arith, omega arith);
    }

-- of version 1 or 2
pub plain_blank : (version n p stages m : ℕ) → LiesIn 1 2 version → LiesIn 1 (most_states version) n → LiesIn 1 3 p → LiesIn 1 (most_stages version) stages → LiesIn 1 (most_rows version) m → IsInForm (blank version n p stages m)
plain_blank version n p stages m hv hn hp hs hm = plain_back (blank version n p stages m) (blank_form version n p stages m (hv.0, omega (arith, hv.1)) hn hp hs hm) hv.1

pub blank_fits : (version n p stages m : ℕ) → FitsWord (blank version n p stages m)
blank_fits version n p stages m = record {
  state_gains = rows_fit (p * stages) n;
  offsets = zeros_fit (p * stages);
  dual_gains = rows_fit (p * stages) m;
  plan_rows = rows_fit m (p * stages);
  state_rows = rows_fit m n;
  bounds = zeros_fit m;
}
