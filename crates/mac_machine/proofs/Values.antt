-- The values that a step of the controller's machine meets, one by one.
use Rattle.std.proofs.Common.{◌≡◌, ℕ, ◌+◌, ◌*◌, ◌-◌, ◌^◌, ◌≤◌, ◌<◌, ℤ, pos, ◌+ℤ◌, ◌*ℤ◌, neg_ℤ, List, [], ◌∷◌, ◌++◌, length, unsigned_abs, arith, subst, ap, ◌∙◌}
use Rattle.std.specs.Prelude.{All}
use Rattle.std.specs.Int.{int_max}
use Rattle.std.proofs.lemmas.Int.{ints, clamps}
use Rattle.std.proofs.lemmas.Nat.{pow_pos}
use Rattle.std.proofs.lemmas.List.{get_or_append_left, get_or-append-add, length-append}
use Rattle.integer_algebra.specs.Division.{floor_of}
use Rattle.integer_algebra.specs.Sums.{at}
use Rattle.mat_int.specs.Row.{list_dot}
use Rattle.mat_int.specs.Matrix.{row_of}
use Rattle.qp_model.specs.machine.Controller.{Numbers}
use Rattle.qp_model.specs.machine.Machine.{top_of, entry_sum, plan_entry, row_sum, next_multiplier}
use Rattle.qp_model.specs.machine.AbsoluteSums.{IsController, row_absolute_sum}
use Rattle.qp_model.specs.machine.ValuesMet.{products, partial_sums, entry_values, row_values, FitsWidth}
use Rattle.qp_model.proofs.AbsoluteLaws.{abs-shifted, abs-neg}
use Rattle.overflow_check.proofs.SumLaws.{sums_fit}

-- ---- parts of a list
all_left : {X : Type 0} (P : X → Type 0) (xs ys : List X) → All P (xs ++ ys) → All P xs
all_left P xs ys h k d l = subst P (get_or_append_left xs ys d k l) (h k d (omega (arith, length-append xs ys, l)))

all_right : {X : Type 0} (P : X → Type 0) (xs ys : List X) → All P (xs ++ ys) → All P ys
all_right P xs ys h k d l = subst P (get_or-append-add xs ys k d) (h (length xs + k) d (omega (arith, length-append xs ys, l)))

-- ---- a plan entry
pub record EntryFits (w : ℕ) (c : Numbers) (state multipliers : List ℤ) (j : ℕ) : Type 0 where
  pub own : All (FitsWidth w) (products (row_of c.state_gains j) state)
  pub own_sums : All (FitsWidth w) (partial_sums (pos 0) (products (row_of c.state_gains j) state))
  pub offset : FitsWidth w (at c.offsets j *ℤ pos (2 ^ c.fraction_bits))
  pub sum : FitsWidth w (list_dot (row_of c.state_gains j) state +ℤ at c.offsets j *ℤ pos (2 ^ c.fraction_bits))
  pub scaled : FitsWidth w ((list_dot (row_of c.state_gains j) state +ℤ at c.offsets j *ℤ pos (2 ^ c.fraction_bits)) *ℤ pos (2 ^ c.step_exponent))
  pub dual : All (FitsWidth w) (products (row_of c.dual_gains j) multipliers)
  pub dual_sums : All (FitsWidth w) (partial_sums ((list_dot (row_of c.state_gains j) state +ℤ at c.offsets j *ℤ pos (2 ^ c.fraction_bits)) *ℤ pos (2 ^ c.step_exponent))
      (products (row_of c.dual_gains j) multipliers))
  pub floor : FitsWidth w (floor_of (entry_sum c state multipliers j) (2 ^ (c.fraction_bits + c.step_exponent)))
  pub entry : FitsWidth w (plan_entry c state multipliers j)

pub entry_fits : (w : ℕ) (c : Numbers) (state multipliers : List ℤ) (j : ℕ) → All (FitsWidth w) (entry_values c state multipliers j) → EntryFits w c state multipliers j
entry_fits w c state multipliers j all =
    let P = FitsWidth w in
    let own = products (row_of c.state_gains j) state in
    let offset = at c.offsets j *ℤ pos (2 ^ c.fraction_bits) in
    let sum = list_dot (row_of c.state_gains j) state +ℤ offset in
    let scaled = sum *ℤ pos (2 ^ c.step_exponent) in
    let dual = products (row_of c.dual_gains j) multipliers in
    let z = entry_sum c state multipliers j in
    let floor = floor_of z (2 ^ (c.fraction_bits + c.step_exponent)) in
    let entry = plan_entry c state multipliers j in
    let middle : List ℤ = offset ∷ sum ∷ scaled ∷ [] in
    let last : List ℤ = z ∷ floor ∷ entry ∷ [] in
    let a1 : List ℤ = own ++ partial_sums (pos 0) own in
    let a2 : List ℤ = a1 ++ middle in
    let a3 : List ℤ = a2 ++ dual in
    let a4 : List ℤ = a3 ++ partial_sums (pos 0) dual in
    let a5 : List ℤ = a4 ++ partial_sums scaled dual in
    let h5 = all_left P a5 last all in
    let h4 = all_left P a4 (partial_sums scaled dual) h5 in
    let h3 = all_left P a3 (partial_sums (pos 0) dual) h4 in
    let h2 = all_left P a2 dual h3 in
    let h1 = all_left P a1 middle h2 in
    let m = all_right P a1 middle h2 in
    let l = all_right P a5 last all in
    record {
      own = all_left P own (partial_sums (pos 0) own) h1;
      own_sums = all_right P own (partial_sums (pos 0) own) h1;
      offset = m 0 (pos 0) (omega arith);
      sum = m 1 (pos 0) (omega arith);
      scaled = m 2 (pos 0) (omega arith);
      dual = all_right P a2 dual h3;
      dual_sums = all_right P a4 (partial_sums scaled dual) h5;
      floor = l 1 (pos 0) (omega arith);
      entry = l 2 (pos 0) (omega arith);
    }

-- ---- a multiplier
pub record RowFits (w : ℕ) (c : Numbers) (state plan : List ℤ) (old : ℤ) (i : ℕ) : Type 0 where
  pub planned : All (FitsWidth w) (products (row_of c.plan_rows i) plan)
  pub planned_sums : All (FitsWidth w) (partial_sums (pos 0) (products (row_of c.plan_rows i) plan))
  pub own : All (FitsWidth w) (products (row_of c.state_rows i) state)
  pub own_sums : All (FitsWidth w) (partial_sums (list_dot (row_of c.plan_rows i) plan) (products (row_of c.state_rows i) state))
  pub row : FitsWidth w (row_sum c state plan i)
  pub moved : FitsWidth w (floor_of (row_sum c state plan i) (2 ^ c.fraction_bits))
  pub added : FitsWidth w (old +ℤ floor_of (row_sum c state plan i) (2 ^ c.fraction_bits))
  pub next : FitsWidth w (next_multiplier c state plan old i)

pub row_fits : (w : ℕ) (c : Numbers) (state plan : List ℤ) (old : ℤ) (i : ℕ) → All (FitsWidth w) (row_values c state plan old i) → RowFits w c state plan old i
row_fits w c state plan old i all =
    let P = FitsWidth w in
    let planned = products (row_of c.plan_rows i) plan in
    let own = products (row_of c.state_rows i) state in
    let sum = list_dot (row_of c.plan_rows i) plan in
    let moved = floor_of (row_sum c state plan i) (2 ^ c.fraction_bits) in
    let last : List ℤ = (at c.bounds i *ℤ pos (2 ^ c.fraction_bits)) ∷ row_sum c state plan i ∷ moved ∷ (old +ℤ moved) ∷ c.clamp ∷ top_of c i ∷ next_multiplier c state plan old i ∷ [] in
    let a1 : List ℤ = planned ++ partial_sums (pos 0) planned in
    let a2 : List ℤ = a1 ++ own in
    let a3 : List ℤ = a2 ++ partial_sums (pos 0) own in
    let a4 : List ℤ = a3 ++ partial_sums sum own in
    let h4 = all_left P a4 last all in
    let h3 = all_left P a3 (partial_sums sum own) h4 in
    let h2 = all_left P a2 (partial_sums (pos 0) own) h3 in
    let h1 = all_left P a1 own h2 in
    let l = all_right P a4 last all in
    record {
      planned = all_left P planned (partial_sums (pos 0) planned) h1;
      planned_sums = all_right P planned (partial_sums (pos 0) planned) h1;
      own = all_right P a1 own h2;
      own_sums = all_right P a3 (partial_sums sum own) h4;
      row = l 1 (pos 0) (omega arith);
      moved = l 2 (pos 0) (omega arith);
      added = l 3 (pos 0) (omega arith);
      next = l 6 (pos 0) (omega arith);
    }

-- ---- values that follow
pub zero_fits : (w : ℕ) → FitsWidth w (pos 0)
zero_fits w = record { low = omega (arith, ints, pow_pos (w - 1)); high = omega (arith, ints, pow_pos (w - 1)) }

-- a number that is raised to 0 fits where it does
pub raised_to_zero_fits : (w : ℕ) (z : ℤ) → FitsWidth w z → FitsWidth w (int_max z (pos 0))
raised_to_zero_fits w z h = record { low = omega (arith, ints, clamps, h.low, h.high); high = omega (arith, ints, clamps, h.low, h.high, pow_pos (w - 1)) }

-- a bound with the other sign, which the values met of the controller's machine don't have: the absolute sum of its row holds it
pub bound_fits : (c : Numbers) (i : ℕ) → IsController c → i < length c.bounds → FitsWidth c.width (neg_ℤ (at c.bounds i) *ℤ pos (2 ^ c.fraction_bits))
bound_fits c i sound lt =
    let top = 2 ^ (c.width - 1) - 1 in
    let z = neg_ℤ (at c.bounds i) *ℤ pos (2 ^ c.fraction_bits) in
    let size : unsigned_abs z ≡ unsigned_abs (at c.bounds i) * 2 ^ c.fraction_bits =
    abs-shifted (neg_ℤ (at c.bounds i)) c.fraction_bits ∙ ap (λ (a : ℕ). a * 2 ^ c.fraction_bits) (abs-neg (at c.bounds i)) in
    let sum : row_absolute_sum c i ≤ top = (sums_fit c top sound.fit).rows i lt in
    let below : unsigned_abs z ≤ top = omega (arith, size, sum) in
    record { low = omega (arith, ints, pow_pos (c.width - 1), below); high = omega (arith, ints, pow_pos (c.width - 1), below) }
