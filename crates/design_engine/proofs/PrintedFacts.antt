-- The printed bounds, by what the code computes.
use Rattle.std.proofs.Common.{◌≡◌, ℕ, ◌^◌, ◌<◌, ◌≤◌, ℤ, pos, ◌≤ℤ◌, unsigned_abs, Option, Some, None, List, length, arith, refl, ap, sym, subst, ◌∙◌}
use Rattle.std.proofs.lemmas.Int.{ints}
use Rattle.std.specs.Option.{unwrap_or}
use Rattle.qp_model.specs.machine.Controller.{Numbers}
use Rattle.qp_model.specs.machine.Machine.{exponent_of}
use Rattle.qp_model.specs.machine.AbsoluteSums.{IsController}
use Rattle.qp_model.specs.problem.Runs.{Holds}
use Rattle.hessian_check.specs.RowExponents.{exponent_in}
use Rattle.dual_bounds.proofs.NumberFacts.{shifted}
use Rattle.design_engine.specs.Terms.{repaired, IsTarget, IsRunWithin}
use Rattle.design_engine.specs.declared.bounds.Run.{Run}

-- what holds of the rows of a list holds of the controller's
pub listed : (c : Numbers) (xs : List ℤ) (es : List ℕ) (f : ℕ → ℤ) → IsController c → es ≡ c.exponents → Holds xs (length es) (λ i. f (exponent_in es i)) →
    Holds xs c.rows (λ i. f (exponent_of c i))
listed c xs es f sound e h =
    let long = ap (λ (ls : List ℕ). length ls) e ∙ sound.form.sized.shaped.exponents in
    record {
      long = h.long ∙ long;
      is = λ i l. h.is i (subst (λ (n : ℕ). i < n) (sym long) l) ∙ ap (λ (ls : List ℕ). f (exponent_in ls i)) e;
    }

-- none of its exponents is above its step exponent
pub below : (c : Numbers) (es : List ℕ) → IsController c → es ≡ c.exponents → (i : ℕ) → i < length es → exponent_in es i ≤ c.step_exponent
below c es sound e = subst (λ (xs : List ℕ). (i : ℕ) → i < length xs → exponent_in xs i ≤ c.step_exponent) (sym e) (λ i l. sound.form.sized.exponents i 0 l)

-- the violation that a repair is known for
pub repaired_is : (o : Option ℤ) (v : ℤ) (n : ℕ) → v ≡ pos n → unsigned_abs (unwrap_or o v) ≡ repaired o n
repaired_is None v n e = ap unsigned_abs e
repaired_is (Some target) v n e = refl

pub repaired_least : (o : Option ℤ) (v : ℤ) (n : ℕ) → v ≡ pos n → IsTarget o → pos 0 ≤ℤ unwrap_or o v
repaired_least None v n e h = rw e (omega (arith, ints))
repaired_least (Some target) v n e h = h

-- the numbers of a run of the plain machine
pub run_within : (x : Run) → x.s ≤ 40 → pos 1 ≤ℤ x.r → x.r ≤ℤ pos (2 ^ 44) → 1 ≤ x.k → pos 0 ≤ℤ x.eps → x.eps ≤ℤ pos (2 ^ 114) → IsTarget x.target → IsRunWithin x
run_within x h some narrow steps errors small target = record {
  exponent = omega (arith, h);
  some = some;
  narrow = shifted x.s 40 (2 ^ 44) x.r h some narrow;
  steps = steps;
  errors = errors;
  small = small;
  target = target;
}
