-- The printed bounds of a controller of the accelerated machine, by what the code computes.
use Rattle.std.proofs.Common.{◌≡◌, ℕ, ◌<◌, ◌≤◌, ◌^◌, ℤ, pos, ◌≤ℤ◌, List, length, ap, sym, subst, ◌∙◌}
use Rattle.qp_model.specs.machine.Controller.{Numbers}
use Rattle.qp_model.specs.machine.Machine.{exponent_of}
use Rattle.qp_model.specs.problem.Runs.{Holds}
use Rattle.lean_engine.specs.Engine.RowExponents.{exponent_in}
use Rattle.overflow_check.specs.FastController.{IsFastController}
use Rattle.lean_engine.specs.Engine.Terms.{IsTarget, IsFastRunWithin}
use Rattle.lean_engine.specs.Engine.declared.bounds.Run.{Run}

-- what holds of the rows of a list holds of the controller's
pub listed : (c : Numbers) (xs : List ℤ) (es : List ℕ) (f : ℕ → ℤ) → IsFastController c → es ≡ c.exponents → Holds xs (length es) (λ i. f (exponent_in es i)) →
    Holds xs c.rows (λ i. f (exponent_of c i))
listed c xs es f sound e h =
    let long = ap (λ (ls : List ℕ). length ls) e ∙ sound.form.sized.rest.shaped.exponents in
    record {
      long = h.long ∙ long;
      is = λ i l. h.is i (subst (λ (n : ℕ). i < n) (sym long) l) ∙ ap (λ (ls : List ℕ). f (exponent_in ls i)) e;
    }

-- none of its exponents is above its step exponent
pub below : (c : Numbers) (es : List ℕ) → IsFastController c → es ≡ c.exponents → (i : ℕ) → i < length es → exponent_in es i ≤ c.step_exponent
below c es sound e = subst (λ (xs : List ℕ). (i : ℕ) → i < length xs → exponent_in xs i ≤ c.step_exponent) (sym e) (λ i l. sound.form.sized.rest.exponents i 0 l)

-- the numbers of a run of it
pub run_of : (n m : Numbers) (x : Run) → IsFastController n → m ≡ n → x.s ≡ m.step_exponent → x.k ≡ m.steps → pos 1 ≤ℤ x.r → x.r ≤ℤ pos (2 ^ 42) → pos 0 ≤ℤ x.eps →
    x.eps ≤ℤ pos (2 ^ 114) → IsTarget x.target → IsFastRunWithin x
run_of n m x sound same exponent steps some narrow errors small target = record {
  exponent = subst (λ (s : ℕ). s ≤ 40) (sym (exponent ∙ ap (λ (c : Numbers). c.step_exponent) same)) sound.form.sized.rest.step_exponent;
  some = some;
  narrow = narrow;
  steps = subst (λ (k : ℕ). 1 ≤ k) (sym (steps ∙ ap (λ (c : Numbers). c.steps) same)) sound.form.sized.steps.0;
  few = subst (λ (k : ℕ). k ≤ 65534) (sym (steps ∙ ap (λ (c : Numbers). c.steps) same)) sound.form.sized.steps.1;
  errors = errors;
  small = small;
  target = target;
}
