-- Forms that agree number by number have the same sums of a run.
use Rattle.std.proofs.Common.{◌≡◌, ℕ, ◌+◌, ◌-◌, ◌*◌, ◌^◌, ◌<◌, ◌≤◌, Bool, Option, Some, None, List, slice_index_or, sym, subst, ◌∙◌}
use Rattle.std.specs.Prelude.{IfOk}
use Rattle.std.specs.Option.{MatchOption, ok_or}
use Rattle.integer_algebra.specs.Division.{ceil_div}
use Rattle.integer_algebra.proofs.SizeLaws.{amount_same}
use Rattle.qp_model.specs.problem.Design.{Design, entries}
use Rattle.qp_model.specs.form.Form.{Form, IsFormFor, HaveSameNumbers, farthest}
use Rattle.qp_model.specs.form.Quantities.{input_floor}
use Rattle.qp_model.specs.declared.design_parts.DesignParts.{DesignParts}
use Rattle.qp_model.specs.declared.quantity.Wide.{Wide}
use Rattle.qp_model.specs.problem.Parts.{IsDesign, design_of}
use Rattle.qp_model.specs.form.Class.{form_in}
use Rattle.qp_model.specs.bounds.Errors as errors
use Rattle.qp_model.specs.bounds.Errors.{error_sums_of, error_size}
use Rattle.condensed_form.specs.Form.{IsFormIn, held}
use Rattle.condensed_form.specs.declared.condensed.Condensed.{Condensed}
use Rattle.step_error.specs.declared.sums.ErrorSums.{ErrorSums}
use Rattle.step_error.specs.ErrorSums.{AreSums, sums_of, size_by}
use Rattle.step_error.specs.CarriedErrors.{carry_of, mean_error, carried_times, run_sums_of}
use Rattle.step_error.specs.RunSums.{mean_squares, run_error_size}
use Rattle.step_error.proofs.SameSums.{amount_over, error, pulled, sums_same, size_same}
use Rattle.step_error.proofs.SumFacts.{within_of}
use Rattle.step_error.proofs.RunLaws.{run_sums_given}

module _ (d : Design) (h k : Form) (same : HaveSameNumbers h k) (count : k.entries ≡ entries d) (r n s : ℕ) (exponents : List ℕ) where
  pub mean : (j : ℕ) → j < k.entries → mean_error h s exponents j ≡ mean_error k s exponents j
  mean j l = λ t. ceil_div (amount_over h.rows k.rows
      (λ i. 2 ^ (s - slice_index_or exponents i 0) * farthest (h.numbers.by_plan i j) (h.plan_radius i j))
      (λ i. 2 ^ (s - slice_index_or exponents i 0) * farthest (k.numbers.by_plan i j) (k.plan_radius i j)) same.rows
      (λ i m q. 2 ^ (s - slice_index_or exponents i 0) * farthest (same.by_plan i j m l q) (same.plan_radius i j m l q)) t) (2 ^ s * same.rows_scale t)

  squares : mean_squares d h r s exponents ≡ mean_squares d k r s exponents
  squares = amount_same (entries d) _ _ (λ j l t. (error d h k same count r j (rw count l) t + mean j (rw count l) t) ^ 2)

  pub run_sums_same : run_sums_of d h r n s exponents ≡ run_sums_of d k r n s exponents
  run_sums_same = λ t. carried_times (carry_of n) (ceil_div (d.cost_denominator * squares t) (2 * input_floor d)) (sums_same d h k same count r t)

  pub run_size_same : run_error_size d h r n s exponents ≡ run_error_size d k r n s exponents
  run_size_same = λ t. size_by (d.cost_denominator * squares t) (pulled d h k same count r t) (run_sums_same t)

-- ---- a form's sums, and those of the numbers held
-- a step's sums by a form, which fit
abbrev pub IsStepBy : DesignParts → Form → ErrorSums → ℕ → Type 0
IsStepBy p h e r = (sums_of e ≡ error_sums_of (design_of p) h r) × (error_size (design_of p) h r ≤ 2 ^ 126)

pub held_step : (fine : Bool) (c : Condensed) (e : ErrorSums) (p q : DesignParts) (n m : ℕ) → IsFormIn fine q c → p ≡ q → n ≡ m →
    IsStepBy q (form_in fine (design_of q)) e m → IsStepBy p (held c) e n
held_step fine c e p q n m is f g step =
    let d = design_of q in
    let count = is.encloses.encloses.entry_count in
    subst (λ k. IsStepBy p (held c) e k) (sym g) (subst (λ k. IsStepBy k (held c) e m) (sym f)
    (step.0 ∙ sym (sums_same d (held c) (form_in fine d) is.same count m), within_of (size_same d (held c) (form_in fine d) is.same count m) step.1))

-- the sums of a run are given exactly where `error` is within its limit
abbrev pub SomeRun : Option ErrorSums → Design → Form → (r n s : ℕ) → List ℕ → Type 0
SomeRun o d h r n s exponents =
    MatchOption o (¬ (run_error_size d h r n s exponents ≤ 2 ^ 126)) (λ e. (run_error_size d h r n s exponents ≤ 2 ^ 126) × (sums_of e ≡ run_sums_of d h r n s exponents))

pub run_resumed : (fine : Bool) (c : Condensed) (o : Option ErrorSums) (p q : DesignParts) (a b n s : ℕ) (exponents : List ℕ) → IsFormIn fine q c → p ≡ q → a ≡ b →
    SomeRun o (design_of p) (held c) a n s exponents → SomeRun o (design_of q) (form_in fine (design_of q)) b n s exponents
run_resumed fine c o p q a b n s exponents is f g h =
    let d = design_of q in
    let count = is.encloses.encloses.entry_count in
    subst (λ (v : ℕ × errors.ErrorSums). MatchOption o (¬ (v.0 ≤ 2 ^ 126)) (λ e. (v.0 ≤ 2 ^ 126) × (sums_of e ≡ v.1)))
    (λ i. (run_size_same d (held c) (form_in fine d) is.same count b n s exponents i, run_sums_same d (held c) (form_in fine d) is.same count b n s exponents i))
    (subst (λ k. SomeRun o d (held c) k n s exponents) g (subst (λ k. SomeRun o (design_of k) (held c) a n s exponents) f h))

pub run_given : (o : Option ErrorSums) (w : Wide) (p : DesignParts) (h : Form) (r n s : ℕ) (exponents : List ℕ) → IsDesign p → IsFormFor (design_of p) h → 1 ≤ r → n ≤ 2 ^ 32 →
    SomeRun o (design_of p) h r n s exponents → IfOk (ok_or o w) (λ e. AreSums e)
run_given None w p h r n s exponents design form some few k = tt
run_given (Some x) w p h r n s exponents design form some few k = run_sums_given x p h r n s exponents design form some few k.1 k.0
