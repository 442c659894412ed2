-- From an option of sums to the answer that is given.
use Rattle.std.proofs.Common.{◌≡◌, ℕ, ◌^◌, ◌≤◌, ℤ, pos, ◌≤ℤ◌, unsigned_abs, Option, Some, None, Bool, arith, sym, subst}
use Rattle.std.proofs.lemmas.Int.{ints}
use Rattle.std.specs.Prelude.{IfOk, IfErr}
use Rattle.std.specs.Option.{MatchOption, ok_or}
use Rattle.std.specs.Result.{MatchResult}
use Rattle.qp_model.specs.declared.design_parts.DesignParts.{DesignParts}
use Rattle.qp_model.specs.declared.quantity.Wide.{Wide}
use Rattle.qp_model.specs.declared.quantity.Quantity.TheVariants.{Error}
use Rattle.qp_model.specs.problem.Design.{Design}
use Rattle.qp_model.specs.problem.Parts.{IsDesign, design_of}
use Rattle.qp_model.specs.form.Form.{Form, IsFormFor}
use Rattle.qp_model.specs.form.Class.{form_in}
use Rattle.qp_model.specs.bounds.Errors as errors
use Rattle.qp_model.specs.bounds.Errors.{error_sums_of, error_size}
use Rattle.condensed_form.specs.Form.{IsFormIn, IsFormOf, held}
use Rattle.condensed_form.specs.declared.condensed.Condensed.{Condensed}
use Rattle.step_error.specs.declared.sums.ErrorSums.{ErrorSums}
use Rattle.step_error.specs.ErrorSums.{AreSums, sums_of}
use Rattle.step_error.proofs.SumFacts.{step_sums}
use Rattle.step_error.proofs.SameSums.{sums_same, size_same}

-- a size and sums
abbrev Sums : Type 0
Sums = ℕ × errors.ErrorSums

-- they are given exactly where `error` is within its limit
abbrev pub SomeSums : Option ErrorSums → Design → Form → ℕ → Type 0
SomeSums o d h r = MatchOption o (¬ (error_size d h r ≤ 2 ^ 126)) (λ e. (error_size d h r ≤ 2 ^ 126) × (sums_of e ≡ error_sums_of d h r))

pub valued : (o : Option ErrorSums) (w : Wide) (P : Type 0) (Q : ErrorSums → Type 0) → MatchOption o (¬ P) Q → MatchResult (ok_or o w) Q (λ e. ¬ P)
valued None w P Q h = h
valued (Some x) w P Q h = h

pub given : (o : Option ErrorSums) (w : Wide) (p : DesignParts) (h : Form) (r : ℕ) → IsDesign p → IsFormFor (design_of p) h → 1 ≤ r →
    SomeSums o (design_of p) h r → IfOk (ok_or o w) (λ e. AreSums e)
given None w p h r design form some k = tt
given (Some x) w p h r design form some k = step_sums x p h r design form some k.1 k.0

pub named : (o : Option ErrorSums) (w : Wide) → w.0 ≡ Error → IfErr (ok_or o w) (λ e. e.0 ≡ Error)
named None w e = e
named (Some x) w e = tt

pub some_size : (z : ℤ) (n : ℕ) → n ≡ unsigned_abs z → pos 1 ≤ℤ z → 1 ≤ n
some_size z n e h = omega (arith, ints, e, h)

pub size_within : (z : ℤ) (n k : ℕ) → n ≡ unsigned_abs z → pos 1 ≤ℤ z → z ≤ℤ pos k → n ≤ k
size_within z n k e h l = omega (arith, ints, e, h, l)

-- the same at numbers that are equal, for the form that the numbers held are
pub resumed : (fine : Bool) (c : Condensed) (o : Option ErrorSums) (p q : DesignParts) (n m : ℕ) → IsFormIn fine q c → p ≡ q → n ≡ m →
    SomeSums o (design_of p) (held c) n → SomeSums o (design_of q) (form_in fine (design_of q)) m
resumed fine c o p q n m is e g h =
    let d = design_of q in
    let count = is.encloses.encloses.entry_count in
    subst (λ (v : Sums). MatchOption o (¬ (v.0 ≤ 2 ^ 126)) (λ e. (v.0 ≤ 2 ^ 126) × (sums_of e ≡ v.1)))
    (λ i. (size_same d (held c) (form_in fine d) is.same count m i, sums_same d (held c) (form_in fine d) is.same count m i))
    (subst (λ k. SomeSums o d (held c) k) g (subst (λ b. SomeSums o (design_of b) (held c) n) e h))

pub same_form : (c : Condensed) (p q : DesignParts) → p ≡ q → IsFormOf q c → IsFormOf p c
same_form c p q e is = subst (λ k. IsFormOf k c) (sym e) is
