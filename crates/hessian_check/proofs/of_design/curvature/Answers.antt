use Rattle.std.proofs.Common.{inr, ◌^◌, ◌<◌, ◌≤◌, arith, rules, true, IsTrue, refl}
use Rattle.std.proofs.lemmas.Result.{err_from_is_err_and}
use Rattle.qp_model.specs.declared.design_parts.DesignParts.{DesignParts}
use Rattle.qp_model.specs.form.Class.{CoversSquares, curvature_quantity}
use Rattle.qp_model.specs.form.FineSizes.{is_fine}
use Rattle.qp_model.specs.problem.Parts.{design_of}
use Rattle.condensed_form.specs.Form.{IsFormOf}
use Rattle.condensed_form.proofs.LeastLaws.{few}
use Rattle.hessian_check.proofs.ExponentLaws.{step_law}
use Rattle.hessian_check.proofs.RowLaws.{not_true}
use Rattle.hessian_check.proofs.StepAnswers.{Chosen, accepted_of, chosen_of, every_of, exponents_of, memory_is, memory_refused, order_of, plain_of, refused_of, room_of, step_of, wide_every, wide_of, wide_refused}
use Rattle.hessian_check.proofs.of_design.curvature.Goals as goal

pub exponents_of-requires-clause-small : goal.exponents_of-requires-clause-small
exponents_of-requires-clause-small c =
    let d = design_of c.requires.parts in
    few (CoversSquares d) c.squares_exponent-squares.result (c.squares_exponent-squares.ensures (is_fine d) c.requires.parts c.requires.form)

pub exponents_of-requires-clause-room : goal.exponents_of-requires-clause-room
exponents_of-requires-clause-room c =
    let p = c.requires.parts in
    let f = c.requires.form in
    let d = design_of p in
    let t : IsTrue true = search rules in
    room_of d c.in_ok-matrices.matrices c.squares_exponent-squares.result (c.in_ok-matrices.ensures (is_fine d) p f) (c.squares_exponent-squares.ensures (is_fine d) p f)
    ((c.if-not-is_curvature_limited.ensures (is_fine d) p f).0 t)

-- ---- what is known of the design that the form is of
chosen : (c : goal.After-drop-matrices-2) (p : DesignParts) → IsFormOf p c.args.c.now → Chosen (design_of p) c.in_ok-matrices.matrices c.squares_exponent-squares.result
chosen c p f = let d = design_of p in
    chosen_of p c.args.c.now f c.in_ok-matrices.matrices c.squares_exponent-squares.result (c.in_ok-matrices.ensures (is_fine d) p f) (c.squares_exponent-squares.ensures (is_fine d) p f)

narrow : (c : goal.After-drop-matrices-2) (p : DesignParts) → IsFormOf p c.args.c.now → curvature_quantity (design_of p) ≤ 2 ^ 126
narrow c p f = let t : IsTrue true = search rules in (c.if-not-is_curvature_limited.ensures (is_fine (design_of p)) p f).0 t

too_wide : (c : goal.Then-not-is_curvature_limited) (p : DesignParts) → IsFormOf p c.args.c.now → 2 ^ 126 < curvature_quantity (design_of p)
too_wide c p f = wide_of (design_of p) (λ h. not_true ((c.if-not-is_curvature_limited.ensures (is_fine (design_of p)) p f).1 h))

pub returns-then-not-is_curvature_limited-clause-refused : goal.returns-then-not-is_curvature_limited-clause-refused
returns-then-not-is_curvature_limited-clause-refused c = λ p f. wide_refused (design_of p) (too_wide c p f) _ refl

pub returns-then-not-is_curvature_limited-clause-every_refusal : goal.returns-then-not-is_curvature_limited-clause-every_refusal
returns-then-not-is_curvature_limited-clause-every_refusal c = λ p f. wide_every (design_of p) (too_wide c p f) _ refl

pub returns-then-not-is_curvature_limited-clause-accepted : goal.returns-then-not-is_curvature_limited-clause-accepted
returns-then-not-is_curvature_limited-clause-accepted c = λ p f s1 l k m. absurd (omega (arith, too_wide c p f, l))

pub returns-in_err-matrices-clause-refused : goal.returns-in_err-matrices-clause-refused
returns-in_err-matrices-clause-refused c = λ p f.
    let y = err_from_is_err_and c.from_residual.result c.from_residual.ensures.1 in
    memory_refused (design_of p) c.from_residual.result (memory_is c.from_residual.result y.0 y.1 y.2)

pub returns-in_err-matrices-clause-every_refusal : goal.returns-in_err-matrices-clause-every_refusal
returns-in_err-matrices-clause-every_refusal c = λ p f e k.
    let y = err_from_is_err_and c.from_residual.result c.from_residual.ensures.1 in
    inr (memory_is c.from_residual.result y.0 y.1 y.2)

pub returns-in_err-matrices-clause-accepted : goal.returns-in_err-matrices-clause-accepted
returns-in_err-matrices-clause-accepted c = λ p f s1 l k m.
    let y = err_from_is_err_and c.from_residual.result c.from_residual.ensures.1 in
    inr (memory_is c.from_residual.result y.0 y.1 y.2)

pub returns-in_err-matrices-clause-wide : goal.returns-in_err-matrices-clause-wide
returns-in_err-matrices-clause-wide c = λ p f w.
    let d = design_of p in
    let t : IsTrue true = search rules in
    let l = (c.if-not-is_curvature_limited.ensures (is_fine d) p f).0 t in
    absurd (omega (arith, w, l))

pub returns-clause-plain : goal.returns-clause-plain
returns-clause-plain c = λ p f. plain_of (design_of p) c.in_ok-matrices.matrices c.squares_exponent-squares.result c.exponents_of.result (chosen c p f) c.exponents_of.ensures

pub returns-clause-certified : goal.returns-clause-certified
returns-clause-certified c = λ p f. step_of (design_of p) c.in_ok-matrices.matrices c.squares_exponent-squares.result c.exponents_of.result (chosen c p f) c.exponents_of.ensures

pub returns-clause-exponents : goal.returns-clause-exponents
returns-clause-exponents c = λ p f. exponents_of step_law p c.args.c.now f c.exponents_of.result (returns-clause-plain c p f) (returns-clause-certified c p f)

pub returns-clause-order : goal.returns-clause-order
returns-clause-order c =
    let p = c.requires.parts in
    let f = c.requires.form in
    order_of (design_of p) c.in_ok-matrices.matrices c.squares_exponent-squares.result c.exponents_of.result (chosen c p f) c.exponents_of.ensures

pub returns-clause-refused : goal.returns-clause-refused
returns-clause-refused c = λ p f. refused_of (design_of p) c.in_ok-matrices.matrices c.squares_exponent-squares.result c.exponents_of.result (chosen c p f) (narrow c p f) c.exponents_of.ensures

pub returns-clause-every_refusal : goal.returns-clause-every_refusal
returns-clause-every_refusal c = λ p f. every_of (design_of p) c.in_ok-matrices.matrices c.squares_exponent-squares.result c.exponents_of.result (chosen c p f) (narrow c p f) c.exponents_of.ensures

pub returns-clause-accepted : goal.returns-clause-accepted
returns-clause-accepted c = λ p f s1 l. accepted_of (design_of p) c.in_ok-matrices.matrices c.squares_exponent-squares.result c.exponents_of.result (chosen c p f) c.exponents_of.ensures s1

pub returns-clause-wide : goal.returns-clause-wide
returns-clause-wide c = λ p f w. absurd (omega (arith, w, narrow c p f))
