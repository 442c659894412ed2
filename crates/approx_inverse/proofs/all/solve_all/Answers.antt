use Rattle.std.proofs.Common.{ℕ, ◌≤◌, ◌<◌, ◌^◌}
use Rattle.std.specs.Prelude.{Result, OnOk, IfOk, IfErr}
use Rattle.qp_model.specs.declared.design_parts.DesignParts.{DesignParts}
use Rattle.qp_model.specs.problem.Parts.{design_of}
use Rattle.qp_model.specs.form.Class.{form_of}
use Rattle.qp_model.specs.form.Columns.{descent_size}
use Rattle.condensed_form.specs.Form.{IsFormOf, held}
use Rattle.condensed_form.specs.declared.condensed.Condensed.{Condensed}
use Rattle.approx_inverse.specs.Inverse.{SolvesForm}
use Rattle.approx_inverse.specs.Fault.{IsFault}
use Rattle.qp_model.specs.declared.size_fault.SizeFault.{SizeFault}
use Rattle.approx_inverse.specs.declared.inverse.Inverse.{Inverse}
use Rattle.approx_inverse.proofs.DesignLaws.{solvable_from, descent_equal, inverse_from}
use Rattle.approx_inverse.proofs.FormLaws.{fault_gives, if_err, if_ok, ok_gives, refusal_of, room_from}
use Rattle.approx_inverse.proofs.all.solve_all.Goals as goal

-- what the solutions of the numbers say of a design that they are the form of
fits_for : (r : Result Inverse SizeFault) (p : DesignParts) (c : Condensed) (f : ℕ) → IsFormOf p c → IfOk r (SolvesForm (held c) f) →
    OnOk r (descent_size (form_of (design_of p)) f ≤ 2 ^ 126)
fits_for r p c f is = ok_gives r (λ v solves. rw (← (descent_equal p c f is)) (room_from (held c) f v (solvable_from p c is).convex.positive solves))

wide_for : (r : Result Inverse SizeFault) (p : DesignParts) (c : Condensed) (f : ℕ) → IsFormOf p c → IfErr r (λ e. IsFault e (2 ^ 126 < descent_size (held c) f)) →
    IfErr r (λ e. IsFault e (2 ^ 126 < descent_size (form_of (design_of p)) f))
wide_for r p c f is = if_err r (λ e. fault_gives e (λ wide. rw (← (descent_equal p c f is)) wide))

pub solve_form-requires-clause-solvable : goal.solve_form-requires-clause-solvable
solve_form-requires-clause-solvable c = solvable_from c.requires.form.parts c.args.c.now c.requires.form.form

pub returns-clause-solved : goal.returns-clause-solved
returns-clause-solved c = if_ok c.solve_form.result (λ v solves p is. inverse_from p c.args.c.now c.args.f v is solves) c.solve_form.ensures.solved

pub returns-clause-fits : goal.returns-clause-fits
returns-clause-fits c = ok_gives c.solve_form.result
    (λ v solves p is. rw (← (descent_equal p c.args.c.now c.args.f is)) (room_from (held c.args.c.now) c.args.f v (solvable_from p c.args.c.now is).convex.positive solves))
    c.solve_form.ensures.solved

pub returns-clause-wide : goal.returns-clause-wide
returns-clause-wide c = if_err c.solve_form.result
    (λ e fault p is. fault_gives e (λ wide. rw (← (descent_equal p c.args.c.now c.args.f is)) wide) fault) c.solve_form.ensures.wide

pub returns-clause-every_refusal : goal.returns-clause-every_refusal
returns-clause-every_refusal c = λ p is. refusal_of c.solve_form.result (descent_size (form_of (design_of p)) c.args.f)
    (fits_for c.solve_form.result p c.args.c.now c.args.f is c.solve_form.ensures.solved) (wide_for c.solve_form.result p c.args.c.now c.args.f is c.solve_form.ensures.wide)
