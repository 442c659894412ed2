use Rattle.std.proofs.Common.{length, pos, arith, FitsSigned, ◌∙◌}
use Rattle.std.specs.Int.{w128}
use Rattle.std.proofs.lemmas.Int.{to_z-of_z}
use Rattle.std.proofs.lemmas.List.FromFn.{fill_by_all}
use Rattle.qp_model.specs.machine.Controller.{numbers}
use Rattle.qp_model.specs.machine.Machine.{plan_entry}
use Rattle.qp_model.proofs.MagnitudeLaws.{plan_within}
use Rattle.fixed_kernel.proofs.Copies.{filled_more}
use Rattle.fixed_kernel.proofs.step.make_plan.Goals as goal

pub entry_at-requires : goal.entry_at-requires
entry_at-requires c = record { setting = c.requires.setting; multipliers = c.requires.multipliers; in_range = omega (arith, c.requires.plan) }

pub loop-j-preserved : goal.loop-j-preserved
loop-j-preserved c =
    let entry : FitsSigned w128 c.entry_at.result = record { sfits = c.entry_at.type_inv } in
    filled_more (plan_entry (numbers c.args.c.now) c.args.state.now c.args.multipliers.now) _ _ _ (omega arith) (to_z-of_z w128 _ entry ∙ c.entry_at.ensures) c.loop-j.invariant

pub returns-clause-value : goal.returns-clause-value
returns-clause-value c =
    fill_by_all (plan_entry (numbers c.args.c.now) c.args.state.now c.args.multipliers.now) c.loop-j.plan (length c.args.c.now.t.items) (pos 0) (omega arith) (λ k h. c.loop-j.invariant k (omega arith))

pub returns-clause-within : goal.returns-clause-within
returns-clause-within c =
    rw (fill_by_all (plan_entry (numbers c.args.c.now) c.args.state.now c.args.multipliers.now) c.loop-j.plan (length c.args.c.now.t.items) (pos 0) (omega arith) (λ k h. c.loop-j.invariant k (omega arith)))
    (plan_within (numbers c.args.c.now) c.args.state.now c.args.multipliers.now c.requires.setting.state c.requires.multipliers)
