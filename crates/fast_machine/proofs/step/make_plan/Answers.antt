use Rattle.std.proofs.Common.{length, pos, arith, FitsSigned, ◌∙◌}
use Rattle.std.specs.Int.{w128}
use Rattle.std.proofs.lemmas.Int.{to_z-of_z}
use Rattle.std.proofs.lemmas.List.Edits.{fill_by_more}
use Rattle.std.proofs.lemmas.List.FromFn.{fill_by_all}
use Rattle.qp_model.specs.machine.Controller.{numbers}
use Rattle.qp_model.specs.machine.Machine.{plan_entry}
use Rattle.qp_model.proofs.MagnitudeLaws.{plan_within}
use Rattle.fast_machine.proofs.step.make_plan.Goals as goal

pub loop-j-preserved : goal.loop-j-preserved
loop-j-preserved c =
    let entry : FitsSigned w128 c.entry_at.result = record { sfits = c.entry_at.type_inv } in
    let is = to_z-of_z w128 _ entry ∙ c.entry_at.ensures in
    rw is (fill_by_more (plan_entry (numbers c.args.c.now) c.args.state.now c.args.means.now) c.loop-j.plan c.loop-j.j (pos 0) (omega arith) c.loop-j.invariant)

pub returns-clause-value : goal.returns-clause-value
returns-clause-value c =
    fill_by_all (plan_entry (numbers c.args.c.now) c.args.state.now c.args.means.now) c.loop-j.plan (length c.args.c.now.t.items) (pos 0) (omega arith) (λ k h. c.loop-j.invariant k (omega arith))

pub returns-clause-within : goal.returns-clause-within
returns-clause-within c =
    rw (fill_by_all (plan_entry (numbers c.args.c.now) c.args.state.now c.args.means.now) c.loop-j.plan (length c.args.c.now.t.items) (pos 0) (omega arith) (λ k h. c.loop-j.invariant k (omega arith)))
    (plan_within (numbers c.args.c.now) c.args.state.now c.args.means.now c.requires.setting.within c.requires.means)
