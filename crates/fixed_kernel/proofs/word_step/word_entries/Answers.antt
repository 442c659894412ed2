use Rattle.std.proofs.Common.{length, pos, arith, FitsSigned, ◌∙◌}
use Rattle.std.specs.Int.{w64}
use Rattle.std.proofs.lemmas.Int.{to_z-of_z}
use Rattle.std.proofs.lemmas.List.FromFn.{fill_by_all}
use Rattle.qp_model.specs.machine.Controller.{numbers}
use Rattle.qp_model.specs.machine.Machine.{plan_entry}
use Rattle.fixed_kernel.proofs.Copies.{filled_more}
use Rattle.fixed_kernel.proofs.word_step.word_entries.Goals as goal

pub word_entry_at-requires : goal.word_entry_at-requires
word_entry_at-requires c = record { setting = c.requires.setting; half = c.requires.half; bases = c.requires.bases; multipliers = c.requires.multipliers; in_range = omega (arith, c.requires.plan) }

pub loop-j-preserved : goal.loop-j-preserved
loop-j-preserved c =
    let entry : FitsSigned w64 c.word_entry_at.result = record { sfits = c.word_entry_at.type_inv } in
    filled_more (plan_entry (numbers c.args.c.now) c.args.state.now c.args.multipliers.now) _ _ _ (omega arith) (to_z-of_z w64 _ entry ∙ c.word_entry_at.ensures) c.loop-j.invariant

pub returns : goal.returns
returns c =
    fill_by_all (plan_entry (numbers c.args.c.now) c.args.state.now c.args.multipliers.now) c.loop-j.plan (length c.args.c.now.t.items) (pos 0) (omega arith) (λ k h. c.loop-j.invariant k (omega arith))
