use Rattle.std.proofs.Common.{◌^◌, ◌*ℤ◌, pos, arith, FitsSigned, sym, ◌∙◌}
use Rattle.std.specs.Int.{w64}
use Rattle.std.proofs.lemmas.Int.{to_z-of_z}
use Rattle.std.proofs.lemmas.List.{ext_get_or}
use Rattle.std.proofs.lemmas.List.Edits.{fill_by_more}
use Rattle.qp_model.specs.machine.Controller.{numbers}
use Rattle.qp_model.specs.machine.Machine.{lowering_of}
use Rattle.overflow_check.specs.FastMachine.{mean_at, means_of}
use Rattle.fast_machine.proofs.FastRuns.{means_long, mean_item}
use Rattle.fast_machine.proofs.word_step.word_means.Goals as goal

pub word_mean_at-requires : goal.word_mean_at-requires
word_mean_at-requires c = record { sound = c.requires.sound; words = c.requires.words; step = c.requires.step; ready = c.requires.ready; in_range = omega (arith, c.requires.long) }

pub loop-i-preserved : goal.loop-i-preserved
loop-i-preserved c =
    let n = numbers c.args.c.now in
    let mean : FitsSigned w64 c.word_mean_at.result = record { sfits = c.word_mean_at.type_inv } in
    let is = to_z-of_z w64 _ mean ∙ c.word_mean_at.ensures in
    rw is (fill_by_more (λ j. mean_at c.args.k c.args.multipliers.now c.args.reached.now j *ℤ pos (2 ^ lowering_of n j)) c.loop-i.means c.loop-i.i (pos 0) (omega arith) c.loop-i.invariant)

pub returns : goal.returns
returns c =
    let n = numbers c.args.c.now in
    let long = means_long n c.args.k c.args.multipliers.now c.args.reached.now in
    ext_get_or (pos 0) c.loop-i.means (means_of n c.args.k c.args.multipliers.now c.args.reached.now) (omega (arith, long, c.requires.long))
    (λ j h. c.loop-i.invariant j (omega (arith, h, c.requires.long)) ∙ sym (mean_item n c.args.k c.args.multipliers.now c.args.reached.now j (omega (arith, h, c.requires.long))))
