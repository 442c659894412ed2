use Rattle.std.proofs.Common.{◌≡◌, ◌≢◌, ◌<◌, length, pos, get_or, get_or-set_other, rules, arith, FitsSigned}
use Rattle.std.specs.Int.{w64}
use Rattle.std.proofs.lemmas.Int.{to_z-of_z}
use Rattle.std.proofs.lemmas.List.Edits.{fill_by_more}
use Rattle.std.proofs.lemmas.List.FromFn.{fill_by_all}
use Rattle.qp_model.specs.machine.Controller.{numbers}
use Rattle.overflow_check.specs.FastMachine.{step_weight, moved_multiplier}
use Rattle.fast_machine.proofs.word_step.word_rows.Goals as goal

pub word_moved_at-requires-clause-old : goal.word_moved_at-requires-clause-old
word_moved_at-requires-clause-old c =
    let i = c.loop-i.i in
    let old : FitsSigned w64 (get_or c.loop-i.multipliers i (pos 0)) = search rules in
    let same = c.loop-i.invariant.others i (omega arith) in
    rw (to_z-of_z w64 _ old, same) (c.requires.up i (omega (arith, c.requires.long)))

pub loop-i-preserved : goal.loop-i-preserved
loop-i-preserved c =
    let n = numbers c.args.c.now in
    let i = c.loop-i.i in
    let made : FitsSigned w64 c.word_moved_at.result = search rules in
    let old : FitsSigned w64 (get_or c.loop-i.multipliers i (pos 0)) = search rules in
    let lt : i < length c.loop-i.multipliers = omega arith in
    let same = c.loop-i.invariant.others i (omega arith) in
    let moved : c.word_moved_at.result ≡ moved_multiplier n c.args.state.now c.args.plan.now (step_weight c.args.k) (get_or c.args.multipliers.now i (pos 0)) i =
    rw (to_z-of_z w64 _ old, same) at c.word_moved_at.ensures in
    record {
      moved = rw (to_z-of_z w64 _ made, moved)
          (fill_by_more (λ j. moved_multiplier n c.args.state.now c.args.plan.now (step_weight c.args.k) (get_or c.args.multipliers.now j (pos 0)) j) c.loop-i.multipliers i (pos 0) lt c.loop-i.invariant.moved);
      others = λ j h. let ne : j ≢ i = omega arith in rw get_or-set_other (c.loop-i.invariant.others j (omega arith));
    }

pub returns : goal.returns
returns c =
    fill_by_all (λ j. moved_multiplier (numbers c.args.c.now) c.args.state.now c.args.plan.now (step_weight c.args.k) (get_or c.args.multipliers.now j (pos 0)) j) c.loop-i.multipliers
    (length c.args.c.now.bound.items) (pos 0) (omega (arith, c.requires.long)) (λ j h. c.loop-i.invariant.moved j (omega (arith, c.requires.long)))
