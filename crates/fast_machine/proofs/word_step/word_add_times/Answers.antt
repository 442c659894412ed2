use Rattle.std.proofs.Common.{◌≡◌, ◌≢◌, ◌<◌, ◌+ℤ◌, ◌*ℤ◌, length, pos, get_or, get_or-set_other, rules, arith, FitsSigned}
use Rattle.std.specs.Int.{w64}
use Rattle.std.proofs.lemmas.Int.{to_z-of_z}
use Rattle.std.proofs.lemmas.List.Edits.{fill_by_more}
use Rattle.std.proofs.lemmas.List.FromFn.{fill_by_all}
use Rattle.overflow_check.specs.FastMachine.{step_weight}
use Rattle.fast_machine.proofs.word_step.word_add_times.Goals as goal

pub word_added_times-requires-clause-room : goal.word_added_times-requires-clause-room
word_added_times-requires-clause-room c =
    let j = c.loop-j.j in
    let old : FitsSigned w64 (get_or c.loop-j.sums j (pos 0)) = search rules in
    let number : FitsSigned w64 (get_or c.args.numbers.now j (pos 0)) = search rules in
    let same = c.loop-j.invariant.others j (omega arith) in
    let lt : j < length c.args.numbers.now = omega (arith, c.requires.long) in
    rw (to_z-of_z w64 _ old, to_z-of_z w64 _ number, same) (c.requires.room j lt)

pub loop-j-preserved : goal.loop-j-preserved
loop-j-preserved c =
    let j = c.loop-j.j in
    let made : FitsSigned w64 c.word_added_times.result = search rules in
    let old : FitsSigned w64 (get_or c.loop-j.sums j (pos 0)) = search rules in
    let number : FitsSigned w64 (get_or c.args.numbers.now j (pos 0)) = search rules in
    let same = c.loop-j.invariant.others j (omega arith) in
    let lt : j < length c.args.numbers.now = omega (arith, c.requires.long) in
    let added : c.word_added_times.result ≡ get_or c.args.sums.now j (pos 0) +ℤ pos (step_weight c.args.k) *ℤ get_or c.args.numbers.now j (pos 0) =
    rw (to_z-of_z w64 _ old, to_z-of_z w64 _ number, same) at c.word_added_times.ensures in
    record {
      moved = rw (to_z-of_z w64 _ made, added)
          (fill_by_more (λ i. get_or c.args.sums.now i (pos 0) +ℤ pos (step_weight c.args.k) *ℤ get_or c.args.numbers.now i (pos 0)) c.loop-j.sums j (pos 0) (omega arith) c.loop-j.invariant.moved);
      others = λ i h. let ne : i ≢ j = omega arith in rw get_or-set_other (c.loop-j.invariant.others i (omega arith));
    }

pub returns : goal.returns
returns c =
    fill_by_all (λ i. get_or c.args.sums.now i (pos 0) +ℤ pos (step_weight c.args.k) *ℤ get_or c.args.numbers.now i (pos 0)) c.loop-j.sums
    (length c.args.numbers.now) (pos 0) (omega (arith, c.requires.long)) (λ i h. c.loop-j.invariant.moved i (omega (arith, c.requires.long)))
