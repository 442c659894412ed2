use Rattle.std.proofs.Common.{◌<◌, ◌≤◌, ◌+◌, ◌^◌, length, take, arith, ◌∙◌, length-set}
use Rattle.std.proofs.lemmas.List.{get_or-take, length-take-le}
use Rattle.std.proofs.lemmas.List.Edits.{fill_by_more}
use Rattle.std.proofs.lemmas.List.FromFn.{fill_by_all}
use Rattle.integer_algebra.specs.Division.{ceil_div}
use Rattle.qp_model.specs.machine.Controller.{numbers}
use Rattle.qp_model.specs.machine.AbsoluteSums.{entry_absolute_sum}
use Rattle.overflow_check.specs.FastController.{with_last_version}
use Rattle.overflow_check.proofs.Greatest.{le-greatest, greatest-map_more, greatest_steps}
use Rattle.overflow_check.proofs.Sizes.{entries_le}
use Rattle.overflow_check.proofs.absolute_sums.plan_magnitudes.Goals as goal

pub returns-in_err-sum-clause-wide : goal.returns-in_err-sum-clause-wide
returns-in_err-sum-clause-wide c =
    let n = numbers c.args.c.now in
    rw c.from_residual.ensures (λ h. c.in_err-sum.ensures (omega (arith, le-greatest (entry_absolute_sum n) (length c.args.c.now.t.items) c.loop-j.j (omega arith), h)))

pub loop-j-preserved : goal.loop-j-preserved
loop-j-preserved c =
    let n = numbers c.args.c.now in
    let lt : c.loop-j.j < length c.loop-j.magnitudes = omega (arith, entries_le (with_last_version n) c.requires.sized) in
    record {
      end = c.loop-j.invariant.end;
      room = length-set c.loop-j.magnitudes c.loop-j.j c.ceil_shift.result ∙ c.loop-j.invariant.room;
      greatest = rw (c.max-greatest.ensures, c.in_ok-sum.ensures.1, greatest-map_more (entry_absolute_sum n) c.loop-j.j) (omega (arith, c.loop-j.invariant.greatest));
      magnitudes = rw (c.ceil_shift.ensures, c.in_ok-sum.ensures.1) (fill_by_more (λ k. ceil_div (entry_absolute_sum n k) (2 ^ (n.fraction_bits + n.step_exponent))) c.loop-j.magnitudes c.loop-j.j 0 lt c.loop-j.invariant.magnitudes);
    }

pub returns-clause-magnitudes : goal.returns-clause-magnitudes
returns-clause-magnitudes c =
    let n = numbers c.args.c.now in
    let nu = length c.args.c.now.t.items in
    let room : nu ≤ length c.loop-j.magnitudes = omega (arith, entries_le (with_last_version n) c.requires.sized) in
    fill_by_all (λ k. ceil_div (entry_absolute_sum n k) (2 ^ (n.fraction_bits + n.step_exponent))) (take nu c.loop-j.magnitudes) nu 0 (length-take-le nu c.loop-j.magnitudes room)
    (λ k h. rw (get_or-take nu c.loop-j.magnitudes k 0 h) (c.loop-j.invariant.magnitudes k (omega arith)))

pub returns-in_err-sum-clause-greatest : goal.returns-in_err-sum-clause-greatest
returns-in_err-sum-clause-greatest c = grind (arith, greatest_steps)

pub returns-in_err-sum-clause-magnitudes : goal.returns-in_err-sum-clause-magnitudes
returns-in_err-sum-clause-magnitudes c = grind (arith, greatest_steps)

pub overflow_add-c : goal.overflow_add-c
overflow_add-c c = grind (arith, greatest_steps)

pub returns-clause-wide : goal.returns-clause-wide
returns-clause-wide c = grind (arith, greatest_steps)

pub returns-clause-greatest : goal.returns-clause-greatest
returns-clause-greatest c = grind (arith, greatest_steps)

pub entry_absolute_sum-requires-clause-sized : goal.entry_absolute_sum-requires-clause-sized
entry_absolute_sum-requires-clause-sized c = c.requires.sized

pub entry_absolute_sum-requires-clause-states : goal.entry_absolute_sum-requires-clause-states
entry_absolute_sum-requires-clause-states c = c.requires.states

pub entry_absolute_sum-requires-clause-clamps : goal.entry_absolute_sum-requires-clause-clamps
entry_absolute_sum-requires-clause-clamps c = c.requires.clamps
