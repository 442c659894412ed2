use Rattle.std.proofs.Common.{◌^◌, ◌+◌, length, arith, refl}
use Rattle.std.proofs.lemmas.List.FromFn.{get_or-map-range_with_len}
use Rattle.integer_algebra.specs.Division.{ceil_div}
use Rattle.qp_model.specs.machine.Controller.{numbers}
use Rattle.qp_model.specs.machine.AbsoluteSums.{entry_absolute_sum}
use Rattle.std.proofs.lemmas.Grind.{common_steps}
use Rattle.overflow_check.specs.FastController.{with_last_version}
use Rattle.overflow_check.proofs.SumLaws.{sums_fit}
use Rattle.overflow_check.proofs.absolute_sums.plan_entry_magnitude.Goals as goal

pub unreachable-requires : goal.unreachable-requires
unreachable-requires c =
    c.in-None.ensures ((sums_fit (with_last_version (numbers c.args.parts.now)) (2 ^ 126) c.requires.sound.room).entries c.args.j c.requires.in_range)

pub returns : goal.returns
returns c =
    let n = numbers c.args.parts.now in
    rw (
      c.ceil_shift.ensures,
      c.in-Some.ensures.1,
      get_or-map-range_with_len (λ j. ceil_div (entry_absolute_sum n j) (2 ^ (n.fraction_bits + n.step_exponent))) 0 (length c.args.parts.now.t.items) c.args.j c.args.j 0 c.requires.in_range (omega arith),
    ) refl

pub overflow_add-parts : goal.overflow_add-parts
overflow_add-parts c = grind (arith, common_steps)

pub entry_absolute_sum-requires-clause-in_range : goal.entry_absolute_sum-requires-clause-in_range
entry_absolute_sum-requires-clause-in_range c = c.requires.in_range
