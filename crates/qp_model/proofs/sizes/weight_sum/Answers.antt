use Rattle.std.proofs.Common.{ℕ, ◌+◌, ◌*◌, ◌^◌, ◌<◌, ◌≤◌, unsigned_abs, ap, arith, rules, FitsSigned, refl, ◌∙◌}
use Rattle.std.specs.Int.{w128}
use Rattle.std.proofs.lemmas.Int.{ints, to_z-of_z}
use Rattle.std.proofs.Math.Nat.{mul-le-mul}
use Rattle.qp_model.proofs.VersionLaws.{design_states_le, design_stages_le}
use Rattle.qp_model.proofs.SizeFacts.{numerator_entry, positive_row}
use Rattle.qp_model.proofs.sizes.weight_sum.Goals as goal

staged : (stages stage inputs : ℕ) → stages ≤ 30 → stage ≤ 2 ^ 31 * 12 → inputs ≤ 2 ^ 31 * 3 → stages * (stage + inputs) ≤ 30 * (2 ^ 31 * 15)
staged stages stage inputs n s i =
    let both : stage + inputs ≤ 2 ^ 31 * 15 = omega (arith, s, i) in
    mul-le-mul n both

small : (den stages stage inputs final : ℕ) → den ≤ 2 ^ 20 → stages ≤ 30 → stage ≤ 2 ^ 31 * 12 → inputs ≤ 2 ^ 31 * 3 → final ≤ 2 ^ 31 * 12
    → den + stages * (stage + inputs) + final < 2 ^ 64
small den stages stage inputs final d n s i f =
    omega (arith, d, f, staged stages stage inputs n s i)

pub returns-clause-small : goal.returns-clause-small
returns-clause-small c =
    let p = c.args.parts.now in
    let fits : FitsSigned w128 p.cost_den = search rules in
    let den : c.unsigned_abs.result ≤ 2 ^ 20 = omega (arith, ints, c.unsigned_abs.ensures.value ∙ ap unsigned_abs (to_z-of_z w128 _ fits), c.requires.cost_den.low, c.requires.cost_den.high) in
    small _ p.stages _ _ _ den (design_stages_le p c.requires)
    (omega (arith, c.column_sum.ensures.small, c.requires.stage_cost.rows.1))
    (omega (arith, c.absolute_sum.ensures.small, c.deref.ensures.len, c.requires.input_count, c.requires.inputs.1))
    (omega (arith, c.column_sum-2.ensures.small, c.requires.final_cost.rows.1))

pub column_sum-requires-clause-numerators : goal.column_sum-requires-clause-numerators
column_sum-requires-clause-numerators c = λ r l. numerator_entry c.args.parts.now.stage_cost c.requires.stage_cost.numbers r (c.args.parts.now.states + 1) l

pub column_sum-requires-2-clause-numerators : goal.column_sum-requires-2-clause-numerators
column_sum-requires-2-clause-numerators c = λ r l. numerator_entry c.args.parts.now.final_cost c.requires.final_cost.numbers r (c.args.parts.now.states + 1) l

pub returns-clause-sum : goal.returns-clause-sum
returns-clause-sum c =
    let fits : FitsSigned w128 c.args.parts.now.cost_den = search rules in
    rw (
      c.unsigned_abs.ensures.value,
      to_z-of_z w128 _ fits,
      c.column_sum.ensures.sum,
      c.absolute_sum.ensures.sum,
      c.deref.ensures.value,
      c.requires.input_count,
      c.column_sum-2.ensures.sum,
    ) refl

pub returns-clause-some : goal.returns-clause-some
returns-clause-some c =
    let fits : FitsSigned w128 c.args.parts.now.cost_den = search rules in
    let den : 1 ≤ c.unsigned_abs.result = omega (arith, ints, c.unsigned_abs.ensures.value ∙ ap unsigned_abs (to_z-of_z w128 _ fits), c.requires.cost_den.low) in
    omega (arith, den)

pub overflow_add-column : goal.overflow_add-column
overflow_add-column c = record { fits = omega (arith, design_states_le c.args.parts.now c.requires) }

pub column_sum-requires-clause-few : goal.column_sum-requires-clause-few
column_sum-requires-clause-few c = omega (arith, c.requires.stage_cost.rows.1)

pub column_sum-requires-clause-column : goal.column_sum-requires-clause-column
column_sum-requires-clause-column c = omega (arith, c.requires.stage_cost.cols)

pub column_sum-requires-2-clause-few : goal.column_sum-requires-2-clause-few
column_sum-requires-2-clause-few c = omega (arith, c.requires.final_cost.rows.1)

pub column_sum-requires-2-clause-column : goal.column_sum-requires-2-clause-column
column_sum-requires-2-clause-column c = omega (arith, c.requires.final_cost.cols)

pub absolute_sum-requires-clause-few : goal.absolute_sum-requires-clause-few
absolute_sum-requires-clause-few c = omega (arith, c.deref.ensures.len, c.requires.input_count, c.requires.inputs.1)

pub absolute_sum-requires-clause-numerators : goal.absolute_sum-requires-clause-numerators
absolute_sum-requires-clause-numerators c = positive_row _ _ c.deref.ensures.value c.requires.input_weights

pub overflow_add-stage : goal.overflow_add-stage
overflow_add-stage c = record {
  fits = omega (arith, c.column_sum.ensures.small, c.requires.stage_cost.rows.1, c.absolute_sum.ensures.small, c.deref.ensures.len, c.requires.input_count, c.requires.inputs.1);
}

pub overflow_mul-result : goal.overflow_mul-result
overflow_mul-result c = record {
  fits = omega (
    arith,
    staged c.args.parts.now.stages c.column_sum.result c.absolute_sum.result (design_stages_le c.args.parts.now c.requires)
        (omega (arith, c.column_sum.ensures.small, c.requires.stage_cost.rows.1))
        (omega (arith, c.absolute_sum.ensures.small, c.deref.ensures.len, c.requires.input_count, c.requires.inputs.1)),
  );
}

pub overflow_add-result : goal.overflow_add-result
overflow_add-result c =
    let p = c.args.parts.now in
    let fits : FitsSigned w128 p.cost_den = search rules in
    let den : c.unsigned_abs.result ≤ 2 ^ 20 = omega (arith, ints, c.unsigned_abs.ensures.value ∙ ap unsigned_abs (to_z-of_z w128 _ fits), c.requires.cost_den.low, c.requires.cost_den.high) in
    record {
      fits = omega (
        arith,
        den,
        staged p.stages c.column_sum.result c.absolute_sum.result (design_stages_le p c.requires)
            (omega (arith, c.column_sum.ensures.small, c.requires.stage_cost.rows.1))
            (omega (arith, c.absolute_sum.ensures.small, c.deref.ensures.len, c.requires.input_count, c.requires.inputs.1)),
      );
    }

pub overflow_add-result-2 : goal.overflow_add-result-2
overflow_add-result-2 c =
    let p = c.args.parts.now in
    let fits : FitsSigned w128 p.cost_den = search rules in
    let den : c.unsigned_abs.result ≤ 2 ^ 20 = omega (arith, ints, c.unsigned_abs.ensures.value ∙ ap unsigned_abs (to_z-of_z w128 _ fits), c.requires.cost_den.low, c.requires.cost_den.high) in
    record {
      fits = omega (
        arith,
        small c.unsigned_abs.result p.stages c.column_sum.result c.absolute_sum.result c.column_sum-2.result den (design_stages_le p c.requires)
            (omega (arith, c.column_sum.ensures.small, c.requires.stage_cost.rows.1))
            (omega (arith, c.absolute_sum.ensures.small, c.deref.ensures.len, c.requires.input_count, c.requires.inputs.1))
            (omega (arith, c.column_sum-2.ensures.small, c.requires.final_cost.rows.1)),
      );
    }
