use Rattle.std.proofs.Common.{◌≡◌, ◌∙◌, ◌^◌, rules, arith, refl, FitsSigned, add-one, to_z}
use Rattle.std.specs.Int.{w128}
use Rattle.std.proofs.lemmas.Int.{to_z-of_z}
use Rattle.qp_model.specs.problem.Parts.{design_of}
use Rattle.qp_model.proofs.VersionLaws.{design_states_le}
use Rattle.stay_check.proofs.RowFacts.{added, through}
use Rattle.stay_check.proofs.rows.through_plant.Goals as goal

pub overflow_add-sum : goal.overflow_add-sum
overflow_add-sum c =
    let a : FitsSigned w128 c.plant_at.result = search rules in
    let b : FitsSigned w128 c.next_limit_at.result = search rules in
    let t = added (2 ^ 62) (2 ^ 31) (2 ^ 31) (to_z w128 c.loop-k.sum-bits) c.plant_at.result c.next_limit_at.result c.loop-k.k c.loop-k.invariant.small c.plant_at.ensures.small c.next_limit_at.ensures.small
    (omega arith) (omega (arith, design_states_le c.args.parts.now c.requires.design)) in
    rw (to_z-of_z w128 _ a, to_z-of_z w128 _ b, to_z-of_z w128 _ t.product) t.sum

pub loop-k-preserved : goal.loop-k-preserved
loop-k-preserved c =
    let a : FitsSigned w128 c.plant_at.result = search rules in
    let b : FitsSigned w128 c.next_limit_at.result = search rules in
    let t = added (2 ^ 62) (2 ^ 31) (2 ^ 31) (to_z w128 c.loop-k.sum-bits) c.plant_at.result c.next_limit_at.result c.loop-k.k c.loop-k.invariant.small c.plant_at.ensures.small c.next_limit_at.ensures.small
    (omega arith) (omega (arith, design_states_le c.args.parts.now c.requires.design)) in
    record {
      end = c.loop-k.invariant.end;
      sum = rw (to_z-of_z w128 _ a, to_z-of_z w128 _ b, to_z-of_z w128 _ t.product, to_z-of_z w128 _ t.sum, c.plant_at.ensures.value, c.next_limit_at.ensures.value, c.loop-k.invariant.sum, add-one) refl;
      small = rw (to_z-of_z w128 _ a, to_z-of_z w128 _ b, to_z-of_z w128 _ t.product, to_z-of_z w128 _ t.sum) t.small;
    }

pub returns-clause-value : goal.returns-clause-value
returns-clause-value c =
    let whole : c.loop-k.k ≡ c.args.parts.now.states = omega arith in
    c.loop-k.invariant.sum ∙ rw whole (through (design_of c.args.parts.now) c.args.i c.args.column)
