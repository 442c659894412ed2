use Rattle.std.proofs.Common.{◌<◌, ◌%◌, pos, rules, length, arith, ◌∙◌}
use Rattle.std.specs.Int.{w128}
use mir.Val.{SFits}
use Rattle.std.proofs.lemmas.Int.{to_z-of_z}
use Rattle.std.proofs.lemmas.List.{get_or_default}
use Rattle.qp_model.proofs.SoundLaws.{weight_at}
use Rattle.scaled_condense.proofs.hessian.own_cost.Goals as goal

pub brought_weight-requires-clause-weight : goal.brought_weight-requires-clause-weight
brought_weight-requires-clause-weight c =
    let p = c.args.parts.now in
    let f : SFits w128 c.index.result.now = search rules in
    let inside : c.args.i % p.inputs < p.inputs = omega (arith, c.requires.design.inputs.0) in
    let listed : c.args.i % p.inputs < length p.input_weights.items = rw c.requires.design.input_count inside in
    rw (to_z-of_z w128 _ f, c.index.ensures ∙ get_or_default p.input_weights.items (c.args.i % p.inputs) c.index.result.now (pos 0) listed) (weight_at p c.requires.design (c.args.i % p.inputs) inside)
