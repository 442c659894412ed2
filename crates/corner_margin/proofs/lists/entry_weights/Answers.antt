use Rattle.std.proofs.Common.{◌%◌, ◌<◌, pos, rules, arith, sym, ◌∙◌}
use Rattle.std.specs.Int.{w128}
use mir.Val.{SFits}
use Rattle.std.proofs.lemmas.Int.{to_z-of_z}
use Rattle.std.proofs.lemmas.List.{get_or_read_under}
use Rattle.integer_algebra.specs.Sums.{at}
use Rattle.condensed_form.proofs.Pushes.{pushed}
use Rattle.corner_margin.proofs.lists.entry_weights.Goals as goal

pub loop-j-preserved : goal.loop-j-preserved
loop-j-preserved c =
    let f : SFits w128 c.index.result.now = search rules in
    let inside : c.loop-j.j % c.args.parts.now.inputs < c.args.parts.now.inputs = omega (arith, c.requires.inputs.0) in
    pushed _ _ _ c.loop-j.j (λ j. at c.args.parts.now.input_weights.items (j % c.args.parts.now.inputs)) c.in_ok-push.ensures.items
    (to_z-of_z w128 _ f ∙ get_or_read_under c.args.parts.now.input_weights.items (c.loop-j.j % c.args.parts.now.inputs) c.args.parts.now.inputs c.index.result.now (pos 0)
    c.index.ensures inside (sym c.requires.input_count))
    c.loop-j.invariant
