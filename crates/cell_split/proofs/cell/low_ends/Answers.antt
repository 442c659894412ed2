use Rattle.std.proofs.Common.{rules, ◌<◌, ℤ, List, length, slice_index_or, ap, ◌∙◌, arith}
use Rattle.std.specs.Int.{w128}
use mir.Val.{SFits}
use Rattle.std.proofs.lemmas.Int.{to_z-of_z}
use Rattle.std.proofs.lemmas.List.{length-map}
use Rattle.integer_algebra.specs.Sums.{at}
use Rattle.mat_int.specs.Lines.{lists}
use Rattle.cell_split.specs.Cuts.{part_low}
use Rattle.cell_split.specs.Cells.{cuts_of}
use Rattle.cell_split.proofs.CellFacts.{pushed, list_is}
use Rattle.cell_split.proofs.cell.low_ends.Goals as goal

pub loop-i-preserved : goal.loop-i-preserved
loop-i-preserved c =
    let r : SFits w128 c.low_end.result = search rules in
    let lt : c.loop-i.i < length c.args.cuts.now = omega (arith, c.requires.sized.count, c.loop-i-test.true, length-map c.args.cuts.now (λ w. w.items)) in
    let list = c.deref.ensures.value ∙ list_is c.args.cuts.now c.index-cuts-i.result c.loop-i.i lt c.index-cuts-i.is in
    let end : SFits w128 (at c.args.lo.now c.loop-i.i) = search rules in
    pushed _ _ _ c.loop-i.i (λ i. part_low (at c.args.lo.now i) (cuts_of (lists c.args.cuts.now) i) (slice_index_or c.args.parts.now i 0))
    c.in_ok-push.ensures.items (to_z-of_z w128 c.low_end.result r ∙ c.low_end.ensures ∙ ap (λ (z : ℤ). part_low z c.deref.result.now (slice_index_or c.args.parts.now c.loop-i.i 0))
    (to_z-of_z w128 (at c.args.lo.now c.loop-i.i) end) ∙ ap (λ (cs : List ℤ). part_low (at c.args.lo.now c.loop-i.i) cs (slice_index_or c.args.parts.now c.loop-i.i 0)) list)
    c.loop-i.invariant
