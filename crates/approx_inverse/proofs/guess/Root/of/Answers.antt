use Rattle.std.proofs.Common.{◌≡◌, pos, length, replicate, ap, refl, ◌∙◌}
use Rattle.std.proofs.lemmas.List.{length-replicate}
use Rattle.mat_int.specs.Matrix.{zero_matrix}
use Rattle.approx_inverse.proofs.guess.Root.of.Goals as goal

pub loop-i-init : goal.loop-i-init
loop-i-init c =
    let n = length c.args.h.now.rows in
    let e = c.rows-n.ensures.count in
    let l : c.in_ok-lower.lower ≡ zero_matrix n n = rw e at c.in_ok-lower.ensures in
    let u : c.in_ok-upper.upper ≡ zero_matrix n n = rw e at c.in_ok-upper.ensures in
    record {
      lower_rows = rw l (length-replicate n (replicate n (pos 0)));
      lower_cols = rw l refl;
      upper_rows = rw u (length-replicate n (replicate n (pos 0)));
      upper_cols = rw u refl;
      diagonal = ap length (c.in_ok-diagonal.ensures.items_if_clones_equal (λ y q. q)) ∙ length-replicate c.rows-n.result (pos 1) ∙ e;
      shifts = c.in_ok-shifts.ensures;
    }

pub add_row-requires-clause-square : goal.add_row-requires-clause-square
add_row-requires-clause-square c = c.requires

pub add_row-requires-clause-sizes : goal.add_row-requires-clause-sizes
add_row-requires-clause-sizes c = c.loop-i.invariant

pub add_row-requires-clause-row_in : goal.add_row-requires-clause-row_in
add_row-requires-clause-row_in c = rw c.rows-n.ensures.count at c.loop-i-test.true

pub loop-i-preserved : goal.loop-i-preserved
loop-i-preserved c = c.add_row.ensures

pub returns : goal.returns
returns c = c.loop-i.invariant
