-- The box of a cell is one that the design can have.
use Rattle.std.proofs.Common.{ℕ, ◌<◌, ℤ, pos, List, arith}
use Rattle.std.proofs.lemmas.Int.{ints}
use Rattle.std.proofs.lemmas.List.{get_or_default}
use Rattle.integer_algebra.specs.Sums.{at}
use Rattle.qp_model.specs.problem.Parts.{IsDesign, design_of}
use Rattle.qp_model.specs.problem.Runs.{Holds}
use Rattle.qp_model.specs.declared.design_parts.DesignParts.{DesignParts}
use Rattle.cell_split.specs.Cells.{cell_low, cell_high, AreCutsFor, IsCell}
use Rattle.cell_split.specs.NewBox.{IsNewBox}
use Rattle.cell_split.specs.declared.state_box.StateBox.{StateBox}
use Rattle.cell_split.proofs.CellLaws.{split_law}

pub new_box : (p : DesignParts) (ls : List (List ℤ)) (k : ℕ) (b : StateBox) → IsDesign p → AreCutsFor (design_of p) ls → IsCell ls k →
    Holds b.lo.items p.states (cell_low (at p.lo.items) ls k) → Holds b.hi.items p.states (cell_high (at p.hi.items) ls k) → IsNewBox p b
new_box p ls k b d c m l h =
    let inside = (split_law (design_of p) ls d.box c).inside k m in
    record {
      lo = record {
        long = l.long;
        numbers = λ i z o. (
            let n : i < p.states = omega (arith, o, l.long) in
            let lo = d.lo.numbers i (pos 0) (omega (arith, n, d.lo.long)) in
            let hi = d.hi.numbers i (pos 0) (omega (arith, n, d.hi.long)) in
            rw (get_or_default b.lo.items i z (pos 0) o, l.is i n) (omega (arith, ints, lo, hi, inside.low i n, inside.some i n, inside.high i n))
            );
      };
      hi = record {
        long = h.long;
        numbers = λ i z o. (
            let n : i < p.states = omega (arith, o, h.long) in
            let lo = d.lo.numbers i (pos 0) (omega (arith, n, d.lo.long)) in
            let hi = d.hi.numbers i (pos 0) (omega (arith, n, d.hi.long)) in
            rw (get_or_default b.hi.items i z (pos 0) o, h.is i n) (omega (arith, ints, lo, hi, inside.low i n, inside.some i n, inside.high i n))
            );
      };
      box = λ i n. rw (l.is i n, h.is i n) (inside.some i n);
    }
