use Rattle.std.proofs.Common.{◌≡◌, ◌^◌, List, ℤ, pos, ◌*ℤ◌, length, unsigned_abs, arith, ap, ◌∙◌}
use Rattle.std.specs.Int.{w128}
use Rattle.std.proofs.lemmas.Int.{to_z-of_z}
use Rattle.integer_algebra.specs.Sums.{at}
use Rattle.integer_algebra.specs.Division.{round_of}
use Rattle.mat_int.specs.Matrix.{row_of, entry_of}
use Rattle.controller_maker.proofs.Roundings.{entries_more}
use Rattle.controller_maker.proofs.rounding.rounded_matrix.Goals as goal

pub loop-i-preserved : goal.loop-i-preserved
loop-i-preserved c =
    let den = to_z-of_z w128 _ c.ranges.den in
    let mat = c.args.mat.now in
    let held = rw (den, c.row.ensures.value) at c.in_ok-line.ensures in
    let len : length (row_of mat c.loop-i.i) ≡ mat.cols = rw c.row.ensures.value at c.row.ensures.len in
    let lent = c.deref.ensures.value in
    rw den (entries_more c.loop-i.out c.push_row.new.self c.deref.result.now c.loop-i.i mat.cols
    (λ i j. round_of (pos (2 ^ c.args.f) *ℤ entry_of mat i j) (unsigned_abs c.args.den)) c.in_ok-push_row.ensures.ok
    (ap (λ (xs : List ℤ). length xs) lent ∙ held.long ∙ len)
    (λ j l. ap (λ (xs : List ℤ). at xs j) lent ∙ held.is j (omega (arith, len)))
    (rw den at c.loop-i.invariant))
