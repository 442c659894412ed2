use Rattle.std.proofs.Common.{◌≡◌, ◌≤◌, ℕ, pos, refl, Some, rules, arith}
use Rattle.std.specs.Int.{w128}
use mir.Val.{SFits}
use Rattle.std.proofs.lemmas.Int.{to_z-of_z, ints}
use Rattle.cell_split.proofs.record.count_field.Goals as goal
use Rattle.cell_split.proofs.record.count_field.Goals.{else-count-ge0-via-then-count-ge0+else-count-le-MOST_CUTS, else-count-ge0-via-else-count-ge0}

pub returns-in_default-clause-only : goal.returns-in_default-clause-only
returns-in_default-clause-only c = λ n r l.
    let none = c.in_default.ensures.only (pos n) r in
    absurd cc

pub returns-then-count-le-MOST_CUTS-clause-only : goal.returns-then-count-le-MOST_CUTS-clause-only
returns-then-count-le-MOST_CUTS-clause-only c = λ n r l.
    let f : SFits w128 c.in-Some.count = search rules in
    let some : Some c.in-Some.count ≡ Some (pos n) = c.in-Some.ensures.only (pos n) r in
    let same : c.in-Some.count ≡ pos n = (cc) in
    rw (to_z-of_z w128 c.in-Some.count f, same) refl

-- where the number is out of range, there is no other
out : (c : goal.Joined-else-count-ge0) (n : ℕ) → n ≤ 63 → c.in-Some.count ≡ pos n → ⊥
out c n l e =
    let f : SFits w128 c.in-Some.count = search rules in
    elim c.else-count-ge0.branch [
      | else-count-ge0-via-then-count-ge0+else-count-le-MOST_CUTS w ↦ omega (arith, ints, w.if-count-le-MOST_CUTS.false, e, l)
      | else-count-ge0-via-else-count-ge0 w ↦ omega (arith, ints, w.if-count-ge0.false, e)
    ]

pub returns-else-count-ge0-clause-only : goal.returns-else-count-ge0-clause-only
returns-else-count-ge0-clause-only c = λ n r l.
    let some : Some c.in-Some.count ≡ Some (pos n) = c.in-Some.ensures.only (pos n) r in
    let same : c.in-Some.count ≡ pos n = (cc) in
    absurd (out c n l same)
