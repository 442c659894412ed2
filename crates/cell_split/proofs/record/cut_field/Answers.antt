use Rattle.std.proofs.Common.{◌≡◌, ◌≤ℤ◌, ◌<ℤ◌, ℤ, ap, ◌∙◌, Some, rules, arith}
use Rattle.std.specs.Int.{w128}
use mir.Val.{SFits}
use Rattle.std.proofs.lemmas.Int.{to_z-of_z, ints}
use Rattle.cell_split.proofs.record.cut_field.Goals as goal
use Rattle.cell_split.proofs.record.cut_field.Goals.{else-least-cut-via-then-least-cut+else-cut-hi, else-least-cut-via-else-least-cut}

pub returns-in_default-clause-only : goal.returns-in_default-clause-only
returns-in_default-clause-only c = λ z r l h.
    let none = c.in_default.ensures.only z r in
    absurd cc

pub returns-then-cut-hi-clause-only : goal.returns-then-cut-hi-clause-only
returns-then-cut-hi-clause-only c = λ z r l h.
    let f : SFits w128 c.in-Some.cut = search rules in
    ap Some (to_z-of_z w128 c.in-Some.cut f) ∙ c.in-Some.ensures.only z r

-- where the number is out of order, there is no other
out : (c : goal.Joined-else-least-cut) (z : ℤ) → c.args.least ≤ℤ z → z <ℤ c.args.hi → c.in-Some.cut ≡ z → ⊥
out c z l h e =
    let f : SFits w128 c.in-Some.cut = search rules in
    elim c.else-least-cut.branch [
      | else-least-cut-via-then-least-cut+else-cut-hi w ↦ omega (arith, ints, w.if-cut-hi.false, e, h)
      | else-least-cut-via-else-least-cut w ↦ omega (arith, ints, w.if-least-cut.false, e, l)
    ]

pub returns-else-least-cut-clause-only : goal.returns-else-least-cut-clause-only
returns-else-least-cut-clause-only c = λ z r l h.
    let some : Some c.in-Some.cut ≡ Some z = c.in-Some.ensures.only z r in
    let same : c.in-Some.cut ≡ z = (cc) in
    absurd (out c z l h same)
