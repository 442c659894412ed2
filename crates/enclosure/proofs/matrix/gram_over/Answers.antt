use Rattle.std.proofs.Common.{◌≡◌, ℕ, ◌+◌, ◌^◌, ◌<◌, ◌≤ℤ◌, pos, rules, arith, length, below_more}
use Rattle.integer_algebra.specs.Sums.{at}
use Rattle.mat_int.specs.Enclosures.{enclosure_at, gram_magnitude}
use Rattle.enclosure.proofs.GramLaws.{are_none, are_all}
use Rattle.enclosure.proofs.matrix.gram_over.Goals as goal

pub loop-j-init : goal.loop-j-init
loop-j-init c = record {
  made = are_none _ _ _ _ (rw c.cols-cols.ensures at c.in_ok-made.ensures.mid) (rw c.cols-cols.ensures at c.in_ok-made.ensures.rad);
  near = λ i j p q. absurd (omega arith);
}

pub loop-j-preserved : goal.loop-j-preserved
loop-j-preserved c =
    let weights = c.args.weights.now in
    let x = enclosure_at c.args.x.now.mid c.args.x.now.rad in
    let n = c.args.x.now.mid.cols in
    let j = c.loop-j.j in
    let near : (l : ℕ) → l < n → gram_magnitude (length weights) (at weights) x j l ≤ℤ pos (2 ^ 126) = search rules in
    let all : (i : ℕ) → i < j + 1 → (l : ℕ) → l < n → gram_magnitude (length weights) (at weights) x i l ≤ℤ pos (2 ^ 126) =
    below_more _ _ (λ i p l q. c.loop-j.invariant.near i l p q) near in
    record { made = search rules; near = λ i l p q. all i p l q }

pub returns-clause-value : goal.returns-clause-value
returns-clause-value c =
    let end : c.loop-j.j ≡ c.args.x.now.mid.cols = omega (arith, c.cols-cols.ensures, c.loop-j.auto.j-end, c.loop-j-test.false) in
    are_all _ _ _ _ (rw end at c.loop-j.invariant.made)

pub gram_row-requires-clause-shape : goal.gram_row-requires-clause-shape
gram_row-requires-clause-shape c = c.requires.shape

pub gram_row-requires-clause-signs : goal.gram_row-requires-clause-signs
gram_row-requires-clause-signs c = c.requires.signs

pub gram_row-requires-clause-some : goal.gram_row-requires-clause-some
gram_row-requires-clause-some c = c.requires.some

pub gram_row-requires-clause-small : goal.gram_row-requires-clause-small
gram_row-requires-clause-small c = c.requires.small
