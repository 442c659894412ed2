use Rattle.std.proofs.Common.{rules, ◌≡◌, ◌^◌, ◌*ℤ◌, ◌+ℤ◌, ◌-ℤ◌, FitsSigned, pos, refl, to_z, IsTrue, false, ℤ, ℕ, ◌≤ℤ◌, length, arith}
use Rattle.std.specs.Int.{w128}
use Rattle.std.proofs.lemmas.Int.{ints, to_z-of_z}
use lib.Signed.{le_z}
use Rattle.integer_algebra.specs.Sums.{at}
use Rattle.approx_inverse.specs.Descent.{aim}
use Rattle.approx_inverse.proofs.StartLaws.{sum_more}
use Rattle.approx_inverse.proofs.start.is_low_at.Goals as goal

not_true : ¬ IsTrue false
not_true t = search rules

pub loop-i-preserved : goal.loop-i-preserved
loop-i-preserved c =
    let i = c.loop-i.i in
    let x : FitsSigned w128 (at c.args.x.now i) = search rules in
    let r : FitsSigned w128 (at c.args.rest.now i) = search rules in
    let v : FitsSigned w128 (at c.args.c.now i) = search rules in
    let t : FitsSigned w128 c.in-Some.term = search rules in
    let n : FitsSigned w128 c.in-Some-checked_add.next = search rules in
    let term = rw (to_z-of_z w128 _ x, to_z-of_z w128 _ r, to_z-of_z w128 _ v) at c.in-Some.ensures in
    let is : c.in-Some-checked_add.next ≡ to_z w128 c.loop-i.sum-bits +ℤ c.in-Some.term = rw (to_z-of_z w128 _ t) at c.in-Some-checked_add.ensures.1 in
    rw (to_z-of_z w128 _ n, is)
    (sum_more i (λ k. at c.args.x.now k *ℤ (at c.args.rest.now k -ℤ aim c.args.f c.args.c.now k)) (pos (2 ^ c.args.p) *ℤ pos (2 ^ c.args.q))
    (to_z w128 c.loop-i.sum-bits) c.in-Some.term _ c.loop-i.invariant refl term)

pub value_term-requires-clause-bits : goal.value_term-requires-clause-bits
value_term-requires-clause-bits c = c.requires.bits

pub value_term-requires-clause-p_small : goal.value_term-requires-clause-p_small
value_term-requires-clause-p_small c = c.requires.p_small

pub value_term-requires-clause-q_small : goal.value_term-requires-clause-q_small
value_term-requires-clause-q_small c = c.requires.q_small

pub returns-in_default : goal.returns-in_default
returns-in_default c = λ yes. absurd (not_true yes)

pub returns-in_default-checked_add : goal.returns-in_default-checked_add
returns-in_default-checked_add c = λ yes. absurd (not_true yes)

pub returns : goal.returns
returns c = λ yes.
    let e : c.loop-i.i ≡ length c.args.c.now = omega (arith, c.loop-i-test.false, c.loop-i.auto.i-end) in
    low _ (to_z w128 c.loop-i.sum-bits) c.args.p c.args.q (rw e at c.loop-i.invariant) yes
  where
    low : (a s : ℤ) (p q : ℕ) → a ≤ℤ (pos (2 ^ p) *ℤ pos (2 ^ q) *ℤ s) → IsTrue (le_z s (pos 0)) → a ≤ℤ pos 0
    low a s p q h t = grind (arith, ints)
