use Rattle.std.proofs.Common.{◌≡◌, ◌↔◌, ℕ, ◌<◌, ◌^◌, ◌≤◌, ℤ, pos, ◌≤ℤ◌, ◌<ℤ◌, unsigned_abs, length, IsTrue, true, FitsSigned, arith, ap, rules, ◌∙◌}
use Rattle.std.specs.Int.{w128}
use lib.Dec.{leb}
use Rattle.std.proofs.lemmas.Int.{ints, to_z-of_z}
use Rattle.std.proofs.lemmas.Bool.Decides.{nat_tests}
use Rattle.integer_algebra.specs.Matrices.{off_diagonal_sum}
use Rattle.mat_int.specs.Matrix.{entry_of}
use Rattle.hessian_check.specs.Dominance.{rest}
use Rattle.hessian_check.specs.Passing.{RowPasses, rests_absolute_sum}
use Rattle.hessian_check.proofs.RowLaws.{not_true, refused}
use Rattle.hessian_check.proofs.StepLaws.{le_of_test, lt_of_test}
use Rattle.hessian_check.proofs.row_test.passes.Goals as goal

pub leaves_room-requires-clause-shape : goal.leaves_room-requires-clause-shape
leaves_room-requires-clause-shape c = c.requires.shape

pub leaves_room-requires-clause-inside : goal.leaves_room-requires-clause-inside
leaves_room-requires-clause-inside c = c.requires.inside

pub leaves_room-requires-clause-short : goal.leaves_room-requires-clause-short
leaves_room-requires-clause-short c = c.requires.short

pub returns-then-not-leaves_room : goal.returns-then-not-leaves_room
returns-then-not-leaves_room c = refused (λ p. not_true (c.if-not-leaves_room.ensures.1 p.narrow))

pub beside-beside-requires-clause-shape : goal.beside-beside-requires-clause-shape
beside-beside-requires-clause-shape c = c.requires.shape

pub beside-beside-requires-clause-inside : goal.beside-beside-requires-clause-inside
beside-beside-requires-clause-inside c = c.requires.inside

pub beside-beside-requires-clause-narrow : goal.beside-beside-requires-clause-narrow
beside-beside-requires-clause-narrow c = let yes : IsTrue true = search rules in c.if-not-leaves_room.ensures.0 yes

pub rest_at-own-requires-clause-shape : goal.rest_at-own-requires-clause-shape
rest_at-own-requires-clause-shape c = c.requires.shape

pub rest_at-own-requires-clause-row_in : goal.rest_at-own-requires-clause-row_in
rest_at-own-requires-clause-row_in c = c.requires.inside

pub rest_at-own-requires-clause-col_in : goal.rest_at-own-requires-clause-col_in
rest_at-own-requires-clause-col_in c = c.requires.inside

pub rest_at-own-requires-clause-narrow : goal.rest_at-own-requires-clause-narrow
rest_at-own-requires-clause-narrow c = let yes : IsTrue true = search rules in c.if-not-leaves_room.ensures.0 yes

pub returns-then-own-ge0 : goal.returns-then-own-ge0
returns-then-own-ge0 c =
    let yes : IsTrue true = search rules in
    let f : FitsSigned w128 c.rest_at-own.result = search rules in
    told (length c.args.mat.now.rows) c.args.i (entry_of c.args.mat.now) (entry_of c.args.root.now) c.beside-beside.result c.unsigned_abs.result c.rest_at-own.result
    (c.if-not-leaves_room.ensures.0 yes) c.beside-beside.ensures c.rest_at-own.ensures (le_of_test _ _ (rw (to_z-of_z w128 _ f) at c.if-own-ge0.true))
    (c.unsigned_abs.ensures.value ∙ ap unsigned_abs (to_z-of_z w128 _ f))
  where
    over : (b u : ℕ) (z : ℤ) → pos 0 ≤ℤ z → u ≡ unsigned_abs z → IsTrue (leb b u) → pos b ≤ℤ z
    over b u z p h t = (let l : b ≤ u = grind (arith, nat_tests) in omega (arith, ints, p, h, l))

    back : (b u : ℕ) (z : ℤ) → pos 0 ≤ℤ z → u ≡ unsigned_abs z → pos b ≤ℤ z → IsTrue (leb b u)
    back b u z p h k = (let l : b ≤ u = omega (arith, ints, p, h, k) in grind (arith, nat_tests))

    told : (n i : ℕ) (m r : ℕ → ℕ → ℤ) (b u : ℕ) (z : ℤ) → rests_absolute_sum n m r i < 2 ^ 127 → pos b ≡ off_diagonal_sum n (rest n m r) i → z ≡ rest n m r i i → pos 0 ≤ℤ z →
        u ≡ unsigned_abs z → IsTrue (leb b u) ↔ RowPasses n m r i
    told n i m r b u z s e f p h = (λ y. record { narrow = s; dominant = rw (← e, ← f) (over b u z p h y) }, λ q. back b u z p h (rw (← e, ← f) at q.dominant))

pub returns-else-own-ge0 : goal.returns-else-own-ge0
returns-else-own-ge0 c =
    let f : FitsSigned w128 c.rest_at-own.result = search rules in
    let z = c.rest_at-own.result in
    let low : z <ℤ pos 0 = lt_of_test _ _ (rw (to_z-of_z w128 _ f) at c.if-own-ge0.false) in
    rw c.if-own-ge0.false (refused (λ (q : RowPasses (length c.args.mat.now.rows) (entry_of c.args.mat.now) (entry_of c.args.root.now) c.args.i).
    below c.beside-beside.result z low (rw (← c.beside-beside.ensures, ← c.rest_at-own.ensures) at q.dominant)))
  where
    below : (b : ℕ) (z : ℤ) → z <ℤ pos 0 → ¬ (pos b ≤ℤ z)
    below b z l k = omega (arith, ints, l, k)
