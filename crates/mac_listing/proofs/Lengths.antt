-- How many instructions there are.
use Rattle.std.proofs.Common.{◌≡◌, ℕ, zero, suc, ◌+◌, ◌*◌, ◌<◌, ℤ, pos, negsuc, neg_ℤ, List, [], ◌∷◌, ◌++◌, length, refl, ap, ◌∙◌, arith}
use Rattle.std.proofs.lemmas.List.{length-append}
use Rattle.integer_algebra.specs.Sums.{at}
use Rattle.integer_algebra.specs.Sizes.{amount}
use Rattle.mat_int.specs.Matrix.{Matrix, row_of}
use Rattle.qp_model.specs.machine.Controller.{Numbers, plan_length, HasShape, IsShaped}
use Rattle.qp_model.specs.machine.Machine.{lowering_of, top_of}
use Rattle.mac_listing.specs.declared.instruction.Op.{Op}
use Rattle.mac_listing.specs.declared.instruction.Op.TheVariants.{Clear, Store, Con, AddM, Shl, Shr, Neg, Low, Cap}
use Rattle.mac_listing.specs.Body.{multiplier_address, plan_address, groups, product_op, row_ops, unshifted, entry_ops, multiplier_ops, sum_ops, body_of}
use Rattle.mac_listing.specs.Count.{zeros_in, left_out, LengthLaw}
use Rattle.mac_listing.proofs.Groups.{groups_none, groups_front, groups_length}

-- ---- a row
products_length : (place shift : ℕ → ℕ) (row : List ℤ) → length (groups (λ i. product_op (place i) (at row i) (shift i)) (length row)) + zeros_in row ≡ length row
products_length place shift [] = omega (arith, ap length (groups_none (λ i. product_op (place i) (at [] i) (shift i))))
products_length place shift (pos zero ∷ row) =
    omega (arith, ap length (groups_front (λ i. product_op (place i) (at (pos zero ∷ row) i) (shift i)) (length row)), products_length (λ i. place (suc i)) (λ i. shift (suc i)) row)
products_length place shift (pos (suc n) ∷ row) =
    omega (arith, ap length (groups_front (λ i. product_op (place i) (at (pos (suc n) ∷ row) i) (shift i)) (length row)), products_length (λ i. place (suc i)) (λ i. shift (suc i)) row)
products_length place shift (negsuc n ∷ row) =
    omega (arith, ap length (groups_front (λ i. product_op (place i) (at (negsuc n ∷ row) i) (shift i)) (length row)), products_length (λ i. place (suc i)) (λ i. shift (suc i)) row)

row_length : (first : ℕ) (row : List ℤ) (shift : ℕ → ℕ) → length (row_ops first row shift) + zeros_in row ≡ length row
row_length first row shift = products_length (λ i. first + i) shift row

row_long : (a : Matrix) (height breadth i : ℕ) → HasShape a height breadth → i < height → length (row_of a i) ≡ breadth
row_long a height breadth i h l = h.each i [] (omega (arith, h.rows, l))

-- ---- one plan entry, one multiplier
entry_parts : (a b : List Op) (x y z p q r : Op) → length ((x ∷ a) ++ (y ∷ z ∷ b) ++ (p ∷ q ∷ r ∷ [])) ≡ length a + length b + 6
entry_parts a b x y z p q r = omega (arith, length-append ((x ∷ a) ++ (y ∷ z ∷ b)) (p ∷ q ∷ r ∷ []), length-append (x ∷ a) (y ∷ z ∷ b))

multiplier_parts : (a b : List Op) (x p q r t u v : Op) → length ((x ∷ a) ++ b ++ (p ∷ q ∷ r ∷ t ∷ u ∷ v ∷ [])) ≡ length a + length b + 7
multiplier_parts a b x p q r t u v = omega (arith, length-append ((x ∷ a) ++ b) (p ∷ q ∷ r ∷ t ∷ u ∷ v ∷ []), length-append (x ∷ a) b)

entry_length : (c : Numbers) (j : ℕ) → IsShaped c → j < length c.offsets →
    length (entry_ops c j) + (zeros_in (row_of c.state_gains j) + zeros_in (row_of c.dual_gains j)) ≡ c.states + c.rows + 6
entry_length c j s l =
    let own = row_ops 0 (row_of c.state_gains j) unshifted in
    let dual = row_ops c.states (row_of c.dual_gains j) (lowering_of c) in
    let inside : j < plan_length c = omega (arith, l, s.offsets) in
    omega (
      arith,
      entry_parts own dual Clear (Con (at c.offsets j) c.fraction_bits) (Shl c.step_exponent) (Shr (c.fraction_bits + c.step_exponent)) Neg (Store (plan_address c j)),
      row_length 0 (row_of c.state_gains j) unshifted,
      row_length c.states (row_of c.dual_gains j) (lowering_of c),
      row_long c.state_gains (plan_length c) c.states j s.state_gains inside,
      row_long c.dual_gains (plan_length c) c.rows j s.dual_gains inside,
    )

multiplier_length : (c : Numbers) (i : ℕ) → IsShaped c → i < length c.bounds →
    length (multiplier_ops c i) + (zeros_in (row_of c.plan_rows i) + zeros_in (row_of c.state_rows i)) ≡ plan_length c + c.states + 7
multiplier_length c i s l =
    let inside : i < c.rows = omega (arith, l, s.bounds) in
    let planned = row_ops (c.states + c.rows) (row_of c.plan_rows i) unshifted in
    let own = row_ops 0 (row_of c.state_rows i) unshifted in
    let here = multiplier_address c i in
    omega (
      arith,
      multiplier_parts planned own Clear (Con (neg_ℤ (at c.bounds i)) c.fraction_bits) (Shr c.fraction_bits) (AddM here) Low (Cap (top_of c i)) (Store here),
      row_length (c.states + c.rows) (row_of c.plan_rows i) unshifted,
      row_length 0 (row_of c.state_rows i) unshifted,
      row_long c.plan_rows c.rows (plan_length c) i s.plan_rows inside,
      row_long c.state_rows c.rows c.states i s.state_rows inside,
    )

pub nothing : (n : ℕ) → amount n (λ j. 0) ≡ 0
nothing zero = refl
nothing (suc n) = omega (arith, nothing n)

-- the parts together
counted : (a b d e f n m p : ℕ) → a + d ≡ p * (n + m + 6) → b + e ≡ m * (p + n + 7) → f ≡ p * 3 → a + b + f + (d + e) ≡ p * (n + 2 * m + 9) + m * (n + 7)
counted a b d e f n m p x y z = omega (arith, x, y, z)

pub length_law : LengthLaw
length_law c sound =
    let s = sound.form.sized.shaped in
    let first = groups (entry_ops c) (length c.offsets) in
    let second = groups (multiplier_ops c) (length c.bounds) in
    let third = groups (sum_ops c) (length c.offsets) in
    let a = groups_length (entry_ops c) (λ j. zeros_in (row_of c.state_gains j) + zeros_in (row_of c.dual_gains j)) (c.states + c.rows + 6) (length c.offsets) (λ j l. entry_length c j s l) in
    let b = groups_length (multiplier_ops c) (λ i. zeros_in (row_of c.plan_rows i) + zeros_in (row_of c.state_rows i)) (plan_length c + c.states + 7) (length c.bounds) (λ i l. multiplier_length c i s l) in
    let f = groups_length (sum_ops c) (λ j. 0) 3 (length c.offsets) (λ j l. refl) in
    let long : length (body_of c) ≡ length first + length second + length third = length-append (first ++ second) third ∙ ap (λ (k : ℕ). k + length third) (length-append first second) in
    let x : length first + amount (length c.offsets) (λ j. zeros_in (row_of c.state_gains j) + zeros_in (row_of c.dual_gains j)) ≡ plan_length c * (c.states + c.rows + 6) =
    a ∙ ap (λ (k : ℕ). k * (c.states + c.rows + 6)) s.offsets in
    let y : length second + amount (length c.bounds) (λ i. zeros_in (row_of c.plan_rows i) + zeros_in (row_of c.state_rows i)) ≡ c.rows * (plan_length c + c.states + 7) =
    b ∙ ap (λ (k : ℕ). k * (plan_length c + c.states + 7)) s.bounds in
    let z : length third ≡ plan_length c * 3 = omega (arith, f, nothing (length c.offsets), s.offsets) in
    ap (λ (k : ℕ). k + left_out c) long ∙ counted (length first) (length second) _ _ (length third) c.states c.rows (plan_length c) x y z
