-- What sums of products meet fits words of 64 bits, where the absolute values leave room there.
use Rattle.std.proofs.Common.{◌≡◌, ℕ, ◌+◌, ◌*◌, ◌%◌, ◌<◌, ◌≤◌, ◌^◌, ℤ, pos, to_z, of_z, ap, refl, ◌∙◌, ◌+ℤ◌, ◌-ℤ◌, ◌*ℤ◌, neg_ℤ, List, length, take, get_or, unsigned_abs, FitsSigned, arith}
use Rattle.std.specs.Int.{w64}
use Rattle.std.proofs.lemmas.Int.{ints, unsigned_abs-mul, fits_signed_from_abs, to_z-of_z, to_z_pos}
use Rattle.std.proofs.lemmas.Nat.{pow_pos, pow_below, one_shl}
use Rattle.integer_algebra.specs.Division.{floor_of, ceil_div}
use Rattle.mat_int.specs.Row.{list_dot, abs_dot}
use Rattle.mat_products.specs.Narrow.{IsNarrow}
use Rattle.mat_int.proofs.Dots.{abs-add_le, abs-dot_le, dot-take_more, abs_dot_more_le}
use Rattle.qp_model.proofs.AbsoluteLaws.{abs-neg, abs-floor_le, abs-floor_le_ceil}

-- ---- the loop
word_product_fits : (start : ℤ) (xs ys : List ℤ) (i : ℕ) → i < length xs → i < length ys → unsigned_abs start + abs_dot xs ys < 2 ^ 63 → FitsSigned w64 (get_or xs i (pos 0) *ℤ get_or ys i (pos 0))
word_product_fits start xs ys i p q room =
    fits_signed_from_abs w64 _ (omega (arith, unsigned_abs-mul (get_or xs i (pos 0)) (get_or ys i (pos 0)), abs_dot_more_le xs ys i p q, room))

word_sum_fits : (start : ℤ) (xs ys : List ℤ) (i : ℕ) → i < length xs → i < length ys → unsigned_abs start + abs_dot xs ys < 2 ^ 63 →
    FitsSigned w64 (start +ℤ list_dot (take i xs) (take i ys) +ℤ get_or xs i (pos 0) *ℤ get_or ys i (pos 0))
word_sum_fits start xs ys i p q room =
    let sum = list_dot (take i xs) (take i ys) in
    let x = get_or xs i (pos 0) in
    let y = get_or ys i (pos 0) in
    fits_signed_from_abs w64 _ (omega (arith, abs-add_le (start +ℤ sum) (x *ℤ y), abs-add_le start sum, abs-dot_le (take i xs) (take i ys), unsigned_abs-mul x y, abs_dot_more_le xs ys i p q, room))

-- one more term, of numbers and a sum under other names, as words have them
pub record WordTerm (s : ℤ) (xs ys : List ℤ) (i : ℕ) (x y sum : ℤ) : Type 0 where
  pub product : FitsSigned w64 (x *ℤ y)
  pub whole : FitsSigned w64 (sum +ℤ to_z w64 (of_z w64 (x *ℤ y)))
  pub next : to_z w64 (of_z w64 (sum +ℤ to_z w64 (of_z w64 (x *ℤ y)))) ≡ s +ℤ list_dot (take (i + 1) xs) (take (i + 1) ys)

pub word_term : (start s : ℤ) (xs ys : List ℤ) (i : ℕ) (x y sum : ℤ) → s ≡ start → x ≡ get_or xs i (pos 0) → y ≡ get_or ys i (pos 0) → sum ≡ s +ℤ list_dot (take i xs) (take i ys) → i < length xs → i < length ys →
    unsigned_abs start + abs_dot xs ys < 2 ^ 63 → WordTerm s xs ys i x y sum
word_term start s xs ys i x y sum begun d e f p q room =
    let product : FitsSigned w64 (x *ℤ y) = rw (d, e) (word_product_fits start xs ys i p q room) in
    let term : to_z w64 (of_z w64 (x *ℤ y)) ≡ get_or xs i (pos 0) *ℤ get_or ys i (pos 0) = rw (to_z-of_z w64 _ product, d, e) refl in
    let whole : FitsSigned w64 (sum +ℤ to_z w64 (of_z w64 (x *ℤ y))) = rw (term, f, begun) (word_sum_fits start xs ys i p q room) in
    record { product = product; whole = whole; next = rw (to_z-of_z w64 _ whole, term, f, dot-take_more xs ys i p q) (omega (arith, ints)) }

-- ---- after the loop
-- the sum
pub whole_le : (start : ℤ) (xs ys : List ℤ) → unsigned_abs (start +ℤ list_dot xs ys) ≤ unsigned_abs start + abs_dot xs ys
whole_le start xs ys = omega (arith, abs-add_le start (list_dot xs ys), abs-dot_le xs ys)

-- ---- a plan entry
pub minus_is : (z : ℤ) → pos 0 -ℤ z ≡ neg_ℤ z
minus_is z = omega (arith, ints)

pub word_minus_fits : (sum : ℤ) (d : ℕ) → IsNarrow sum → FitsSigned w64 (pos 0 -ℤ floor_of sum d)
word_minus_fits sum d room =
    let z = floor_of sum d in
    rw (minus_is z) (fits_signed_from_abs w64 _ (omega (arith, abs-neg z, abs-floor_le sum d, room)))

-- ---- a multiplier
pub word_next_fits : (sum old : ℤ) (f : ℕ) → unsigned_abs old + ceil_div (unsigned_abs sum) (2 ^ f) < 2 ^ 63 → FitsSigned w64 (old +ℤ floor_of sum (2 ^ f))
word_next_fits sum old f room =
    fits_signed_from_abs w64 _ (omega (arith, abs-add_le old (floor_of sum (2 ^ f)), abs-floor_le_ceil sum (2 ^ f) (pow_pos f), room))

-- `1 << (k % 64)` is the power
pub one_shifted : (k : ℕ) → k ≤ 62 → to_z w64 ((1 * 2 ^ (k % 64)) % 2 ^ 64) ≡ pos (2 ^ k)
one_shifted k h =
    let same : k % 64 ≡ k = omega (arith, h) in
    rw same (ap (to_z w64) (one_shl k 64 (omega (arith, h))) ∙ to_z_pos w64 (2 ^ k) (pow_below k 63 (omega (arith, h))))
