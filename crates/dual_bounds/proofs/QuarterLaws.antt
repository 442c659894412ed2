-- The least k with k (k + 3) at least a number, by the number's root.
use Rattle.std.proofs.Common.{◌≡◌, ℕ, zero, suc, ◌+◌, ◌*◌, ◌^◌, ◌<◌, ◌≤◌, ℤ, pos, ◌+ℤ◌, ◌-ℤ◌, ◌*ℤ◌, ◌≤ℤ◌, ◌<ℤ◌, unsigned_abs, FitsSigned, arith, to_z, refl, ap, ap₂, ◌∙◌, true, false}
use Rattle.std.specs.Int.{w128, IsIsqrt, div_ceil}
use Rattle.std.specs.Int.Signed.{le_z}
use Rattle.std.proofs.lemmas.Int.{ints, to_z_pos}
use Rattle.std.proofs.lemmas.Nat.{pow_pos}
use Rattle.std.proofs.Math.Nat.{mul-le-mul, mul-add, one-le-mul}
use Rattle.qp_model.specs.bounds.Choices.{step_count}
use Rattle.dual_bounds.specs.FastSteps.{quarter_steps, IsLeastQuarter}
use Rattle.dual_bounds.proofs.NumberFacts.{quotient_is, quotient_small, quotient_some, positive}

-- ---- products in their parts
times_three : (q : ℕ) → q * (q + 3) ≡ q * q + 3 * q
times_three q = let m = mul-add q q 3 in omega (arith, m)

next_square : (q : ℕ) → suc q * suc q ≡ q * q + 2 * q + 1
next_square q = let m = mul-add q q 1 in omega (arith, m)

-- more steps, more
pub quarter_mono : (j k : ℕ) → j ≤ k → quarter_steps j ≤ quarter_steps k
quarter_mono j k h = mul-le-mul h (omega (arith, h))

-- ---- the least one: the root's predecessor q, or the root
pub below_root : (n q : ℕ) → 1 ≤ n → suc q * suc q ≤ n → n ≤ quarter_steps q → IsLeastQuarter n q
below_root n zero some low enough = absurd (omega (arith, some, enough))
below_root n (suc p) some low enough = record {
  some = omega arith;
  enough = enough;
  least = λ j l h.
      let m = quarter_mono j p (omega (arith, h)) in
      let e = times_three p in
      let f = next_square (suc p) in
      let g = next_square p in
      omega (arith, m, e, f, g, low);
}

pub at_root : (n q : ℕ) → n < (suc q + 1) * (suc q + 1) → quarter_steps q < n → IsLeastQuarter n (suc q)
at_root n q high more = record {
  some = omega arith;
  enough =
      let e = times_three (suc q) in
      let f = next_square (suc q) in
      let g = next_square q in
      omega (arith, e, f, g, high);
  least = λ j l h. let m = quarter_mono j q (omega (arith, h)) in omega (arith, m, more);
}

-- ---- of integers, by their root
root_some : (n m : ℕ) → 1 ≤ n → n < (m + 1) * (m + 1) → 1 ≤ m
root_some n zero h k = absurd (omega (arith, h, k))
root_some n (suc m) h k = omega arith

size_some : (z : ℤ) → pos 1 ≤ℤ z → 1 ≤ unsigned_abs z
size_some z h = omega (arith, ints, h)

-- the product that tells
product_is : (q : ℕ) → (pos (suc q) -ℤ pos 1) *ℤ (pos (suc q) +ℤ pos 2) ≡ pos (quarter_steps q)
product_is q = ap₂ (λ (s t : ℤ). s *ℤ t) one three
  where
    one : pos (suc q) -ℤ pos 1 ≡ pos q
    one = omega (arith, ints)

    three : pos (suc q) +ℤ pos 2 ≡ pos (q + 3)
    three = omega (arith, ints)

pub product_small : (n m : ℕ) → 1 ≤ n → n ≤ 2 ^ 125 → m * m ≤ n → n < (m + 1) * (m + 1) → FitsSigned w128 ((pos m -ℤ pos 1) *ℤ (pos m +ℤ pos 2))
product_small n zero some most low high = absurd (omega (arith, root_some n zero some high))
product_small n (suc q) some most low high =
    let e = times_three q in
    let f = next_square q in
    let room : quarter_steps q ≤ 2 ^ 126 = omega (arith, e, f, low, most) in
    rw (product_is q) (omega (arith, ints, room))

-- k is the least number for n, both of them integers
abbrev pub IsLeastOf : (n k : ℤ) → Type 0
IsLeastOf n k = (k ≡ pos (unsigned_abs k)) × IsLeastQuarter (unsigned_abs n) (unsigned_abs k)

predecessor : (n : ℤ) (m : ℕ) → pos 1 ≤ℤ n → m * m ≤ unsigned_abs n → unsigned_abs n < (m + 1) * (m + 1) →
    n ≤ℤ ((pos m -ℤ pos 1) *ℤ (pos m +ℤ pos 2)) → IsLeastOf n (pos m -ℤ pos 1)
predecessor n zero some low high h = absurd (omega (arith, root_some (unsigned_abs n) zero (size_some n some) high))
predecessor n (suc q) some low high h =
    let one : pos (suc q) -ℤ pos 1 ≡ pos q = omega (arith, ints) in
    let enough : unsigned_abs n ≤ quarter_steps q = sized (quarter_steps q) (rw (product_is q) at h) in
    rw one (refl, below_root (unsigned_abs n) q (size_some n some) low enough)
  where
    sized : (b : ℕ) → n ≤ℤ pos b → unsigned_abs n ≤ b
    sized b k = omega (arith, ints, k, some)

itself : (n : ℤ) (m : ℕ) → pos 1 ≤ℤ n → unsigned_abs n < (m + 1) * (m + 1) → ((pos m -ℤ pos 1) *ℤ (pos m +ℤ pos 2)) <ℤ n → IsLeastOf n (pos m)
itself n zero some high h = absurd (omega (arith, root_some (unsigned_abs n) zero (size_some n some) high))
itself n (suc q) some high h =
    (refl, at_root (unsigned_abs n) q high (sized (quarter_steps q) (rw (product_is q) at h)))
  where
    sized : (b : ℕ) → pos b <ℤ n → b < unsigned_abs n
    sized b k = omega (arith, ints, k)

pub by_product : (n root : ℤ) → pos 1 ≤ℤ n → IsIsqrt n root → le_z n ((root -ℤ pos 1) *ℤ (root +ℤ pos 2)) ≡ true → IsLeastOf n (root -ℤ pos 1)
by_product n root some q h = rw q.1 (predecessor n q.0 some q.2 q.3 (rw q.1 at (tested n ((root -ℤ pos 1) *ℤ (root +ℤ pos 2)) h)))
  where
    tested : (a b : ℤ) → le_z a b ≡ true → a ≤ℤ b
    tested a b e = omega (arith, ints, e)

pub by_root : (n root : ℤ) → pos 1 ≤ℤ n → IsIsqrt n root → le_z n ((root -ℤ pos 1) *ℤ (root +ℤ pos 2)) ≡ false → IsLeastOf n root
by_root n root some q h = rw q.1 (itself n q.0 some q.3 (rw q.1 at (tested n ((root -ℤ pos 1) *ℤ (root +ℤ pos 2)) h)))
  where
    tested : (a b : ℤ) → le_z a b ≡ false → b <ℤ a
    tested a b e = omega (arith, ints, e)

pub product_fits : (n root : ℤ) → pos 1 ≤ℤ n → n ≤ℤ pos (2 ^ 125) → IsIsqrt n root → FitsSigned w128 ((root -ℤ pos 1) *ℤ (root +ℤ pos 2))
product_fits n root some most q = rw q.1 (product_small (unsigned_abs n) q.0 (size_some n some) (sized most) q.2 q.3)
  where
    sized : n ≤ℤ pos (2 ^ 125) → unsigned_abs n ≤ 2 ^ 125
    sized k = omega (arith, ints, k, some)

-- ---- the number that the steps are the least for
pub record IsCounted (count n : ℕ) : Type 0 where
  pub is : n ≡ count
  pub some : pos 1 ≤ℤ to_z w128 n
  pub small : to_z w128 n ≤ℤ pos (2 ^ 125)
  pub same : to_z w128 n ≡ pos count

pub counted : (s : ℕ) (r t : ℤ) (w u n : ℕ) → pos 1 ≤ℤ r → pos 1 ≤ℤ t → w ≡ 2 ^ (s + 43) * unsigned_abs r → w ≤ 2 ^ 125 → u ≡ unsigned_abs t → n ≡ div_ceil w u →
    IsCounted (step_count (s + 2) (unsigned_abs r) (unsigned_abs t)) n
counted s r t w u n h k e small f g =
    let count = step_count (s + 2) (unsigned_abs r) (unsigned_abs t) in
    let exponent : s + 43 ≡ s + 2 + 41 = omega arith in
    let stepped : w ≡ 2 ^ (s + 2 + 41) * unsigned_abs r = e ∙ ap (λ (m : ℕ). 2 ^ m * unsigned_abs r) exponent in
    let is : n ≡ count = quotient_is n w u _ t k stepped f g in
    let most : n ≤ 2 ^ 125 = omega (arith, quotient_small (2 ^ (s + 2 + 41) * unsigned_abs r) (unsigned_abs t) (positive t k), is, stepped, small) in
    let least : 1 ≤ n = omega (arith, quotient_some _ (unsigned_abs t) (one-le-mul (pow_pos (s + 2 + 41)) (positive r h)) (positive t k), is) in
    let cast : to_z w128 n ≡ pos n = to_z_pos w128 n (omega (arith, most)) in
    record {
      is = is;
      some = rw cast (omega (arith, ints, least));
      small = rw cast (omega (arith, ints, most));
      same = cast ∙ ap (λ (m : ℕ). pos m) is;
    }

-- ---- how many steps are too many
pub many : (n k : ℕ) → IsLeastQuarter n k → 65534 < k → quarter_steps 65534 < n
many n k h l = h.least 65534 (omega arith) l

pub few : (n k : ℕ) → IsLeastQuarter n k → k ≤ 65534 → n ≤ quarter_steps 65534
few n k h l = let m = quarter_mono k 65534 l in omega (arith, h.enough, m)
