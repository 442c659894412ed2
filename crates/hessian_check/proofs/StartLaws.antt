-- What the rule starts from.
use Rattle.std.proofs.Common.{◌≡◌, inl, inr, ℕ, zero, suc, ◌+◌, ◌<◌, ◌≤◌, ◌^◌, ℤ, pos, negsuc, ◌*ℤ◌, ◌≤ℤ◌, ◌<ℤ◌, unsigned_abs, length, arith, FitsSigned}
use Rattle.std.specs.Int.{w128}
use Rattle.std.proofs.lemmas.Int.{ints, clamps, unsigned_abs-mul}
use Rattle.std.proofs.lemmas.Bool.{cases_lt}
use Rattle.std.proofs.lemmas.Grind.{common_steps}
use Rattle.std.proofs.Math.Nat.{pow-le-pow_right}
use Rattle.std.proofs.Math.IntN.{*ℤ_comm}
use Rattle.integer_algebra.proofs.OrderLaws.{mul-le-mul_left_z, mul-le-mul_right_z, mul_nonneg_z, le_trans_z}
use Rattle.integer_algebra.specs.Division.{floor_of}
use Rattle.mat_int.specs.Matrix.{Matrix, entry_of, zero_matrix}
use Rattle.hessian_check.specs.Passing.{AreSquare}
use Rattle.hessian_check.specs.Recipe.{IsBlank, IsEven, top, low, IsStart, IsShift, IsSmall, NoRows, NoRoot, scaled_up, diagonal_reserve}
use Rattle.hessian_check.proofs.RecipeLaws.{shift_next}

-- ---- the greatest and the least
pub top_nonneg : (n : ℕ) (m : ℕ → ℕ → ℤ) → pos 0 ≤ℤ top n m
top_nonneg zero m = omega (arith, ints)
top_nonneg (suc n) m = omega (arith, ints, clamps, top_nonneg n m)

pub at-top_le : (n : ℕ) (m : ℕ → ℕ → ℤ) (i : ℕ) → i < n → m i i ≤ℤ top n m
at-top_le zero m i l = absurd (omega arith)
at-top_le (suc n) m i l = elim (cases_lt i n) [
  | inl o ↦ omega (arith, ints, clamps, at-top_le n m i o)
  | inr o ↦ (let e : i ≡ n = omega arith in rw e (omega (arith, ints, clamps)))
]

pub low_bounds : (t : ℤ) (n : ℕ) (m : ℕ → ℕ → ℤ) → pos 1 ≤ℤ t → ((i : ℕ) → i < n → pos 1 ≤ℤ m i i) → (pos 1 ≤ℤ low t n m) × (low t n m ≤ℤ t)
low_bounds t zero m h k = (h, omega (arith, ints))
low_bounds t (suc n) m h k = let b = low_bounds t n m h (λ i l. k i (omega arith)) in let e = k n (omega arith) in
    (omega (arith, ints, clamps, b.0, e), omega (arith, ints, clamps, b.1))

pub floor_bounds : (z : ℤ) → pos 0 ≤ℤ z → (pos 0 ≤ℤ floor_of z 4096) × (floor_of z 4096 ≤ℤ z)
floor_bounds (pos a) h = (omega (arith, ints), omega (arith, ints))
floor_bounds (negsuc a) h = absurd h.le

-- ---- the scale
pub four_fits : (k : ℕ) → k ≤ 30 → FitsSigned w128 (pos (4 ^ k) *ℤ pos 4)
four_fits k h = let p : 4 ^ k ≤ 4 ^ 30 = pow-le-pow_right {n = 4} (omega arith) {i = k} {j = 30} h in numbers (4 ^ k) p
  where
    numbers : (p : ℕ) → p ≤ 4 ^ 30 → FitsSigned w128 (pos p *ℤ pos 4)
    numbers p h = omega (arith, ints)

pub scaled-top_lt : (t : ℤ) (h : ℕ) → t <ℤ pos (2 ^ 116) → IsShift t h → (pos (4 ^ h) *ℤ t) <ℤ pos (2 ^ 116)
scaled-top_lt t h l s = elim s.below [
  | inl e ↦ rw e (omega (arith, ints))
  | inr k ↦ rw (*ℤ_comm (pos (4 ^ h)) t) (omega (arith, ints, k))
]

pub shift_same : (t : ℤ) (h k : ℕ) → pos 1 ≤ℤ t → IsShift t h → IsShift t k → h ≡ k
shift_same t h k p a b = elim (cases_lt h k) [
  | inl l ↦ absurd (apart t h k p a b l)
  | inr l ↦ elim (cases_lt k h) [ inl m ↦ absurd (apart t k h p b a m) | inr m ↦ omega arith ]
]
  where
    apart : (t : ℤ) (h k : ℕ) → pos 1 ≤ℤ t → IsShift t h → IsShift t k → h < k → ⊥
    apart t h k p a b l = elim b.below [
      | inl e ↦ omega arith
      | inr s ↦ finish _ _ (rw (shift_next t h) a.greatest) (mul-le-mul_left_z t (omega (arith, ints)) (raised (pow-le-pow_right {n = 4} (omega arith) {i = h + 1} {j = k} (omega arith)))) s
    ]
      where
        raised : {x y : ℕ} → x ≤ y → pos x ≤ℤ pos y
        raised {x} {y} h = omega (arith, ints)

        finish : (x y : ℤ) → pos (2 ^ 62) ≤ℤ x → x ≤ℤ y → y <ℤ pos (2 ^ 62) → ⊥
        finish x y h k l = omega (arith, ints)

-- ---- what the rows need
pub record Ready (n : ℕ) (m : ℕ → ℕ → ℤ) (up : ℤ) : Type 0 where
  pub least_low : pos 0 ≤ℤ (up *ℤ low (top n m) n m)
  pub least_high : (up *ℤ low (top n m) n m) <ℤ pos (2 ^ 116)
  pub small : IsSmall n (scaled_up up m) (diagonal_reserve up n m)
  pub positive : (a : ℕ) → a < n → pos 0 ≤ℤ scaled_up up m a a

pub top_positive : (n : ℕ) (m : ℕ → ℕ → ℤ) → IsStart n m → pos 1 ≤ℤ top n m
top_positive n m s = le_trans_z (s.positive 0 s.filled) (at-top_le n m 0 s.filled)

pub ready : (n : ℕ) (m : ℕ → ℕ → ℤ) (h : ℕ) → IsStart n m → IsShift (top n m) h → Ready n m (pos (4 ^ h))
ready n m h s k =
    let t = top_positive n m s in
    let b = low_bounds (top n m) n m t s.positive in
    let u : pos 0 ≤ℤ pos (4 ^ h) = omega (arith, ints) in
    let w = scaled-top_lt (top n m) h s.small k in
    let l = mul_nonneg_z (pos (4 ^ h)) (low (top n m) n m) u (le_trans_z (omega (arith, ints)) b.0) in
    let e = mul-le-mul_left_z (pos (4 ^ h)) u b.1 in
    let f = floor_bounds (pos (4 ^ h) *ℤ low (top n m) n m) l in
    record {
      least_low = l;
      least_high = between e w;
      small = record {
        entries = λ i j p q. entry (4 ^ h) (m i j) (top n m) (s.inside i p j q) w;
        low = f.0;
        high = above f.1 (between e w);
      };
      positive = λ a p. mul_nonneg_z (pos (4 ^ h)) (m a a) u (le_trans_z (omega (arith, ints)) (s.positive a p));
    }
  where
    between : {x y z : ℤ} → x ≤ℤ y → y <ℤ z → x <ℤ z
    between {x} {y} {z} h k = omega (arith, ints)

    above : {x y : ℤ} → x ≤ℤ y → y <ℤ pos (2 ^ 116) → x ≤ℤ pos (2 ^ 117)
    above {x} {y} h k = omega (arith, ints)

    entry : (p : ℕ) (x t : ℤ) → pos (unsigned_abs x) ≤ℤ t → (pos p *ℤ t) <ℤ pos (2 ^ 116) → unsigned_abs (pos p *ℤ x) < 2 ^ 117
    entry p x t h k = let a = mul-le-mul_left_z (pos p) (omega (arith, ints)) h in let e = unsigned_abs-mul (pos p) x in omega (arith, ints, a, e)

-- ---- where there is no root
pub no_root : (n : ℕ) (m : ℕ → ℕ → ℤ) (h : ℕ) → IsStart n m → IsShift (top n m) h → NoRows n (scaled_up (pos (4 ^ h)) m) (diagonal_reserve (pos (4 ^ h)) n m) → NoRoot n m
no_root n m h s k none g r root = none r (rw (← (shift_same (top n m) g h (top_positive n m s) root.shift k)) root.rows)

pub least_fits : (n : ℕ) (m : ℕ → ℕ → ℤ) (up : ℤ) → Ready n m up → FitsSigned w128 (up *ℤ low (top n m) n m)
least_fits n m up r = numbers _ r.least_low r.least_high
  where
    numbers : (x : ℤ) → pos 0 ≤ℤ x → x <ℤ pos (2 ^ 116) → FitsSigned w128 x
    numbers x h k = omega (arith, ints)

pub shift_bound : (t : ℤ) (h : ℕ) → pos 1 ≤ℤ t → IsShift t h → h ≤ 31
shift_bound t h p s = elim (cases_lt h 32) [
  | inl l ↦ omega arith
  | inr l ↦ elim s.below [
    | inl e ↦ omega arith
    | inr k ↦ absurd (numbers t (4 ^ h) p k (pow-le-pow_right {n = 4} (omega arith) {i = 32} {j = h} l))
  ]
]
  where
    numbers : (t : ℤ) (p : ℕ) → pos 1 ≤ℤ t → (t *ℤ pos p) <ℤ pos (2 ^ 62) → 4 ^ 32 ≤ p → ⊥
    numbers t p h l m = let q = mul-le-mul_right_z (pos p) (omega (arith, ints)) h in omega (arith, ints, q)

-- ---- the zeros that the rows are written over
pub zero_square : (m z : Matrix) → m.cols ≡ length m.rows → z ≡ zero_matrix (length m.rows) (length m.rows) → AreSquare m z
zero_square m z h e = grind (arith, common_steps)

pub zero_even : (n : ℕ) (z : Matrix) → z ≡ zero_matrix n n → IsEven z
zero_even n z e = grind (arith, common_steps)

pub zero_blank : (n : ℕ) (z : Matrix) → z ≡ zero_matrix n n → IsBlank n (entry_of z) 0
zero_blank n z e = grind (arith, common_steps)
