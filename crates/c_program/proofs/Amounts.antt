-- Sums of a row's products over indices, and their absolute sums.
use Rattle.std.proofs.Common.{◌≡◌, ℕ, zero, suc, ◌+◌, ◌*◌, ◌^◌, ◌<◌, ◌≤◌, ℤ, pos, ◌*ℤ◌, ◌≤ℤ◌, List, [], ◌∷◌, length, get_or, unsigned_abs, refl, sym, ap, ◌∙◌, arith, le_refl, mul_comm, mul_assoc}
use Rattle.std.proofs.lemmas.Nat.{mul-le}
use Rattle.std.proofs.lemmas.List.{get_or-replicate, length-replicate}
use Rattle.std.proofs.lemmas.List.FromFn.{length-map-range_with_len, get_or-map-range_with_len}
use Rattle.integer_algebra.specs.Sums.{total, at}
use Rattle.integer_algebra.specs.Sizes.{amount}
use Rattle.integer_algebra.proofs.Quoting.{by_ring, quotes}
use Rattle.integer_algebra.proofs.SumLaws.{total_same, total_scale_right}
use Rattle.integer_algebra.proofs.SizeLaws.{amount_same}
use Rattle.integer_algebra.proofs.AmountLaws.{amount_mono, amount_scale}
use Rattle.mat_int.specs.Row.{list_dot}
use Rattle.mat_int.proofs.Indices.{dot_is}
use Rattle.qp_model.specs.machine.Controller.{Numbers}
use Rattle.qp_model.specs.machine.Machine.{lowering_of, raised}
use Rattle.qp_model.specs.machine.AbsoluteSums.{weighted_abs_sum, clamp_magnitudes}
use Rattle.qp_model.proofs.AbsoluteLaws.{abs-shifted, floor-times_le}
use Rattle.c_program.specs.Of.{multiplier_top}

-- ---- a row's absolute sum
amount_front : (n : ℕ) (f : ℕ → ℕ) → amount (suc n) f ≡ f 0 + amount n (λ i. f (suc i))
amount_front zero f = omega arith
amount_front (suc n) f = omega (arith, amount_front n f)

pub weighted_is : (n : ℕ) (xs : List ℤ) (ys : List ℕ) → length xs ≡ n → length ys ≡ n → weighted_abs_sum xs ys ≡ amount n (λ i. unsigned_abs (at xs i) * get_or ys i 0)
weighted_is zero [] ys h k = refl
weighted_is zero (x ∷ xs) ys h k = absurd (omega (arith, h))
weighted_is (suc n) [] ys h k = absurd (omega (arith, h))
weighted_is (suc n) (x ∷ xs) [] h k = absurd (omega (arith, k))
weighted_is (suc n) (x ∷ xs) (y ∷ ys) h k =
    omega (arith, weighted_is n xs ys (omega (arith, h)) (omega (arith, k)), amount_front n (λ i. unsigned_abs (at (x ∷ xs) i) * get_or (y ∷ ys) i 0))

-- ---- rows as they are
pub plain_total : (n : ℕ) (xs ys : List ℤ) (f : ℕ → ℤ) → length xs ≡ n → length ys ≡ n → ((k : ℕ) → k < n → f k ≡ at ys k) → total n (λ k. at xs k *ℤ f k) ≡ list_dot xs ys
plain_total n xs ys f h l e = total_same n (λ k. at xs k *ℤ f k) (λ k. at xs k *ℤ at ys k) (λ k m. ap (λ (y : ℤ). at xs k *ℤ y) (e k m)) ∙ sym (dot_is n xs ys h l)

-- ---- rows that are scaled
pub scaled_total : (n : ℕ) (xs ys : List ℤ) (q : ℤ) (f : ℕ → ℤ) → length xs ≡ n → length ys ≡ n → ((k : ℕ) → k < n → f k ≡ at ys k) →
    total n (λ k. at xs k *ℤ q *ℤ f k) ≡ list_dot xs ys *ℤ q
scaled_total n xs ys q f h l e =
    total_same n (λ k. at xs k *ℤ q *ℤ f k) (λ k. at xs k *ℤ at ys k *ℤ q) (λ k m. ap (λ (y : ℤ). at xs k *ℤ q *ℤ y) (e k m) ∙ turned (at xs k) q (at ys k)) ∙
    total_scale_right n q (λ k. at xs k *ℤ at ys k) ∙ ap (λ (z : ℤ). z *ℤ q) (sym (dot_is n xs ys h l))
  where
    turned : (x q y : ℤ) → x *ℤ q *ℤ y ≡ x *ℤ y *ℤ q
    turned x q y = by_ring (x ∷ q ∷ y ∷ []) (search quotes depth 60 fits 20000) refl

abs_scaled : (x : ℤ) (k top : ℕ) → unsigned_abs (x *ℤ pos (2 ^ k)) * top ≡ 2 ^ k * (unsigned_abs x * top)
abs_scaled x k top = ap (λ (a : ℕ). a * top) (abs-shifted x k ∙ mul_comm (unsigned_abs x) (2 ^ k)) ∙ mul_assoc (2 ^ k) (unsigned_abs x) top

pub scaled_amount : (n : ℕ) (xs : List ℤ) (tops : List ℕ) (k : ℕ) → length xs ≡ n → length tops ≡ n →
    amount n (λ i. unsigned_abs (at xs i *ℤ pos (2 ^ k)) * get_or tops i 0) ≡ weighted_abs_sum xs tops * 2 ^ k
scaled_amount n xs tops k h l =
    amount_same n (λ i. unsigned_abs (at xs i *ℤ pos (2 ^ k)) * get_or tops i 0) (λ i. 2 ^ k * (unsigned_abs (at xs i) * get_or tops i 0)) (λ i m. abs_scaled (at xs i) k (get_or tops i 0)) ∙
    amount_scale n (2 ^ k) (λ i. unsigned_abs (at xs i) * get_or tops i 0) ∙
    ap (λ (a : ℕ). 2 ^ k * a) (sym (weighted_is n xs tops h l)) ∙ mul_comm (2 ^ k) (weighted_abs_sum xs tops)

-- ---- the rows of the multipliers
pub raised_total : (c : Numbers) (xs multipliers : List ℤ) (f : ℕ → ℤ) → length xs ≡ length c.bounds → ((i : ℕ) → i < length c.bounds → f i ≡ at multipliers i) →
    total (length c.bounds) (λ i. at xs i *ℤ pos (2 ^ lowering_of c i) *ℤ f i) ≡ list_dot xs (raised c multipliers)
raised_total c xs multipliers f h e =
    let n = length c.bounds in
    let up = λ (i : ℕ). at multipliers i *ℤ pos (2 ^ lowering_of c i) in
    total_same n (λ i. at xs i *ℤ pos (2 ^ lowering_of c i) *ℤ f i) (λ i. at xs i *ℤ at (raised c multipliers) i)
    (λ i l. ap (λ (y : ℤ). at xs i *ℤ pos (2 ^ lowering_of c i) *ℤ y) (e i l) ∙ turned (at xs i) (pos (2 ^ lowering_of c i)) (at multipliers i) ∙
    ap (λ (y : ℤ). at xs i *ℤ y) (sym (get_or-map-range_with_len up 0 n i i (pos 0) l (omega arith)))) ∙
    sym (dot_is n xs (raised c multipliers) h (length-map-range_with_len up 0 n))
  where
    turned : (x q y : ℤ) → x *ℤ q *ℤ y ≡ x *ℤ (y *ℤ q)
    turned x q y = by_ring (x ∷ q ∷ y ∷ []) (search quotes depth 60 fits 20000) refl

-- a coefficient raised times the greatest multiplier is at most the coefficient times the clamp
raised_top_le : (c : Numbers) (x : ℤ) (i : ℕ) → pos 0 ≤ℤ c.clamp → unsigned_abs (x *ℤ pos (2 ^ lowering_of c i)) * multiplier_top c i ≤ unsigned_abs x * unsigned_abs c.clamp
raised_top_le c x i h =
    let power = 2 ^ lowering_of c i in
    let e : unsigned_abs (x *ℤ pos power) * multiplier_top c i ≡ unsigned_abs x * (multiplier_top c i * power) =
    ap (λ (a : ℕ). a * multiplier_top c i) (abs-shifted x (lowering_of c i)) ∙ mul_assoc (unsigned_abs x) power (multiplier_top c i) ∙
    ap (λ (b : ℕ). unsigned_abs x * b) (mul_comm power (multiplier_top c i)) in
    omega (arith, e, mul-le (unsigned_abs x) (multiplier_top c i * power) (unsigned_abs x) (unsigned_abs c.clamp) (le_refl (unsigned_abs x)) (floor-times_le c.clamp power h))

pub raised_amount : (c : Numbers) (xs : List ℤ) → pos 0 ≤ℤ c.clamp → length xs ≡ length c.bounds →
    amount (length c.bounds) (λ i. unsigned_abs (at xs i *ℤ pos (2 ^ lowering_of c i)) * multiplier_top c i) ≤ weighted_abs_sum xs (clamp_magnitudes c)
raised_amount c xs h e =
    let n = length c.bounds in
    let clamp = unsigned_abs c.clamp in
    omega (
      arith,
      weighted_is n xs (clamp_magnitudes c) e (length-replicate n clamp),
      amount_mono n (λ i. unsigned_abs (at xs i *ℤ pos (2 ^ lowering_of c i)) * multiplier_top c i) (λ i. unsigned_abs (at xs i) * get_or (clamp_magnitudes c) i 0)
          (λ i l. rw (get_or-replicate n i clamp 0 l) (raised_top_le c (at xs i) i h)),
    )
