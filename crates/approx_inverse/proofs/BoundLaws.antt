-- How large entries and residuals get, and how a step to one bit more keeps what is known.
use Rattle.std.proofs.Common.{◌≡◌, inl, inr, ℕ, zero, suc, ◌+◌, ◌*◌, ◌^◌, ◌<◌, ◌≤◌, List, ℤ, pos, negsuc, ◌-ℤ◌, ◌*ℤ◌, ◌≤ℤ◌, neg_ℤ, unsigned_abs, arith, ap, sym, ◌∙◌, refl}
use Rattle.std.specs.Prelude.{FitsSigned}
use Rattle.std.specs.Int.{w128}
use Rattle.std.proofs.lemmas.Int.{ints, unsigned_abs-mul}
use Rattle.std.proofs.lemmas.Bool.{cases_lt}
use Rattle.std.proofs.Math.Nat.{mul-le-mul_left, mul-le-mul_right, pow-le-pow_right}
use Rattle.integer_algebra.specs.Sums.{total, square, dot, image, at, none}
use Rattle.integer_algebra.specs.Division.{ceil_div}
use Rattle.integer_algebra.specs.Sizes.{size}
use Rattle.integer_algebra.proofs.RingLaws.{mul_assoc_z}
use Rattle.integer_algebra.proofs.SumLaws.{total_same, term-le-total}
use Rattle.integer_algebra.proofs.OrderLaws.{square_nonneg_z, mul-le-mul_left_z, le_trans_z}
use Rattle.integer_algebra.proofs.VectorLaws.{dot_comm, dot_same, dot_scale, dot_scale_right, dot_none, image_scale, image_none, image_same}
use Rattle.integer_algebra.proofs.SizeLaws.{at_size}
use Rattle.integer_algebra.proofs.PowerLaws.{two-pow-more}
use Rattle.approx_inverse.specs.Descent.{system_residual, value, aim, IsDescent, IsRoomy, IsSettled}
use Rattle.integer_algebra.specs.Bounds.{absolute}
use Rattle.qp_model.specs.form.GoodSolution.{IsGood}
use Rattle.qp_model.specs.form.Convex.{IsConvex}
use Rattle.approx_inverse.specs.DescentSize.{greatest_row, entry_bound, descent_of_column}
use Rattle.qp_model.proofs.SizeFacts.{greatest_term}
use Rattle.approx_inverse.proofs.MoveLaws.{diagonal_positive, value_same, residual_same}

-- ---- sums of products
-- |sum of b_j y_j| is at most the absolute sum of b times a bound on y
pub dot_bounded : (n : ℕ) (b y : ℕ → ℤ) (m : ℕ) → ((j : ℕ) → j < n → unsigned_abs (y j) ≤ m) → unsigned_abs (dot n b y) ≤ size n b * m
dot_bounded zero b y m h = omega arith
dot_bounded (suc n) b y m h =
    omega (arith, ints, dot_bounded n b y m (λ j l. h j (omega arith)), unsigned_abs-mul (b n) (y n), mul-le-mul_left (unsigned_abs (b n)) (h n (omega arith)))

-- the greatest entry
pub record Top (n : ℕ) (y : ℕ → ℤ) : Type 0 where
  pub index : ℕ
  pub inside : index < n
  pub most : (j : ℕ) → j < n → unsigned_abs (y j) ≤ unsigned_abs (y index)

pub top_of : (n : ℕ) (y : ℕ → ℤ) → Top (suc n) y
top_of zero y = record { index = 0; inside = omega arith; most = λ j l. (let e : j ≡ 0 = omega arith in rw e (omega arith)) }
top_of (suc n) y = let g = top_of n y in elim (cases_lt (unsigned_abs (y g.index)) (unsigned_abs (y (suc n)))) [
  | inl l ↦ record {
    index = suc n;
    inside = omega arith;
    most = λ j m. elim (cases_lt j (suc n)) [
      | inl o ↦ omega (arith, g.most j o)
      | inr o ↦ (let e : j ≡ suc n = omega arith in rw e (omega arith))
    ];
  }
  | inr l ↦ record {
    index = g.index;
    inside = omega (arith, g.inside);
    most = λ j m. elim (cases_lt j (suc n)) [
      | inl o ↦ g.most j o
      | inr o ↦ (let e : j ≡ suc n = omega arith in rw e l)
    ];
  }
]

-- ---- the start
pub value_none : (n : ℕ) (h : ℕ → ℕ → ℤ) (b : ℕ → ℤ) → value n h b none ≡ pos 0
value_none n h b = close _ _ (dot_comm n none (image n h none) ∙ dot_none n (image n h none)) (dot_none n b)
  where
    close : (p q : ℤ) → p ≡ pos 0 → q ≡ pos 0 → p -ℤ pos 2 *ℤ q ≡ pos 0
    close p q e f = rw (e, f) refl

pub starts : (n : ℕ) (h : ℕ → ℕ → ℤ) (c : List ℤ) (x r : ℕ → ℤ) → ((k : ℕ) → k < n → x k ≡ pos 0) → ((k : ℕ) → k < n → r k ≡ neg_ℤ (at c k)) → IsDescent n h (aim 0 c) x r
starts n h c x r zeros rests = record {
  rest = λ i l. rests i l ∙ close _ (at c i) (image_same n h x none i zeros ∙ image_none n h i);
  low = rw (value_same n h (aim 0 c) x none zeros ∙ value_none n h (aim 0 c)) (omega (arith, ints));
}
  where
    close : (m z : ℤ) → m ≡ pos 0 → neg_ℤ z ≡ m -ℤ pos 1 *ℤ z
    close m z e = rw e (omega (arith, ints))

-- ---- one bit more
aim_more : (l : ℕ) (c : List ℤ) (j : ℕ) → aim (l + 1) c j ≡ pos 2 *ℤ aim l c j
aim_more l c j = rw (two-pow-more l) (close (2 ^ l) (at c j))
  where
    close : (p : ℕ) (z : ℤ) → pos (2 * p) *ℤ z ≡ pos 2 *ℤ (pos p *ℤ z)
    close p z = mul_assoc_z (pos 2) (pos p) z

pub doubled_residual : (n : ℕ) (h : ℕ → ℕ → ℤ) (c : List ℤ) (l : ℕ) (x : ℕ → ℤ) (i : ℕ) → system_residual n h (aim (l + 1) c) (λ k. pos 2 *ℤ x k) i ≡ pos 2 *ℤ system_residual n h (aim l c) x i
doubled_residual n h c l x i = close _ _ (image n h x i) (aim l c i) (image_scale n h (pos 2) x i) (aim_more l c i)
  where
    close : (m a p b : ℤ) → m ≡ pos 2 *ℤ p → a ≡ pos 2 *ℤ b → m -ℤ a ≡ pos 2 *ℤ (p -ℤ b)
    close m a p b e f = omega (arith, ints)

pub doubled_value : (n : ℕ) (h : ℕ → ℕ → ℤ) (c : List ℤ) (l : ℕ) (x : ℕ → ℤ) → value n h (aim (l + 1) c) (λ k. pos 2 *ℤ x k) ≡ pos 4 *ℤ value n h (aim l c) x
doubled_value n h c l x =
    let y = λ (k : ℕ). pos 2 *ℤ x k in
    close _ _ _ _ (dot n x (image n h x)) (dot n (aim l c) x)
    (dot_scale n (pos 2) x (image n h y))
    (dot_same n x (image n h y) (λ i. pos 2 *ℤ image n h x i) (λ i k. image_scale n h (pos 2) x i) ∙ dot_scale_right n (pos 2) x (image n h x))
    (total_same n _ _ (λ j k. ap (λ (z : ℤ). z *ℤ (pos 2 *ℤ x j)) (aim_more l c j)) ∙ dot_scale n (pos 2) (aim l c) y)
    (dot_scale_right n (pos 2) (aim l c) x)
  where
    close : (yy xy b d q a : ℤ) → yy ≡ pos 2 *ℤ xy → xy ≡ pos 2 *ℤ q → b ≡ pos 2 *ℤ d → d ≡ pos 2 *ℤ a → yy -ℤ pos 2 *ℤ b ≡ pos 4 *ℤ (q -ℤ pos 2 *ℤ a)
    close yy xy b d q a e f g k = omega (arith, ints)

pub doubled : (n : ℕ) (h : ℕ → ℕ → ℤ) (c : List ℤ) (l : ℕ) (x r y s : ℕ → ℤ) → IsDescent n h (aim l c) x r → ((k : ℕ) → k < n → y k ≡ pos 2 *ℤ x k) → ((k : ℕ) → k < n → s k ≡ pos 2 *ℤ r k) →
    IsDescent n h (aim (l + 1) c) y s
doubled n h c l x r y s at_x ys ss = record {
  rest = λ i k. ss i k ∙ ap (λ (z : ℤ). pos 2 *ℤ z) (at_x.rest i k) ∙ sym (doubled_residual n h c l x i) ∙ residual_same n h (aim (l + 1) c) (λ k. pos 2 *ℤ x k) y i (λ k m. sym (ys k m));
  low = rw (value_same n h (aim (l + 1) c) y (λ k. pos 2 *ℤ x k) ys ∙ doubled_value n h c l x) (four (value n h (aim l c) x) at_x.low);
}
  where
    four : (v : ℤ) → v ≤ℤ pos 0 → (pos 4 *ℤ v) ≤ℤ pos 0
    four v h = omega (arith, ints)

-- ---- entries where the value is not above 0
-- floor m m ≤ 2 s m gives floor m ≤ 2 s
cancel : (f m s : ℕ) → f * (m * m) ≤ 2 * (s * m) → f * m ≤ 2 * s
cancel f zero s h = omega arith
cancel f (suc k) s h = elim (cases_lt (2 * s) (f * suc k)) [
  | inl l ↦ absurd (let g = mul-le-mul_right (suc k) (over (2 * s) (f * suc k) l) in omega (arith, g))
  | inr l ↦ l
]
  where
    over : (a b : ℕ) → a < b → a + 1 ≤ b
    over a b h = omega arith

top_bounded : (n : ℕ) (h : ℕ → ℕ → ℤ) (b y : ℕ → ℤ) (floor : ℤ) → IsConvex n h floor → value n h b y ≤ℤ pos 0 → (i : ℕ) → i < n →
    ((j : ℕ) → j < n → unsigned_abs (y j) ≤ unsigned_abs (y i)) → unsigned_abs floor * unsigned_abs (y i) ≤ 2 * size n b
top_bounded n h b y floor convex low i l most =
    cancel (unsigned_abs floor) (unsigned_abs (y i)) (size n b)
    (close floor (square (y i)) (total n (λ j. square (y j))) (dot n y (image n h y)) (dot n b y) _ _ (square_abs (y i)) convex.positive
    (term-le-total n (λ j. square (y j)) (λ j k. square_nonneg_z (y j)) i l) (convex.curved y) low (dot_bounded n b y (unsigned_abs (y i)) most))
  where
    square_abs : (z : ℤ) → square z ≡ pos (unsigned_abs z * unsigned_abs z)
    square_abs (pos a) = omega (arith, ints)
    square_abs (negsuc a) = omega (arith, ints)

    close : (floor s t q d : ℤ) (w m : ℕ) → s ≡ pos w → pos 1 ≤ℤ floor → s ≤ℤ t → (floor *ℤ t) ≤ℤ q → (q -ℤ pos 2 *ℤ d) ≤ℤ pos 0 → unsigned_abs d ≤ m →
        unsigned_abs floor * w ≤ 2 * m
    close (negsuc f) s t q d w m e p a c low k = absurd (omega (arith, ints))
    close (pos f) s t q d w m e p a c low k =
        let x = mul-le-mul_left_z (pos f) {a = s} {b = t} (omega (arith, ints)) a in
        let y : (pos f *ℤ pos w) ≤ℤ q = le_trans_z (rw e at x) c in
        omega (arith, ints, y)

pub entry_bounded : (n : ℕ) (h : ℕ → ℕ → ℤ) (b y : ℕ → ℤ) (floor : ℤ) → IsConvex n h floor → value n h b y ≤ℤ pos 0 → (i : ℕ) → i < n →
    unsigned_abs floor * unsigned_abs (y i) ≤ 2 * size n b
entry_bounded zero h b y floor convex low i l = absurd (omega arith)
entry_bounded (suc n) h b y floor convex low i l =
    let g = top_of n y in
    omega (arith, top_bounded (suc n) h b y floor convex low g.index g.inside g.most, mul-le-mul_left (unsigned_abs floor) (g.most i l))

pub rest_bounded : (n : ℕ) (h : ℕ → ℕ → ℤ) (b y : ℕ → ℤ) (m : ℕ) (i : ℕ) → i < n → ((j : ℕ) → j < n → unsigned_abs (y j) ≤ m) →
    unsigned_abs (system_residual n h b y i) ≤ size n (h i) * m + size n b
rest_bounded n h b y m i l k = close (image n h y i) (b i) _ _ (dot_bounded n (h i) y m k) (at_size i n b l)
  where
    close : (p q : ℤ) (u v : ℕ) → unsigned_abs p ≤ u → unsigned_abs q ≤ v → unsigned_abs (p -ℤ q) ≤ u + v
    close p q u v a b = omega (arith, ints)

-- ---- the bounds of the contract
pub size_aim : (n f : ℕ) (c : List ℤ) → size n (aim f c) ≡ 2 ^ f * size n (at c)
size_aim zero f c = omega arith
size_aim (suc n) f c = omega (arith, size_aim n f c, unsigned_abs-mul (pos (2 ^ f)) (at c n))

pub below_ceil : (a d y : ℕ) → 1 ≤ d → d * y ≤ a → y ≤ ceil_div a d
below_ceil a d y p h = elim (cases_lt (ceil_div a d) y) [
  | inl l ↦ absurd (let g = mul-le-mul_left d (over (ceil_div a d) y l) in omega (arith, g))
  | inr l ↦ l
]
  where
    over : (a b : ℕ) → a < b → a + 1 ≤ b
    over a b h = omega arith

powers : (l f : ℕ) → l ≤ f → 2 ^ l ≤ 2 ^ f
powers l f h = pow-le-pow_right {n = 2} (omega arith) h

-- of a vector at l bits, by the bound at f bits
pub entry_within : (n : ℕ) (h : ℕ → ℕ → ℤ) (c : List ℤ) (y : ℕ → ℤ) (floor : ℤ) (l f : ℕ) → IsConvex n h floor → l ≤ f → value n h (aim l c) y ≤ℤ pos 0 → (i : ℕ) → i < n →
    unsigned_abs (y i) ≤ entry_bound n (at c) floor f
entry_within n h c y floor l f convex order low i k =
    below_ceil (2 ^ (f + 1) * size n (at c)) (unsigned_abs floor) (unsigned_abs (y i)) (one floor convex.positive)
    (close (unsigned_abs floor * unsigned_abs (y i)) _ (2 ^ l) (2 ^ f) (2 ^ (f + 1)) (size n (at c)) (entry_bounded n h (aim l c) y floor convex low i k) (size_aim n l c)
    (powers l f order) (two-pow-more f))
  where
    one : (z : ℤ) → pos 1 ≤ℤ z → 1 ≤ unsigned_abs z
    one z h = omega (arith, ints)

    close : (u s o p q c : ℕ) → u ≤ 2 * s → s ≡ o * c → o ≤ p → q ≡ 2 * p → u ≤ q * c
    close u s o p q c h e g f = rw f (omega (arith, ap (λ (n : ℕ). 2 * n) e, mul-le-mul_right c g))

-- the numbers of the quantity
room : (hm row x c1 l f q e r d : ℕ) → 1 ≤ d → d ≤ row → row ≤ hm → l ≤ f → q ≡ 2 * f → 2 * hm * (x + 1) + q * c1 ≤ 2 ^ 126 → e ≤ x → r ≤ row * x + l * c1 →
    (e ≤ 2 ^ 125) × (r ≤ 2 ^ 125) × (d ≤ 2 ^ 125)
room hm row x c1 l f q e r d d1 dr rm lf qf all ex rr =
    let a = mul-le-mul_right x rm in
    let b = mul-le-mul_right c1 lf in
    let h1 : 1 ≤ hm = omega arith in
    let g = mul-le-mul_right x h1 in
    let w : q * c1 ≡ 2 * (f * c1) = rw qf (omega arith) in
    (omega (arith, g), omega (arith, a, b, w), omega (arith, g))

pub roomy_from : (n : ℕ) (h : ℕ → ℕ → ℤ) (c : List ℤ) (floor : ℤ) (l f : ℕ) → IsConvex n h floor → l ≤ f → descent_of_column n h (at c) floor f ≤ 2 ^ 126 → IsRoomy n h (aim l c)
roomy_from n h c floor l f convex order all =
    record {
      entry = λ y low i k. (numbers y low i k).0;
      rest = λ y low i k. (numbers y low i k).1;
      diagonal = λ i k. diagonal i k;
    }
  where
    positive : (z : ℤ) → pos 1 ≤ℤ z → 1 ≤ unsigned_abs z
    positive z h = omega (arith, ints)

    back : (z : ℤ) → unsigned_abs z ≤ 2 ^ 125 → z ≤ℤ pos (2 ^ 125)
    back z h = omega (arith, ints)

    numbers : (y : ℕ → ℤ) → value n h (aim l c) y ≤ℤ pos 0 → (i : ℕ) → i < n →
        (unsigned_abs (y i) ≤ 2 ^ 125) × (unsigned_abs (system_residual n h (aim l c) y i) ≤ 2 ^ 125) × (unsigned_abs (h i i) ≤ 2 ^ 125)
    numbers y low i k =
        let x = entry_bound n (at c) floor f in
        let within : (j : ℕ) → j < n → unsigned_abs (y j) ≤ x = λ j m. entry_within n h c y floor l f convex order low j m in
        room (greatest_row n n h) (size n (h i)) x (size n (at c)) (2 ^ l) (2 ^ f) (2 ^ (f + 1)) (unsigned_abs (y i)) (unsigned_abs (system_residual n h (aim l c) y i)) (unsigned_abs (h i i))
        (positive (h i i) (diagonal_positive n h floor i k convex)) (at_size i n (h i) k) (greatest_term i n (λ k. size n (h k)) k) (powers l f order) (two-pow-more f) all
        (within i k) (rw (← (size_aim n l c)) (rest_bounded n h (aim l c) y x i k within))

    diagonal : (i : ℕ) → i < n → h i i ≤ℤ pos (2 ^ 125)
    diagonal i k = back (h i i) (numbers none (low_none) i k).2
      where
        low_none : value n h (aim l c) none ≤ℤ pos 0
        low_none = rw (value_none n h (aim l c)) (omega (arith, ints))

-- ---- loops over absolute sums

pub negated_fits : (n : ℕ) (c : ℕ → ℤ) (k : ℕ) → size n c ≤ 2 ^ 126 → k < n → FitsSigned w128 (neg_ℤ (c k))
negated_fits n c k h l = close (c k) (omega (arith, at_size k n c l))
  where
    close : (z : ℤ) → unsigned_abs z ≤ 2 ^ 126 → FitsSigned w128 (neg_ℤ z)
    close z h = omega (arith, ints)

-- what a doubling asks
pub double_fits : (n : ℕ) (h : ℕ → ℕ → ℤ) (c : List ℤ) (l : ℕ) (x r : ℕ → ℤ) → IsRoomy n h (aim (l + 1) c) → IsDescent n h (aim l c) x r →
    (k : ℕ) → k < n → FitsSigned w128 (pos 2 *ℤ x k) × FitsSigned w128 (pos 2 *ℤ r k)
double_fits n h c l x r roomy at_x k m = (
  close (pos 2 *ℤ x k) (roomy.entry (λ k. pos 2 *ℤ x k) low k m),
  rw (at_x.rest k m, ← (doubled_residual n h c l x k)) (close (system_residual n h (aim (l + 1) c) (λ k. pos 2 *ℤ x k) k) (roomy.rest (λ k. pos 2 *ℤ x k) low k m)),
)
  where
    low : value n h (aim (l + 1) c) (λ k. pos 2 *ℤ x k) ≤ℤ pos 0
    low = rw (doubled_value n h c l x) (four (value n h (aim l c) x) at_x.low)
      where
        four : (v : ℤ) → v ≤ℤ pos 0 → (pos 4 *ℤ v) ≤ℤ pos 0
        four v h = omega (arith, ints)

    close : (z : ℤ) → unsigned_abs z ≤ 2 ^ 125 → FitsSigned w128 z
    close z h = omega (arith, ints)

-- ---- what is settled is good
pub good_from : (n : ℕ) (h : ℕ → ℕ → ℤ) (f : ℕ) (c : List ℤ) (x r : ℕ → ℤ) → IsDescent n h (aim f c) x r → IsSettled n h r → IsGood n h f (at c) x
good_from n h f c x r at_x settled = λ j l. close (r j) (image n h x j) (aim f c j) (h j j) (at_x.rest j l) (settled j l)
  where
    close : (r m a d : ℤ) → r ≡ m -ℤ a → (pos 2 *ℤ absolute r) ≤ℤ d → ((pos 2 *ℤ (m -ℤ a)) ≤ℤ d) × ((pos 2 *ℤ (a -ℤ m)) ≤ℤ d)
    close r m a d e k = (omega (arith, ints), omega (arith, ints))

-- the absolute sum of a column that has room
pub column_small : (n : ℕ) (h : ℕ → ℕ → ℤ) (c : ℕ → ℤ) (floor : ℤ) (f : ℕ) → descent_of_column n h c floor f ≤ 2 ^ 126 → size n c ≤ 2 ^ 126
column_small n h c floor f room = close (2 * greatest_row n n h * (entry_bound n c floor f + 1)) (2 ^ (f + 1)) (2 ^ f) (size n c) (2 ^ 126) (two-pow-more f) (one-le-pow f) room
  where
    one-le-pow : (f : ℕ) → 1 ≤ 2 ^ f
    one-le-pow f = powers 0 f (omega arith)

    close : (a p q s m : ℕ) → p ≡ 2 * q → 1 ≤ q → a + p * s ≤ m → s ≤ m
    close a p q s m e o h = let g = mul-le-mul_right s o in let k : p * s ≡ 2 * (q * s) = rw e (omega arith) in omega (arith, g, k)
