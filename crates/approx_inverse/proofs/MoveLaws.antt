-- One move of one entry: what becomes of the residual and of the value.
use Rattle.std.proofs.Common.{◌≡◌, ◌≢◌, ◌↔◌, false, IsTrue, inl, inr, ℕ, zero, suc, ◌<◌, ◌≤◌, [], ◌∷◌, nat_eq, if◌then◌else◌, ℤ, pos, negsuc, ◌+ℤ◌, ◌-ℤ◌, ◌*ℤ◌, ◌≤ℤ◌, ◌<ℤ◌, neg_ℤ, arith, ap, sym, ◌∙◌, refl}
use lib.Signed.{lt_z}
use Rattle.std.specs.Prelude.{FitsSigned, unsigned_abs, ◌^◌}
use Rattle.std.specs.Int.{w128, int_div_euclid}
use Rattle.std.proofs.lemmas.Int.{ints, by_lt_z}
use Rattle.std.proofs.lemmas.Bool.{eq-eqb}
use Rattle.std.proofs.lemmas.Bool.Decides.{eqb_tells}
use Rattle.integer_algebra.specs.Sums.{total, square, dot, image}
use Rattle.integer_algebra.specs.Bounds.{absolute}
use Rattle.integer_algebra.proofs.OrderLaws.{le_by, add-le-add_z, mul_pos_z, square_nonneg_z, mul-le-mul_right_z}
use Rattle.integer_algebra.proofs.SumLaws.{total_same, total_nonneg, total_add, total_scale}
use Rattle.integer_algebra.proofs.BlockLaws.{total_single, choose_times}
use Rattle.integer_algebra.proofs.VectorLaws.{dot_comm, dot_same, dot_add, dot_add_right, image_same, image_add}
use Rattle.integer_algebra.proofs.Quoting.{by_ring, quotes}
use Rattle.approx_inverse.specs.Descent.{system_residual, value, IsNearestQuotient, IsDescent, IsRoomy}
use Rattle.qp_model.specs.form.Convex.{IsConvex}

-- t at j, and 0 elsewhere
abbrev pub point : ℕ → ℤ → ℕ → ℤ
point j t i = if nat_eq i j then t else pos 0

pub dot_point : (n j : ℕ) (t : ℤ) (g : ℕ → ℤ) → j < n → dot n (point j t) g ≡ t *ℤ g j
dot_point n j t g l = total_same n _ _ (λ i k. choose_times (nat_eq i j) t (g i)) ∙ total_single n j (λ i. t *ℤ g i) l

pub image_point : (n : ℕ) (h : ℕ → ℕ → ℤ) (j : ℕ) (t : ℤ) (i : ℕ) → j < n → image n h (point j t) i ≡ t *ℤ h i j
image_point n h j t i l = dot_comm n (h i) (point j t) ∙ dot_point n j t (h i) l

-- the residual after x_j grew by t
pub moved_residual : (n : ℕ) (h : ℕ → ℕ → ℤ) (b x : ℕ → ℤ) (j : ℕ) (t : ℤ) (i : ℕ) → j < n →
    system_residual n h b (λ k. x k +ℤ point j t k) i ≡ system_residual n h b x i +ℤ t *ℤ h i j
moved_residual n h b x j t i l =
    together _ _ _ _ (b i) (image_add n h x (point j t) i) (image_point n h j t i l)
  where
    together : (a p q s c : ℤ) → a ≡ p +ℤ q → q ≡ s → a -ℤ c ≡ p -ℤ c +ℤ s
    together a p q s c e f = omega (arith, ints)

-- the value
pub moved_value : (n : ℕ) (h : ℕ → ℕ → ℤ) (b x : ℕ → ℤ) (j : ℕ) (t : ℤ) → j < n →
    ((i k : ℕ) → i < n → k < n → h i k ≡ h k i) →
    value n h b (λ k. x k +ℤ point j t k) ≡ value n h b x +ℤ (pos 2 *ℤ t *ℤ system_residual n h b x j +ℤ t *ℤ t *ℤ h j j)
moved_value n h b x j t l sym_h =
    let d = point j t in
    let y = λ (k : ℕ). x k +ℤ d k in
    let first = dot_add n x d (image n h y) in
    let second = dot_same n x (image n h y) (λ i. image n h x i +ℤ image n h d i) (λ i k. image_add n h x d i) ∙ dot_add_right n x (image n h x) (image n h d) in
    let third = dot_point n j t (image n h y) l ∙ ap (λ (z : ℤ). t *ℤ z) (image_add n h x d j) in
    let crossed = dot_same n x (image n h d) (λ i. t *ℤ h j i) (λ i k. image_point n h j t i l ∙ ap (λ (z : ℤ). t *ℤ z) (sym_h i j k l)) in
    let fourth = crossed ∙ total_same n _ _ (λ i k. turn (x i) t (h j i)) ∙ total_scale n t (λ i. h j i *ℤ x i) in
    let corner = image_point n h j t j l in
    let aimed = dot_add_right n b x d ∙ ap (λ (z : ℤ). dot n b x +ℤ z) (dot_comm n b d ∙ dot_point n j t b l) in
    together t (h j j) (image n h x j) (b j) (dot n x (image n h x)) (dot n b x) _ _ _ _ _ _ first second third fourth corner aimed
  where
    turn : (a t c : ℤ) → a *ℤ (t *ℤ c) ≡ t *ℤ (c *ℤ a)
    turn a t c = by_ring (a ∷ t ∷ c ∷ []) (search quotes depth 60 fits 20000) refl

    together : (t hjj hx bj q bx yy xy dy xd hd byy : ℤ) → yy ≡ xy +ℤ dy → xy ≡ q +ℤ xd → dy ≡ t *ℤ (hx +ℤ hd) → xd ≡ t *ℤ hx → hd ≡ t *ℤ hjj → byy ≡ bx +ℤ t *ℤ bj →
        yy -ℤ pos 2 *ℤ byy ≡ q -ℤ pos 2 *ℤ bx +ℤ (pos 2 *ℤ t *ℤ (hx -ℤ bj) +ℤ t *ℤ t *ℤ hjj)
    together t hjj hx bj q bx yy xy dy xd hd byy e1 e2 e3 e4 e5 e6 =
        rw (e1, e2, e3, e4, e5, e6) (by_ring (t ∷ hjj ∷ hx ∷ bj ∷ q ∷ bx ∷ []) (search quotes depth 60 fits 20000) refl)

sign_up : (q d : ℤ) → pos 0 ≤ℤ d → pos 0 <ℤ (q *ℤ d) → pos 0 <ℤ q
sign_up q d p h = by_lt_z (pos 0) q (λ l. l) (λ l. absurd (let k = mul-le-mul_right_z d {a = q} {b = pos 0} p l in omega (arith, ints, k)))

sign_down : (q d : ℤ) → pos 0 ≤ℤ d → (q *ℤ d) <ℤ pos 0 → q <ℤ pos 0
sign_down q d p h = by_lt_z q (pos 0) (λ l. l) (λ l. absurd (let k = mul-le-mul_right_z d {a = pos 0} {b = q} p l in omega (arith, ints, k)))

-- a step to the nearest lowers the value
pub falls : (r d q : ℤ) → IsNearestQuotient r d q → pos 1 ≤ℤ d → d <ℤ (pos 2 *ℤ absolute r) → (pos 2 *ℤ neg_ℤ q *ℤ r +ℤ neg_ℤ q *ℤ neg_ℤ q *ℤ d) <ℤ pos 0
falls r d q near p h = by_lt_z r (pos 0)
    (λ l. down r d q (q *ℤ d) refl near.low near.high p (omega (arith, ints)))
    (λ l. up r d q (q *ℤ d) refl near.low near.high p (omega (arith, ints)))
  where
    turn : (r d q : ℤ) → pos 2 *ℤ neg_ℤ q *ℤ r +ℤ neg_ℤ q *ℤ neg_ℤ q *ℤ d ≡ neg_ℤ (q *ℤ (pos 2 *ℤ r -ℤ q *ℤ d))
    turn r d q = by_ring (r ∷ d ∷ q ∷ []) (search quotes depth 60 fits 20000) refl

    turned : (r d q : ℤ) → pos 2 *ℤ neg_ℤ q *ℤ r +ℤ neg_ℤ q *ℤ neg_ℤ q *ℤ d ≡ neg_ℤ (neg_ℤ q *ℤ (q *ℤ d -ℤ pos 2 *ℤ r))
    turned r d q = by_ring (r ∷ d ∷ q ∷ []) (search quotes depth 60 fits 20000) refl

    minus : (a : ℤ) → pos 0 <ℤ a → neg_ℤ a <ℤ pos 0
    minus a h = omega (arith, ints)

    up : (r d q m : ℤ) → m ≡ q *ℤ d → (pos 2 *ℤ m) ≤ℤ (pos 2 *ℤ r +ℤ d) → (pos 2 *ℤ r) ≤ℤ (pos 2 *ℤ m +ℤ d) → pos 1 ≤ℤ d → d <ℤ (pos 2 *ℤ r) →
        (pos 2 *ℤ neg_ℤ q *ℤ r +ℤ neg_ℤ q *ℤ neg_ℤ q *ℤ d) <ℤ pos 0
    up r d q m e low high p h =
        let big : pos 0 <ℤ m = omega (arith, ints) in
        let room : pos 0 <ℤ (pos 2 *ℤ r -ℤ m) = omega (arith, ints) in
        rw (turn r d q) (minus _ (mul_pos_z q (pos 2 *ℤ r -ℤ q *ℤ d) (sign_up q d (omega (arith, ints)) (rw e at big)) (rw e at room)))

    down : (r d q m : ℤ) → m ≡ q *ℤ d → (pos 2 *ℤ m) ≤ℤ (pos 2 *ℤ r +ℤ d) → (pos 2 *ℤ r) ≤ℤ (pos 2 *ℤ m +ℤ d) → pos 1 ≤ℤ d → (pos 2 *ℤ r +ℤ d) <ℤ pos 0 →
        (pos 2 *ℤ neg_ℤ q *ℤ r +ℤ neg_ℤ q *ℤ neg_ℤ q *ℤ d) <ℤ pos 0
    down r d q m e low high p h =
        let small : m <ℤ pos 0 = omega (arith, ints) in
        let room : pos 0 <ℤ (m -ℤ pos 2 *ℤ r) = omega (arith, ints) in
        let neg : (a : ℤ) → a <ℤ pos 0 → pos 0 <ℤ neg_ℤ a = λ a l. omega (arith, ints) in
        rw (turned r d q) (minus _ (mul_pos_z (neg_ℤ q) (q *ℤ d -ℤ pos 2 *ℤ r) (neg q (sign_down q d (omega (arith, ints)) (rw e at small))) (rw e at room)))

-- the value is not below this
pub value_least : (n : ℕ) (h : ℕ → ℕ → ℤ) (b x : ℕ → ℤ) (floor : ℤ) → IsConvex n h floor → pos 0 ≤ℤ (value n h b x +ℤ dot n b b)
value_least n h b x floor convex =
    together floor (total n (λ j. square (x j))) (dot n x (image n h x)) (dot n b x) (dot n b b) convex.positive
    (total_nonneg n (λ j. square (x j)) (λ j l. square_nonneg_z (x j))) (convex.curved x) spread
  where
    apart : (a c : ℤ) → square (a -ℤ c) ≡ square a +ℤ (negsuc 1 *ℤ (c *ℤ a) +ℤ c *ℤ c)
    apart a c = by_ring (a ∷ c ∷ []) (search quotes depth 60 fits 20000) refl

    spread : pos 0 ≤ℤ (total n (λ j. square (x j)) +ℤ (negsuc 1 *ℤ dot n b x +ℤ dot n b b))
    spread = simp (total_add, total_scale) at
        (total_nonneg n (λ j. square (x j) +ℤ (negsuc 1 *ℤ (b j *ℤ x j) +ℤ b j *ℤ b j)) (λ j l. rw (← (apart (x j) (b j))) (square_nonneg_z (x j -ℤ b j))))

    together : (floor s q bx bb : ℤ) → pos 1 ≤ℤ floor → pos 0 ≤ℤ s → (floor *ℤ s) ≤ℤ q → pos 0 ≤ℤ (s +ℤ (negsuc 1 *ℤ bx +ℤ bb)) → pos 0 ≤ℤ (q -ℤ pos 2 *ℤ bx +ℤ bb)
    together floor s q bx bb f p c l =
        le_by (add-le-add_z (mul-le-mul_right_z s p f) (add-le-add_z c l)) (by_ring (floor ∷ s ∷ q ∷ bx ∷ bb ∷ []) (search quotes depth 60 fits 20000) refl)

-- ---- the quotient as code makes it
div_floor : (z d : ℤ) → pos 1 ≤ℤ d → ((int_div_euclid z d *ℤ d) ≤ℤ z) × (z <ℤ (int_div_euclid z d *ℤ d +ℤ d))
div_floor (pos a) (pos zero) h = absurd (omega (arith, ints))
div_floor (pos a) (pos (suc b)) h = (omega (arith, ints), omega (arith, ints))
div_floor (negsuc a) (pos zero) h = absurd (omega (arith, ints))
div_floor (negsuc a) (pos (suc b)) h = (omega (arith, ints), omega (arith, ints))
div_floor (pos a) (negsuc b) h = absurd h.le
div_floor (negsuc a) (negsuc b) h = absurd h.le

pub nearest_is : (r d : ℤ) → pos 1 ≤ℤ d → IsNearestQuotient r d (int_div_euclid (pos 2 *ℤ r +ℤ d) (pos 2 *ℤ d))
nearest_is r d h =
    let q = int_div_euclid (pos 2 *ℤ r +ℤ d) (pos 2 *ℤ d) in
    let k = div_floor (pos 2 *ℤ r +ℤ d) (pos 2 *ℤ d) (omega (arith, ints)) in
    close r d (q *ℤ d) (q *ℤ (pos 2 *ℤ d)) q refl (turn q d) k.0 k.1
  where
    turn : (q d : ℤ) → q *ℤ (pos 2 *ℤ d) ≡ pos 2 *ℤ (q *ℤ d)
    turn q d = by_ring (q ∷ d ∷ []) (search quotes depth 60 fits 20000) refl

    close : (r d m w q : ℤ) → m ≡ q *ℤ d → w ≡ pos 2 *ℤ m → w ≤ℤ (pos 2 *ℤ r +ℤ d) → (pos 2 *ℤ r +ℤ d) <ℤ (w +ℤ pos 2 *ℤ d) → IsNearestQuotient r d q
    close r d m w q e f h k = record { low = rw (← e) (omega (arith, ints)); high = rw (← e) (omega (arith, ints)) }

-- ---- the diagonal
pub diagonal_positive : (n : ℕ) (h : ℕ → ℕ → ℤ) (floor : ℤ) (j : ℕ) → j < n → IsConvex n h floor → pos 1 ≤ℤ h j j
diagonal_positive n h floor j l convex =
    let d = point j (pos 1) in
    let squares : total n (λ i. square (d i)) ≡ pos 1 = dot_point n j (pos 1) d l ∙ one in
    let form = dot_point n j (pos 1) (image n h d) l ∙ ap (λ (z : ℤ). pos 1 *ℤ z) (image_point n h j (pos 1) j l) in
    together floor (h j j) _ _ convex.positive squares form (convex.curved d)
  where
    one : pos 1 *ℤ point j (pos 1) j ≡ pos 1
    one = rw (eq-eqb j j refl) refl

    together : (floor d s q : ℤ) → pos 1 ≤ℤ floor → s ≡ pos 1 → q ≡ pos 1 *ℤ (pos 1 *ℤ d) → (floor *ℤ s) ≤ℤ q → pos 1 ≤ℤ d
    together floor d s q p e f h = let k = rw (e, f) at h in omega (arith, ints, k)

-- ---- vectors that are equal below n
pub residual_same : (n : ℕ) (h : ℕ → ℕ → ℤ) (b x y : ℕ → ℤ) (i : ℕ) → ((k : ℕ) → k < n → x k ≡ y k) → system_residual n h b x i ≡ system_residual n h b y i
residual_same n h b x y i e = ap (λ (z : ℤ). z -ℤ b i) (image_same n h x y i e)

pub value_same : (n : ℕ) (h : ℕ → ℕ → ℤ) (b x y : ℕ → ℤ) → ((k : ℕ) → k < n → x k ≡ y k) → value n h b x ≡ value n h b y
value_same n h b x y e =
    together _ _ _ _
    (total_same n _ _ (λ i l. ap (λ (z : ℤ). z *ℤ image n h x i) (e i l) ∙ ap (λ (z : ℤ). y i *ℤ z) (image_same n h x y i e)))
    (dot_same n b x y e)
  where
    together : (p q u v : ℤ) → p ≡ q → u ≡ v → p -ℤ pos 2 *ℤ u ≡ q -ℤ pos 2 *ℤ v
    together p q u v e f = rw (e, f) refl

-- ---- a whole move
module _ (n : ℕ) (h : ℕ → ℕ → ℤ) (b x r : ℕ → ℤ) (j : ℕ) (t floor : ℤ) (l : j < n) (convex : IsConvex n h floor) (at_x : IsDescent n h b x r)
    (near : IsNearestQuotient (r j) (h j j) t) (wide : h j j <ℤ (pos 2 *ℤ absolute (r j))) where
  abbrev pub next : ℕ → ℤ
  next k = x k +ℤ point j (neg_ℤ t) k

  pub next_lower : value n h b next <ℤ value n h b x
  next_lower = rw (moved_value n h b x j (neg_ℤ t) l convex.symmetric, ← (at_x.rest j l))
      (below _ _ (falls (r j) (h j j) t near (diagonal_positive n h floor j l convex) wide))
    where
      below : (v d : ℤ) → d <ℤ pos 0 → (v +ℤ d) <ℤ v
      below v d k = omega (arith, ints)

  pub next_low : value n h b next ≤ℤ pos 0
  next_low = let a = next_lower in let b = at_x.low in omega (arith, ints)

  pub next_rest : (i : ℕ) → i < n → r i -ℤ t *ℤ h j i ≡ system_residual n h b next i
  next_rest i k = together _ _ _ _ t (at_x.rest i k) (convex.symmetric i j k l) (moved_residual n h b x j (neg_ℤ t) i l)
    where
      turn : (p c t : ℤ) → p +ℤ neg_ℤ t *ℤ c ≡ p -ℤ t *ℤ c
      turn p c t = by_ring (p ∷ c ∷ t ∷ []) (search quotes depth 60 fits 20000) refl

      together : (ri p c d t : ℤ) {m : ℤ} → ri ≡ p → c ≡ d → m ≡ p +ℤ neg_ℤ t *ℤ c → ri -ℤ t *ℤ d ≡ m
      together ri p c d t {m} e f g = rw (e, ← f) (sym (g ∙ turn p c t))

  pub next_at : next j ≡ x j -ℤ t
  next_at = rw (eq-eqb j j refl) refl

  pub next_other : (k : ℕ) → k ≢ j → next k ≡ x k
  next_other k ne = elim (eqb_tells k j) [
    | inl e ↦ absurd (ne e.1)
    | inr e ↦ rw e.0 (omega (arith, ints))
  ]

  module _ (roomy : IsRoomy n h b) where
    pub entry_fits : FitsSigned w128 (x j -ℤ t)
    entry_fits = rw (← next_at) (small (next j) (roomy.entry next next_low j l))
      where
        small : (z : ℤ) → unsigned_abs z ≤ 2 ^ 125 → FitsSigned w128 z
        small z k = omega (arith, ints)

    pub rest_fits : (i : ℕ) → i < n → FitsSigned w128 (r i -ℤ t *ℤ h j i)
    rest_fits i k = rw (next_rest i k) (small (system_residual n h b next i) (roomy.rest next next_low i k))
      where
        small : (z : ℤ) → unsigned_abs z ≤ 2 ^ 125 → FitsSigned w128 z
        small z k = omega (arith, ints)

    pub product_fits : (i : ℕ) → i < n → FitsSigned w128 (t *ℤ h j i)
    product_fits i k = small (t *ℤ h j i) (r i) (system_residual n h b next i) (next_rest i k)
        (rw (at_x.rest i k) (roomy.rest x at_x.low i k)) (roomy.rest next next_low i k)
      where
        small : (p u v : ℤ) → u -ℤ p ≡ v → unsigned_abs u ≤ 2 ^ 125 → unsigned_abs v ≤ 2 ^ 125 → FitsSigned w128 p
        small p u v e a b = omega (arith, ints)

  -- the state after the move
  pub arrives : (y s : ℕ → ℤ) → y j ≡ x j -ℤ t → ((k : ℕ) → k < n → k ≢ j → y k ≡ x k) → ((k : ℕ) → k < n → s k ≡ r k -ℤ t *ℤ h j k) →
      IsDescent n h b y s × (value n h b y <ℤ value n h b x)
  arrives y s at_j others rests =
      let same : (k : ℕ) → k < n → next k ≡ y k = λ k m. elim (eqb_tells k j) [
        | inl e ↦ rw e.1 (next_at ∙ sym at_j)
        | inr e ↦ next_other k e.1 ∙ sym (others k m e.1)
      ] in
      let v : value n h b y ≡ value n h b next = sym (value_same n h b next y same) in (
        record {
          rest = λ i k. rests i k ∙ next_rest i k ∙ residual_same n h b next y i same;
          low = rw v next_low;
        },
        rw v next_lower,
      )

-- the measure of the loop
pub measure_falls : (n : ℕ) (h : ℕ → ℕ → ℤ) (b x y : ℕ → ℤ) (floor : ℤ) → IsConvex n h floor → value n h b y <ℤ value n h b x →
    unsigned_abs (value n h b y +ℤ dot n b b) < unsigned_abs (value n h b x +ℤ dot n b b)
measure_falls n h b x y floor convex lower = close (value n h b y) (value n h b x) (dot n b b) (value_least n h b y floor convex) lower
  where
    close : (a e c : ℤ) → pos 0 ≤ℤ (a +ℤ c) → a <ℤ e → unsigned_abs (a +ℤ c) < unsigned_abs (e +ℤ c)
    close a e c p l = omega (arith, ints)

-- ---- the test of a residual, whose twofold or the opposite of that is above the diagonal's entry
pub wide_above : (r d : ℤ) → IsTrue (lt_z d (pos 2 *ℤ r)) → d <ℤ (pos 2 *ℤ absolute r)
wide_above r d h = grind (arith, ints)

pub wide_below : (r d : ℤ) → lt_z d (pos 2 *ℤ r) ≡ false → IsTrue (lt_z d (pos 0 -ℤ pos 2 *ℤ r)) ↔ (d <ℤ (pos 2 *ℤ absolute r))
wide_below r d h = (told r d h, tell r d h)
  where
    told : (r d : ℤ) → lt_z d (pos 2 *ℤ r) ≡ false → IsTrue (lt_z d (pos 0 -ℤ pos 2 *ℤ r)) → d <ℤ (pos 2 *ℤ absolute r)
    told r d h t = grind (arith, ints)

    tell : (r d : ℤ) → lt_z d (pos 2 *ℤ r) ≡ false → d <ℤ (pos 2 *ℤ absolute r) → IsTrue (lt_z d (pos 0 -ℤ pos 2 *ℤ r))
    tell r d h l = grind (arith, ints)
