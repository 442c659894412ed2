-- The certified bounds at numbers alone: `a` is what the averaged plan is over, n the steps, r what another plan is over. The costs c of the average
-- and t of the other plan are over cs times the square of these, residuals over rs times them, and errors over `unit`, whose double is `twice`. A run
-- drives the rows by `drive`, the product of its multipliers and the residuals, and moves by `move`, the sum of the multipliers' squares.
use Rattle.std.proofs.Common.{◌≡◌, ℕ, ◌+◌, ◌*◌, ◌^◌, ◌≤◌, ℤ, pos, ◌+ℤ◌, ◌*ℤ◌, ◌≤ℤ◌, ◌<ℤ◌, [], ◌∷◌, min, inl, inr, arith, ap, subst, refl}
use Rattle.std.proofs.lemmas.Int.{ints}
use Rattle.std.proofs.lemmas.Nat.{pow-add}
use Rattle.std.proofs.lemmas.Bool.{cases_lt}
use Rattle.std.proofs.Math.Nat.{mul-le-mul_right}
use Rattle.std.proofs.Math.Pow.{pow_mono}
use Rattle.integer_algebra.specs.Sums.{square}
use Rattle.integer_algebra.specs.Division.{ceil_div}
use Rattle.integer_algebra.proofs.OrderLaws.{le_of_lt_z, le_trans_z, add-le-add_z, le_by, mul_nonneg_z, mul_pos_z, square_nonneg_z}
use Rattle.integer_algebra.proofs.OrderLaws.{mul-le-mul_left_z, mul-le-mul_right_z, cancel-le_z}
use Rattle.integer_algebra.proofs.DivisionLaws.{le-mul-ceil_div}
use Rattle.integer_algebra.proofs.Quoting.{by_ring, quotes}

-- ---- the gap
-- a run's bound with no multipliers, against any feasible plan
pub gap_closed : (unit twice scale n cs rs a r c t e drive move : ℤ) → pos 0 <ℤ n → pos 0 <ℤ rs → twice ≡ pos 2 *ℤ unit → drive ≡ pos 0 → move ≡ pos 0 →
    (twice *ℤ n *ℤ rs *ℤ square r *ℤ c +ℤ twice *ℤ n *ℤ cs *ℤ a *ℤ r *ℤ drive) ≤ℤ
    (twice *ℤ n *ℤ rs *ℤ square a *ℤ t +ℤ scale *ℤ cs *ℤ rs *ℤ square a *ℤ move +ℤ pos 2 *ℤ n *ℤ cs *ℤ rs *ℤ square r *ℤ square a *ℤ e) →
    (unit *ℤ c *ℤ square r) ≤ℤ ((unit *ℤ t +ℤ e *ℤ cs *ℤ square r) *ℤ square a)
gap_closed unit twice scale n cs rs a r c t e drive move pn ps ht hd hm h =
    cancel-le_z (pos 2 *ℤ (n *ℤ rs)) _ _ (mul_pos_z (pos 2) (n *ℤ rs) (omega (arith, ints)) (mul_pos_z n rs pn ps))
    (le_by (rw (ht, hd, hm) at h) (by_ring (unit ∷ scale ∷ n ∷ cs ∷ rs ∷ a ∷ r ∷ c ∷ t ∷ e ∷ []) (search quotes depth 90 fits 20000) refl))

-- ---- the violation of a row
-- A run's bound with the multiplier g = 2 f at a row with the residual b, which moves by p times its square, against a repair of the average that costs at
-- most f v / vd more.
pub row_part : (unit twice n cs rs a r c t e f g v vd b p drive move : ℤ) →
    pos 0 <ℤ n → pos 0 <ℤ cs → pos 0 ≤ℤ rs → pos 0 <ℤ a → pos 0 <ℤ r → pos 0 ≤ℤ unit → pos 0 ≤ℤ vd →
    twice ≡ pos 2 *ℤ unit → g ≡ pos 2 *ℤ f → drive ≡ g *ℤ r *ℤ b → move ≡ p *ℤ square (g *ℤ r) →
    (twice *ℤ n *ℤ rs *ℤ square r *ℤ c +ℤ twice *ℤ n *ℤ cs *ℤ a *ℤ r *ℤ drive) ≤ℤ
    (twice *ℤ n *ℤ rs *ℤ square a *ℤ t +ℤ unit *ℤ cs *ℤ rs *ℤ square a *ℤ move +ℤ pos 2 *ℤ n *ℤ cs *ℤ rs *ℤ square r *ℤ square a *ℤ e) →
    (vd *ℤ t *ℤ square a) ≤ℤ ((vd *ℤ c +ℤ f *ℤ v *ℤ cs *ℤ square a) *ℤ square r) →
    (pos 2 *ℤ unit *ℤ n *ℤ f *ℤ vd *ℤ b) ≤ℤ ((unit *ℤ n *ℤ f *ℤ v +ℤ (pos 2 *ℤ unit *ℤ p *ℤ square f +ℤ n *ℤ e) *ℤ vd) *ℤ (rs *ℤ a))
row_part unit twice n cs rs a r c t e f g v vd b p drive move pn pc ps pa pr pu pd ht hg hd hm h k =
    cancel-le_z all _ _ positive
    (le_by (add-le-add_z (mul-le-mul_left_z vd pd (rw (ht, hd, hm, hg) at h)) (mul-le-mul_left_z (pos 2 *ℤ unit *ℤ n *ℤ rs) nonneg k))
    (by_ring (unit ∷ n ∷ cs ∷ rs ∷ a ∷ r ∷ c ∷ t ∷ e ∷ f ∷ v ∷ vd ∷ b ∷ p ∷ []) (search quotes depth 90 fits 20000) refl))
  where
    nonneg : pos 0 ≤ℤ (pos 2 *ℤ unit *ℤ n *ℤ rs)
    nonneg = mul_nonneg_z (pos 2 *ℤ unit *ℤ n) rs (mul_nonneg_z (pos 2 *ℤ unit) n (mul_nonneg_z (pos 2) unit (omega (arith, ints)) pu) (le_of_lt_z pn)) ps

    all : ℤ
    all = pos 2 *ℤ cs *ℤ (a *ℤ (r *ℤ r))

    positive : pos 0 <ℤ all
    positive = mul_pos_z (pos 2 *ℤ cs) (a *ℤ (r *ℤ r)) (mul_pos_z (pos 2) cs (omega (arith, ints)) pc) (mul_pos_z a (r *ℤ r) pa (mul_pos_z r r pr pr))

-- The greatest residual v, of a row with the power `greatest` of at most p, against its own repair: at most x / y, if that is at least what steps and
-- errors leave.
pub greatest_within : (unit n over e f v p greatest x y : ℤ) → pos 0 <ℤ unit → pos 0 <ℤ n → pos 0 <ℤ f → pos 0 <ℤ over → pos 0 ≤ℤ y → greatest ≤ℤ p →
    (pos 2 *ℤ unit *ℤ n *ℤ f *ℤ over *ℤ v) ≤ℤ ((unit *ℤ n *ℤ f *ℤ v +ℤ (pos 2 *ℤ unit *ℤ greatest *ℤ square f +ℤ n *ℤ e) *ℤ over) *ℤ over) →
    ((pos 2 *ℤ unit *ℤ p *ℤ square f +ℤ n *ℤ e) *ℤ y) ≤ℤ (unit *ℤ n *ℤ f *ℤ x) → (y *ℤ v) ≤ℤ (x *ℤ over)
greatest_within unit n over e f v p greatest x y pu pn pf po py g h k =
    cancel-le_z (over *ℤ (unit *ℤ n *ℤ f)) _ _ (mul_pos_z over (unit *ℤ n *ℤ f) po (mul_pos_z (unit *ℤ n) f (mul_pos_z unit n pu pn) pf))
    (le_by (add-le-add_z (mul-le-mul_left_z y py h) (add-le-add_z (mul-le-mul_left_z (pos 2 *ℤ unit *ℤ square f *ℤ (y *ℤ square over)) power g)
    (mul-le-mul_left_z (square over) (square_nonneg_z over) k)))
    (by_ring (unit ∷ n ∷ over ∷ e ∷ f ∷ v ∷ p ∷ greatest ∷ x ∷ y ∷ []) (search quotes depth 90 fits 20000) refl))
  where
    power : pos 0 ≤ℤ (pos 2 *ℤ unit *ℤ square f *ℤ (y *ℤ square over))
    power = mul_nonneg_z (pos 2 *ℤ unit *ℤ square f) (y *ℤ square over)
        (mul_nonneg_z (pos 2 *ℤ unit) (square f) (mul_nonneg_z (pos 2) unit (omega (arith, ints)) (le_of_lt_z pu)) (square_nonneg_z f))
        (mul_nonneg_z y (square over) py (square_nonneg_z over))

-- and where it is within the threshold t
pub threshold_within : (unit over v t x y : ℤ) → pos 0 <ℤ unit → pos 0 ≤ℤ over → pos 0 ≤ℤ y → (unit *ℤ v) ≤ℤ (t *ℤ over) → (t *ℤ y) ≤ℤ (x *ℤ unit) → (y *ℤ v) ≤ℤ (x *ℤ over)
threshold_within unit over v t x y pu po py h k =
    cancel-le_z unit _ _ pu (le_by (add-le-add_z (mul-le-mul_left_z y py h) (mul-le-mul_left_z over po k))
    (by_ring (unit ∷ over ∷ v ∷ t ∷ x ∷ y ∷ []) (search quotes depth 60 fits 20000) refl))

-- any other residual
pub row_within : (rs a v f x y : ℤ) → pos 0 ≤ℤ y → f ≤ℤ v → (y *ℤ v) ≤ℤ (x *ℤ (rs *ℤ a)) → (y *ℤ f) ≤ℤ (x *ℤ rs *ℤ a)
row_within rs a v f x y py h k = le_by (add-le-add_z (mul-le-mul_left_z y py h) k)
    (by_ring (rs ∷ a ∷ v ∷ f ∷ x ∷ y ∷ []) (search quotes depth 60 fits 20000) refl)

-- With no threshold: steps and errors leave 2 p f / n and e / f. The two parts x and y of the violation of a row with the power `own` are at least
-- (own + p) f / n and e / f.
pub row_closed : (unit n rs a e f b x y p own : ℤ) → pos 0 <ℤ unit → pos 0 <ℤ n → pos 0 <ℤ f → pos 0 ≤ℤ (rs *ℤ a) →
    (pos 2 *ℤ unit *ℤ n *ℤ f *ℤ (unit *ℤ n *ℤ f) *ℤ b) ≤ℤ
    ((unit *ℤ n *ℤ f *ℤ (pos 2 *ℤ unit *ℤ p *ℤ square f +ℤ n *ℤ e) +ℤ (pos 2 *ℤ unit *ℤ own *ℤ square f +ℤ n *ℤ e) *ℤ (unit *ℤ n *ℤ f)) *ℤ (rs *ℤ a)) →
    (unit *ℤ (own +ℤ p) *ℤ f) ≤ℤ (n *ℤ x) → e ≤ℤ (f *ℤ y) →
    (unit *ℤ b) ≤ℤ ((x +ℤ y) *ℤ rs *ℤ a)
row_closed unit n rs a e f b x y p own pu pn pf po h k l =
    cancel-le_z (pos 2 *ℤ m *ℤ (n *ℤ f)) _ _ (mul_pos_z (pos 2 *ℤ m) (n *ℤ f) twice (mul_pos_z n f pn pf))
    (le_by (add-le-add_z h (add-le-add_z (mul-le-mul_left_z (pos 2 *ℤ m *ℤ f *ℤ (rs *ℤ a)) (over f (le_of_lt_z pf)) k)
    (mul-le-mul_left_z (pos 2 *ℤ m *ℤ n *ℤ (rs *ℤ a)) (over n (le_of_lt_z pn)) l)))
    (by_ring (unit ∷ n ∷ rs ∷ a ∷ e ∷ f ∷ b ∷ x ∷ y ∷ p ∷ own ∷ []) (search quotes depth 90 fits 20000) refl))
  where
    m : ℤ
    m = unit *ℤ n *ℤ f

    twice : pos 0 <ℤ (pos 2 *ℤ m)
    twice = mul_pos_z (pos 2) m (omega (arith, ints)) (mul_pos_z (unit *ℤ n) f (mul_pos_z unit n pu pn) pf)

    over : (z : ℤ) → pos 0 ≤ℤ z → pos 0 ≤ℤ (pos 2 *ℤ m *ℤ z *ℤ (rs *ℤ a))
    over z pz = mul_nonneg_z (pos 2 *ℤ m *ℤ z) (rs *ℤ a) (mul_nonneg_z (pos 2 *ℤ m) z (le_of_lt_z twice) pz) po

-- With a threshold t that is at least what steps and errors leave: the three parts x, y and z of the violation of a row are at least t / 2, own f / n and
-- e / (2 f).
pub row_shared : (unit n rs a e f b t x y z own : ℤ) → pos 0 <ℤ unit → pos 0 <ℤ n → pos 0 <ℤ f → pos 0 ≤ℤ (rs *ℤ a) →
    (pos 2 *ℤ unit *ℤ n *ℤ f *ℤ unit *ℤ b) ≤ℤ ((unit *ℤ n *ℤ f *ℤ t +ℤ (pos 2 *ℤ unit *ℤ own *ℤ square f +ℤ n *ℤ e) *ℤ unit) *ℤ (rs *ℤ a)) →
    t ≤ℤ (pos 2 *ℤ x) → (unit *ℤ own *ℤ f) ≤ℤ (n *ℤ y) → e ≤ℤ (pos 2 *ℤ f *ℤ z) →
    (unit *ℤ b) ≤ℤ ((x +ℤ y +ℤ z) *ℤ rs *ℤ a)
row_shared unit n rs a e f b t x y z own pu pn pf po h k l g =
    cancel-le_z (pos 2 *ℤ unit *ℤ n *ℤ f) _ _ (mul_pos_z (pos 2 *ℤ unit *ℤ n) f (mul_pos_z (pos 2 *ℤ unit) n (mul_pos_z (pos 2) unit (omega (arith, ints)) pu) pn) pf)
    (le_by (add-le-add_z h (add-le-add_z (mul-le-mul_left_z (unit *ℤ n *ℤ f *ℤ (rs *ℤ a)) (over (unit *ℤ n *ℤ f) (mul_nonneg_z (unit *ℤ n) f (mul_nonneg_z unit n nu nn) nf)) k)
    (add-le-add_z (mul-le-mul_left_z (pos 2 *ℤ unit *ℤ f *ℤ (rs *ℤ a)) (over (pos 2 *ℤ unit *ℤ f) (mul_nonneg_z (pos 2 *ℤ unit) f (mul_nonneg_z (pos 2) unit (omega (arith, ints)) nu) nf)) l)
    (mul-le-mul_left_z (n *ℤ unit *ℤ (rs *ℤ a)) (over (n *ℤ unit) (mul_nonneg_z n unit nn nu)) g))))
    (by_ring (unit ∷ n ∷ rs ∷ a ∷ e ∷ f ∷ b ∷ t ∷ x ∷ y ∷ z ∷ own ∷ []) (search quotes depth 90 fits 20000) refl))
  where
    nu : pos 0 ≤ℤ unit
    nu = le_of_lt_z pu

    nn : pos 0 ≤ℤ n
    nn = le_of_lt_z pn

    nf : pos 0 ≤ℤ f
    nf = le_of_lt_z pf

    over : (w : ℤ) → pos 0 ≤ℤ w → pos 0 ≤ℤ (w *ℤ (rs *ℤ a))
    over w pw = mul_nonneg_z w (rs *ℤ a) pw po

-- and within what is more
pub row_widened : (unit rs a f excess more : ℤ) → pos 0 ≤ℤ rs → pos 0 ≤ℤ a → excess ≤ℤ more → (unit *ℤ f) ≤ℤ (excess *ℤ rs *ℤ a) → (unit *ℤ f) ≤ℤ (more *ℤ rs *ℤ a)
row_widened unit rs a f excess more ps pa h k = le_trans_z k (mul-le-mul_right_z a pa (mul-le-mul_right_z rs ps h))

-- as a repair asks for it
pub row_over : (rs a v f : ℤ) → pos 0 ≤ℤ rs → pos 0 ≤ℤ a → f ≤ℤ v → (rs *ℤ a *ℤ f) ≤ℤ (v *ℤ rs *ℤ a)
row_over rs a v f ps pa h = le_by (mul-le-mul_left_z (rs *ℤ a) (mul_nonneg_z rs a ps pa) h)
    (by_ring (rs ∷ a ∷ v ∷ f ∷ []) (search quotes depth 60 fits 20000) refl)

-- a power of two by an exponent that is not greater
pub power_mono : (n k : ℕ) → n ≤ k → pos (2 ^ n) ≤ℤ pos (2 ^ k)
power_mono n k h = as_whole (2 ^ n) (2 ^ k) (pow_mono {i = n} {j = k} h)
  where
    as_whole : (a b : ℕ) → a ≤ b → pos a ≤ℤ pos b
    as_whole a b l = omega (arith, ints, l)

-- ---- the two parts of the violation
pub first_part : (e s r k : ℕ) → 1 ≤ k → (pos (2 ^ 40) *ℤ (pos (2 ^ e) +ℤ pos (2 ^ s)) *ℤ pos r) ≤ℤ (pos k *ℤ pos (ceil_div ((2 ^ e + 2 ^ s) * 2 ^ 40 * r) k))
first_part e s r k h = closed (2 ^ e) (2 ^ s) (ceil_div ((2 ^ e + 2 ^ s) * 2 ^ 40 * r) k) (le-mul-ceil_div ((2 ^ e + 2 ^ s) * 2 ^ 40 * r) k h)
  where
    closed : (a b z : ℕ) → (a + b) * 2 ^ 40 * r ≤ k * z → (pos (2 ^ 40) *ℤ (pos a +ℤ pos b) *ℤ pos r) ≤ℤ (pos k *ℤ pos z)
    closed a b z l = omega (arith, ints, l)

pub second_part : (e r : ℕ) → 1 ≤ r → pos e ≤ℤ (pos r *ℤ pos (ceil_div e r))
second_part e r h = let k = le-mul-ceil_div e r h in omega (arith, ints, k)

-- ---- the three parts with a threshold
pub shared_part : (own e r k : ℕ) → 1 ≤ k → 2 ^ own ≤ 2 ^ e → (pos (2 ^ 40) *ℤ pos (2 ^ own) *ℤ pos r) ≤ℤ (pos k *ℤ pos (ceil_div (2 ^ (e + 40) * r) k))
shared_part own e r k h l =
    closed (2 ^ own) (2 ^ e) (2 ^ (e + 40)) (ceil_div (2 ^ (e + 40) * r) k) l (pow-add 2 e 40) (le-mul-ceil_div (2 ^ (e + 40) * r) k h)
  where
    closed : (o a b z : ℕ) → o ≤ a → b ≡ a * 2 ^ 40 → b * r ≤ k * z → (pos (2 ^ 40) *ℤ pos o *ℤ pos r) ≤ℤ (pos k *ℤ pos z)
    closed o a b z l f m = omega (arith, ints, m, mul-le-mul_right r l, ap (λ (n : ℕ). n * r) f)

pub half_part : (t : ℕ) → pos t ≤ℤ (pos 2 *ℤ pos (ceil_div t 2))
half_part t = let k = le-mul-ceil_div t 2 (omega arith) in omega (arith, ints, k)

pub error_part : (e r : ℕ) → 1 ≤ r → pos e ≤ℤ (pos 2 *ℤ pos r *ℤ pos (ceil_div e (2 * r)))
error_part e r h = let k = le-mul-ceil_div e (2 * r) (omega arith) in omega (arith, ints, k)

-- the threshold is at least what steps and errors leave
pub enough_left : (a r k e t b : ℕ) → b ≡ a * 2 ^ 41 → b * r * r + k * e ≤ k * r * t →
    ((pos (2 ^ 41) *ℤ pos a *ℤ square (pos r) +ℤ pos k *ℤ pos e) *ℤ pos (2 ^ 40)) ≤ℤ (pos (2 ^ 40) *ℤ pos k *ℤ pos r *ℤ pos t)
enough_left a r k e t b f h = omega (arith, ints, h, ap (λ (n : ℕ). n * r * r) f)

-- of two numbers, the lesser
pub lesser : (P : ℕ → Type 0) (m n : ℕ) → P m → P n → P (min m n)
lesser P m n h k = elim (cases_lt m n) [
  | inl l ↦ subst P (omega (arith, l)) h
  | inr l ↦ subst P (omega (arith, l)) k
]

pub power_more : (n k : ℕ) → n ≤ k → 2 ^ n ≤ 2 ^ k
power_more n k h = pow_mono {i = n} {j = k} h
