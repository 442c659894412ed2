-- Trajectories and responses are runs, and runs stay within bounds.
use Rattle.std.proofs.Common.{◌≡◌, inl, inr, ℕ, zero, suc, ◌+◌, ◌*◌, ◌/◌, ◌%◌, ◌^◌, ◌<◌, ◌≤◌, [], ◌∷◌, ℤ, pos, ◌+ℤ◌, ◌*ℤ◌, Bool, true, false, nat_eq, if◌then◌else◌, unsigned_abs, arith, ap, sym, ◌∙◌, refl}
use Rattle.std.proofs.lemmas.Int.{ints, unsigned_abs-mul}
use Rattle.std.proofs.lemmas.Nat.{div-mul-add, mod-mul-add}
use Rattle.std.proofs.Math.Nat.{mul-le-mul_left, pow-suc, pow-zero, pow-le-pow_left}
use Rattle.std.proofs.lemmas.Bool.{eq-eqb}
use Rattle.std.proofs.lemmas.Bool.Decides.{eqb_tells}
use Rattle.integer_algebra.proofs.Quoting.{by_ring, quotes}
use Rattle.integer_algebra.specs.Sums.{total, image, none}
use Rattle.integer_algebra.specs.Sizes.{size, product_size}
use Rattle.integer_algebra.proofs.SumLaws.{total_same}
use Rattle.integer_algebra.proofs.SizeLaws.{total_size}
use Rattle.integer_algebra.proofs.VectorLaws.{image_same, image_scale, image_none}
use Rattle.integer_algebra.proofs.BlockLaws.{total_single, choose_total}
use Rattle.qp_model.specs.problem.Design.{Design, entries}
use Rattle.qp_model.specs.problem.Trajectory.{trajectory}
use Rattle.qp_model.specs.form.Condensing.{power, response}
use Rattle.qp_model.specs.problem.Runs.{run, unit, BoundsGrowth, PlantRunLaw}

-- ---- trajectories
pub trajectory_run : (d : Design) (q : ℤ) (xi u : ℕ → ℤ) (k i : ℕ) →
    trajectory d q xi u k i ≡ run d (λ j. q *ℤ xi j) (λ j. pos (2 ^ d.grid) *ℤ u j) k i
trajectory_run d q xi u zero i = refl
trajectory_run d q xi u (suc k) i =
    next (2 ^ d.grid) (d.plant_denominator ^ k) _ _ _ _
    (image_same d.states d.plant_a _ _ i (λ h l. trajectory_run d q xi u k h))
    (image_scale d.inputs d.plant_b (pos (2 ^ d.grid)) (λ l. u (k * d.inputs + l)) i)
  where
    plain : (g a s t b c : ℤ) → s ≡ t → c ≡ g *ℤ b → s +ℤ g *ℤ a *ℤ b ≡ t +ℤ a *ℤ c
    plain g a s t b c e f = rw (e, f) (by_ring (g ∷ a ∷ t ∷ b ∷ []) (search quotes depth 60 fits 20000) refl)

    next : (g a : ℕ) (s t b c : ℤ) → s ≡ t → c ≡ pos g *ℤ b → s +ℤ pos (g * a) *ℤ b ≡ t +ℤ pos a *ℤ c
    next g a s t b c e f = plain (pos g) (pos a) s t b c e f

-- ---- responses
pub power_run : (d : Design) (k i j : ℕ) → power d k i j ≡ run d (unit j) none k i
power_run d zero i j = refl
power_run d (suc k) i j =
    next _ _ (pos (d.plant_denominator ^ k)) _ (image_same d.states d.plant_a _ _ i (λ h l. power_run d k h j)) (image_none d.inputs d.plant_b i)
  where
    next : (s t a b : ℤ) → s ≡ t → b ≡ pos 0 → s ≡ t +ℤ a *ℤ b
    next s t a b e f = rw (e, f) (omega (arith, ints))

-- a row times a unit plan
pub unit_row : (m : ℕ → ℤ) (p k j : ℕ) → 1 ≤ p →
    total p (λ l. m l *ℤ unit j (k * p + l)) ≡ (if nat_eq (j / p) k then m (j % p) else pos 0)
unit_row m p k j h =
    total_same p _ _ (λ l o. place l o) ∙
    choose_total (nat_eq (j / p) k) p (λ l. if nat_eq l (j % p) then m l else pos 0) ∙
    ap (λ (z : ℤ). if nat_eq (j / p) k then z else pos 0) (total_single p (j % p) m (omega arith))
  where
    chosen : (b c e : Bool) (x : ℤ) → c ≡ (if b then e else false) → x *ℤ (if c then pos 1 else pos 0) ≡ (if b then (if e then x else pos 0) else pos 0)
    chosen true c true x f = rw f (omega (arith, ints))
    chosen true c false x f = rw f (omega (arith, ints))
    chosen false c e x f = rw f (omega (arith, ints))

    tested : (l : ℕ) → l < p → nat_eq j (k * p + l) ≡ (if nat_eq (j / p) k then nat_eq l (j % p) else false)
    tested l o = elim (eqb_tells j (k * p + l)) [
      | inl e ↦ (let f = div-mul-add k p l o in let g = mod-mul-add k p l o in
          rw (e.0, e.1, f, g, eq-eqb k k refl) (sym (eq-eqb l l refl)))
      | inr e ↦ (elim (eqb_tells (j / p) k) [
        | inl f ↦ (elim (eqb_tells l (j % p)) [
          | inl g ↦ absurd (e.1 (whole l f.1 g.1))
          | inr g ↦ rw (e.0, f.0, g.0) refl
        ])
        | inr f ↦ rw (e.0, f.0) refl
      ])
    ]
      where
        whole : (l : ℕ) → j / p ≡ k → l ≡ j % p → j ≡ k * p + l
        whole l f g = rw (g, ← f) (omega arith)

    place : (l : ℕ) → l < p → m l *ℤ unit j (k * p + l) ≡ (if nat_eq (j / p) k then (if nat_eq l (j % p) then m l else pos 0) else pos 0)
    place l o = chosen (nat_eq (j / p) k) (nat_eq j (k * p + l)) (nat_eq l (j % p)) (m l) (tested l o)

pub response_run : (d : Design) (k i j : ℕ) → 1 ≤ d.inputs → response d k i j ≡ run d none (unit j) k i
response_run d zero i j h = refl
response_run d (suc k) i j h =
    next (nat_eq (j / d.inputs) k) _ _ (pos (d.plant_denominator ^ k)) _ _ (image_same d.states d.plant_a _ _ i (λ n l. response_run d k n j h))
    (unit_row (d.plant_b i) d.inputs k j h)
  where
    next : (b : Bool) (s t a m c : ℤ) → s ≡ t → c ≡ (if b then m else pos 0) → s +ℤ (if b then a *ℤ m else pos 0) ≡ t +ℤ a *ℤ c
    next true s t a m c e f = rw (e, f) refl
    next false s t a m c e f = rw (e, f) (omega (arith, ints))

-- ---- bounds
pub abs-add_le : (a b : ℤ) → unsigned_abs (a +ℤ b) ≤ unsigned_abs a + unsigned_abs b
abs-add_le a b = grind (arith, ints)

-- a sum with a scaled number
pub abs-mixed_le : (x y : ℤ) (s ex ey : ℕ) → unsigned_abs x ≤ ex → unsigned_abs y ≤ ey → unsigned_abs (x +ℤ pos s *ℤ y) ≤ ex + s * ey
abs-mixed_le x y s ex ey h k = omega (arith, abs-add_le x (pos s *ℤ y), unsigned_abs-mul (pos s) y, mul-le-mul_left s k)

-- a product with numbers of at most b
pub product_within : (n : ℕ) (m f : ℕ → ℤ) (b : ℕ) → ((i : ℕ) → i < n → unsigned_abs (f i) ≤ b) → product_size n m f ≤ size n m * b
product_within zero m f b h = omega arith
product_within (suc n) m f b h =
    omega (arith, product_within n m f b (λ i l. h i (omega arith)), unsigned_abs-mul (m n) (f n), mul-le-mul_left (unsigned_abs (m n)) (h n (omega arith)))

-- a row of numbers times a state of at most top and a scaled input of at most z
pub row_within : (n p : ℕ) (a b x v : ℕ → ℤ) (scale z top bound : ℕ) → size n a + size p b ≤ bound →
    ((i : ℕ) → i < n → unsigned_abs (x i) ≤ top) → ((l : ℕ) → l < p → unsigned_abs (v l) ≤ z) → scale * z ≤ top →
    product_size n a x + scale * product_size p b v ≤ bound * top
row_within n p a b x v scale z top bound h hx hv s =
    numbers (size n a) (size p b) _ _ scale z top bound (product_within n a x top hx) (product_within p b v z hv) s h
  where
    numbers : (sa sb ea eb scale z top bound : ℕ) → ea ≤ sa * top → eb ≤ sb * z → scale * z ≤ top → sa + sb ≤ bound → ea + scale * eb ≤ bound * top
    numbers sa sb ea eb scale z top bound h k s l =
        omega (arith, mul-le-mul_left scale k, mul-le-mul_left sb s, mul-le-mul_left top l)

-- entry l of stage k of a plan is an entry of it
pub plan_inside : (k stages p l : ℕ) → k < stages → l < p → k * p + l < stages * p
plan_inside k stages p l h o = omega (arith, mul-le-mul_left p h)

pub run_within : (d : Design) (alpha z : ℕ) (x v : ℕ → ℤ) → BoundsGrowth d alpha →
    ((i : ℕ) → i < d.states → unsigned_abs (x i) ≤ z) → ((j : ℕ) → j < entries d → unsigned_abs (v j) ≤ z) →
    (k i : ℕ) → k ≤ d.stages → i < d.states → unsigned_abs (run d x v k i) ≤ z * alpha ^ k
run_within d alpha z x v t hx hv zero i l m = rw (pow-zero alpha) (omega (arith, hx i m))
run_within d alpha z x v t hx hv (suc k) i l m = rw (pow-suc alpha k)
    (last (image d.states d.plant_a (run d x v k) i) (image d.inputs d.plant_b (λ n. v (k * d.inputs + n)) i) (d.plant_denominator ^ k) _ _ z (alpha ^ k) alpha
    (total_size d.states (λ j. d.plant_a i j *ℤ run d x v k j)) (total_size d.inputs (λ n. d.plant_b i n *ℤ v (k * d.inputs + n)))
    (row_within d.states d.inputs (d.plant_a i) (d.plant_b i) (run d x v k) (λ n. v (k * d.inputs + n)) (d.plant_denominator ^ k) z (z * alpha ^ k) alpha
    (t.plant i m) (λ j o. run_within d alpha z x v t hx hv k j (omega arith) o) (λ n o. hv (k * d.inputs + n) (plan_inside k d.stages d.inputs n l o))
    (scaled z (pow-le-pow_left t.denominator k))))
  where
    scaled : (z : ℕ) {a b : ℕ} → a ≤ b → a * z ≤ z * b
    scaled z {a} {b} h = omega (arith, mul-le-mul_left z h)

    last : (x y : ℤ) (s ex ey z a alpha : ℕ) → unsigned_abs x ≤ ex → unsigned_abs y ≤ ey → ex + s * ey ≤ alpha * (z * a) →
        unsigned_abs (x +ℤ pos s *ℤ y) ≤ z * (a * alpha)
    last x y s ex ey z a alpha h k o = omega (arith, abs-mixed_le x y s ex ey h k)

pub run_law : PlantRunLaw
run_law d = record { trajectory = trajectory_run d; power = power_run d; response = response_run d; within = run_within d }
