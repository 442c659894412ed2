-- A turn stays in the box: the first rows, weighted, bound each coordinate of the next state.
use Rattle.std.proofs.Common.{◌≡◌, ℕ, ◌+◌, ◌*◌, ◌%◌, ◌^◌, ◌<◌, ◌≤◌, [], ◌∷◌, ℤ, pos, negsuc, neg_ℤ, ◌+ℤ◌, ◌-ℤ◌, ◌*ℤ◌, ◌≤ℤ◌, ◌<ℤ◌, Bool, true, false, if◌then◌else◌, unsigned_abs, arith, ap, sym, ◌∙◌, refl}
use Rattle.std.specs.Int.{int_max}
use Rattle.std.proofs.lemmas.Int.{ints, clamps, by_lt_z}
use Rattle.std.proofs.lemmas.Bool.{eq-eqb, ne_eqb}
use Rattle.std.proofs.Math.Nat.{one-le-mul}
use Rattle.integer_algebra.specs.Sums.{total, dot, image, at}
use Rattle.integer_algebra.specs.Division.{round_of}
use Rattle.integer_algebra.proofs.OrderLaws.{le_by, le_of_lt_z, le_trans_z, add-le-add_z, mul-le-mul_left_z}
use Rattle.integer_algebra.proofs.Quoting.{by_ring, quotes}
use Rattle.integer_algebra.proofs.SumLaws.{total_same, total_add, total_mono, total_scale}
use Rattle.integer_algebra.proofs.VectorLaws.{dot_scale, dot_sub, dot_total_left}
use Rattle.qp_model.specs.problem.Design.{Design}
use Rattle.qp_model.specs.problem.Trajectory.{trajectory}
use Rattle.qp_model.specs.problem.Box.{IsGridState}
use Rattle.stay_check.specs.FirstRows.{first_row_count, first_row}
use Rattle.stay_check.specs.FaceForms.{Face, FaceNumbers, AreFacesFor, face_of, towards, weighted, input_of_rows, HasEqualInputs, state_rest, greatest_rest, left_by_rows, face_reach, reach_over, IsOnSide, FaceHolds}
use Rattle.stay_check.specs.Staying.{next_grid_state, ExceedsNoFirstRowBy, AreShifts, StayLaw}
use Rattle.stay_check.proofs.RoundLaws.{round_mono}
use Rattle.stay_check.proofs.FirstRowLaws.{form, next_state, first_bound}

-- ---- over the box
-- a number times one between two is at most one of the products with these
pub product_le-max : (r x low high : ℤ) → low ≤ℤ x → x ≤ℤ high → (r *ℤ x) ≤ℤ int_max (r *ℤ low) (r *ℤ high)
product_le-max r x low high h k = by_lt_z r (pos 0)
    (λ l. le_trans_z (turned r x low (le_of_lt_z l) h) (max_left (r *ℤ low) (r *ℤ high)))
    (λ l. le_trans_z (mul-le-mul_left_z r l k) (max_right (r *ℤ low) (r *ℤ high)))
  where
    max_left : (a b : ℤ) → a ≤ℤ int_max a b
    max_left a b = omega (arith, ints, clamps)

    max_right : (a b : ℤ) → b ≤ℤ int_max a b
    max_right a b = omega (arith, ints, clamps)

    turned : (r a b : ℤ) → r ≤ℤ pos 0 → b ≤ℤ a → (r *ℤ a) ≤ℤ (r *ℤ b)
    turned r a b l m =
        let p : pos 0 ≤ℤ neg_ℤ r = omega (arith, ints) in
        le_by (mul-le-mul_left_z (neg_ℤ r) p m) (by_ring (r ∷ a ∷ b ∷ []) (search quotes depth 60 fits 20000) refl)

pub rest_le : (d : Design) (f : Face) (xi : ℕ → ℤ) → IsGridState d xi → dot d.states (state_rest d f) xi ≤ℤ greatest_rest d f
rest_le d f xi g = total_mono d.states _ _ (λ j l. product_le-max (state_rest d f j) (xi j) (d.low j) (d.high j) (g j l).0 (g j l).1)

-- ---- the first rows, weighted
-- a combination of forms of x is the form with the combined coefficients
combined : (n m : ℕ) (w : ℕ → ℤ) (c : ℕ → ℕ → ℤ) (x : ℕ → ℤ) → dot n (λ j. total m (λ r. w r *ℤ c r j)) x ≡ total m (λ r. w r *ℤ dot n (c r) x)
combined n m w c x = dot_total_left n m (λ r j. w r *ℤ c r j) x ∙ total_same m _ _ (λ r l. dot_scale n (w r) (c r) x)

-- of all first rows, of the state xi and the plan u over q
pub rows_form : (d : Design) (q : ℤ) (xi u : ℕ → ℤ) (f : Face) →
    weighted d f (λ r. form d q xi u (first_row d r)) ≡
    q *ℤ dot d.states (λ j. weighted d f (λ r. (first_row d r).of_state j)) xi +ℤ pos (2 ^ d.grid) *ℤ dot d.inputs (input_of_rows d f) u
rows_form d q xi u f =
    total_same (first_row_count d) _ _ (λ r l. spread (f.weight r) q (dot d.states (first_row d r).of_state xi) (pos (2 ^ d.grid)) (dot d.inputs (first_row d r).of_input u)) ∙
    total_add (first_row_count d) _ _ ∙
    both _ _ _ _
    (total_scale (first_row_count d) q (λ r. f.weight r *ℤ dot d.states (first_row d r).of_state xi) ∙
    ap (λ (z : ℤ). q *ℤ z) (sym (combined d.states (first_row_count d) f.weight (λ r. (first_row d r).of_state) xi)))
    (total_scale (first_row_count d) (pos (2 ^ d.grid)) (λ r. f.weight r *ℤ dot d.inputs (first_row d r).of_input u) ∙
    ap (λ (z : ℤ). pos (2 ^ d.grid) *ℤ z) (sym (combined d.inputs (first_row_count d) f.weight (λ r. (first_row d r).of_input) u)))
  where
    spread : (w q s g t : ℤ) → w *ℤ (q *ℤ s +ℤ g *ℤ t) ≡ q *ℤ (w *ℤ s) +ℤ g *ℤ (w *ℤ t)
    spread w q s g t = by_ring (w ∷ q ∷ s ∷ g ∷ t ∷ []) (search quotes depth 60 fits 20000) refl

    both : (s t v w : ℤ) → s ≡ v → t ≡ w → s +ℤ t ≡ v +ℤ w
    both s t v w e f = rw (e, f) refl

-- is at most what they leave
pub rows_le : (d : Design) (q : ℤ) (xi u : ℕ → ℤ) (excess : ℕ → ℤ) (f : Face) → 1 ≤ d.plant_denominator → 1 ≤ d.stages →
    ((r : ℕ) → r < first_row_count d → pos 0 ≤ℤ f.weight r) → ExceedsNoFirstRowBy d xi q u excess →
    (pos (2 ^ 40) *ℤ weighted d f (λ r. form d q xi u (first_row d r))) ≤ℤ (q *ℤ (pos (2 ^ d.grid * d.plant_denominator) *ℤ left_by_rows d excess f))
rows_le d q xi u excess f a n w h =
    rw (
      ← (total_scale (first_row_count d) (pos (2 ^ 40)) (λ r. f.weight r *ℤ form d q xi u (first_row d r))),
      ← (total_scale (first_row_count d) (pos (2 ^ d.grid * d.plant_denominator)) (λ r. f.weight r *ℤ left r)),
      ← (total_scale (first_row_count d) q (λ r. pos (2 ^ d.grid * d.plant_denominator) *ℤ (f.weight r *ℤ left r))),
    ) (total_mono (first_row_count d) _ _ (λ r l. times (f.weight r) (pos (2 ^ 40)) (form d q xi u (first_row d r)) q (pos (2 ^ d.grid * d.plant_denominator)) (left r)
    (w r l) (first_bound d q xi u excess r a n l (h r l))))
  where
    left : ℕ → ℤ
    left r = pos (2 ^ 40) *ℤ (first_row d r).bound +ℤ pos d.limit_denominator *ℤ excess (first_row d r).row

    times : (w F z q g y : ℤ) → pos 0 ≤ℤ w → (F *ℤ z) ≤ℤ (q *ℤ (g *ℤ y)) → (F *ℤ (w *ℤ z)) ≤ℤ (q *ℤ (g *ℤ (w *ℤ y)))
    times w F z q g y p h = le_by (mul-le-mul_left_z w p h) (by_ring (w ∷ F ∷ z ∷ q ∷ g ∷ y ∷ []) (search quotes depth 60 fits 20000) refl)

-- ---- towards a face
abbrev sign : Bool → ℤ
sign true = pos 1
sign false = negsuc 0

towards_is : (f : Face) (z : ℤ) → towards f z ≡ sign f.upper *ℤ z
towards_is f z = by f.upper z
  where
    by : (b : Bool) (z : ℤ) → (if b then z else neg_ℤ z) ≡ sign b *ℤ z
    by true z = omega (arith, ints)
    by false z = by_ring (z ∷ []) (search quotes depth 60 fits 20000) refl

-- a form whose coefficients are those of the coordinate, towards the face
towards_dot : (n : ℕ) (f : Face) (a x : ℕ → ℤ) → dot n (λ j. towards f (pos f.factor *ℤ a j)) x ≡ sign f.upper *ℤ pos f.factor *ℤ dot n a x
towards_dot n f a x =
    total_same n _ _ (λ j l. ap (λ (z : ℤ). z *ℤ x j) (towards_is f (pos f.factor *ℤ a j) ∙ together (sign f.upper) (pos f.factor) (a j))) ∙
    dot_scale n (sign f.upper *ℤ pos f.factor) a x
  where
    together : (s k a : ℤ) → s *ℤ (k *ℤ a) ≡ s *ℤ k *ℤ a
    together s k a = by_ring (s ∷ k ∷ a ∷ []) (search quotes depth 60 fits 20000) refl

-- the coordinate of the next state, times the factor
pub towards_form : (d : Design) (q : ℤ) (xi u : ℕ → ℤ) (f : Face) → HasEqualInputs d f →
    towards f (pos f.factor *ℤ trajectory d q xi u 1 f.coordinate) ≡ q *ℤ dot d.states (state_rest d f) xi +ℤ weighted d f (λ r. form d q xi u (first_row d r))
towards_form d q xi u f e =
    joined _ _ (sign f.upper) (pos f.factor) q (pos (2 ^ d.grid)) (image d.states d.plant_a xi f.coordinate) (image d.inputs d.plant_b u f.coordinate)
    (dot d.states (λ j. weighted d f (λ r. (first_row d r).of_state j)) xi) _ _ _
    (towards_is f (pos f.factor *ℤ trajectory d q xi u 1 f.coordinate))
    (next_state d q xi u f.coordinate)
    (dot_sub d.states (λ j. towards f (pos f.factor *ℤ d.plant_a f.coordinate j)) (λ j. weighted d f (λ r. (first_row d r).of_state j)) xi ∙
    ap (λ (z : ℤ). z -ℤ dot d.states (λ j. weighted d f (λ r. (first_row d r).of_state j)) xi) (towards_dot d.states f (d.plant_a f.coordinate) xi))
    (rows_form d q xi u f)
    (total_same d.inputs _ _ (λ l o. ap (λ (z : ℤ). z *ℤ u l) (e l o)) ∙ towards_dot d.inputs f (d.plant_b f.coordinate) u)
  where
    joined : (t x s k q g a b c r w i : ℤ) → t ≡ s *ℤ (k *ℤ x) → x ≡ q *ℤ a +ℤ g *ℤ b → r ≡ s *ℤ k *ℤ a -ℤ c → w ≡ q *ℤ c +ℤ g *ℤ i → i ≡ s *ℤ k *ℤ b → t ≡ q *ℤ r +ℤ w
    joined t x s k q g a b c r w i e f h m o =
        rw (e, f, h, m, o) (by_ring (s ∷ k ∷ q ∷ g ∷ a ∷ b ∷ c ∷ []) (search quotes depth 60 fits 20000) refl)

-- is at most the reach
pub towards_le : (d : Design) (q : ℤ) (xi u : ℕ → ℤ) (excess : ℕ → ℤ) (f : Face) → 1 ≤ d.plant_denominator → 1 ≤ d.stages → pos 0 <ℤ q →
    ((r : ℕ) → r < first_row_count d → pos 0 ≤ℤ f.weight r) → HasEqualInputs d f → IsGridState d xi → ExceedsNoFirstRowBy d xi q u excess →
    (pos (2 ^ 40) *ℤ towards f (pos f.factor *ℤ trajectory d q xi u 1 f.coordinate)) ≤ℤ (q *ℤ face_reach d excess f)
towards_le d q xi u excess f a n p w e g h =
    rw (towards_form d q xi u f e)
    (both (pos (2 ^ 40)) q (dot d.states (state_rest d f) xi) (greatest_rest d f) _ _ (omega (arith, ints)) (le_of_lt_z p) (rest_le d f xi g) (rows_le d q xi u excess f a n w h))
  where
    both : (F q s m w y : ℤ) → pos 0 ≤ℤ F → pos 0 ≤ℤ q → s ≤ℤ m → (F *ℤ w) ≤ℤ (q *ℤ y) → (F *ℤ (q *ℤ s +ℤ w)) ≤ℤ (q *ℤ (F *ℤ m +ℤ y))
    both F q s m w y o p h k =
        le_by (add-le-add_z (mul-le-mul_left_z F o (mul-le-mul_left_z q p h)) k) (by_ring (F ∷ q ∷ s ∷ m ∷ w ∷ y ∷ []) (search quotes depth 60 fits 20000) refl)

-- ---- the next grid state
positive : (q a : ℕ) → 0 < q → 0 < a → 0 < q * a
positive q a h k =
    let x : 1 ≤ q = omega arith in
    let y : 1 ≤ a = omega arith in
    let z = one-le-mul x y in
    omega (arith, z)

-- towards the upper face, and the lower
upper_le : (F : ℤ) (k a : ℕ) (q : ℕ) (x t : ℤ) (over : ℕ) → 0 < k → 0 < a → 0 < q → 0 < over → pos over ≡ pos k *ℤ pos a *ℤ F → (F *ℤ (pos k *ℤ x)) ≤ℤ (pos q *ℤ t) →
    round_of x (q * a) ≤ℤ round_of t over
upper_le F k a q x t over o p l m e h = round_mono x t (q * a) over (positive q a l p) m
    (rw e (crossed F (pos k) (pos a) (pos q) x t (omega (arith, ints)) h))
  where
    crossed : (F k a q x t : ℤ) → pos 0 ≤ℤ a → (F *ℤ (k *ℤ x)) ≤ℤ (q *ℤ t) → (x *ℤ (k *ℤ a *ℤ F)) ≤ℤ (t *ℤ (q *ℤ a))
    crossed F k a q x t p h = le_by (mul-le-mul_left_z a p h) (by_ring (F ∷ k ∷ a ∷ q ∷ x ∷ t ∷ []) (search quotes depth 60 fits 20000) refl)

lower_le : (F : ℤ) (k a : ℕ) (q : ℕ) (x t : ℤ) (over : ℕ) → 0 < k → 0 < a → 0 < q → 0 < over → pos over ≡ pos k *ℤ pos a *ℤ F → (F *ℤ neg_ℤ (pos k *ℤ x)) ≤ℤ (pos q *ℤ t) →
    round_of (neg_ℤ t) over ≤ℤ round_of x (q * a)
lower_le F k a q x t over o p l m e h = round_mono (neg_ℤ t) x over (q * a) m (positive q a l p)
    (rw e (crossed F (pos k) (pos a) (pos q) x t (omega (arith, ints)) h))
  where
    crossed : (F k a q x t : ℤ) → pos 0 ≤ℤ a → (F *ℤ neg_ℤ (k *ℤ x)) ≤ℤ (q *ℤ t) → (neg_ℤ t *ℤ (q *ℤ a)) ≤ℤ (x *ℤ (k *ℤ a *ℤ F))
    crossed F k a q x t p h = le_by (mul-le-mul_left_z a p h) (by_ring (F ∷ k ∷ a ∷ q ∷ x ∷ t ∷ []) (search quotes depth 60 fits 20000) refl)

-- ---- which side a face is on
first_of : (b : Bool) (x y : ℤ) → b ≡ true → (if b then x else y) ≡ x
first_of b x y e = rw e refl

second_of : (b : Bool) (x y : ℤ) → b ≡ false → (if b then x else y) ≡ y
second_of b x y e = rw e refl

on_upper : (b : Bool) (low high z : ℤ) → b ≡ true → IsOnSide b low high z → z ≤ℤ high
on_upper b low high z e h = rw e at h

on_lower : (b : Bool) (low high z : ℤ) → b ≡ false → IsOnSide b low high z → low ≤ℤ z
on_lower b low high z e h = rw e at h

moved : (F x y w : ℤ) → x ≡ y → (F *ℤ x) ≤ℤ w → (F *ℤ y) ≤ℤ w
moved F x y w e h = rw e at h

module _ (d : Design) (excess low high : ℕ → ℤ) (q : ℤ) (xi u shift : ℕ → ℤ) (a : 1 ≤ d.plant_denominator) (n : 1 ≤ d.stages) (p : pos 0 <ℤ q)
    (g : IsGridState d xi) (h : ExceedsNoFirstRowBy d xi q u excess) (s : AreShifts d low high shift) where
  -- a face of a coordinate holds
  record Holds (i : ℕ) (upper : Bool) (f : Face) : Type 0 where
    pub coordinate : f.coordinate ≡ i
    pub side : f.upper ≡ upper
    pub factor : 0 < f.factor
    pub weights : (r : ℕ) → r < first_row_count d → pos 0 ≤ℤ f.weight r
    pub holds : FaceHolds d excess low high f

  whole : pos (unsigned_abs q) ≡ q
  whole = omega (arith, ints)

  room : (f : Face) → 0 < f.factor → 0 < reach_over d f
  room f k = positive (f.factor * d.plant_denominator) (2 ^ 40) (positive f.factor d.plant_denominator k (omega (arith, a))) (omega arith)

  upper_side : (i : ℕ) (f : Face) → i < d.states → Holds i true f → (next_grid_state d q xi u i +ℤ shift i) ≤ℤ d.high i
  upper_side i f l k =
      let most = moved (pos (2 ^ 40)) _ _ _ (first_of f.upper _ _ k.side) (towards_le d q xi u excess f a n p k.weights k.holds.inputs g h) in
      let near = upper_le (pos (2 ^ 40)) f.factor d.plant_denominator (unsigned_abs q) (trajectory d q xi u 1 f.coordinate) (face_reach d excess f) (reach_over d f)
      k.factor (omega (arith, a)) (omega (arith, ints, p)) (room f k.factor) refl (rw whole most) in
      within _ _ _ _ _ _ _ _ _ near (s i l).1 (on_upper _ _ _ _ k.side k.holds.inside)
      (ap (λ z. round_of z (reach_over d f)) (first_of f.upper _ _ k.side))
      (first_of f.upper _ _ k.side ∙ ap high k.coordinate) (ap (λ j. next_grid_state d q xi u j) k.coordinate) (ap d.high k.coordinate)
    where
      within : (x t v w y r c x' y' : ℤ) → x ≤ℤ t → v ≤ℤ w → (r +ℤ c) ≤ℤ y → r ≡ t → c ≡ w → x ≡ x' → y ≡ y' → (x' +ℤ v) ≤ℤ y'
      within x t v w y r c x' y' h k l e f m o = omega (arith, ints)

  lower_side : (i : ℕ) (f : Face) → i < d.states → Holds i false f → d.low i ≤ℤ (next_grid_state d q xi u i +ℤ shift i)
  lower_side i f l k =
      let most = moved (pos (2 ^ 40)) _ _ _ (second_of f.upper _ _ k.side) (towards_le d q xi u excess f a n p k.weights k.holds.inputs g h) in
      let near = lower_le (pos (2 ^ 40)) f.factor d.plant_denominator (unsigned_abs q) (trajectory d q xi u 1 f.coordinate) (face_reach d excess f) (reach_over d f)
      k.factor (omega (arith, a)) (omega (arith, ints, p)) (room f k.factor) refl (rw whole most) in
      within _ _ _ _ _ _ _ _ _ near (s i l).0 (on_lower _ _ _ _ k.side k.holds.inside)
      (ap (λ z. round_of z (reach_over d f)) (second_of f.upper _ _ k.side))
      (second_of f.upper _ _ k.side ∙ ap low k.coordinate) (ap (λ j. next_grid_state d q xi u j) k.coordinate) (ap d.low k.coordinate)
    where
      within : (x t v w y r c x' y' : ℤ) → t ≤ℤ x → w ≤ℤ v → y ≤ℤ (r +ℤ c) → r ≡ t → c ≡ w → x ≡ x' → y ≡ y' → y' ≤ℤ (x' +ℤ v)
      within x t v w y r c x' y' h k l e f m o = omega (arith, ints)

-- ---- all faces
factor_some : (f : FaceNumbers) (d : Design) (e : ℕ) → AreFacesFor d f → e < 2 * d.states → 0 < unsigned_abs (at f.factors e)
factor_some f d e h l =
    let p = h.factors e (pos 0) (omega (arith, h.count, l)) in
    let low = p.low in
    omega (arith, ints, low)

pub stay_law : StayLaw
stay_law d excess low high faces a n for holds q xi u shift p g h s i l =
    let up : 2 * i < 2 * d.states = omega (arith, l) in
    let down : 2 * i + 1 < 2 * d.states = omega (arith, l) in (
      lower_side d excess low high q xi u shift a n p g h s i (face_of faces (2 * i + 1)) l (record {
        coordinate = omega arith;
        side = ne_eqb ((2 * i + 1) % 2) 0 (omega arith);
        factor = factor_some faces d (2 * i + 1) for down;
        weights = λ r m. (for.weights (2 * i + 1) r down m).low;
        holds = holds (2 * i + 1) down;
      }),
      upper_side d excess low high q xi u shift a n p g h s i (face_of faces (2 * i)) l (record {
        coordinate = omega arith;
        side = eq-eqb (2 * i % 2) 0 (omega arith);
        factor = factor_some faces d (2 * i) for up;
        weights = λ r m. (for.weights (2 * i) r up m).low;
        holds = holds (2 * i) up;
      }),
    )
