-- What a turn of the closed loop adds to a row.
use Rattle.std.proofs.Common.{◌≡◌, ◌⊎◌, inl, inr, ℕ, ◌+◌, ◌-◌, ◌*◌, ◌%◌, ◌^◌, ◌<◌, ◌≤◌, [], ◌∷◌, ℤ, pos, ◌+ℤ◌, ◌-ℤ◌, ◌*ℤ◌, neg_ℤ, ◌≤ℤ◌, ◌<ℤ◌, List, length, unsigned_abs, arith, ap, ◌∙◌, refl}
use Rattle.std.proofs.lemmas.Int.{ints, by_lt_z}
use Rattle.std.proofs.lemmas.Bool.{cases_eq}
use Rattle.std.proofs.lemmas.Nat.{pow-add, pow_pos}
use Rattle.std.proofs.Math.Nat.{one-le-mul}
use Rattle.std.proofs.Math.IntN.{*ℤ_comm}
use Rattle.std.proofs.lemmas.List.FromFn.{get_or-map-range_with_len}
use Rattle.integer_algebra.specs.Division.{floor_of, round_of}
use Rattle.integer_algebra.specs.Sums.{total, dot, image, coimage, at}
use Rattle.integer_algebra.specs.Sizes.{size}
use Rattle.integer_algebra.proofs.RingLaws.{add_equations}
use Rattle.integer_algebra.proofs.DivisionLaws.{round_of_bounds}
use Rattle.integer_algebra.proofs.OrderLaws.{le_by, le_of_lt_z, add-le-add_z, mul-le-mul_left_z, mul_nonneg_z, mul_pos_z, cancel-le_z}
use Rattle.integer_algebra.proofs.SumLaws.{total_same, total_zero, total_add, total_mono, total_scale, total_scale_right}
use Rattle.integer_algebra.proofs.SizeLaws.{amount_term, at_size, total_amount}
use Rattle.integer_algebra.proofs.VectorLaws.{dot_same, dot_add_right, dot_sub, dot_scale, dot_scale_right, dot_image, dot_total_left}
use Rattle.integer_algebra.proofs.Quoting.{by_ring, quotes}
use Rattle.mat_int.specs.Matrix.{entry_of}
use Rattle.qp_model.specs.problem.Design.{Design}
use Rattle.qp_model.specs.machine.Controller.{Numbers}
use Rattle.qp_model.specs.machine.Machine.{averaged_plan}
use Rattle.qp_model.specs.machine.Successor.{grid_scale, next_sum, next_over, successor}
use Rattle.stay_check.specs.LoopStay.{shifted_successor}
use Rattle.settle_check.specs.Still.{Box, LiesInBox, greatest_over, fraction_unit, IsStill, still_entry}
use Rattle.settle_check.specs.ClosedRows.{loop_over, through_loop, turn_rest, parted, rounded_row, rounded_size, IsLoopFor, RowLaw}
use Rattle.settle_check.proofs.FloorLaws.{le-floor, multiple, round_of_whole}
use Rattle.settle_check.proofs.StillLaws.{dot_le-greatest, first_inputs, plan_most, still_law}

-- ---- rounding
-- of a number that is rounded, and of it times k
times_round : (k y s o : ℤ) → (pos 2 *ℤ (y *ℤ o)) ≤ℤ (pos 2 *ℤ s +ℤ o) → (pos 2 *ℤ s +ℤ o) <ℤ (pos 2 *ℤ (y *ℤ o) +ℤ pos 2 *ℤ o) →
    (pos 2 *ℤ (o *ℤ (k *ℤ y))) ≤ℤ (pos 2 *ℤ (k *ℤ s) +ℤ o *ℤ pos (unsigned_abs k))
times_round k y s o h l = by_lt_z k (pos 0)
    (λ b. below k (pos (unsigned_abs k)) y s o (omega (arith, ints)) (omega (arith, ints)) (le_of_lt_z l))
    (λ b. above k y s o (pos (unsigned_abs k)) b (omega (arith, ints)) h)
  where
    below : (k m y s o : ℤ) → pos 0 ≤ℤ m → m ≡ neg_ℤ k → (pos 2 *ℤ s +ℤ o) ≤ℤ (pos 2 *ℤ (y *ℤ o) +ℤ pos 2 *ℤ o) →
        (pos 2 *ℤ (o *ℤ (k *ℤ y))) ≤ℤ (pos 2 *ℤ (k *ℤ s) +ℤ o *ℤ m)
    below k m y s o p e h = rw e (le_by (mul-le-mul_left_z (neg_ℤ k) (rw e at p) h) (by_ring (k ∷ y ∷ s ∷ o ∷ []) (search quotes depth 60 fits 20000) refl))

    above : (k y s o m : ℤ) → pos 0 ≤ℤ k → m ≡ k → (pos 2 *ℤ (y *ℤ o)) ≤ℤ (pos 2 *ℤ s +ℤ o) → (pos 2 *ℤ (o *ℤ (k *ℤ y))) ≤ℤ (pos 2 *ℤ (k *ℤ s) +ℤ o *ℤ m)
    above k y s o m p e h = rw e (le_by (mul-le-mul_left_z k p h) (by_ring (k ∷ y ∷ s ∷ o ∷ []) (search quotes depth 60 fits 20000) refl))

-- of a number that is whole nothing
exact_round : (k s m : ℤ) (o : ℕ) → 0 < o → (m ≡ k) ⊎ ((m ≡ pos 0) × (q : ℤ) × (s ≡ q *ℤ pos o)) →
    (pos 2 *ℤ (pos o *ℤ (k *ℤ round_of s o))) ≤ℤ (pos 2 *ℤ (k *ℤ s) +ℤ pos o *ℤ pos (unsigned_abs m))
exact_round k s m o p (inl e) = let b = round_of_bounds s o p in rw e (times_round k (round_of s o) s (pos o) b.0 b.1)
exact_round k s m o p (inr (e, q, is)) = rw (e, round_of_whole s o q p is, is) (same k q (pos o))
  where
    same : (k q o : ℤ) → (pos 2 *ℤ (o *ℤ (k *ℤ q))) ≤ℤ (pos 2 *ℤ (k *ℤ (q *ℤ o)) +ℤ o *ℤ pos 0)
    same k q o = le_by {l = pos 0} {r = pos 0} (omega arith) (by_ring (k ∷ q ∷ o ∷ []) (search quotes depth 60 fits 20000) refl)

-- of n numbers
rounded_most : (n : ℕ) (k s m : ℕ → ℤ) (o : ℕ) → 0 < o → ((i : ℕ) → i < n → (m i ≡ k i) ⊎ ((m i ≡ pos 0) × (q : ℤ) × (s i ≡ q *ℤ pos o))) →
    (pos 2 *ℤ (pos o *ℤ dot n k (λ i. round_of (s i) o))) ≤ℤ (pos 2 *ℤ dot n k s +ℤ pos o *ℤ pos (size n m))
rounded_most n k s m o h each =
    joined
    (total_mono n (λ i. pos 2 *ℤ (pos o *ℤ (k i *ℤ round_of (s i) o))) (λ i. pos 2 *ℤ (k i *ℤ s i) +ℤ pos o *ℤ pos (unsigned_abs (m i)))
    (λ i l. exact_round (k i) (s i) (m i) o h (each i l)))
    (total_scale n (pos 2) (λ i. pos o *ℤ (k i *ℤ round_of (s i) o)) ∙ ap (λ (z : ℤ). pos 2 *ℤ z) (total_scale n (pos o) (λ i. k i *ℤ round_of (s i) o)))
    (total_add n (λ i. pos 2 *ℤ (k i *ℤ s i)) (λ i. pos o *ℤ pos (unsigned_abs (m i))))
    (total_scale n (pos 2) (λ i. k i *ℤ s i))
    (total_scale n (pos o) (λ i. pos (unsigned_abs (m i))) ∙ ap (λ (z : ℤ). pos o *ℤ z) (total_amount n (λ i. unsigned_abs (m i))))
  where
    joined : {l r a b c x y : ℤ} → l ≤ℤ r → l ≡ a → r ≡ b +ℤ c → b ≡ x → c ≡ y → a ≤ℤ (x +ℤ y)
    joined {l} {r} {a} {b} {c} {x} {y} h e f g k = omega (arith, ints, h, e, f, g, k)

-- the next number i of the state is whole where nothing keeps it from that
next_whole : (d : Design) (c : Numbers) (xi : List ℤ) (i : ℕ) → 0 < d.plant_denominator → parted d i ≡ 0 → (q : ℤ) × (next_sum d c xi i ≡ q *ℤ pos (next_over d c))
next_whole d c xi i p e =
    let a = d.plant_denominator in
    let part : ℕ → ℤ = λ k. floor_of (d.plant_a i k) a *ℤ at xi k in (
      total d.states part,
      joined _ _ _ _ _
          (total_same d.states _ _ (λ k l. divided (d.plant_a i k) (floor_of (d.plant_a i k) a) (pos a) (at xi k)
          (multiple (d.plant_a i k) a p (omega (arith, amount_term k d.states (λ k. unsigned_abs (d.plant_a i k) % a) l, e))))
          ∙ total_scale_right d.states (pos a) part)
          (total_same d.inputs _ (λ l. pos 0) (λ l o. none (d.plant_b i l) _ (omega (arith, ints, at_size l d.inputs (d.plant_b i) o, e))) ∙ total_zero d.inputs),
    )
  where
    divided : (z q a x : ℤ) → z ≡ q *ℤ a → z *ℤ x ≡ (q *ℤ x) *ℤ a
    divided z q a x e = rw e (by_ring (q ∷ a ∷ x ∷ []) (search quotes depth 60 fits 20000) refl)

    none : (b u : ℤ) → b ≡ pos 0 → b *ℤ u ≡ pos 0
    none b u e = rw e (by_ring (u ∷ []) (search quotes depth 60 fits 20000) refl)

    joined : (s b q a g : ℤ) → s ≡ q *ℤ a → b ≡ pos 0 → s *ℤ g +ℤ b ≡ q *ℤ (a *ℤ g)
    joined s b q a g e f = rw (e, f) (by_ring (q ∷ a ∷ g ∷ []) (search quotes depth 60 fits 20000) refl)

-- ---- a row through the loop
subtract_equations : {a b x y : ℤ} → a ≡ x → b ≡ y → a -ℤ b ≡ x -ℤ y
subtract_equations {a} {b} {x} {y} e f = omega (arith, ints, e, f)

through_is : (d : Design) (c : Numbers) (row : ℕ → ℤ) (j : ℕ) →
    through_loop d c row j ≡ pos (fraction_unit c) *ℤ coimage d.states d.plant_a row j -ℤ coimage d.inputs (entry_of c.state_gains) (coimage d.states d.plant_b row) j
through_is d c row j =
    let P = entry_of c.state_gains in
    dot_sub d.states (λ i. pos (fraction_unit c) *ℤ d.plant_a i j) (λ i. total d.inputs (λ l. d.plant_b i l *ℤ P l j)) row
    ∙ subtract_equations (dot_scale d.states (pos (fraction_unit c)) (λ i. d.plant_a i j) row)
    (dot_total_left d.states d.inputs (λ l i. d.plant_b i l *ℤ P l j) row
    ∙ total_same d.inputs _ _ (λ l o. total_same d.states _ _ (λ i m. turn (d.plant_b i l) (P l j) (row i)) ∙ total_scale d.states (P l j) (λ i. d.plant_b i l *ℤ row i)))
  where
    turn : (b p y : ℤ) → (b *ℤ p) *ℤ y ≡ p *ℤ (b *ℤ y)
    turn b p y = by_ring (b ∷ p ∷ y ∷ []) (search quotes depth 60 fits 20000) refl

-- what is left of it at a state
pub rest_is : (d : Design) (c : Numbers) (row next xi : ℕ → ℤ) →
    dot d.states (λ j. through_loop d c row j -ℤ pos (loop_over d c) *ℤ next j) xi ≡
    pos (fraction_unit c) *ℤ dot d.states (coimage d.states d.plant_a row) xi
    -ℤ dot d.states (coimage d.inputs (entry_of c.state_gains) (coimage d.states d.plant_b row)) xi -ℤ pos (loop_over d c) *ℤ dot d.states next xi
rest_is d c row next xi =
    let w = coimage d.inputs (entry_of c.state_gains) (coimage d.states d.plant_b row) in
    dot_sub d.states (through_loop d c row) (λ j. pos (loop_over d c) *ℤ next j) xi
    ∙ subtract_equations (total_same d.states _ _ (λ j l. ap (λ (z : ℤ). z *ℤ xi j) (through_is d c row j))
    ∙ dot_sub d.states (λ j. pos (fraction_unit c) *ℤ coimage d.states d.plant_a row j) w xi
    ∙ ap (λ (z : ℤ). z -ℤ dot d.states w xi) (dot_scale d.states (pos (fraction_unit c)) (coimage d.states d.plant_a row) xi))
    (dot_scale d.states (pos (loop_over d c)) next xi)

-- ---- a turn
-- the numerators of the next state
pub numerators_are : (d : Design) (c : Numbers) (row : ℕ → ℤ) (xi : List ℤ) →
    dot d.states row (next_sum d c xi) ≡
    pos (grid_scale c) *ℤ dot d.states (coimage d.states d.plant_a row) (at xi) +ℤ dot d.inputs (coimage d.states d.plant_b row) (at (averaged_plan c xi))
numerators_are d c row xi =
    let A = image d.states d.plant_a (at xi) in
    let B = image d.inputs d.plant_b (at (averaged_plan c xi)) in
    dot_same d.states row _ (λ i. pos (grid_scale c) *ℤ A i +ℤ B i) (λ i l. ap (λ (z : ℤ). z +ℤ B i) (*ℤ_comm (A i) (pos (grid_scale c))))
    ∙ dot_add_right d.states row (λ i. pos (grid_scale c) *ℤ A i) B
    ∙ add_equations
    (dot_scale_right d.states (pos (grid_scale c)) row A ∙ ap (λ (z : ℤ). pos (grid_scale c) *ℤ z) (dot_image d.states d.states d.plant_a row (at xi)))
    (dot_image d.states d.inputs d.plant_b row (at (averaged_plan c xi)))

-- under sums that are K times u
sums_are : (d : Design) (c : Numbers) (row u : ℕ → ℤ) (xi : List ℤ) → ((l : ℕ) → l < d.inputs → at (averaged_plan c xi) l ≡ pos c.steps *ℤ u l) →
    dot d.states row (next_sum d c xi) ≡
    pos (grid_scale c) *ℤ dot d.states (coimage d.states d.plant_a row) (at xi) +ℤ pos c.steps *ℤ dot d.inputs (coimage d.states d.plant_b row) u
sums_are d c row u xi same =
    let input = coimage d.states d.plant_b row in
    numerators_are d c row xi
    ∙ ap (λ (z : ℤ). pos (grid_scale c) *ℤ dot d.states (coimage d.states d.plant_a row) (at xi) +ℤ z)
    (dot_same d.inputs input _ _ same ∙ dot_scale_right d.inputs (pos c.steps) input u)

-- the sum of all: y of the next state and x of the state; alpha and w of the plant and of the gains, beta of the inputs; m is rounded
one_turn : (a K s D F : ℕ) (y x alpha beta v w g rho m sum : ℤ) → F ≡ s * D → 1 ≤ K → 1 ≤ s →
    (pos 2 *ℤ (pos (a * (K * s)) *ℤ y)) ≤ℤ (pos 2 *ℤ sum +ℤ pos (a * (K * s)) *ℤ m) → sum ≡ pos (K * s) *ℤ alpha +ℤ pos K *ℤ beta →
    (pos F *ℤ beta) ≤ℤ (pos F *ℤ v -ℤ pos s *ℤ w) → rho ≤ℤ g → rho ≡ pos F *ℤ alpha -ℤ w -ℤ pos (a * F) *ℤ x →
    ((y -ℤ x) *ℤ pos (2 * (a * F))) ≤ℤ (pos 2 *ℤ (g +ℤ pos D *ℤ v) +ℤ pos (a * F) *ℤ m)
one_turn a K s D F y x alpha beta v w g rho m sum e k l h f i j r =
    rw e (whole (pos a) (pos K) (pos s) (pos D) y x alpha beta v w g m (omega (arith, ints, k)) (omega (arith, ints, l)) (omega (arith, ints)) (rw f at h) (rw e at i) (rw (r, e) at j))
  where
    whole : (a K s D y x alpha beta v w g m : ℤ) → pos 0 <ℤ K → pos 0 <ℤ s → pos 0 ≤ℤ D →
        (pos 2 *ℤ (a *ℤ (K *ℤ s) *ℤ y)) ≤ℤ (pos 2 *ℤ (K *ℤ s *ℤ alpha +ℤ K *ℤ beta) +ℤ a *ℤ (K *ℤ s) *ℤ m) →
        (s *ℤ D *ℤ beta) ≤ℤ (s *ℤ D *ℤ v -ℤ s *ℤ w) → (s *ℤ D *ℤ alpha -ℤ w -ℤ a *ℤ (s *ℤ D) *ℤ x) ≤ℤ g →
        ((y -ℤ x) *ℤ (pos 2 *ℤ (a *ℤ (s *ℤ D)))) ≤ℤ (pos 2 *ℤ (g +ℤ D *ℤ v) +ℤ a *ℤ (s *ℤ D) *ℤ m)
    whole a K s D y x alpha beta v w g m k l o h i j =
        let p = mul_pos_z K s k l in
        cancel-le_z (K *ℤ s) _ _ p (le_by
        (add-le-add_z (mul-le-mul_left_z (s *ℤ D) (mul_nonneg_z s D (le_of_lt_z l) o) h)
        (add-le-add_z (mul-le-mul_left_z (pos 2 *ℤ K) (omega (arith, ints, k)) i) (mul-le-mul_left_z (pos 2 *ℤ (K *ℤ s)) (omega (arith, ints, p)) j)))
        (by_ring (a ∷ K ∷ s ∷ D ∷ y ∷ x ∷ alpha ∷ beta ∷ v ∷ w ∷ g ∷ m ∷ []) (search quotes depth 60 fits 20000) refl))

pub unit_is : (d : Design) (c : Numbers) → IsLoopFor d c → fraction_unit c ≡ 2 ^ (c.fraction_bits - c.grid_bits) * 2 ^ d.grid
unit_is d c loop =
    let split : c.fraction_bits ≡ c.fraction_bits - c.grid_bits + d.grid = omega (arith, loop.sized.fraction_bits, loop.sizes.grid) in
    ap (λ n. 2 ^ n) split ∙ pow-add 2 (c.fraction_bits - c.grid_bits) d.grid

-- what the next state has of a row, by its numerators
pub turn_rounded : (d : Design) (c : Numbers) → IsLoopFor d c → (row : ℕ → ℤ) (xi : List ℤ) →
    (pos 2 *ℤ (pos (next_over d c) *ℤ dot d.states row (λ i. round_of (next_sum d c xi i) (next_over d c)))) ≤ℤ
    (pos 2 *ℤ dot d.states row (next_sum d c xi) +ℤ pos (next_over d c) *ℤ pos (rounded_size d row))
turn_rounded d c loop row xi =
    let over : 0 < next_over d c = omega (arith, one-le-mul loop.plant (one-le-mul loop.sized.steps.0 (pow_pos (c.fraction_bits - c.grid_bits)))) in
    rounded_most d.states row (next_sum d c xi) (rounded_row d row) (next_over d c) over (λ i l. charged i)
  where
    charged : (i : ℕ) → (rounded_row d row i ≡ row i) ⊎ ((rounded_row d row i ≡ pos 0) × (q : ℤ) × (next_sum d c xi i ≡ q *ℤ pos (next_over d c)))
    charged i = elim (cases_eq (parted d i) 0) [
      | inl e ↦ (let none : rounded_row d row i ≡ pos 0 = grind arith in let whole = next_whole d c xi i (omega (arith, loop.plant)) e in inr (none, whole.0, whole.1))
      | inr n ↦ (let own : rounded_row d row i ≡ row i = grind arith in inl own)
    ]

-- before the shift
turn_most : (d : Design) (c : Numbers) (z : Box) → IsLoopFor d c → IsStill c z → (row next : ℕ → ℤ) (xi : List ℤ) → length xi ≡ d.states → LiesInBox d.states z (at xi) →
    (dot d.states row (λ i. round_of (next_sum d c xi i) (next_over d c)) -ℤ dot d.states next (at xi)) ≤ℤ
    floor_of (pos 2 *ℤ turn_rest d c z row next +ℤ pos (loop_over d c) *ℤ pos (rounded_size d row)) (2 * loop_over d c)
turn_most d c z loop still row next xi long inside =
    let s = 2 ^ (c.fraction_bits - c.grid_bits) in
    let some : 1 ≤ s = omega (arith, pow_pos (c.fraction_bits - c.grid_bits)) in
    let wide : 0 < 2 * loop_over d c = omega (arith, one-le-mul loop.plant (pow_pos c.fraction_bits)) in
    let input = coimage d.states d.plant_b row in
    let small = first_inputs c d.inputs loop.sized loop.sizes.inputs in
    let in_c : LiesInBox c.states z (at xi) = λ i l. inside i (omega (arith, l, loop.sizes.states)) in
    let length_c : length xi ≡ c.states = long ∙ loop.sizes.states in
    let run = still_law c z loop.sized still xi length_c in_c in
    le-floor _ _ (2 * loop_over d c) wide (one_turn d.plant_denominator c.steps s (2 ^ d.grid) (fraction_unit c) _ (dot d.states next (at xi)) _ _ _ _ _ _ (pos (rounded_size d row)) _
    (unit_is d c loop) loop.sized.steps.0 some
    (turn_rounded d c loop row xi)
    (sums_are d c row (still_entry c xi) xi (λ l o. run.average l (omega (arith, o, small))))
    (over_states _ _ (pos s) _ _ (ap (λ n. dot n (coimage d.inputs (entry_of c.state_gains) input) (at xi)) loop.sizes.states) (plan_most c xi d.inputs input loop.sized length_c small))
    (dot_le-greatest d.states z (λ j. through_loop d c row j -ℤ pos (loop_over d c) *ℤ next j) (at xi) inside)
    (rest_is d c row next (at xi)))
  where
    over_states : (b v s w x : ℤ) → w ≡ x → b ≤ℤ (v -ℤ s *ℤ x) → b ≤ℤ (v -ℤ s *ℤ w)
    over_states b v s w x e h = rw e h

-- and after it
pub shifted_most : (d : Design) (c : Numbers) (shifts : Box) (row : ℕ → ℤ) (xi : List ℤ) (shift : ℕ → ℤ) (from most : ℤ) → LiesInBox d.states shifts shift →
    (dot d.states row (λ i. round_of (next_sum d c xi i) (next_over d c)) -ℤ from) ≤ℤ most →
    dot d.states row (at (shifted_successor d c xi shift)) ≤ℤ (from +ℤ (most +ℤ greatest_over d.states shifts row))
shifted_most d c shifts row xi shift from most within h =
    let y : ℕ → ℤ = λ i. round_of (next_sum d c xi i) (next_over d c) in
    let outer : ℕ → ℤ = λ i. at (successor d c xi) i +ℤ shift i in
    joined _ _ _ _ _ _
    (dot_same d.states row _ (λ i. y i +ℤ shift i) (λ i l. get_or-map-range_with_len outer 0 d.states i i (pos 0) l (omega arith)
    ∙ ap (λ (z : ℤ). z +ℤ shift i) (get_or-map-range_with_len y 0 d.states i i (pos 0) l (omega arith)))
    ∙ dot_add_right d.states row y shift)
    h (dot_le-greatest d.states shifts row shift within)
  where
    joined : (t y s x f g : ℤ) → t ≡ y +ℤ s → (y -ℤ x) ≤ℤ f → s ≤ℤ g → t ≤ℤ (x +ℤ (f +ℤ g))
    joined t y s x f g e h k = omega (arith, ints, e, h, k)

pub row_law : RowLaw
row_law d c z shifts loop still row next xi shift long inside within =
    shifted_most d c shifts row xi shift _ _ within (turn_most d c z loop still row next xi long inside)
