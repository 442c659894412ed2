-- What a turn adds where limits may bind, but the plan is near the law's.
use Rattle.std.proofs.Common.{◌≡◌, ℕ, ◌-◌, ◌*◌, ◌^◌, ◌<◌, ◌≤◌, [], ◌∷◌, ℤ, pos, ◌+ℤ◌, ◌-ℤ◌, ◌*ℤ◌, ◌≤ℤ◌, ◌<ℤ◌, List, length, unsigned_abs, arith, ap, ◌∙◌, refl}
use Rattle.std.proofs.lemmas.Int.{ints}
use Rattle.std.proofs.lemmas.Nat.{pow_pos}
use Rattle.std.proofs.Math.Nat.{one-le-mul}
use Rattle.integer_algebra.specs.Division.{floor_of, round_of}
use Rattle.integer_algebra.specs.Sums.{dot, coimage, at}
use Rattle.integer_algebra.specs.Sizes.{amount}
use Rattle.integer_algebra.specs.Bounds.{absolute, IsWithin}
use Rattle.integer_algebra.proofs.OrderLaws.{le_by, le_of_lt_z, add-le-add_z, mul-le-mul_left_z, mul_nonneg_z, mul_pos_z, cancel-le_z}
use Rattle.integer_algebra.proofs.SumLaws.{total_add, total_mono, total_scale}
use Rattle.integer_algebra.proofs.SizeLaws.{total_amount}
use Rattle.integer_algebra.proofs.BoundLaws.{within_times}
use Rattle.integer_algebra.proofs.Quoting.{by_ring, quotes}
use Rattle.mat_int.specs.Matrix.{entry_of}
use Rattle.qp_model.specs.problem.Design.{Design}
use Rattle.qp_model.specs.machine.Controller.{Numbers}
use Rattle.qp_model.specs.machine.Machine.{average_denominator, averaged_plan}
use Rattle.qp_model.specs.machine.Successor.{next_sum, next_over}
use Rattle.settle_check.specs.Still.{Box, LiesInBox, fraction_unit, still_entry}
use Rattle.settle_check.specs.ClosedRows.{loop_over, through_loop, turn_rest, rounded_size, IsLoopFor}
use Rattle.settle_check.proofs.FloorLaws.{le-floor}
use Rattle.settle_check.proofs.StillLaws.{dot_le-greatest, first_inputs, plan_most}
use Rattle.settle_check.proofs.RowLaws.{turn_rounded, numerators_are, rest_is, unit_is, shifted_most}
use Rattle.near_check.specs.Near.{IsNear}
use Rattle.near_check.specs.FarRows.{far_inputs, FarRowLaw}

-- what the inputs have of a row, beside the law's
inputs_most : (d : Design) (c : Numbers) (beta : ℕ → ℕ) (g : ℕ → ℤ) (xi : List ℤ) (m : ℕ) → ((l : ℕ) → l < m →
    IsWithin (pos (beta l * average_denominator c)) (pos (2 ^ 20) *ℤ (at (averaged_plan c xi) l -ℤ pos c.steps *ℤ still_entry c xi l))) →
    (pos (2 ^ 20) *ℤ dot m g (at (averaged_plan c xi))) ≤ℤ
    (pos (2 ^ 20) *ℤ (pos c.steps *ℤ dot m g (still_entry c xi)) +ℤ pos (average_denominator c) *ℤ pos (amount m (λ l. unsigned_abs (g l) * beta l)))
inputs_most d c beta g xi m near =
    let u = at (averaged_plan c xi) in
    let w = still_entry c xi in
    let o = pos (average_denominator c) in
    apart _ _ _ _ _ _ _
    (total_mono m (λ l. pos (2 ^ 20) *ℤ (g l *ℤ u l)) (λ l. pos (2 ^ 20) *ℤ (pos c.steps *ℤ (g l *ℤ w l)) +ℤ o *ℤ pos (unsigned_abs (g l) * beta l))
    (λ l o. one (pos (2 ^ 20)) (pos c.steps) (g l) (u l) (w l) (pos (beta l)) (pos (average_denominator c)) (within_times _ _ (g l) (near l o)).below))
    (total_scale m (pos (2 ^ 20)) (λ l. g l *ℤ u l))
    (total_add m (λ l. pos (2 ^ 20) *ℤ (pos c.steps *ℤ (g l *ℤ w l))) (λ l. o *ℤ pos (unsigned_abs (g l) * beta l)))
    (total_scale m (pos (2 ^ 20)) (λ l. pos c.steps *ℤ (g l *ℤ w l)) ∙ ap (λ (z : ℤ). pos (2 ^ 20) *ℤ z) (total_scale m (pos c.steps) (λ l. g l *ℤ w l)))
    (total_scale m o (λ l. pos (unsigned_abs (g l) * beta l)) ∙ ap (λ (z : ℤ). o *ℤ z) (total_amount m (λ l. unsigned_abs (g l) * beta l)))
  where
    one : (n k g u w b o : ℤ) → (n *ℤ (u -ℤ k *ℤ w) *ℤ g) ≤ℤ (b *ℤ o *ℤ absolute g) → (n *ℤ (g *ℤ u)) ≤ℤ (n *ℤ (k *ℤ (g *ℤ w)) +ℤ o *ℤ (absolute g *ℤ b))
    one n k g u w b o h = plain n k g u w b o (absolute g) h
      where
        plain : (n k g u w b o m : ℤ) → (n *ℤ (u -ℤ k *ℤ w) *ℤ g) ≤ℤ (b *ℤ o *ℤ m) → (n *ℤ (g *ℤ u)) ≤ℤ (n *ℤ (k *ℤ (g *ℤ w)) +ℤ o *ℤ (m *ℤ b))
        plain n k g u w b o m h = le_by h (by_ring (n ∷ k ∷ g ∷ u ∷ w ∷ b ∷ o ∷ m ∷ []) (search quotes depth 60 fits 20000) refl)

    apart : (l r x y z t s : ℤ) → l ≤ℤ r → l ≡ x → r ≡ y +ℤ z → y ≡ t → z ≡ s → x ≤ℤ (t +ℤ s)
    apart l r x y z t s h e f g k = omega (arith, ints, h, e, f, g, k)

-- the sum of all, as of a turn where no multiplier moves: beside the law's inputs b over n
far_turn : (n a K s D F : ℕ) (y x alpha beta input b v w g rho m sum : ℤ) → F ≡ s * D → 1 ≤ K → 1 ≤ s →
    (pos 2 *ℤ (pos (a * (K * s)) *ℤ y)) ≤ℤ (pos 2 *ℤ sum +ℤ pos (a * (K * s)) *ℤ m) → sum ≡ pos (K * s) *ℤ alpha +ℤ input →
    (pos n *ℤ input) ≤ℤ (pos n *ℤ (pos K *ℤ beta) +ℤ pos (K * F) *ℤ b) →
    (pos F *ℤ beta) ≤ℤ (pos F *ℤ v -ℤ pos s *ℤ w) → rho ≤ℤ g → rho ≡ pos F *ℤ alpha -ℤ w -ℤ pos (a * F) *ℤ x →
    ((y -ℤ x) *ℤ pos (n * (2 * (a * F)))) ≤ℤ (pos n *ℤ (pos 2 *ℤ (g +ℤ pos D *ℤ v) +ℤ pos (a * F) *ℤ m) +ℤ pos (2 * (D * F)) *ℤ b)
far_turn n a K s D F y x alpha beta input b v w g rho m sum e k l h f o i j r =
    rw e (whole (pos n) (pos a) (pos K) (pos s) (pos D) y x alpha beta input b v w g m (omega (arith, ints)) (omega (arith, ints, k)) (omega (arith, ints, l)) (omega (arith, ints))
    (rw f at h) (rw e at o) (rw e at i) (rw (r, e) at j))
  where
    two : {z : ℤ} → pos 0 ≤ℤ z → pos 0 ≤ℤ (pos 2 *ℤ z)
    two {z} h = omega (arith, ints, h)

    whole : (n a K s D y x alpha beta input b v w g m : ℤ) → pos 0 ≤ℤ n → pos 0 <ℤ K → pos 0 <ℤ s → pos 0 ≤ℤ D →
        (pos 2 *ℤ (a *ℤ (K *ℤ s) *ℤ y)) ≤ℤ (pos 2 *ℤ (K *ℤ s *ℤ alpha +ℤ input) +ℤ a *ℤ (K *ℤ s) *ℤ m) →
        (n *ℤ input) ≤ℤ (n *ℤ (K *ℤ beta) +ℤ K *ℤ (s *ℤ D) *ℤ b) →
        (s *ℤ D *ℤ beta) ≤ℤ (s *ℤ D *ℤ v -ℤ s *ℤ w) → (s *ℤ D *ℤ alpha -ℤ w -ℤ a *ℤ (s *ℤ D) *ℤ x) ≤ℤ g →
        ((y -ℤ x) *ℤ (n *ℤ (pos 2 *ℤ (a *ℤ (s *ℤ D))))) ≤ℤ (n *ℤ (pos 2 *ℤ (g +ℤ D *ℤ v) +ℤ a *ℤ (s *ℤ D) *ℤ m) +ℤ pos 2 *ℤ (D *ℤ (s *ℤ D)) *ℤ b)
    whole n a K s D y x alpha beta input b v w g m pn k l o h f i j =
        let p = mul_pos_z K s k l in
        let wide = mul_nonneg_z s D (le_of_lt_z l) o in
        cancel-le_z (K *ℤ s) _ _ p (le_by
        (add-le-add_z (mul-le-mul_left_z (n *ℤ (s *ℤ D)) (mul_nonneg_z n (s *ℤ D) pn wide) h)
        (add-le-add_z (mul-le-mul_left_z (pos 2 *ℤ (s *ℤ D)) (two wide) f)
        (add-le-add_z (mul-le-mul_left_z (pos 2 *ℤ (n *ℤ K)) (two (mul_nonneg_z n K pn (le_of_lt_z k))) i)
        (mul-le-mul_left_z (pos 2 *ℤ (n *ℤ (K *ℤ s))) (two (mul_nonneg_z n (K *ℤ s) pn (le_of_lt_z p))) j))))
        (by_ring (n ∷ a ∷ K ∷ s ∷ D ∷ y ∷ x ∷ alpha ∷ beta ∷ input ∷ b ∷ v ∷ w ∷ g ∷ m ∷ []) (search quotes depth 60 fits 20000) refl))

-- before the shift
far_before : (d : Design) (c : Numbers) (box : Box) (beta : ℕ → ℕ) → IsLoopFor d c → (row next : ℕ → ℤ) (xi : List ℤ) → length xi ≡ d.states → LiesInBox d.states box (at xi) → IsNear c beta xi →
    (dot d.states row (λ i. round_of (next_sum d c xi i) (next_over d c)) -ℤ dot d.states next (at xi)) ≤ℤ
    floor_of (pos (2 ^ 20) *ℤ (pos 2 *ℤ turn_rest d c box row next +ℤ pos (loop_over d c) *ℤ pos (rounded_size d row))
    +ℤ pos (2 * (2 ^ d.grid * fraction_unit c)) *ℤ pos (far_inputs d beta row)) (2 ^ 20 * (2 * loop_over d c))
far_before d c box beta loop row next xi long inside near =
    let s = 2 ^ (c.fraction_bits - c.grid_bits) in
    let some : 1 ≤ s = omega (arith, pow_pos (c.fraction_bits - c.grid_bits)) in
    let over : 0 < loop_over d c = omega (arith, one-le-mul loop.plant (pow_pos c.fraction_bits)) in
    let wide : 0 < 2 ^ 20 * (2 * loop_over d c) = omega (arith, over) in
    let input = coimage d.states d.plant_b row in
    le-floor _ _ (2 ^ 20 * (2 * loop_over d c)) wide (far_turn (2 ^ 20) d.plant_denominator c.steps s (2 ^ d.grid) (fraction_unit c) _ (dot d.states next (at xi)) _
    (dot d.inputs input (still_entry c xi)) (dot d.inputs input (at (averaged_plan c xi))) (pos (far_inputs d beta row)) _ _ _ _ (pos (rounded_size d row)) _
    (unit_is d c loop) loop.sized.steps.0 some
    (turn_rounded d c loop row xi)
    (numerators_are d c row xi)
    (inputs_most d c beta input xi d.inputs (λ l o. near l (omega (arith, o, loop.sizes.inputs))))
    (over_states _ _ (pos s) _ _ (ap (λ n. dot n (coimage d.inputs (entry_of c.state_gains) input) (at xi)) loop.sizes.states)
    (plan_most c xi d.inputs input loop.sized (long ∙ loop.sizes.states) (first_inputs c d.inputs loop.sized loop.sizes.inputs)))
    (dot_le-greatest d.states box (λ j. through_loop d c row j -ℤ pos (loop_over d c) *ℤ next j) (at xi) inside)
    (rest_is d c row next (at xi)))
  where
    over_states : (b v s w x : ℤ) → w ≡ x → b ≤ℤ (v -ℤ s *ℤ x) → b ≤ℤ (v -ℤ s *ℤ w)
    over_states b v s w x e h = rw e h

pub far_row_law : FarRowLaw
far_row_law d c box shifts beta loop row next xi shift long inside near within =
    shifted_most d c shifts row xi shift _ _ within (far_before d c box beta loop row next xi long inside near)
