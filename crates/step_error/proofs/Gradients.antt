-- The gradient at a plan of the machine.
use Rattle.std.proofs.Common.{◌≡◌, ℕ, ◌+◌, ◌*◌, ◌^◌, ◌<◌, ◌≤◌, ℤ, pos, ◌+ℤ◌, ◌-ℤ◌, ◌*ℤ◌, neg_ℤ, ◌≤ℤ◌, List, length, unsigned_abs, [], ◌∷◌, arith, refl}
use Rattle.std.proofs.lemmas.Int.{ints}
use Rattle.std.proofs.Math.Nat.{mul_comm}
use Rattle.integer_algebra.specs.Sums.{total, image, at}
use Rattle.integer_algebra.specs.Bounds.{absolute, IsWithin}
use Rattle.integer_algebra.proofs.OrderLaws.{le_by, mul-le-mul_left_z}
use Rattle.integer_algebra.proofs.SumLaws.{total_scale}
use Rattle.integer_algebra.proofs.BoundLaws.{within_nonneg, within_more}
use Rattle.integer_algebra.proofs.Quoting.{by_ring, quotes}
use Rattle.qp_model.specs.problem.Design.{Design, entries}
use Rattle.qp_model.specs.form.Form.{Form}
use Rattle.qp_model.specs.machine.Controller.{Numbers, IsShaped, plan_length}
use Rattle.qp_model.specs.machine.Machine.{plan_entry}
use Rattle.qp_model.specs.form.GoodSolution.{IsGood}
use Rattle.qp_model.specs.form.Columns.{solve_matrix, solve_column}
use Rattle.qp_model.specs.bounds.Errors.{state_bound}
use Rattle.qp_model.specs.bounds.Built.{gain_column, IsDerivedFrom}
use Rattle.step_error.specs.Carried.{AreGood, IsRounded}
use Rattle.step_error.specs.Machine.{pulls}
use Rattle.step_error.proofs.Forms.{counted}
use Rattle.step_error.proofs.CarriedLaws.{gradient}
use Rattle.step_error.proofs.Gains.{plan_entry_is}
use Rattle.step_error.proofs.Pulls.{pulls_reach}

-- a state and multipliers of the machine, within their reach
pub record AreReached (d : Design) (r : ℕ) (c : Numbers) (x l : List ℤ) : Type 0 where
  pub state_length : length x ≡ c.states
  pub multiplier_length : length l ≡ c.rows
  pub state : (i : ℕ) → i < c.states → unsigned_abs (at x i) ≤ state_bound d * 2 ^ c.fraction_bits
  pub multipliers : (i : ℕ) → i < c.rows → unsigned_abs (at l i) ≤ 2 * r * 2 ^ (c.fraction_bits + c.step_exponent)

-- both inequalities of a good solution as one
pub good_within : (n : ℕ) (h : ℕ → ℕ → ℤ) (f : ℕ) (c x : ℕ → ℤ) → IsGood n h f c x → (j : ℕ) → j < n →
    IsWithin (h j j) (pos 2 *ℤ (total n (λ l. h j l *ℤ x l) -ℤ pos (2 ^ f) *ℤ c j))
good_within n h f c x good j inside = record { below = (good j inside).0; above = turned (h j j) (image n h x j) (pos (2 ^ f) *ℤ c j) (good j inside).1 }
  where
    turned : (h a b : ℤ) → (pos 2 *ℤ (b -ℤ a)) ≤ℤ h → neg_ℤ h ≤ℤ (pos 2 *ℤ (a -ℤ b))
    turned h a b k = omega (arith, ints)

module _ (d : Design) (h : Form) (r : ℕ) (c : Numbers) (x l : List ℤ) (made : IsDerivedFrom d (counted d h) r c) (shaped : IsShaped c) (reached : AreReached d r c x l) where
  abbrev plan : ℕ → ℤ
  plan j = plan_entry c x l j

  abbrev scale : ℤ
  scale = pos (2 ^ (c.fraction_bits + c.step_exponent))

  abbrev gradient_column : ℕ → ℕ → ℤ
  gradient_column j i = solve_column (counted d h) i j

  pub length_is : plan_length c ≡ entries d
  length_is = let e = made.sizes.inputs in let f = made.sizes.stages in rw (e, f) (mul_comm d.inputs d.stages)

  pub gradient_within : (j : ℕ) → j < entries d →
      IsWithin (scale *ℤ (pos 2 *ℤ total (entries d) (λ i. absolute (solve_matrix h j i)) +ℤ solve_matrix h j j *ℤ pos (c.states * state_bound d + 1 + c.rows * (2 * r))))
      (pos 2 *ℤ (scale *ℤ image (entries d) (solve_matrix h) plan j +ℤ pos (2 ^ c.fraction_bits) *ℤ image (c.states + 1 + c.rows) gradient_column (pulls c x l) j))
  gradient_within j inside =
      within_more _ _ _
      (gradient (entries d) (c.states + 1 + c.rows) (solve_matrix h) (λ j i. gain_column c i j) gradient_column (λ j i. solve_matrix h j j) (pos (2 ^ c.fraction_bits)) scale
      (pulls c x l) plan good rounded j inside)
      (bounded (total (entries d) (λ i. absolute (solve_matrix h j i))) (solve_matrix h j j) scale (pos (c.states * state_bound d + 1 + c.rows * (2 * r)))
      (total (c.states + 1 + c.rows) (λ i. absolute (pulls c x l i))) (total_scale (c.states + 1 + c.rows) (solve_matrix h j j) (λ i. absolute (pulls c x l i))) (diagonal j inside)
      (pulls_reach c x l (state_bound d) (2 * r) reached.state reached.multipliers))
    where
      good : AreGood (entries d) (c.states + 1 + c.rows) (solve_matrix h) (λ j i. gain_column c i j) gradient_column (pos (2 ^ c.fraction_bits))
      good i j k m = good_within (entries d) (solve_matrix h) c.fraction_bits (solve_column (counted d h) i) (gain_column c i) (made.gains i (omega (arith, k, made.sizes.states, made.sizes.rows))) j m

      rounded : IsRounded (entries d) (c.states + 1 + c.rows) (λ j i. gain_column c i j) scale (pulls c x l) plan
      rounded j k = plan_entry_is c x l j shaped reached.state_length reached.multiplier_length (rw length_is k)

      diagonal : (j : ℕ) → j < entries d → pos 0 ≤ℤ solve_matrix h j j
      diagonal j k = within_nonneg (good_within (entries d) (solve_matrix h) c.fraction_bits (solve_column (counted d h) 0) (gain_column c 0) (made.gains 0 (omega arith)) j k)

      bounded : (t o s z v : ℤ) {w : ℤ} → w ≡ o *ℤ v → pos 0 ≤ℤ o → v ≤ℤ (s *ℤ z) → (pos 2 *ℤ (s *ℤ t) +ℤ w) ≤ℤ (s *ℤ (pos 2 *ℤ t +ℤ o *ℤ z))
      bounded t o s z v e p k = rw e (le_by (mul-le-mul_left_z o p k) (by_ring (t ∷ o ∷ s ∷ z ∷ v ∷ []) (search quotes depth 60 fits 20000) refl))
