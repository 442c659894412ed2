-- Where no multiplier moves, the machine repeats one plan.
use Rattle.std.proofs.Common.{◌≡◌, inl, inr, ℕ, zero, suc, ◌-◌, ◌*◌, ◌^◌, ◌<◌, ◌≤◌, [], ◌∷◌, ℤ, pos, ◌+ℤ◌, ◌-ℤ◌, ◌*ℤ◌, neg_ℤ, ◌≤ℤ◌, ◌<ℤ◌, List, length, le_refl, arith, ap, sym, ◌∙◌, refl}
use Rattle.std.specs.Int.{int_max, int_min}
use Rattle.std.proofs.lemmas.Int.{ints, clamps, by_lt_z}
use Rattle.std.proofs.lemmas.Bool.{cases_lt}
use Rattle.std.proofs.lemmas.Nat.{mul-le, pow-add, pow_pos}
use Rattle.std.proofs.Math.IntN.{*ℤ-zero, zero-*ℤ, *ℤ_comm}
use Rattle.std.proofs.lemmas.List.{get_or_past, get_or-map, length-map}
use Rattle.std.proofs.lemmas.List.FromFn.{length-map-range_with_len, get_or-map-range_with_len}
use Rattle.integer_algebra.specs.Division.{floor_of}
use Rattle.integer_algebra.specs.Sums.{dot, image, coimage, at}
use Rattle.integer_algebra.proofs.RingLaws.{add_equations}
use Rattle.integer_algebra.proofs.DivisionLaws.{floor_of_is}
use Rattle.integer_algebra.proofs.OrderLaws.{le_by, lt_by, add-le-add_z, le_of_lt_z, mul-le-mul_left_z, mul_nonneg_z}
use Rattle.integer_algebra.proofs.SumLaws.{total_add, total_mono, total_scale}
use Rattle.integer_algebra.proofs.VectorLaws.{dot_same, dot_sub, dot_scale, dot_scale_right, dot_image}
use Rattle.integer_algebra.proofs.Quoting.{by_ring, quotes}
use Rattle.mat_int.specs.Row.{list_dot}
use Rattle.mat_int.specs.Matrix.{Matrix, row_of, entry_of}
use Rattle.mat_int.proofs.Indices.{dot_is}
use Rattle.qp_model.specs.machine.Controller.{Numbers, plan_length, HasShape, IsSized}
use Rattle.qp_model.specs.machine.Machine.{loaded, lowering_of, raised, top_of, plan_entry, plan_of, row_sum, next_multiplier, after}
use Rattle.qp_model.proofs.MagnitudeLaws.{zeros_at, top_nonneg}
use Rattle.overflow_check.specs.FastController.{with_last_version}
use Rattle.overflow_check.specs.declared.machine.Machine.TheVariants.{Plain}
use Rattle.overflow_check.proofs.Machines.{shared}
use Rattle.stay_check.proofs.StayLaws.{product_le-max}
use Rattle.settle_check.specs.Still.{Box, LiesInBox, greatest_over, greatest_less, fraction_unit, still_coefficient, still_sum, IsStill, still_entry, StillLaw}
use Rattle.settle_check.proofs.FloorLaws.{floor-le, floor_scaled}

-- ---- over a box
-- v'x is at most the greatest over the box
pub dot_le-greatest : (n : ℕ) (z : Box) (v x : ℕ → ℤ) → LiesInBox n z x → dot n v x ≤ℤ greatest_over n z v
dot_le-greatest n z v x h = total_mono n _ _ (λ j l. product_le-max (v j) (x j) (z.low j) (z.high j) (h j l).0 (h j l).1)

-- ---- the plan
-- where all multipliers are 0
dot_zeros : (xs ys : List ℤ) → ((i : ℕ) → at ys i ≡ pos 0) → list_dot xs ys ≡ pos 0
dot_zeros [] ys h = refl
dot_zeros (x ∷ xs) [] h = refl
dot_zeros (x ∷ xs) (y ∷ ys) h = omega (arith, ints, ap (λ (z : ℤ). x *ℤ z) (h 0) ∙ *ℤ-zero x, dot_zeros xs ys (λ i. h (suc i)))

raised_zeros : (c : Numbers) (l : List ℤ) → ((i : ℕ) → at l i ≡ pos 0) → (i : ℕ) → at (raised c l) i ≡ pos 0
raised_zeros c l h i =
    let f : ℕ → ℤ = λ i. at l i *ℤ pos (2 ^ lowering_of c i) in
    elim (cases_lt i (length c.bounds)) [
      | inl lt ↦ get_or-map-range_with_len f 0 (length c.bounds) i i (pos 0) lt (omega arith) ∙ ap (λ (z : ℤ). z *ℤ pos (2 ^ lowering_of c i)) (h i) ∙ zero-*ℤ (pos (2 ^ lowering_of c i))
      | inr le ↦ get_or_past (raised c l) i (pos 0) (omega (arith, length-map-range_with_len f 0 (length c.bounds), le))
    ]

pub entry_is : (c : Numbers) (xi l : List ℤ) → ((i : ℕ) → at l i ≡ pos 0) → (j : ℕ) → j < length c.offsets → at (plan_of c (loaded c xi) (raised c l)) j ≡ still_entry c xi j
entry_is c xi l h j inside =
    get_or-map-range_with_len (plan_entry c (loaded c xi) (raised c l)) 0 (length c.offsets) j j (pos 0) inside (omega arith)
    ∙ unscaled _ _ (fraction_unit c) (2 ^ c.step_exponent) _ (dot_zeros (row_of c.dual_gains j) (raised c l) (raised_zeros c l h))
    (pow-add 2 c.fraction_bits c.step_exponent) (pow_pos c.fraction_bits) (pow_pos c.step_exponent)
  where
    unscaled : (x r : ℤ) (d p e : ℕ) → r ≡ pos 0 → e ≡ d * p → 0 < d → 0 < p → neg_ℤ (floor_of (x *ℤ pos p +ℤ r) e) ≡ neg_ℤ (floor_of x d)
    unscaled x r d p e f g h k =
        let w : x *ℤ pos p +ℤ r ≡ x *ℤ pos p = omega (arith, ints, f) in
        rw (w, g) (ap neg_ℤ (floor_scaled x d p h k))

-- ---- shapes and ranges
-- a controller of the plain machine has those of all versions
pub plain_sized : (c : Numbers) → IsSized c → IsSized (with_last_version c)
plain_sized c sized = shared Plain c sized

-- ---- lists by index
-- a plan has the inputs of a stage
pub first_inputs : (c : Numbers) (n : ℕ) → IsSized (with_last_version c) → n ≡ c.inputs → n ≤ plan_length c
first_inputs c n sized e = omega (arith, e, mul-le c.inputs 1 c.inputs c.stages (le_refl c.inputs) sized.stages.0)

row_long : (m : Matrix) (h w i : ℕ) → HasShape m h w → i < h → length (row_of m i) ≡ w
row_long m h w i s l = s.each i [] (omega (arith, l, s.rows))

state_at : (c : Numbers) (xi : List ℤ) (j : ℕ) → j < length xi → at (loaded c xi) j ≡ pos (2 ^ (c.fraction_bits - c.grid_bits)) *ℤ at xi j
state_at c xi j l =
    get_or-map (λ x. x *ℤ pos (2 ^ (c.fraction_bits - c.grid_bits))) xi j (pos 0) (pos 0) l ∙ *ℤ_comm (at xi j) (pos (2 ^ (c.fraction_bits - c.grid_bits)))

-- a row of numbers of the state, times the loaded state
state_dot : (c : Numbers) (xi : List ℤ) (m : Matrix) (h i : ℕ) → length xi ≡ c.states → HasShape m h c.states → i < h →
    list_dot (row_of m i) (loaded c xi) ≡ pos (2 ^ (c.fraction_bits - c.grid_bits)) *ℤ dot c.states (entry_of m i) (at xi)
state_dot c xi m h i long shape l =
    dot_is c.states (row_of m i) (loaded c xi) (row_long m h c.states i shape l) (length-map xi (λ x. x *ℤ pos (2 ^ (c.fraction_bits - c.grid_bits))) ∙ long)
    ∙ dot_same c.states (entry_of m i) _ _ (λ j o. state_at c xi j (omega (arith, o, long)))
    ∙ dot_scale_right c.states (pos (2 ^ (c.fraction_bits - c.grid_bits))) (entry_of m i) (at xi)

-- ---- a sum of plan entries, each rounded up by less than a unit
-- of an entry u of -x / F, and of it times g
times_rest : (g u x F : ℤ) → pos 0 ≤ℤ (F *ℤ u +ℤ x) → (F *ℤ u +ℤ x) ≤ℤ F → (g *ℤ (F *ℤ u +ℤ x)) ≤ℤ (F *ℤ int_max g (pos 0))
times_rest g u x F h k = by_lt_z g (pos 0)
    (λ l. let e : int_max g (pos 0) ≡ pos 0 = omega (arith, ints, clamps) in
    rw e (below g (F *ℤ u +ℤ x) F (omega (arith, ints)) h))
    (λ l. let e : int_max g (pos 0) ≡ g = omega (arith, ints, clamps) in
    rw (e, *ℤ_comm F g) (mul-le-mul_left_z g l k))
  where
    below : (g r F : ℤ) → pos 0 ≤ℤ neg_ℤ g → pos 0 ≤ℤ r → (g *ℤ r) ≤ℤ (F *ℤ pos 0)
    below g r F h k = le_by (mul_nonneg_z (neg_ℤ g) r h k) (by_ring (g ∷ r ∷ F ∷ []) (search quotes depth 60 fits 20000) refl)

-- x is what the entry is the floor of: s P x + T F
entry_rest : (g s p t x : ℤ) (F : ℕ) → 0 < F → x ≡ s *ℤ p →
    (pos F *ℤ (g *ℤ neg_ℤ (floor_of (x +ℤ t *ℤ pos F) F)) +ℤ s *ℤ (g *ℤ p)) ≤ℤ (pos F *ℤ (int_max g (pos 0) -ℤ g *ℤ t))
entry_rest g s p t x F h e =
    let q = floor_of (x +ℤ t *ℤ pos F) F in
    let f = floor_of_is (x +ℤ t *ℤ pos F) F h in
    spread g (neg_ℤ q) s p t (pos F) _ x e (times_rest g (neg_ℤ q) (x +ℤ t *ℤ pos F) (pos F) (least q (pos F) _ f.least) (le_of_lt_z (most q (pos F) _ f.greatest)))
  where
    least : (q F x : ℤ) → (q *ℤ F) ≤ℤ x → pos 0 ≤ℤ (F *ℤ neg_ℤ q +ℤ x)
    least q F x h = le_by h (by_ring (q ∷ F ∷ x ∷ []) (search quotes depth 60 fits 20000) refl)

    most : (q F x : ℤ) → x <ℤ ((q +ℤ pos 1) *ℤ F) → (F *ℤ neg_ℤ q +ℤ x) <ℤ F
    most q F x h = lt_by h (by_ring (q ∷ F ∷ x ∷ []) (search quotes depth 60 fits 20000) refl)

    spread : (g u s p t F m x : ℤ) → x ≡ s *ℤ p → (g *ℤ (F *ℤ u +ℤ (x +ℤ t *ℤ F))) ≤ℤ (F *ℤ m) → (F *ℤ (g *ℤ u) +ℤ s *ℤ (g *ℤ p)) ≤ℤ (F *ℤ (m -ℤ g *ℤ t))
    spread g u s p t F m x e h = le_by (rw e at h) (by_ring (g ∷ u ∷ s ∷ p ∷ t ∷ F ∷ m ∷ []) (search quotes depth 60 fits 20000) refl)

pub plan_most : (c : Numbers) (xi : List ℤ) (m : ℕ) (g : ℕ → ℤ) → IsSized (with_last_version c) → length xi ≡ c.states → m ≤ plan_length c →
    (pos (fraction_unit c) *ℤ dot m g (still_entry c xi)) ≤ℤ
    (pos (fraction_unit c) *ℤ greatest_less m g (at c.offsets)
    -ℤ pos (2 ^ (c.fraction_bits - c.grid_bits)) *ℤ dot c.states (coimage m (entry_of c.state_gains) g) (at xi))
plan_most c xi m g sized long small =
    let F = pos (fraction_unit c) in
    let s = pos (2 ^ (c.fraction_bits - c.grid_bits)) in
    let p : ℕ → ℤ = image c.states (entry_of c.state_gains) (at xi) in
    apart _ _ _ _ _
    (total_mono m (λ l. F *ℤ (g l *ℤ still_entry c xi l) +ℤ s *ℤ (g l *ℤ p l)) (λ l. F *ℤ (int_max (g l) (pos 0) -ℤ g l *ℤ at c.offsets l))
    (λ l o. entry_rest (g l) s (p l) (at c.offsets l) _ (fraction_unit c) (pow_pos c.fraction_bits)
    (state_dot c xi c.state_gains (plan_length c) l long sized.shaped.state_gains (omega (arith, o, small)))))
    (total_add m (λ l. F *ℤ (g l *ℤ still_entry c xi l)) (λ l. s *ℤ (g l *ℤ p l))
    ∙ add_equations (total_scale m F (λ l. g l *ℤ still_entry c xi l)) (total_scale m s (λ l. g l *ℤ p l) ∙ ap (λ (z : ℤ). s *ℤ z) (dot_image m c.states (entry_of c.state_gains) g (at xi))))
    (total_scale m F (λ l. int_max (g l) (pos 0) -ℤ g l *ℤ at c.offsets l))
  where
    apart : (u v x l r : ℤ) → l ≤ℤ r → l ≡ u +ℤ x → r ≡ v → u ≤ℤ (v -ℤ x)
    apart u v x l r h e f = omega (arith, ints, h, e, f)

-- ---- no multiplier moves
-- F times a row's residual is at most the tested sum
pub row_most : (c : Numbers) (z : Box) (xi : List ℤ) (plan : List ℤ) (i : ℕ) → IsSized (with_last_version c) → length xi ≡ c.states → LiesInBox c.states z (at xi) → i < c.rows →
    length plan ≡ plan_length c → ((j : ℕ) → j < plan_length c → at plan j ≡ still_entry c xi j) →
    (pos (fraction_unit c) *ℤ row_sum c (loaded c xi) plan i) ≤ℤ still_sum c z i
row_most c z xi plan i sized long inside l planned entries =
    let F = pos (fraction_unit c) in
    let s = pos (2 ^ (c.fraction_bits - c.grid_bits)) in
    summed F s (at c.bounds i) _ _ _ _ _ _ _ _
    (dot_is (plan_length c) (row_of c.plan_rows i) plan (row_long c.plan_rows c.rows (plan_length c) i sized.shaped.plan_rows l) planned
    ∙ dot_same (plan_length c) (entry_of c.plan_rows i) _ _ entries)
    (state_dot c xi c.state_rows c.rows i long sized.shaped.state_rows l)
    (plan_most c xi (plan_length c) (entry_of c.plan_rows i) sized long (le_refl (plan_length c)))
    (mul-le-mul_left_z s (omega (arith, ints)) (dot_le-greatest c.states z (still_coefficient c i) (at xi) inside))
    (dot_sub c.states (λ j. F *ℤ entry_of c.state_rows i j) _ (at xi)
    ∙ ap (λ (y : ℤ). y -ℤ dot c.states (coimage (plan_length c) (entry_of c.state_gains) (entry_of c.plan_rows i)) (at xi)) (dot_scale c.states F (entry_of c.state_rows i) (at xi)))
  where
    summed : (F s b g u e x v y k top : ℤ) → g ≡ u → e ≡ s *ℤ x → (F *ℤ u) ≤ℤ (F *ℤ v -ℤ s *ℤ y) → (s *ℤ k) ≤ℤ (s *ℤ top) → k ≡ F *ℤ x -ℤ y →
        (F *ℤ (g +ℤ e -ℤ b *ℤ F)) ≤ℤ (s *ℤ top +ℤ F *ℤ (v -ℤ F *ℤ b))
    summed F s b g u e x v y k top p q h m r =
        rw (p, q) (le_by (add-le-add_z h (rw r at m)) (by_ring (F ∷ s ∷ b ∷ u ∷ x ∷ v ∷ y ∷ top ∷ []) (search quotes depth 60 fits 20000) refl))

-- a residual below 1 is rounded down to at most 0
pub floor_low : (r : ℤ) (F : ℕ) (s : ℤ) → 0 < F → (pos F *ℤ r) ≤ℤ s → s <ℤ (pos F *ℤ pos F) → floor_of r F ≤ℤ pos 0
floor_low r F s p m l = floor-le (pos 0) r F p (below r s (pos F) (omega (arith, ints)) m l)
  where
    clash : (a b s : ℤ) → a ≤ℤ b → b ≤ℤ s → s <ℤ a → ⊥
    clash a b s h k l = omega (arith, ints)

    below : (r s F : ℤ) → pos 0 <ℤ F → (F *ℤ r) ≤ℤ s → s <ℤ (F *ℤ F) → r <ℤ ((pos 0 +ℤ pos 1) *ℤ F)
    below r s F p h k = by_lt_z r F
        (λ l. lt_by l (by_ring (r ∷ F ∷ []) (search quotes depth 60 fits 20000) refl))
        (λ l. absurd (clash (F *ℤ F) (F *ℤ r) s (mul-le-mul_left_z F (le_of_lt_z p) l) h k))

-- so a multiplier that is 0 stays so
stays_zero : (top old q : ℤ) → pos 0 ≤ℤ top → old ≡ pos 0 → q ≤ℤ pos 0 → int_min top (int_max (old +ℤ q) (pos 0)) ≡ pos 0
stays_zero top old q h e l = omega (arith, ints, clamps, e)

module _ (c : Numbers) (z : Box) (sized : IsSized (with_last_version c)) (still : IsStill c z) (xi : List ℤ) (long : length xi ≡ c.states) (inside : LiesInBox c.states z (at xi)) where
  pub plan_at : (l : List ℤ) → ((i : ℕ) → at l i ≡ pos 0) → (j : ℕ) → j < plan_length c → at (plan_of c (loaded c xi) (raised c l)) j ≡ still_entry c xi j
  plan_at l h j o = entry_is c xi l h j (omega (arith, o, sized.shaped.offsets))

  pub plan_long : (l : List ℤ) → length (plan_of c (loaded c xi) (raised c l)) ≡ plan_length c
  plan_long l = length-map-range_with_len (plan_entry c (loaded c xi) (raised c l)) 0 (length c.offsets) ∙ sized.shaped.offsets

  -- under the plan of multipliers that are all 0
  pub residual_low : (l : List ℤ) → ((i : ℕ) → at l i ≡ pos 0) → (i : ℕ) → i < c.rows → floor_of (row_sum c (loaded c xi) (plan_of c (loaded c xi) (raised c l)) i) (fraction_unit c) ≤ℤ pos 0
  residual_low l zeros i row =
      floor_low (row_sum c (loaded c xi) (plan_of c (loaded c xi) (raised c l)) i) (fraction_unit c) (still_sum c z i) (pow_pos c.fraction_bits)
      (row_most c z xi (plan_of c (loaded c xi) (raised c l)) i sized long inside row (plan_long l) (plan_at l zeros)) (still i row)

  no_multiplier : (k i : ℕ) → at (after c (loaded c xi) k).multipliers i ≡ pos 0
  unfolding after
  no_multiplier zero i = zeros_at (length c.bounds) i
  no_multiplier (suc k) i =
      let old = (after c (loaded c xi) k).multipliers in
      let plan = plan_of c (loaded c xi) (raised c old) in
      let next : ℕ → ℤ = λ i. next_multiplier c (loaded c xi) plan (at old i) i in
      elim (cases_lt i (length c.bounds)) [
        | inl lt ↦ (let row : i < c.rows = omega (arith, lt, sized.shaped.bounds) in
            get_or-map-range_with_len next 0 (length c.bounds) i i (pos 0) lt (omega arith)
            ∙ stays_zero (top_of c i) (at old i) _ (top_nonneg c i sized.clamp_low) (no_multiplier k i) (residual_low old (no_multiplier k) i row))
        | inr le ↦ get_or_past (after c (loaded c xi) (suc k)).multipliers i (pos 0) (omega (arith, length-map-range_with_len next 0 (length c.bounds), le))
      ]

  plan_after : (k j : ℕ) → j < plan_length c → at (after c (loaded c xi) (suc k)).plan j ≡ still_entry c xi j
  unfolding after
  plan_after k j o = plan_at (after c (loaded c xi) k).multipliers (no_multiplier k) j o

  sum_after : (k j : ℕ) → j < plan_length c → at (after c (loaded c xi) k).sums j ≡ pos k *ℤ still_entry c xi j
  unfolding after
  sum_after zero j o = zeros_at (length c.offsets) j ∙ sym (zero-*ℤ (still_entry c xi j))
  sum_after (suc k) j o =
      let made = after c (loaded c xi) k in
      let plan = plan_of c (loaded c xi) (raised c made.multipliers) in
      get_or-map-range_with_len (λ j. at made.sums j +ℤ at plan j) 0 (length plan) j j (pos 0) (omega (arith, o, plan_long made.multipliers)) (omega arith)
      ∙ more k _ _ _ (sum_after k j o) (plan_at made.multipliers (no_multiplier k) j o)
    where
      more : (k : ℕ) (s p u : ℤ) → s ≡ pos k *ℤ u → p ≡ u → s +ℤ p ≡ pos (suc k) *ℤ u
      more k s p u e f = omega (arith, ints, e, f)

pub still_law : StillLaw
still_law c z sized still xi long inside = record {
  multipliers = no_multiplier c z sized still xi long inside;
  plans = plan_after c z sized still xi long inside;
  average = sum_after c z sized still xi long inside c.steps;
}
