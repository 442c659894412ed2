-- A plan that costs little more than one whose gradient is small is near to it.
use Rattle.std.proofs.Common.{◌≡◌, ℕ, suc, ◌+◌, ◌*◌, ◌%◌, ◌^◌, ◌<◌, ◌≤◌, [], ◌∷◌, ℤ, pos, ◌+ℤ◌, ◌-ℤ◌, ◌*ℤ◌, neg_ℤ, ◌≤ℤ◌, ◌<ℤ◌, le_refl, arith, refl, ap, ap₂, sym, ◌∙◌}
use mathlib.Core.Path.{fun_ext}
use Rattle.std.proofs.lemmas.Int.{ints, by_lt_z}
use Rattle.std.proofs.lemmas.Nat.{mod-mul-add, mul-le, pow_pos}
use Rattle.std.proofs.Math.Nat.{one-le-mul}
use Rattle.integer_algebra.specs.Sums.{total, dot, square, none}
use Rattle.integer_algebra.specs.Sizes.{amount}
use Rattle.integer_algebra.specs.Bounds.{absolute, IsWithin}
use Rattle.integer_algebra.proofs.RingLaws.{add_difference, add_equations, same_by}
use Rattle.integer_algebra.proofs.OrderLaws.{pos_positive, le_by, le_of_lt_z, add-le-add_z, difference_nonneg, mul_nonneg_z, mul_pos_z, square_nonneg_z, mul-le-mul_left_z, cancel-le_z}
use Rattle.integer_algebra.proofs.SumLaws.{total_same, total_add, total_scale, total_mono, total_nonneg, term-le-total}
use Rattle.integer_algebra.proofs.SizeLaws.{total_amount}
use Rattle.integer_algebra.proofs.BlockLaws.{total_blocks}
use Rattle.integer_algebra.proofs.BoundLaws.{absolute_square, within_times}
use Rattle.integer_algebra.proofs.DivisionLaws.{le-mul-ceil_div}
use Rattle.integer_algebra.proofs.PowerLaws.{pow-two, pow_positive}
use Rattle.integer_algebra.proofs.VectorLaws.{image_scale}
use Rattle.integer_algebra.proofs.Quoting.{by_ring, quotes}
use Rattle.qp_model.specs.problem.Design.{Design, CostRow, entries}
use Rattle.qp_model.specs.problem.Sound.{IsSound}
use Rattle.qp_model.specs.problem.Trajectory.{trajectory, lift}
use Rattle.qp_model.specs.problem.Cost.{cost, cost_term, cost_scale}
use Rattle.qp_model.specs.form.Condensed.{Condensed, slope_at, gradient_at}
use Rattle.qp_model.specs.form.Condensing.{condensed_of}
use Rattle.qp_model.specs.form.Curvature.{untargeted, curvature}
use Rattle.qp_model.specs.form.Quantities.{input_floor}
use Rattle.qp_model.specs.bounds.Certified.{CostsAtMost}
use Rattle.qp_model.proofs.CostLaws.{condensing}
use Rattle.qp_model.proofs.CurvatureLaws.{expansion_law}
use Rattle.qp_model.proofs.RowLaws.{remainder_inside}
use Rattle.qp_model.proofs.ScalingLaws.{scaling_law}
use Rattle.near_check.specs.Distance.{HasSlopes, descent, IsFar, DistanceLaw}

-- ---- what a step bends the cost up by, input by input
-- the weight of entry j
abbrev weight_at : Design → ℕ → ℤ
weight_at d j = d.input_weight (j % d.inputs)

own_weights : (d : Design) (a : ℤ) (v : ℕ → ℤ) →
    total d.stages (λ k. total d.inputs (λ l. d.input_weight l *ℤ square (a *ℤ v (k * d.inputs + l)))) ≡ square a *ℤ total (entries d) (λ j. weight_at d j *ℤ square (v j))
own_weights d a v =
    total_same d.stages _ _ (λ k m. total_same d.inputs _ _ (λ l o. one (d.input_weight l) a (v (k * d.inputs + l)) _ (ap d.input_weight (mod-mul-add k d.inputs l o)))
    ∙ total_scale d.inputs (square a) (λ l. weight_at d (k * d.inputs + l) *ℤ square (v (k * d.inputs + l))))
    ∙ total_scale d.stages (square a) (λ k. total d.inputs (λ l. weight_at d (k * d.inputs + l) *ℤ square (v (k * d.inputs + l))))
    ∙ ap (λ (z : ℤ). square a *ℤ z) (sym (total_blocks d.stages d.inputs (λ j. weight_at d j *ℤ square (v j))))
  where
    one : (w a x m : ℤ) → m ≡ w → w *ℤ square (a *ℤ x) ≡ square a *ℤ (m *ℤ square x)
    one w a x m e = rw e (by_ring (w ∷ a ∷ x ∷ []) (search quotes depth 60 fits 20000) refl)

weights_law : (d : Design) (rho : ℕ) → IsSound d rho → (v : ℕ → ℤ) →
    (pos (cost_scale d) *ℤ total (entries d) (λ j. weight_at d j *ℤ square (v j))) ≤ℤ (pos d.cost_denominator *ℤ curvature d v)
weights_law d rho sound v = closed (pos (cost_scale d)) (pos d.cost_denominator) (square (pos unit)) _
    (total d.stages (λ k. total d.stage_costs (λ r. cost_term d (pos 1) none v (suc k) (untargeted (d.stage_cost r)))))
    (total d.final_costs (λ r. cost_term d (pos 1) none v d.stages (untargeted (d.final_cost r)))) _
    (ap pos (ap (λ n. d.cost_denominator * n) (pow-two unit))) (omega (arith, ints))
    (total_nonneg d.stages _ (λ k l. total_nonneg d.stage_costs _
    (λ r m. mul_nonneg_z (d.stage_cost r).weight (square (place (suc k) (untargeted (d.stage_cost r)))) (sound.stage_weight r m) (square_nonneg_z (place (suc k) (untargeted (d.stage_cost r)))))))
    (total_nonneg d.final_costs _ (λ r m. mul_nonneg_z (d.final_cost r).weight (square (place d.stages (untargeted (d.final_cost r)))) (sound.final_weight r m) (square_nonneg_z (place d.stages (untargeted (d.final_cost r))))))
    (own_weights d (pos unit) v)
  where
    unit : ℕ
    unit = d.row_denominator * 2 ^ d.grid * d.plant_denominator ^ d.stages

    place : ℕ → CostRow → ℤ
    place k r = lift d k *ℤ (dot d.states r.coefficient (trajectory d (pos 1) none v k) -ℤ pos (2 ^ d.grid) *ℤ pos 1 *ℤ pos (d.plant_denominator ^ k) *ℤ r.target)

    closed : (s c a x f g h : ℤ) → s ≡ c *ℤ a → pos 0 ≤ℤ c → pos 0 ≤ℤ f → pos 0 ≤ℤ g → h ≡ a *ℤ x → (s *ℤ x) ≤ℤ (c *ℤ (f +ℤ g +ℤ h))
    closed s c a x f g h e pc pf pg k = rw (e, k) (le_by (mul-le-mul_left_z c pc (add-le-add_z pf pg)) (by_ring (c ∷ a ∷ x ∷ f ∷ g ∷ []) (search quotes depth 60 fits 20000) refl))

-- what costs are over is some
scale_some : (d : Design) → IsSound d (input_floor d) → 1 ≤ cost_scale d
scale_some d sound =
    let unit = one-le-mul (one-le-mul sound.row_denominator (pow_pos d.grid)) (pow_positive d.plant_denominator d.stages sound.plant_denominator) in
    one-le-mul sound.cost_denominator (pow_positive (d.row_denominator * 2 ^ d.grid * d.plant_denominator ^ d.stages) 2 unit)

-- ---- numbers alone
-- what an entry's weight bends up and what its slope takes off, completed to a square
entry_nonneg : (rho w c s o y m : ℤ) → pos 0 ≤ℤ rho → rho ≤ℤ w → square m ≡ square y →
    pos 0 ≤ℤ (pos 4 *ℤ rho *ℤ (w *ℤ square y) +ℤ (neg_ℤ (pos 4 *ℤ rho *ℤ c *ℤ o) *ℤ (s *ℤ m) +ℤ square (c *ℤ o) *ℤ square s))
entry_nonneg rho w c s o y m p h e = rw (← e) (le_by
    (add-le-add_z (square_nonneg_z (pos 2 *ℤ rho *ℤ m -ℤ c *ℤ s *ℤ o)) (mul_nonneg_z (pos 4 *ℤ rho) ((w -ℤ rho) *ℤ (m *ℤ m)) (mul_nonneg_z (pos 4) rho (omega (arith, ints)) p)
    (mul_nonneg_z (w -ℤ rho) (m *ℤ m) (difference_nonneg h) (square_nonneg_z m))))
    (by_ring (rho ∷ w ∷ c ∷ s ∷ o ∷ m ∷ []) (search quotes depth 60 fits 20000) refl))

-- a step costs g along the gradient and k by its curvature; all entries' weights and slopes are a and b
all_entries : (n scale c o more g k a b : ℤ) → pos 0 <ℤ scale → pos 0 ≤ℤ c → pos 0 ≤ℤ square n →
    (square n *ℤ (g +ℤ k)) ≤ℤ (more *ℤ scale *ℤ square o) → (scale *ℤ a) ≤ℤ (c *ℤ k) → (neg_ℤ (scale *ℤ o) *ℤ b) ≤ℤ (square n *ℤ g) →
    (square n *ℤ a -ℤ c *ℤ o *ℤ b) ≤ℤ (c *ℤ more *ℤ square o)
all_entries n scale c o more g k a b ps pc pn h w s = cancel-le_z scale _ _ ps (le_by
    (add-le-add_z (mul-le-mul_left_z c pc h) (add-le-add_z (mul-le-mul_left_z (square n) pn w) (mul-le-mul_left_z c pc s)))
    (by_ring (n ∷ scale ∷ c ∷ o ∷ more ∷ g ∷ k ∷ a ∷ b ∷ []) (search quotes depth 60 fits 20000) refl))

-- so one entry has no more than the others' slopes take off, which is the descent
one_entry : (rho w c s o m more down all squares part : ℤ) → pos 0 <ℤ rho → pos 0 ≤ℤ (c *ℤ square o) → all ≤ℤ (c *ℤ more *ℤ square o) → (c *ℤ squares) ≤ℤ (pos 4 *ℤ rho *ℤ down) →
    part ≡ pos 4 *ℤ rho *ℤ (w *ℤ square m) +ℤ (neg_ℤ (pos 4 *ℤ rho *ℤ c *ℤ o) *ℤ (s *ℤ m) +ℤ square (c *ℤ o) *ℤ square s) →
    part ≤ℤ (pos 4 *ℤ rho *ℤ all +ℤ square (c *ℤ o) *ℤ squares) →
    (w *ℤ square m) ≤ℤ (c *ℤ s *ℤ o *ℤ m +ℤ c *ℤ (more +ℤ down) *ℤ square o)
one_entry rho w c s o m more down all squares part pr pc h k e l =
    let four = mul_pos_z (pos 4) rho (omega (arith, ints)) pr in
    cancel-le_z (pos 4 *ℤ rho) _ _ four (le_by
    (add-le-add_z (rw e at l) (add-le-add_z (mul-le-mul_left_z (pos 4 *ℤ rho) (le_of_lt_z four) h)
    (add-le-add_z (mul-le-mul_left_z (c *ℤ square o) pc k) (square_nonneg_z (c *ℤ s *ℤ o)))))
    (by_ring (rho ∷ w ∷ c ∷ s ∷ o ∷ m ∷ more ∷ down ∷ all ∷ squares ∷ []) (search quotes depth 60 fits 20000) refl))

-- and is at most beta times o
within_beta : (w c s o m rest beta : ℤ) → pos 0 <ℤ w → pos 0 ≤ℤ c → pos 0 ≤ℤ rest → pos 0 <ℤ o → pos 0 <ℤ beta →
    (c *ℤ (s *ℤ beta +ℤ rest)) ≤ℤ (w *ℤ square beta) → (w *ℤ square m) ≤ℤ (c *ℤ s *ℤ o *ℤ m +ℤ c *ℤ rest *ℤ square o) → m ≤ℤ (beta *ℤ o)
within_beta w c s o m rest beta pw pc pr po pb h k = by_lt_z (beta *ℤ o) m (λ far. absurd (clash far)) (λ near. near)
  where
    clash : (beta *ℤ o) <ℤ m → ⊥
    clash far =
        let b = mul_pos_z beta o pb po in
        let apart : pos 0 <ℤ (m -ℤ beta *ℤ o) = omega (arith, ints, far) in
        let slope : (c *ℤ s) ≤ℤ (w *ℤ beta) = cancel-le_z beta _ _ pb (le_by (add-le-add_z h (mul_nonneg_z c rest pc pr))
        (by_ring (w ∷ c ∷ s ∷ rest ∷ beta ∷ []) (search quotes depth 60 fits 20000) refl)) in
        let steep : (w *ℤ (m +ℤ beta *ℤ o)) ≤ℤ (c *ℤ s *ℤ o) = cancel-le_z (m -ℤ beta *ℤ o) _ _ apart (le_by (add-le-add_z k (mul-le-mul_left_z (square o) (square_nonneg_z o) h))
        (by_ring (w ∷ c ∷ s ∷ o ∷ m ∷ rest ∷ beta ∷ []) (search quotes depth 60 fits 20000) refl)) in
        let none : (w *ℤ m) ≤ℤ pos 0 = le_by (add-le-add_z steep (mul-le-mul_left_z o (le_of_lt_z po) slope))
        (by_ring (w ∷ c ∷ s ∷ o ∷ m ∷ beta ∷ []) (search quotes depth 60 fits 20000) refl) in
        let some = mul_pos_z w m pw (omega (arith, ints, far, b)) in
        omega (arith, ints, none, some)

-- ---- a plan and a step
-- the gradient at a plan over a multiple of its denominator
gradient_scaled : (d : Design) (k : Condensed) (c q : ℤ) (xi u : ℕ → ℤ) (j : ℕ) → gradient_at d k (c *ℤ q) xi (λ i. c *ℤ u i) j ≡ c *ℤ gradient_at d k q xi u j
gradient_scaled d k c q xi u j = closed (pos (4 ^ d.grid)) (pos (2 ^ d.grid)) c q (slope_at d k xi j) _ _ (image_scale (entries d) k.hessian c u j)
  where
    closed : (f g c q s x y : ℤ) → x ≡ c *ℤ y → f *ℤ x +ℤ (g *ℤ (c *ℤ q)) *ℤ s ≡ c *ℤ (f *ℤ y +ℤ (g *ℤ q) *ℤ s)
    closed f g c q s x y e = rw e (by_ring (f ∷ g ∷ c ∷ q ∷ s ∷ y ∷ []) (search quotes depth 60 fits 20000) refl)

module _ (d : Design) (sound : IsSound d (input_floor d)) (xi : ℕ → ℤ) (q : ℤ) (u : ℕ → ℤ) (r : ℤ) (w : ℕ → ℤ) (pq : pos 0 <ℤ q) (pr : pos 0 <ℤ r)
    (slope : ℕ → ℕ) (more : ℕ) (slopes : HasSlopes d xi r w slope) (cheap : CostsAtMost d xi q u r w (pos more)) where
  -- both over this
  abbrev over : ℤ
  over = q *ℤ r

  abbrev step : ℕ → ℤ
  step j = r *ℤ u j -ℤ q *ℤ w j

  -- the gradient at w
  abbrev slant : ℕ → ℤ
  slant j = gradient_at d (condensed_of d) over xi (λ i. q *ℤ w i) j

  -- the step over 2^20, in absolute value
  abbrev far : ℕ → ℤ
  far j = absolute (pos (2 ^ 20) *ℤ step j)

  costs_are : square r *ℤ cost d q xi u ≡ square q *ℤ cost d r xi w +ℤ dot (entries d) slant step +ℤ curvature d step
  costs_are =
      sym (scaling_law d r q xi u).costs ∙ ap₂ (λ (n : ℤ) (f : ℕ → ℤ). cost d n xi f) swapped (sym (fun_ext (λ j. add_difference (q *ℤ w j) (r *ℤ u j))))
      ∙ expansion_law d (condensed_of d) (condensing d sound.inputs) over xi (λ j. q *ℤ w j) step
      ∙ ap (λ (z : ℤ). z +ℤ dot (entries d) slant step +ℤ curvature d step) (scaling_law d q r xi w).costs
    where
      swapped : r *ℤ q ≡ q *ℤ r
      swapped = by_ring (q ∷ r ∷ []) (search quotes depth 60 fits 20000) refl

  costs_little : (square (pos (2 ^ 20)) *ℤ (dot (entries d) slant step +ℤ curvature d step)) ≤ℤ (pos more *ℤ pos (cost_scale d) *ℤ square over)
  costs_little = closed (pos (2 ^ 40)) _ (cost d q xi u) (cost d r xi w) _ _ (pos more) (pos (cost_scale d)) q r refl costs_are cheap
    where
      closed : (n m x y g k e s q r : ℤ) → m ≡ n → square r *ℤ x ≡ square q *ℤ y +ℤ g +ℤ k → (n *ℤ x *ℤ square r) ≤ℤ ((n *ℤ y +ℤ e *ℤ s *ℤ square r) *ℤ square q) →
          (m *ℤ (g +ℤ k)) ≤ℤ (e *ℤ s *ℤ square (q *ℤ r))
      closed n m x y g k e s q r i f h = rw i (le_by h
          (same_by (ap (λ (z : ℤ). n *ℤ z) f) (by_ring (n ∷ x ∷ y ∷ g ∷ k ∷ e ∷ s ∷ q ∷ r ∷ []) (search quotes depth 60 fits 20000) refl)))

  -- the slopes and the weights of all entries
  slopes_along : (neg_ℤ (pos (cost_scale d) *ℤ over) *ℤ total (entries d) (λ j. pos (slope j) *ℤ far j)) ≤ℤ (square (pos (2 ^ 20)) *ℤ dot (entries d) slant step)
  slopes_along =
      rw (
        ← (total_scale (entries d) (neg_ℤ (pos (cost_scale d) *ℤ over)) (λ j. pos (slope j) *ℤ far j)),
        ← (total_scale (entries d) (square (pos (2 ^ 20))) (λ j. slant j *ℤ step j)),
      )
      (total_mono (entries d) _ _ (λ j l. one (pos (slope j)) (pos (cost_scale d)) q r (gradient_at d (condensed_of d) r xi w j) (slant j) (step j) (pos (2 ^ 20)) (le_of_lt_z pq)
      (gradient_scaled d (condensed_of d) q r xi w j) (within_times _ _ (pos (2 ^ 20) *ℤ step j) (slopes j l)).above))
    where
      apart : (s c q r g t n m : ℤ) → pos 0 ≤ℤ q → neg_ℤ (s *ℤ (c *ℤ r) *ℤ m) ≤ℤ (n *ℤ g *ℤ (n *ℤ t)) → (neg_ℤ (c *ℤ (q *ℤ r)) *ℤ (s *ℤ m)) ≤ℤ (square n *ℤ (q *ℤ g *ℤ t))
      apart s c q r g t n m p h = le_by (mul-le-mul_left_z q p h) (by_ring (s ∷ c ∷ q ∷ r ∷ g ∷ t ∷ n ∷ m ∷ []) (search quotes depth 60 fits 20000) refl)

      one : (s c q r g y t n : ℤ) → pos 0 ≤ℤ q → y ≡ q *ℤ g → neg_ℤ (s *ℤ (c *ℤ r) *ℤ absolute (n *ℤ t)) ≤ℤ (n *ℤ g *ℤ (n *ℤ t)) →
          (neg_ℤ (c *ℤ (q *ℤ r)) *ℤ (s *ℤ absolute (n *ℤ t))) ≤ℤ (square n *ℤ (y *ℤ t))
      one s c q r g y t n p e h = rw e (apart s c q r g t n (absolute (n *ℤ t)) p h)

  -- what the weights bend up and the slopes take off
  abbrev part : ℕ → ℤ
  part j = pos 4 *ℤ pos (input_floor d) *ℤ (weight_at d j *ℤ square (pos (2 ^ 20) *ℤ step j)) +ℤ
      (neg_ℤ (pos 4 *ℤ pos (input_floor d) *ℤ pos d.cost_denominator *ℤ over) *ℤ (pos (slope j) *ℤ far j) +ℤ square (pos d.cost_denominator *ℤ over) *ℤ square (pos (slope j)))

  part_nonneg : (j : ℕ) → j < entries d → pos 0 ≤ℤ part j
  part_nonneg j l =
      entry_nonneg (pos (input_floor d)) (weight_at d j) (pos d.cost_denominator) (pos (slope j)) over (pos (2 ^ 20) *ℤ step j) (far j) (omega (arith, ints))
      (sound.input_weight (j % d.inputs) (remainder_inside j d.stages d.inputs l)) (absolute_square (pos (2 ^ 20) *ℤ step j))

  squares_are : total (entries d) (λ j. square (pos (slope j))) ≡ pos (amount (entries d) (λ j. slope j ^ 2))
  squares_are = total_same (entries d) _ _ (λ j l. ap pos (sym (pow-two (slope j)))) ∙ total_amount (entries d) (λ j. slope j ^ 2)

  weights_are : total (entries d) (λ j. weight_at d j *ℤ square (pos (2 ^ 20) *ℤ step j)) ≡ square (pos (2 ^ 20)) *ℤ total (entries d) (λ j. weight_at d j *ℤ square (step j))
  weights_are = total_same (entries d) _ _ (λ j l. one (weight_at d j) (pos (2 ^ 20)) (step j)) ∙ total_scale (entries d) (square (pos (2 ^ 20))) (λ j. weight_at d j *ℤ square (step j))
    where
      one : (w n t : ℤ) → w *ℤ square (n *ℤ t) ≡ square n *ℤ (w *ℤ square t)
      one w n t = by_ring (w ∷ n ∷ t ∷ []) (search quotes depth 60 fits 20000) refl

  abbrev all : ℤ
  all = square (pos (2 ^ 20)) *ℤ total (entries d) (λ j. weight_at d j *ℤ square (step j)) -ℤ
      pos d.cost_denominator *ℤ over *ℤ total (entries d) (λ j. pos (slope j) *ℤ far j)

  parts_are : total (entries d) part ≡ pos 4 *ℤ pos (input_floor d) *ℤ all +ℤ square (pos d.cost_denominator *ℤ over) *ℤ pos (amount (entries d) (λ j. slope j ^ 2))
  parts_are =
      total_add (entries d) (λ j. four *ℤ (weight_at d j *ℤ square (pos (2 ^ 20) *ℤ step j)))
      (λ j. neg_ℤ (four *ℤ pos d.cost_denominator *ℤ over) *ℤ (pos (slope j) *ℤ far j) +ℤ square (pos d.cost_denominator *ℤ over) *ℤ square (pos (slope j)))
      ∙ add_equations (total_scale (entries d) four (λ j. weight_at d j *ℤ square (pos (2 ^ 20) *ℤ step j)) ∙ ap (λ (z : ℤ). four *ℤ z) weights_are)
      (total_add (entries d) (λ j. neg_ℤ (four *ℤ pos d.cost_denominator *ℤ over) *ℤ (pos (slope j) *ℤ far j)) (λ j. square (pos d.cost_denominator *ℤ over) *ℤ square (pos (slope j)))
      ∙ add_equations (total_scale (entries d) (neg_ℤ (four *ℤ pos d.cost_denominator *ℤ over)) (λ j. pos (slope j) *ℤ far j))
      (total_scale (entries d) (square (pos d.cost_denominator *ℤ over)) (λ j. square (pos (slope j))) ∙ ap (λ (z : ℤ). square (pos d.cost_denominator *ℤ over) *ℤ z) squares_are))
      ∙ closed four (pos d.cost_denominator) over _ _ _
    where
      four : ℤ
      four = pos 4 *ℤ pos (input_floor d)

      closed : (f c o a b s : ℤ) → f *ℤ a +ℤ (neg_ℤ (f *ℤ c *ℤ o) *ℤ b +ℤ square (c *ℤ o) *ℤ s) ≡ f *ℤ (a -ℤ c *ℤ o *ℤ b) +ℤ square (c *ℤ o) *ℤ s
      closed f c o a b s = by_ring (f ∷ c ∷ o ∷ a ∷ b ∷ s ∷ []) (search quotes depth 60 fits 20000) refl

  -- one input
  input_near : (l beta : ℕ) → 1 ≤ d.stages → l < d.inputs → IsFar d slope more l beta → far l ≤ℤ (pos beta *ℤ over)
  input_near l beta some inside covers =
      let here : l < entries d = omega (arith, inside, mul-le 1 d.inputs d.stages d.inputs some (le_refl d.inputs)) in
      let first : l ≡ 0 * d.inputs + l = omega arith in
      let own : weight_at d l ≡ d.input_weight l = ap (λ (n : ℕ). d.input_weight (n % d.inputs)) first ∙ ap d.input_weight (mod-mul-add 0 d.inputs l inside) in
      let down = descent d slope in
      let unit = pos_positive (cost_scale d) (scale_some d sound) in
      let heavy = sound.input_weight l inside in
      let positive = mul_pos_z q r pq pr in
      let little : all ≤ℤ (pos d.cost_denominator *ℤ pos more *ℤ square over) = all_entries (pos (2 ^ 20)) (pos (cost_scale d)) (pos d.cost_denominator) over (pos more) _ _ _ _ unit (omega (arith, ints)) (square_nonneg_z (pos (2 ^ 20)))
      costs_little (weights_law d (input_floor d) sound step) slopes_along in
      within_beta (d.input_weight l) (pos d.cost_denominator) (pos (slope l)) over (far l) (pos (more + down)) (pos beta)
      (weighty _ _ heavy sound.rho_positive) (omega (arith, ints)) (omega (arith, ints)) positive (pos_positive beta covers.some)
      (tested d.cost_denominator (slope l) beta more down (d.input_weight l) covers.costs)
      (one_entry (pos (input_floor d)) (d.input_weight l) (pos d.cost_denominator) (pos (slope l)) over (far l) (pos more) (pos down) all _ _
      (pos_positive (input_floor d) sound.rho_positive) (mul_nonneg_z (pos d.cost_denominator) (square over) (omega (arith, ints)) (square_nonneg_z over)) little
      (fallen d.cost_denominator _ (input_floor d) down (le-mul-ceil_div _ (4 * input_floor d) (omega (arith, sound.rho_positive))))
      (own_part (pos (input_floor d)) (weight_at d l) (d.input_weight l) (pos d.cost_denominator) (pos (slope l)) over (pos (2 ^ 20) *ℤ step l) (far l) own (absolute_square (pos (2 ^ 20) *ℤ step l)))
      (rw parts_are at (term-le-total (entries d) part part_nonneg l here)))
    where
      weighty : (w : ℤ) (rho : ℕ) → pos rho ≤ℤ w → 1 ≤ rho → pos 0 <ℤ w
      weighty w rho h k = omega (arith, ints, h, k)

      tested : (c s b m e : ℕ) (w : ℤ) → pos (c * (s * b + m + e)) ≤ℤ (w *ℤ pos (b ^ 2)) → (pos c *ℤ (pos s *ℤ pos b +ℤ pos (m + e))) ≤ℤ (w *ℤ square (pos b))
      tested c s b m e w h = let i : s * b + m + e ≡ s * b + (m + e) = omega arith in rw (i, pow-two b) at h

      fallen : (c a rho e : ℕ) → c * a ≤ 4 * rho * e → (pos c *ℤ pos a) ≤ℤ (pos 4 *ℤ pos rho *ℤ pos e)
      fallen c a rho e h = omega (arith, ints, h)

      own_part : (rho w v c s o y m : ℤ) → w ≡ v → square m ≡ square y →
          pos 4 *ℤ rho *ℤ (w *ℤ square y) +ℤ (neg_ℤ (pos 4 *ℤ rho *ℤ c *ℤ o) *ℤ (s *ℤ m) +ℤ square (c *ℤ o) *ℤ square s) ≡
          pos 4 *ℤ rho *ℤ (v *ℤ square m) +ℤ (neg_ℤ (pos 4 *ℤ rho *ℤ c *ℤ o) *ℤ (s *ℤ m) +ℤ square (c *ℤ o) *ℤ square s)
      own_part rho w v c s o y m e f = rw (e, f) refl

pub distance_law : DistanceLaw
distance_law d sound xi q u r w pq pr slope more slopes cheap l beta some inside covers =
    within _ _ (input_near d sound xi q u r w pq pr slope more slopes cheap l beta some inside covers)
  where
    within : (x b : ℤ) → absolute x ≤ℤ b → IsWithin b x
    within x b h = record { below = omega (arith, ints, h); above = omega (arith, ints, h) }
