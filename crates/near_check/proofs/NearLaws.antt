-- A controller's averaged plan is near the plan that the multipliers 0 give.
use Rattle.std.proofs.Common.{◌≡◌, ℕ, ◌+◌, ◌*◌, ◌^◌, ◌<◌, ◌≤◌, [], ◌∷◌, ℤ, pos, ◌+ℤ◌, ◌-ℤ◌, ◌*ℤ◌, neg_ℤ, ◌≤ℤ◌, ◌<ℤ◌, List, length, unsigned_abs, arith, refl, ap, sym, ◌∙◌}
use Rattle.std.proofs.lemmas.Int.{ints}
use Rattle.std.proofs.lemmas.Nat.{pow-add, pow_pos}
use Rattle.std.proofs.Math.Nat.{one-le-mul}
use Rattle.std.proofs.Math.IntN.{*ℤ-zero}
use Rattle.integer_algebra.specs.Sums.{coimage, square, at}
use Rattle.integer_algebra.specs.Bounds.{IsWithin}
use Rattle.integer_algebra.proofs.OrderLaws.{pos_positive, le_by, le_of_lt_z, add-le-add_z, mul_nonneg_z, mul_pos_z, square_nonneg_z, mul-le-mul_left_z, cancel-le_z}
use Rattle.integer_algebra.proofs.SumLaws.{total_same, total_zero}
use Rattle.integer_algebra.proofs.BoundLaws.{within_more}
use Rattle.integer_algebra.proofs.DivisionLaws.{le-mul-ceil_div}
use Rattle.integer_algebra.proofs.PowerLaws.{pow_positive}
use Rattle.integer_algebra.proofs.Quoting.{by_ring, quotes}
use Rattle.qp_model.specs.problem.Design.{Design, rows}
use Rattle.qp_model.specs.problem.Sound.{IsSound}
use Rattle.qp_model.specs.problem.Cost.{cost, cost_scale}
use Rattle.qp_model.specs.problem.Residual.{residual, residual_scale}
use Rattle.qp_model.specs.problem.Parts.{design_of}
use Rattle.qp_model.specs.form.Form.{Form}
use Rattle.qp_model.specs.form.Condensed.{gradient_at}
use Rattle.qp_model.specs.form.Condensing.{condensed_of}
use Rattle.qp_model.specs.form.Quantities.{input_floor}
use Rattle.qp_model.specs.machine.Controller.{Numbers}
use Rattle.qp_model.specs.machine.Machine.{loaded, after, average_denominator, averaged_plan}
use Rattle.qp_model.specs.bounds.Errors.{error_sums_of, radius_error, StepErrors}
use Rattle.qp_model.specs.bounds.RealErrors.{real_errors}
use Rattle.qp_model.specs.bounds.Certified.{CostsAtMost, CostsNoMoreThanFeasible}
use Rattle.qp_model.specs.declared.design_parts.DesignParts.{DesignParts}
use Rattle.qp_model.proofs.MagnitudeLaws.{zeros_at}
use Rattle.qp_model.proofs.SoundLaws.{sound}
use Rattle.dual_bounds.specs.Corners.{HasExcessAt}
use Rattle.dual_bounds.proofs.MixLaws.{excess_box_law}
use Rattle.step_error.specs.MachineLaws.{IsRunOf, HasErrors, machine_scale, plan_at, lifted_plan, raised_at}
use Rattle.step_error.proofs.MachineSums.{first_multiplier}
use Rattle.step_error.proofs.MachineSteps.{rows_inside}
use Rattle.step_error.proofs.MachineScales.{scale_is}
use Rattle.step_error.proofs.RealSteps.{carried}
use Rattle.step_error.proofs.Slopes.{within_same}
use Rattle.settle_check.specs.Still.{still_entry}
use Rattle.settle_check.proofs.StillLaws.{entry_is, first_inputs, plain_sized}
use Rattle.near_check.specs.Distance.{HasSlopes}
use Rattle.near_check.specs.Near.{first_slope, NearLaw, CertifiedNearLaw}
use Rattle.near_check.proofs.DistanceLaws.{distance_law}

-- ---- numbers alone
within_cancel : (k b a : ℤ) → pos 0 <ℤ k → IsWithin (k *ℤ b) (k *ℤ a) → IsWithin b a
within_cancel k b a p h = record {
  below = cancel-le_z k a b p h.below;
  above = cancel-le_z k (neg_ℤ b) a p (le_by h.above (by_ring (k ∷ b ∷ a ∷ []) (search quotes depth 60 fits 20000) refl));
}

-- a plan t costs little more than w, and u little more than t
joined : (n m cs u t w gap excess q d r : ℤ) → pos 0 <ℤ d → pos 0 ≤ℤ m →
    (m *ℤ n *ℤ u *ℤ square d) ≤ℤ ((m *ℤ n *ℤ t +ℤ gap *ℤ cs *ℤ square d) *ℤ square q) →
    (n *ℤ t *ℤ square r) ≤ℤ ((n *ℤ w +ℤ excess *ℤ cs *ℤ square r) *ℤ square d) →
    (m *ℤ n *ℤ u *ℤ square r) ≤ℤ ((m *ℤ n *ℤ w +ℤ (gap +ℤ m *ℤ excess) *ℤ cs *ℤ square r) *ℤ square q)
joined n m cs u t w gap excess q d r pd pm h k = cancel-le_z (square d) _ _ (mul_pos_z d d pd pd) (le_by
    (add-le-add_z (mul-le-mul_left_z (square r) (square_nonneg_z r) h) (mul-le-mul_left_z (m *ℤ square q) (mul_nonneg_z m (square q) pm (square_nonneg_z q)) k))
    (by_ring (n ∷ m ∷ cs ∷ u ∷ t ∷ w ∷ gap ∷ excess ∷ q ∷ d ∷ r ∷ []) (search quotes depth 60 fits 20000) refl))

-- a gradient g, of which the residuals' scale and the multipliers 0 are part
slope_by : (cs rs g z a b s f slope : ℤ) → pos 0 <ℤ rs → pos 0 ≤ℤ (cs *ℤ rs *ℤ s) → z ≡ pos 0 → b ≤ℤ (f *ℤ pos (2 ^ 20) *ℤ slope) → a ≡ s *ℤ b →
    IsWithin (cs *ℤ rs *ℤ a) (pos (2 ^ 40) *ℤ (rs *ℤ g +ℤ z)) → IsWithin (slope *ℤ (cs *ℤ (f *ℤ s))) (pos (2 ^ 20) *ℤ g)
slope_by cs rs g z a b s f slope pr pc e h i k = cut (pos (2 ^ 20)) (pos (2 ^ 40)) cs rs g b s f slope (omega (arith, ints)) refl pr pc h (plain k)
  where
    plain : IsWithin (cs *ℤ rs *ℤ a) (pos (2 ^ 40) *ℤ (rs *ℤ g +ℤ z)) → IsWithin (cs *ℤ rs *ℤ (s *ℤ b)) (pos (2 ^ 40) *ℤ (rs *ℤ g +ℤ pos 0))
    plain k = rw (i, e) at k

    cut : (n m cs rs g b s f slope : ℤ) → pos 0 <ℤ n → m ≡ n *ℤ n → pos 0 <ℤ rs → pos 0 ≤ℤ (cs *ℤ rs *ℤ s) → b ≤ℤ (f *ℤ n *ℤ slope) →
        IsWithin (cs *ℤ rs *ℤ (s *ℤ b)) (m *ℤ (rs *ℤ g +ℤ pos 0)) → IsWithin (slope *ℤ (cs *ℤ (f *ℤ s))) (n *ℤ g)
    cut n m cs rs g b s f slope pn e pr pc h k =
        within_cancel (n *ℤ rs) _ _ (mul_pos_z n rs pn pr)
        (within_same (by_ring (n ∷ cs ∷ rs ∷ s ∷ f ∷ slope ∷ []) (search quotes depth 60 fits 20000) refl) (turned n rs g e)
        (within_more _ (cs *ℤ rs *ℤ s *ℤ (f *ℤ n *ℤ slope)) _ k
        (le_by (mul-le-mul_left_z (cs *ℤ rs *ℤ s) pc h) (by_ring (cs ∷ rs ∷ s ∷ b ∷ f ∷ n ∷ slope ∷ []) (search quotes depth 60 fits 20000) refl))))
      where
        turned : (n rs g : ℤ) → m ≡ n *ℤ n → m *ℤ (rs *ℤ g +ℤ pos 0) ≡ n *ℤ rs *ℤ (n *ℤ g)
        turned n rs g e = rw e (by_ring (n ∷ rs ∷ g ∷ []) (search quotes depth 60 fits 20000) refl)

-- what the distance of two plans is of their numerators, which are over k f and m
near_by : (n b k f s m u w p : ℤ) → pos 0 <ℤ m → m ≡ f *ℤ s → w ≡ s *ℤ p → IsWithin (b *ℤ ((k *ℤ f) *ℤ m)) (n *ℤ (m *ℤ u -ℤ (k *ℤ f) *ℤ w)) →
    IsWithin (b *ℤ (k *ℤ f)) (n *ℤ (u -ℤ k *ℤ p))
near_by n b k f s m u w p q i e h = within_cancel m _ _ q (within_same (by_ring (b ∷ k ∷ f ∷ m ∷ []) (search quotes depth 60 fits 20000) refl) (turned n k f s m u w p i e) h)
  where
    turned : (n k f s m u w p : ℤ) → m ≡ f *ℤ s → w ≡ s *ℤ p → n *ℤ (m *ℤ u -ℤ (k *ℤ f) *ℤ w) ≡ m *ℤ (n *ℤ (u -ℤ k *ℤ p))
    turned n k f s m u w p i e = rw (i, e) (by_ring (n ∷ k ∷ f ∷ s ∷ u ∷ p ∷ []) (search quotes depth 60 fits 20000) refl)

-- a plan that costs at most g more costs at most k more
no_more : (n x y g k cs q r : ℤ) → pos 0 ≤ℤ cs → g ≤ℤ k → (n *ℤ x *ℤ square r) ≤ℤ ((n *ℤ y +ℤ g *ℤ cs *ℤ square r) *ℤ square q) →
    (n *ℤ x *ℤ square r) ≤ℤ ((n *ℤ y +ℤ k *ℤ cs *ℤ square r) *ℤ square q)
no_more n x y g k cs q r p l h = le_by
    (add-le-add_z h (mul-le-mul_left_z (cs *ℤ (square r *ℤ square q)) (mul_nonneg_z cs (square r *ℤ square q) p (mul_nonneg_z (square r) (square q) (square_nonneg_z r) (square_nonneg_z q))) l))
    (by_ring (n ∷ x ∷ y ∷ g ∷ k ∷ cs ∷ q ∷ r ∷ []) (search quotes depth 60 fits 20000) refl)

-- what residuals are over is some
residual_some : (d : Design) → IsSound d (input_floor d) → 1 ≤ residual_scale d
residual_some d sound = one-le-mul (one-le-mul sound.limit_denominator (pow_pos d.grid)) (pow_positive d.plant_denominator d.stages sound.plant_denominator)

-- ---- a run
module _ (p : DesignParts) (h : Form) (r : ℕ) (c : Numbers) (xi : List ℤ) (run : IsRunOf p h r c xi) where
  abbrev d : Design
  d = design_of p

  -- its first plan is that of the multipliers 0
  first_plan : (j : ℕ) → j < length c.offsets → at (plan_at c xi 0) j ≡ still_entry c xi j
  unfolding after
  first_plan j l = entry_is c xi (after c (loaded c xi) 0).multipliers (λ i. zeros_at (length c.bounds) i) j l

  first_pull : (j : ℕ) → coimage (rows d) (condensed_of d).by_plan (raised_at c xi 0) j ≡ pos 0
  first_pull j = total_same (rows d) _ (λ i. pos 0) (λ i l. ap (λ (z : ℤ). (condensed_of d).by_plan i j *ℤ z)
      (first_multiplier c (loaded c xi) i (rows_inside d h r c run.made run.controller.form.sized.shaped i l)) ∙ *ℤ-zero ((condensed_of d).by_plan i j))
      ∙ total_zero (rows d)

  slopes : (e : StepErrors) → HasErrors d h r c xi 0 e → HasSlopes d (at xi) (machine_scale c) (lifted_plan c xi 0) (first_slope d h r c.fraction_bits e)
  slopes e errors j l =
      let f = c.fraction_bits in
      let s = c.step_exponent in
      let gradient = e.gradient j in
      let radius = radius_error (error_sums_of d h r) e.plan in
      within_same (ap (λ (m : ℤ). pos (first_slope d h r f e j) *ℤ (pos (cost_scale d) *ℤ m)) (sym (scale_is f s))) refl
      (slope_by (pos (cost_scale d)) (pos (residual_scale d)) (gradient_at d (condensed_of d) (machine_scale c) (at xi) (lifted_plan c xi 0) j) _
      (pos (2 ^ 40 * 2 ^ s * gradient + 2 ^ (f + s) * radius)) (pos (2 ^ 40 * gradient + 2 ^ f * radius)) (pos (2 ^ s)) (pos (2 ^ f)) (pos (first_slope d h r f e j))
      (pos_positive (residual_scale d) (residual_some d (sound p run.design))) (omega (arith, ints)) (none (pos (cost_scale d)) (pos (2 ^ d.grid)) _ (first_pull j))
      (up _ (2 ^ f) (2 ^ 20) _ (first_slope d h r f e j) (pow-add 2 f 20) (le-mul-ceil_div (2 ^ 40 * gradient + 2 ^ f * radius) (2 ^ (f + 20)) (pow_pos (f + 20))))
      (ap pos (parted (2 ^ 40) (2 ^ s) gradient (2 ^ f) radius _ (pow-add 2 f s)))
      (errors.gradient j l))
    where
      none : (a b z : ℤ) → z ≡ pos 0 → a *ℤ (b *ℤ z) ≡ pos 0
      none a b z e = rw e (by_ring (a ∷ b ∷ []) (search quotes depth 60 fits 20000) refl)

      up : (b f n m k : ℕ) → m ≡ f * n → b ≤ m * k → pos b ≤ℤ (pos f *ℤ pos n *ℤ pos k)
      up b f n m k e h = let w : b ≤ f * n * k = rw e at h in omega (arith, ints, w)

      parted : (n s g f q m : ℕ) → m ≡ f * s → n * s * g + m * q ≡ s * (n * g + f * q)
      parted n s g f q m e = rw e (omega arith)

  -- the averaged plan costs little more than the first
  cheap : (gap excess : ℕ) (units : ℤ) → pos 0 ≤ℤ units → CostsNoMoreThanFeasible d (at xi) (pos (average_denominator c)) (at (averaged_plan c xi)) (pos gap) →
      HasExcessAt d units (pos excess) (at xi) →
      CostsAtMost d (at xi) (pos (average_denominator c)) (at (averaged_plan c xi)) (machine_scale c) (lifted_plan c xi 0) (pos (gap + 2 ^ 24 * excess))
  cheap gap excess units some costs near =
      joined (pos (2 ^ 16)) (pos (2 ^ 24)) (pos (cost_scale d)) (cost d (pos (average_denominator c)) (at xi) (at (averaged_plan c xi))) (cost d near.denominator (at xi) near.plan)
      (cost d (machine_scale c) (at xi) (lifted_plan c xi 0)) (pos gap) (pos excess) (pos (average_denominator c)) near.denominator (machine_scale c) near.positive (omega (arith, ints))
      (costs near.denominator near.plan near.positive
      (λ i l. feasible units (pos (residual_scale d)) near.denominator (residual d near.denominator (at xi) near.plan i) some (omega (arith, ints)) (le_of_lt_z near.positive) (near.slacks i l)))
      (near.best (machine_scale c) (lifted_plan c xi 0) (pos_positive (2 ^ (c.fraction_bits + c.step_exponent)) (pow_pos (c.fraction_bits + c.step_exponent))))
    where
      feasible : (k s q y : ℤ) → pos 0 ≤ℤ k → pos 0 ≤ℤ s → pos 0 ≤ℤ q → (k *ℤ (s *ℤ q)) ≤ℤ (pos (2 ^ 16) *ℤ neg_ℤ y) → y ≤ℤ pos 0
      feasible k s q y pk ps pq h = let some = mul_nonneg_z k (s *ℤ q) pk (mul_nonneg_z s q ps pq) in omega (arith, ints, h, some)

pub near_law : NearLaw
near_law p h r c xi run e errors gap excess units some costs near beta far l o =
    let d = design_of p in
    let inside : l < d.inputs = omega (arith, o, run.made.sizes.inputs) in
    let stages : 1 ≤ d.stages = omega (arith, run.controller.form.sized.stages.0, run.made.sizes.stages) in
    let whole = pos_positive (2 ^ (c.fraction_bits + c.step_exponent)) (pow_pos (c.fraction_bits + c.step_exponent)) in
    let sized = run.controller.form.sized in
    let place : l < length c.offsets = omega (arith, o, sized.shaped.offsets, first_inputs c c.inputs (plain_sized c sized) refl) in
    near_by (pos (2 ^ 20)) (pos (beta l)) (pos c.steps) (pos (2 ^ c.fraction_bits)) (pos (2 ^ c.step_exponent)) (machine_scale c) (at (averaged_plan c xi) l) (lifted_plan c xi 0 l) (still_entry c xi l)
    whole (scale_is c.fraction_bits c.step_exponent) (ap (λ (z : ℤ). pos (2 ^ c.step_exponent) *ℤ z) (first_plan p h r c xi run l place))
    (distance_law d (sound p run.design) (at xi) (pos (average_denominator c)) (at (averaged_plan c xi)) (machine_scale c) (lifted_plan c xi 0)
    (pos_positive (average_denominator c) (one-le-mul sized.steps.0 (pow_pos c.fraction_bits))) whole (first_slope d h r c.fraction_bits e) (gap + 2 ^ 24 * excess)
    (slopes p h r c xi run e errors) (cheap p h r c xi run gap excess units some costs near) l (beta l) stages inside (far l inside))

-- ---- a certified controller
pub certified_near_law : CertifiedNearLaw
certified_near_law p h r c b plans units excess beta by xi long inside =
    let d = design_of p in
    let run : IsRunOf p h r c xi = record { design = by.design; bound = by.bound; form = by.form; controller = by.controller; made = by.made; long = long; inside = inside } in
    near_law p h r c xi run (real_errors d h r c) (carried p h r c xi run 0) (unsigned_abs b.gap) excess units by.feasible
    (λ o t po feasible. no_more (pos (2 ^ 40)) (cost d (pos (average_denominator c)) (at xi) (at (averaged_plan c xi))) (cost d o (at xi) t) b.gap (pos (unsigned_abs b.gap))
    (pos (cost_scale d)) (pos (average_denominator c)) o (omega (arith, ints)) (omega (arith, ints))
    ((by.certified xi long inside).plan.costs o t po feasible))
    (excess_box_law d (input_floor d) plans units (pos excess) (sound p by.design) by.policy by.corners (at xi) inside) beta by.far
