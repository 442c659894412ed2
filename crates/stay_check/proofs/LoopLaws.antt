-- A loop stays in the box, by induction over its turns.
use Rattle.std.proofs.Common.{◌≡◌, ℕ, zero, suc, ◌+◌, ◌-◌, ◌*◌, ◌<◌, ◌≤◌, ◌^◌, [], ◌∷◌, List, length, map, get_or, ℤ, pos, ◌+ℤ◌, ◌*ℤ◌, ◌≤ℤ◌, ◌<ℤ◌, unsigned_abs, arith, ap, sym, subst, ◌∙◌, refl}
use Rattle.std.specs.List.{range_with_len}
use Rattle.std.specs.Int.Signed.{≤ℤ_refl}
use Rattle.std.proofs.lemmas.Int.{ints}
use Rattle.std.proofs.lemmas.Nat.{pow-add}
use Rattle.std.proofs.lemmas.List.{ext_get_or}
use Rattle.std.proofs.lemmas.List.FromFn.{length-map-range_with_len, get_or-map-range_with_len}
use Rattle.std.proofs.Math.Nat.{one-le-mul, mul_assoc, mul_comm}
use Rattle.integer_algebra.specs.Sums.{at, image, none}
use Rattle.integer_algebra.specs.Division.{round_of}
use Rattle.integer_algebra.proofs.OrderLaws.{le_by, le_trans_z, mul-le-mul_right_z}
use Rattle.integer_algebra.proofs.PowerLaws.{pow_positive}
use Rattle.integer_algebra.proofs.Quoting.{by_ring, quotes}
use Rattle.qp_model.specs.problem.Design.{Design, rows}
use Rattle.qp_model.specs.problem.Parts.{design_of, IsDesign}
use Rattle.qp_model.specs.declared.design_parts.DesignParts.{DesignParts}
use Rattle.qp_model.specs.problem.Trajectory.{trajectory}
use Rattle.qp_model.specs.problem.Box.{IsGridState}
use Rattle.qp_model.specs.problem.Residual.{residual, residual_scale}
use Rattle.qp_model.specs.machine.Controller.{Numbers}
use Rattle.qp_model.specs.machine.AbsoluteSums.{IsController}
use Rattle.qp_model.specs.bounds.Built.{HasSizesOf}
use Rattle.qp_model.specs.machine.Machine.{IsAdmissible, averaged_plan}
use Rattle.qp_model.specs.bounds.Printed.{Printed}
use Rattle.qp_model.specs.bounds.Certified.{IsCertified, IsCertifiedAt, KeepsBounds, ExceedsAtMost}
use Rattle.qp_model.specs.machine.Successor.{next_sum, next_over, successor, state_after}
use Rattle.stay_check.specs.FirstRows.{first_row_count, first_row}
use Rattle.stay_check.specs.Staying.{next_grid_state, AreShifts, ExceedsNoFirstRowBy, KeepsInBox}
use Rattle.stay_check.specs.LoopStay.{CoversPrinted, shifted_successor, state_under, AreShiftsUpTo, IsKeptAt, LoopUnderLaw, LoopStayLaw, UnshiftedLaw}
use Rattle.stay_check.proofs.RoundLaws.{round_mono}
use Rattle.stay_check.proofs.FirstRowLaws.{next_state}
use Rattle.stay_check.proofs.FaceFacts.{row_inside, denominator_small}

-- ---- a common factor is left out of a rounded quotient
positive : (q a : ℕ) → 1 ≤ q → 1 ≤ a → 0 < q * a
positive q a h k = let z = one-le-mul h k in omega (arith, z)

round_scaled : (c : ℕ) (z : ℤ) (d : ℕ) → 1 ≤ c → 1 ≤ d → round_of (pos c *ℤ z) (c * d) ≡ round_of z d
round_scaled c z d h k =
    both _ _
    (round_mono (pos c *ℤ z) z (c * d) d (positive c d h k) (omega (arith, k)) (up (pos c) z (pos d)))
    (round_mono z (pos c *ℤ z) d (c * d) (omega (arith, k)) (positive c d h k) (down (pos c) z (pos d)))
  where
    both : (x y : ℤ) → x ≤ℤ y → y ≤ℤ x → x ≡ y
    both x y h k = omega (arith, ints, h, k)

    up : (c z d : ℤ) → ((c *ℤ z) *ℤ d) ≤ℤ (z *ℤ (c *ℤ d))
    up c z d = le_by (≤ℤ_refl z) (by_ring (c ∷ z ∷ d ∷ []) (search quotes depth 60 fits 20000) refl)

    down : (c z d : ℤ) → (z *ℤ (c *ℤ d)) ≤ℤ ((c *ℤ z) *ℤ d)
    down c z d = le_by (≤ℤ_refl z) (by_ring (c ∷ z ∷ d ∷ []) (search quotes depth 60 fits 20000) refl)

-- ---- the next state is the nearest grid state to the state of stage 1 of a plan over weight 2^f
over_is : (weight f g : ℕ) → g ≤ f → weight * 2 ^ f ≡ 2 ^ g * (weight * 2 ^ (f - g))
over_is weight f g h =
    let split : f - g + g ≡ f = omega (arith, h) in
    ap (λ n. weight * 2 ^ n) (sym split) ∙ ap (λ n. weight * n) (pow-add 2 (f - g) g) ∙ turn weight (2 ^ (f - g)) (2 ^ g)
  where
    turn : (k a b : ℕ) → k * (a * b) ≡ b * (k * a)
    turn k a b = omega (arith, mul_assoc k a b, mul_comm (k * a) b)

-- coordinate i over 2^grid: of the state's part times the scale, and the inputs' over the plan's denominator
abbrev pub next_by : Design → (scale : ℕ) → (xi u : ℕ → ℤ) → ℕ → ℤ
next_by d scale xi u i = round_of (image d.states d.plant_a xi i *ℤ pos scale +ℤ image d.inputs d.plant_b u i) (d.plant_denominator * scale)

nearest : (d : Design) (weight f g : ℕ) (xi u : ℕ → ℤ) (i : ℕ) → 1 ≤ d.plant_denominator → 1 ≤ weight → g ≤ f → g ≡ d.grid →
    next_grid_state d (pos (weight * 2 ^ f)) xi u i ≡ next_by d (weight * 2 ^ (f - g)) xi u i
nearest d weight f g xi u i a some h same =
    joined (weight * 2 ^ f) (2 ^ d.grid) (weight * 2 ^ (f - g)) d.plant_denominator _ _ _
    (over_is weight f g h ∙ ap (λ n. 2 ^ n * (weight * 2 ^ (f - g))) same)
    (next_state d (pos (weight * 2 ^ f)) xi u i)
    (pow_positive 2 d.grid (omega arith)) (one-le-mul some (pow_positive 2 (f - g) (omega arith))) a
  where
    factored : (g k x y : ℤ) → (g *ℤ k) *ℤ x +ℤ g *ℤ y ≡ g *ℤ (x *ℤ k +ℤ y)
    factored g k x y = by_ring (g ∷ k ∷ x ∷ y ∷ []) (search quotes depth 60 fits 20000) refl

    joined : (q g k a : ℕ) (t x y : ℤ) → q ≡ g * k → t ≡ pos q *ℤ x +ℤ pos g *ℤ y → 1 ≤ g → 1 ≤ k → 1 ≤ a →
        round_of t (q * a) ≡ round_of (x *ℤ pos k +ℤ y) (a * k)
    joined q g k a t x y e f h l m =
        let top : pos (g * k) *ℤ x +ℤ pos g *ℤ y ≡ pos g *ℤ (x *ℤ pos k +ℤ y) = factored (pos g) (pos k) x y in
        let low : g * k * a ≡ g * (a * k) = omega (arith, mul_assoc g k a, mul_comm k a) in
        let some = one-le-mul m l in
        rw (f, e, top, low) (round_scaled g (x *ℤ pos k +ℤ y) (a * k) h some)

-- ---- a turn
looser : (d : Design) (xi u : ℕ → ℤ) (q : ℕ) (i : ℕ) (v w : ℤ) → v ≤ℤ w → ExceedsAtMost d xi (pos q) u i v → ExceedsAtMost d xi (pos q) u i w
looser d xi u q i v w h e = le_trans_z e (mul-le-mul_right_z (pos q) (omega (arith, ints)) (mul-le-mul_right_z (pos (residual_scale d)) (omega (arith, ints)) h))

pub grid_state : (d : Design) (c : Numbers) → HasSizesOf d c → (xi : List ℤ) → IsAdmissible c xi → IsGridState d (at xi)
grid_state d c sizes xi h i l =
    let in_c : i < c.states = omega (arith, l, sizes.states) in
    let e = h.each i in_c in
    (rw (← sizes.low i l) e.low, rw (← sizes.high i l) e.high)

-- by any plans over weight 2^f, one for each state of the box, whose rows keep bounds that are printed: the next states, shifted, lie in the box
module _ (p : DesignParts) (c : Numbers) (b : Printed) (excess low high : ℕ → ℤ) (design : IsDesign p) (sizes : HasSizesOf (design_of p) c)
    (covers : CoversPrinted (design_of p) b excess) (keeps : KeepsInBox (design_of p) excess low high)
    (weight : ℕ) (some : 1 ≤ weight) (bits : c.grid_bits ≤ c.fraction_bits) (plan : List ℤ → List ℤ)
    (kept : (xi : List ℤ) → IsAdmissible c xi → KeepsBounds (design_of p) b (at xi) (pos (weight * 2 ^ c.fraction_bits)) (at (plan xi))) where
  abbrev next : List ℤ → ℕ → ℤ
  next xi = next_by (design_of p) (weight * 2 ^ (c.fraction_bits - c.grid_bits)) (at xi) (at (plan xi))

  turn : (xi : List ℤ) (shift : ℕ → ℤ) → IsAdmissible c xi → AreShifts (design_of p) low high shift → IsGridState (design_of p) (λ i. next xi i +ℤ shift i)
  turn xi shift h within i l =
      let q = weight * 2 ^ c.fraction_bits in
      let whole : 1 ≤ q = one-le-mul some (pow_positive 2 c.fraction_bits (omega arith)) in
      let rows_kept = (kept xi h).rows in
      let near = nearest (design_of p) weight c.fraction_bits c.grid_bits (at xi) (at (plan xi)) i (denominator_small p.plant_den design.plant_den).0 some bits sizes.grid in
      let moved = keeps (pos q) (at xi) (at (plan xi)) shift (omega (arith, ints, whole)) (grid_state (design_of p) c sizes xi h)
      (λ r m. (let row = row_inside p r design m in looser (design_of p) (at xi) (at (plan xi)) q (first_row (design_of p) r).row _ _ (covers _ row) (rows_kept _ row)))
      within i l in
      (shifted_low _ _ (shift i) _ near moved.0, shifted_high _ _ (shift i) _ near moved.1)
    where
      shifted_low : (x y s z : ℤ) → x ≡ y → z ≤ℤ (x +ℤ s) → z ≤ℤ (y +ℤ s)
      shifted_low x y s z e h = omega (arith, ints, e, h)

      shifted_high : (x y s z : ℤ) → x ≡ y → (x +ℤ s) ≤ℤ z → (y +ℤ s) ≤ℤ z
      shifted_high x y s z e h = omega (arith, ints, e, h)

  pub next_inside : (xi : List ℤ) (shift : ℕ → ℤ) → IsAdmissible c xi → AreShifts (design_of p) low high shift →
      IsAdmissible c (map (λ i. at (map (next xi) (range_with_len 0 p.states)) i +ℤ shift i) (range_with_len 0 p.states))
  next_inside xi shift h within = record {
    long = length-map-range_with_len (λ i. at (map (next xi) (range_with_len 0 p.states)) i +ℤ shift i) 0 p.states ∙ sym sizes.states;
    each = λ i l. (
        let in_d : i < p.states = omega (arith, l, sizes.states) in
        let outer = get_or-map-range_with_len (λ i. at (map (next xi) (range_with_len 0 p.states)) i +ℤ shift i) 0 p.states i i (pos 0) in_d (omega arith) in
        let value = get_or-map-range_with_len (next xi) 0 p.states i i (pos 0) in_d (omega arith) in
        let t = turn xi shift h within i in_d in
        record { low = rw (outer, value, sizes.low i in_d) t.0; high = rw (outer, value, sizes.high i in_d) t.1 }
        );
  }

-- ---- of a certified controller of the plain machine
module _ (p : DesignParts) (c : Numbers) (b : Printed) (excess low high : ℕ → ℤ) (design : IsDesign p) (sound : IsController c) (sizes : HasSizesOf (design_of p) c)
    (certified : IsCertified (design_of p) c b) (covers : CoversPrinted (design_of p) b excess) (keeps : KeepsInBox (design_of p) excess low high) where
  certified_at : (xi : List ℤ) → IsAdmissible c xi → IsCertifiedAt (design_of p) c b xi
  certified_at xi h = certified xi (h.long ∙ sizes.states) (grid_state (design_of p) c sizes xi h)

  inside : (start : List ℤ) → IsAdmissible c start → (shifts : ℕ → ℕ → ℤ) → (turns : ℕ) → AreShiftsUpTo (design_of p) low high shifts turns →
      IsAdmissible c (state_under (design_of p) c start shifts turns)
  unfolding state_under
  inside start h shifts zero within = h
  inside start h shifts (suc k) within =
      next_inside p c b excess low high design sizes covers keeps c.steps sound.form.sized.steps.0 sound.form.sized.fraction_bits.0 (averaged_plan c) (λ xi g. (certified_at xi g).plan)
      (state_under (design_of p) c start shifts k) (shifts k) (inside start h shifts k (λ j l. within j (omega (arith, l)))) (within k (omega arith))

pub loop_under_law : LoopUnderLaw
loop_under_law p c b excess low high design sound sizes certified covers keeps start h shifts turns within =
    let here = inside p c b excess low high design sound sizes certified covers keeps start h shifts turns within in
    record { inside = here; certified = certified_at p c b excess low high design sound sizes certified covers keeps (state_under (design_of p) c start shifts turns) here }

-- ---- without shifts
plain : (z : ℤ) → z +ℤ pos 0 ≡ z
plain z = omega (arith, ints)

unshifted_successor : (d : Design) (c : Numbers) (xi : List ℤ) → shifted_successor d c xi none ≡ successor d c xi
unshifted_successor d c xi =
    let f : ℕ → ℤ = λ i. round_of (next_sum d c xi i) (next_over d c) in
    let g : ℕ → ℤ = λ i. at (successor d c xi) i +ℤ pos 0 in
    ext_get_or (pos 0) (shifted_successor d c xi none) (successor d c xi)
    (length-map-range_with_len g 0 d.states ∙ sym (length-map-range_with_len f 0 d.states))
    (λ i l. (let m : i < d.states = omega (arith, l, length-map-range_with_len g 0 d.states) in get_or-map-range_with_len g 0 d.states i i (pos 0) m (omega arith) ∙ plain (at (successor d c xi) i)))

pub unshifted : UnshiftedLaw
unfolding state_under state_after
unshifted d c start zero = refl
unshifted d c start (suc k) = unshifted_successor d c (state_under d c start (λ k. none) k) ∙ ap (successor d c) (unshifted d c start k)

pub loop_stay_law : LoopStayLaw
loop_stay_law p c b excess design sound sizes certified covers keeps start h turns =
    subst (IsKeptAt (design_of p) c b) (unshifted (design_of p) c start turns)
    (loop_under_law p c b excess none none design sound sizes certified covers keeps start h (λ k. none) turns (λ k l i m. (≤ℤ_refl (pos 0), ≤ℤ_refl (pos 0))))
