-- What code makes of a corner's costs is what its plan costs at most.
use Rattle.std.proofs.Common.{◌≡◌, inl, inr, ℕ, ◌+◌, ◌*◌, ◌%◌, ◌^◌, ◌<◌, ◌≤◌, ℤ, pos, negsuc, ◌+ℤ◌, ◌-ℤ◌, ◌*ℤ◌, ◌≤ℤ◌, ◌<ℤ◌, neg_ℤ, unsigned_abs, FitsSigned, List, length, [], ◌∷◌, arith, ap, ap₂, sym, subst, ◌∙◌, refl}
use Rattle.std.specs.Int.{w128}
use Rattle.std.proofs.lemmas.Bool.{cases_lt, lt-ltb, le-ltb}
use Rattle.std.proofs.lemmas.Int.{ints, unsigned_abs-mul, by_lt_z, to_z-of_z}
use Rattle.std.proofs.lemmas.Nat.{mod-mul-add}
use Rattle.std.proofs.Math.Nat.{mul-le-mul_left}
use Rattle.integer_algebra.specs.Bounds.{absolute}
use Rattle.integer_algebra.specs.Division.{ceil_of, IsCeiling}
use Rattle.integer_algebra.specs.Sums.{at, total, square}
use Rattle.integer_algebra.specs.Sizes.{size}
use Rattle.integer_algebra.proofs.BlockLaws.{total_blocks}
use Rattle.integer_algebra.proofs.DivisionLaws.{ceil_of_is}
use Rattle.integer_algebra.proofs.OrderLaws.{add_nonneg_z, le_trans_z, mul-le-mul_right_z}
use Rattle.integer_algebra.proofs.PowerLaws.{pow-two}
use Rattle.integer_algebra.proofs.Quoting.{by_ring, quotes}
use Rattle.integer_algebra.proofs.SizeLaws.{total_amount, total_size}
use Rattle.integer_algebra.proofs.SumLaws.{total_same, total_const, total_squares}
use Rattle.frac_scaled.specs.Enclosures.{Enclosure, magnitude, sum_of}
use Rattle.enclosure.specs.declared.types.Enc.{Enc}
use Rattle.enclosure.specs.Values.{pair_at}
use Rattle.qp_model.specs.declared.design_parts.DesignParts.{DesignParts}
use Rattle.qp_model.specs.problem.Design.{Design, CostRow, entries}
use Rattle.qp_model.specs.problem.Parts.{design_of}
use Rattle.qp_model.specs.problem.Policy.{Plans}
use Rattle.qp_model.specs.form.Quantities.{cost_width, weight_sum}
use Rattle.qp_model.specs.problem.Range.{IsPositive}
use Rattle.qp_model.specs.problem.Runs.{counted, counts}
use Rattle.qp_model.specs.form.FineForm.{counted_row, fine_cost}
use Rattle.qp_model.specs.bounds.Margin.{Shown}
use Rattle.qp_model.proofs.CornerFacts.{product_small}
use Rattle.qp_model.proofs.CountLaws.{counted_all}
use Rattle.qp_model.proofs.QuantityLaws.{target_width, weights_size}
use Rattle.condensed_form.specs.Costs.{weight_of, target_of}
use Rattle.condensed_form.proofs.DenominatorFacts.{natural, denominator_fits}
use Rattle.condensed_form.proofs.Rooms.{read, narrow}
use Rattle.condensed_form.proofs.StageFacts.{lifted, lifted_fits}
use Rattle.scaled_run.specs.ScaledForm.{whole}
use Rattle.scaled_run.specs.ScaledCorners.{scaled_corner_input, scaled_gap, scaled_row_cost, scaled_input_cost}
use Rattle.scaled_run.specs.Lists.{Reaches}
use Rattle.corner_margin.specs.Corner.{IsCorner}
use Rattle.corner_margin.specs.Simulation.{HasCornerCost}
use Rattle.corner_margin.proofs.SlackFacts.{one-le-mul_z}
use Rattle.corner_margin.proofs.SquareFacts.{squares_size}
use Rattle.corner_margin.proofs.RoomFacts.{under, cost_side, side_room, square_room, brought_size, gap_within, gap_room}
use Rattle.corner_margin.proofs.RunFacts.{cost_is}

-- ---- one row
-- a number of a counted row
counted_at : (d : Design) (f : CostRow → ℤ) (c : ℕ) → counted d (λ k r. f r) c ≡ f (counted_row d c)
counted_at d f c = elim (cases_lt c (d.stages * d.stage_costs)) [
  | inl m ↦ rw (lt-ltb c (d.stages * d.stage_costs) m) refl
  | inr m ↦ rw (le-ltb c (d.stages * d.stage_costs) m) refl
]

-- a gap, of a value and a target as code has them
pub gap_is : (unit : ℕ) (e g : Enclosure) (y t : ℤ) → e ≡ g → y ≡ pos unit *ℤ t → absolute (e.mid -ℤ y) +ℤ e.rad ≡ magnitude (sum_of g (whole unit (neg_ℤ t)))
gap_is unit e g y t h k = ap₂ (λ (x : Enclosure) (z : ℤ). absolute (x.mid -ℤ z) +ℤ x.rad) h k ∙ ap₂ (λ (x z : ℤ). absolute x +ℤ z) (turn g.mid (pos unit) t) (more g.rad)
  where
    turn : (m u t : ℤ) → m -ℤ u *ℤ t ≡ m +ℤ u *ℤ neg_ℤ t
    turn m u t = by_ring (m ∷ u ∷ t ∷ []) (search quotes depth 60 fits 20000) refl

    more : (r : ℤ) → r ≡ r +ℤ pos 0
    more r = omega (arith, ints)

-- the magnitude of what reaches so far
reached : {e : Enclosure} {n : ℕ} → Reaches e n → unsigned_abs (magnitude e) ≤ n
reached {e} h = last e.mid e.rad h.radius h.within
  where
    last : (m r : ℤ) {n : ℕ} → pos 0 ≤ℤ r → (absolute m +ℤ r) ≤ℤ pos n → unsigned_abs (absolute m +ℤ r) ≤ n
    last m r h k = omega (arith, ints, h, k)

-- ---- the weights of a plan's entries
entries_size : (m w : ℕ) (g : ℕ → ℤ) → size (m * w) (λ j. g (j % w)) ≡ m * size w g
entries_size m w g = naturals (sym (total_amount (m * w) (λ j. unsigned_abs (g (j % w)))) ∙ total_blocks m w _ ∙ total_same m _ _ (λ k l. block k) ∙ total_const m (pos (size w g)))
  where
    naturals : {a b : ℕ} → pos a ≡ pos b → a ≡ b
    naturals e = omega (arith, ints, e)

    block : (k : ℕ) → total w (λ l. pos (unsigned_abs (g ((k * w + l) % w)))) ≡ pos (size w g)
    block k = total_same w _ _ (λ l o. ap (λ (i : ℕ). pos (unsigned_abs (g i))) (mod-mul-add k w l o)) ∙ total_amount w (λ l. unsigned_abs (g l))

-- ---- a number times a square, as code reads them
module _ (a z : ℤ) (fa : FitsSigned w128 a) (fz : FitsSigned w128 z) (h : unsigned_abs z * unsigned_abs z ≤ 2 ^ 126) where
  small : unsigned_abs (z *ℤ z) ≤ unsigned_abs z * unsigned_abs z
  small = rw (unsigned_abs-mul z z) (same (unsigned_abs z * unsigned_abs z))
    where
      same : (n : ℕ) → n ≤ n
      same n = omega arith

  plain : FitsSigned w128 (z *ℤ z)
  plain = narrow (z *ℤ z) (under small h)

  square_fits : FitsSigned w128 (read z *ℤ read z)
  square_fits = rw (to_z-of_z w128 z fz) plain

  module _ (o : unsigned_abs a * (unsigned_abs z * unsigned_abs z) ≤ 2 ^ 126) where
    den_fits : FitsSigned w128 (read a *ℤ read (read z *ℤ read z))
    den_fits = rw (to_z-of_z w128 z fz) (lifted_fits a (z *ℤ z) _ fa plain small o)

    den_read : read (read a *ℤ read (read z *ℤ read z)) ≡ a *ℤ (z *ℤ z)
    den_read = rw (to_z-of_z w128 z fz) (lifted a (z *ℤ z) _ fa plain small o)

-- ---- a corner
module _ {p : DesignParts} {s : Plans} {unit reach c : ℕ} {start plan : List Enc} (k : IsCorner p s unit reach c start plan) where
  brought : (r : ℕ) → pos unit *ℤ target_of (design_of p) r ≡ pos unit *ℤ (counted_row (design_of p) r).target
  brought r = ap (λ (t : ℤ). pos unit *ℤ t) (counted_at (design_of p) (λ (r : CostRow). r.target) r)

  pub target_fits : (r : ℕ) → r < counts (design_of p) → unit * unsigned_abs (target_of (design_of p) r) ≤ 2 ^ 126
  target_fits r l = under (brought_size k.scale _ _ (target_width (design_of p) r l)) (side_room k.scale)

  -- a value and a target as code has them
  pub value_fits : (r : ℕ) → r < counts (design_of p) → (e : Enclosure) (y : ℤ) → e ≡ fine_cost (design_of p) (pair_at start) (pair_at plan) r → y ≡ pos unit *ℤ target_of (design_of p) r →
      (magnitude e +ℤ absolute y) ≤ℤ pos (2 ^ 126)
  value_fits r l e y h g = moved (h ∙ cost_is k r) (g ∙ brought r) (last (gap_room k.scale r l) (side_room k.scale))
    where
      moved : {f : Enclosure} {z : ℤ} → e ≡ f → y ≡ z → (magnitude f +ℤ absolute z) ≤ℤ pos (2 ^ 126) → (magnitude e +ℤ absolute y) ≤ℤ pos (2 ^ 126)
      moved {f} {z} h g o = subst (λ (x : Enclosure). (magnitude x +ℤ absolute y) ≤ℤ pos (2 ^ 126)) (sym h) (subst (λ (x : ℤ). (magnitude f +ℤ absolute x) ≤ℤ pos (2 ^ 126)) (sym g) o)

      last : {z : ℤ} {n : ℕ} → z ≤ℤ pos n → n ≤ 2 ^ 126 → z ≤ℤ pos (2 ^ 126)
      last h g = omega (arith, ints, h, g)

  pub value_gap : (r : ℕ) (e : Enclosure) (y : ℤ) → e ≡ fine_cost (design_of p) (pair_at start) (pair_at plan) r → y ≡ pos unit *ℤ target_of (design_of p) r →
      absolute (e.mid -ℤ y) +ℤ e.rad ≡ magnitude (scaled_gap unit (design_of p) s (c + 1) r)
  value_gap r e y h g = gap_is unit e _ y (counted_row (design_of p) r).target (h ∙ cost_is k r) (g ∙ brought r)

  pub gap_small : (r : ℕ) → r < counts (design_of p) → unsigned_abs (magnitude (scaled_gap unit (design_of p) s (c + 1) r)) ≤ cost_side k.scale
  gap_small r l = reached (gap_within k.scale r l)

  pub rows_are : total (counts (design_of p)) (λ r. weight_of (design_of p) r *ℤ square (magnitude (scaled_gap unit (design_of p) s (c + 1) r))) ≡ scaled_row_cost unit (design_of p) s (c + 1)
  rows_are = total_same (counts (design_of p)) _ _ (λ r l. ap (λ (w : ℤ). w *ℤ square (magnitude (scaled_gap unit (design_of p) s (c + 1) r))) (counted_at (design_of p) (λ (r : CostRow). r.weight) r))

  -- the weights of the rows, and those of the plan's entries
  weights_room : (size (counts (design_of p)) (weight_of (design_of p)) + p.stages * size p.inputs (at p.input_weights.items)) * cost_side k.scale ^ 2 ≤ 2 ^ 126
  weights_room = last _ _ _ _ _ (weights_size (design_of p)) k.scale.cost
    where
      last : (e a b w t : ℕ) → e + a + b ≤ w → w * t ≤ 2 ^ 126 → (a + b) * t ≤ 2 ^ 126
      last e a b w t h k = omega (arith, mul-le-mul_left t h)

  pub rows_room : size (counts (design_of p)) (weight_of (design_of p)) * cost_side k.scale ^ 2 ≤ 2 ^ 126
  rows_room = last _ _ _ weights_room
    where
      last : (a b t : ℕ) → (a + b) * t ≤ 2 ^ 126 → a * t ≤ 2 ^ 126
      last a b t h = omega arith

  abbrev pub entry_weight : ℕ → ℤ
  entry_weight j = at p.input_weights.items (j % p.inputs)

  pub inputs_room : size (entries (design_of p)) entry_weight * cost_side k.scale ^ 2 ≤ 2 ^ 126
  inputs_room = rw (entries_size p.stages p.inputs (at p.input_weights.items)) (last _ _ _ weights_room)
    where
      last : (a b t : ℕ) → (a + b) * t ≤ 2 ^ 126 → b * t ≤ 2 ^ 126
      last a b t h = omega arith

  rows_nonneg : pos 0 ≤ℤ scaled_row_cost unit (design_of p) s (c + 1)
  rows_nonneg = rw (← rows_are) (total_squares (counts (design_of p)) (weight_of (design_of p)) (λ r. magnitude (scaled_gap unit (design_of p) s (c + 1) r))
      (counted_all (design_of p) (λ j r. r.weight) (λ y. pos 0 ≤ℤ y) (λ j r l o. k.scale.design.stage_weights r o) (λ r o. k.scale.design.final_weights r o)))

  rows_size : unsigned_abs (scaled_row_cost unit (design_of p) s (c + 1)) ≤ size (counts (design_of p)) (weight_of (design_of p)) * cost_side k.scale ^ 2
  rows_size = rw (← rows_are) (under (total_size (counts (design_of p)) (λ r. weight_of (design_of p) r *ℤ square (magnitude (scaled_gap unit (design_of p) s (c + 1) r))))
      (squares_size (counts (design_of p)) (weight_of (design_of p)) (λ r. magnitude (scaled_gap unit (design_of p) s (c + 1) r)) (cost_side k.scale) gap_small))

  -- ---- the inputs, times the rows' denominator
  abbrev pub own : ℕ → ℤ
  own j = p.row_den *ℤ magnitude (scaled_corner_input unit s (c + 1) j)

  row_den_small : unsigned_abs p.row_den ≤ cost_width (design_of p)
  row_den_small = omega arith

  pub own_small : (j : ℕ) → j < entries (design_of p) → unsigned_abs (own j) ≤ cost_side k.scale
  own_small j l = rw (unsigned_abs-mul p.row_den (magnitude (scaled_corner_input unit s (c + 1) j)))
      (product_small _ _ (cost_width (design_of p)) reach row_den_small (reached (k.scale.near_plan j l)))

  pub own_fits : (j : ℕ) → j < entries (design_of p) → own j ≤ℤ pos (2 ^ 126)
  own_fits j l = last (own j) (under (own_small j l) (side_room k.scale))
    where
      last : (z : ℤ) → unsigned_abs z ≤ 2 ^ 126 → z ≤ℤ pos (2 ^ 126)
      last z h = omega (arith, ints)

  pub inputs_are : total (entries (design_of p)) (λ j. entry_weight j *ℤ square (own j)) ≡ scaled_input_cost unit (design_of p) s (c + 1)
  inputs_are = total_same (entries (design_of p)) _ _ (λ j l. closed (unsigned_abs p.row_den) (entry_weight j) p.row_den (magnitude (scaled_corner_input unit s (c + 1) j)) (natural p.row_den k.scale.design.row_den.low))
    where
      plain : (r w m : ℤ) → w *ℤ (r *ℤ m *ℤ (r *ℤ m)) ≡ w *ℤ (r *ℤ r) *ℤ (m *ℤ m)
      plain r w m = by_ring (r ∷ w ∷ m ∷ []) (search quotes depth 60 fits 20000) refl

      closed : (n : ℕ) (w r m : ℤ) → r ≡ pos n → w *ℤ square (r *ℤ m) ≡ w *ℤ pos (n ^ 2) *ℤ square m
      closed n w r m e = rw (e, pow-two n) (plain (pos n) w m)

  inputs_nonneg : pos 0 ≤ℤ scaled_input_cost unit (design_of p) s (c + 1)
  inputs_nonneg = rw (← inputs_are) (total_squares (entries (design_of p)) entry_weight own (λ j l. weight _ (k.scale.design.input_weights (j % p.inputs) (pos 0) (inside j))))
    where
      weight : (z : ℤ) → IsPositive z → pos 0 ≤ℤ z
      weight z h = omega (arith, ints, h.low)

      inside : (j : ℕ) → j % p.inputs < length p.input_weights.items
      inside j = omega (arith, k.scale.design.inputs.0, k.scale.design.input_count)

  inputs_size : unsigned_abs (scaled_input_cost unit (design_of p) s (c + 1)) ≤ size (entries (design_of p)) entry_weight * cost_side k.scale ^ 2
  inputs_size = rw (← inputs_are) (under (total_size (entries (design_of p)) (λ j. entry_weight j *ℤ square (own j)))
      (squares_size (entries (design_of p)) entry_weight own (cost_side k.scale) own_small))

  -- ---- both
  pub cost_nonneg : pos 0 ≤ℤ (scaled_row_cost unit (design_of p) s (c + 1) +ℤ scaled_input_cost unit (design_of p) s (c + 1))
  cost_nonneg = add_nonneg_z rows_nonneg inputs_nonneg

  pub cost_fits : unsigned_abs (scaled_row_cost unit (design_of p) s (c + 1) +ℤ scaled_input_cost unit (design_of p) s (c + 1)) ≤ 2 ^ 126
  cost_fits = last (scaled_row_cost unit (design_of p) s (c + 1)) (scaled_input_cost unit (design_of p) s (c + 1)) _ _ _ rows_size
      (rw (entries_size p.stages p.inputs (at p.input_weights.items)) at inputs_size) weights_room
    where
      last : (x y : ℤ) (a b t : ℕ) → unsigned_abs x ≤ a * t → unsigned_abs y ≤ b * t → (a + b) * t ≤ 2 ^ 126 → unsigned_abs (x +ℤ y) ≤ 2 ^ 126
      last x y a b t h k l = omega (arith, ints)

  -- ---- what costs are over
  abbrev pub side : ℤ
  side = pos unit *ℤ p.row_den

  side_small : unsigned_abs side ≤ cost_side k.scale
  side_small = rw (unsigned_abs-mul (pos unit) p.row_den) (turned (cost_width (design_of p)) reach (product_small _ _ reach (cost_width (design_of p)) k.scale.covers row_den_small))
    where
      turned : (w r : ℕ) {n : ℕ} → n ≤ r * w → n ≤ w * r
      turned w r h = omega (arith, h)

  pub side_fits : unit * unsigned_abs p.row_den ≤ 2 ^ 126
  side_fits = rw (unsigned_abs-mul (pos unit) p.row_den) at (under side_small (side_room k.scale))

  side_square : unsigned_abs side * unsigned_abs side ≤ cost_side k.scale ^ 2
  side_square = rw (pow-two (cost_side k.scale)) (product_small _ _ _ _ side_small side_small)

  square_small : unsigned_abs side * unsigned_abs side ≤ 2 ^ 126
  square_small = under side_square (square_room k.scale)

  den_room : unsigned_abs p.cost_den * (unsigned_abs side * unsigned_abs side) ≤ 2 ^ 126
  den_room = under (product_small _ _ (weight_sum (design_of p)) _ weight side_square) k.scale.cost
    where
      weight : unsigned_abs p.cost_den ≤ weight_sum (design_of p)
      weight = omega arith

  pub den_is : p.cost_den *ℤ (side *ℤ side) ≡ pos (unsigned_abs p.cost_den * unsigned_abs p.row_den ^ 2 * (unit * unit))
  den_is = closed (unsigned_abs p.cost_den) (unsigned_abs p.row_den) p.cost_den p.row_den (natural p.cost_den k.scale.design.cost_den.low) (natural p.row_den k.scale.design.row_den.low)
    where
      plain : (a r g : ℤ) → a *ℤ (g *ℤ r *ℤ (g *ℤ r)) ≡ a *ℤ (r *ℤ r) *ℤ (g *ℤ g)
      plain a r g = by_ring (a ∷ r ∷ g ∷ []) (search quotes depth 60 fits 20000) refl

      closed : (a r : ℕ) (y z : ℤ) → y ≡ pos a → z ≡ pos r → y *ℤ (pos unit *ℤ z *ℤ (pos unit *ℤ z)) ≡ pos (a * r ^ 2 * (unit * unit))
      closed a r y z e f = rw (e, f, pow-two r) (plain (pos a) (pos r) (pos unit))

  pub den_some : pos 1 ≤ℤ (p.cost_den *ℤ (side *ℤ side))
  den_some = one-le-mul_z k.scale.design.cost_den.low (one-le-mul_z some some)
    where
      natural_some : (n : ℕ) → 1 ≤ n → pos 1 ≤ℤ pos n
      natural_some n h = omega (arith, ints)

      some : pos 1 ≤ℤ side
      some = one-le-mul_z (natural_some unit k.scale.some) k.scale.design.row_den.low

  -- as code makes it
  module _ (z : ℤ) (fz : FitsSigned w128 z) (e : z ≡ pos unit *ℤ read p.row_den) where
    side_is : z ≡ side
    side_is = e ∙ ap (λ (r : ℤ). pos unit *ℤ r) (to_z-of_z w128 p.row_den (denominator_fits p.row_den k.scale.design.row_den))

    fc : FitsSigned w128 p.cost_den
    fc = denominator_fits p.cost_den k.scale.design.cost_den

    small_z : unsigned_abs z * unsigned_abs z ≤ 2 ^ 126
    small_z = subst (λ (x : ℤ). unsigned_abs x * unsigned_abs x ≤ 2 ^ 126) (sym side_is) square_small

    room_z : unsigned_abs p.cost_den * (unsigned_abs z * unsigned_abs z) ≤ 2 ^ 126
    room_z = subst (λ (x : ℤ). unsigned_abs p.cost_den * (unsigned_abs x * unsigned_abs x) ≤ 2 ^ 126) (sym side_is) den_room

    pub side_square_fits : FitsSigned w128 (read z *ℤ read z)
    side_square_fits = square_fits p.cost_den z fc fz small_z

    pub side_den_fits : FitsSigned w128 (read p.cost_den *ℤ read (read z *ℤ read z))
    side_den_fits = den_fits p.cost_den z fc fz small_z room_z

    pub side_den_read : read (read p.cost_den *ℤ read (read z *ℤ read z)) ≡ p.cost_den *ℤ (side *ℤ side)
    side_den_read = den_read p.cost_den z fc fz small_z room_z ∙ ap (λ (x : ℤ). p.cost_den *ℤ (x *ℤ x)) side_is

-- ---- the cost, rounded up
pub costs_of : (k : Shown) (c : ℕ) (sum den most : ℤ) → sum ≡ k.cost c → den ≡ k.cost_scale c → pos 0 ≤ℤ sum → pos 1 ≤ℤ den →
    most ≡ ceil_of sum (unsigned_abs den) → HasCornerCost k c most
costs_of k c sum den most e f n h m = record {
  some = by_lt_z most (pos 0) (λ l. absurd (negative most den sum l n h both.0)) (λ l. l);
  cost = rw (← e, ← f) both.0;
  dear = rw (← e, ← f) both.1;
}
  where
    along : (n : ℕ) → den ≡ pos n → IsCeiling sum n most → (sum ≤ℤ (most *ℤ den)) × (((most -ℤ pos 1) *ℤ den) <ℤ sum)
    along n g i = rw g (i.greatest, i.least)

    both : (sum ≤ℤ (most *ℤ den)) × (((most -ℤ pos 1) *ℤ den) <ℤ sum)
    both = along (unsigned_abs den) (natural den h) (rw m (ceil_of_is sum (unsigned_abs den) (omega (arith, ints, h))))

    negative : (m d z : ℤ) → m <ℤ pos 0 → pos 0 ≤ℤ z → pos 1 ≤ℤ d → z ≤ℤ (m *ℤ d) → ⊥
    negative m d z l n h k = last d z n h (le_trans_z k (mul-le-mul_right_z d (omega (arith, ints, h)) (below m l)))
      where
        below : (m : ℤ) → m <ℤ pos 0 → m ≤ℤ negsuc 0
        below m l = omega (arith, ints, l)

        last : (d z : ℤ) → pos 0 ≤ℤ z → pos 1 ≤ℤ d → z ≤ℤ (negsuc 0 *ℤ d) → ⊥
        last d z n h k = omega (arith, ints, n, h, k)
