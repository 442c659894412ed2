-- What the corners of both classes are run over: numbers that fit, and what is shown over them is what the class shows.
use Rattle.std.proofs.Common.{◌≡◌, ℕ, ◌+◌, ◌-◌, ◌*◌, ◌/◌, ◌%◌, ◌^◌, ◌<◌, ◌≤◌, ◌==◌, max, Bool, true, false, if◌then◌else◌, ℤ, pos, ◌*ℤ◌, ◌≤ℤ◌, unsigned_abs, arith, ap, ap₂, sym, subst, ◌∙◌, refl}
use Rattle.std.proofs.lemmas.Int.{ints, unsigned_abs-mul}
use Rattle.std.proofs.lemmas.Nat.{pow_pos}
use Rattle.std.proofs.Math.Nat.{one-le-mul, mul-le-mul_left, pow-le-pow_left}
use Rattle.integer_algebra.specs.Division.{ceil_div}
use Rattle.integer_algebra.specs.Sums.{at}
use Rattle.integer_algebra.proofs.DivisionLaws.{le-mul-ceil_div, ceil_div-le}
use Rattle.integer_algebra.proofs.PowerLaws.{pow_positive}
use Rattle.frac_scaled.specs.Enclosures.{Enclosure}
use Rattle.frac_scaled.specs.declared.fraction.Frac.{Frac}
use Rattle.mat_int.specs.Matrix.{entry_of}
use Rattle.qp_model.specs.declared.bounds.Margin.{Margin}
use Rattle.qp_model.specs.declared.design_parts.DesignParts.{DesignParts}
use Rattle.qp_model.specs.problem.Design.{Design, entries}
use Rattle.qp_model.specs.problem.Parts.{design_of, IsDesign}
use Rattle.qp_model.specs.problem.Box.{corner}
use Rattle.qp_model.specs.problem.Policy.{Plans, IsPolicyFor}
use Rattle.qp_model.specs.form.Quantities.{greatest, growth, limit_width, cost_width, prediction_size}
use Rattle.qp_model.specs.form.FineForm.{fine_run}
use Rattle.qp_model.specs.bounds.CornerSizes.{box_magnitude, corner_magnitude, policy_magnitude, plan_reach, first_reach, corner_reach}
use Rattle.qp_model.specs.bounds.CornerClass.{shown_in}
use Rattle.qp_model.specs.bounds.FineCorners.{corner_state, corner_input}
use Rattle.qp_model.specs.bounds.Margin.{Shown}
use Rattle.qp_model.proofs.CornerFacts.{denominator_size, product_small}
use Rattle.qp_model.proofs.SizeFacts.{greatest_term}
use Rattle.condensed_form.proofs.StateFacts.{denominator_positive}
use Rattle.scaled_run.specs.ScaledForm.{wholes_over, exact_unit}
use Rattle.scaled_run.specs.ScaledCorners.{scaled_corner_state, scaled_corner_input, corner_unit, ShowSame}
use Rattle.scaled_run.proofs.CornerLaws.{unit_is, states_are, inputs_are, exact_corners_are_scaled}
use Rattle.scaled_run.proofs.RoomLaws.{exact_corner_room_law}
use Rattle.scaled_run.proofs.SizeLaws.{fine_reach_is}
use Rattle.scaled_run.specs.Lists.{Reaches}
use Rattle.scaled_run.proofs.Rooms.{reaches_more, whole_reaches, reach_first, enclosed_states_reach, exact_states_reach}
use Rattle.corner_margin.specs.Corner.{unit_in, shown_over, IsSetting, IsCornerScale}
use Rattle.corner_margin.specs.Corners.{HasCornerRoomIn}
use Rattle.corner_margin.specs.Simulation.{IsCornerMargin, IsShortRow}
use Rattle.corner_margin.proofs.EnclosedFacts.{enclosed_reaches, exact_reaches}
use Rattle.corner_margin.proofs.RoomFacts.{under, unit_small}
use Rattle.corner_margin.proofs.RunFacts.{index_is}

-- ---- one corner's numbers reach no further than all corners'
coordinate_size : (d : Design) (c i : ℕ) → i < d.states → unsigned_abs (corner d c i) ≤ box_magnitude d
coordinate_size d c i l = chosen ((c - 1) / 2 ^ i % 2 == 1) (d.high i) (d.low i) (box_magnitude d) (greatest_term i d.states (λ i. max (unsigned_abs (d.low i)) (unsigned_abs (d.high i))) l)
  where
    chosen : (b : Bool) (x y : ℤ) (t : ℕ) → max (unsigned_abs y) (unsigned_abs x) ≤ t → unsigned_abs (if b then x else y) ≤ t
    chosen true x y t h = omega arith
    chosen false x y t h = omega arith

-- what the plan of a corner is over
over_some : (d : Design) (s : Plans) (c : ℕ) → IsPolicyFor d s → c < 2 ^ d.states → 1 ≤ unsigned_abs (at s.denominators c)
over_some d s c f l = (denominator_size (at s.denominators c) (f.denominators c (pos 0) (omega (arith, f.count, l)))).0

-- ---- in enclosures
module _ (p : DesignParts) (s : Plans) (h : IsDesign p) (f : IsPolicyFor (design_of p) s) (r : HasCornerRoomIn true (design_of p) s) (c : ℕ) (inside : c < 2 ^ p.states) where
  first_some : 2 ^ 40 ≤ first_reach (design_of p) s
  first_some = last (2 ^ 40) (max (ceil_div (2 ^ 40 * box_magnitude (design_of p)) (2 ^ p.grid)) (greatest (2 ^ p.states) (plan_reach (design_of p) s)))
    where
      last : (a b : ℕ) → a ≤ max a b
      last a b = omega arith

  state_reaches : (i : ℕ) → i < p.states → Reaches (corner_state (design_of p) (c + 1) i) (first_reach (design_of p) s)
  state_reaches i l = exact_reaches (corner (design_of p) (c + 1) i) p.grid _ (under h.grid small) (last (ceil_div-le _ _ _ (pow_pos p.grid)
      (under (mul-le-mul_left (2 ^ 40) (coordinate_size (design_of p) (c + 1) i l)) (le-mul-ceil_div (2 ^ 40 * box_magnitude (design_of p)) (2 ^ p.grid) (pow_pos p.grid)))))
    where
      small : 24 ≤ 40
      small = omega arith

      last : {n : ℕ} → n ≤ ceil_div (2 ^ 40 * box_magnitude (design_of p)) (2 ^ p.grid) → n ≤ first_reach (design_of p) s
      last {n} k = middle (2 ^ 40) _ (greatest (2 ^ p.states) (plan_reach (design_of p) s)) k
        where
          middle : (a b m : ℕ) → n ≤ b → n ≤ max a (max b m)
          middle a b m k = omega arith

  input_reaches : (j : ℕ) → j < entries (design_of p) → Reaches (corner_input s (c + 1) j) (first_reach (design_of p) s)
  input_reaches j l = rw (index_is c) (enclosed_reaches (entry_of s.numerators c j) (unsigned_abs (at s.denominators c)) _ (over_some (design_of p) s c f inside) (last _ term corner_term))
    where
      term : ceil_div (2 ^ 40 * unsigned_abs (entry_of s.numerators c j)) (unsigned_abs (at s.denominators c)) + 2 ≤ plan_reach (design_of p) s c
      term = greatest_term j (entries (design_of p)) (λ j. ceil_div (2 ^ 40 * unsigned_abs (entry_of s.numerators c j)) (unsigned_abs (at s.denominators c)) + 2) l

      corner_term : plan_reach (design_of p) s c ≤ greatest (2 ^ p.states) (plan_reach (design_of p) s)
      corner_term = greatest_term c (2 ^ p.states) (plan_reach (design_of p) s) inside

      last : (n : ℕ) {m : ℕ} → n + 2 ≤ m → m ≤ greatest (2 ^ p.states) (plan_reach (design_of p) s) → n + 1 ≤ first_reach (design_of p) s
      last n {m} k o = middle (2 ^ 40) (ceil_div (2 ^ 40 * box_magnitude (design_of p)) (2 ^ p.grid)) _ o
        where
          middle : (a b g : ℕ) → m ≤ g → n + 1 ≤ max a (max b g)
          middle a b g o = omega arith

  one : 1 ≤ unsigned_abs p.plant_den
  one = denominator_positive p.plant_den h.plant_den.low

  first_last : first_reach (design_of p) s ≤ corner_reach (design_of p) s
  first_last = rw (fine_reach_is (design_of p) (first_reach (design_of p) s) p.stages) (reach_first 3 (design_of p) one (first_reach (design_of p) s) p.stages)

  fine_scale : IsCornerScale p s (2 ^ 40) (corner_reach (design_of p) s) c
  fine_scale = record {
    design = h;
    policy = f;
    inside = inside;
    some = omega arith;
    covers = under first_some first_last;
    near_states = λ k i l m. rw (fine_reach_is (design_of p) (first_reach (design_of p) s) p.stages) (enclosed_states_reach (design_of p) one (first_reach (design_of p) s) _ _ state_reaches input_reaches k i l m);
    near_plan = λ j l. reaches_more (input_reaches j l) first_last;
    states = states (2 ^ 17 * limit_width (design_of p) * corner_reach (design_of p) s) _ r.slack;
    slack = slack (limit_width (design_of p)) (corner_reach (design_of p) s) _ r.slack;
    cost = r.cost;
  }
    where
      states : (a b : ℕ) → max a b ≤ 2 ^ 126 → b ≤ 2 ^ 126
      states a b h = omega arith

      slack : (a b c : ℕ) → max (2 ^ 17 * a * b) c ≤ 2 ^ 126 → 2 ^ 17 * (a * b) ≤ 2 ^ 126
      slack a b c h = omega arith

-- ---- in exact numbers
module _ (d : Design) (s : Plans) (c : ℕ) (l : c < 2 ^ d.states) where
  reached : corner_magnitude d s c ≤ policy_magnitude d s
  reached = greatest_term c (2 ^ d.states) (corner_magnitude d s) l

  over_size : unsigned_abs (at s.denominators c) * 2 ^ d.grid ≤ policy_magnitude d s
  over_size = omega (arith, reached)

  start_size : (i : ℕ) → i < d.states → unsigned_abs (at s.denominators c) * unsigned_abs (corner d (c + 1) i) ≤ policy_magnitude d s
  start_size i o = last _ _ (box_magnitude d) _ (coordinate_size d (c + 1) i o) box
    where
      box : unsigned_abs (at s.denominators c) * box_magnitude d ≤ policy_magnitude d s
      box = omega (arith, reached)

      last : (q x b z : ℕ) → x ≤ b → q * b ≤ z → q * x ≤ z
      last q x b z h k = omega (arith, mul-le-mul_left q h)

  plan_size : (j : ℕ) → j < entries d → 2 ^ d.grid * unsigned_abs (entry_of s.numerators c j) ≤ policy_magnitude d s
  plan_size j o = last _ _ _ _ (greatest_term j (entries d) (λ j. unsigned_abs (entry_of s.numerators c j)) o) whole_size
    where
      whole_size : 2 ^ d.grid * greatest (entries d) (λ j. unsigned_abs (entry_of s.numerators c j)) ≤ policy_magnitude d s
      whole_size = omega (arith, reached)

      last : (q x b z : ℕ) → x ≤ b → q * b ≤ z → q * x ≤ z
      last q x b z h k = omega (arith, mul-le-mul_left q h)

-- which is some
pub policy_some : (d : Design) (s : Plans) → IsPolicyFor d s → 1 ≤ policy_magnitude d s
policy_some d s f = under (one-le-mul (over_some d s 0 f (pow_pos d.states)) (pow_pos d.grid)) (over_size d s 0 (pow_pos d.states))

-- the last power of the plant's denominator
power_size : (d : Design) → exact_unit d ≤ prediction_size d
power_size d = pow-le-pow_left grown d.stages
  where
    grown : d.plant_denominator ≤ growth d
    grown = omega arith

module _ (p : DesignParts) (s : Plans) (h : IsDesign p) (f : IsPolicyFor (design_of p) s) (c : ℕ) (inside : c < 2 ^ p.states) where
  abbrev over : ℕ
  over = unsigned_abs (at s.denominators c)

  denominator_some : 1 ≤ unsigned_abs p.plant_den
  denominator_some = denominator_positive p.plant_den h.plant_den.low

  over_low : pos 1 ≤ℤ at s.denominators c
  over_low = (f.denominators c (pos 0) (omega (arith, f.count, inside))).low

  over_natural : at s.denominators (c + 1 - 1) ≡ pos over
  over_natural = rw (index_is c) (natural (at s.denominators c) over_low)
    where
      natural : (z : ℤ) → pos 1 ≤ℤ z → z ≡ pos (unsigned_abs z)
      natural z h = omega (arith, ints, h)

  unit_size : corner_unit (design_of p) s (c + 1) ≤ policy_magnitude (design_of p) s * prediction_size (design_of p)
  unit_size = rw (index_is c) (product_small (over * 2 ^ p.grid) (exact_unit (design_of p)) _ _ (over_size (design_of p) s c inside) (power_size (design_of p)))

  unit_some : 1 ≤ corner_unit (design_of p) s (c + 1)
  unit_some = rw (index_is c) (one-le-mul (one-le-mul (over_some (design_of p) s c f inside) (pow_pos p.grid)) (pow_positive (unsigned_abs p.plant_den) p.stages denominator_some))

  abbrev start : ℕ → ℤ
  start j = pos over *ℤ corner (design_of p) (c + 1) j

  abbrev plan : ℕ → ℤ
  plan j = pos (2 ^ p.grid) *ℤ entry_of s.numerators (c + 1 - 1) j

  start_near : (i : ℕ) → i < p.states → unsigned_abs (start i) ≤ policy_magnitude (design_of p) s
  start_near i l = rw (unsigned_abs-mul (pos over) (corner (design_of p) (c + 1) i)) (start_size (design_of p) s c inside i l)

  plan_near : (j : ℕ) → j < entries (design_of p) → unsigned_abs (plan j) ≤ policy_magnitude (design_of p) s
  plan_near j l = rw (index_is c, unsigned_abs-mul (pos (2 ^ p.grid)) (entry_of s.numerators c j)) (plan_size (design_of p) s c inside j l)

  start_as : scaled_corner_state (corner_unit (design_of p) s (c + 1)) (design_of p) (c + 1) ≡ wholes_over (exact_unit (design_of p)) start
  start_as =
      ap (λ (m : ℕ). scaled_corner_state m (design_of p) (c + 1)) (unit_is (design_of p) s (c + 1) over denominator_some over_natural (over_some (design_of p) s c f inside)) ∙
      states_are (design_of p) s (c + 1) over denominator_some over_natural (over_some (design_of p) s c f inside)

  plan_as : scaled_corner_input (corner_unit (design_of p) s (c + 1)) s (c + 1) ≡ wholes_over (exact_unit (design_of p)) plan
  plan_as =
      ap (λ (m : ℕ). scaled_corner_input m s (c + 1)) (unit_is (design_of p) s (c + 1) over denominator_some over_natural (over_some (design_of p) s c f inside)) ∙
      inputs_are (design_of p) s (c + 1) over denominator_some over_natural (over_some (design_of p) s c f inside)

  module _ (r : HasCornerRoomIn false (design_of p) s) where
    exact_scale : IsCornerScale p s (corner_unit (design_of p) s (c + 1)) (policy_magnitude (design_of p) s * prediction_size (design_of p)) c
    exact_scale = record {
      design = h;
      policy = f;
      inside = inside;
      some = unit_some;
      covers = unit_size;
      near_states = λ k i l m. subst (λ (e : Enclosure). Reaches e (policy_magnitude (design_of p) s * prediction_size (design_of p)))
          (sym (ap₂ (λ (x v : ℕ → Enclosure). fine_run (design_of p) x v k i) start_as plan_as))
          (exact_states_reach (design_of p) denominator_some (policy_magnitude (design_of p) s) start plan start_near plan_near k i l m);
      near_plan = λ j l. subst (λ (v : ℕ → Enclosure). Reaches (v j) (policy_magnitude (design_of p) s * prediction_size (design_of p))) (sym plan_as)
          (whole_reaches (exact_unit (design_of p)) (plan j) _ (near _ _ (power_size (design_of p)) (plan_near j l)));
      states = small (exact_corner_room_law p s h r.cost);
      slack = slack (limit_width (design_of p)) (prediction_size (design_of p)) (policy_magnitude (design_of p) s) r.slack;
      cost = rw (cost (cost_width (design_of p)) (prediction_size (design_of p)) (policy_magnitude (design_of p) s)) r.cost;
    }
      where
        near : (a x : ℕ) {b z : ℕ} → a ≤ b → x ≤ z → a * x ≤ z * b
        near a x {b} {z} h k = omega (arith, product_small a x b z h k)

        small : {n : ℕ} → n ≤ 2 ^ 99 → n ≤ 2 ^ 126
        small h = omega (arith, h)

        slack : (a b c : ℕ) → 2 ^ 17 * a * b * c ≤ 2 ^ 126 → 2 ^ 17 * (a * (c * b)) ≤ 2 ^ 126
        slack a b c h = omega arith

        cost : (a b c : ℕ) → a * (c * b) ≡ a * b * c
        cost a b c = omega arith

    -- what it is over, as code makes it
    pub power_room : unsigned_abs p.plant_den ^ p.stages ≤ 2 ^ 126
    power_room = under (power_size (design_of p)) r.prediction

    pub unit_fits : (q g m : ℕ) → q ≡ over → g ≡ 2 ^ p.grid → m ≡ unsigned_abs p.plant_den ^ p.stages → q * g * m ≤ 2 ^ 63
    unit_fits q g m e f o = rw (e, f, o) (rw (index_is c) at (unit_small exact_scale))

    pub unit_part : (q g : ℕ) → q ≡ over → g ≡ 2 ^ p.grid → q * g ≤ 2 ^ 63
    unit_part q g e f = first (q * g) _ (pow_positive (unsigned_abs p.plant_den) p.stages denominator_some) (unit_fits q g _ e f refl)
      where
        first : (a m : ℕ) → 1 ≤ m → a * m ≤ 2 ^ 63 → a ≤ 2 ^ 63
        first a m h k = omega (arith, k, mul-le-mul_left a h)

-- ---- in both
pub scale_of : (fine : Bool) (p : DesignParts) (s : Plans) (reach c : ℕ) → IsSetting fine p s reach → c < 2 ^ p.states → IsCornerScale p s (unit_in fine (design_of p) s (c + 1)) reach c
scale_of true p s reach c k l = subst (λ (n : ℕ). IsCornerScale p s (2 ^ 40) n c) (sym k.reach_is) (fine_scale p s k.design k.policy k.room c l)
scale_of false p s reach c k l =
    subst (λ (n : ℕ). IsCornerScale p s (corner_unit (design_of p) s (c + 1)) n c) (sym k.reach_is) (exact_scale p s k.design k.policy c l k.room)

-- what is shown over the corner's unit is what its class shows
pub shows_same : (fine : Bool) (p : DesignParts) (s : Plans) (c : ℕ) → IsDesign p → IsPolicyFor (design_of p) s → c < 2 ^ p.states →
    ShowSame (shown_over (unit_in fine (design_of p) s (c + 1)) (design_of p) s) (shown_in fine (design_of p) s) (c + 1)
shows_same true p s c h f l = record { slack = λ i. refl; slack_scale = refl; cost = refl; cost_scale = refl }
shows_same false p s c h f l =
    let same = exact_corners_are_scaled (design_of p) s (c + 1) (denominator_some p s h f c l) (rw (index_is c) (over_low p s h f c l)) in
    record { slack = same.slack; slack_scale = same.slack_scale; cost = same.cost; cost_scale = same.cost_scale }

-- ---- what two show alike at a corner
module _ {k h : Shown} (rows c : ℕ) (same : ShowSame k h c) where
  pub margin_moved : (m : Margin) → IsCornerMargin k rows c m → IsCornerMargin h rows c m
  margin_moved m o = record {
    units = record {
      some = o.units.some;
      slacks = λ i l. rw (← same.slack_scale, ← (same.slack i)) (o.units.slacks i l);
      row = o.units.row;
      inside = o.units.inside;
      short = rw (← same.slack_scale, ← (same.slack o.units.row)) o.units.short;
    };
    cost = record { some = o.cost.some; cost = rw (← same.cost_scale, ← same.cost) o.cost.cost; dear = rw (← same.cost_scale, ← same.cost) o.cost.dear };
  }

  pub short_moved : (r : ℕ) (slack : Frac) → IsShortRow k rows c r slack → IsShortRow h rows c r slack
  short_moved r slack o = record {
    first = o.first;
    last = o.last;
    before = λ i l. rw (← same.slack_scale, ← (same.slack i)) (o.before i l);
    short = rw (← same.slack_scale, ← (same.slack (r - 1))) o.short;
    numerator = rw (← (same.slack (r - 1))) o.numerator;
    denominator = rw (← same.slack_scale) o.denominator;
  }
