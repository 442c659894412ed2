-- The margin of the first corners, and of one more.
use Rattle.std.proofs.Common.{◌≡◌, ◌⊎◌, inl, inr, ℕ, ◌+◌, ◌-◌, ◌^◌, ◌<◌, ◌≤◌, Bool, true, false, cond, ℤ, pos, ◌*ℤ◌, ◌≤ℤ◌, ◌<ℤ◌, unsigned_abs, arith, subst, refl}
use Rattle.std.proofs.lemmas.Bool.{cases_lt}
use Rattle.std.proofs.lemmas.Int.{ints, clamps}
use Rattle.std.proofs.lemmas.Nat.{pow_pos}
use Rattle.std.proofs.Math.Nat.{one-le-mul}
use Rattle.std.specs.Int.{int_min, int_max}
use Rattle.std.specs.Prelude.{int_lt}
use Rattle.integer_algebra.proofs.OrderLaws.{le_trans_z, mul-le-mul_right_z}
use Rattle.integer_algebra.proofs.PowerLaws.{pow_positive}
use Rattle.frac_scaled.specs.declared.fraction.Frac.{Frac}
use Rattle.qp_model.specs.declared.design_parts.DesignParts.{DesignParts}
use Rattle.qp_model.specs.declared.policy.Policy.{Policy}
use Rattle.qp_model.specs.declared.bounds.Margin.{Margin}
use Rattle.qp_model.specs.problem.Design.{Design, rows}
use Rattle.qp_model.specs.problem.Parts.{design_of, IsDesign}
use Rattle.qp_model.specs.problem.Policy.{Plans, IsPolicyFor, corner_denominator}
use Rattle.qp_model.specs.bounds.Margin.{Shown, simulated, HasSlack, HasCost, IsMarginOf}
use Rattle.qp_model.specs.bounds.FineCorners.{enclosed_corners}
use Rattle.qp_model.specs.bounds.CornerClass.{shown_in, IsMarginIn}
use Rattle.condensed_form.proofs.StateFacts.{denominator_positive}
use Rattle.corner_margin.specs.Corners.{AllSlackOf, IsFirstShortIn}
use Rattle.corner_margin.specs.Simulation.{IsCornerMargin, IsShortRow, HasScales}
use Rattle.corner_margin.proofs.SlackFacts.{one-le-mul_z}

-- ---- the less and the greater of two numbers
min_met : (x y : ℤ) → (int_min x y ≡ x) ⊎ (int_min x y ≡ y)
min_met x y = chosen (int_lt y x) x y
  where
    chosen : (b : Bool) (x y : ℤ) → (cond b y x ≡ x) ⊎ (cond b y x ≡ y)
    chosen true x y = inr refl
    chosen false x y = inl refl

max_met : (x y : ℤ) → (int_max x y ≡ x) ⊎ (int_max x y ≡ y)
max_met x y = chosen (int_lt y x) x y
  where
    chosen : (b : Bool) (x y : ℤ) → (cond b x y ≡ x) ⊎ (cond b x y ≡ y)
    chosen true x y = inl refl
    chosen false x y = inr refl

min_some : (x y : ℤ) → pos 1 ≤ℤ x → pos 1 ≤ℤ y → pos 1 ≤ℤ int_min x y
min_some x y h k = elim (min_met x y) [
  | inl e ↦ rw e h
  | inr e ↦ rw e k
]

max_some : (x y : ℤ) → pos 0 ≤ℤ x → pos 0 ≤ℤ y → pos 0 ≤ℤ int_max x y
max_some x y h k = elim (max_met x y) [
  | inl e ↦ rw e h
  | inr e ↦ rw e k
]

positive_pos : (n : ℕ) → 1 ≤ n → pos 1 ≤ℤ pos n
positive_pos n h = omega (arith, ints)

nonneg : (z : ℤ) → pos 1 ≤ℤ z → pos 0 ≤ℤ z
nonneg z h = omega (arith, ints, h)

-- ---- what slacks and costs are over is positive
-- of exact corners
module _ (p : DesignParts) (s : Plans) (h : IsDesign p) (f : IsPolicyFor (design_of p) s) where
  over_some : (c : ℕ) → 1 ≤ c → c ≤ 2 ^ p.states → pos 1 ≤ℤ corner_denominator s c
  over_some c first last = (f.denominators (c - 1) (pos 0) (omega (arith, f.count, first, last))).low

  power_some : 1 ≤ unsigned_abs p.plant_den ^ p.stages
  power_some = pow_positive (unsigned_abs p.plant_den) p.stages (denominator_positive p.plant_den h.plant_den.low)

  exact_scales : HasScales (simulated (design_of p) s) (2 ^ p.states)
  exact_scales = record {
    slack = λ c first last. one-le-mul_z (positive_pos _ (one-le-mul (one-le-mul (denominator_positive p.limit_den h.limit_den.low) (pow_pos p.grid)) power_some)) (over_some c first last);
    cost = λ c first last. one-le-mul_z (positive_pos _ (one-le-mul (denominator_positive p.cost_den h.cost_den.low)
        (pow_positive _ 2 (one-le-mul (one-le-mul (denominator_positive p.row_den h.row_den.low) (pow_pos p.grid)) power_some))))
        (one-le-mul_z (over_some c first last) (over_some c first last));
  }

-- of corners in enclosures
fine_scales : (p : DesignParts) (s : Plans) (n : ℕ) → IsDesign p → HasScales (enclosed_corners (design_of p) s) n
fine_scales p s n h = record {
  slack = λ c first last. positive_pos _ (one-le-mul (denominator_positive p.limit_den h.limit_den.low) (pow_pos 40));
  cost = λ c first last. positive_pos _ (one-le-mul (one-le-mul (denominator_positive p.cost_den h.cost_den.low)
      (pow_positive _ 2 (denominator_positive p.row_den h.row_den.low))) (pow_pos 80));
}

pub scales : (fine : Bool) (p : DesignParts) (s : Plans) → IsDesign p → IsPolicyFor (design_of p) s → HasScales (shown_in fine (design_of p) s) (2 ^ p.states)
scales true p s h f = fine_scales p s (2 ^ p.states) h
scales false p s h f = exact_scales p s h f

-- ---- one corner
one_margin : (k : Shown) (rows : ℕ) (m : Margin) → IsCornerMargin k rows 1 m → IsMarginOf k rows 1 m
one_margin k rows m o = record {
  slacks = λ c i a b l. (let e : 1 ≡ c = omega (arith, a, b) in subst (λ (n : ℕ). HasSlack k m.units n i) e (o.units.slacks i l));
  least = record { c = 1; row = o.units.row; first = omega arith; last = omega arith; inside = o.units.inside; short = o.units.short };
  costs = λ c a b. (let e : 1 ≡ c = omega (arith, a, b) in subst (λ (n : ℕ). HasCost k m.cost n) e o.cost.cost);
  greatest = record { c = 1; first = omega arith; last = omega arith; dear = o.cost.dear };
}

-- ---- one more
module _ (k : Shown) (corners rows n : ℕ) (m : Margin) (over : HasScales k corners) where
  more_margin : (o : Margin) → n < corners → IsMarginOf k rows n m → IsCornerMargin k rows (n + 1) o →
      IsMarginOf k rows (n + 1) (record { units = int_min m.units o.units; cost = int_max m.cost o.cost })
  more_margin o l old new = record {
    slacks = λ c i a b q. (elim (cases_lt n c) [
      | inl x ↦ (let e : n + 1 ≡ c = omega (arith, b, x) in subst (λ (j : ℕ). HasSlack k (int_min m.units o.units) j i) e
          (lower (n + 1) i (omega arith) (omega (arith, l)) o.units (int_min m.units o.units) (min_right m.units o.units) (new.units.slacks i q)))
      | inr x ↦ lower c i a (omega (arith, l, x)) m.units (int_min m.units o.units) (min_left m.units o.units) (old.slacks c i a (omega (arith, x)) q)
    ]);
    least = elim (min_met m.units o.units) [
      | inl e ↦ rw e (record { c = old.least.c; row = old.least.row; first = old.least.first; last = omega (arith, old.least.last); inside = old.least.inside; short = old.least.short })
      | inr e ↦ rw e (record { c = n + 1; row = new.units.row; first = omega arith; last = omega arith; inside = new.units.inside; short = new.units.short })
    ];
    costs = λ c a b. (elim (cases_lt n c) [
      | inl x ↦ (let e : n + 1 ≡ c = omega (arith, b, x) in subst (λ (j : ℕ). HasCost k (int_max m.cost o.cost) j) e
          (higher (n + 1) (omega arith) (omega (arith, l)) o.cost (int_max m.cost o.cost) (max_right m.cost o.cost) new.cost.cost))
      | inr x ↦ higher c a (omega (arith, l, x)) m.cost (int_max m.cost o.cost) (max_left m.cost o.cost) (old.costs c a (omega (arith, x)))
    ]);
    greatest = elim (max_met m.cost o.cost) [
      | inl e ↦ rw e (record { c = old.greatest.c; first = old.greatest.first; last = omega (arith, old.greatest.last); dear = old.greatest.dear })
      | inr e ↦ rw e (record { c = n + 1; first = omega arith; last = omega arith; dear = new.cost.dear })
    ];
  }
    where
      lower : (c i : ℕ) → 1 ≤ c → c ≤ corners → (u v : ℤ) → v ≤ℤ u → HasSlack k u c i → HasSlack k v c i
      lower c i a b u v g q = le_trans_z (mul-le-mul_right_z (k.slack_scale c) (nonneg _ (over.slack c a b)) g) q

      higher : (c : ℕ) → 1 ≤ c → c ≤ corners → (u v : ℤ) → u ≤ℤ v → HasCost k u c → HasCost k v c
      higher c a b u v g q = le_trans_z q (mul-le-mul_right_z (k.cost_scale c) (nonneg _ (over.cost c a b)) g)

      min_left : (x y : ℤ) → int_min x y ≤ℤ x
      min_left x y = omega (arith, ints, clamps)

      min_right : (x y : ℤ) → int_min x y ≤ℤ y
      min_right x y = omega (arith, ints, clamps)

      max_left : (x y : ℤ) → x ≤ℤ int_max x y
      max_left x y = omega (arith, ints, clamps)

      max_right : (x y : ℤ) → y ≤ℤ int_max x y
      max_right x y = omega (arith, ints, clamps)

  -- ---- what the first corners have where the next has too little
  -- each row of each of them has at least one unit
  all_slack : n ≤ corners → IsMarginOf k rows n m → pos 1 ≤ℤ m.units → (b : ℕ) → 1 ≤ b → b ≤ n → AllSlackOf k b rows
  all_slack l known u b a o i q = le_trans_z (mul-le-mul_right_z (k.slack_scale b) (nonneg _ (over.slack b a (omega (arith, l, o)))) u) (known.slacks b i a o q)

first_short : (fine : Bool) (d : Design) (s : Plans) (c r corner : ℕ) (slack : Frac) → corner ≡ c → 1 ≤ c → c ≤ 2 ^ d.states →
    ((b : ℕ) → 1 ≤ b → b < c → AllSlackOf (shown_in fine d s) b (rows d)) → IsShortRow (shown_in fine d s) (rows d) c r slack → IsFirstShortIn fine d s corner r slack
first_short fine d s c r corner slack e a b before k = rw e (record {
  corner_first = a;
  corner_last = b;
  row_first = k.first;
  row_last = k.last;
  corners_before = before;
  rows_before = k.before;
  short = k.short;
  numerator = k.numerator;
  denominator = k.denominator;
})

-- a margin leaves no row short
not_short : (fine : Bool) (d : Design) (s : Plans) (m : Margin) (c r : ℕ) (slack : Frac) → HasScales (shown_in fine d s) (2 ^ d.states) → IsMarginIn fine d s m → pos 1 ≤ℤ m.units →
    IsFirstShortIn fine d s c r slack → ⊥
not_short fine d s m c r slack over k u w =
    last _ _ (all_slack (shown_in fine d s) (2 ^ d.states) (rows d) (2 ^ d.states) m over (omega arith) k u c w.corner_first w.corner_last (r - 1) (omega (arith, w.row_first, w.row_last))) w.short
  where
    last : (x y : ℤ) → (pos 1 *ℤ x) ≤ℤ y → y <ℤ x → ⊥
    last x y h k = omega (arith, ints, h, k)

-- ---- the margin of the first corners, and of one more
-- a corner's margin, and a row that is short, at a corner from 0
abbrev pub HasMargin : (fine : Bool) → DesignParts → Plans → ℕ → Margin → Type 0
HasMargin fine p s c m = IsCornerMargin (shown_in fine (design_of p) s) (rows (design_of p)) (c + 1) m

abbrev pub HasShortRow : (fine : Bool) → DesignParts → Plans → ℕ → ℕ → Frac → Type 0
HasShortRow fine p s c r slack = IsShortRow (shown_in fine (design_of p) s) (rows (design_of p)) (c + 1) r slack

-- the margin of the first n corners
pub record IsMarginUpTo (fine : Bool) (p : DesignParts) (s : Plans) (n : ℕ) (m : Margin) : Type 0 where
  pub some : 1 ≤ n
  pub margin : IsMarginOf (shown_in fine (design_of p) s) (rows (design_of p)) n m
  pub units : pos 1 ≤ℤ m.units
  pub cost : pos 0 ≤ℤ m.cost

module _ (fine : Bool) (p : DesignParts) (s : Plans) where
  pub first_margin : (m : Margin) → HasMargin fine p s 0 m → IsMarginUpTo fine p s 1 m
  first_margin m k = record {
    some = omega arith;
    margin = one_margin (shown_in fine (design_of p) s) (rows (design_of p)) m k;
    units = k.units.some;
    cost = k.cost.some;
  }

  module _ (h : IsDesign p) (f : IsPolicyFor (design_of p) s) (n : ℕ) (m : Margin) (k : IsMarginUpTo fine p s n m) where
    pub next_margin : (o : Margin) → n < 2 ^ p.states → HasMargin fine p s n o → IsMarginUpTo fine p s (n + 1) (record { units = int_min m.units o.units; cost = int_max m.cost o.cost })
    next_margin o l new = record {
      some = omega arith;
      margin = more_margin (shown_in fine (design_of p) s) (2 ^ p.states) (rows (design_of p)) n m (scales fine p s h f) o l k.margin new;
      units = min_some _ _ k.units new.units.some;
      cost = max_some _ _ k.cost new.cost.some;
    }

    -- where the next corner has a short row, it is the first
    pub short_next : (corner r : ℕ) (slack : Frac) → n < 2 ^ p.states → corner ≡ n + 1 → HasShortRow fine p s n r slack → IsFirstShortIn fine (design_of p) s corner r slack
    short_next corner r slack l e w = first_short fine (design_of p) s (n + 1) r corner slack e (omega arith) (omega (arith, l))
        (λ b a o. all_slack (shown_in fine (design_of p) s) (2 ^ p.states) (rows (design_of p)) n m (scales fine p s h f) (omega (arith, l)) k.margin k.units b a (omega (arith, o))) w

    -- of all corners
    pub whole_margin : n ≡ 2 ^ p.states → IsMarginIn fine (design_of p) s m
    whole_margin e = subst (λ (c : ℕ). IsMarginOf (shown_in fine (design_of p) s) (rows (design_of p)) c m) e k.margin

    pub none_short : n ≡ 2 ^ p.states → (corner r : ℕ) (slack : Frac) → IsFirstShortIn fine (design_of p) s corner r slack → ⊥
    none_short e corner r slack w = not_short fine (design_of p) s m corner r slack (scales fine p s h f) (whole_margin e) k.units w

  -- where the first corner has a short row
  pub short_first : (corner r : ℕ) (slack : Frac) → corner ≡ 1 → HasShortRow fine p s 0 r slack → IsFirstShortIn fine (design_of p) s corner r slack
  short_first corner r slack e w = first_short fine (design_of p) s 1 r corner slack e (omega arith) (pow_pos p.states) (λ b a o. absurd (omega (arith, a, o))) w

-- ---- what holds of a corner as it was made holds of the corner that was asked for
pub carried : (P : DesignParts → Policy → ℕ → ℕ → Type 0) {p q : DesignParts} {s t : Policy} {u v m n : ℕ} → p ≡ q → s ≡ t → u ≡ v → m ≡ n → P p s u m → P q t v n
carried P {p} {q} {s} {t} {u} {v} {m} {n} e f g h k =
    subst (λ (x : DesignParts). P x t v n) e (subst (λ (y : Policy). P p y v n) f (subst (λ (z : ℕ). P p s z n) g (subst (λ (z : ℕ). P p s u z) h k)))
