-- What the tests look for is there once: the margin, the first short corner and row, the step exponent, the exponents of the rows, the number of fraction bits.
use Rattle.std.proofs.Common.{◌≡◌, inl, inr, ℕ, List, ◌-◌, ◌^◌, ◌<◌, ◌≤◌, ℤ, pos, ◌+ℤ◌, ◌-ℤ◌, ◌*ℤ◌, ◌≤ℤ◌, ◌<ℤ◌, arith, refl, sym, subst, ◌∙◌}
use Rattle.std.proofs.lemmas.Int.{ints, by_lt_z}
use Rattle.std.proofs.Props.{props}
use Rattle.std.proofs.lemmas.Bool.{cases_lt}
use Rattle.integer_algebra.proofs.OrderLaws.{mul-le-mul_right_z}
use Rattle.frac_scaled.specs.declared.fraction.Frac.{Frac}
use Rattle.qp_model.specs.problem.Design.{Design}
use Rattle.qp_model.specs.problem.Parts.{IsDesign, design_of}
use Rattle.qp_model.specs.problem.Policy.{Plans, IsPolicyFor}
use Rattle.qp_model.specs.bounds.CornerClass.{has_fine_corners, shown, IsMargin}
use Rattle.qp_model.specs.bounds.Errors.{ErrorSums, epsilon}
use Rattle.qp_model.specs.declared.design_parts.DesignParts.{DesignParts}
use Rattle.qp_model.specs.declared.bounds.Margin.{Margin}
use Rattle.corner_margin.specs.Corners.{IsFirstShort}
use Rattle.corner_margin.specs.Simulation.{HasScales}
use Rattle.corner_margin.proofs.MarginFacts.{scales}
use Rattle.qp_model.specs.bounds.Least.{IsLeast}
use Rattle.hessian_check.specs.Curvature.{IsFirst, IsChosen, IsDominantAt, HasPassingRootBelow}
use Rattle.hessian_check.specs.Steps.{IsExponentOf, HasNoStep}
use Rattle.hessian_check.specs.RowExponents.{AreExponentsOf}
use Rattle.hessian_check.proofs.RowExponentLaws.{one_list_law}
use Rattle.step_error.specs.Choice.{IsChoice}
use Rattle.step_error.proofs.FallingLaws.{epsilon_falls}

-- ---- what the corners' slacks and costs are over
from_one : (z : ℤ) → pos 1 ≤ℤ z → pos 0 <ℤ z
from_one z h = omega (arith, ints)

module _ (p : DesignParts) (plans : Plans) (design : IsDesign p) (policy : IsPolicyFor (design_of p) plans) where
  over : HasScales (shown (design_of p) plans) (2 ^ (design_of p).states)
  over = scales (has_fine_corners (design_of p) plans) p plans design policy

  pub slack_positive : (c : ℕ) → 1 ≤ c → c ≤ 2 ^ (design_of p).states → pos 0 <ℤ (shown (design_of p) plans).slack_scale c
  slack_positive c l h = from_one _ (over.slack c l h)

  cost_positive : (c : ℕ) → 1 ≤ c → c ≤ 2 ^ (design_of p).states → pos 0 <ℤ (shown (design_of p) plans).cost_scale c
  cost_positive c l h = from_one _ (over.cost c l h)

-- ---- the margin
-- v has the slack x, which u + 1 has not
units_le : (u v w x : ℤ) → pos 0 <ℤ w → x <ℤ ((u +ℤ pos 1) *ℤ w) → (v *ℤ w) ≤ℤ x → v ≤ℤ u
units_le u v w x p h k = by_lt_z u v
    (λ l. absurd (clash (mul-le-mul_right_z w {a = u +ℤ pos 1} {b = v} (omega (arith, ints, p)) (omega (arith, ints, l))) h k))
    (λ l. l)
  where
    clash : {a b x : ℤ} → a ≤ℤ b → x <ℤ a → b ≤ℤ x → ⊥
    clash {a} {b} {x} f g h = omega (arith, ints)

-- v has the cost x, which u - 1 has not
costs_le : (u v w x : ℤ) → pos 0 <ℤ w → ((u -ℤ pos 1) *ℤ w) <ℤ x → x ≤ℤ (v *ℤ w) → u ≤ℤ v
costs_le u v w x p h k = by_lt_z v u
    (λ l. absurd (clash (mul-le-mul_right_z w {a = v} {b = u -ℤ pos 1} (omega (arith, ints, p)) (omega (arith, ints, l))) h k))
    (λ l. l)
  where
    clash : {a b x : ℤ} → a ≤ℤ b → b <ℤ x → x ≤ℤ a → ⊥
    clash {a} {b} {x} f g h = omega (arith, ints)

both_ways : (a b : ℤ) → a ≤ℤ b → b ≤ℤ a → a ≡ b
both_ways a b h k = omega (arith, ints)

margin_same : (m o : Margin) → m.units ≡ o.units → m.cost ≡ o.cost → m ≡ o
margin_same m o e f = same m.units o.units m.cost o.cost e f
  where
    same : (a b c d : ℤ) → a ≡ b → c ≡ d → ◌≡◌ {A = Margin} (record { units = a; cost = c }) (record { units = b; cost = d })
    same a b c d e f = rw (e, f) refl

module _ (p : DesignParts) (plans : Plans) (design : IsDesign p) (policy : IsPolicyFor (design_of p) plans) where
  units_under : (m o : Margin) → IsMargin (design_of p) plans m → IsMargin (design_of p) plans o → o.units ≤ℤ m.units
  units_under m o h k =
      let l = h.least in
      units_le m.units o.units ((shown (design_of p) plans).slack_scale l.c) (pos (2 ^ 16) *ℤ (shown (design_of p) plans).slack l.c l.row)
      (slack_positive p plans design policy l.c l.first l.last) l.short (k.slacks l.c l.row l.first l.last l.inside)

  cost_under : (m o : Margin) → IsMargin (design_of p) plans m → IsMargin (design_of p) plans o → m.cost ≤ℤ o.cost
  cost_under m o h k =
      let g = h.greatest in
      costs_le m.cost o.cost ((shown (design_of p) plans).cost_scale g.c) ((shown (design_of p) plans).cost g.c)
      (cost_positive p plans design policy g.c g.first g.last) g.dear (k.costs g.c g.first g.last)

  pub one_margin : (m o : Margin) → IsMargin (design_of p) plans m → IsMargin (design_of p) plans o → m ≡ o
  one_margin m o h k = margin_same m o
      (both_ways m.units o.units (units_under o m k h) (units_under m o h k)) (both_ways m.cost o.cost (cost_under m o h k) (cost_under o m k h))

-- ---- the first short corner and row
has_not : (w x : ℤ) → x <ℤ w → (pos 1 *ℤ w) ≤ℤ x → ⊥
has_not w x h k = omega (arith, ints, h, k)

frac_same : (a b : Frac) → a.num ≡ b.num → a.den ≡ b.den → a ≡ b
frac_same a b e f = same a.num b.num a.den b.den a.positive b.positive e f
  where
    same : (m n c d : ℤ) (p : pos 1 ≤ℤ c) (q : pos 1 ≤ℤ d) → m ≡ n → c ≡ d →
        ◌≡◌ {A = Frac} (record { num = m; den = c; positive = p }) (record { num = n; den = d; positive = q })
    same m n c d p q e f = subst
        (λ (x : ℤ). (q : pos 1 ≤ℤ x) → ◌≡◌ {A = Frac} (record { num = m; den = c; positive = p }) (record { num = n; den = x; positive = q })) f
        (λ q. (let one : IsProp (pos 1 ≤ℤ c) = hlevel props in rw (e, one p q) refl)) q

module _ (d : Design) (plans : Plans) where
  corner_le : (c r b q : ℕ) (x y : Frac) → IsFirstShort d plans c r x → IsFirstShort d plans b q y → b ≤ c
  corner_le c r b q x y h k = elim (cases_lt c b) [
    | inl l ↦ absurd (has_not _ _ h.short (k.corners_before c h.corner_first l (r - 1) (omega (arith, h.row_first, h.row_last))))
    | inr l ↦ l
  ]

  row_le : (c r q : ℕ) (x y : Frac) → IsFirstShort d plans c r x → IsFirstShort d plans c q y → q ≤ r
  row_le c r q x y h k = elim (cases_lt r q) [
    | inl l ↦ absurd (has_not _ _ h.short (k.rows_before (r - 1) (omega (arith, h.row_first, l))))
    | inr l ↦ l
  ]

  pub one_slack : (c r : ℕ) (x y : Frac) → IsFirstShort d plans c r x → IsFirstShort d plans c r y → x ≡ y
  one_slack c r x y h k = frac_same x y (h.numerator ∙ sym k.numerator) (h.denominator ∙ sym k.denominator)

  pub one_corner : (c r b q : ℕ) (x y : Frac) → IsFirstShort d plans c r x → IsFirstShort d plans b q y → c ≡ b
  one_corner c r b q x y h k = omega (arith, corner_le c r b q x y h k, corner_le b q c r y x k h)

  pub one_row : (c r q : ℕ) (x y : Frac) → IsFirstShort d plans c r x → IsFirstShort d plans c q y → r ≡ q
  one_row c r q x y h k = omega (arith, row_le c r q x y h k, row_le c q r y x k h)

-- ---- least numbers
pub one_least : (is : ℕ → Type 0) (a b : ℕ) → IsLeast is a → IsLeast is b → a ≡ b
one_least is a b h k = elim (cases_lt a b) [
  | inl l ↦ absurd (k.least a l h.holds)
  | inr l ↦ elim (cases_lt b a) [ inl o ↦ absurd (h.least b o k.holds) | inr o ↦ omega (arith, l, o) ]
]

pub one_first : (n : ℕ) (m : ℕ → ℕ → ℕ → ℤ) (covers : ℕ → Type 0) (a b : ℕ) → IsFirst n m covers a → IsFirst n m covers b → a ≡ b
one_first n m covers a b h k =
    let e = one_least covers h.squares k.squares h.by_squares k.by_squares in
    elim h.lesser [
      | inl x ↦ elim k.lesser [
        | inl y ↦ (let f = one_least (IsDominantAt n m) x.0 y.0 x.1 y.1 in x.2 ∙ rw (e, f) refl ∙ sym y.2)
        | inr y ↦ absurd (y.0 x.0 x.1.holds)
      ]
      | inr x ↦ elim k.lesser [
        | inl y ↦ absurd (x.0 y.0 y.1.holds)
        | inr y ↦ x.1 ∙ e ∙ sym y.1
      ]
    ]

pub one_chosen : (n : ℕ) (m : ℕ → ℕ → ℕ → ℤ) (s1 a b : ℕ) → IsChosen n m s1 a → IsChosen n m s1 b → a ≡ b
one_chosen n m s1 a b (inl x) (inl y) = one_least (HasPassingRootBelow n m s1) a b x y
one_chosen n m s1 a b (inl x) (inr y) = absurd (y.0 a x.holds)
one_chosen n m s1 a b (inr x) (inl y) = absurd (x.0 b y.holds)
one_chosen n m s1 a b (inr x) (inr y) = x.1 ∙ sym y.1

-- ---- the step exponent
pub one_exponent : (d : Design) (a b : ℕ) → IsExponentOf d a → IsExponentOf d b → a ≡ b
one_exponent d a b h k =
    let e = one_first _ _ _ h.plain k.plain h.is_plain k.is_plain in
    one_chosen _ _ k.plain a b (rw e at h.is_step) k.is_step

pub no_exponent : (d : Design) (a : ℕ) → HasNoStep d → IsExponentOf d a → ⊥
no_exponent d a h k = omega (arith, one_first _ _ _ h.s1 k.plain h.plain k.is_plain, h.above, k.limit)

-- ---- the exponents of the rows
pub one_exponents : (d : Design) (s : ℕ) (xs ys : List ℕ) → AreExponentsOf d s xs → AreExponentsOf d s ys → xs ≡ ys
one_exponents d s xs ys h k = one_list_law d s xs ys h k

-- ---- the fraction bits
pub one_choice : (sums : ErrorSums) (low limit a b : ℕ) → IsChoice sums low limit a → IsChoice sums low limit b → a ≡ b
one_choice sums low limit a b h k = elim (cases_lt a b) [
  | inl l ↦ absurd (clash (epsilon sums a) limit (k.least a h.from l) h.within)
  | inr l ↦ elim (cases_lt b a) [ inl o ↦ absurd (clash (epsilon sums b) limit (h.least b k.from o) k.within) | inr o ↦ omega (arith, l, o) ]
]
  where
    clash : (n m : ℕ) → m < n → n ≤ m → ⊥
    clash n m h k = omega (arith, h, k)

pub no_choice : (sums : ErrorSums) (low limit a : ℕ) → 1 ≤ sums.rho → limit < epsilon sums 48 → IsChoice sums low limit a → ⊥
no_choice sums low limit a some fine h = clash (epsilon sums 48) (epsilon sums a) limit (epsilon_falls sums a 48 some h.to) fine h.within
  where
    clash : (n e m : ℕ) → n ≤ e → m < n → e ≤ m → ⊥
    clash n e m f g h = omega (arith, f, g, h)
