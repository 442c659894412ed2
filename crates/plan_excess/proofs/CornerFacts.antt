-- A corner's plan is a plan for the design, and rows fit it.
use Rattle.std.proofs.Common.{◌≡◌, ℕ, suc, ◌-◌, ◌^◌, ◌<◌, ◌≤◌, [], ◌∷◌, List, get_or, ℤ, pos, ◌≤ℤ◌, unsigned_abs, length, arith, ap, subst, sym, ◌∙◌}
use Rattle.std.proofs.lemmas.Int.{ints}
use Rattle.std.proofs.lemmas.Nat.{pow_pos}
use Rattle.integer_algebra.specs.Sums.{at}
use Rattle.mat_int.specs.Matrix.{row_of, entry_of}
use Rattle.qp_model.specs.problem.Design.{Design, entries}
use Rattle.qp_model.specs.problem.Policy.{Plans, IsPolicyFor, corner_denominator, corner_plan}
use Rattle.qp_model.specs.form.Form.{Form}
use Rattle.plan_excess.specs.declared.rows.Row.{Row}
use Rattle.plan_excess.specs.declared.corner.Corner.{Corner}
use Rattle.plan_excess.specs.Rows.{AreGradientRows}
use Rattle.plan_excess.specs.Slopes.{IsPlan, AreCornerPlans, IsFitting, IsCornerOf, corner_slope}
use Rattle.plan_excess.proofs.RowFacts.{slope_radius}

previous : (c : ℕ) → suc c - 1 ≡ c
previous c = omega arith

narrow : (z : ℤ) → unsigned_abs z ≤ 2 ^ 63 - 1 → unsigned_abs z ≤ 2 ^ 63
narrow z h = omega (arith, h)

module _ (d : Design) (p : Plans) (is : IsPolicyFor d p) (c : ℕ) (l : c < 2 ^ d.states) where
  pub plan_made : (row : List ℤ) (over : ℤ) → row ≡ row_of p.numerators c → length row ≡ p.numerators.cols → over ≡ at p.denominators c → IsPlan (entries d) row over
  plan_made row over e long f = record {
    long = long ∙ is.cols;
    small = λ j o. rw e (narrow (at (row_of p.numerators c) j) (is.numerators c [] (rw is.rows l) j (pos 0) (rw (← e, long, is.cols) o)));
    positive = rw f (is.denominators c (pos 0) (rw is.count l)).low;
  }

  pub plan_at : (row : List ℤ) → row ≡ row_of p.numerators c → (j : ℕ) → at row j ≡ corner_plan p (suc c) j
  plan_at row e j = ap (λ (xs : List ℤ). at xs j) e ∙ ap (λ (n : ℕ). entry_of p.numerators n j) (sym (previous c))

  pub over_at : (over : ℤ) → over ≡ at p.denominators c → over ≡ corner_denominator p (suc c)
  over_at over e = e ∙ ap (λ (n : ℕ). at p.denominators n) (sym (previous c))

-- ---- a corner that was made
module _ (d : Design) (p r : Plans) (c : ℕ) (k : Corner) (is : IsCornerOf d p r c k) where
  pub plans_held : AreCornerPlans k
  plans_held = record {
    plan = subst (λ (n : ℕ). IsPlan n k.plan.now k.over) (sym is.plan.long) is.plan;
    reference = subst (λ (n : ℕ). IsPlan n k.reference.now k.under) (sym is.plan.long) is.reference;
    grid = rw is.grid (power (2 ^ d.grid) (pow_pos d.grid));
  }
    where
      power : (n : ℕ) → 0 < n → pos 1 ≤ℤ pos n
      power n h = omega (arith, ints, h)

  pub rows_fit : (h : Form) (rows : List Row) → AreGradientRows d h (entries d) rows → (j : ℕ) (row : Row) → j < length rows → IsFitting k (get_or rows j row)
  rows_fit h rows are j row l = let row_is = are.is j row (rw (← are.long) l) in record {
    plan = is.plan.long ∙ sym row_is.plan.long;
    state = is.state.long ∙ sym row_is.state.long;
  }

-- ---- radii
-- the first of rows of which there are some
first : (rows : List Row) (j : ℕ) → j < length rows → Row
first [] j l = absurd (omega (arith, l))
first (row ∷ rows) j l = row

pub radii : (d : Design) (h : Form) (rows : List Row) (k : Corner) → AreGradientRows d h (entries d) rows → AreCornerPlans k → (j : ℕ) → j < entries d → pos 0 ≤ℤ (corner_slope d h k j).rad
radii d h rows k are plans j l =
    let row = first rows j (rw are.long l) in
    slope_radius d h j (get_or rows j row) (are.is j row l) (at k.state.items) (unsigned_abs k.over) (at k.plan.now) (unsigned_abs k.under) (at k.reference.now)
    (some k.over plans.plan.positive) (some k.under plans.reference.positive)
  where
    some : (z : ℤ) → pos 1 ≤ℤ z → 1 ≤ unsigned_abs z
    some z h = omega (arith, ints, h)
