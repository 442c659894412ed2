-- What the tests' numbers are within.
use Rattle.std.proofs.Common.{◌≡◌, ℕ, ◌*◌, ◌/◌, ◌^◌, ◌≤◌, min, max, ℤ, pos, negsuc, ◌*ℤ◌, ◌≤ℤ◌, unsigned_abs, arith, ap, ◌∙◌, Option, Some, None, to_z, of_z}
use Rattle.std.proofs.lemmas.Int.{ints, to_z-of_z}
use Rattle.std.proofs.lemmas.Nat.{mul-le}
use Rattle.std.proofs.Math.Nat.{div-le_self}
use Rattle.std.specs.Int.{w128, int_min}
use mir.Val.{SFits}
use Rattle.qp_model.specs.form.Class.{form_of}
use Rattle.qp_model.specs.problem.Parts.{IsDesign, design_of}
use Rattle.qp_model.specs.problem.Range.{IsDenominator, IsPositive}
use Rattle.qp_model.specs.bounds.Choices.{multiplier_size, multiplier_size_of, row_violation_bound, multiplier_of, step_count}
use Rattle.qp_model.specs.bounds.RealErrors.{real_cost}
use Rattle.qp_model.specs.machine.Controller.{Numbers}
use Rattle.qp_model.specs.declared.design_parts.DesignParts.{DesignParts}
use Rattle.qp_model.specs.declared.bounds.Margin.{Margin}
use Rattle.design_engine.specs.Targets.{Targets, targets_of, half_target, gap_target, error_limit}
use Rattle.design_engine.specs.Aims.{aim_of, IsAim, IsMadeWith}
use Rattle.design_engine.specs.Terms.{row_bound, repaired, AreTerms, HasUndercutRoom, plain_terms}
use Rattle.design_engine.specs.declared.aimed.Aim.{Aim}
use Rattle.design_engine.specs.declared.bounds.Terms.{Terms}
use Rattle.dual_bounds.proofs.RowBounds.{greatest_row}
use Rattle.design_engine.proofs.BuiltFacts.{cost_limited}
use Rattle.design_engine.proofs.TargetLaws.{quotient_some, some_of, size_of, halves}

-- ---- the targets
pub half_small : (p : DesignParts) → IsDesign p → half_target (targets_of p) ≤ 2 ^ 70
half_small p h = close (unsigned_abs p.violation) (unsigned_abs p.target_den) (positive_small p.violation h.violation)
  where
    close : (v d : ℕ) → v ≤ 2 ^ 31 → 2 ^ 39 * v / d ≤ 2 ^ 70
    close v d l = omega (arith, div-le_self (2 ^ 39 * v) d, l)

    positive_small : (z : ℤ) → IsPositive z → unsigned_abs z ≤ 2 ^ 31
    positive_small z h = omega (arith, ints, h.low, h.high)

pub gap_small : (p : DesignParts) → IsDesign p → gap_target (targets_of p) ≤ 2 ^ 71
gap_small p h = close (unsigned_abs p.gap) (unsigned_abs p.target_den) (positive_small p.gap h.gap)
  where
    close : (v d : ℕ) → v ≤ 2 ^ 31 → 2 ^ 40 * v / d ≤ 2 ^ 71
    close v d l = omega (arith, div-le_self (2 ^ 40 * v) d, l)

    positive_small : (z : ℤ) → IsPositive z → unsigned_abs z ≤ 2 ^ 31
    positive_small z h = omega (arith, ints, h.low, h.high)

denominator_small : (z : ℤ) → IsDenominator z → unsigned_abs z ≤ 2 ^ 20
denominator_small z h = size_of z (2 ^ 20) h.low h.high

pub half_some : (p : DesignParts) → IsDesign p → 1 ≤ half_target (targets_of p)
half_some p h = quotient_some (2 ^ 39 * unsigned_abs p.violation) (unsigned_abs p.target_den) (some_of p.target_den h.target_den.low)
    (omega (arith, denominator_small p.target_den h.target_den, some_of p.violation h.violation.low))

pub gap_some : (p : DesignParts) → IsDesign p → 1 ≤ gap_target (targets_of p)
gap_some p h = quotient_some (2 ^ 40 * unsigned_abs p.gap) (unsigned_abs p.target_den) (some_of p.target_den h.target_den.low)
    (omega (arith, denominator_small p.target_den h.target_den, some_of p.gap h.gap.low))

pub limit_some : (p : DesignParts) (r : ℕ) → IsDesign p → 1 ≤ r → 1 ≤ error_limit (targets_of p) r
limit_some p r h o = close _ _ _ (gap_some p h) (half_some p h) o
  where
    close : (g k r : ℕ) → 1 ≤ g → 1 ≤ k → 1 ≤ r → 1 ≤ min g (r * k)
    close g k r a b c = omega (arith, a, mul-le 1 1 r k c b)

pub limit_small : (p : DesignParts) (r : ℕ) → IsDesign p → error_limit (targets_of p) r ≤ 2 ^ 71
limit_small p r h = omega (arith, gap_small p h)

-- ---- R
pub bound_some : (m : Margin) → 1 ≤ multiplier_of m
bound_some m = omega arith

pub bound_narrow : (m : Margin) → multiplier_size (unsigned_abs m.units) (unsigned_abs m.cost) ≤ 2 ^ 126 → multiplier_of m ≤ 2 ^ 44
bound_narrow m h = close _ (multiplier_of m) h
  where
    close : (x r : ℕ) → max x (2 ^ 82 * r) ≤ 2 ^ 126 → r ≤ 2 ^ 44
    close x r h = omega (arith, h)

-- ---- numbers of 128 bits that the code reads
pub whole_is : (z : ℤ) (n : ℕ) → SFits w128 z → z ≡ pos n → unsigned_abs (to_z w128 (of_z w128 z)) ≡ n
whole_is z n f e = ap unsigned_abs (to_z-of_z w128 z f ∙ e)

pub whole_some : (z : ℤ) (n : ℕ) → SFits w128 z → z ≡ pos n → 1 ≤ n → pos 1 ≤ℤ to_z w128 (of_z w128 z)
whole_some z n f e h = rw (to_z-of_z w128 z f, e) (omega (arith, ints, h))

pub whole_narrow : (z : ℤ) (n : ℕ) → SFits w128 z → z ≡ pos n → n ≤ 2 ^ 44 → to_z w128 (of_z w128 z) ≤ℤ pos (2 ^ 44)
whole_narrow z n f e h = rw (to_z-of_z w128 z f, e) (omega (arith, ints, h))

pub whole_least : (z : ℤ) (n : ℕ) → SFits w128 z → z ≡ pos n → pos 0 ≤ℤ to_z w128 (of_z w128 z)
whole_least z n f e = rw (to_z-of_z w128 z f, e) (omega (arith, ints))

-- the size of a number, and that it is not 0
pub size_kept : (z : ℤ) → SFits w128 z → unsigned_abs (to_z w128 (of_z w128 z)) ≡ unsigned_abs z
size_kept z f = ap unsigned_abs (to_z-of_z w128 z f)

pub kept_least : (z : ℤ) → pos 1 ≤ℤ z → 1 ≤ unsigned_abs z
kept_least z h = some_of z h

-- R times half the target
pub product_fits : (r z : ℤ) (h : ℕ) → SFits w128 r → SFits w128 z → pos 1 ≤ℤ r → r ≤ℤ pos (2 ^ 44) → z ≡ pos h → h ≤ 2 ^ 70 →
    SFits w128 (to_z w128 (of_z w128 r) *ℤ to_z w128 (of_z w128 z))
product_fits r z h f g some narrow e l = rw (to_z-of_z w128 r f, to_z-of_z w128 z g, e) (close r some narrow)
  where
    close : (r : ℤ) → pos 1 ≤ℤ r → r ≤ℤ pos (2 ^ 44) → SFits w128 (r *ℤ pos h)
    close (pos r) o n = close_nat r (omega (arith, ints, n))
      where
        close_nat : (r : ℕ) → r ≤ 2 ^ 44 → SFits w128 (pos r *ℤ pos h)
        close_nat r o = omega (arith, ints, mul-le r h (2 ^ 44) (2 ^ 70) o l)
    close (negsuc r) o n = absurd (omega (arith, ints, o))

-- the lesser of two
pub least_is : (a b : ℕ) → int_min (pos a) (pos b) ≡ pos (min a b)
least_is a b = grind (arith, ints)

pub product_is : (r z : ℤ) (h : ℕ) → SFits w128 r → SFits w128 z → pos 1 ≤ℤ r → r ≤ℤ pos (2 ^ 44) → z ≡ pos h → h ≤ 2 ^ 70 →
    to_z w128 (of_z w128 (to_z w128 (of_z w128 r) *ℤ to_z w128 (of_z w128 z))) ≡ pos (unsigned_abs r * h)
product_is r z h f g some narrow e l =
    to_z-of_z w128 _ (product_fits r z h f g some narrow e l) ∙ rw (to_z-of_z w128 r f, to_z-of_z w128 z g, e) (close r some)
  where
    close : (r : ℤ) → pos 1 ≤ℤ r → r *ℤ pos h ≡ pos (unsigned_abs r * h)
    close (pos r) o = omega (arith, ints)
    close (negsuc r) o = absurd (omega (arith, ints, o))

-- a cost that is within a limit
pub at_most : (z : ℤ) (n : ℕ) {k : ℕ} → z ≡ pos n → n ≤ k → k ≤ 2 ^ 71 → z ≤ℤ pos (2 ^ 114)
at_most z n {k} e h l = rw e (omega (arith, ints, h, l))

-- ---- terms
-- by their numbers
pub terms_same : (t : Targets) (m : Margin) (r steps errors u x : ℤ) → r ≡ pos (multiplier_of m) → steps ≡ pos (half_target t) → errors ≡ pos (error_limit t (multiplier_of m)) →
    u ≡ m.units → x ≡ m.cost → ◌≡◌ {A = Terms} (record { aim = record { r = r; step_target = steps; error_target = errors }; units = u; cost = x; target = None }) (plain_terms t m)
terms_same t m r steps errors u x e f g h k = λ i. record { aim = record { r = e i; step_target = f i; error_target = g i }; units = h i; cost = k i; target = None }

-- those of a margin lie in the ranges
pub aim_ranges : (p : DesignParts) (m : Margin) → IsDesign p → multiplier_size_of m ≤ 2 ^ 126 → IsAim (aim_of (targets_of p) m)
aim_ranges p m h room = record {
  some = least _ (bound_some m);
  narrow = most _ (2 ^ 44) (bound_narrow m room);
  steps = least _ (half_some p h);
  errors = least _ (limit_some p _ h (bound_some m));
  small = most _ (2 ^ 71) (limit_small p _ h);
}
  where
    least : (n : ℕ) → 1 ≤ n → pos 1 ≤ℤ pos n
    least n l = omega (arith, ints, l)

    most : (n k : ℕ) → n ≤ k → pos n ≤ℤ pos k
    most n k l = omega (arith, ints, l)

pub plain_ranges : (p : DesignParts) (m : Margin) → IsDesign p → multiplier_size_of m ≤ 2 ^ 126 → AreTerms (plain_terms (targets_of p) m)
plain_ranges p m h room = record {
  aim = aim_ranges p m h room;
  share = lesser (gap_target (targets_of p)) (multiplier_of m * half_target (targets_of p));
  steps = wider (half_target (targets_of p)) (half_small p h);
  target = tt;
  short = omega arith;
}
  where
    lesser : (g n : ℕ) → min g n ≤ n
    lesser g n = omega arith

    wider : (n : ℕ) → n ≤ 2 ^ 70 → n ≤ 2 ^ 71
    wider n l = omega (arith, l)

pub error_small : (a : Aim) → IsAim a → unsigned_abs a.error_target ≤ 2 ^ 71
error_small a h = size_of a.error_target (2 ^ 71) h.errors h.small

-- the undercut of what is made with terms, after at least as many steps as their aim asks for
pub undercut_fits : (x : Terms) (s k cost : ℕ) → AreTerms x → step_count s (unsigned_abs x.aim.r) (unsigned_abs x.aim.step_target) ≤ k → cost ≤ unsigned_abs x.aim.error_target →
    unsigned_abs x.aim.r * repaired x.target (row_bound x.target s s (unsigned_abs x.aim.r) k cost) ≤ 2 ^ 126
undercut_fits x s k cost t steps limited = room x.target s r k cost (size_of x.aim.r (2 ^ 44) t.aim.some t.aim.narrow) violation t.short
  where
    r : ℕ
    r = unsigned_abs x.aim.r

    violation : row_violation_bound s s r k cost ≤ 2 ^ 72
    violation = omega (
      arith,
      greatest_row s r k cost,
      t.steps,
      halves s r (unsigned_abs x.aim.step_target) k cost (some_of x.aim.r t.aim.some) (some_of x.aim.step_target t.aim.steps) steps (omega (arith, limited, t.share)),
    )

    room : (o : Option ℤ) (s r k e : ℕ) → r ≤ 2 ^ 44 → row_violation_bound s s r k e ≤ 2 ^ 72 → repaired o 0 ≤ 2 ^ 71 → r * repaired o (row_bound o s s r k e) ≤ 2 ^ 126
    room None s r k e h v t = omega (arith, mul-le r (row_violation_bound s s r k e) (2 ^ 44) (2 ^ 72) h v)
    room (Some target) s r k e h v t = omega (arith, mul-le r (unsigned_abs target) (2 ^ 44) (2 ^ 71) h t)

pub undercut_room : (p : DesignParts) (x : Terms) (c : Numbers) → AreTerms x → IsMadeWith p x.aim c →
    HasUndercutRoom x c (real_cost (design_of p) (form_of (design_of p)) (unsigned_abs x.aim.r) c)
undercut_room p x c t made = undercut_fits x c.step_exponent c.steps _ t (no_more made.steps) (cost_limited p x.aim c made)
  where
    no_more : {a n : ℕ} → a ≡ n → n ≤ a
    no_more {a} {n} e = omega (arith, e)
