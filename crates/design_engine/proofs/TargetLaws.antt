-- The bounds are within the design's targets.
use Rattle.std.proofs.Common.{◌≡◌, ℕ, zero, suc, ◌+◌, ◌*◌, ◌/◌, ◌^◌, ◌<◌, ◌≤◌, min, ℤ, pos, ◌*ℤ◌, ◌≤ℤ◌, unsigned_abs, arith, refl, subst}
use Rattle.std.proofs.lemmas.Int.{ints}
use Rattle.std.proofs.lemmas.Nat.{pow_pos, mul-le}
use Rattle.std.proofs.Math.Nat.{mul-le-mul_left, mul-le-mul_right, div-mul-le_self, le-div_iff_mul-le}
use Rattle.integer_algebra.specs.Sums.{at}
use Rattle.integer_algebra.specs.Division.{ceil_div}
use Rattle.integer_algebra.proofs.DivisionLaws.{le-mul-ceil_div, ceil_div-le}
use Rattle.qp_model.specs.bounds.Choices.{step_count, violation_bound, row_violation_bound, multiplier_of}
use Rattle.qp_model.specs.problem.Parts.{IsDesign}
use Rattle.qp_model.specs.machine.Controller.{Numbers}
use Rattle.qp_model.specs.machine.Machine.{exponent_of}
use Rattle.qp_model.specs.bounds.Printed.{Printed}
use Rattle.qp_model.specs.declared.design_parts.DesignParts.{DesignParts}
use Rattle.dual_bounds.proofs.RowBounds.{row_below}
use Rattle.design_engine.specs.Targets.{targets_of, half_target, error_limit, violation_target, step_target, rest_target, gap_target, IsWithinTargets}
use Rattle.design_engine.specs.Bounds.{margin_of, AreBoundsWith}
use Rattle.design_engine.specs.Promise.{TargetsLaw}
use Rattle.design_engine.specs.Threshold.{ThresholdTargetsLaw}

-- a divisor that is not too large leaves a quotient of at least 1
pub quotient_some : (a d : ℕ) → 1 ≤ d → d ≤ a → 1 ≤ a / d
quotient_some a d h k = more (a / d) (omega arith) k
  where
    more : (q : ℕ) → a < d * (q + 1) → d ≤ a → 1 ≤ q
    more zero l m = absurd (omega (arith, l))
    more (suc q) l m = omega arith

-- what a divisor's multiple is at most, the quotient is
at_most : (n a d : ℕ) → 1 ≤ d → n * d ≤ a → n ≤ a / d
at_most n a d h k = (le-div_iff_mul-le {k = d} {x = n} {y = a} h).1 k

-- after at least the chosen steps the first part of the violation is at most the half target
steps_enough : (a h k : ℕ) → 1 ≤ a → 1 ≤ h → ceil_div a h ≤ k → ceil_div a k ≤ h
steps_enough a h k o l m =
    let e = through _ _ _ (le-mul-ceil_div a h l) (mul-le-mul_left h m) in
    ceil_div-le a k h (positive a h k o e) (omega (arith, e))
  where
    through : (a b c : ℕ) → a ≤ b → b ≤ c → a ≤ c
    through a b c h k = omega (arith, h, k)

    positive : (a h k : ℕ) → 1 ≤ a → a ≤ h * k → 0 < k
    positive a h zero o e = absurd (omega (arith, e))
    positive a h (suc k) o e = omega arith

-- there is one
pub steps_some : (s r k : ℕ) → 1 ≤ r → 1 ≤ k → 1 ≤ step_count s r k
steps_some s r k o h = close (2 ^ (s + 41) * r) k (ceil_div (2 ^ (s + 41) * r) k) (one-le (2 ^ (s + 41)) r (pow_pos (s + 41)) o) (le-mul-ceil_div (2 ^ (s + 41) * r) k h)
  where
    one-le : (a b : ℕ) → 1 ≤ a → 1 ≤ b → 1 ≤ a * b
    one-le a b h k = omega (arith, mul-le 1 1 a b h k)

    close : (a k q : ℕ) → 1 ≤ a → a ≤ k * q → 1 ≤ q
    close a k zero h l = absurd (omega (arith, h, l))
    close a k (suc q) h l = omega arith

-- both parts
pub halves : (s r h k e : ℕ) → 1 ≤ r → 1 ≤ h → step_count s r h ≤ k → e ≤ r * h → violation_bound s r k e ≤ 2 * h
halves s r h k e o l n g =
    let some : 0 < 2 ^ (s + 41) = pow_pos (s + 41) in
    let whole : 1 ≤ 2 ^ (s + 41) * r = omega (arith, mul-le-mul_left (2 ^ (s + 41)) o, some) in
    omega (arith, steps_enough (2 ^ (s + 41) * r) h k whole l n, ceil_div-le e r h (omega arith) g)

-- a bound over 2^40 that is at most a target's, as the law says it
as_targets : (bound : ℤ) (n den target : ℕ) → bound ≡ pos n → n * den ≤ 2 ^ 40 * target → (bound *ℤ pos den) ≤ℤ (pos (2 ^ 40) *ℤ pos target)
as_targets bound n den target e l = rw e (omega (arith, ints, l))

-- half a target, twice, times its denominator
twice_half : (n h v d : ℕ) → n ≤ 2 * h → h ≡ 2 ^ 39 * v / d → n * d ≤ 2 ^ 40 * v
twice_half n h v d l e =
    let f : h * d ≤ 2 ^ 39 * v = rw e (div-mul-le_self (2 ^ 39 * v) d) in
    omega (arith, mul-le-mul_right d l, f)

-- a whole target, times its denominator
whole_target : (n v d : ℕ) → n ≤ 2 ^ 40 * v / d → n * d ≤ 2 ^ 40 * v
whole_target n v d l = omega (arith, mul-le-mul_right d l, div-mul-le_self (2 ^ 40 * v) d)

-- a positive number, by its size
pub some_of : (z : ℤ) → pos 1 ≤ℤ z → 1 ≤ unsigned_abs z
some_of z h = omega (arith, ints)

pub size_of : (z : ℤ) (n : ℕ) → pos 1 ≤ℤ z → z ≤ℤ pos n → unsigned_abs z ≤ n
size_of z n h k = omega (arith, ints)

-- bounds of two halves, after at least the chosen steps with exponents up to s, where those of the rows are told by `own`
pub halves_within : (p : DesignParts) → IsDesign p → (c : Numbers) (b : Printed) (r cost s k repaired : ℕ) (own : ℕ → ℕ) → 1 ≤ r →
    step_count s r (half_target (targets_of p)) ≤ k → cost ≤ error_limit (targets_of p) r → ((i : ℕ) → i < c.rows → own (exponent_of c i) ≤ s) →
    AreBoundsWith c b r cost (violation_bound s r k cost) (λ e. row_violation_bound (own e) s r k cost) repaired → IsWithinTargets (targets_of p) b
halves_within p design c b r cost s k repaired own bound steps errors exponents bounds = record {
  violation = as_targets b.violation _ (unsigned_abs p.target_den) (unsigned_abs p.violation) bounds.violation
      (twice_half _ (half_target (targets_of p)) (unsigned_abs p.violation) (unsigned_abs p.target_den) parts refl);
  rows = λ i l. (let inside = subst (λ (n : ℕ). i < n) bounds.row_count l in
      as_targets (at b.row_violations i) _ (unsigned_abs p.target_den) (unsigned_abs p.violation) (bounds.row_violations i inside)
      (twice_half _ (half_target (targets_of p)) (unsigned_abs p.violation) (unsigned_abs p.target_den)
      (through _ _ _ (row_below (own (exponent_of c i)) s r k cost (exponents i inside) some) parts) refl));
  gap = as_targets b.gap _ (unsigned_abs p.target_den) (unsigned_abs p.gap) bounds.gap
      (whole_target _ (unsigned_abs p.gap) (unsigned_abs p.target_den) (omega (arith, errors)));
}
  where
    through : (a b c : ℕ) → a ≤ b → b ≤ c → a ≤ c
    through a b c h k = omega (arith, h, k)

    half_some : 1 ≤ half_target (targets_of p)
    half_some = quotient_some (2 ^ 39 * unsigned_abs p.violation) (unsigned_abs p.target_den) (some_of p.target_den design.target_den.low)
        (omega (arith, size_of p.target_den (2 ^ 20) design.target_den.low design.target_den.high, some_of p.violation design.violation.low))

    some : 1 ≤ k
    some = through _ _ _ (steps_some s r (half_target (targets_of p)) bound half_some) steps

    parts : violation_bound s r k cost ≤ 2 * half_target (targets_of p)
    parts = halves s r (half_target (targets_of p)) k cost bound half_some steps (omega (arith, errors))

pub targets_law : TargetsLaw
targets_law p cost c b h = halves_within p h.design c b (multiplier_of (margin_of b)) cost c.step_exponent c.steps (unsigned_abs b.violation) (λ e. e) (omega arith)
    (no_more h.steps) h.errors h.exponents h.bounds
  where
    no_more : {a n : ℕ} → a ≡ n → n ≤ a
    no_more {a} {n} e = omega (arith, e)

-- ---- with a threshold
-- the shares of a target are at most the target
pub shares_fit : (v d : ℕ) → 1 ≤ d → 15 * 2 ^ 36 * v / d + 2 ^ 36 * v / d ≤ 2 ^ 40 * v / d
shares_fit v d h =
    let a : 15 * 2 ^ 36 * v / d * d ≤ 15 * 2 ^ 36 * v = div-mul-le_self (15 * 2 ^ 36 * v) d in
    let b : 2 ^ 36 * v / d * d ≤ 2 ^ 36 * v = div-mul-le_self (2 ^ 36 * v) d in
    at_most (15 * 2 ^ 36 * v / d + 2 ^ 36 * v / d) (2 ^ 40 * v) d h (omega (arith, a, b))

-- and so is that over 2^16, brought over 2^40
pub floor_fits : (v d : ℕ) → 1 ≤ d → 2 ^ 24 * (2 ^ 16 * v / d) ≤ 2 ^ 40 * v / d
floor_fits v d h =
    let a : 2 ^ 16 * v / d * d ≤ 2 ^ 16 * v = div-mul-le_self (2 ^ 16 * v) d in
    at_most (2 ^ 24 * (2 ^ 16 * v / d)) (2 ^ 40 * v) d h (omega (arith, a))

-- steps and errors of a share each leave no more than the whole
pub shares_enough : (s r e k t m n : ℕ) → 2 ^ (s + 41) * r ≤ m * k → e ≤ r * n → m + n ≤ t → 2 ^ (s + 41) * r * r + k * e ≤ k * r * t
shares_enough s r e k t m n p h g = omega (arith, mul-le-mul_right r p, mul-le-mul_left k h, mul-le-mul_left (k * r) g)

-- bounds of at most the target, which the violation's is printed by, whatever else they are
pub above_targets : (p : DesignParts) → IsDesign p → (c : Numbers) (b : Printed) (r cost most : ℕ) (row : ℕ → ℕ) →
    AreBoundsWith c b r cost (min (violation_target (targets_of p)) most) (λ e. min (violation_target (targets_of p)) (row e)) (violation_target (targets_of p)) →
    cost ≤ gap_target (targets_of p) → IsWithinTargets (targets_of p) b
above_targets p design c b r cost most row bounds cheap = record {
  violation = as_targets b.violation _ (unsigned_abs p.target_den) (unsigned_abs p.violation) bounds.violation
      (whole_target _ (unsigned_abs p.violation) (unsigned_abs p.target_den) (omega arith));
  rows = λ i l. as_targets (at b.row_violations i) _ (unsigned_abs p.target_den) (unsigned_abs p.violation)
      (bounds.row_violations i (subst (λ (n : ℕ). i < n) bounds.row_count l)) (whole_target _ (unsigned_abs p.violation) (unsigned_abs p.target_den) (omega arith));
  gap = as_targets b.gap _ (unsigned_abs p.target_den) (unsigned_abs p.gap) bounds.gap (whole_target _ (unsigned_abs p.gap) (unsigned_abs p.target_den) cheap);
}

-- the steps' share
pub step_some : (p : DesignParts) → IsDesign p → 1 ≤ step_target (targets_of p)
step_some p design = quotient_some (15 * 2 ^ 36 * unsigned_abs p.violation) (unsigned_abs p.target_den) (some_of p.target_den design.target_den.low)
    (omega (arith, size_of p.target_den (2 ^ 20) design.target_den.low design.target_den.high, some_of p.violation design.violation.low))

pub threshold_targets_law : ThresholdTargetsLaw
threshold_targets_law p cost c b r h = record {
  enough = shares_enough c.step_exponent r cost c.steps (violation_target (targets_of p)) (step_target (targets_of p)) (rest_target (targets_of p))
      (rw h.steps (le-mul-ceil_div (2 ^ (c.step_exponent + 41) * r) (step_target (targets_of p)) (step_some p h.design))) (omega (arith, h.errors))
      (shares_fit (unsigned_abs p.violation) (unsigned_abs p.target_den) (some_of p.target_den h.design.target_den.low));
  within = above_targets p h.design c b r cost _ (λ e. ceil_div (violation_target (targets_of p)) 2 + ceil_div (2 ^ (e + 40) * r) c.steps + ceil_div cost (2 * r))
      h.bounds (omega (arith, h.errors));
}
