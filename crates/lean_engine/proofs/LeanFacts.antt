-- What the numbers of a lean controller are within.
use Rattle.std.proofs.Common.{◌≡◌, ℕ, ◌*◌, ◌/◌, ◌^◌, ◌≤◌, min, max, ℤ, pos, ◌≤ℤ◌, unsigned_abs, Some, arith}
use Rattle.std.proofs.lemmas.Int.{ints}
use Rattle.std.proofs.lemmas.Nat.{mul-le}
use Rattle.std.proofs.Math.Nat.{div-le_self}
use Rattle.qp_model.specs.problem.Parts.{IsDesign}
use Rattle.qp_model.specs.problem.Range.{IsPositive}
use Rattle.qp_model.specs.bounds.Choices.{lean_multiplier_size}
use Rattle.qp_model.specs.declared.design_parts.DesignParts.{DesignParts}
use Rattle.design_engine.specs.Targets.{Targets, targets_of, gap_target, violation_target, step_target, rest_target, floor_target}
use Rattle.design_engine.specs.Aims.{IsAim}
use Rattle.design_engine.proofs.TargetLaws.{quotient_some, some_of, size_of}
use Rattle.design_engine.proofs.GenerationFacts.{gap_some, gap_small}
use Rattle.design_engine.specs.Terms.{AreTerms}
use Rattle.design_engine.specs.declared.bounds.Terms.{Terms}
use Rattle.qp_model.proofs.AbsoluteLaws.{div-le}
use Rattle.lean_engine.specs.Lean.{bound_of, lean_aim, lean_terms}

positive_small : (z : ℤ) → IsPositive z → unsigned_abs z ≤ 2 ^ 31
positive_small z h = omega (arith, ints, h.low, h.high)

share_small : (k v d : ℕ) → v ≤ 2 ^ 31 → k * v / d ≤ k * 2 ^ 31
share_small k v d l = omega (arith, div-le_self (k * v) d, mul-le k v k (2 ^ 31) (omega arith) l)

pub violation_small : (p : DesignParts) → IsDesign p → violation_target (targets_of p) ≤ 2 ^ 71
violation_small p h = share_small (2 ^ 40) (unsigned_abs p.violation) (unsigned_abs p.target_den) (positive_small p.violation h.violation)

pub rest_small : (p : DesignParts) → IsDesign p → rest_target (targets_of p) ≤ 2 ^ 70
rest_small p h = wider _ (share_small (2 ^ 36) (unsigned_abs p.violation) (unsigned_abs p.target_den) (positive_small p.violation h.violation))
  where
    wider : (n : ℕ) → n ≤ 2 ^ 36 * 2 ^ 31 → n ≤ 2 ^ 70
    wider n l = omega (arith, l)

denominator_small : (p : DesignParts) → IsDesign p → unsigned_abs p.target_den ≤ 2 ^ 20
denominator_small p h = size_of p.target_den (2 ^ 20) h.target_den.low h.target_den.high

pub steps_some : (p : DesignParts) → IsDesign p → 1 ≤ step_target (targets_of p)
steps_some p h = quotient_some (15 * 2 ^ 36 * unsigned_abs p.violation) (unsigned_abs p.target_den) (some_of p.target_den h.target_den.low)
    (omega (arith, denominator_small p h, some_of p.violation h.violation.low))

pub rest_some : (p : DesignParts) → IsDesign p → 1 ≤ rest_target (targets_of p)
rest_some p h = quotient_some (2 ^ 36 * unsigned_abs p.violation) (unsigned_abs p.target_den) (some_of p.target_den h.target_den.low)
    (omega (arith, denominator_small p h, some_of p.violation h.violation.low))

-- ---- R
pub bound_some : (t : Targets) (units excess : ℕ) → 1 ≤ bound_of t units excess
bound_some t units excess = omega arith

pub bound_narrow : (t : Targets) (units excess : ℕ) → lean_multiplier_size units excess (floor_target t) ≤ 2 ^ 126 → bound_of t units excess ≤ 2 ^ 44
bound_narrow t units excess h = close excess (bound_of t units excess) h
  where
    close : (x r : ℕ) → max x (2 ^ 82 * r) ≤ 2 ^ 126 → r ≤ 2 ^ 44
    close x r h = omega (arith, h)

-- as a number of 128 bits
pub bound_range : (t : Targets) (units excess : ℕ) (r : ℤ) → r ≡ pos (bound_of t units excess) → lean_multiplier_size units excess (floor_target t) ≤ 2 ^ 126 →
    (pos 1 ≤ℤ r) × (r ≤ℤ pos (2 ^ 44))
bound_range t units excess r e room = within (bound_of t units excess) e (bound_some t units excess) (bound_narrow t units excess room)
  where
    within : (n : ℕ) → r ≡ pos n → 1 ≤ n → n ≤ 2 ^ 44 → (pos 1 ≤ℤ r) × (r ≤ℤ pos (2 ^ 44))
    within n e l m = rw e (omega (arith, ints, l), omega (arith, ints, m))

-- ---- terms
-- by their numbers
pub terms_same : (t : Targets) (units excess : ℕ) (r steps errors u x v : ℤ) → r ≡ pos (bound_of t units excess) → steps ≡ pos (step_target t) →
    errors ≡ pos (min (gap_target t) (bound_of t units excess * rest_target t)) → u ≡ pos units → x ≡ pos excess → v ≡ pos (violation_target t) →
    ◌≡◌ {A = Terms} (record { aim = record { r = r; step_target = steps; error_target = errors }; units = u; cost = x; target = Some v }) (lean_terms t units excess)
terms_same t units excess r steps errors u x v e f g h j k =
    λ i. record { aim = record { r = e i; step_target = f i; error_target = g i }; units = h i; cost = j i; target = Some (k i) }

pub limit_small : (p : DesignParts) (units excess : ℕ) → IsDesign p →
    min (gap_target (targets_of p)) (bound_of (targets_of p) units excess * rest_target (targets_of p)) ≤ 2 ^ 71
limit_small p units excess h = lesser (gap_target (targets_of p)) (bound_of (targets_of p) units excess * rest_target (targets_of p)) (gap_small p h)
  where
    lesser : (g n : ℕ) → g ≤ 2 ^ 71 → min g n ≤ 2 ^ 71
    lesser g n l = omega (arith, l)

pub aim_ranges : (p : DesignParts) (units excess : ℕ) → IsDesign p → bound_of (targets_of p) units excess ≤ 2 ^ 44 → IsAim (lean_aim (targets_of p) units excess)
aim_ranges p units excess h narrow = record {
  some = least _ (bound_some (targets_of p) units excess);
  narrow = most _ (2 ^ 44) narrow;
  steps = least _ (steps_some p h);
  errors = least _ (limit (gap_target (targets_of p)) (bound_of (targets_of p) units excess) (rest_target (targets_of p))
      (gap_some p h) (bound_some (targets_of p) units excess) (rest_some p h));
  small = most _ (2 ^ 71) (limit_small p units excess h);
}
  where
    least : (n : ℕ) → 1 ≤ n → pos 1 ≤ℤ pos n
    least n l = omega (arith, ints, l)

    most : (n k : ℕ) → n ≤ k → pos n ≤ℤ pos k
    most n k l = omega (arith, ints, l)

    limit : (g r k : ℕ) → 1 ≤ g → 1 ≤ r → 1 ≤ k → 1 ≤ min g (r * k)
    limit g r k a b c = omega (arith, a, mul-le 1 1 r k b c)

pub lean_ranges : (p : DesignParts) (units excess : ℕ) → IsDesign p → lean_multiplier_size units excess (floor_target (targets_of p)) ≤ 2 ^ 126 →
    AreTerms (lean_terms (targets_of p) units excess)
lean_ranges p units excess h room = record {
  aim = aim_ranges p units excess h (bound_narrow (targets_of p) units excess room);
  share = under (gap_target (targets_of p)) (bound_of (targets_of p) units excess) (rest_target (targets_of p)) (step_target (targets_of p)) less;
  steps = wider (step_target (targets_of p)) (share_small (15 * 2 ^ 36) (unsigned_abs p.violation) (unsigned_abs p.target_den) small);
  target = omega (arith, ints);
  short = violation_small p h;
}
  where
    small : unsigned_abs p.violation ≤ 2 ^ 31
    small = positive_small p.violation h.violation

    less : rest_target (targets_of p) ≤ step_target (targets_of p)
    less = div-le (2 ^ 36 * unsigned_abs p.violation) (15 * 2 ^ 36 * unsigned_abs p.violation) (unsigned_abs p.target_den) (some_of p.target_den h.target_den.low) (omega arith)

    wider : (n : ℕ) → n ≤ 15 * 2 ^ 36 * 2 ^ 31 → n ≤ 2 ^ 71
    wider n l = omega (arith, l)

    under : (g r k n : ℕ) → k ≤ n → min g (r * k) ≤ r * n
    under g r k n l = omega (arith, mul-le r k r n (omega arith) l)
