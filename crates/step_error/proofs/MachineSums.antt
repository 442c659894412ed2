-- The multipliers of the machine, step by step, and the sums of its plans.
use Rattle.std.proofs.Common.{◌≡◌, inl, inr, ℕ, zero, suc, ◌^◌, ◌<◌, ◌≤◌, ℤ, pos, ◌+ℤ◌, ◌*ℤ◌, List, length, replicate, arith, ap, ◌∙◌, refl}
use Rattle.std.proofs.lemmas.Bool.{cases_lt}
use Rattle.std.proofs.Math.IntN.{*ℤ-zero, *ℤ_comm}
use Rattle.std.proofs.lemmas.List.{get_or_past}
use Rattle.std.proofs.lemmas.List.FromFn.{length-map-range_with_len, get_or-map-range_with_len}
use Rattle.integer_algebra.specs.Sums.{total, at}
use Rattle.qp_model.specs.machine.Controller.{Numbers}
use Rattle.qp_model.specs.machine.Machine.{lowering_of, raised, plan_entry, plan_of, next_multiplier, after}
use Rattle.qp_model.proofs.MagnitudeLaws.{zeros_at}

-- ---- the multipliers
-- a multiplier over 2^(fraction_bits + step_exponent)
pub raised_is : (c : Numbers) (multipliers : List ℤ) (i : ℕ) → i < length c.bounds → at (raised c multipliers) i ≡ pos (2 ^ lowering_of c i) *ℤ at multipliers i
raised_is c multipliers i inside =
    get_or-map-range_with_len (λ i. at multipliers i *ℤ pos (2 ^ lowering_of c i)) 0 (length c.bounds) i i (pos 0) inside (omega arith)
    ∙ *ℤ_comm (at multipliers i) (pos (2 ^ lowering_of c i))

pub first_multiplier : (c : Numbers) (x : List ℤ) (i : ℕ) → i < length c.bounds → at (raised c (after c x 0).multipliers) i ≡ pos 0
unfolding after
first_multiplier c x i inside =
    raised_is c (replicate (length c.bounds) (pos 0)) i inside
    ∙ ap (λ (z : ℤ). pos (2 ^ lowering_of c i) *ℤ z) (zeros_at (length c.bounds) i) ∙ *ℤ-zero (pos (2 ^ lowering_of c i))

pub multiplier_after : (c : Numbers) (x : List ℤ) (k i : ℕ) → i < length c.bounds →
    at (after c x (suc k)).multipliers i ≡ next_multiplier c x (plan_of c x (raised c (after c x k).multipliers)) (at (after c x k).multipliers i) i
unfolding after
multiplier_after c x k i inside =
    get_or-map-range_with_len (λ i. next_multiplier c x (plan_of c x (raised c (after c x k).multipliers)) (at (after c x k).multipliers i) i)
    0 (length c.bounds) i i (pos 0) inside (omega arith)

-- ---- the sums
plan_long : (c : Numbers) (x l : List ℤ) → length (plan_of c x l) ≡ length c.offsets
plan_long c x l = length-map-range_with_len (plan_entry c x l) 0 (length c.offsets)

-- past the plan's end they are 0
sum_past : (c : Numbers) (x : List ℤ) (k j : ℕ) → length c.offsets ≤ j → at (after c x k).sums j ≡ pos 0
unfolding after
sum_past c x zero j past = zeros_at (length c.offsets) j
sum_past c x (suc k) j past = get_or_past (after c x (suc k)).sums j (pos 0) (omega (
  arith,
  length-map-range_with_len (λ j. at (after c x k).sums j +ℤ at (plan_of c x (raised c (after c x k).multipliers)) j) 0 (length (plan_of c x (raised c (after c x k).multipliers))),
  plan_long c x (raised c (after c x k).multipliers),
))

sum_after : (c : Numbers) (x : List ℤ) (k j : ℕ) → at (after c x (suc k)).sums j ≡ at (after c x k).sums j +ℤ at (plan_of c x (raised c (after c x k).multipliers)) j
unfolding after
sum_after c x k j = elim (cases_lt j (length c.offsets)) [
  | inl l ↦ get_or-map-range_with_len (λ j. at (after c x k).sums j +ℤ at (plan_of c x (raised c (after c x k).multipliers)) j) 0
      (length (plan_of c x (raised c (after c x k).multipliers))) j j (pos 0) (omega (arith, plan_long c x (raised c (after c x k).multipliers))) (omega arith)
  | inr l ↦ (let past = get_or_past (plan_of c x (raised c (after c x k).multipliers)) j (pos 0) (omega (arith, plan_long c x (raised c (after c x k).multipliers))) in
      rw (sum_past c x (suc k) j l, sum_past c x k j l, past) refl)
]

-- the sums after n steps are those of the plans of the n steps
pub sum_is : (c : Numbers) (x : List ℤ) (n j : ℕ) → at (after c x n).sums j ≡ total n (λ k. at (plan_of c x (raised c (after c x k).multipliers)) j)
unfolding after
sum_is c x zero j = zeros_at (length c.offsets) j
sum_is c x (suc n) j = sum_after c x n j ∙ ap (λ (z : ℤ). z +ℤ at (plan_of c x (raised c (after c x n).multipliers)) j) (sum_is c x n j)
