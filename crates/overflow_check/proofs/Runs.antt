-- The machine's values stay within the absolute sums, after any number of steps.
use Rattle.std.proofs.Common.{◌≡◌, ℕ, zero, suc, ◌+◌, ◌*◌, ◌≤◌, ◌<◌, ℤ, pos, ◌+ℤ◌, ◌≤ℤ◌, List, length, get_or, unsigned_abs, arith, refl, add-one}
use Rattle.std.proofs.lemmas.List.{get_or-replicate, length-replicate}
use Rattle.std.proofs.lemmas.List.FromFn.{length-map-range_with_len, get_or-map-range_with_len}
use Rattle.integer_algebra.specs.Sums.{at}
use Rattle.mat_int.proofs.Dots.{abs-add_le}
use Rattle.qp_model.specs.machine.Controller.{Numbers}
use Rattle.qp_model.specs.machine.Machine.{raised, plan_entry, plan_of, next_multiplier, start_of, step_of, after}
use Rattle.qp_model.specs.machine.AbsoluteSums.{state_magnitudes, plan_magnitudes}
use Rattle.qp_model.specs.machine.Within.{AreWithin}
use Rattle.qp_model.proofs.MagnitudeLaws.{AreUpToTops, top_le_clamp, plan_within, after_multipliers}

-- each multiplier is at most the clamp
pub clamped_at : (c : Numbers) (multipliers : List ℤ) (i : ℕ) → AreUpToTops c multipliers → unsigned_abs (at multipliers i) ≤ unsigned_abs c.clamp
clamped_at c multipliers i tops = omega (arith, tops.each i, top_le_clamp c i)

-- ---- after any number of steps
pub after_plan_length : (c : Numbers) (state : List ℤ) (k : ℕ) → length (after c state k).plan ≡ length c.offsets
unfolding after
after_plan_length c state zero = length-replicate (length c.offsets) (pos 0)
after_plan_length c state (suc k) = length-map-range_with_len (plan_entry c state (raised c (after c state k).multipliers)) 0 (length c.offsets)

pub after_multipliers_length : (c : Numbers) (state : List ℤ) (k : ℕ) → length (after c state k).multipliers ≡ length c.bounds
unfolding after
after_multipliers_length c state zero = length-replicate (length c.bounds) (pos 0)
after_multipliers_length c state (suc k) =
    let made = after c state k in
    length-map-range_with_len (λ i. next_multiplier c state (plan_of c state (raised c made.multipliers)) (at made.multipliers i) i) 0 (length c.bounds)

pub after_sums_length : (c : Numbers) (state : List ℤ) (k : ℕ) → length (after c state k).sums ≡ length c.offsets
unfolding after
after_sums_length c state zero = length-replicate (length c.offsets) (pos 0)
after_sums_length c state (suc k) =
    let plan = plan_of c state (raised c (after c state k).multipliers) in
    omega (arith, length-map-range_with_len (λ j. at (after c state k).sums j +ℤ at plan j) 0 (length plan), length-map-range_with_len (plan_entry c state (raised c (after c state k).multipliers)) 0 (length c.offsets))

pub after_sums_le : (c : Numbers) (state : List ℤ) (k j : ℕ) → pos 0 ≤ℤ c.clamp → AreWithin state (state_magnitudes c) → j < length c.offsets → unsigned_abs (at (after c state k).sums j) ≤ k * get_or (plan_magnitudes c) j 0
unfolding after
after_sums_le c state zero j h w lt = rw (get_or-replicate (length c.offsets) j (pos 0) (pos 0) lt) (omega arith)
after_sums_le c state (suc k) j h w lt =
    let made = after c state k in
    let plan = plan_of c state (raised c made.multipliers) in
    let len : length plan ≡ length c.offsets = length-map-range_with_len (plan_entry c state (raised c made.multipliers)) 0 (length c.offsets) in
    let within = plan_within c state (raised c made.multipliers) w (after_multipliers c state k h) in
    rw (get_or-map-range_with_len (λ i. at made.sums i +ℤ at plan i) 0 (length plan) j j (pos 0) (omega (arith, len)) (omega arith))
    (omega (arith, abs-add_le (at made.sums j) (at plan j), within.each j, after_sums_le c state k j h w lt))

pub after_suc : (c : Numbers) (state : List ℤ) (k : ℕ) → after c state (k + 1) ≡ step_of c state (after c state k)
unfolding after
after_suc c state k = rw add-one refl

pub after_zero : (c : Numbers) (state : List ℤ) → after c state 0 ≡ start_of c
unfolding after
after_zero c state = refl
