-- Runs of a controller whose steps, rows and entries differ in number: its states, its first steps, and what it is that fits; and the run of one that has an exponent for
-- each row and both of whose multipliers meet their greatest, with the state that follows it.
use Rattle.std.proofs.Common.{◌≡◌, ℕ, zero, suc, ◌<◌, ℤ, pos, negsuc, List, [], ◌∷◌, map, length, refl, arith}
use Rattle.std.specs.Prelude.{All}
use Rattle.integer_algebra.specs.Sums.{at}
use Rattle.qp_model.specs.machine.Controller.{Numbers, plan_length}
use Rattle.qp_model.specs.machine.Machine.{IsInside, IsAdmissible, Iterate, loaded, exponent_of, lowering_of, raised, top_of, entry_sum, plan_of, row_sum, added, start_of, after, run_of, average_denominator, averaged_plan}
use Rattle.qp_model.specs.machine.Successor.{successor}
use Rattle.qp_model.specs.machine.ValuesMet.{entry_values, row_values, FitsWidth, StepFits, RunFits}
use Rattle.trials_definitions.proofs.WorkedDesigns.{two, mixed}
use Rattle.trials_definitions.proofs.WorkedControllers.{small, clamped_controller}

-- ---- states
inside : (i : ℕ) → i < 2 → IsInside small (pos 5 ∷ pos 2 ∷ []) i
inside zero l = record { low = record { le = tt }; high = record { le = tt } }
inside (suc zero) l = record { low = record { le = tt }; high = record { le = tt } }
inside (suc (suc i)) l = absurd (omega (arith, l))

admissible : IsAdmissible small (pos 5 ∷ pos 2 ∷ [])
admissible = record { long = refl; each = inside }

admissible_short : IsAdmissible small (pos 5 ∷ []) → ⊥
admissible_short h = omega (arith, h.long)

first_below : IsAdmissible small (pos 0 ∷ pos 2 ∷ []) → ⊥
first_below h = (h.each 0 (omega arith)).low.le

second_above : IsAdmissible small (pos 5 ∷ pos 7 ∷ []) → ⊥
second_above h = (h.each 1 (omega arith)).high.le

entries : plan_length small ≡ 2
entries = refl

loaded_state : loaded small (pos 5 ∷ pos 2 ∷ []) ≡ pos 20 ∷ pos 8 ∷ []
loaded_state = refl

-- ---- exponents and multipliers
exponents : map (exponent_of small) (0 ∷ 1 ∷ 2 ∷ []) ≡ 2 ∷ 0 ∷ 1 ∷ []
exponents = refl

lowerings : map (lowering_of small) (0 ∷ 1 ∷ 2 ∷ []) ≡ 0 ∷ 2 ∷ 1 ∷ []
lowerings = refl

raising : raised small (pos 3 ∷ pos 5 ∷ pos 7 ∷ []) ≡ pos 3 ∷ pos 20 ∷ pos 14 ∷ []
raising = refl

-- 45, 45/4 and 45/2, rounded down
tops : map (top_of small) (0 ∷ 1 ∷ 2 ∷ []) ≡ pos 45 ∷ pos 11 ∷ pos 22 ∷ []
tops = refl

start : start_of small ≡ record { plan = pos 0 ∷ pos 0 ∷ []; multipliers = pos 0 ∷ pos 0 ∷ pos 0 ∷ []; sums = pos 0 ∷ pos 0 ∷ [] }
start = refl

-- ---- two steps from the state 20, 8 over 8. The numbers were computed by another program
abbrev state_of : List ℤ
state_of = pos 20 ∷ pos 8 ∷ []

first : after small state_of 1 ≡ record { plan = negsuc 11 ∷ negsuc 9 ∷ []; multipliers = pos 19 ∷ pos 11 ∷ pos 0 ∷ []; sums = negsuc 11 ∷ negsuc 9 ∷ [] }
unfolding after
first = refl

second : after small state_of 2 ≡ record { plan = negsuc 15 ∷ negsuc 11 ∷ []; multipliers = pos 39 ∷ pos 11 ∷ pos 0 ∷ []; sums = negsuc 27 ∷ negsuc 21 ∷ [] }
unfolding after
second = refl

-- the sums before the floors: 520 over 32 is 16.25, and -312 over 8 is -39
sums : entry_sum small state_of (pos 19 ∷ pos 44 ∷ pos 0 ∷ []) 0 ∷ entry_sum small state_of (pos 19 ∷ pos 44 ∷ pos 0 ∷ []) 1 ∷ [] ≡ pos 520 ∷ pos 405 ∷ []
sums = refl

row_sums : map (row_sum small state_of (negsuc 15 ∷ negsuc 11 ∷ [])) (0 ∷ 1 ∷ 2 ∷ []) ≡ pos 160 ∷ pos 180 ∷ negsuc 311 ∷ []
row_sums = refl

run : run_of small (pos 5 ∷ pos 2 ∷ []) ≡ after small state_of 2
run = refl

average : averaged_plan small (pos 5 ∷ pos 2 ∷ []) ≡ negsuc 27 ∷ negsuc 21 ∷ []
unfolding after
average = refl

over : average_denominator small ≡ 16
over = refl

-- ---- the values of the second step's second entry and of its second row
second_entry : entry_values small state_of (pos 19 ∷ pos 44 ∷ pos 0 ∷ []) 1
    ≡ pos 100 ∷ pos 8 ∷ pos 100 ∷ pos 108 ∷ negsuc 23 ∷ pos 84 ∷ pos 336 ∷ negsuc 18
    ∷ pos 88 ∷ pos 0 ∷ negsuc 18 ∷ pos 69 ∷ pos 69 ∷ pos 317 ∷ pos 405 ∷ pos 405
    ∷ pos 405 ∷ pos 12 ∷ negsuc 11 ∷ []
second_entry = refl

second_row : row_values small state_of (negsuc 15 ∷ negsuc 11 ∷ []) (pos 11) 1
    ≡ pos 48 ∷ negsuc 11 ∷ pos 48 ∷ pos 36 ∷ pos 120 ∷ negsuc 15 ∷ pos 120 ∷ pos 104
    ∷ pos 156 ∷ pos 140 ∷ negsuc 39 ∷ pos 180 ∷ pos 22 ∷ pos 33 ∷ pos 45 ∷ pos 11
    ∷ pos 11 ∷ []
second_row = refl

third_row : row_values small state_of (negsuc 15 ∷ negsuc 11 ∷ []) (pos 0) 2
    ≡ negsuc 143 ∷ negsuc 95 ∷ negsuc 143 ∷ negsuc 239 ∷ pos 0 ∷ pos 32 ∷ pos 0 ∷ pos 32
    ∷ negsuc 239 ∷ negsuc 207 ∷ pos 104 ∷ negsuc 311 ∷ negsuc 38 ∷ negsuc 38 ∷ pos 45 ∷ pos 22
    ∷ pos 0 ∷ []
third_row = refl

-- ---- three steps until both multipliers meet their greatest. The numbers were computed by another program, in fractions
clamped_state : loaded clamped_controller (two (negsuc 2) (pos 7)) ≡ two (negsuc 11) (pos 28)
clamped_state = refl

clamped_tops : map (top_of clamped_controller) (0 ∷ 1 ∷ []) ≡ pos 31 ∷ pos 7 ∷ []
clamped_tops = refl

clamped_raising : raised clamped_controller (two (pos 22) (pos 7)) ≡ two (pos 22) (pos 28)
clamped_raising = refl

clamped_first : after clamped_controller (two (negsuc 11) (pos 28)) 1 ≡ record { plan = two (pos 2) (pos 13); multipliers = two (pos 11) (pos 7); sums = two (pos 2) (pos 13) }
unfolding after
clamped_first = refl

clamped_second : after clamped_controller (two (negsuc 11) (pos 28)) 2 ≡ record { plan = two (pos 3) (pos 12); multipliers = two (pos 22) (pos 7); sums = two (pos 5) (pos 25) }
unfolding after
clamped_second = refl

clamped_third : after clamped_controller (two (negsuc 11) (pos 28)) 3 ≡ record { plan = two (pos 3) (pos 12); multipliers = two (pos 31) (pos 7); sums = two (pos 8) (pos 37) }
unfolding after
clamped_third = refl

clamped_over : average_denominator clamped_controller ≡ 48
clamped_over = refl

-- the next state under the plan 8/48, 37/48, which is 5/9 and -32/3 over 2^2
clamped_next : successor mixed clamped_controller (two (negsuc 2) (pos 7)) ≡ two (pos 1) (negsuc 10)
unfolding after
clamped_next = refl

-- ---- a word of 4 bits
fits_low : FitsWidth 4 (negsuc 7)
fits_low = record { low = record { le = tt }; high = record { lt = tt } }

fits_high : FitsWidth 4 (pos 7)
fits_high = record { low = record { le = tt }; high = record { lt = tt } }

fits_below : FitsWidth 4 (negsuc 8) → ⊥
fits_below h = h.low.le

fits_above : FitsWidth 4 (pos 8) → ⊥
fits_above h = h.high.lt

-- ---- what fits where a step fits, or a run
step_multipliers : (w : ℕ) (c : Numbers) (state : List ℤ) (made : Iterate) → StepFits w c state made → All (FitsWidth w) (raised c made.multipliers)
step_multipliers w c state made h = h.raised_multipliers

step_entry : (w : ℕ) (c : Numbers) (state : List ℤ) (made : Iterate) → StepFits w c state made → (j : ℕ) → j < length c.offsets →
    All (FitsWidth w) (entry_values c state (raised c made.multipliers) j)
step_entry w c state made h j l = h.entries j l

step_row : (w : ℕ) (c : Numbers) (state : List ℤ) (made : Iterate) → StepFits w c state made → (i : ℕ) → i < length c.bounds →
    All (FitsWidth w) (row_values c state (plan_of c state (raised c made.multipliers)) (at made.multipliers i) i)
step_row w c state made h i l = h.rows i l

step_sums : (w : ℕ) (c : Numbers) (state : List ℤ) (made : Iterate) → StepFits w c state made → All (FitsWidth w) (added made.sums (plan_of c state (raised c made.multipliers)))
step_sums w c state made h = h.sums

run_state : (w : ℕ) (c : Numbers) (xi : List ℤ) → RunFits w c xi → All (FitsWidth w) (loaded c xi)
run_state w c xi h = h.state

run_step : (w : ℕ) (c : Numbers) (xi : List ℤ) → RunFits w c xi → (k : ℕ) → k < c.steps → StepFits w c (loaded c xi) (after c (loaded c xi) k)
run_step w c xi h k l = h.steps k l
