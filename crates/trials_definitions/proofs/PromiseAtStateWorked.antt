-- The promise, tried on the worked design and its controller at the state 1: what holds of them with the least numbers that it can hold with, and for
-- each number what doesn't hold where it is one less. The numbers were worked out by hand.
use Rattle.std.proofs.Common.{◌≡◌, ℕ, zero, suc, ◌<◌, ℤ, pos, negsuc, ◌+ℤ◌, ◌*ℤ◌, ◌≤ℤ◌, ◌<ℤ◌, List, [], ◌∷◌, ◌^◌, refl, sym, arith, Bool, true, false, ◌&&◌, T, neg_ℤ, ◌-◌, All}
use Rattle.integer_algebra.specs.Sums.{at, square}
use Rattle.std.proofs.lemmas.List.Elements.{All-nil, All-cons, All-get_or}
use Rattle.std.specs.Prelude.{int_le, int_lt}
use Rattle.std.specs.Int.Signed.{clash_ℤ}
use Rattle.integer_algebra.proofs.Quoting.{by_ring, quotes}
use Rattle.integer_algebra.proofs.Certificates.{known_le, known_lt}
use Rattle.integer_algebra.proofs.OmegaHints.{fact_hint, product_hint, le_by_omega, lt_by_omega}
use Rattle.qp_model.specs.problem.Cost.{cost}
use Rattle.qp_model.specs.problem.Residual.{residual, IsFeasible}
use Rattle.qp_model.specs.problem.Box.{IsGridState}
use Rattle.qp_model.specs.bounds.Choices.{row_violation_bound, violation_bound}
use Rattle.qp_model.specs.bounds.Certified.{ExceedsNoRowBy, KeepsBounds, IsCertifiedAt}
use Rattle.qp_model.specs.machine.Controller.{Numbers}
use Rattle.qp_model.specs.machine.Machine.{IsAdmissible, IsInside, Iterate, raised, step_of, after, next_multiplier}
use Rattle.qp_model.specs.machine.ValuesMet.{FitsWidth, entry_values, row_values, StepFits, RunFits}
use Rattle.trials_definitions.proofs.WorkedDesigns.{base, three}
use Rattle.trials_definitions.proofs.WorkedControllers.{matrix, first_controller, third_controller, least}

-- ---- a word of 26 bits: both ends fit, and one beyond doesn't
width_low : FitsWidth 26 (negsuc 33554431)
width_low = record { low = record { le = tt }; high = record { lt = tt } }

width_below : FitsWidth 26 (negsuc 33554432) → ⊥
width_below h = h.low.le

width_high : FitsWidth 26 (pos 33554431)
width_high = record { low = record { le = tt }; high = record { lt = tt } }

width_above : FitsWidth 26 (pos 33554432) → ⊥
width_above h = h.high.lt

-- ---- the values that are met in the last step: its plan entry, and its third row
last_entry : entry_values first_controller (pos 1024 ∷ []) (pos 0 ∷ pos 0 ∷ pos 676 ∷ []) 0
    ≡ pos 524288 ∷ pos 524288 ∷ pos 0 ∷ pos 524288 ∷ pos 1048576 ∷ pos 0 ∷ pos 0 ∷ pos 173056 ∷ pos 0 ∷ pos 0 ∷ pos 173056
    ∷ pos 1048576 ∷ pos 1048576 ∷ pos 1221632 ∷ pos 1221632 ∷ pos 596 ∷ negsuc 595 ∷ []
last_entry = refl

last_row : row_values first_controller (pos 1024 ∷ []) (negsuc 595 ∷ []) (pos 676) 2
    ≡ negsuc 610303 ∷ negsuc 610303 ∷ pos 1048576 ∷ pos 1048576 ∷ pos 438272 ∷ pos 262144 ∷ pos 176128 ∷ pos 172 ∷ pos 848
    ∷ pos 32768 ∷ pos 32768 ∷ pos 848 ∷ []
last_row = refl

-- a row whose sum doesn't divide, and is below 0: -338868 over 1024 is -330.9
abbrev uneven_controller : Numbers
uneven_controller = record first_controller { plan_rows = matrix 1 ((pos 1023 ∷ []) ∷ (negsuc 1022 ∷ []) ∷ (pos 1023 ∷ []) ∷ []); offsets = negsuc 2 ∷ [] }

uneven_row : row_values uneven_controller (pos 1024 ∷ []) (negsuc 1099 ∷ []) (pos 676) 2
    ≡ negsuc 1125299 ∷ negsuc 1125299 ∷ pos 1048576 ∷ pos 1048576 ∷ negsuc 76723 ∷ pos 262144 ∷ negsuc 338867 ∷ negsuc 330 ∷ pos 345
    ∷ pos 32768 ∷ pos 32768 ∷ pos 345 ∷ []
uneven_row = refl

-- an offset is met before and after it is added
uneven_entry : entry_values uneven_controller (pos 1024 ∷ []) (pos 0 ∷ pos 1 ∷ pos 676 ∷ []) 0
    ≡ pos 524288 ∷ pos 524288 ∷ negsuc 3071 ∷ pos 521216 ∷ pos 1042432 ∷ pos 0 ∷ negsuc 255 ∷ pos 173056 ∷ pos 0 ∷ negsuc 255 ∷ pos 172800
    ∷ pos 1042432 ∷ pos 1042176 ∷ pos 1215232 ∷ pos 1215232 ∷ pos 593 ∷ negsuc 592 ∷ []
uneven_entry = refl

-- a multiplier is kept between 0 and the greatest of its row, which is half the clamp here
clamped_row : row_values third_controller (pos 1024 ∷ []) (pos 30000 ∷ []) (pos 676) 2
    ≡ pos 30720000 ∷ pos 30720000 ∷ pos 1048576 ∷ pos 1048576 ∷ pos 31768576 ∷ pos 262144 ∷ pos 31506432 ∷ pos 30768 ∷ pos 31444
    ∷ pos 32768 ∷ pos 16384 ∷ pos 16384 ∷ []
clamped_row = refl

clamped_below : next_multiplier first_controller (pos 1024 ∷ []) (negsuc 2099 ∷ []) (pos 676) 2 ≡ pos 0
clamped_below = refl

-- ---- the box: both ends lie in it, and one beyond doesn't
grid_low : IsGridState base (at (pos 0 ∷ []))
grid_low zero l = (record { le = tt }, record { le = tt })
grid_low (suc i) l = absurd (omega (arith, l))

pub grid_high : IsGridState base (at (pos 1 ∷ []))
grid_high zero l = (record { le = tt }, record { le = tt })
grid_high (suc i) l = absurd (omega (arith, l))

grid_below : IsGridState base (at (negsuc 0 ∷ [])) → ⊥
grid_below h = (h 0 (omega arith)).0.le

grid_above : IsGridState base (at (pos 2 ∷ [])) → ⊥
grid_above h = (h 0 (omega arith)).1.le

admissible_low : IsAdmissible first_controller (pos 0 ∷ [])
admissible_low = record { long = refl; each = inside }
  where
    inside : (i : ℕ) → i < 1 → IsInside first_controller (pos 0 ∷ []) i
    inside zero l = record { low = record { le = tt }; high = record { le = tt } }
    inside (suc i) l = absurd (omega (arith, l))

admissible_high : IsAdmissible first_controller (pos 1 ∷ [])
admissible_high = record { long = refl; each = inside }
  where
    inside : (i : ℕ) → i < 1 → IsInside first_controller (pos 1 ∷ []) i
    inside zero l = record { low = record { le = tt }; high = record { le = tt } }
    inside (suc i) l = absurd (omega (arith, l))

admissible_below : IsAdmissible first_controller (negsuc 0 ∷ []) → ⊥
admissible_below h = (h.each 0 (omega arith)).low.le

admissible_above : IsAdmissible first_controller (pos 2 ∷ []) → ⊥
admissible_above h = (h.each 0 (omega arith)).high.le

admissible_short : IsAdmissible first_controller [] → ⊥
admissible_short h = omega (arith, h.long)

admissible_long : IsAdmissible first_controller (pos 1 ∷ pos 0 ∷ []) → ⊥
admissible_long h = omega (arith, h.long)

-- ---- terms that don't divide are each rounded up: 3 * 2^43 over 7 is 3769754152374.9, 2^45 over 7 is 5026338869833.1, and 100 over 8 is 12.5
uneven_violation : row_violation_bound 0 1 8 7 100 ≡ 3769754152388
uneven_violation = refl

uneven_greatest : violation_bound 1 8 7 100 ≡ 5026338869847
uneven_greatest = refl

-- ---- what the averaged plan keeps: it costs 8450560 / 4096^2, and the best feasible plan, -3/4, costs 10/16
abbrev state : ℕ → ℤ
state = at (pos 1 ∷ [])

abbrev average : ℕ → ℤ
average = at (negsuc 2223 ∷ [])

abbrev best : ℕ → ℤ
best = at (negsuc 2 ∷ [])

best_feasible : IsFeasible base (pos 4) state best
best_feasible = three _ (record { le = tt }) (record { le = tt }) (record { le = tt })

cost_is : (r : ℤ) (t : ℕ → ℤ) → cost base r state t ≡ square (t 0) +ℤ square (r +ℤ t 0)
cost_is r t = by_ring (r ∷ t 0 ∷ []) (search quotes depth 60 fits 20000) refl

row_is : (r : ℤ) (t : ℕ → ℤ) → residual base r state t 2 ≡ pos 4 *ℤ t 0 +ℤ pos 3 *ℤ r
row_is r t = by_ring (r ∷ t 0 ∷ []) (search quotes depth 60 fits 20000) refl

-- no feasible plan costs less than that
numbers_cost : (r u : ℤ) → pos 0 <ℤ r → (pos 4 *ℤ u +ℤ pos 3 *ℤ r) ≤ℤ pos 0 → (pos 10 *ℤ square r) ≤ℤ (pos 16 *ℤ (square u +ℤ square (r +ℤ u)))
numbers_cost r u h k =
    let ρ : List ℤ = r ∷ u ∷ [] in
    let some = known_lt ρ h (search quotes depth 60 fits 20000) in
    let below = known_le ρ k (search quotes depth 60 fits 20000) in
    le_by_omega ρ (search quotes depth 60 fits 20000) (omega (arith, fact_hint below, product_hint below below, product_hint some below))

feasible_cost : (r : ℤ) (t : ℕ → ℤ) → pos 0 <ℤ r → IsFeasible base r state t → (pos 10 *ℤ square r) ≤ℤ (pos 16 *ℤ cost base r state t)
feasible_cost r t h f = rw (cost_is r t) (numbers_cost r (t 0) h (rw (sym (row_is r t)) (f 2 (omega arith))))

numbers_costs : (r z : ℤ) → (pos 10 *ℤ square r) ≤ℤ (pos 16 *ℤ z) →
    (pos (2 ^ 40) *ℤ pos 8450560 *ℤ square r) ≤ℤ ((pos (2 ^ 40) *ℤ z +ℤ negsuc 133378867199 *ℤ pos 1 *ℤ square r) *ℤ square (pos 4096))
numbers_costs r z h =
    let ρ : List ℤ = r ∷ z ∷ [] in
    le_by_omega ρ (search quotes depth 60 fits 20000) (omega (arith, fact_hint (known_le ρ h (search quotes depth 60 fits 20000))))

numbers_repair : (r z : ℤ) → pos 0 <ℤ r → (pos 10 *ℤ square r) ≤ℤ (pos 16 *ℤ z) →
    ((pos (2 ^ 40) *ℤ pos 8450560 +ℤ pos 133378867199 *ℤ pos 1 *ℤ square (pos 4096)) *ℤ square r) <ℤ (pos (2 ^ 40) *ℤ z *ℤ square (pos 4096))
numbers_repair r z some h =
    let ρ : List ℤ = r ∷ z ∷ [] in
    let more = known_lt ρ some (search quotes depth 60 fits 20000) in
    lt_by_omega ρ (search quotes depth 60 fits 20000) (omega (arith, fact_hint more, product_hint more more, fact_hint (known_le ρ h (search quotes depth 60 fits 20000))))

keeps_rows : ExceedsNoRowBy base state (pos 4096) average (at least.row_violations)
keeps_rows = three _ (record { le = tt }) (record { le = tt }) (record { le = tt })

keeps_violation : ExceedsNoRowBy base state (pos 4096) average (λ i. least.violation)
keeps_violation = three _ (record { le = tt }) (record { le = tt }) (record { le = tt })

keeps : KeepsBounds base least state (pos 4096) average
keeps = record {
  rows = keeps_rows;
  violation = keeps_violation;
  costs = λ r t h f. numbers_costs r (cost base r state t) (feasible_cost r t h f);
  repair = record { denominator = pos 4; plan = best; positive = record { lt = tt }; feasible = best_feasible; cheap = record { le = tt } };
}

-- one number less
first_row_less : KeepsBounds base (record least { row_violations = negsuc 1696512081920 ∷ negsuc 502511173631 ∷ pos 227633266688 ∷ [] }) state (pos 4096) average → ⊥
first_row_less h = (h.rows 0 (omega arith)).le

next_row_less : KeepsBounds base (record least { row_violations = negsuc 1696512081919 ∷ negsuc 502511173632 ∷ pos 227633266688 ∷ [] }) state (pos 4096) average → ⊥
next_row_less h = (h.rows 1 (omega arith)).le

last_row_less : KeepsBounds base (record least { row_violations = negsuc 1696512081919 ∷ negsuc 502511173631 ∷ pos 227633266687 ∷ [] }) state (pos 4096) average → ⊥
last_row_less h = (h.rows 2 (omega arith)).le

violation_less : KeepsBounds base (record least { violation = pos 227633266687 }) state (pos 4096) average → ⊥
violation_less h = (h.violation 2 (omega arith)).le

gap_less : KeepsBounds base (record least { gap = negsuc 133378867200 }) state (pos 4096) average → ⊥
gap_less h = (h.costs (pos 4) best (record { lt = tt }) best_feasible).le

undercut_less : KeepsBounds base (record least { undercut = pos 133378867199 }) state (pos 4096) average → ⊥
undercut_less h =
    let p = h.repair in
    clash_ℤ (numbers_repair p.denominator (cost base p.denominator state p.plan) p.positive (feasible_cost p.denominator p.plan p.positive p.feasible)) p.cheap

-- ---- the whole run from that state
-- each number fits, as computed
abbrev fits : ℕ → List ℤ → Bool
fits w [] = true
fits w (z ∷ zs) = (int_le (neg_ℤ (pos (2 ^ (w - 1)))) z && int_lt z (pos (2 ^ (w - 1)))) && fits w zs

left_of : (a b : Bool) → T (a && b) → T a
left_of true b h = tt
left_of false b h = absurd h

right_of : (a b : Bool) → T (a && b) → T b
right_of true b h = h
right_of false b h = absurd h

all_fit : (w : ℕ) (zs : List ℤ) → T (fits w zs) → All (FitsWidth w) zs
all_fit w [] h = All-nil (FitsWidth w)
all_fit w (z ∷ zs) h =
    let low = int_le (neg_ℤ (pos (2 ^ (w - 1)))) z in
    let high = int_lt z (pos (2 ^ (w - 1))) in
    let both = left_of (low && high) (fits w zs) h in
    All-cons (FitsWidth w) z zs (record { low = record { le = left_of low high both }; high = record { lt = right_of low high both } })
    (all_fit w zs (right_of (low && high) (fits w zs) h))

-- a step from these multipliers, whose sums and plan are these
step_fits : (made : Iterate) → T (fits 22 (raised first_controller made.multipliers)) →
    T (fits 22 (entry_values first_controller (pos 1024 ∷ []) (raised first_controller made.multipliers) 0)) →
    ((i : ℕ) → i < 3 → T (fits 22 (row_values first_controller (pos 1024 ∷ []) (step_of first_controller (pos 1024 ∷ []) made).plan (at made.multipliers i) i))) →
    T (fits 22 (step_of first_controller (pos 1024 ∷ []) made).sums) → StepFits 22 first_controller (pos 1024 ∷ []) made
step_fits made raising entry row sum = record {
  raised_multipliers = all_fit 22 (raised first_controller made.multipliers) raising;
  entries = entries;
  rows = λ i l. all_fit 22 (row_values first_controller (pos 1024 ∷ []) (step_of first_controller (pos 1024 ∷ []) made).plan (at made.multipliers i) i) (row i l);
  sums = all_fit 22 (step_of first_controller (pos 1024 ∷ []) made).sums sum;
}
  where
    entries : (j : ℕ) → j < 1 → All (FitsWidth 22) (entry_values first_controller (pos 1024 ∷ []) (raised first_controller made.multipliers) j)
    entries zero l = all_fit 22 (entry_values first_controller (pos 1024 ∷ []) (raised first_controller made.multipliers) 0) entry
    entries (suc j) l = absurd (omega (arith, l))

run_fits : RunFits 22 first_controller (pos 1 ∷ [])
unfolding after
run_fits = record { state = all_fit 22 (pos 1024 ∷ []) tt; steps = steps }
  where
    steps : (k : ℕ) → k < 4 → StepFits 22 first_controller (pos 1024 ∷ []) (after first_controller (pos 1024 ∷ []) k)
    steps zero l = step_fits (after first_controller (pos 1024 ∷ []) 0) tt tt (three _ tt tt tt) tt
    steps (suc zero) l = step_fits (after first_controller (pos 1024 ∷ []) 1) tt tt (three _ tt tt tt) tt
    steps (suc (suc zero)) l = step_fits (after first_controller (pos 1024 ∷ []) 2) tt tt (three _ tt tt tt) tt
    steps (suc (suc (suc zero))) l = step_fits (after first_controller (pos 1024 ∷ []) 3) tt tt (three _ tt tt tt) tt
    steps (suc (suc (suc (suc k)))) l = absurd (omega (arith, l))

certified : IsCertifiedAt base first_controller least (pos 1 ∷ [])
unfolding after
certified = record { values = run_fits; steps = refl; plan = keeps }

-- one number less, and one more step
width_less : IsCertifiedAt base first_controller (record least { width = 21 }) (pos 1 ∷ []) → ⊥
unfolding after
width_less h =
    let values = entry_values first_controller (pos 1024 ∷ []) (pos 0 ∷ pos 0 ∷ pos 0 ∷ []) 0 in
    let inside : 4 < 17 = omega arith in
    (All-get_or (FitsWidth 21) values 4 (pos 0) inside ((h.values.steps 0 (omega arith)).entries 0 (omega arith))).high.lt

steps_more : IsCertifiedAt base first_controller (record least { steps = 5 }) (pos 1 ∷ []) → ⊥
steps_more h = omega (arith, h.steps)
