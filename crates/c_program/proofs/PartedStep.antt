-- One repetition of the body of a program in parts makes one step of its machine.
use Rattle.std.proofs.Common.{◌≡◌, ℕ, suc, ◌+◌, ◌^◌, ◌<◌, ℤ, List, [], ◌∷◌, ◌++◌, length, unsigned_abs, refl, arith}
use Rattle.std.proofs.lemmas.Bool.{cond_both}
use Rattle.integer_algebra.specs.Division.{floor_of, ceil_div}
use Rattle.integer_algebra.specs.Sums.{at}
use Rattle.qp_model.specs.machine.Controller.{Numbers}
use Rattle.qp_model.specs.machine.Machine.{Iterate, row_sum, step_of}
use Rattle.qp_model.specs.machine.AbsoluteSums.{row_absolute_sum, next_magnitude}
use Rattle.qp_model.proofs.MagnitudeLaws.{top_le_clamp}
use Rattle.overflow_check.specs.declared.machine.Machine.{Machine}
use Rattle.overflow_check.specs.declared.machine.Machine.TheVariants.{Plain, Accelerated}
use Rattle.overflow_check.specs.FastMachine.{FastIterate, mean_divisor, fast_step}
use Rattle.c_language.specs.Syntax.{variable, groups}
use Rattle.c_language.specs.Syntax.Family.{Multiplier, RowSum}
use Rattle.c_language.specs.Syntax.Expression.{Value, Plus}
use Rattle.c_language.specs.Meaning.{Environment}
use Rattle.c_language.proofs.Runs.{Runs, runs_none, runs_append}
use Rattle.c_program.specs.Of.{difference_statements, has_short_divisor, is_quick, is_twice_quick}
use Rattle.c_program.specs.FastOf.{divisor_statement, scale_lines, scale_statements, mean_statements, quick_mean_statements, twice_mean_statements, next_weight}
use Rattle.c_program.specs.ByMachine.{sizes_for, sum_for, means_for, next_for}
use Rattle.c_program.specs.InParts.{gain_parts, parted_entry_statements, parted_move, parted_row_statements, parted_body, parted_kinds}
use Rattle.c_program.proofs.Terms.{Makes, makes_value, makes_plus}
use Rattle.c_program.proofs.Before.{kinds}
use Rattle.c_program.proofs.Step.{StepFits, Holds, AreSummed, summed_stays, HasPlan, Moves, moves_stay, moves_none, moved_to}
use Rattle.c_program.proofs.Step as plain
use Rattle.c_program.proofs.FastMeans.{FastStepFits, FastHolds, Reciprocated, Means, used_of}
use Rattle.c_program.proofs.FastStep.{used_ranges, Beside, beside_stays, means_beside, FastMoves, next_runs, means_run}
use Rattle.c_program.proofs.FastStep as fast
use Rattle.c_program.proofs.PartedSums.{PartedReady, parted_row_made}
use Rattle.c_program.proofs.PartedBefore.{parted_bases, HaveKinds, runs_as, kinds_append, kinds_groups}
use Rattle.c_program.proofs.PartedPlan.{Gains, differences_parted, gains_run, PartedPlans, plan_parted, plan_is_within, PartedRows, rows_begin, parted_rows_stay, PartedSummed, parted_rows_run}

-- ---- types
sums_kinds : (m : Machine) (c : Numbers) → HaveKinds (kinds c (sizes_for m c)) (parted_kinds m c) (groups (sum_for m) (length c.offsets))
sums_kinds m c = kinds_groups (kinds c (sizes_for m c)) (parted_kinds m c) (sum_for m) (length c.offsets) (λ j. (refl, tt))

means_kinds : (c : Numbers) → HaveKinds (kinds c (sizes_for Accelerated c)) (parted_kinds Accelerated c) (means_for Accelerated c)
means_kinds c =
    let kind = kinds c (sizes_for Accelerated c) in
    let other = parted_kinds Accelerated c in
    let H = HaveKinds kind other in
    kinds_append kind other ((divisor_statement ∷ []) ++ scale_statements c) (groups (mean_statements c) (length c.bounds))
    (kinds_append kind other (divisor_statement ∷ []) (scale_statements c) (refl, tt) (cond_both (has_short_divisor c) scale_lines [] H (λ t. (refl, (refl, (refl, (refl, tt))))) (λ f. tt)))
    (kinds_groups kind other (mean_statements c) (length c.bounds) (λ i.
    cond_both (is_quick c i) (quick_mean_statements i) _ H (λ t. (refl, (refl, (refl, (refl, (refl, tt)))))) (λ f.
    cond_both (is_twice_quick c i) (twice_mean_statements i) _ H (λ t. (refl, (refl, (refl, (refl, (refl, (refl, (refl, (refl, (refl, tt)))))))))) (λ g. (refl, tt)))))

-- ---- the plain machine
-- the plan is made
IsAtPlan : Numbers → List ℤ → Iterate → Environment → Type 0
IsAtPlan c state made e = PartedRows c state (step_of c state made).plan 0 e × ((i : ℕ) → i < length c.bounds → e Multiplier i ≡ at made.multipliers i)

has_plan : (c : Numbers) (state : List ℤ) (made : Iterate) → PartedReady Plain c state → StepFits c made → HasPlan c (step_of c state made).plan (IsAtPlan c state made)
unfolding IsAtPlan
has_plan c state made r fits = record {
  within = plan_is_within Plain c state made.multipliers r fits.ranges;
  entries = λ e h. h.0.entries;
  stays = λ e j z h. ((parted_rows_stay c state (step_of c state made).plan 0).sum e j z h.0, h.1);
}

moved_made : (c : Numbers) (state : List ℤ) (made : Iterate) (i : ℕ) (e : Environment) → PartedReady Plain c state → StepFits c made → i < length c.bounds →
    PartedSummed c state (step_of c state made).plan (Moves c state made i) i e → Makes e (Plus (Value (variable Multiplier i)) (Value (variable RowSum i))) (moved_to c state made i) (next_magnitude c i)
moved_made c state made i e r fits l s =
    let clamp = unsigned_abs c.clamp in
    let most = ceil_div (row_absolute_sum c i) (2 ^ c.fraction_bits) in
    let room : clamp + most < 2 ^ 63 = fits.next i l in
    let within = (parted_row_made Plain c state (step_of c state made).plan e i r l s.0.planned s.0.gradients).within in
    makes_plus e _ _ _ _ clamp most
    (makes_value e (variable Multiplier i) (at made.multipliers i) clamp (s.1.old_multipliers i (omega arith) l) (omega (arith, fits.ranges.tops.each i, top_le_clamp c i)) (omega (arith, room)))
    (makes_value e (variable RowSum i) (floor_of (row_sum c state (step_of c state made).plan i) (2 ^ c.fraction_bits)) most s.2 within (omega (arith, room))) room

one_moves : (c : Numbers) (state : List ℤ) (made : Iterate) (i : ℕ) (e : Environment) → PartedReady Plain c state → StepFits c made → i < length c.bounds →
    PartedSummed c state (step_of c state made).plan (Moves c state made i) i e →
    Runs (parted_kinds Plain c) e (parted_move Plain c i) (λ t. PartedRows c state (step_of c state made).plan (suc i) t × Moves c state made (suc i) t)
one_moves c state made i e r fits l s =
    let plan = (step_of c state made).plan in
    let K = PartedRows c state plan (suc i) in
    let one = plain.moves c state made K i e (Plus (Value (variable Multiplier i)) (Value (variable RowSum i))) fits (parted_rows_stay c state plan (suc i)) l (moved_made c state made i e r fits l s) s.0 s.1 in
    runs_as (kinds c (sizes_for Plain c)) (parted_kinds Plain c) e (parted_move Plain c i) (λ t. K t × Moves c state made (suc i) t) (refl, (refl, (refl, (refl, tt)))) one

pub plain_body_runs : (c : Numbers) (state : List ℤ) (made : Iterate) (e : Environment) → PartedReady Plain c state → StepFits c made → Holds c (parted_bases c state) made e →
    Runs (parted_kinds Plain c) e (parted_body Plain c) (Holds c (parted_bases c state) (step_of c state made))
unfolding IsAtPlan
plain_body_runs c state made e r fits h =
    let p = length c.offsets in
    let m = length c.bounds in
    let kind = parted_kinds Plain c in
    let F = AreSummed c made.sums in
    let stays = summed_stays c made.sums in
    let used = made.multipliers in
    let plan = (step_of c state made).plan in
    let K = IsAtPlan c state made in
    let A = λ (t : Environment). K t × AreSummed c (step_of c state made).sums t in
    let R = λ (t : Environment). PartedRows c state plan m t × Moves c state made m t in
    let G = Gains c state used F in
    let one = differences_parted Plain c state used F r fits.ranges stays e h.bases h.multipliers h.sums in
    let two = runs_append kind e (groups (difference_statements c) m) (groups (gain_parts c) m) (G 0) (G m) one (λ t s. gains_run Plain c state used F r fits.ranges stays t s) in
    let three = runs_append kind e _ (groups (parted_entry_statements c) p) (G m) (PartedPlans c state used F p) two (λ t s. plan_parted Plain c state used F r fits.ranges stays t s) in
    let four = runs_append kind e _ (groups (sum_for Plain) p) (PartedPlans c state used F p) A three (λ t s.
    runs_as (kinds c (sizes_for Plain c)) kind t (groups (sum_for Plain) p) A (sums_kinds Plain c)
    (plain.sums_run c state made K t fits (has_plan c state made r fits) (rows_begin Plain c state used F t r fits.ranges s, s.multipliers) s.beside)) in
    let five = runs_append kind e _ (groups (parted_row_statements Plain c) m) A R four (λ t s.
    parted_rows_run Plain c state plan (Moves c state made) (parted_move Plain c) r (moves_stay c state made) (λ k u l v. one_moves c state made k u r fits l v) t
    (s.0.0, moves_none c state made t s.1 s.0.1)) in
    let six = runs_append kind e _ (next_for Plain) R R five (λ t s. runs_none kind t R s) in
    let s = six.ends in record { defined = six.defined; ends = record { bases = s.0.bases; multipliers = s.1.new_multipliers; sums = s.1.sums_new } }

-- ---- the accelerated machine
fast_has_plan : (c : Numbers) (state : List ℤ) (k : ℕ) (made : FastIterate) → PartedReady Accelerated c state → FastStepFits c k made →
    HasPlan c (fast_step c state k made).plan (PartedRows c state (fast_step c state k made).plan 0)
fast_has_plan c state k made r fits = record {
  within = plan_is_within Accelerated c state (used_of c k made) r (used_ranges c k made fits);
  entries = λ e h. h.entries;
  stays = (parted_rows_stay c state (fast_step c state k made).plan 0).sum;
}

fast_one_moves : (c : Numbers) (state : List ℤ) (k : ℕ) (made : FastIterate) (i : ℕ) (e : Environment) → PartedReady Accelerated c state → FastStepFits c k made → i < length c.bounds →
    PartedSummed c state (fast_step c state k made).plan (FastMoves c state k made i) i e →
    Runs (parted_kinds Accelerated c) e (parted_move Accelerated c i) (λ t. PartedRows c state (fast_step c state k made).plan (suc i) t × FastMoves c state k made (suc i) t)
fast_one_moves c state k made i e r fits l s =
    let plan = (fast_step c state k made).plan in
    let most = ceil_div (row_absolute_sum c i) (2 ^ c.fraction_bits) in
    let room : most < 2 ^ 63 = omega (arith, r.next i l) in
    let K = PartedRows c state plan (suc i) in
    let within = (parted_row_made Accelerated c state plan e i r l s.0.planned s.0.gradients).within in
    let step = makes_value e (variable RowSum i) (floor_of (row_sum c state plan i) (2 ^ c.fraction_bits)) most s.2 within room in
    let one = fast.moves c state k made K i e (Value (variable RowSum i)) fits (parted_rows_stay c state plan (suc i)) l step s.0 s.1 in
    runs_as (kinds c (sizes_for Accelerated c)) (parted_kinds Accelerated c) e (parted_move Accelerated c i) (λ t. K t × FastMoves c state k made (suc i) t)
    (refl, (refl, (refl, (refl, (refl, tt))))) one

pub fast_parted_body_runs : (c : Numbers) (state : List ℤ) (k : ℕ) (made : FastIterate) (e : Environment) → PartedReady Accelerated c state → FastStepFits c k made →
    FastHolds c (parted_bases c state) k made e → Runs (parted_kinds Accelerated c) e (parted_body Accelerated c) (FastHolds c (parted_bases c state) (suc k) (fast_step c state k made))
fast_parted_body_runs c state k made e r fits h =
    let p = length c.offsets in
    let m = length c.bounds in
    let whole = kinds c (sizes_for Accelerated c) in
    let kind = parted_kinds Accelerated c in
    let B = parted_bases c state in
    let F = Beside c k made in
    let stays = beside_stays c k made in
    let used = used_of c k made in
    let ranges = used_ranges c k made fits in
    let plan = (fast_step c state k made).plan in
    let M = FastMoves c state k made in
    let A = Means c B k made (Reciprocated c (mean_divisor k)) m in
    let G = Gains c state used F in
    let Z = λ (t : Environment). PartedRows c state plan 0 t × M 0 t in
    let R = λ (t : Environment). PartedRows c state plan m t × M m t in
    let E = FastHolds c B (suc k) (fast_step c state k made) in
    let means = runs_as whole kind e (means_for Accelerated c) A (means_kinds c) (means_run c B k made e fits h) in
    let one = runs_append kind e (means_for Accelerated c) (groups (difference_statements c) m) A (G 0) means
    (λ t s. differences_parted Accelerated c state used F r ranges stays t s.bases s.means (means_beside c B k made m t s)) in
    let two = runs_append kind e _ (groups (gain_parts c) m) (G 0) (G m) one (λ t s. gains_run Accelerated c state used F r ranges stays t s) in
    let three = runs_append kind e _ (groups (parted_entry_statements c) p) (G m) (PartedPlans c state used F p) two (λ t s. plan_parted Accelerated c state used F r ranges stays t s) in
    let four = runs_append kind e _ (groups (sum_for Accelerated) p) (PartedPlans c state used F p) Z three (λ t s.
    runs_as whole kind t (groups (sum_for Accelerated) p) Z (sums_kinds Accelerated c)
    (fast.sums_run c state k made (PartedRows c state plan 0) t fits (fast_has_plan c state k made r fits) (rows_begin Accelerated c state used F t r ranges s) s.beside)) in
    let five = runs_append kind e _ (groups (parted_row_statements Accelerated c) m) Z R four (λ t s.
    parted_rows_run Accelerated c state plan M (parted_move Accelerated c) r (fast.moves_stay c state k made) (λ i u l v. fast_one_moves c state k made i u r fits l v) t s) in
    runs_append kind e _ (next_for Accelerated) R E five (λ t s. runs_as whole kind t (next_weight ∷ []) E (refl, tt) (next_runs c B state k made t fits s.0.bases s.1))
