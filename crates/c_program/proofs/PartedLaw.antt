-- The program in parts of a controller whose sums pass 64 bits, run from a state of the box, puts out its machine's averaged plan's numerators, and of these the averaged first inputs;
-- and so does the program of any controller that has one.
use Rattle.std.proofs.Common.{◌≡◌, ℕ, suc, ◌<◌, ◌≤◌, ℤ, pos, List, length, refl, sym, subst, arith, add-one, inl, inr}
use Rattle.std.specs.List.{range_with_len}
use Rattle.std.proofs.lemmas.Bool.{cond_both, ltb-true, ltb-false}
use Rattle.qp_model.specs.machine.Controller.{Numbers}
use Rattle.qp_model.specs.machine.Machine.{Iterate, IsAdmissible, averaged_plan, loaded, step_of, after}
use Rattle.qp_model.specs.machine.AbsoluteSums.{IsController}
use Rattle.overflow_check.specs.Machines.{IsControllerFor}
use Rattle.overflow_check.specs.declared.machine.Machine.{Machine}
use Rattle.overflow_check.specs.declared.machine.Machine.TheVariants.{Plain, Accelerated}
use Rattle.overflow_check.specs.FastMachine.{FastIterate, all_weights, fast_step, fast_after, fast_plan}
use Rattle.overflow_check.specs.FastController.{IsFastController}
use Rattle.overflow_check.proofs.Runs.{after_sums_length, after_suc}
use Rattle.fast_machine.proofs.FastRuns.{ready_law, fast_after_suc}
use Rattle.c_language.specs.Meaning.{Environment}
use Rattle.c_language.proofs.Runs.{Runs}
use Rattle.c_program.specs.Of.{entry_top, is_needed}
use Rattle.c_program.specs.ByMachine.{program_for, plans_for}
use Rattle.c_program.specs.InParts.{parted_body, parted_kinds, whole_parted, parted_program, HasParts, is_parted}
use Rattle.c_program.specs.Laws.{inputs_of, SolvesTo, IsProgramFor, ProgramLaw, FastProgramLaw, numerators_for, PartedProgramLaw, WrittenProgramLaw}
use Rattle.c_program.proofs.Box.{none_outside, refuses}
use Rattle.c_program.proofs.Step.{Holds}
use Rattle.c_program.proofs.FastMeans.{FastHolds}
use Rattle.c_program.proofs.ProgramNeeds.{outputs_needed}
use Rattle.c_program.proofs.Solving.{state_fits, Tracks, sums_held, solves_to}
use Rattle.c_program.proofs.ProgramLaw.{step_fits, holds_first, run_sums}
use Rattle.c_program.proofs.FastProgramLaw.{fast_step_fits, Made, made_first, fast_run_sums}
use Rattle.c_program.proofs.PartedSums.{parted_ready}
use Rattle.c_program.proofs.PartedNeeds.{parted_closed}
use Rattle.c_program.proofs.PartedBefore.{parted_bases, AllPartedBegun, parted_before_runs}
use Rattle.c_program.proofs.PartedStep.{plain_body_runs, fast_parted_body_runs}

-- ---- the plain machine
steps : (c : Numbers) (xi : List ℤ) (k : ℕ) (e : Environment) → IsController c → HasParts Plain c → IsAdmissible c xi → k < c.steps → Holds c (parted_bases c (loaded c xi)) (after c (loaded c xi) k) e →
    Runs (parted_kinds Plain c) e (parted_body Plain c) (Holds c (parted_bases c (loaded c xi)) (after c (loaded c xi) (suc k)))
steps c xi k e sound parts grid l h =
    let state = loaded c xi in
    let r = parted_ready Plain c xi sound parts grid in
    let same : after c state (suc k) ≡ step_of c state (after c state k) = rw add-one at (after_suc c state k) in
    subst (λ (made : Iterate). Runs (parted_kinds Plain c) e (parted_body Plain c) (Holds c (parted_bases c state) made)) (sym same)
    (plain_body_runs c state (after c state k) e r (step_fits c state k r.nonneg r.within r.next parts.sums l) h)

tracks : (c : Numbers) (xi : List ℤ) → IsController c → HasParts Plain c → IsAdmissible c xi → Tracks (whole_parted Plain c) xi (λ k. Holds c (parted_bases c (loaded c xi)) (after c (loaded c xi) k))
tracks c xi sound parts grid =
    let run = parted_before_runs Plain c xi (parted_ready Plain c xi sound parts grid) in
    let b = run.ends in record {
      first = record { defined = run.defined; ends = holds_first c (parted_bases c (loaded c xi)) (loaded c xi) _ (record { entries = b.entries; rows = b.rows; high_entries = b.high_entries; high_rows = b.high_rows }) b.multipliers b.sums };
      next = λ k e l h. steps c xi k e sound parts grid l h;
    }

solves : (c : Numbers) (xi : List ℤ) → IsController c → HasParts Plain c → IsAdmissible c xi → SolvesTo (parted_program Plain c) xi (averaged_plan c xi) (inputs_of c.inputs c.steps (averaged_plan c xi))
solves c xi sound parts grid =
    let sized = sound.form.sized in
    let n = length c.offsets in
    solves_to (is_needed c) (whole_parted Plain c) xi (averaged_plan c xi) (λ k. Holds c (parted_bases c (loaded c xi)) (after c (loaded c xi) k)) c.inputs c.steps (entry_top c)
    (record {
      tracks = tracks c xi sound parts grid;
      closed = parted_closed Plain c;
      outputs = outputs_needed c (range_with_len 0 n);
      puts_out = λ e h. sums_held e n (averaged_plan c xi) (after_sums_length c (loaded c xi) c.steps) h.sums;
      summed = run_sums c xi sound grid parts.sums;
      averages = refl;
    })
    (state_fits c xi (λ i l. sized.low i (pos 0) (omega (arith, l, sized.shaped.low))) (λ i l. sized.high i (pos 0) (omega (arith, l, sized.shaped.high))) grid)
    (none_outside c (parted_program Plain c) xi (record { low = refl; high = refl }) sized.shaped.low grid)

-- ---- the accelerated machine
fast_steps : (c : Numbers) (xi : List ℤ) (k : ℕ) (e : Environment) → IsFastController c → HasParts Accelerated c → IsAdmissible c xi → k < c.steps → Made c (parted_bases c (loaded c xi)) xi k e →
    Runs (parted_kinds Accelerated c) e (parted_body Accelerated c) (Made c (parted_bases c (loaded c xi)) xi (suc k))
unfolding Made
fast_steps c xi k e sound parts grid l h =
    let state = loaded c xi in
    let B = parted_bases c state in
    let same : fast_after c state (suc k) ≡ fast_step c state k (fast_after c state k) = rw add-one at (fast_after_suc c state k) in
    subst (λ (made : FastIterate). Runs (parted_kinds Accelerated c) e (parted_body Accelerated c) (FastHolds c B (suc k) made)) (sym same)
    (fast_parted_body_runs c state k (fast_after c state k) e (parted_ready Accelerated c xi sound parts grid) (fast_step_fits c xi k sound grid parts.moved parts.sums parts.reached l) h)

fast_tracks : (c : Numbers) (xi : List ℤ) → IsFastController c → HasParts Accelerated c → IsAdmissible c xi → Tracks (whole_parted Accelerated c) xi (Made c (parted_bases c (loaded c xi)) xi)
fast_tracks c xi sound parts grid =
    let run = parted_before_runs Accelerated c xi (parted_ready Accelerated c xi sound parts grid) in
    let b = run.ends.begun.before in record {
      first = record { defined = run.defined; ends = made_first c (parted_bases c (loaded c xi)) xi (AllPartedBegun c xi) _ run.ends (record { entries = b.entries; rows = b.rows; high_entries = b.high_entries; high_rows = b.high_rows }) b.sums };
      next = λ k e l h. fast_steps c xi k e sound parts grid l h;
    }

fast_solves : (c : Numbers) (xi : List ℤ) → IsFastController c → HasParts Accelerated c → IsAdmissible c xi →
    SolvesTo (parted_program Accelerated c) xi (fast_plan c xi) (inputs_of c.inputs (all_weights c.steps) (fast_plan c xi))
unfolding Made
fast_solves c xi sound parts grid =
    let sized = sound.form.sized.rest in
    let n = length c.offsets in
    solves_to (is_needed c) (whole_parted Accelerated c) xi (fast_plan c xi) (Made c (parted_bases c (loaded c xi)) xi) c.inputs (all_weights c.steps) (entry_top c)
    (record {
      tracks = fast_tracks c xi sound parts grid;
      closed = parted_closed Accelerated c;
      outputs = outputs_needed c (range_with_len 0 n);
      puts_out = λ e h. sums_held e n (fast_plan c xi) (ready_law c xi sound grid c.steps).entries.sums_long h.sums;
      summed = fast_run_sums c xi sound grid parts.sums;
      averages = refl;
    })
    (state_fits c xi (λ i l. sized.low i (pos 0) (omega (arith, l, sized.shaped.low))) (λ i l. sized.high i (pos 0) (omega (arith, l, sized.shaped.high))) grid)
    (none_outside c (parted_program Accelerated c) xi (record { low = refl; high = refl }) sized.shaped.low grid)

-- ---- the laws
pub parted_program_law : PartedProgramLaw
parted_program_law Plain c sound parts = record {
  inside = λ xi grid. solves c xi sound parts grid;
  outside = λ xi size not. refuses c (parted_program Plain c) xi (record { low = refl; high = refl }) sound.form.sized.shaped.low size not;
}
parted_program_law Accelerated c sound parts = record {
  inside = λ xi grid. fast_solves c xi sound parts grid;
  outside = λ xi size not. refuses c (parted_program Accelerated c) xi (record { low = refl; high = refl }) sound.form.sized.rest.shaped.low size not;
}

-- of at most 64 bits
narrow : ProgramLaw → FastProgramLaw → (m : Machine) (c : Numbers) → IsControllerFor m c → c.width ≤ 64 → IsProgramFor c (program_for m c) (numerators_for m c) (plans_for m c)
narrow law fast Plain c sound h = law c sound h
narrow law fast Accelerated c sound h = fast c sound h

pub written_program_law : ProgramLaw → FastProgramLaw → PartedProgramLaw → WrittenProgramLaw
written_program_law law fast parted m c sound has =
    cond_both (is_parted c) (parted_program m c) (program_for m c) (λ p. IsProgramFor c p (numerators_for m c) (plans_for m c))
    (λ t. elim has [
      | inl short ↦ absurd (omega (arith, short, ltb-true 64 c.width t))
      | inr parts ↦ parted m c sound parts
    ])
    (λ f. narrow law fast m c sound (omega (arith, ltb-false 64 c.width f)))
