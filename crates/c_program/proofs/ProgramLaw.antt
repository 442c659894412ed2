-- The program of a controller, run from a state of the box, puts out the averaged plan's numerators, and of these the averaged first inputs.
use Rattle.std.proofs.Common.{◌≡◌, ℕ, zero, suc, ◌+◌, ◌-◌, ◌^◌, ◌<◌, ◌≤◌, ℤ, pos, ◌+ℤ◌, ◌*ℤ◌, ◌≤ℤ◌, List, length, map, refl, sym, subst, ◌∙◌, arith, add-one, le_refl, inl, inr}
use Rattle.std.specs.List.{range_with_len}
use Rattle.std.specs.Int.{int_max, int_min}
use Rattle.std.proofs.lemmas.Int.{ints, clamps}
use Rattle.std.proofs.lemmas.Bool.{cases_lt}
use Rattle.std.proofs.lemmas.Nat.{mul-le}
use Rattle.std.proofs.lemmas.List.{length-map, get_or_past}
use Rattle.std.proofs.lemmas.List.FromFn.{length-map-range_with_len, get_or-map-range_with_len}
use Rattle.std.proofs.Math.Pow.{pow_mono}
use Rattle.integer_algebra.specs.Division.{floor_of}
use Rattle.integer_algebra.specs.Sums.{at}
use Rattle.qp_model.specs.machine.Controller.{Numbers}
use Rattle.qp_model.specs.machine.Machine.{Iterate, IsAdmissible, averaged_plan, loaded, raised, top_of, plan_of, row_sum, next_multiplier, step_of, after}
use Rattle.qp_model.specs.machine.AbsoluteSums.{IsController, state_magnitudes, next_magnitude, sum_magnitude}
use Rattle.qp_model.specs.machine.Within.{AreWithin}
use Rattle.qp_model.proofs.MagnitudeLaws.{state_within, after_tops, zeros_at, top_nonneg}
use Rattle.overflow_check.proofs.SumLaws.{sums_fit}
use Rattle.overflow_check.proofs.Runs.{after_sums_le, after_sums_length, after_suc, after_zero}
use Rattle.c_language.specs.Syntax.Family.{Multiplier, Sum}
use Rattle.c_language.specs.Meaning.{Environment}
use Rattle.c_program.specs.Of.{plain_sizes, entry_top, repetition_body, program_of, is_needed, whole_program}
use Rattle.c_program.specs.Laws.{inputs_of, SolvesTo, ProgramLaw}
use Rattle.c_language.proofs.Runs.{Runs}
use Rattle.c_program.proofs.Parts.{Ready}
use Rattle.c_program.proofs.Before.{OfBases, held_bases, whole_bases, kinds, before_runs}
use Rattle.c_program.proofs.Step.{StepFits, StepReady, Holds, body_runs}
use Rattle.c_program.proofs.ProgramNeeds.{program_closed, outputs_needed}
use Rattle.c_program.proofs.Box.{none_outside, refuses}
use Rattle.c_program.proofs.Solving.{state_fits, Tracks, sums_held, AreSums, solves_to}

-- ---- a controller of at most 64 bits and a state of its box
ready : (c : Numbers) (xi : List ℤ) → IsController c → c.width ≤ 64 → IsAdmissible c xi → Ready c (loaded c xi)
ready c xi sound narrow grid =
    let sized = sound.form.sized in
    let power : 2 ^ (c.width - 1) ≤ 2 ^ 63 = pow_mono {i = c.width - 1} {j = 63} (omega (arith, narrow)) in
    record {
      shaped = sized.shaped;
      fit = sums_fit c (2 ^ 63 - 1) (omega (arith, sound.fit, power));
      nonneg = sized.clamp_low;
      short = sized.fraction_bits.1;
      within = state_within c xi sized.shaped.low sized.shaped.high grid;
      long = length-map xi (λ x. x *ℤ pos (2 ^ (c.fraction_bits - c.grid_bits))) ∙ grid.long;
    }

-- multipliers are at least 0
clamped_nonneg : (top z : ℤ) → pos 0 ≤ℤ top → pos 0 ≤ℤ int_min top (int_max z (pos 0))
clamped_nonneg top z h = omega (arith, ints, clamps, h)

after_nonneg : (c : Numbers) (state : List ℤ) (k : ℕ) → pos 0 ≤ℤ c.clamp → (i : ℕ) → pos 0 ≤ℤ at (after c state k).multipliers i
unfolding after
after_nonneg c state zero h i = rw (zeros_at (length c.bounds) i) (omega (arith, ints))
after_nonneg c state (suc k) h i =
    let old = (after c state k).multipliers in
    let plan = plan_of c state (raised c old) in
    let new = λ (i : ℕ). next_multiplier c state plan (at old i) i in
    elim (cases_lt i (length c.bounds)) [
      | inl l ↦ rw (get_or-map-range_with_len new 0 (length c.bounds) i i (pos 0) l (omega arith))
          (clamped_nonneg (top_of c i) (at old i +ℤ floor_of (row_sum c state plan i) (2 ^ c.fraction_bits)) (top_nonneg c i h))
      | inr l ↦ rw (get_or_past (map new (range_with_len 0 (length c.bounds))) i (pos 0) (omega (arith, l, length-map-range_with_len new 0 (length c.bounds)))) (omega (arith, ints))
    ]

pub step_fits : (c : Numbers) (state : List ℤ) (k : ℕ) → pos 0 ≤ℤ c.clamp → AreWithin state (state_magnitudes c) → ((i : ℕ) → i < length c.bounds → next_magnitude c i < 2 ^ 63) →
    ((j : ℕ) → j < length c.offsets → sum_magnitude c j < 2 ^ 63) → k < c.steps → StepFits c (after c state k)
step_fits c state k nonneg within next sums l = record {
  nonneg = nonneg;
  next = next;
  sums = sums;
  ranges = record { tops = after_tops c state k nonneg; nonneg = after_nonneg c state k nonneg };
  room = λ j m. omega (arith, after_sums_le c state k j nonneg within m, mul-le (k + 1) (entry_top c j) c.steps (entry_top c j) (omega (arith, l)) (le_refl (entry_top c j)));
}

step_ready : (c : Numbers) (xi : List ℤ) (k : ℕ) → IsController c → c.width ≤ 64 → IsAdmissible c xi → k < c.steps → StepReady c (loaded c xi) (after c (loaded c xi) k)
step_ready c xi k sound narrow grid l =
    let r = ready c xi sound narrow grid in
    record { ready = r; fits = step_fits c (loaded c xi) k r.nonneg r.within (λ i m. omega (arith, r.fit.next i m)) (λ j m. omega (arith, r.fit.sums j m)) l }

-- ---- the run
pub holds_first : (c : Numbers) (B : OfBases) (state : List ℤ) (e : Environment) → held_bases B e → ((i : ℕ) → i < length c.bounds → e Multiplier i ≡ pos 0) →
    ((j : ℕ) → j < length c.offsets → e Sum j ≡ pos 0) → Holds c B (after c state 0) e
holds_first c B state e bases multipliers sums =
    subst (λ (made : Iterate). Holds c B made e) (sym (after_zero c state)) (record {
      bases = bases;
      multipliers = λ i l. multipliers i l ∙ sym (zeros_at (length c.bounds) i);
      sums = λ j l. sums j l ∙ sym (zeros_at (length c.offsets) j);
    })

steps : (c : Numbers) (xi : List ℤ) (k : ℕ) (e : Environment) → IsController c → c.width ≤ 64 → IsAdmissible c xi → k < c.steps →
    Holds c (whole_bases c (loaded c xi)) (after c (loaded c xi) k) e →
    Runs (kinds c (plain_sizes c)) e (repetition_body c) (Holds c (whole_bases c (loaded c xi)) (after c (loaded c xi) (suc k)))
steps c xi k e sound narrow grid l h =
    let same : after c (loaded c xi) (suc k) ≡ step_of c (loaded c xi) (after c (loaded c xi) k) = rw add-one at (after_suc c (loaded c xi) k) in
    subst (λ (made : Iterate). Runs (kinds c (plain_sizes c)) e (repetition_body c) (Holds c (whole_bases c (loaded c xi)) made)) (sym same)
    (body_runs c (loaded c xi) (after c (loaded c xi) k) e (step_ready c xi k sound narrow grid l) h)

tracks : (c : Numbers) (xi : List ℤ) → IsController c → c.width ≤ 64 → IsAdmissible c xi →
    Tracks (whole_program c) xi (λ k. Holds c (whole_bases c (loaded c xi)) (after c (loaded c xi) k))
tracks c xi sound narrow grid =
    let run = before_runs c (plain_sizes c) xi (ready c xi sound narrow grid) in
    let b = run.ends in record {
      first = record { defined = run.defined; ends = holds_first c (whole_bases c (loaded c xi)) (loaded c xi) _ (record { entries = b.entries; rows = b.rows }) b.multipliers b.sums };
      next = λ k e l h. steps c xi k e sound narrow grid l h;
    }

-- ---- the averages
pub run_sums : (c : Numbers) (xi : List ℤ) → IsController c → IsAdmissible c xi → ((j : ℕ) → j < length c.offsets → sum_magnitude c j < 2 ^ 63) →
    AreSums c.inputs c.steps (entry_top c) (averaged_plan c xi)
run_sums c xi sound grid room =
    let sized = sound.form.sized in
    let within = state_within c xi sized.shaped.low sized.shaped.high grid in
    let inside : (j : ℕ) → j < c.inputs → j < length c.offsets = λ j l. omega (arith, l, sized.shaped.offsets, mul-le c.inputs 1 c.inputs c.stages (le_refl c.inputs) sized.stages.0) in
    record {
      some = sized.steps.0;
      few = omega (arith, sized.steps.1);
      each = λ j l. after_sums_le c (loaded c xi) c.steps j sized.clamp_low within (inside j l);
      room = λ j l. room j (inside j l);
    }

-- ---- the whole
solves : (c : Numbers) (xi : List ℤ) → IsController c → c.width ≤ 64 → IsAdmissible c xi → SolvesTo (program_of c) xi (averaged_plan c xi) (inputs_of c.inputs c.steps (averaged_plan c xi))
solves c xi sound narrow grid =
    let sized = sound.form.sized in
    let n = length c.offsets in
    solves_to (is_needed c) (whole_program c) xi (averaged_plan c xi) (λ k. Holds c (whole_bases c (loaded c xi)) (after c (loaded c xi) k)) c.inputs c.steps (entry_top c)
    (record {
      tracks = tracks c xi sound narrow grid;
      closed = program_closed c;
      outputs = outputs_needed c (range_with_len 0 n);
      puts_out = λ e h. sums_held e n (averaged_plan c xi) (after_sums_length c (loaded c xi) c.steps) h.sums;
      summed = run_sums c xi sound grid (λ j l. omega (arith, (ready c xi sound narrow grid).fit.sums j l));
      averages = refl;
    })
    (state_fits c xi (λ i l. sized.low i (pos 0) (omega (arith, l, sized.shaped.low))) (λ i l. sized.high i (pos 0) (omega (arith, l, sized.shaped.high))) grid)
    (none_outside c (program_of c) xi (record { low = refl; high = refl }) sized.shaped.low grid)

pub program_law : ProgramLaw
program_law c sound narrow = record {
  inside = λ xi grid. solves c xi sound narrow grid;
  outside = λ xi size not. refuses c (program_of c) xi (record { low = refl; high = refl }) sound.form.sized.shaped.low size not;
}
