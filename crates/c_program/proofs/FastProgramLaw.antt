-- The program of an accelerated controller, run from a state of the box, puts out the averaged plan's numerators, and of these the averaged first inputs.
use Rattle.std.proofs.Common.{◌≡◌, ℕ, suc, ◌+◌, ◌-◌, ◌^◌, ◌<◌, ◌≤◌, ℤ, pos, ◌*ℤ◌, List, length, refl, sym, subst, ◌∙◌, arith, add-one, le_refl}
use Rattle.std.specs.List.{range_with_len}
use Rattle.std.proofs.lemmas.Nat.{mul-le}
use Rattle.std.proofs.lemmas.List.{length-map}
use Rattle.std.proofs.Math.Pow.{pow_mono}
use Rattle.integer_algebra.specs.Division.{ceil_div}
use Rattle.qp_model.specs.machine.Controller.{Numbers}
use Rattle.qp_model.specs.machine.Machine.{IsAdmissible, loaded}
use Rattle.qp_model.specs.machine.AbsoluteSums.{row_absolute_sum}
use Rattle.qp_model.proofs.MagnitudeLaws.{zeros_at}
use Rattle.overflow_check.specs.FastMachine.{FastIterate, all_weights, fast_step, fast_after, fast_plan}
use Rattle.overflow_check.specs.FastController.{IsFastController, moved_magnitude, reached_magnitude, fast_sum_magnitude}
use Rattle.fast_machine.proofs.WeightSums.{twice_weights}
use Rattle.fast_machine.proofs.FastRuns.{grid_within, ready_law, fast_after_suc, fast_after_zero}
use Rattle.fast_machine.proofs.FastSums.{FastSumsFit, fast_sums_fit}
use Rattle.c_language.specs.Syntax.Family.{Sum}
use Rattle.c_language.specs.Meaning.{Environment}
use Rattle.c_program.specs.Of.{entry_top, is_needed}
use Rattle.c_program.specs.FastOf.{fast_sizes, fast_body, whole_fast_program, fast_program_of}
use Rattle.c_program.specs.Laws.{inputs_of, SolvesTo, FastProgramLaw}
use Rattle.c_language.proofs.Runs.{Runs}
use Rattle.c_program.proofs.Parts.{Ready}
use Rattle.c_program.proofs.Before.{OfBases, held_bases, whole_bases, kinds, FastBegun, AllBegun, fast_before_runs}
use Rattle.c_program.proofs.FastMeans.{FastStepFits, FastHolds}
use Rattle.c_program.proofs.FastStep.{fast_body_runs}
use Rattle.c_program.proofs.ProgramNeeds.{fast_program_closed, outputs_needed}
use Rattle.c_program.proofs.Box.{none_outside, refuses}
use Rattle.c_program.proofs.Solving.{state_fits, Tracks, sums_held, AreSums, solves_to}

-- ---- a controller of at most 64 bits and a state of its box
fit : (c : Numbers) → IsFastController c → c.width ≤ 64 → FastSumsFit c (2 ^ 63 - 1)
fit c sound narrow =
    let power : 2 ^ (c.width - 1) ≤ 2 ^ 63 = pow_mono {i = c.width - 1} {j = 63} (omega (arith, narrow)) in
    fast_sums_fit c (2 ^ 63 - 1) (omega (arith, sound.fit, power))

-- no run has more steps than weight
steps_le : (n : ℕ) → n ≤ all_weights n
steps_le n = omega (arith, twice_weights n)

ready : (c : Numbers) (xi : List ℤ) → IsFastController c → c.width ≤ 64 → IsAdmissible c xi → Ready c (loaded c xi)
ready c xi sound narrow grid =
    let sized = sound.form.sized.rest in
    let s = sized.shaped in
    let f = fit c sound narrow in
    record {
      shaped = record {
        exponents = s.exponents;
        low = s.low;
        high = s.high;
        state_gains = s.state_gains;
        offsets = s.offsets;
        dual_gains = s.dual_gains;
        plan_rows = s.plan_rows;
        state_rows = s.state_rows;
        bounds = s.bounds;
      };
      fit = record {
        states = f.states;
        entries = f.entries;
        rows = f.rows;
        next = λ i l. let z = ceil_div (row_absolute_sum c i) (2 ^ c.fraction_bits) in omega (arith, f.moved i l, mul-le 1 z (c.steps + 1) z (omega arith) (le_refl z));
        sums = λ j l. omega (arith, f.sums j l, mul-le c.steps (entry_top c j) (all_weights c.steps) (entry_top c j) (steps_le c.steps) (le_refl (entry_top c j)));
      };
      nonneg = sized.clamp_low;
      short = sized.fraction_bits.1;
      within = grid_within c xi sound grid;
      long = length-map xi (λ x. x *ℤ pos (2 ^ (c.fraction_bits - c.grid_bits))) ∙ grid.long;
    }

-- ---- the run
pub fast_step_fits : (c : Numbers) (xi : List ℤ) (k : ℕ) → IsFastController c → IsAdmissible c xi → ((i : ℕ) → i < length c.bounds → moved_magnitude c i < 2 ^ 63) →
    ((j : ℕ) → j < length c.offsets → fast_sum_magnitude c j < 2 ^ 63) → reached_magnitude c < 2 ^ 63 → k < c.steps → FastStepFits c k (fast_after c (loaded c xi) k)
fast_step_fits c xi k sound grid moved sums reached l = record {
  nonneg = sound.form.sized.rest.clamp_low;
  moved = moved;
  sums = sums;
  reached = reached;
  inside = l;
  few = omega (arith, sound.form.sized.steps.1);
  before = ready_law c xi sound grid k;
}

unfoldable pub Made : Numbers → OfBases → List ℤ → ℕ → Environment → Type 0
Made c B xi k = FastHolds c B k (fast_after c (loaded c xi) k)

pub made_first : (c : Numbers) (B : OfBases) (xi : List ℤ) (F : Environment → Type 0) (e : Environment) → FastBegun c F e → held_bases B e → ((j : ℕ) → j < length c.offsets → e Sum j ≡ pos 0) → Made c B xi 0 e
unfolding Made
made_first c B xi F e b bases sums =
    subst (λ (made : FastIterate). FastHolds c B 0 made e) (sym (fast_after_zero c (loaded c xi))) (record {
      bases = bases;
      own = λ i l. b.begun.own i l ∙ sym (zeros_at (length c.bounds) i);
      reached = λ i l. b.begun.reached i l ∙ sym (zeros_at (length c.bounds) i);
      sums = λ j l. sums j l ∙ sym (zeros_at (length c.offsets) j);
      weight = b.weight;
      scale = λ t. let first = b.scale t in record { bits = 1; shifts = first.0; powers = first.1; low = omega arith; high = omega arith };
    })

steps : (c : Numbers) (xi : List ℤ) (k : ℕ) (e : Environment) → IsFastController c → c.width ≤ 64 → IsAdmissible c xi → k < c.steps → Made c (whole_bases c (loaded c xi)) xi k e →
    Runs (kinds c (fast_sizes c)) e (fast_body c) (Made c (whole_bases c (loaded c xi)) xi (suc k))
unfolding Made
steps c xi k e sound narrow grid l h =
    let B = whole_bases c (loaded c xi) in
    let same : fast_after c (loaded c xi) (suc k) ≡ fast_step c (loaded c xi) k (fast_after c (loaded c xi) k) = rw add-one at (fast_after_suc c (loaded c xi) k) in
    let f = fit c sound narrow in
    subst (λ (made : FastIterate). Runs (kinds c (fast_sizes c)) e (fast_body c) (FastHolds c B (suc k) made)) (sym same)
    (fast_body_runs c (loaded c xi) k (fast_after c (loaded c xi) k) e (record {
      ready = ready c xi sound narrow grid;
      fits = fast_step_fits c xi k sound grid (λ i m. omega (arith, f.moved i m)) (λ j m. omega (arith, f.sums j m)) (omega (arith, f.reached)) l;
    }) h)

tracks : (c : Numbers) (xi : List ℤ) → IsFastController c → c.width ≤ 64 → IsAdmissible c xi → Tracks (whole_fast_program c) xi (Made c (whole_bases c (loaded c xi)) xi)
tracks c xi sound narrow grid =
    let run = fast_before_runs c (fast_sizes c) xi (ready c xi sound narrow grid) in
    let b = run.ends.begun.before in record {
      first = record { defined = run.defined; ends = made_first c (whole_bases c (loaded c xi)) xi (AllBegun c xi) _ run.ends (record { entries = b.entries; rows = b.rows }) b.sums };
      next = λ k e l h. steps c xi k e sound narrow grid l h;
    }

-- ---- the averages
some_weights : (n : ℕ) → 1 ≤ n → 1 ≤ all_weights n
some_weights n h = omega (arith, steps_le n, h)

few_weights : (n : ℕ) → n ≤ 65534 → all_weights n < 2 ^ 32
few_weights n h = omega (arith, twice_weights n, mul-le n (n + 3) 65534 65537 h (omega (arith, h)))

pub fast_run_sums : (c : Numbers) (xi : List ℤ) → IsFastController c → IsAdmissible c xi → ((j : ℕ) → j < length c.offsets → fast_sum_magnitude c j < 2 ^ 63) →
    AreSums c.inputs (all_weights c.steps) (entry_top c) (fast_plan c xi)
fast_run_sums c xi sound grid room =
    let sized = sound.form.sized.rest in
    let inside : (j : ℕ) → j < c.inputs → j < length c.offsets = λ j l. omega (arith, l, sized.shaped.offsets, mul-le c.inputs 1 c.inputs c.stages (le_refl c.inputs) sized.stages.0) in
    record {
      some = some_weights c.steps sound.form.sized.steps.0;
      few = few_weights c.steps sound.form.sized.steps.1;
      each = λ j l. (ready_law c xi sound grid c.steps).entries.each j (inside j l);
      room = λ j l. room j (inside j l);
    }

-- ---- the whole
solves : (c : Numbers) (xi : List ℤ) → IsFastController c → c.width ≤ 64 → IsAdmissible c xi →
    SolvesTo (fast_program_of c) xi (fast_plan c xi) (inputs_of c.inputs (all_weights c.steps) (fast_plan c xi))
unfolding Made
solves c xi sound narrow grid =
    let sized = sound.form.sized.rest in
    let n = length c.offsets in
    solves_to (is_needed c) (whole_fast_program c) xi (fast_plan c xi) (Made c (whole_bases c (loaded c xi)) xi) c.inputs (all_weights c.steps) (entry_top c)
    (record {
      tracks = tracks c xi sound narrow grid;
      closed = fast_program_closed c;
      outputs = outputs_needed c (range_with_len 0 n);
      puts_out = λ e h. sums_held e n (fast_plan c xi) (ready_law c xi sound grid c.steps).entries.sums_long h.sums;
      summed = fast_run_sums c xi sound grid (λ j l. omega (arith, (fit c sound narrow).sums j l));
      averages = refl;
    })
    (state_fits c xi (λ i l. sized.low i (pos 0) (omega (arith, l, sized.shaped.low))) (λ i l. sized.high i (pos 0) (omega (arith, l, sized.shaped.high))) grid)
    (none_outside c (fast_program_of c) xi (record { low = refl; high = refl }) sized.shaped.low grid)

pub fast_program_law : FastProgramLaw
fast_program_law c sound narrow = record {
  inside = λ xi grid. solves c xi sound narrow grid;
  outside = λ xi size not. refuses c (fast_program_of c) xi (record { low = refl; high = refl }) sound.form.sized.rest.shaped.low size not;
}
