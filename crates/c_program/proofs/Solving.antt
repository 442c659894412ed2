-- A program of a controller, with what its variables keep repetition by repetition: C defines its run, it puts out sums, and of these the averages.
use Rattle.std.proofs.Common.{◌≡◌, ℕ, ◌^◌, ◌<◌, ◌≤◌, ◌≢◌, ◌==◌, ◌*◌, true≢false, false, ℤ, pos, ◌≤ℤ◌, Bool, suc, List, length, map, unsigned_abs, refl, sym, ap, subst, ◌∙◌, arith, le_refl, inl, inr}
use Rattle.std.specs.List.{range_with_len}
use Rattle.std.specs.Prelude.{All}
use Rattle.std.specs.Int.{w32, trailing_zeros}
use Rattle.std.specs.Int.Count.{count_trailing_zeros}
use Rattle.std.proofs.lemmas.Int.{ints}
use Rattle.std.proofs.lemmas.Bool.{cases_lt, cond_both, eqb-true}
use Rattle.std.proofs.lemmas.Nat.{trailing_le}
use Rattle.std.proofs.lemmas.List.{ext_get_or}
use Rattle.std.proofs.lemmas.List.Elements.{All-from_get_or}
use Rattle.std.proofs.lemmas.List.FromFn.{length-map-range_with_len, get_or-map-range_with_len}
use Rattle.std.proofs.lemmas.Simd.{map-map}
use Rattle.integer_algebra.specs.Division.{round_of}
use Rattle.integer_algebra.specs.Sums.{at}
use Rattle.qp_model.specs.machine.Controller.{Numbers}
use Rattle.qp_model.specs.machine.Machine.{IsAdmissible}
use Rattle.qp_model.specs.machine.ValuesMet.{FitsWidth}
use Rattle.c_language.specs.Syntax.{Variable, variable, Expression, CProgram}
use Rattle.c_language.specs.Syntax.Family.{Sum, Output}
use Rattle.c_language.specs.Syntax.Expression.{Value}
use Rattle.c_language.specs.Meaning.{Environment, held, value, IsDefined, all_done, begun, after_rounds, outcome_at, first_outside, handed, IsDefinedRun}
use Rattle.c_language.specs.Meaning.Outcome.{Solved}
use Rattle.c_language.specs.Needed.{needed_part}
use Rattle.c_program.specs.Of.{shifted_average, divided_average, average_of}
use Rattle.c_program.specs.Laws.{inputs_of, SolvesTo}
use Rattle.c_language.proofs.Runs.{Runs, repeats}
use Rattle.c_program.proofs.Terms.{Makes, makes_same, makes_value}
use Rattle.c_program.proofs.Rounding.{shifted_made, divided_made}
use Rattle.c_language.proofs.LeftIn.{IsClosed, AreNeeded, rounds_agree, part_defined, outputs_agree}

-- ---- the state
-- each number of it can be handed in
pub state_fits : (c : Numbers) (xi : List ℤ) → ((i : ℕ) → i < c.states → unsigned_abs (at c.low i) < 2 ^ 31) → ((i : ℕ) → i < c.states → unsigned_abs (at c.high i) < 2 ^ 31) →
    IsAdmissible c xi → All (FitsWidth 32) xi
state_fits c xi low high grid =
    All-from_get_or (FitsWidth 32) xi (pos 0) (λ i l.
    let inside : i < c.states = omega (arith, l, grid.long) in
    between (at c.low i) (at xi i) (at c.high i) (grid.each i inside).low (grid.each i inside).high (low i inside) (high i inside))
  where
    between : (low x high : ℤ) → low ≤ℤ x → x ≤ℤ high → unsigned_abs low < 2 ^ 31 → unsigned_abs high < 2 ^ 31 → FitsWidth 32 x
    between low x high h k l m = record { low = omega (arith, ints, h, k, l, m); high = omega (arith, ints, h, k, l, m) }

-- ---- the run
-- what the variables hold before each repetition, and after the last
pub record Tracks (p : CProgram) (xi : List ℤ) (H : ℕ → Environment → Type 0) : Type 0 where
  pub first : Runs p.kind (begun xi) p.before (H 0)
  pub next : (k : ℕ) (e : Environment) → k < p.repetitions → H k e → Runs p.kind e p.body (H (suc k))

holds_after : (p : CProgram) (xi : List ℤ) (H : ℕ → Environment → Type 0) → Tracks p xi H → (k : ℕ) → k ≤ p.repetitions → H k (after_rounds p xi k)
holds_after p xi H t k l = repeats p.kind p.body H p.repetitions (all_done (begun xi) p.before) t.first.ends (λ k e m h. t.next k e m h) k (omega (arith, l))

whole_defined : (p : CProgram) (xi : List ℤ) (H : ℕ → Environment → Type 0) → Tracks p xi H → IsDefinedRun p xi
whole_defined p xi H t = record { before = t.first.defined; body = λ k l. (t.next k _ l (holds_after p xi H t k (omega (arith, l)))).defined }

-- ---- what is put out
pub sums_held : (e : Environment) (n : ℕ) (sums : List ℤ) → length sums ≡ n → ((j : ℕ) → j < n → e Sum j ≡ at sums j) → map (held e) (map (variable Sum) (range_with_len 0 n)) ≡ sums
sums_held e n sums long h =
    let new = length-map-range_with_len (e Sum) 0 n in
    map-map (held e) (variable Sum) (range_with_len 0 n) ∙
    ext_get_or (pos 0) (map (e Sum) (range_with_len 0 n)) sums (new ∙ sym long) (λ j l.
    let inside : j < n = omega (arith, l, new) in get_or-map-range_with_len (e Sum) 0 n j j (pos 0) inside (omega arith) ∙ h j inside)

-- ---- the averages
-- one step is a power of two
not_one : (n : ℕ) → (n == 2 ^ trailing_zeros w32 n) ≡ false → n ≢ 1
unfolding count_trailing_zeros
not_one n f e = true≢false (subst (λ (m : ℕ). (m == 2 ^ trailing_zeros w32 m) ≡ false) e f)

-- sums over so many plans, of so many inputs
pub record AreSums (inputs steps : ℕ) (top : ℕ → ℕ) (sums : List ℤ) : Type 0 where
  pub some : 1 ≤ steps
  pub few : steps < 2 ^ 32
  pub each : (j : ℕ) → j < inputs → unsigned_abs (at sums j) ≤ steps * top j
  pub room : (j : ℕ) → j < inputs → steps * top j < 2 ^ 63

average_made : (inputs steps : ℕ) (top : ℕ → ℕ) (sums : List ℤ) (j : ℕ) → AreSums inputs steps top sums → j < inputs →
    Makes (handed sums) (average_of steps j) (round_of (at sums j) steps) (2 ^ 63)
average_made inputs steps top sums j s l =
    let e = handed sums in
    let z = at sums j in
    let sum = Value (variable Output j) in
    let most = steps * top j in
    let room : most < 2 ^ 63 = s.room j l in
    let made = makes_value e (variable Output j) z most refl (s.each j l) room in
    let k = trailing_zeros w32 steps in
    let short : k ≤ 32 = trailing_le 32 steps in
    cond_both (steps == 2 ^ k) (shifted_average sum steps k) (divided_average sum steps) (λ a. Makes e a (round_of z steps) (2 ^ 63))
    (λ t. shifted_made e sum z steps (top j) k made room (eqb-true steps (2 ^ k) t) (omega (arith, short)))
    (λ f. divided_made e sum z steps (makes_same e sum z z _ _ made refl (omega (arith, room))) (more steps s.some (not_one steps f)) s.few)
  where
    more : (n : ℕ) → 1 ≤ n → n ≢ 1 → 2 ≤ n
    more n h k = elim (cases_lt n 2) [
      | inl less ↦ absurd (k (let e : n ≡ 1 = omega (arith, h, less) in e))
      | inr le ↦ le
    ]

averages_defined : (inputs steps : ℕ) (top : ℕ → ℕ) (sums : List ℤ) → AreSums inputs steps top sums → All (IsDefined (handed sums)) (map (average_of steps) (range_with_len 0 inputs))
averages_defined inputs steps top sums s =
    let e = handed sums in
    let new = average_of steps in
    All-from_get_or (IsDefined e) (map new (range_with_len 0 inputs)) (new 0) (λ j l.
    let inside : j < inputs = omega (arith, l, length-map-range_with_len new 0 inputs) in
    subst (IsDefined e) (sym (get_or-map-range_with_len new 0 inputs j j (new 0) inside (omega arith))) (average_made inputs steps top sums j s inside).defined)

averages_are : (inputs steps : ℕ) (top : ℕ → ℕ) (sums : List ℤ) → AreSums inputs steps top sums →
    map (value (handed sums)) (map (average_of steps) (range_with_len 0 inputs)) ≡ inputs_of inputs steps sums
averages_are inputs steps top sums s =
    let e = handed sums in
    let n = inputs in
    let made = λ (j : ℕ). value e (average_of steps j) in
    let round = λ (j : ℕ). round_of (at sums j) steps in
    map-map (value e) (average_of steps) (range_with_len 0 n) ∙
    ext_get_or (pos 0) (map made (range_with_len 0 n)) (map round (range_with_len 0 n)) (length-map-range_with_len made 0 n ∙ sym (length-map-range_with_len round 0 n)) (λ j l.
    let inside : j < n = omega (arith, l, length-map-range_with_len made 0 n) in
    get_or-map-range_with_len made 0 n j j (pos 0) inside (omega arith) ∙ (average_made inputs steps top sums j s inside).is ∙
    sym (get_or-map-range_with_len round 0 n j j (pos 0) inside (omega arith)))

-- ---- the whole
-- what is needed of the program reaches its outputs, which are the sums of so many plans
pub record Solving (needed : Variable → Bool) (p : CProgram) (xi sums : List ℤ) (H : ℕ → Environment → Type 0) (inputs steps : ℕ) (top : ℕ → ℕ) : Type 0 where
  pub tracks : Tracks p xi H
  pub closed : IsClosed needed p
  pub outputs : AreNeeded needed p.outputs
  pub puts_out : (e : Environment) → H p.repetitions e → map (held e) p.outputs ≡ sums
  pub summed : AreSums inputs steps top sums
  pub averages : p.averages ≡ map (average_of steps) (range_with_len 0 inputs)

outputs_are : (needed : Variable → Bool) (p : CProgram) (xi sums : List ℤ) (H : ℕ → Environment → Type 0) (inputs steps : ℕ) (top : ℕ → ℕ) → Solving needed p xi sums H inputs steps top →
    map (held (after_rounds (needed_part needed p) xi p.repetitions)) p.outputs ≡ sums
outputs_are needed p xi sums H inputs steps top s =
    let n = p.repetitions in
    sym (outputs_agree needed (after_rounds p xi n) (after_rounds (needed_part needed p) xi n) p.outputs
    (rounds_agree needed p xi s.closed (whole_defined p xi H s.tracks) n (le_refl n)) s.outputs) ∙
    s.puts_out (after_rounds p xi n) (holds_after p xi H s.tracks n (le_refl n))

pub solves_to : (needed : Variable → Bool) (p : CProgram) (xi sums : List ℤ) (H : ℕ → Environment → Type 0) (inputs steps : ℕ) (top : ℕ → ℕ) → Solving needed p xi sums H inputs steps top →
    All (FitsWidth 32) xi → first_outside (needed_part needed p) xi ≡ 0 → SolvesTo (needed_part needed p) xi sums (inputs_of inputs steps sums)
solves_to needed p xi sums H inputs steps top s fits none = record {
  state = fits;
  run = part_defined needed p xi s.closed (whole_defined p xi H s.tracks);
  outcome = ap (outcome_at (needed_part needed p) xi) none ∙ ap Solved (outputs_are needed p xi sums H inputs steps top s);
  averaged = subst (All (IsDefined (handed sums))) (sym s.averages) (averages_defined inputs steps top sums s.summed);
  averages = ap (λ (made : List Expression). map (value (handed sums)) made) s.averages ∙ averages_are inputs steps top sums s.summed;
}
