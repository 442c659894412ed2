-- The states of a run in enclosures, as code makes them.
use Rattle.std.proofs.Common.{◌≡◌, ℕ, ◌+◌, ◌-◌, ◌*◌, ◌^◌, ◌<◌, ◌≤◌, ◌++◌, inl, inr, List, ℤ, pos, ◌≤ℤ◌, length, take, drop, add-one, subst, arith, sym, ◌∙◌, refl}
use Rattle.std.proofs.lemmas.Int.{ints}
use Rattle.std.proofs.lemmas.Bool.{cases_lt, lt-ltb, le-ltb}
use Rattle.std.proofs.Math.Nat.{mul-le-mul_left}
use Rattle.frac_scaled.specs.Enclosures.{Enclosure}
use Rattle.mat_int.specs.Enclosures.{combined, combination_magnitude}
use Rattle.enclosure.specs.declared.types.Enc.{Enc}
use Rattle.enclosure.specs.Values.{pair_at}
use Rattle.qp_model.specs.problem.Design.{Design, entries}
use Rattle.qp_model.specs.form.Quantities.{growth}
use Rattle.qp_model.specs.form.FineForm.{followed, fine_run}
use Rattle.scaled_run.specs.Lists.{HoldsEnclosures, Reaches}
use Rattle.scaled_run.proofs.Rooms.{run_room}
use Rattle.scaled_run.proofs.ListFacts.{flat_run, flat_at, part, appended, magnitude_same, combined_same}

-- ---- parts of lists
-- the state at a stage, cut from all states
pub stage_part : (d : Design) (x v : ℕ → Enclosure) (states lent : List Enc) (k m : ℕ) → lent ≡ states → k < m → HoldsEnclosures states (m * d.states) (flat_run d x v) →
    HoldsEnclosures (take (k * d.states + d.states - k * d.states) (drop (k * d.states) lent)) d.states (fine_run d x v k)
stage_part d x v states lent k m e l h = rw e (part states (k * d.states) d.states (m * d.states) (flat_run d x v) (fine_run d x v k) (room k m d.states l) (λ i o. flat_at d x v k i o) h)
  where
    room : (k m n : ℕ) → k < m → k * n + n ≤ m * n
    room k m n l = omega (arith, mul-le-mul_left n l)

-- the input there, cut from the plan
pub input_part : (plan lent : List Enc) (stages inputs k : ℕ) → lent ≡ plan → length plan ≡ stages * inputs → k < stages →
    HoldsEnclosures (take (k * inputs + inputs - k * inputs) (drop (k * inputs) lent)) inputs (λ l. pair_at plan (k * inputs + l))
input_part plan lent stages inputs k e long l = rw e (part plan (k * inputs) inputs (stages * inputs) (pair_at plan) (λ l. pair_at plan (k * inputs + l)) (room k stages inputs l)
    (λ i o. refl) (record { long = long; is = λ i o. refl }))
  where
    room : (k m n : ℕ) → k < m → k * n + n ≤ m * n
    room k m n l = omega (arith, mul-le-mul_left n l)

pub next : (k : ℕ) → k < k + 1
next k = omega arith

-- ---- the next state
module _ (d : Design) (x v : ℕ → Enclosure) (k : ℕ) (inside : k < d.stages) (state input : List Enc) (hs : HoldsEnclosures state d.states (fine_run d x v k))
    (hu : HoldsEnclosures input d.inputs (λ l. v (k * d.inputs + l))) where
  number : (j : ℕ) → j < d.states + d.inputs → followed d.states (pair_at state) (pair_at input) j ≡ followed d.states (fine_run d x v k) (λ l. v (k * d.inputs + l)) j
  number j l = elim (cases_lt j d.states) [
    | inl m ↦ rw (lt-ltb j d.states m) (hs.is j m)
    | inr m ↦ rw (le-ltb j d.states m) (hu.is (j - d.states) (omega arith))
  ]

  -- the sums fit
  pub states_room : (reach : ℕ) → ((k i : ℕ) → k ≤ d.stages → i < d.states → Reaches (fine_run d x v k i) reach) → ((j : ℕ) → j < entries d → Reaches (v j) reach) →
      growth d * reach ≤ 2 ^ 126 →
      (i : ℕ) → i < d.states → combination_magnitude (d.states + d.inputs) (followed d.states (d.plant_a i) (d.plant_b i)) (followed d.states (pair_at state) (pair_at input)) ≤ℤ pos (2 ^ 126)
  states_room reach hr hv fits i l = rw (magnitude_same (d.states + d.inputs) (followed d.states (d.plant_a i) (d.plant_b i)) (followed d.states (d.plant_a i) (d.plant_b i)) _ _
      (λ j o. refl) number) (under (run_room d x v reach hr hv k i inside l) fits)
    where
      under : {z : ℤ} {m n : ℕ} → z ≤ℤ pos m → m ≤ n → z ≤ℤ pos n
      under h k = omega (arith, ints, h, k)

  -- the next state is the run's
  pub next_states : (states new next : List Enc) → new ≡ states ++ next →
      HoldsEnclosures next d.states
      (λ i. combined (d.states + d.inputs) (followed d.states (d.plant_a i) (d.plant_b i)) (followed d.states (pair_at state) (pair_at input)) d.plant_denominator) →
      HoldsEnclosures states ((k + 1) * d.states) (flat_run d x v) → HoldsEnclosures new ((k + 1 + 1) * d.states) (flat_run d x v)
  next_states states new next e n p = subst (λ (m : ℕ). HoldsEnclosures new m (flat_run d x v)) (more (k + 1) d.states)
      (appended states new next ((k + 1) * d.states) d.states (flat_run d x v) e (record { long = n.long; is = λ i l. n.is i l ∙ value i ∙ sym (flat_at d x v (k + 1) i l) }) p)
    where
      more : (k n : ℕ) → k * n + n ≡ (k + 1) * n
      more k n = omega arith

      value : (i : ℕ) → combined (d.states + d.inputs) (followed d.states (d.plant_a i) (d.plant_b i)) (followed d.states (pair_at state) (pair_at input)) d.plant_denominator ≡
          fine_run d x v (k + 1) i
      value i = rw add-one (combined_same (d.states + d.inputs) (followed d.states (d.plant_a i) (d.plant_b i)) (followed d.states (d.plant_a i) (d.plant_b i)) _ _ d.plant_denominator
          (λ j o. refl) number)
