-- What is called for is one.
use Rattle.std.proofs.Common.{◌≡◌, ◌⊎◌, inl, inr, ℕ, ◌+◌, ◌<◌, List, [], ℤ, length, None, Result, Ok, Err, refl, sym, ap, ◌∙◌, subst, arith}
use Rattle.std.proofs.lemmas.Bool.{cases_lt}
use Rattle.mat_int.specs.Matrix.{Matrix, row_of}
use Rattle.qp_model.specs.machine.Controller.{Numbers}
use Rattle.closed_loop.specs.Answers.{LieInside, LeavesAmong}
use Rattle.closed_loop.specs.declared.fault.LoopFault.{LoopFault}
use Rattle.closed_loop.specs.declared.fault.LoopFault.TheVariants as faults
use Rattle.closed_loop.proofs.Showing.{leaves}
use Rattle.command_line.specs.declared.status.Status.{Status}
use Rattle.command_line.specs.declared.status.Status.TheVariants.{OutsideBox}
use Rattle.command_loop.specs.Loop.{Course, AllStay, IsFirstLeaving, IsTurnWide, FitsTurn, LoopsCall}

-- ---- where a loop leaves the box
module _ (c : Numbers) (states : ℕ → List ℤ) (turns : ℕ) where
  never : (r : Result (Unit {0}) LoopFault) (turn coordinate : ℕ) → r ≡ Ok tt → (r ≡ Err (faults.OutsideBox turn coordinate)) ⊎ ((r ≡ Err faults.Memory) ⊎ (r ≡ Err faults.WriteFault)) → ⊥
  never r turn coordinate is (inl e) = cc
  never r turn coordinate is (inr (inl e)) = cc
  never r turn coordinate is (inr (inr e)) = cc

  never_leaves : (turn coordinate : ℕ) → LieInside c states turns → LeavesAmong c states turns turn coordinate → ⊥
  never_leaves turn coordinate stays l = never (Ok tt) turn coordinate refl (leaves c (λ k. []) states turns None None 0 0 (Ok tt) stays tt turn coordinate l)

  same : (r : Result (Unit {0}) LoopFault) (t i u j : ℕ) → r ≡ Err (faults.OutsideBox t i) → (r ≡ Err (faults.OutsideBox u j)) ⊎ ((r ≡ Err faults.Memory) ⊎ (r ≡ Err faults.WriteFault)) → (t ≡ u) × (i ≡ j)
  same r t i u j is (inl e) = (let turn : t ≡ u = cc in turn, let coordinate : i ≡ j = cc in coordinate)
  same r t i u j is (inr (inl e)) = absurd (let never : ⊥ = cc in never)
  same r t i u j is (inr (inr e)) = absurd (let never : ⊥ = cc in never)

  one_leaving : (t i u j : ℕ) → LeavesAmong c states turns t i → LeavesAmong c states turns u j → (t ≡ u) × (i ≡ j)
  one_leaving t i u j a b = same (Err (faults.OutsideBox t i)) t i u j refl (leaves c (λ k. []) states turns None None 0 0 (Err (faults.OutsideBox t i)) tt (a, refl) u j b)

-- ---- which record's loop does first
one : (i j : ℕ) → (i < j → ⊥) → (j < i → ⊥) → i ≡ j
one i j below above = elim (cases_lt i j) [ inl lt ↦ absurd (below lt) | inr ge ↦ elim (cases_lt j i) [ inl lt ↦ absurd (above lt) | inr le ↦ omega arith ] ]

module _ (size : ℕ) (c : Numbers) (l : Course) (m : Matrix) (turns : ℕ) where
  not_stay : (s : Status) (k : ℕ) (out : IsFirstLeaving c l m turns s) → out.index < k → AllStay c l m turns k → ⊥
  not_stay s k out lt stay = never_leaves c (l.states (row_of m out.index)) turns out.turn out.coordinate (stay out.index lt) out.here

  one_first : (t s : Status) → IsFirstLeaving c l m turns t → IsFirstLeaving c l m turns s → t ≡ s
  one_first t s out other =
      let same = one out.index other.index (λ lt. not_stay t other.index out lt other.before) (λ lt. not_stay s out.index other lt out.before) in
      let moved = subst (λ (i : ℕ). LeavesAmong c (l.states (row_of m i)) turns out.turn out.coordinate) same out.here in
      let there = one_leaving c (l.states (row_of m other.index)) turns out.turn out.coordinate other.turn other.coordinate moved other.here in
      out.is ∙ ap (λ (i : ℕ). OutsideBox (i + 1) out.turn out.coordinate) same ∙ ap (λ (k : ℕ). OutsideBox (other.index + 1) k out.coordinate) there.0
      ∙ ap (λ (k : ℕ). OutsideBox (other.index + 1) other.turn k) there.1 ∙ sym other.is

  not_wide : (s : Status) → IsTurnWide size m s → FitsTurn size m → ⊥
  not_wide s w (inl none) = omega (arith, none, w.record_there)
  not_wide s w (inr fits) = omega (arith, fits, w.wide)

  pub one_call : (s t : Status) → LoopsCall size c l turns m s → LoopsCall size c l turns m t → t ≡ s
  one_call s t (inl w) (inl v) = v.is ∙ sym w.is
  one_call s t (inl w) (inr (inl v)) = absurd (not_wide s w v.0)
  one_call s t (inl w) (inr (inr v)) = absurd (not_wide s w v.1)
  one_call s t (inr (inl w)) (inl v) = absurd (not_wide t v w.0)
  one_call s t (inr (inl w)) (inr (inl v)) = one_first t s v.1 w.1
  one_call s t (inr (inl w)) (inr (inr v)) = absurd (not_stay s (length m.rows) w.1 w.1.there v.2)
  one_call s t (inr (inr w)) (inl v) = absurd (not_wide t v w.1)
  one_call s t (inr (inr w)) (inr (inl v)) = absurd (not_stay t (length m.rows) v.1 v.1.there w.2)
  one_call s t (inr (inr w)) (inr (inr v)) = v.0 ∙ sym w.0
