-- Of what a check of a certificate tells there is one at most.
use Rattle.std.proofs.Common.{◌≡◌, inl, inr, ◌⊎◌, ℕ, ◌<◌, ◌≤◌, ℤ, ◌<ℤ◌, ◌≤ℤ◌, Result, Ok, Err, refl, sym, ◌∙◌, arith}
use Rattle.std.specs.Prelude.{IfOk, IfErr, MatchResult}
use Rattle.std.proofs.lemmas.Int.{ints}
use Rattle.std.proofs.lemmas.Bool.{cases_lt}
use Rattle.qp_model.specs.problem.Design.{Design}
use Rattle.qp_model.specs.machine.Controller.{Numbers}
use Rattle.settle_check.specs.Still.{Box, IsStill}
use Rattle.settle_check.specs.Tube.{tube}
use Rattle.settle_check.specs.Settling.{Certificate, Leads}
use Rattle.settle_check.specs.Answers.{IsStillFault}
use Rattle.settle_check.specs.Beyond.{goal_at, GoesBeyond, IsEndWithin, IsFirstBeyond, IsFirstTurnBeyond}
use Rattle.settle_check.specs.Settles.{RowsHaveRoom, IsFirstMove, PassesSettling, IsSettleFault}
use Rattle.settle_check.specs.declared.certificate.Settled.{Settled}
use Rattle.settle_check.specs.declared.fault.SettleFault.{SettleFault}
use Rattle.settle_check.specs.declared.fault.SettleFault.TheVariants.{Memory, TooWide, Moves, Unsettled, NoReturn}
use Rattle.settle_check.proofs.CheckFacts.{held, same_fault}
use Rattle.settle_check.proofs.SettleFacts.{all_inside}

-- ---- the first end that lies beyond
clash : (goal box : Box) (i : ℕ) (bound : ℤ) → GoesBeyond goal box i bound → IsEndWithin goal box i → ⊥
clash goal box i bound (inl b) h = plain _ _ _ b.0 b.1 h.1
  where
    plain : (g b z : ℤ) → z ≡ b → g <ℤ z → b ≤ℤ g → ⊥
    plain g b z e h k = omega (arith, ints, e, h, k)
clash goal box i bound (inr b) h = plain _ _ _ b.1 b.2 h.0
  where
    plain : (l b g : ℤ) → b ≡ l → b <ℤ g → g ≤ℤ l → ⊥
    plain l b g e h k = omega (arith, ints, e, h, k)

same_bound : (goal box : Box) (i : ℕ) (a b : ℤ) → GoesBeyond goal box i a → GoesBeyond goal box i b → a ≡ b
same_bound goal box i a b (inl x) (inl y) = x.0 ∙ sym y.0
same_bound goal box i a b (inl x) (inr y) = absurd (plain _ _ _ x.0 x.1 y.0)
  where
    plain : (g b z : ℤ) → z ≡ b → g <ℤ z → b ≤ℤ g → ⊥
    plain g b z e h k = omega (arith, ints, e, h, k)
same_bound goal box i a b (inr x) (inl y) = absurd (plain _ _ _ y.0 y.1 x.0)
  where
    plain : (g b z : ℤ) → z ≡ b → g <ℤ z → b ≤ℤ g → ⊥
    plain g b z e h k = omega (arith, ints, e, h, k)
same_bound goal box i a b (inr x) (inr y) = x.1 ∙ sym y.1

module _ (n turns : ℕ) (goals boxes : ℕ → Box) where
  turn_le : (t u c d : ℕ) (a b : ℤ) → IsFirstTurnBeyond n turns goals boxes t c a → IsFirstTurnBeyond n turns goals boxes u d b → t ≤ u
  turn_le t u c d a b h k = elim (cases_lt u t) [
    | inl l ↦ absurd (clash (goals u) (boxes u) k.here.index b k.here.here (h.before u l k.here.index k.here.inside))
    | inr l ↦ l
  ]

  index_le : (t c d : ℕ) (a b : ℤ) (h : IsFirstBeyond n (goals t) (boxes t) c a) (k : IsFirstBeyond n (goals t) (boxes t) d b) → h.index ≤ k.index
  index_le t c d a b h k = elim (cases_lt k.index h.index) [
    | inl l ↦ absurd (clash (goals t) (boxes t) k.index b k.here (h.before k.index l))
    | inr l ↦ l
  ]

  same_place : (t c d : ℕ) (a b : ℤ) → IsFirstBeyond n (goals t) (boxes t) c a → IsFirstBeyond n (goals t) (boxes t) d b → (c ≡ d) × (a ≡ b)
  same_place t c d a b h k =
      let one = index_le t c d a b h k in
      let other = index_le t d c b a k h in
      let e : k.index ≡ h.index = omega (arith, one, other) in
      (omega (arith, h.place, k.place, e), same_bound (goals t) (boxes t) h.index a b h.here (rw e at k.here))

  pub same_beyond : (t u c d : ℕ) (a b : ℤ) → IsFirstTurnBeyond n turns goals boxes t c a → IsFirstTurnBeyond n turns goals boxes u d b → (t ≡ u) × (c ≡ d) × (a ≡ b)
  same_beyond t u c d a b h k =
      let one = turn_le t u c d a b h k in
      let other = turn_le u t d c b a k h in
      let e : u ≡ t = omega (arith, one, other) in
      let p = same_place t c d a b h.here (rw e at k.here) in
      (sym e, p.0, p.1)

  -- none where all lie inside
  pub none_beyond : (t c : ℕ) (a : ℤ) → ((k : ℕ) → k ≤ turns → (i : ℕ) → i < n → IsEndWithin (goals k) (boxes k) i) → IsFirstTurnBeyond n turns goals boxes t c a → ⊥
  none_beyond t c a all h = clash (goals t) (boxes t) h.here.index a h.here.here (all t h.reached h.here.index h.here.inside)

-- ---- what is told
module _ (d : Design) (c : Numbers) (shifts : Box) (s : Certificate) where
  still_fault : (row : ℕ) (left right : ℤ) → IsFirstMove c s.still row left right → IsStillFault c s.still (Moves row left right)
  still_fault row left right m = record { index = m.index; inside = m.inside; before = m.before; here = m.here }

  -- no row moves where none may
  no_move : (row : ℕ) (left right : ℤ) → RowsHaveRoom c s.still → IsStill c s.still → IsFirstMove c s.still row left right → ⊥
  no_move row left right room still m = held c s.still m.index (Moves row left right) (record { size = room m.index m.inside; still = still m.index m.inside }) m.here

  -- no end lies beyond where all lie inside
  no_end : (from : Box) (turns t i : ℕ) (a : ℤ) → Leads d c shifts s from turns → IsFirstTurnBeyond d.states turns (goal_at s turns) (tube d c s.still shifts from) t i a → ⊥
  no_end from turns t i a h b = none_beyond d.states turns (goal_at s turns) (tube d c s.still shifts from) t i a (all_inside d c shifts s from turns h) b

  pub one_fault : (a b : SettleFault) → IsSettleFault d c shifts s a → IsSettleFault d c shifts s b → a ≡ b
  one_fault Memory b f g = absurd f
  one_fault TooWide Memory f g = absurd g
  one_fault TooWide TooWide f g = refl
  one_fault TooWide (Moves row left right) f g = absurd (f g.0)
  one_fault TooWide (Unsettled t i a) f g = absurd (f g.0)
  one_fault TooWide (NoReturn t i a) f g = absurd (f g.0)
  one_fault (Moves row left right) Memory f g = absurd g
  one_fault (Moves row left right) TooWide f g = absurd (g f.0)
  one_fault (Moves row left right) (Moves r x y) f g = same_fault c s.still (Moves row left right) (Moves r x y) (still_fault row left right f.1) (still_fault r x y g.1)
  one_fault (Moves row left right) (Unsettled t i a) f g = absurd (no_move row left right f.0.rows g.1 f.1)
  one_fault (Moves row left right) (NoReturn t i a) f g = absurd (no_move row left right f.0.rows g.1 f.1)
  one_fault (Unsettled t i a) Memory f g = absurd g
  one_fault (Unsettled t i a) TooWide f g = absurd (g f.0)
  one_fault (Unsettled t i a) (Moves row left right) f g = absurd (no_move row left right g.0.rows f.1 g.1)
  one_fault (Unsettled t i a) (Unsettled u j b) f g =
      let e = same_beyond d.states s.turns (goal_at s s.turns) (tube d c s.still shifts s.start) t u i j a b f.2 g.2 in
      rw (e.0, e.1, e.2) refl
  one_fault (Unsettled t i a) (NoReturn u j b) f g = absurd (no_end s.start s.turns t i a g.2 f.2)
  one_fault (NoReturn t i a) Memory f g = absurd g
  one_fault (NoReturn t i a) TooWide f g = absurd (g f.0)
  one_fault (NoReturn t i a) (Moves row left right) f g = absurd (no_move row left right g.0.rows f.1 g.1)
  one_fault (NoReturn t i a) (Unsettled u j b) f g = absurd (no_end s.start s.turns u j b f.2 g.2)
  one_fault (NoReturn t i a) (NoReturn u j b) f g =
      let e = same_beyond d.states s.back (goal_at s s.back) (tube d c s.still shifts s.rest) t u i j a b f.3 g.3 in
      rw (e.0, e.1, e.2) refl

  pub no_fault : (a : SettleFault) → PassesSettling d c shifts s → IsSettleFault d c shifts s a → ⊥
  no_fault Memory p f = f
  no_fault TooWide p f = f p.room
  no_fault (Moves row left right) p f = no_move row left right p.room.rows p.still f.1
  no_fault (Unsettled t i a) p f = no_end s.start s.turns t i a p.there f.2
  no_fault (NoReturn t i a) p f = no_end s.rest s.back t i a p.again f.3

  -- the other way round
  pub first : (r : Result Settled SettleFault) (told : SettleFault) → IfOk r (λ b. PassesSettling d c shifts s) → IfErr r (λ e. (e ≡ Memory) ⊎ IsSettleFault d c shifts s e) → IsSettleFault d c shifts s told →
      MatchResult r (λ b. ⊥) (λ e. (e ≡ told) ⊎ (e ≡ Memory))
  first (Ok b) told p f t = no_fault told p t
  first (Err e) told p f t = elim f [
    | inl m ↦ inr m
    | inr g ↦ inl (one_fault e told g t)
  ]

  pub right : (r : Result Settled SettleFault) → IfErr r (λ e. (e ≡ Memory) ⊎ IsSettleFault d c shifts s e) → PassesSettling d c shifts s → IfErr r (λ e. e ≡ Memory)
  right (Ok b) f p = tt
  right (Err e) f p = elim f [
    | inl m ↦ m
    | inr g ↦ absurd (no_fault e p g)
  ]
