-- Each row passes its test, or one is the first that doesn't.
use Rattle.std.proofs.Common.{◌≡◌, inl, inr, ℕ, ◌<◌, ◌≤◌, ℤ, ◌≤ℤ◌, ◌<ℤ◌, Result, Ok, Err, arith, ap, sym, ◌∙◌, refl}
use Rattle.std.specs.Prelude.{IfOk, IfErr}
use Rattle.std.proofs.lemmas.Int.{ints}
use Rattle.std.proofs.lemmas.Bool.{cases_lt}
use Rattle.qp_model.specs.machine.Controller.{Numbers}
use Rattle.settle_check.specs.Still.{Box, IsStill}
use Rattle.settle_check.specs.Answers.{RowIsStill, IsRowFault, IsStillFault}
use Rattle.settle_check.specs.declared.fault.SettleFault.{SettleFault}
use Rattle.settle_check.specs.declared.fault.SettleFault.TheVariants.{Memory, TooWide, Moves, Unsettled, NoReturn}

module _ (c : Numbers) (z : Box) where
  pub held : (i : ℕ) (fault : SettleFault) → RowIsStill c z i → IsRowFault c z i fault → ⊥
  held i Memory h w = w
  held i (Unsettled turn coordinate bound) h w = w
  held i (NoReturn turn coordinate bound) h w = w
  held i TooWide h w = omega (arith, h.size, w)
  held i (Moves row left right) h w = clash _ _ _ _ h.still w.number w.limit w.moves
    where
      clash : (s u left right : ℤ) → s <ℤ u → left ≡ s → right ≡ u → right ≤ℤ left → ⊥
      clash s u left right h e f k = omega (arith, ints, h, e, f, k)

  same_row : (i : ℕ) (a b : SettleFault) → IsRowFault c z i a → IsRowFault c z i b → a ≡ b
  same_row i Memory b h k = absurd h
  same_row i (Unsettled turn coordinate bound) b h k = absurd h
  same_row i (NoReturn turn coordinate bound) b h k = absurd h
  same_row i TooWide Memory h k = absurd k
  same_row i TooWide (Unsettled turn coordinate bound) h k = absurd k
  same_row i TooWide (NoReturn turn coordinate bound) h k = absurd k
  same_row i (Moves row left right) Memory h k = absurd k
  same_row i (Moves row left right) (Unsettled turn coordinate bound) h k = absurd k
  same_row i (Moves row left right) (NoReturn turn coordinate bound) h k = absurd k
  same_row i TooWide TooWide h k = refl
  same_row i TooWide (Moves row left right) h k = absurd (omega (arith, h, k.size))
  same_row i (Moves row left right) TooWide h k = absurd (omega (arith, k, h.size))
  same_row i (Moves row left right) (Moves row' left' right') h k =
      let one : row ≡ row' = h.place ∙ sym k.place in
      let two : left ≡ left' = h.number ∙ sym k.number in
      let three : right ≡ right' = h.limit ∙ sym k.limit in
      rw (one, two, three) refl

  index_le : (a b : SettleFault) (h : IsStillFault c z a) (k : IsStillFault c z b) → h.index ≤ k.index
  index_le a b h k = elim (cases_lt k.index h.index) [
    | inl l ↦ absurd (held k.index b (h.before k.index l) k.here)
    | inr l ↦ l
  ]

  pub same_fault : (a b : SettleFault) → IsStillFault c z a → IsStillFault c z b → a ≡ b
  same_fault a b h k =
      let first = index_le a b h k in
      let last = index_le b a k h in
      let e : k.index ≡ h.index = omega (arith, first, last) in
      same_row h.index a b h.here (rw e at k.here)

  pub first_fault : (r : Result (Unit {0}) SettleFault) → IfOk r (λ _. (i : ℕ) → i < c.rows → RowIsStill c z i) → IfErr r (IsStillFault c z) →
      (told : SettleFault) → IsStillFault c z told → r ≡ Err told
  first_fault (Ok u) s h told w = absurd (held w.index told (s w.index w.inside) w.here)
  first_fault (Err e) s h told w = ap Err (same_fault e told h w)

  pub all_still : (r : Result (Unit {0}) SettleFault) → IfOk r (λ _. (i : ℕ) → i < c.rows → RowIsStill c z i) → IfOk r (λ _. IsStill c z)
  all_still (Ok u) s = λ i l. (s i l).still
  all_still (Err e) s = tt
