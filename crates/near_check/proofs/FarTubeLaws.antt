-- A loop that begins where limits may bind lies in its tube, by induction over its turns.
use Rattle.std.proofs.Common.{◌≡◌, ℕ, zero, suc, ◌-◌, ◌^◌, ◌<◌, Bool, true, false, ℤ, pos, ◌+ℤ◌, ◌*ℤ◌, neg_ℤ, ◌≤ℤ◌, List, length, if◌then◌else◌, nat_lt, arith, ap, ◌∙◌}
use Rattle.std.proofs.lemmas.Int.{ints}
use Rattle.std.proofs.Math.IntN.{*ℤ_comm}
use Rattle.integer_algebra.specs.Sums.{dot, at}
use Rattle.integer_algebra.proofs.RingLaws.{neg-mul_z}
use Rattle.integer_algebra.proofs.SumLaws.{total_same}
use Rattle.qp_model.specs.problem.Design.{Design}
use Rattle.qp_model.specs.machine.Controller.{Numbers}
use Rattle.stay_check.specs.LoopStay.{shifted_successor, state_under, AreShiftsUpTo}
use Rattle.settle_check.specs.Still.{Box, LiesInBox, IsStill}
use Rattle.settle_check.specs.ClosedRows.{IsLoopFor, row_after, turn_adds}
use Rattle.settle_check.specs.Tube.{coordinate_row}
use Rattle.settle_check.proofs.FloorLaws.{le-floor}
use Rattle.settle_check.proofs.StillLaws.{dot_le-greatest}
use Rattle.settle_check.proofs.RowLaws.{row_law}
use Rattle.settle_check.proofs.TubeLaws.{total_first, state_long, coordinate_dot}
use Rattle.near_check.specs.FarRows.{far_adds}
use Rattle.near_check.specs.FarTube.{FirstTurns, AreNear, adds_at, all_add, IsThrough, far_most, FarTubeLaw}
use Rattle.near_check.proofs.FarRowLaws.{far_row_law}

module _ (d : Design) (c : Numbers) (z shifts : Box) (g : FirstTurns) (loop : IsLoopFor d c) (still : IsStill c z) (near : AreNear d c g) where
  -- one turn, of either kind
  one_turn : (b : Bool) (row next : ℕ → ℤ) (xi : List ℤ) (shift : ℕ → ℤ) → length xi ≡ d.states → LiesInBox d.states (if b then g.outer else z) (at xi) →
      LiesInBox d.states shifts shift → dot d.states row (at (shifted_successor d c xi shift)) ≤ℤ
      (dot d.states next (at xi) +ℤ (if b then far_adds d c g.outer shifts g.distance row next else turn_adds d c z shifts row next))
  one_turn true row next xi shift long inside within = far_row_law d c g.outer shifts g.distance loop row next xi shift long inside (near xi long inside) within
  one_turn false row next xi shift long inside within = row_law d c z shifts loop still row next xi shift long inside within

  -- all turns
  rows_law : (rows : ℕ → ℕ → ℤ) (start : List ℤ) (w : ℕ → ℕ → ℤ) (turns : ℕ) → length start ≡ d.states → AreShiftsUpTo d shifts.low shifts.high w turns →
      IsThrough d c z g start w turns → dot d.states (rows 0) (at (state_under d c start w turns)) ≤ℤ (dot d.states (rows turns) (at start) +ℤ all_add d c z shifts g rows turns)
  unfolding state_under
  rows_law rows start w zero long within inside = plain (dot d.states (rows 0) (at start))
    where
      plain : (x : ℤ) → x ≤ℤ (x +ℤ pos 0)
      plain x = omega (arith, ints)
  rows_law rows start w (suc k) long within inside =
      let first : suc k - suc zero ≡ k = omega arith in
      joined _ _ _ _ _ _
      (one_turn (nat_lt k g.count) (rows 0) (rows (suc zero)) (state_under d c start w k) (w k) (state_long d c start w k long) (inside k (omega arith)) (within k (omega arith)))
      (rows_law (λ j. rows (suc j)) start w k long (λ j l. within j (omega (arith, l))) (λ j l. inside j (omega (arith, l))))
      (total_first k (λ j. adds_at d c z shifts g (suc k - suc j) (rows j) (rows (suc j)))
      ∙ sums (ap (λ (t : ℕ). adds_at d c z shifts g t (rows 0) (rows (suc zero))) first) (total_same k _ _ (λ j l. later k j (rows (suc j)) (rows (suc (suc j))))))
    where
      later : (k j : ℕ) (row next : ℕ → ℤ) → adds_at d c z shifts g (suc k - suc (suc j)) row next ≡ adds_at d c z shifts g (k - suc j) row next
      later k j row next = let e : suc k - suc (suc j) ≡ k - suc j = omega arith in ap (λ (t : ℕ). adds_at d c z shifts g t row next) e

      sums : {a b x y : ℤ} → a ≡ x → b ≡ y → a +ℤ b ≡ x +ℤ y
      sums {a} {b} {x} {y} e f = omega (arith, ints, e, f)

      joined : (y x s a b t : ℤ) → y ≤ℤ (x +ℤ a) → x ≤ℤ (s +ℤ b) → t ≡ a +ℤ b → y ≤ℤ (s +ℤ t)
      joined y x s a b t h k e = omega (arith, ints, h, k, e)

  -- an end of a coordinate
  end_law : (from : Box) (start : List ℤ) (w : ℕ → ℕ → ℤ) (turns : ℕ) → length start ≡ d.states → LiesInBox d.states from (at start) →
      AreShiftsUpTo d shifts.low shifts.high w turns → IsThrough d c z g start w turns → (i : ℕ) → i < d.states → (f : ℤ) →
      (f *ℤ at (state_under d c start w turns) i) ≤ℤ far_most d c z shifts from g (coordinate_row i f) turns
  unfolding row_after
  end_law from start w turns long lies within inside i l f =
      joined _ _ _ _ _ (coordinate_dot d.states i f (at (state_under d c start w turns)) l)
      (rows_law (row_after d c (coordinate_row i f)) start w turns long within inside)
      (dot_le-greatest d.states from (row_after d c (coordinate_row i f) turns) (at start) lies)
    where
      joined : (a b s g t : ℤ) → b ≡ a → b ≤ℤ (s +ℤ t) → s ≤ℤ g → a ≤ℤ (g +ℤ t)
      joined a b s g t e h k = omega (arith, ints, e, h, k)

pub far_tube_law : FarTubeLaw
unfolding state_under
far_tube_law d c z shifts from g loop still near start w zero long lies within inside i l = lies i l
far_tube_law d c z shifts from g loop still near start w (suc k) long lies within inside i l =
    let x = at (state_under d c start w (suc k)) i in
    let end = end_law d c z shifts g loop still near from start w (suc k) long lies within inside i l in (
      low x _ (le-floor (neg_ℤ x) _ (2 ^ 24) (omega arith) (turned x (pos (2 ^ 24)) _ (end (neg_ℤ (pos (2 ^ 24)))))),
      le-floor x _ (2 ^ 24) (omega arith) (rw (*ℤ_comm x (pos (2 ^ 24))) (end (pos (2 ^ 24)))),
    )
  where
    low : (x f : ℤ) → neg_ℤ x ≤ℤ f → neg_ℤ f ≤ℤ x
    low x f h = omega (arith, ints, h)

    turned : (x f m : ℤ) → (neg_ℤ f *ℤ x) ≤ℤ m → (neg_ℤ x *ℤ f) ≤ℤ m
    turned x f m h = omega (arith, ints, h, neg-mul_z x f, neg-mul_z f x, *ℤ_comm x f)
