-- A loop lies in its tube, by induction over its turns.
use Rattle.std.proofs.Common.{◌≡◌, ℕ, zero, suc, ◌^◌, ◌<◌, ℤ, pos, ◌+ℤ◌, ◌*ℤ◌, neg_ℤ, ◌≤ℤ◌, List, length, nat_eq, arith, ◌∙◌}
use Rattle.std.proofs.lemmas.Int.{ints}
use Rattle.std.proofs.Math.IntN.{*ℤ_comm}
use Rattle.std.proofs.lemmas.List.FromFn.{length-map-range_with_len}
use Rattle.integer_algebra.specs.Sums.{total, dot, at}
use Rattle.integer_algebra.proofs.RingLaws.{neg-mul_z}
use Rattle.integer_algebra.proofs.SumLaws.{total_same}
use Rattle.integer_algebra.proofs.VectorLaws.{dot_scale}
use Rattle.integer_algebra.proofs.BlockLaws.{total_single, choose_times}
use Rattle.qp_model.specs.problem.Design.{Design}
use Rattle.qp_model.specs.machine.Controller.{Numbers}
use Rattle.qp_model.specs.machine.Successor.{successor}
use Rattle.stay_check.specs.LoopStay.{state_under, AreShiftsUpTo}
use Rattle.settle_check.specs.Still.{Box, LiesInBox, IsStill}
use Rattle.settle_check.specs.ClosedRows.{IsLoopFor, row_after, turn_adds}
use Rattle.settle_check.specs.Tube.{IsIn, coordinate_row, most_after, row_most, TubeRowsLaw, TubeLaw}
use Rattle.settle_check.proofs.FloorLaws.{le-floor}
use Rattle.settle_check.proofs.StillLaws.{dot_le-greatest}
use Rattle.settle_check.proofs.RowLaws.{row_law}

-- ---- a sum by its first term
pub total_first : (n : ℕ) (f : ℕ → ℤ) → total (suc n) f ≡ f 0 +ℤ total n (λ k. f (suc k))
total_first zero f = omega (arith, ints)
total_first (suc n) f = omega (arith, ints, total_first n f)

-- ---- the turns
pub state_long : (d : Design) (c : Numbers) (start : List ℤ) (w : ℕ → ℕ → ℤ) (turns : ℕ) → length start ≡ d.states → length (state_under d c start w turns) ≡ d.states
unfolding state_under
state_long d c start w zero long = long
state_long d c start w (suc k) long = length-map-range_with_len (λ i. at (successor d c (state_under d c start w k)) i +ℤ w k i) 0 d.states

pub rows_law : TubeRowsLaw
unfolding state_under
rows_law d c z shifts loop still rows start w zero long within inside = plain (dot d.states (rows 0) (at start))
  where
    plain : (x : ℤ) → x ≤ℤ (x +ℤ pos 0)
    plain x = omega (arith, ints)
rows_law d c z shifts loop still rows start w (suc k) long within inside =
    joined _ _ _ _ _ _
    (row_law d c z shifts loop still (rows 0) (rows (suc zero)) (state_under d c start w k) (w k) (state_long d c start w k long) (inside k (omega arith)) (within k (omega arith)))
    (rows_law d c z shifts loop still (λ j. rows (suc j)) start w k long (λ j l. within j (omega (arith, l))) (λ j l. inside j (omega (arith, l))))
    (total_first k (λ j. turn_adds d c z shifts (rows j) (rows (suc j))))
  where
    joined : (y x s a b t : ℤ) → y ≤ℤ (x +ℤ a) → x ≤ℤ (s +ℤ b) → t ≡ a +ℤ b → y ≤ℤ (s +ℤ t)
    joined y x s a b t h k e = omega (arith, ints, h, k, e)

-- ---- any row of the state
pub row_bound : (d : Design) (c : Numbers) (z shifts from : Box) → IsLoopFor d c → IsStill c z → (start : List ℤ) (w : ℕ → ℕ → ℤ) (turns : ℕ) → length start ≡ d.states →
    LiesInBox d.states from (at start) → AreShiftsUpTo d shifts.low shifts.high w turns → IsIn d c z start w turns → (row : ℕ → ℤ) →
    dot d.states row (at (state_under d c start w turns)) ≤ℤ row_most d c z shifts from row turns
unfolding row_after
row_bound d c z shifts from loop still start w turns long lies within inside row =
    let first : ℕ → ℤ = λ j. pos (2 ^ 24) *ℤ row j in
    let x = at (state_under d c start w turns) in
    le-floor (dot d.states row x) _ (2 ^ 24) (omega arith)
    (joined _ _ _ _ _ (dot_scale d.states (pos (2 ^ 24)) row x ∙ *ℤ_comm (pos (2 ^ 24)) (dot d.states row x))
    (rows_law d c z shifts loop still (row_after d c first) start w turns long within inside)
    (dot_le-greatest d.states from (row_after d c first turns) (at start) lies))
  where
    joined : (a b s g t : ℤ) → b ≡ a → b ≤ℤ (s +ℤ t) → s ≤ℤ g → a ≤ℤ (g +ℤ t)
    joined a b s g t e h k = omega (arith, ints, e, h, k)

-- ---- the tube
pub coordinate_dot : (n i : ℕ) (f : ℤ) (x : ℕ → ℤ) → i < n → dot n (coordinate_row i f) x ≡ f *ℤ x i
coordinate_dot n i f x l = total_same n _ _ (λ j o. choose_times (nat_eq j i) f (x j)) ∙ total_single n i (λ j. f *ℤ x j) l

-- an end of a coordinate
end_law : (d : Design) (c : Numbers) (z shifts from : Box) → IsLoopFor d c → IsStill c z → (start : List ℤ) (w : ℕ → ℕ → ℤ) (turns : ℕ) → length start ≡ d.states →
    LiesInBox d.states from (at start) → AreShiftsUpTo d shifts.low shifts.high w turns → IsIn d c z start w turns → (i : ℕ) → i < d.states → (f : ℤ) →
    (f *ℤ at (state_under d c start w turns) i) ≤ℤ most_after d c z shifts from (coordinate_row i f) turns
unfolding row_after
end_law d c z shifts from loop still start w turns long lies within inside i l f =
    joined _ _ _ _ _ (coordinate_dot d.states i f (at (state_under d c start w turns)) l)
    (rows_law d c z shifts loop still (row_after d c (coordinate_row i f)) start w turns long within inside)
    (dot_le-greatest d.states from (row_after d c (coordinate_row i f) turns) (at start) lies)
  where
    joined : (a b s g t : ℤ) → b ≡ a → b ≤ℤ (s +ℤ t) → s ≤ℤ g → a ≤ℤ (g +ℤ t)
    joined a b s g t e h k = omega (arith, ints, e, h, k)

pub tube_law : TubeLaw
unfolding state_under
tube_law d c z shifts from loop still start w zero long lies within inside i l = lies i l
tube_law d c z shifts from loop still start w (suc k) long lies within inside i l =
    let x = at (state_under d c start w (suc k)) i in
    let end = end_law d c z shifts from loop still start w (suc k) long lies within inside i l in (
      low x _ (le-floor (neg_ℤ x) _ (2 ^ 24) (omega arith) (turned x (pos (2 ^ 24)) _ (end (neg_ℤ (pos (2 ^ 24)))))),
      le-floor x _ (2 ^ 24) (omega arith) (rw (*ℤ_comm x (pos (2 ^ 24))) (end (pos (2 ^ 24)))),
    )
  where
    low : (x f : ℤ) → neg_ℤ x ≤ℤ f → neg_ℤ f ≤ℤ x
    low x f h = omega (arith, ints, h)

    turned : (x f m : ℤ) → (neg_ℤ f *ℤ x) ≤ℤ m → (neg_ℤ x *ℤ f) ≤ℤ m
    turned x f m h = omega (arith, ints, h, neg-mul_z x f, neg-mul_z f x, *ℤ_comm x f)
