-- Rows turn by turn: what is computed of rows that are equal in all numbers of the state is the same, and sizes are within what comes of them.
use Rattle.std.proofs.Common.{◌≡◌, inl, inr, ℕ, suc, ◌+◌, ◌*◌, ◌^◌, ◌<◌, ◌≤◌, max, Bool, true, false, [], ◌∷◌, ◌++◌, below_more, length, ℤ, pos, ◌+ℤ◌, ◌-ℤ◌, ◌*ℤ◌, List, unsigned_abs, if◌then◌else◌, nat_eq, arith, ap, ◌∙◌, refl}
use Rattle.std.specs.Int.{int_max}
use Rattle.std.proofs.lemmas.Bool.{cases_lt}
use Rattle.std.proofs.lemmas.List.{length_push, get_or_push, get_or_append_left}
use Rattle.integer_algebra.specs.Division.{round_of}
use Rattle.integer_algebra.specs.Sums.{coimage, at}
use Rattle.integer_algebra.proofs.SumLaws.{total_same}
use Rattle.integer_algebra.proofs.SizeLaws.{amount_same, amount_term, amount_next, size_same}
use Rattle.mat_int.specs.Matrix.{Matrix, HasEntries}
use Rattle.qp_model.specs.problem.Design.{Design}
use Rattle.qp_model.specs.problem.Runs.{Holds}
use Rattle.qp_model.specs.machine.Controller.{Numbers}
use Rattle.settle_check.specs.Still.{Box, greatest_over, greatest_less}
use Rattle.settle_check.specs.StillSize.{furthest}
use Rattle.settle_check.specs.ClosedRows.{loop_matrix, loop_over, through_loop, row_after, left_of, turn_rest, parted, rounded_size, turn_adds}
use Rattle.settle_check.specs.TurnSize.{loop_size, through_size, input_size, inputs_size, left_over_size, row_size, turn_adds_size, turns_size, course_size, HasCourseRoom}
use Rattle.settle_check.specs.Tube.{turns_add, most_after}
use Rattle.settle_check.specs.Course.{plant, machine, states_box, shifts_box, next_row, adds, adds_size, IsRowWide, end_at, end_of, end_size, end_row, tube_of, cost_first, costs_of}
use Rattle.settle_check.specs.declared.closed.ClosedLoop.{ClosedLoop}
use Rattle.settle_check.proofs.CountedFacts.{le_times_reach}

-- ---- rows of the same numbers
abbrev AreSame : ℕ → (a b : ℕ → ℤ) → Type 0
AreSame n a b = (j : ℕ) → j < n → a j ≡ b j

module _ (d : Design) (c : Numbers) where
  through_same : (a b : ℕ → ℤ) → AreSame d.states a b → (k : ℕ) → through_loop d c a k ≡ through_loop d c b k
  through_same a b h k = total_same d.states _ _ (λ i l. ap (λ (z : ℤ). loop_matrix d c i k *ℤ z) (h i l))

  left_same : (a b x y : ℕ → ℤ) → AreSame d.states a b → AreSame d.states x y → AreSame d.states (left_of d c a x) (left_of d c b y)
  left_same a b x y h g k l = rw (through_same a b h k, g k l) refl

  inputs_same : (a b : ℕ → ℤ) → AreSame d.states a b → (l : ℕ) → coimage d.states d.plant_b a l ≡ coimage d.states d.plant_b b l
  inputs_same a b h l = total_same d.states _ _ (λ i o. ap (λ (z : ℤ). d.plant_b i l *ℤ z) (h i o))

  less_same : (n : ℕ) (v w t : ℕ → ℤ) → AreSame n v w → greatest_less n v t ≡ greatest_less n w t
  less_same n v w t h = total_same n _ _ (λ l o. ap (λ (z : ℤ). int_max z (pos 0) -ℤ z *ℤ t l) (h l o))

  over_same : (z : Box) (a b : ℕ → ℤ) → AreSame d.states a b → greatest_over d.states z a ≡ greatest_over d.states z b
  over_same z a b h = total_same d.states _ _ (λ j l. ap (λ (v : ℤ). int_max (v *ℤ z.low j) (v *ℤ z.high j)) (h j l))

  rest_same : (z : Box) (a b x y : ℕ → ℤ) → AreSame d.states a b → AreSame d.states x y → turn_rest d c z a x ≡ turn_rest d c z b y
  rest_same z a b x y h g =
      rw (
        over_same z (left_of d c a x) (left_of d c b y) (left_same a b x y h g),
        less_same d.inputs (coimage d.states d.plant_b a) (coimage d.states d.plant_b b) (at c.offsets) (λ l o. inputs_same a b h l),
      ) refl

  rounded_same : (a b : ℕ → ℤ) → AreSame d.states a b → rounded_size d a ≡ rounded_size d b
  rounded_same a b h = size_same d.states _ _ (λ i l. ap (λ (z : ℤ). if nat_eq (parted d i) 0 then pos 0 else z) (h i l))

  adds_same : (z shifts : Box) (a b x y : ℕ → ℤ) → AreSame d.states a b → AreSame d.states x y → turn_adds d c z shifts a x ≡ turn_adds d c z shifts b y
  adds_same z shifts a b x y h g = rw (rest_same z a b x y h g, rounded_same a b h, over_same shifts a b h) refl

  -- and of their sizes
  through_size_same : (a b : ℕ → ℤ) → AreSame d.states a b → (k : ℕ) → through_size d c a k ≡ through_size d c b k
  through_size_same a b h k = amount_same d.states _ _ (λ i l. ap (λ (z : ℤ). loop_size d c i k * max (unsigned_abs z) 1) (h i l))

  left_size_same : (z : Box) (a b x y : ℕ → ℤ) → AreSame d.states a b → AreSame d.states x y → (k : ℕ) → k < d.states → left_over_size d c z a x k ≡ left_over_size d c z b y k
  left_size_same z a b x y h g k l = rw (through_size_same a b h k, g k l) refl

  input_size_same : (a b : ℕ → ℤ) → AreSame d.states a b → (l : ℕ) → input_size d a l ≡ input_size d b l
  input_size_same a b h l = amount_same d.states _ _ (λ i o. ap (λ (z : ℤ). unsigned_abs (d.plant_b i l) * max (unsigned_abs z) 1) (h i o))

  inputs_size_same : (a b : ℕ → ℤ) → AreSame d.states a b → inputs_size d c a ≡ inputs_size d c b
  inputs_size_same a b h = amount_same d.inputs _ _ (λ l o. ap (λ (n : ℕ). n * (unsigned_abs (at c.offsets l) + 1)) (input_size_same a b h l))

  row_size_same : (z : Box) (a b : ℕ → ℤ) → AreSame d.states a b → row_size d z a ≡ row_size d z b
  row_size_same z a b h = amount_same d.states _ _ (λ k l. ap (λ (v : ℤ). unsigned_abs v * furthest z k) (h k l))

  turn_size_same : (z shifts : Box) (a b x y : ℕ → ℤ) → AreSame d.states a b → AreSame d.states x y → turn_adds_size d c z shifts a x ≡ turn_adds_size d c z shifts b y
  turn_size_same z shifts a b x y h g =
      rw (amount_same d.states _ _ (left_size_same z a b x y h g), inputs_size_same a b h, rounded_same a b h, row_size_same shifts a b h) refl

  -- ---- within what comes of them
  -- a row on its way through the loop is within what the turn adds
  through_within : (z shifts : Box) (row next : ℕ → ℤ) (k : ℕ) → k < d.states → through_size d c row k ≤ turn_adds_size d c z shifts row next
  through_within z shifts row next k l =
      let left = left_over_size d c z row next in
      omega (arith, le_times_reach (through_size d c row k + loop_over d c * max (unsigned_abs (next k)) 1) z k, amount_term k d.states left l)

-- ---- turn by turn
-- a row and what the turns have added are those of a first row after so many turns
pub record IsFollowed (l : ClosedLoop) (first : ℕ → ℤ) (k : ℕ) (row : List ℤ) (value : ℤ) (added : ℕ) : Type 0 where
  pub holds : Holds row l.parts.now.states (row_after (plant l) (machine l) first k)
  pub adds : value ≡ turns_add (plant l) (machine l) (states_box l) (shifts_box l) (row_after (plant l) (machine l) first) k
  pub sizes : added ≡ turns_size (plant l) (machine l) (states_box l) (shifts_box l) (row_after (plant l) (machine l) first) k

module _ (l : ClosedLoop) (first : ℕ → ℤ) where
  abbrev after : ℕ → ℕ → ℤ
  after = row_after (plant l) (machine l) first

  -- before the first turn
  pub begins : (row : List ℤ) (v : ℤ) (n : ℕ) → Holds row l.parts.now.states first → v ≡ pos 0 → n ≡ 0 → IsFollowed l first 0 row v n
  unfolding row_after
  begins row v n h d e = record { holds = h; adds = d; sizes = e }

  -- the next row is that after one turn more
  next_is : (k : ℕ) (row : List ℤ) → Holds row l.parts.now.states (after k) → (j : ℕ) → next_row l (at row) j ≡ after (suc k) j
  unfolding row_after
  next_is k row h j = ap (λ (z : ℤ). round_of z (loop_over (plant l) (machine l))) (through_same (plant l) (machine l) (at row) (after k) h.is j)

  -- one turn more
  pub follows : (k : ℕ) (row next : List ℤ) (value v : ℤ) (added n : ℕ) → IsFollowed l first k row value added → Holds next l.parts.now.states (next_row l (at row)) →
      v ≡ value +ℤ adds l (at row) (next_row l (at row)) → n ≡ added + adds_size l (at row) (next_row l (at row)) → IsFollowed l first (k + 1) next v n
  follows k row next value v added n f h e g =
      let one : k + 1 ≡ suc k = omega arith in
      rw one (record {
        holds = record { long = h.long; is = λ j o. h.is j o ∙ next_is k row f.holds j };
        adds = e ∙ rw (f.adds, adds_same (plant l) (machine l) (states_box l) (shifts_box l) (at row) (after k) (next_row l (at row)) (after (suc k)) f.holds.is (λ j o. next_is k row f.holds j)) refl;
        sizes = g ∙ rw (f.sizes, turn_size_same (plant l) (machine l) (states_box l) (shifts_box l) (at row) (after k) (next_row l (at row)) (after (suc k)) f.holds.is (λ j o. next_is k row f.holds j)) refl;
      })

  -- its size over the box that loops begin in
  pub end_size_is : (from : Box) (k : ℕ) (row : List ℤ) (value : ℤ) (added : ℕ) → IsFollowed l first k row value added →
      end_size l from (at row) added ≡ course_size (plant l) (machine l) (states_box l) (shifts_box l) from first k
  end_size_is from k row value added f = rw (f.sizes, row_size_same (plant l) (machine l) from (at row) (after k) f.holds.is) refl

  pub next_size_is : (from : Box) (k : ℕ) (row : List ℤ) (value : ℤ) (added : ℕ) → IsFollowed l first (k + 1) row value added →
      end_size l from (at row) added ≡ course_size (plant l) (machine l) (states_box l) (shifts_box l) from first (suc k)
  next_size_is from k row value added f = let one : k + 1 ≡ suc k = omega arith in end_size_is from (suc k) row value added (rw one at f)

  -- the size of a turn
  pub turn_is : (k : ℕ) (row : List ℤ) (value : ℤ) (added : ℕ) → IsFollowed l first k row value added →
      adds_size l (at row) (next_row l (at row)) ≡ turn_adds_size (plant l) (machine l) (states_box l) (shifts_box l) (after k) (after (suc k))
  turn_is k row value added f =
      turn_size_same (plant l) (machine l) (states_box l) (shifts_box l) (at row) (after k) (next_row l (at row)) (after (suc k)) f.holds.is (λ j o. next_is k row f.holds j)

  -- where a turn passes 2^126, so does the course
  pub passes : (from : Box) (k turns : ℕ) (row : List ℤ) (value : ℤ) (added : ℕ) → IsFollowed l first k row value added → k < turns →
      2 ^ 126 < added + adds_size l (at row) (next_row l (at row)) → HasCourseRoom (plant l) (machine l) (states_box l) (shifts_box l) from first turns → ⊥
  passes from k turns row value added f o h room =
      omega (arith, room k o, h, turn_is k row value added f, f.sizes)

-- where a turn passes 2^126, so does what all have added
pub all_passes : (l : ClosedLoop) (from : Box) (first : ℕ → ℤ) (k turns : ℕ) (row : List ℤ) (value : ℤ) (added : ℕ) → IsFollowed l first k row value added → k < turns →
    2 ^ 126 < added + adds_size l (at row) (next_row l (at row)) → course_size (plant l) (machine l) (states_box l) (shifts_box l) from first turns ≤ 2 ^ 126 → ⊥
all_passes l from first k turns row value added f o h room =
    let rows : ℕ → ℕ → ℤ = row_after (plant l) (machine l) first in
    let term : ℕ → ℕ = λ k. turn_adds_size (plant l) (machine l) (states_box l) (shifts_box l) (rows k) (rows (suc k)) in
    omega (arith, amount_next k turns term o, h, turn_is l first k row value added f, f.sizes, room)

-- what it has at most
most_is : (l : ClosedLoop) (from : Box) (first : ℕ → ℤ) (k : ℕ) (row : List ℤ) (value : ℤ) (added : ℕ) → IsFollowed l first k row value added →
    greatest_over l.parts.now.states from (at row) +ℤ value ≡ most_after (plant l) (machine l) (states_box l) (shifts_box l) from first k
most_is l from first k row value added f = rw (f.adds, over_same (plant l) (machine l) from (at row) (row_after (plant l) (machine l) first k) f.holds.is) refl

-- the end that it shows
pub end_is : (l : ClosedLoop) (from : Box) (upper : Bool) (i k : ℕ) (row : List ℤ) (value : ℤ) (added : ℕ) → IsFollowed l (end_row upper i) (k + 1) row value added →
    end_of l from upper (at row) value ≡ end_at upper (tube_of l from (k + 1)) i
end_is l from true i k row value added f = let one : k + 1 ≡ suc k = omega arith in rw (most_is l from (end_row true i) (k + 1) row value added f, one) refl
end_is l from false i k row value added f = let one : k + 1 ≡ suc k = omega arith in rw (most_is l from (end_row false i) (k + 1) row value added f, one) refl

-- that of a row of the cost
pub cost_end_is : (l : ClosedLoop) (upper : Bool) (k turns : ℕ) (row : List ℤ) (value : ℤ) (added : ℕ) → IsFollowed l (cost_first (plant l) upper k) turns row value added →
    end_of l (states_box l) upper (at row) value ≡ end_at upper (costs_of l turns) k
cost_end_is l true k turns row value added f = rw (most_is l (states_box l) (cost_first (plant l) true k) turns row value added f) refl
cost_end_is l false k turns row value added f = rw (most_is l (states_box l) (cost_first (plant l) false k) turns row value added f) refl

-- ---- lists that grow
pub pushed : (out new : List ℤ) (x : ℤ) (i : ℕ) (f : ℕ → ℤ) → new ≡ out ++ x ∷ [] → x ≡ f i → Holds out i f → Holds new (i + 1) f
pushed out new x i f e h p = rw e (record {
  long = length_push out x ∙ ap (λ n. n + 1) p.long;
  is = below_more _ _ (λ k l. get_or_append_left out (x ∷ []) (pos 0) k (omega (arith, p.long)) ∙ p.is k l) (get_or_push out x (pos 0) i p.long ∙ h);
})

pub first_pushed : (out new : List ℤ) (x : ℤ) (f : ℕ → ℤ) → out ≡ [] → new ≡ out ++ x ∷ [] → x ≡ f 0 → Holds new 1 f
first_pushed out new x f e g h = pushed out new x 0 f g h (rw e (record { long = refl; is = λ k l. absurd (omega arith) }))

-- one more row of a matrix
pub row_pushed : (m new : Matrix) (row : List ℤ) (h w : ℕ) (f : ℕ → ℕ → ℤ) → new ≡ record m { rows = m.rows ++ row ∷ [] } → Holds row w (f h) → HasEntries h w f m → HasEntries (h + 1) w f new
row_pushed m new row h w f e r p = rw e (record {
  rows = length_push m.rows row ∙ ap (λ n. n + 1) p.rows;
  cols = p.cols;
  even = λ k d l. elim (cases_lt k (length m.rows)) [
    | inl o ↦ rw (get_or_append_left m.rows (row ∷ []) d k o) (p.even k d o)
    | inr o ↦ rw (get_or_push m.rows row d k (omega (arith, length_push m.rows row, l, o))) r.long
  ];
  entries = λ i j l q. elim (cases_lt i h) [
    | inl o ↦ ap (λ (x : List ℤ). at x j) (get_or_append_left m.rows (row ∷ []) [] i (omega (arith, o, p.rows))) ∙ p.entries i j o q
    | inr o ↦ (let g : i ≡ h = omega (arith, l, o) in rw g (ap (λ (x : List ℤ). at x j) (get_or_push m.rows row [] h p.rows) ∙ r.is j q))
  ];
})

-- ---- of the row that the code has made
module _ (l : ClosedLoop) (row next : List ℤ) (h : Holds next l.parts.now.states (next_row l (at row))) where
  pub turned_adds : adds l (at row) (at next) ≡ adds l (at row) (next_row l (at row))
  turned_adds = adds_same (plant l) (machine l) (states_box l) (shifts_box l) (at row) (at row) (at next) (next_row l (at row)) (λ j o. refl) h.is

  pub turned_size : adds_size l (at row) (at next) ≡ adds_size l (at row) (next_row l (at row))
  turned_size = turn_size_same (plant l) (machine l) (states_box l) (shifts_box l) (at row) (at row) (at next) (next_row l (at row)) (λ j o. refl) h.is

-- a row that passes 2^126 on its way passes it in what the turn adds
pub wide_adds : (l : ClosedLoop) (row : List ℤ) → IsRowWide l (at row) → 2 ^ 126 < adds_size l (at row) (next_row l (at row))
wide_adds l row w = omega (arith, w.wide, through_within (plant l) (machine l) (states_box l) (shifts_box l) (at row) (next_row l (at row)) w.index w.inside)

-- what an operation that answers none had no room for
pub not_within : (n : ℕ) → (n ≤ 2 ^ 126 → false ≡ true) → 2 ^ 126 < n
not_within n h = elim (cases_lt (2 ^ 126) n) [
  | inl l ↦ l
  | inr l ↦ (let e : false ≡ true = h l in cc)
]
