-- Loops settle, by induction over their turns and over their returns.
use Rattle.std.proofs.Common.{◌≡◌, ◌⊎◌, inl, inr, ℕ, zero, suc, ◌+◌, ◌-◌, ◌<◌, ◌≤◌, ℤ, neg_ℤ, ◌≤ℤ◌, List, length, le_refl, arith, ap, subst, sym, ◌∙◌}
use Rattle.std.specs.Int.{int_max, int_min}
use Rattle.std.proofs.lemmas.Int.{ints, clamps}
use Rattle.std.proofs.lemmas.Bool.{cases_lt}
use Rattle.integer_algebra.specs.Sums.{dot, at}
use Rattle.integer_algebra.proofs.VectorLaws.{dot_neg}
use Rattle.qp_model.specs.problem.Design.{Design}
use Rattle.qp_model.specs.problem.Box.{IsGridState}
use Rattle.qp_model.specs.machine.Controller.{Numbers}
use Rattle.qp_model.specs.machine.Machine.{IsAdmissible}
use Rattle.qp_model.specs.bounds.Built.{HasSizesOf}
use Rattle.stay_check.specs.LoopStay.{shifted_successor, state_under, AreShiftsUpTo}
use Rattle.settle_check.specs.Still.{Box, box_of, LiesInBox, IsPartOf, IsStill}
use Rattle.settle_check.specs.ClosedRows.{IsLoopFor}
use Rattle.settle_check.specs.Tube.{IsIn, tube, row_most}
use Rattle.settle_check.specs.Settling.{Certificate, Leads, Settles, hull, settled_box, told_rows, cost_numbers, cost_box, SettlingLaw, RowSettlingLaw, CertifiedSettlingLaw}
use Rattle.settle_check.proofs.TubeLaws.{state_long, row_bound, tube_law}

-- ---- boxes
pub wider : (n : ℕ) (z part : Box) (x : ℕ → ℤ) → IsPartOf n z part → LiesInBox n part x → LiesInBox n z x
wider n z part x h k i l = let a = h i l in let b = k i l in (omega (arith, ints, a.0, b.0), omega (arith, ints, a.1, b.1))

hull_holds : (n : ℕ) (boxes : ℕ → Box) (x : ℕ → ℤ) (k t : ℕ) → t ≤ k → LiesInBox n (boxes t) x → LiesInBox n (hull boxes k) x
hull_holds n boxes x zero t h lies i l = let e : t ≡ 0 = omega arith in subst (λ t. LiesInBox n (boxes t) x) e lies i l
hull_holds n boxes x (suc k) t h lies i l = elim (cases_lt t (suc k)) [
  | inl o ↦ (let w = hull_holds n boxes x k t (omega (arith, o)) lies i l in (low _ _ _ (inl w.0), high _ _ _ (inl w.1)))
  | inr o ↦ (let e : t ≡ suc k = omega arith in let w = subst (λ t. LiesInBox n (boxes t) x) e lies i l in (low _ _ _ (inr w.0), high _ _ _ (inr w.1)))
]
  where
    low : (a b x : ℤ) → (a ≤ℤ x) ⊎ (b ≤ℤ x) → int_min a b ≤ℤ x
    low a b x (inl h) = omega (arith, ints, clamps, h)
    low a b x (inr h) = omega (arith, ints, clamps, h)

    high : (a b x : ℤ) → (x ≤ℤ a) ⊎ (x ≤ℤ b) → x ≤ℤ int_max a b
    high a b x (inl h) = omega (arith, ints, clamps, h)
    high a b x (inr h) = omega (arith, ints, clamps, h)

-- ---- a loop that goes on
pub goes_on : (d : Design) (c : Numbers) (start : List ℤ) (w : ℕ → ℕ → ℤ) (n t : ℕ) →
    state_under d c (state_under d c start w n) (λ k. w (k + n)) t ≡ state_under d c start w (t + n)
unfolding state_under
goes_on d c start w n zero = ap (state_under d c start w) (omega arith)
goes_on d c start w n (suc t) =
    let e : suc (t + n) ≡ suc t + n = omega arith in
    ap (λ x. shifted_successor d c x (w (t + n))) (goes_on d c start w n t) ∙ ap (state_under d c start w) e

module _ (d : Design) (c : Numbers) (shifts : Box) (s : Certificate) (loop : IsLoopFor d c) (settles : Settles d c shifts s) where
  -- before each turn up to one that the certificate leads to, the loop lies where no multiplier moves
  before : (from : Box) (u : ℕ) → Leads d c shifts s from u → (start : List ℤ) → length start ≡ d.states → LiesInBox d.states from (at start) →
      (w : ℕ → ℕ → ℤ) (t : ℕ) → t ≤ u → AreShiftsUpTo d shifts.low shifts.high w t → IsIn d c s.still start w t
  before from u leads start long lies w zero h within k l = absurd (omega arith)
  before from u leads start long lies w (suc t) h within k l =
      let fewer : AreShiftsUpTo d shifts.low shifts.high w t = λ j o. within j (omega (arith, o)) in
      let so_far = before from u leads start long lies w t (omega (arith, h)) fewer in
      elim (cases_lt k t) [
        | inl o ↦ so_far k o
        | inr o ↦ (let e : k ≡ t = omega arith in rw e
            (wider d.states s.still (tube d c s.still shifts from t) (at (state_under d c start w t)) (leads.through t (omega (arith, h)))
            (tube_law d c s.still shifts from loop settles.still start w t long lies fewer so_far)))
      ]

  -- at it, it lies in the tube
  in_tube : (from : Box) (u : ℕ) → Leads d c shifts s from u → (start : List ℤ) → length start ≡ d.states → LiesInBox d.states from (at start) →
      (w : ℕ → ℕ → ℤ) (t : ℕ) → t ≤ u → AreShiftsUpTo d shifts.low shifts.high w t → LiesInBox d.states (tube d c s.still shifts from t) (at (state_under d c start w t))
  in_tube from u leads start long lies w t h within =
      tube_law d c s.still shifts from loop settles.still start w t long lies within (before from u leads start long lies w t h within)

  -- and where no multiplier moves
  is_still : (from : Box) (u : ℕ) → Leads d c shifts s from u → (start : List ℤ) → length start ≡ d.states → LiesInBox d.states from (at start) →
      (w : ℕ → ℕ → ℤ) (t : ℕ) → t < u → AreShiftsUpTo d shifts.low shifts.high w t → LiesInBox d.states s.still (at (state_under d c start w t))
  is_still from u leads start long lies w t h within =
      wider d.states s.still _ (at (state_under d c start w t)) (leads.through t h) (in_tube from u leads start long lies w t (omega (arith, h)) within)

  -- it is there, and settled
  abbrev AtRest : List ℤ → Type 0
  AtRest xi = LiesInBox d.states s.still (at xi) × LiesInBox d.states (settled_box d c shifts s) (at xi)

  -- after a turn that leads to the box of rest the loop goes on from there, for any number of turns
  at_rest : (fuel u : ℕ) (from : Box) → Leads d c shifts s from u → (start : List ℤ) → length start ≡ d.states → LiesInBox d.states from (at start) →
      (w : ℕ → ℕ → ℤ) (t : ℕ) → t < fuel → AreShiftsUpTo d shifts.low shifts.high w (t + u) → AtRest (state_under d c start w (t + u))
  at_rest zero u from leads start long lies w t h within = absurd (omega arith)
  at_rest (suc fuel) u from leads start long lies w t h within =
      let there = state_under d c start w u in
      let rest : ℕ → ℕ → ℤ = λ k. w (k + u) in
      let arrived = wider d.states s.rest _ (at there) leads.to (in_tube from u leads start long lies w u (le_refl u) (λ k l. within k (omega (arith, l)))) in
      let long_there = state_long d c start w u long in
      let shifts_there : AreShiftsUpTo d shifts.low shifts.high rest t = λ k l. within (k + u) (omega (arith, l)) in
      subst AtRest (goes_on d c start w u t)
      (elim (cases_lt t s.back) [
        | inl o ↦ (
          is_still s.rest s.back settles.again there long_there arrived rest t o shifts_there,
          hull_holds d.states (tube d c s.still shifts s.rest) (at (state_under d c there rest t)) (s.back - 1) t (omega (arith, o))
              (in_tube s.rest s.back settles.again there long_there arrived rest t (omega (arith, o)) shifts_there),
        )
        | inr o ↦ (let e : t - s.back + s.back ≡ t = omega (arith, o) in
            subst (λ t. AtRest (state_under d c there rest t)) e
            (at_rest fuel s.back s.rest settles.again there long_there arrived rest (t - s.back) (omega (arith, o, h, settles.some)) (λ k l. shifts_there k (omega (arith, l, e)))))
      ])

-- ---- any row of the state, from so many turns before
-- of a loop that lies at each turn where no multiplier moves
row_from : (d : Design) (c : Numbers) (shifts z : Box) → IsLoopFor d c → IsStill c z → (start : List ℤ) → length start ≡ d.states → (w : ℕ → ℕ → ℤ) (turns : ℕ) →
    AreShiftsUpTo d shifts.low shifts.high w turns → ((k : ℕ) → k ≤ turns → LiesInBox d.states z (at (state_under d c start w k))) → (row : ℕ → ℤ) (back : ℕ) → back ≤ turns →
    dot d.states row (at (state_under d c start w turns)) ≤ℤ row_most d c z shifts z row back
row_from d c shifts z loop still start long w turns within inside row back h =
    let t = turns - back in
    let e : back + t ≡ turns = omega (arith, h) in
    let there = state_under d c start w t in
    let rest : ℕ → ℕ → ℤ = λ k. w (k + t) in
    subst (λ (x : List ℤ). dot d.states row (at x) ≤ℤ row_most d c z shifts z row back) (goes_on d c start w t back ∙ ap (state_under d c start w) e)
    (row_bound d c z shifts z loop still there rest back (state_long d c start w t long) (inside t (omega (arith, h))) (λ k l. within (k + t) (omega (arith, l, e)))
    (λ k l. subst (λ (x : List ℤ). LiesInBox d.states z (at x)) (sym (goes_on d c start w t k)) (inside (k + t) (omega (arith, l, e)))) row)

pub row_settling_law : RowSettlingLaw
row_settling_law d c shifts s loop still settles start long lies w turns within row back h =
    row_from d c shifts s.still loop still start long w turns within (λ k l. (settles start long lies w k (λ j o. within j (omega (arith, o, l)))).inside) row back h

-- the rows of the cost
pub costs_from : (d : Design) (c : Numbers) (shifts : Box) (s : Certificate) → IsLoopFor d c → IsStill c s.still → (start : List ℤ) → length start ≡ d.states → (w : ℕ → ℕ → ℤ) (turns : ℕ) →
    AreShiftsUpTo d shifts.low shifts.high w turns → ((k : ℕ) → k ≤ turns → LiesInBox d.states s.still (at (state_under d c start w k))) → s.after ≤ turns →
    LiesInBox (told_rows d s.after) (cost_box d c s.still shifts s.after) (λ k. dot d.states (cost_numbers d k) (at (state_under d c start w turns)))
costs_from d c shifts s loop still start long w turns within inside h k l =
    let row = cost_numbers d k in
    let x = at (state_under d c start w turns) in (
      turned _ _ _ (dot_neg d.states row x) (row_from d c shifts s.still loop still start long w turns within inside (λ j. neg_ℤ (row j)) s.after h),
      row_from d c shifts s.still loop still start long w turns within inside row s.after h,
    )
  where
    turned : (a b m : ℤ) → a ≡ neg_ℤ b → a ≤ℤ m → neg_ℤ m ≤ℤ b
    turned a b m e h = omega (arith, ints, e, h)

-- ---- all turns
module _ (d : Design) (c : Numbers) (shifts : Box) (s : Certificate) (loop : IsLoopFor d c) (settles : Settles d c shifts s) where
  rests : (start : List ℤ) → length start ≡ d.states → LiesInBox d.states s.start (at start) → (w : ℕ → ℕ → ℤ) (turns : ℕ) → AreShiftsUpTo d shifts.low shifts.high w turns →
      s.turns ≤ turns → AtRest d c shifts s loop settles (state_under d c start w turns)
  rests start long lies w turns within h =
      let e : turns - s.turns + s.turns ≡ turns = omega (arith, h) in
      subst (λ t. AtRest d c shifts s loop settles (state_under d c start w t)) e
      (at_rest d c shifts s loop settles (suc (turns - s.turns)) s.turns s.start settles.there start long lies w (turns - s.turns) (omega arith) (λ k l. within k (omega (arith, l, e))))

  all_still : (start : List ℤ) → length start ≡ d.states → LiesInBox d.states s.start (at start) → (w : ℕ → ℕ → ℤ) (turns : ℕ) → AreShiftsUpTo d shifts.low shifts.high w turns →
      LiesInBox d.states s.still (at (state_under d c start w turns))
  all_still start long lies w turns within = elim (cases_lt turns s.turns) [
    | inl o ↦ is_still d c shifts s loop settles s.start s.turns settles.there start long lies w turns o within
    | inr o ↦ (rests start long lies w turns within o).0
  ]

pub settling_law : SettlingLaw
settling_law d c shifts s loop settles start long lies w turns within =
    let inside = all_still d c shifts s loop settles start long lies w in
    let in_box = wider d.states (box_of c.low c.high) s.still (at (state_under d c start w turns)) settles.inside (inside turns within) in
    record {
      admissible = record {
        long = state_long d c start w turns long ∙ loop.sizes.states;
        each = λ i l. (let b = in_box i (omega (arith, l, loop.sizes.states)) in record { low = b.0; high = b.1 });
      };
      inside = inside turns within;
      settled = λ h. (rests d c shifts s loop settles start long lies w turns within h).1;
      costs = costs_from d c shifts s loop settles.still start long w turns within (λ k l. inside k (λ j o. within j (omega (arith, o, l))));
    }

-- ---- a controller that is certified
pub grid_state : (d : Design) (c : Numbers) → HasSizesOf d c → (xi : List ℤ) → IsAdmissible c xi → IsGridState d (at xi)
grid_state d c sizes xi h i l =
    let inside = h.each i (omega (arith, l, sizes.states)) in
    (rw (← sizes.low i l) inside.low, rw (← sizes.high i l) inside.high)

pub certified_settling_law : CertifiedSettlingLaw
certified_settling_law d c b shifts s sizes certified settles start long lies w turns within =
    let here = (settles start long lies w turns within).admissible in
    let xi = state_under d c start w turns in
    record { inside = here; certified = certified xi (here.long ∙ sizes.states) (grid_state d c sizes xi here) }
