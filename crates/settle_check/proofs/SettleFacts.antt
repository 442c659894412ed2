-- What the tests of a certificate answer, of the boxes in which loops lie.
use Rattle.std.proofs.Common.{◌≡◌, inl, inr, ◌⊎◌, ℕ, zero, suc, ◌-◌, ◌<◌, ◌≤◌, ℤ, Bool, true, false, length, Result, Ok, Err, refl, subst, arith, sym, ◌∙◌, if◌then◌else◌, nat_lt}
use Rattle.std.proofs.lemmas.Bool.{cases_lt, lt-ltb, le-ltb}
use Rattle.mat_int.specs.Matrix.{entry_of}
use Rattle.qp_model.specs.problem.Design.{Design}
use Rattle.qp_model.specs.machine.Controller.{Numbers}
use Rattle.std.specs.Prelude.{IfOk}
use Rattle.settle_check.specs.Still.{Box, box_of, IsPartOf}
use Rattle.settle_check.specs.ClosedRows.{IsLoopFor}
use Rattle.settle_check.proofs.SettlingLaws.{settling_law}
use Rattle.settle_check.specs.Tube.{tube}
use Rattle.settle_check.specs.Settling.{Certificate, Leads, Settles, LoopsSettle, hull, settled_box, told_rows, cost_box}
use Rattle.settle_check.specs.Answers.{IsStillFault}
use Rattle.settle_check.specs.Beyond.{goal_at, IsFirstTurnBeyond}
use Rattle.settle_check.specs.Tubes.{tube_at, HasTurns, HoldsBoxes}
use Rattle.settle_check.specs.Settles.{RowsHaveRoom, EndsHaveRoom, HasAllRoom, CostsHaveRoom, TubeHasRoom, IsTubeFault, LoopCostsHaveRoom, AllInside, PassesBy, IsSettleFaultBy, PassesSettling, IsSettleFault}
use Rattle.settle_check.specs.Course.{plant, machine, states_box, shifts_box, tube_of, costs_of}
use Rattle.settle_check.specs.Certificates.{certificate_of, IsBoxOf}
use Rattle.settle_check.specs.declared.closed.ClosedLoop.{ClosedLoop}
use Rattle.settle_check.specs.declared.certificate.StateBox.{StateBox}
use Rattle.settle_check.specs.declared.certificate.Settled.{Settled}
use Rattle.settle_check.specs.declared.certificate.CertificateParts.{CertificateParts}
use Rattle.settle_check.specs.declared.tube.Tube.{Tube}
use Rattle.settle_check.specs.declared.fault.SettleFault.{SettleFault}
use Rattle.settle_check.specs.declared.fault.SettleFault.TheVariants.{Memory, TooWide, Moves, Unsettled, NoReturn}

-- ---- the rows
-- where all sizes are within 2^126, a row's fault is that it moves
pub moved : (c : Numbers) (s : Certificate) (first second : ℕ → Box) (e : SettleFault) → RowsHaveRoom c s.still → IsStillFault c s.still e → IsSettleFaultBy c s first second e
moved c s first second Memory room w = w.here
moved c s first second TooWide room w = λ all. omega (arith, room w.index w.inside, w.here)
moved c s first second (Moves row left right) room w = (room, record { index = w.index; inside = w.inside; before = w.before; here = w.here })
moved c s first second (Unsettled turn coordinate bound) room w = absurd w.here
moved c s first second (NoReturn turn coordinate bound) room w = absurd w.here

-- ---- the boxes that the code holds
pub turns_of : (n turns : ℕ) (boxes : ℕ → Box) (t : Tube) → HoldsBoxes n turns boxes t → HasTurns n turns t
turns_of n turns boxes t h = record { low_rows = h.lows.rows; low_cols = h.lows.cols; high_rows = h.highs.rows; high_cols = h.highs.cols }

module _ (n turns : ℕ) (boxes : ℕ → Box) (t : Tube) (h : HoldsBoxes n turns boxes t) where
  low_is : (k i : ℕ) → k ≤ turns → i < n → entry_of t.lows i k ≡ (boxes k).low i
  low_is k i l o = h.lows.entries i k o (omega (arith, l))

  high_is : (k i : ℕ) → k ≤ turns → i < n → entry_of t.highs i k ≡ (boxes k).high i
  high_is k i l o = h.highs.entries i k o (omega (arith, l))

  -- they lie in what is asked
  pub inside_is : (s : Certificate) → AllInside s n turns (tube_at t) → AllInside s n turns boxes
  inside_is s all k l i o = (rw (low_is k i l o) at (all k l i o).0, rw (high_is k i l o) at (all k l i o).1)

  -- or one is the first that doesn't
  pub beyond_is : (s : Certificate) (turn coordinate : ℕ) (bound : ℤ) → IsFirstTurnBeyond n turns (goal_at s turns) (tube_at t) turn coordinate bound →
      IsFirstTurnBeyond n turns (goal_at s turns) boxes turn coordinate bound
  beyond_is s turn coordinate bound b = record {
    reached = b.reached;
    before = λ k l i o. (rw (low_is k i (omega (arith, l, b.reached)) o) at (b.before k l i o).0, rw (high_is k i (omega (arith, l, b.reached)) o) at (b.before k l i o).1);
    here = record {
      index = b.here.index;
      inside = b.here.inside;
      place = b.here.place;
      before = λ i l. (let o : i < n = omega (arith, l, b.here.inside) in (rw (low_is turn i b.reached o) at (b.here.before i l).0, rw (high_is turn i b.reached o) at (b.here.before i l).1));
      here = rw (low_is turn b.here.index b.reached b.here.inside, high_is turn b.here.index b.reached b.here.inside) at b.here.here;
    };
  }

-- the least box that holds boxes that are equal in a coordinate
hull_low : (a b : ℕ → Box) (k i : ℕ) → ((t : ℕ) → t ≤ k → (a t).low i ≡ (b t).low i) → (hull a k).low i ≡ (hull b k).low i
hull_low a b zero i h = h 0 (omega arith)
hull_low a b (suc k) i h = rw (hull_low a b k i (λ t l. h t (omega (arith, l))), h (suc k) (omega arith)) refl

hull_high : (a b : ℕ → Box) (k i : ℕ) → ((t : ℕ) → t ≤ k → (a t).high i ≡ (b t).high i) → (hull a k).high i ≡ (hull b k).high i
hull_high a b zero i h = h 0 (omega arith)
hull_high a b (suc k) i h = rw (hull_high a b k i (λ t l. h t (omega (arith, l))), h (suc k) (omega arith)) refl

-- ---- what a certificate asks, turn by turn
goal_before : (s : Certificate) (turns t : ℕ) → t < turns → goal_at s turns t ≡ s.still
goal_before s turns t l = by_test (nat_lt t turns) (lt-ltb t turns l)
  where
    by_test : (b : Bool) → b ≡ true → (if b then s.still else s.rest) ≡ s.still
    by_test true e = refl
    by_test false e = cc

goal_last : (s : Certificate) (turns : ℕ) → goal_at s turns turns ≡ s.rest
goal_last s turns = by_test (nat_lt turns turns) (le-ltb turns turns (omega arith))
  where
    by_test : (b : Bool) → b ≡ false → (if b then s.still else s.rest) ≡ s.rest
    by_test true e = cc
    by_test false e = refl

pub leads : (d : Design) (c : Numbers) (shifts : Box) (s : Certificate) (from : Box) (turns : ℕ) → AllInside s d.states turns (tube d c s.still shifts from) → Leads d c shifts s from turns
leads d c shifts s from turns all = record {
  through = λ t l. subst (λ (b : Box). IsPartOf d.states b (tube d c s.still shifts from t)) (goal_before s turns t l) (all t (omega (arith, l)));
  to = subst (λ (b : Box). IsPartOf d.states b (tube d c s.still shifts from turns)) (goal_last s turns) (all turns (omega arith));
}

-- and what it asks is met by boxes that lie in the goals
pub all_inside : (d : Design) (c : Numbers) (shifts : Box) (s : Certificate) (from : Box) (turns : ℕ) → Leads d c shifts s from turns → AllInside s d.states turns (tube d c s.still shifts from)
all_inside d c shifts s from turns h t l = elim (cases_lt t turns) [
  | inl o ↦ subst (λ (b : Box). IsPartOf d.states b (tube d c s.still shifts from t)) (sym (goal_before s turns t o)) (h.through t o)
  | inr o ↦ (let e : t ≡ turns = omega (arith, l, o) in rw e (subst (λ (b : Box). IsPartOf d.states b (tube d c s.still shifts from turns)) (sym (goal_last s turns)) h.to))
]

-- ---- of a loop in the box where no multiplier moves
-- the loop's box of states is the certificate's
pub states_are : (l : ClosedLoop) (p : CertificateParts) → l.low.now ≡ p.still.low.items → l.high.now ≡ p.still.high.items → states_box l ≡ (certificate_of p).still
states_are l p e f = rw (e, f) refl

module _ (l : ClosedLoop) (s : Certificate) (e : states_box l ≡ s.still) where
  room_is : (from : Box) (turns : ℕ) → TubeHasRoom l from turns → EndsHaveRoom (plant l) (machine l) s.still (shifts_box l) from turns
  room_is from turns = subst (λ (z : Box). EndsHaveRoom (plant l) (machine l) z (shifts_box l) from turns) e

  room_back : (from : Box) (turns : ℕ) → EndsHaveRoom (plant l) (machine l) s.still (shifts_box l) from turns → TubeHasRoom l from turns
  room_back from turns = subst (λ (z : Box). EndsHaveRoom (plant l) (machine l) z (shifts_box l) from turns) (sym e)

  -- a way that isn't followed
  pub start_room : (fault : SettleFault) → IsTubeFault l s.start s.turns fault → (fault ≡ Memory) ⊎ IsSettleFault (plant l) (machine l) (shifts_box l) s fault
  start_room fault f = elim f [
    | inl m ↦ inl m
    | inr w ↦ inr (rw w.0 (λ all. w.1 (room_back s.start s.turns all.there)))
  ]

  pub rest_room : (fault : SettleFault) → IsTubeFault l s.rest s.back fault → (fault ≡ Memory) ⊎ IsSettleFault (plant l) (machine l) (shifts_box l) s fault
  rest_room fault f = elim f [
    | inl m ↦ inl m
    | inr w ↦ inr (rw w.0 (λ all. w.1 (room_back s.rest s.back all.again)))
  ]

  -- rows of the cost that aren't followed
  costs_back : CostsHaveRoom (plant l) (machine l) s.still (shifts_box l) s.after → LoopCostsHaveRoom l s.after
  costs_back = subst (λ (z : Box). CostsHaveRoom (plant l) (machine l) z (shifts_box l) s.after) (sym e)

  pub costs_room : (fault : SettleFault) → (fault ≡ Memory) ⊎ ((fault ≡ TooWide) × (LoopCostsHaveRoom l s.after → ⊥)) →
      (fault ≡ Memory) ⊎ IsSettleFault (plant l) (machine l) (shifts_box l) s fault
  costs_room fault f = elim f [
    | inl m ↦ inl m
    | inr w ↦ inr (rw w.0 (λ all. w.1 (costs_back all.costs)))
  ]

  -- where they lie
  pub costs_are : (b : StateBox) → IsBoxOf (told_rows (plant l) s.after) (costs_of l s.after) b →
      IsBoxOf (told_rows (plant l) s.after) (cost_box (plant l) (machine l) s.still (shifts_box l) s.after) b
  costs_are b = subst (λ (z : Box). IsBoxOf (told_rows (plant l) s.after) (cost_box (plant l) (machine l) z (shifts_box l) s.after) b) e

  -- boxes that the code holds, by the certificate
  pub of_tube : (from : Box) (turns : ℕ) (t : Tube) → HoldsBoxes (plant l).states turns (tube_of l from) t →
      HoldsBoxes (plant l).states turns (tube (plant l) (machine l) s.still (shifts_box l) from) t
  of_tube from turns t = subst (λ (z : Box). HoldsBoxes (plant l).states turns (tube (plant l) (machine l) z (shifts_box l) from) t) e

  module _ (there again : Tube) (h : HoldsBoxes (plant l).states s.turns (tube_of l s.start) there) (k : HoldsBoxes (plant l).states s.back (tube_of l s.rest) again)
      (first : TubeHasRoom l s.start s.turns) (second : TubeHasRoom l s.rest s.back) (costs : LoopCostsHaveRoom l s.after) where
    costs_is : CostsHaveRoom (plant l) (machine l) s.still (shifts_box l) s.after
    costs_is = subst (λ (z : Box). CostsHaveRoom (plant l) (machine l) z (shifts_box l) s.after) e costs

    all_room : RowsHaveRoom (machine l) s.still → HasAllRoom (plant l) (machine l) (shifts_box l) s
    all_room rows = record { there = room_is s.start s.turns first; again = room_is s.rest s.back second; costs = costs_is; rows = rows }

    start_leads : AllInside s (machine l).states s.turns (tube_at there) → Leads (plant l) (machine l) (shifts_box l) s s.start s.turns
    start_leads all = leads (plant l) (machine l) (shifts_box l) s s.start s.turns
        (inside_is (plant l).states s.turns (tube (plant l) (machine l) s.still (shifts_box l) s.start) there (of_tube s.start s.turns there h) s (rw (← l.matched.states) at all))

    rest_leads : AllInside s (machine l).states s.back (tube_at again) → Leads (plant l) (machine l) (shifts_box l) s s.rest s.back
    rest_leads all = leads (plant l) (machine l) (shifts_box l) s s.rest s.back
        (inside_is (plant l).states s.back (tube (plant l) (machine l) s.still (shifts_box l) s.rest) again (of_tube s.rest s.back again k) s (rw (← l.matched.states) at all))

    pub passed : PassesBy (machine l) s (tube_at there) (tube_at again) → PassesSettling (plant l) (machine l) (shifts_box l) s
    passed p = record { room = all_room p.room; still = p.still; there = start_leads p.there; again = rest_leads p.again }

    pub told : (fault : SettleFault) → IsSettleFaultBy (machine l) s (tube_at there) (tube_at again) fault → IsSettleFault (plant l) (machine l) (shifts_box l) s fault
    told Memory f = f
    told TooWide f = λ all. f all.rows
    told (Moves row left right) f = (all_room f.0, f.1)
    told (Unsettled turn coordinate bound) f = (
      all_room f.0,
      f.1,
      beyond_is (plant l).states s.turns (tube (plant l) (machine l) s.still (shifts_box l) s.start) there (of_tube s.start s.turns there h) s turn coordinate bound (rw (← l.matched.states) at f.2),
    )
    told (NoReturn turn coordinate bound) f = (
      all_room f.0,
      f.1,
      start_leads f.2,
      beyond_is (plant l).states s.back (tube (plant l) (machine l) s.still (shifts_box l) s.rest) again (of_tube s.rest s.back again k) s turn coordinate bound (rw (← l.matched.states) at f.3),
    )

  -- where loops settle
  pub rest_is : (again : Tube) (b : StateBox) → 1 ≤ s.back → HoldsBoxes (plant l).states s.back (tube_of l s.rest) again →
      IsBoxOf (length again.lows.rows) (hull (tube_at again) (s.back - 1)) b → IsBoxOf (plant l).states (settled_box (plant l) (machine l) (shifts_box l) s) b
  rest_is again b some k h =
      let boxes = tube (plant l) (machine l) s.still (shifts_box l) s.rest in
      let held = of_tube s.rest s.back again k in
      record {
        low = record {
          long = h.low.long ∙ k.lows.rows;
          is = λ i o. h.low.is i (omega (arith, o, k.lows.rows)) ∙
              hull_low (tube_at again) boxes (s.back - 1) i (λ t w. low_is (plant l).states s.back boxes again held t i (omega (arith, w)) o);
        };
        high = record {
          long = h.high.long ∙ k.lows.rows;
          is = λ i o. h.high.is i (omega (arith, o, k.lows.rows)) ∙
              hull_high (tube_at again) boxes (s.back - 1) i (λ t w. high_is (plant l).states s.back boxes again held t i (omega (arith, w)) o);
        };
      }

-- ---- what it promises
pub settles : (d : Design) (c : Numbers) (shifts : Box) (s : Certificate) → IsPartOf d.states (box_of c.low c.high) s.still → 1 ≤ s.back → PassesSettling d c shifts s → Settles d c shifts s
settles d c shifts s inside some p = record { inside = inside; still = p.still; some = some; there = p.there; again = p.again }

pub promised : (r : Result Settled SettleFault) (d : Design) (c : Numbers) (shifts : Box) (s : Certificate) → IsLoopFor d c → IsPartOf d.states (box_of c.low c.high) s.still → 1 ≤ s.back →
    IfOk r (λ b. PassesSettling d c shifts s) → IfOk r (λ b. LoopsSettle d c shifts s)
promised (Ok b) d c shifts s loop inside some p = settling_law d c shifts s loop (settles d c shifts s inside some p)
promised (Err e) d c shifts s loop inside some p = tt
