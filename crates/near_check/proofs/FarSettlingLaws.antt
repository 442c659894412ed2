-- Loops that begin where limits bind settle: by induction over their first turns, and then as those that begin where no multiplier moves.
use Rattle.std.proofs.Common.{◌≡◌, inl, inr, ℕ, zero, suc, ◌+◌, ◌-◌, ◌<◌, ◌≤◌, Bool, true, false, ℤ, ◌≤ℤ◌, List, length, le_refl, if◌then◌else◌, nat_lt, arith, ap, subst, sym, ◌∙◌}
use Rattle.std.proofs.lemmas.Int.{ints}
use Rattle.std.proofs.lemmas.Bool.{cases_lt, le-ltb}
use Rattle.integer_algebra.specs.Sums.{dot, at}
use Rattle.qp_model.specs.problem.Design.{Design}
use Rattle.qp_model.specs.problem.Parts.{design_of}
use Rattle.qp_model.specs.machine.Controller.{Numbers}
use Rattle.qp_model.specs.machine.Machine.{IsAdmissible}
use Rattle.qp_model.proofs.SoundLaws.{sound}
use Rattle.stay_check.specs.LoopStay.{state_under, AreShiftsUpTo}
use Rattle.settle_check.specs.Still.{Box, box_of, LiesInBox, IsPartOf}
use Rattle.settle_check.specs.ClosedRows.{IsLoopFor}
use Rattle.settle_check.specs.Settling.{Certificate, Settles, IsSettledAt, settled_box, told_rows, cost_numbers, cost_box}
use Rattle.settle_check.proofs.StillLaws.{plain_sized}
use Rattle.settle_check.proofs.TubeLaws.{state_long}
use Rattle.settle_check.proofs.SettlingLaws.{wider, goes_on, grid_state, costs_from, settling_law}
use Rattle.near_check.specs.FarTube.{FirstTurns, AreNear, box_at, IsThrough, far_tube}
use Rattle.near_check.specs.FarSettling.{FarSettles, FarSettlingLaw, CertifiedFarLaw}
use Rattle.near_check.proofs.FarTubeLaws.{far_tube_law}
use Rattle.near_check.proofs.NearLaws.{certified_near_law}

-- all but the rows of the cost
record Lies (d : Design) (c : Numbers) (shifts : Box) (s : Certificate) (g : FirstTurns) (turn : ℕ) (xi : List ℤ) : Type 0 where
  admissible : IsAdmissible c xi
  inside : g.count ≤ turn → LiesInBox d.states s.still (at xi)
  settled : s.turns ≤ turn → LiesInBox d.states (settled_box d c shifts s) (at xi)

module _ (d : Design) (c : Numbers) (shifts : Box) (s : Certificate) (g : FirstTurns) (loop : IsLoopFor d c) (near : AreNear d c g) (settles : FarSettles d c shifts s g) where
  -- before each turn up to the last the loop lies in its box
  before : (start : List ℤ) → length start ≡ d.states → LiesInBox d.states s.start (at start) → (w : ℕ → ℕ → ℤ) (t : ℕ) → t ≤ s.turns →
      AreShiftsUpTo d shifts.low shifts.high w t → IsThrough d c s.still g start w t
  before start long lies w zero h within k l = absurd (omega arith)
  before start long lies w (suc t) h within k l =
      let fewer : AreShiftsUpTo d shifts.low shifts.high w t = λ j o. within j (omega (arith, o)) in
      let so_far = before start long lies w t (omega (arith, h)) fewer in
      elim (cases_lt k t) [
        | inl o ↦ so_far k o
        | inr o ↦ (let e : k ≡ t = omega arith in rw e
            (wider d.states (box_at g s.still t) (far_tube d c s.still shifts s.start g t) (at (state_under d c start w t)) (settles.through t (omega (arith, h)))
            (far_tube_law d c s.still shifts s.start g loop settles.still near start w t long lies fewer so_far)))
      ]

  -- at it, it lies in the tube
  in_tube : (start : List ℤ) → length start ≡ d.states → LiesInBox d.states s.start (at start) → (w : ℕ → ℕ → ℤ) (t : ℕ) → t ≤ s.turns →
      AreShiftsUpTo d shifts.low shifts.high w t → LiesInBox d.states (far_tube d c s.still shifts s.start g t) (at (state_under d c start w t))
  in_tube start long lies w t h within =
      far_tube_law d c s.still shifts s.start g loop settles.still near start w t long lies within (before start long lies w t h within)

  -- before the last turn
  early : (start : List ℤ) → length start ≡ d.states → LiesInBox d.states s.start (at start) → (w : ℕ → ℕ → ℤ) (t : ℕ) → t < s.turns →
      AreShiftsUpTo d shifts.low shifts.high w t → Lies d c shifts s g t (state_under d c start w t)
  early start long lies w t h within =
      let x = state_under d c start w t in
      let here : LiesInBox d.states (box_at g s.still t) (at x) =
      wider d.states (box_at g s.still t) (far_tube d c s.still shifts s.start g t) (at x) (settles.through t h) (in_tube start long lies w t (omega (arith, h)) within) in
      let whole = wider d.states (box_of c.low c.high) (box_at g s.still t) (at x) (in_box (nat_lt t g.count)) here in
      record {
        admissible = record {
          long = state_long d c start w t long ∙ loop.sizes.states;
          each = λ i l. (let b = whole i (omega (arith, l, loop.sizes.states)) in record { low = b.0; high = b.1 });
        };
        inside = λ k. subst (λ (b : Bool). LiesInBox d.states (if b then g.outer else s.still) (at x)) (le-ltb t g.count k) here;
        settled = λ k. absurd (omega (arith, h, k));
      }
    where
      in_box : (b : Bool) → IsPartOf d.states (box_of c.low c.high) (if b then g.outer else s.still)
      in_box true = settles.outer
      in_box false = settles.inside

  -- as from the box of rest
  abbrev from_rest : Certificate
  from_rest = record s { start = s.rest; turns = 0 }

  rest_settles : Settles d c shifts from_rest
  rest_settles = record {
    inside = settles.inside;
    still = settles.still;
    some = settles.some;
    there = record { through = λ t l. absurd (omega arith); to = λ i l. (same (s.rest.low i), same (s.rest.high i)) };
    again = record { through = settles.again.through; to = settles.again.to };
  }
    where
      same : (z : ℤ) → z ≤ℤ z
      same z = omega (arith, ints)

  -- from it on
  late : (start : List ℤ) → length start ≡ d.states → LiesInBox d.states s.start (at start) → (w : ℕ → ℕ → ℤ) (t : ℕ) →
      AreShiftsUpTo d shifts.low shifts.high w (t + s.turns) → Lies d c shifts s g (t + s.turns) (state_under d c start w (t + s.turns))
  late start long lies w t within =
      let there = state_under d c start w s.turns in
      let arrived = wider d.states s.rest _ (at there) settles.to (in_tube start long lies w s.turns (le_refl s.turns) (λ k l. within k (omega (arith, l)))) in
      let far = settling_law d c shifts from_rest loop rest_settles there (state_long d c start w s.turns long) arrived (λ k. w (k + s.turns)) t
      (λ k l. within (k + s.turns) (omega (arith, l))) in
      let here = subst (λ (x : List ℤ). IsSettledAt d c shifts from_rest t x) (goes_on d c start w s.turns t) far in
      record {
        admissible = here.admissible;
        inside = λ k. here.inside;
        settled = λ k. here.settled (omega arith);
      }

  -- at any turn
  lies_at : (start : List ℤ) → length start ≡ d.states → LiesInBox d.states s.start (at start) → (w : ℕ → ℕ → ℤ) (turns : ℕ) →
      AreShiftsUpTo d shifts.low shifts.high w turns → Lies d c shifts s g turns (state_under d c start w turns)
  lies_at start long lies w turns within = elim (cases_lt turns s.turns) [
    | inl o ↦ early start long lies w turns o within
    | inr o ↦ (let e : turns - s.turns + s.turns ≡ turns = omega (arith, o) in
        subst (λ t. Lies d c shifts s g t (state_under d c start w t)) e
        (late start long lies w (turns - s.turns) (λ k l. within k (omega (arith, l, e)))))
  ]

  -- the rows of the cost, as of a loop that begins after the first turns
  costs_at : (start : List ℤ) → length start ≡ d.states → LiesInBox d.states s.start (at start) → (w : ℕ → ℕ → ℤ) (turns : ℕ) →
      AreShiftsUpTo d shifts.low shifts.high w turns → g.count + s.after ≤ turns →
      LiesInBox (told_rows d s.after) (cost_box d c s.still shifts s.after) (λ k. dot d.states (cost_numbers d k) (at (state_under d c start w turns)))
  costs_at start long lies w turns within h =
      let q = g.count in
      let t = turns - q in
      let e : t + q ≡ turns = omega (arith, h) in
      let there = state_under d c start w q in
      subst (λ (x : List ℤ). LiesInBox (told_rows d s.after) (cost_box d c s.still shifts s.after) (λ k. dot d.states (cost_numbers d k) (at x)))
      (goes_on d c start w q t ∙ ap (state_under d c start w) e)
      (costs_from d c shifts s loop settles.still there (state_long d c start w q long) (λ k. w (k + q)) t (λ k l. within (k + q) (omega (arith, l, e)))
      (λ k l. subst (λ (x : List ℤ). LiesInBox d.states s.still (at x)) (sym (goes_on d c start w q k))
      ((lies_at start long lies w (k + q) (λ j o. within j (omega (arith, o, l, e)))).inside (omega arith))) (omega (arith, h)))

pub far_settling_law : FarSettlingLaw
far_settling_law d c shifts s g loop near settles start long lies w turns within =
    let here = lies_at d c shifts s g loop near settles start long lies w turns within in
    record {
      admissible = here.admissible;
      inside = here.inside;
      settled = here.settled;
      costs = costs_at d c shifts s g loop near settles start long lies w turns within;
    }

-- ---- a certified controller
pub certified_far_law : CertifiedFarLaw
certified_far_law p h r c b plans units excess shifts s g by settles start long lies w turns within =
    let d = design_of p in
    let loop : IsLoopFor d c = record {
      plant = (sound p by.design).plant_denominator;
      sized = plain_sized c by.controller.form.sized;
      sizes = record { states = sym by.made.sizes.states; inputs = sym by.made.sizes.inputs; grid = sym by.made.sizes.grid };
    } in
    let near : AreNear d c g = λ xi l inside. certified_near_law p h r c b plans units excess g.distance by xi l
    (grid_state d c by.made.sizes xi (admitted d c loop xi l (wider d.states (box_of c.low c.high) g.outer (at xi) settles.outer inside))) in
    let here = far_settling_law d c shifts s g loop near settles start long lies w turns within in
    let xi = state_under d c start w turns in
    record {
      settled = here;
      kept = record { inside = here.admissible; certified = by.certified xi (here.admissible.long ∙ by.made.sizes.states) (grid_state d c by.made.sizes xi here.admissible) };
    }
  where
    admitted : (d : Design) (c : Numbers) → IsLoopFor d c → (xi : List ℤ) → length xi ≡ d.states → LiesInBox d.states (box_of c.low c.high) (at xi) → IsAdmissible c xi
    admitted d c loop xi long inside = record {
      long = long ∙ loop.sizes.states;
      each = λ i l. (let b = inside i (omega (arith, l, loop.sizes.states)) in record { low = b.0; high = b.1 });
    }
