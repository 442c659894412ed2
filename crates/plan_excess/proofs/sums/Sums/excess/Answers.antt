use Rattle.std.proofs.Common.{ℕ, ◌≡◌, ◌*◌, ◌^◌, ◌≤◌, ℤ, pos, ◌*ℤ◌, unsigned_abs, arith, ap, ◌∙◌, subst, FitsSigned, refl, rules}
use Rattle.std.specs.Int.{w128}
use Rattle.std.proofs.lemmas.Int.{to_z-of_z, to_z_pos}
use Rattle.integer_algebra.specs.Division.{ceil_of}
use Rattle.plan_excess.proofs.RoomFacts.{none_of}
use Rattle.plan_excess.proofs.RoundFacts.{excess_fits, excess_small, over_fits, over_positive, pull_is}
use Rattle.plan_excess.proofs.sums.Sums.excess.Goals as goal
use Rattle.plan_excess.proofs.sums.Sums.excess.Goals.{After-ceil_div-above_best}

pub returns-in_err-pull-clause-room : goal.returns-in_err-pull-clause-room
returns-in_err-pull-clause-room c =
    let size = rw (to_z-of_z w128 _ c.ranges.weight_den) at c.unsigned_abs.ensures.value in
    none_of c.from_residual.result _ c.from_residual.ensures (λ h. c.in_err-pull.ensures (rw size h))

pub scaled-over-requires-clause-fits : goal.scaled-over-requires-clause-fits
scaled-over-requires-clause-fits c = rw (to_z-of_z w128 _ c.ranges.input_floor) (over_fits c.args.input_floor c.requires.some c.requires.floor)

pub ceil_div-above_best-requires : goal.ceil_div-above_best-requires
ceil_div-above_best-requires c =
    let o : FitsSigned w128 c.scaled-over.result = search rules in
    let over = rw (to_z-of_z w128 _ c.ranges.input_floor) at c.scaled-over.ensures in
    rw (to_z-of_z w128 _ o) (over_positive c.args.input_floor c.scaled-over.result c.requires.some over)

-- the two quotients, and the room of what they are made of
record AreQuotients (above_reference above_best rise w f : ℤ) (squares : ℕ) : Type 0 where
  pub first : above_reference ≡ ceil_of rise (2 ^ 25)
  pub second : above_best ≡ ceil_of (w *ℤ pos squares) (2 ^ 34 * unsigned_abs f)
  pub rise_room : unsigned_abs rise ≤ 2 ^ 126
  pub room : unsigned_abs w * squares ≤ 2 ^ 126

quotients : (c : After-ceil_div-above_best) → AreQuotients c.ceil_div-above_reference.result c.ceil_div-above_best.result c.args.self.rise c.args.weight_den c.args.input_floor c.args.self.squares
quotients c =
    let size = rw (to_z-of_z w128 _ c.ranges.weight_den) at c.unsigned_abs.ensures.value in
    let r : FitsSigned w128 c.args.self.rise = search rules in
    let o : FitsSigned w128 c.scaled-over.result = search rules in
    let over = rw (to_z-of_z w128 _ c.ranges.input_floor) at c.scaled-over.ensures in
    let room : unsigned_abs c.args.weight_den * c.args.self.squares ≤ 2 ^ 126 = subst (λ (n : ℕ). n * c.args.self.squares ≤ 2 ^ 126) size c.in_ok-pull.ensures.0 in
    let pull : c.in_ok-pull.pull ≡ unsigned_abs c.args.weight_den * c.args.self.squares = c.in_ok-pull.ensures.1 ∙ ap (λ (n : ℕ). n * c.args.self.squares) size in
    record {
      first = rw (to_z-of_z w128 _ r) at c.ceil_div-above_reference.ensures;
      second = pull_is c.ceil_div-above_best.result c.scaled-over.result c.args.weight_den c.args.input_floor c.in_ok-pull.pull c.args.self.squares
          (rw (to_z_pos w128 c.in_ok-pull.pull (omega (arith, room, pull)), to_z-of_z w128 _ o) at c.ceil_div-above_best.ensures) pull c.requires.weight c.requires.some over;
      rise_room = omega (arith, c.args.self.within, c.args.self.limited);
      room = room;
    }

pub overflow_add-result : goal.overflow_add-result
overflow_add-result c =
    let a : FitsSigned w128 c.ceil_div-above_reference.result = search rules in
    let b : FitsSigned w128 c.ceil_div-above_best.result = search rules in
    let is = quotients c in
    rw (to_z-of_z w128 _ a, to_z-of_z w128 _ b, is.first, is.second) (excess_fits c.args.self.rise c.args.weight_den c.args.input_floor c.args.self.squares is.rise_room c.requires.weight c.requires.some is.room)

pub returns-clause-value : goal.returns-clause-value
returns-clause-value c =
    let a : FitsSigned w128 c.ceil_div-above_reference.result = search rules in
    let b : FitsSigned w128 c.ceil_div-above_best.result = search rules in
    let is = quotients (goal.at.returns-clause-value c).After-ceil_div-above_best in
    let fits = excess_fits c.args.self.rise c.args.weight_den c.args.input_floor c.args.self.squares is.rise_room c.requires.weight c.requires.some is.room in
    rw (to_z-of_z w128 _ a, to_z-of_z w128 _ b, is.first, is.second) (to_z-of_z w128 _ fits)

pub returns-clause-small : goal.returns-clause-small
returns-clause-small c =
    let a : FitsSigned w128 c.ceil_div-above_reference.result = search rules in
    let b : FitsSigned w128 c.ceil_div-above_best.result = search rules in
    let is = quotients (goal.at.returns-clause-small c).After-ceil_div-above_best in
    let fits = excess_fits c.args.self.rise c.args.weight_den c.args.input_floor c.args.self.squares is.rise_room c.requires.weight c.requires.some is.room in
    rw (to_z-of_z w128 _ a, to_z-of_z w128 _ b, is.first, is.second, to_z-of_z w128 _ fits) (excess_small c.args.self.rise c.args.weight_den c.args.input_floor c.args.self.squares is.rise_room c.requires.weight c.requires.some is.room)

pub returns-clause-room : goal.returns-clause-room
returns-clause-room c =
    let size = rw (to_z-of_z w128 _ c.ranges.weight_den) at c.unsigned_abs.ensures.value in
    (λ s. subst (λ n. n * c.args.self.squares ≤ 2 ^ 126) size c.in_ok-pull.ensures.0, λ h. refl)
