use Rattle.std.proofs.Common.{◌≡◌, ◌+◌, ◌*◌, ◌^◌, ◌+ℤ◌, ◌*ℤ◌, pos, ◌∙◌, arith, rules, refl, FitsSigned}
use Rattle.std.specs.Int.{w128}
use Rattle.std.proofs.lemmas.Int.{ints, to_z-of_z}
use Rattle.integer_algebra.specs.Sums.{at}
use Rattle.settle_check.specs.Course.{plant, machine, states_box, shifts_box, adds_size}
use Rattle.settle_check.specs.ClosedRows.{loop_over, rounded_size, turn_rest}
use Rattle.settle_check.specs.TurnSize.{turn_rest_size, row_size}
use Rattle.integer_algebra.specs.Division.{floor_of}
use Rattle.settle_check.proofs.CountedFacts.{fits}
use Rattle.settle_check.proofs.closed.ClosedLoop.adds.Goals as goal

pub returns-in_err-shifts-clause-room : goal.returns-in_err-shifts-clause-room
returns-in_err-shifts-clause-room c =
    let d = plant c.args.self.now in
    let n = machine c.args.self.now in
    let r = turn_rest_size d n (states_box c.args.self.now) (at c.args.row.now) (at c.args.next.now) in
    let o = loop_over d n * rounded_size d (at c.args.row.now) in
    let s = row_size d (shifts_box c.args.self.now) (at c.args.row.now) in
    let whole : adds_size c.args.self.now (at c.args.row.now) (at c.args.next.now) ≡ 2 * r + o + s = refl in
    rw (c.from_residual.ensures, whole) (λ s. cc, λ h. c.in_err-shifts.ensures.room.1 (omega (arith, h)))

pub returns-in_err-rest-clause-room : goal.returns-in_err-rest-clause-room
returns-in_err-rest-clause-room c =
    let d = plant c.args.self.now in
    let n = machine c.args.self.now in
    let r = turn_rest_size d n (states_box c.args.self.now) (at c.args.row.now) (at c.args.next.now) in
    let o = loop_over d n * rounded_size d (at c.args.row.now) in
    let s = row_size d (shifts_box c.args.self.now) (at c.args.row.now) in
    let whole : adds_size c.args.self.now (at c.args.row.now) (at c.args.next.now) ≡ 2 * r + o + s = refl in
    rw (c.from_residual-in_err-rest.ensures, whole) (λ s. cc, λ h. c.in_err-rest.ensures.room.1 (omega (arith, h)))

pub returns-in_err-half-clause-room : goal.returns-in_err-half-clause-room
returns-in_err-half-clause-room c =
    let d = plant c.args.self.now in
    let n = machine c.args.self.now in
    let r = turn_rest_size d n (states_box c.args.self.now) (at c.args.row.now) (at c.args.next.now) in
    let o = loop_over d n * rounded_size d (at c.args.row.now) in
    let s = row_size d (shifts_box c.args.self.now) (at c.args.row.now) in
    let whole : adds_size c.args.self.now (at c.args.row.now) (at c.args.next.now) ≡ 2 * r + o + s = refl in
    rw (c.from_residual-in_err-half.ensures, whole) (λ s. cc, λ h. c.in_err-half.ensures.room.1 (omega (arith, h)))

pub returns-in_err-twice-clause-room : goal.returns-in_err-twice-clause-room
returns-in_err-twice-clause-room c =
    let d = plant c.args.self.now in
    let n = machine c.args.self.now in
    let r = turn_rest_size d n (states_box c.args.self.now) (at c.args.row.now) (at c.args.next.now) in
    let o = loop_over d n * rounded_size d (at c.args.row.now) in
    let s = row_size d (shifts_box c.args.self.now) (at c.args.row.now) in
    let whole : adds_size c.args.self.now (at c.args.row.now) (at c.args.next.now) ≡ 2 * r + o + s = refl in
    let two : c.power.result.size * c.in_ok-rest.rest.size ≡ 2 * r = rw (c.power.ensures.size, c.in_ok-rest.ensures.size) refl in
    rw (c.from_residual-in_err-twice.ensures, whole) (λ s. cc, λ h. c.in_err-twice.ensures.room.1 (omega (arith, two, h)))

pub returns-in_err-all-clause-room : goal.returns-in_err-all-clause-room
returns-in_err-all-clause-room c =
    let d = plant c.args.self.now in
    let n = machine c.args.self.now in
    let r = turn_rest_size d n (states_box c.args.self.now) (at c.args.row.now) (at c.args.next.now) in
    let o = loop_over d n * rounded_size d (at c.args.row.now) in
    let s = row_size d (shifts_box c.args.self.now) (at c.args.row.now) in
    let whole : adds_size c.args.self.now (at c.args.row.now) (at c.args.next.now) ≡ 2 * r + o + s = refl in
    let two : c.in_ok-twice.twice.size ≡ 2 * r = c.in_ok-twice.ensures.size ∙ rw (c.power.ensures.size, c.in_ok-rest.ensures.size) refl in
    rw (c.from_residual-in_err-all.ensures, whole) (λ s. cc, λ h. c.in_err-all.ensures.room.1 (omega (arith, two, c.in_ok-half.ensures.size, h)))

pub overflow_mul-loop_over : goal.overflow_mul-loop_over
overflow_mul-loop_over c =
    let f : FitsSigned w128 c.loop_over.result = search rules in
    let o = loop_over (plant c.args.self.now) (machine c.args.self.now) in
    rw (to_z-of_z w128 _ f, c.loop_over.ensures.value) (fits (pos 2 *ℤ pos o) (2 ^ 71) (omega (arith, c.loop_over.ensures.small)) (omega arith))

pub floored-requires : goal.floored-requires
floored-requires c =
    let f : FitsSigned w128 c.loop_over.result = search rules in
    let o = loop_over (plant c.args.self.now) (machine c.args.self.now) in
    let p : FitsSigned w128 (pos 2 *ℤ pos o) = fits (pos 2 *ℤ pos o) (2 ^ 71) (omega (arith, c.loop_over.ensures.small)) (omega arith) in
    rw (to_z-of_z w128 _ f, c.loop_over.ensures.value, to_z-of_z w128 _ p) (omega (arith, ints, c.loop_over.ensures.positive))

pub returns-clause-value : goal.returns-clause-value
returns-clause-value c =
    let d = plant c.args.self.now in
    let n = machine c.args.self.now in
    let o = loop_over d n in
    let f : FitsSigned w128 c.loop_over.result = search rules in
    let p : FitsSigned w128 (pos 2 *ℤ pos o) = fits (pos 2 *ℤ pos o) (2 ^ 71) (omega (arith, c.loop_over.ensures.small)) (omega arith) in
    let all : c.in_ok-all.all.value ≡ pos 2 *ℤ turn_rest d n (states_box c.args.self.now) (at c.args.row.now) (at c.args.next.now) +ℤ pos o *ℤ pos (rounded_size d (at c.args.row.now)) =
    c.in_ok-all.ensures.value ∙ rw (c.in_ok-twice.ensures.value, c.power.ensures.value, c.in_ok-rest.ensures.value, c.in_ok-half.ensures.value) refl in
    let quotient : c.floored.result.value ≡ floor_of (pos 2 *ℤ turn_rest d n (states_box c.args.self.now) (at c.args.row.now) (at c.args.next.now) +ℤ pos o *ℤ pos (rounded_size d (at c.args.row.now))) (2 * o) =
    rw (to_z-of_z w128 _ f, c.loop_over.ensures.value, to_z-of_z w128 _ p, all) at c.floored.ensures.value in
    rw (quotient, c.in_ok-shifts.ensures.value) at c.plus-2.ensures.value

pub returns-clause-size : goal.returns-clause-size
returns-clause-size c =
    let d = plant c.args.self.now in
    let n = machine c.args.self.now in
    let r = turn_rest_size d n (states_box c.args.self.now) (at c.args.row.now) (at c.args.next.now) in
    let o = loop_over d n * rounded_size d (at c.args.row.now) in
    let s = row_size d (shifts_box c.args.self.now) (at c.args.row.now) in
    let whole : adds_size c.args.self.now (at c.args.row.now) (at c.args.next.now) ≡ 2 * r + o + s = refl in
    let two : c.in_ok-twice.twice.size ≡ 2 * r = c.in_ok-twice.ensures.size ∙ rw (c.power.ensures.size, c.in_ok-rest.ensures.size) refl in
    let all : c.floored.result.size + c.in_ok-shifts.shifts.size ≡ 2 * r + o + s = omega (arith, c.floored.ensures.size, c.in_ok-all.ensures.size, two, c.in_ok-half.ensures.size, c.in_ok-shifts.ensures.size) in
    rw whole (rw all at c.plus-2.ensures.size)

pub returns-clause-room : goal.returns-clause-room
returns-clause-room c =
    let d = plant c.args.self.now in
    let n = machine c.args.self.now in
    let r = turn_rest_size d n (states_box c.args.self.now) (at c.args.row.now) (at c.args.next.now) in
    let o = loop_over d n * rounded_size d (at c.args.row.now) in
    let s = row_size d (shifts_box c.args.self.now) (at c.args.row.now) in
    let whole : adds_size c.args.self.now (at c.args.row.now) (at c.args.next.now) ≡ 2 * r + o + s = refl in
    let two : c.in_ok-twice.twice.size ≡ 2 * r = c.in_ok-twice.ensures.size ∙ rw (c.power.ensures.size, c.in_ok-rest.ensures.size) refl in
    let all : c.floored.result.size + c.in_ok-shifts.shifts.size ≡ 2 * r + o + s = omega (arith, c.floored.ensures.size, c.in_ok-all.ensures.size, two, c.in_ok-half.ensures.size, c.in_ok-shifts.ensures.size) in
    rw whole (rw all at c.plus-2.ensures.room)
