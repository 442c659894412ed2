use Rattle.std.proofs.Common.{◌≡◌, ◌+◌, ◌-◌, ◌*◌, ◌^◌, ◌+ℤ◌, unsigned_abs, arith, rules, refl, FitsSigned}
use Rattle.std.specs.Int.{w128}
use Rattle.std.proofs.lemmas.Int.{to_z-of_z}
use Rattle.std.proofs.lemmas.Nat.{pow_pos}
use Rattle.integer_algebra.specs.Sums.{at}
use Rattle.qp_model.specs.machine.Controller.{numbers}
use Rattle.stay_check.proofs.SumFacts.{coordinate_at}
use Rattle.settle_check.specs.Still.{box_of, fraction_unit, still_sum}
use Rattle.settle_check.specs.StillSize.{over_size, less_size, still_size}
use Rattle.settle_check.proofs.CountedFacts.{whole}
use Rattle.settle_check.proofs.still.still_sum.Goals as goal

pub returns-in_err-bound-clause-room : goal.returns-in_err-bound-clause-room
returns-in_err-bound-clause-room c =
    let n = numbers c.args.c.now in
    let f : FitsSigned w128 c.index.result.now = search rules in
    let read = coordinate_at c.args.c.now.bound.items c.args.c.now.m c.args.i c.index.result.now c.requires.sized.shaped.bounds c.requires.row c.index.ensures in
    let is : c.power-2.result.size * c.of.result.size ≡ fraction_unit n * unsigned_abs (at n.bounds c.args.i) = rw (c.power-2.ensures.size, c.of.ensures.size, to_z-of_z w128 _ f, read) refl in
    let w = whole (2 ^ (n.fraction_bits - n.grid_bits)) (fraction_unit n) (over_size n (box_of c.args.low.now c.args.high.now) c.args.i) (less_size n c.args.i) (unsigned_abs (at n.bounds c.args.i))
    (pow_pos (n.fraction_bits - n.grid_bits)) (pow_pos n.fraction_bits) in
    rw c.from_residual-in_err-bound.ensures (λ s. cc, λ h. c.in_err-bound.ensures.room.1 (omega (arith, is, w.bound, h)))

pub returns-in_err-less_offsets-clause-room : goal.returns-in_err-less_offsets-clause-room
returns-in_err-less_offsets-clause-room c =
    let n = numbers c.args.c.now in
    let w = whole (2 ^ (n.fraction_bits - n.grid_bits)) (fraction_unit n) (over_size n (box_of c.args.low.now c.args.high.now) c.args.i) (less_size n c.args.i) (unsigned_abs (at n.bounds c.args.i))
    (pow_pos (n.fraction_bits - n.grid_bits)) (pow_pos n.fraction_bits) in
    rw c.from_residual-in_err-less_offsets.ensures (λ s. cc, λ h. c.in_err-less_offsets.ensures.room.1 (omega (arith, w.less, h)))

pub returns-in_err-less-clause-room : goal.returns-in_err-less-clause-room
returns-in_err-less-clause-room c =
    let n = numbers c.args.c.now in
    let f : FitsSigned w128 c.index.result.now = search rules in
    let read = coordinate_at c.args.c.now.bound.items c.args.c.now.m c.args.i c.index.result.now c.requires.sized.shaped.bounds c.requires.row c.index.ensures in
    let bound : c.in_ok-bound.bound.size ≡ fraction_unit n * unsigned_abs (at n.bounds c.args.i) = rw (c.in_ok-bound.ensures.size, c.power-2.ensures.size, c.of.ensures.size, to_z-of_z w128 _ f, read) refl in
    let w = whole (2 ^ (n.fraction_bits - n.grid_bits)) (fraction_unit n) (over_size n (box_of c.args.low.now c.args.high.now) c.args.i) (less_size n c.args.i) (unsigned_abs (at n.bounds c.args.i))
    (pow_pos (n.fraction_bits - n.grid_bits)) (pow_pos n.fraction_bits) in
    rw c.from_residual-in_err-less.ensures (λ s. cc, λ h. c.in_err-less.ensures.room.1 (omega (arith, bound, c.in_ok-less_offsets.ensures.size, w.rest, h)))

pub returns-in_err-rest-clause-room : goal.returns-in_err-rest-clause-room
returns-in_err-rest-clause-room c =
    let n = numbers c.args.c.now in
    let f : FitsSigned w128 c.index.result.now = search rules in
    let read = coordinate_at c.args.c.now.bound.items c.args.c.now.m c.args.i c.index.result.now c.requires.sized.shaped.bounds c.requires.row c.index.ensures in
    let bound : c.in_ok-bound.bound.size ≡ fraction_unit n * unsigned_abs (at n.bounds c.args.i) = rw (c.in_ok-bound.ensures.size, c.power-2.ensures.size, c.of.ensures.size, to_z-of_z w128 _ f, read) refl in
    let less : c.in_ok-less.field-0.size ≡ less_size n c.args.i + fraction_unit n * unsigned_abs (at n.bounds c.args.i) = rw (c.in_ok-less.ensures.size, c.in_ok-less_offsets.ensures.size, bound) refl in
    let is : c.power-3.result.size * c.in_ok-less.field-0.size ≡ fraction_unit n * (less_size n c.args.i + fraction_unit n * unsigned_abs (at n.bounds c.args.i)) = rw (c.power-3.ensures.size, less) refl in
    rw c.from_residual-in_err-rest.ensures (λ s. cc, λ h. c.in_err-rest.ensures.room.1 (omega (arith, is, h)))

pub returns-clause-value : goal.returns-clause-value
returns-clause-value c =
    let n = numbers c.args.c.now in
    let f : FitsSigned w128 c.index.result.now = search rules in
    let read = coordinate_at c.args.c.now.bound.items c.args.c.now.m c.args.i c.index.result.now c.requires.sized.shaped.bounds c.requires.row c.index.ensures in
    let value : c.in_ok-over.over.value +ℤ c.in_ok-rest.rest.value ≡ still_sum n (box_of c.args.low.now c.args.high.now) c.args.i =
    rw (
      c.in_ok-over.ensures.value,
      c.power.ensures.value,
      c.in_ok-over_box.ensures.value,
      c.in_ok-rest.ensures.value,
      c.power-3.ensures.value,
      c.in_ok-less.ensures.value,
      c.in_ok-less_offsets.ensures.value,
      c.in_ok-bound.ensures.value,
      c.power-2.ensures.value,
      c.of.ensures.value,
      to_z-of_z w128 _ f,
      read,
    ) refl in
    rw value at c.plus.ensures.value

pub returns-clause-size : goal.returns-clause-size
returns-clause-size c =
    let n = numbers c.args.c.now in
    let f : FitsSigned w128 c.index.result.now = search rules in
    let read = coordinate_at c.args.c.now.bound.items c.args.c.now.m c.args.i c.index.result.now c.requires.sized.shaped.bounds c.requires.row c.index.ensures in
    let bound : c.in_ok-bound.bound.size ≡ fraction_unit n * unsigned_abs (at n.bounds c.args.i) = rw (c.in_ok-bound.ensures.size, c.power-2.ensures.size, c.of.ensures.size, to_z-of_z w128 _ f, read) refl in
    let less : c.in_ok-less.field-0.size ≡ less_size n c.args.i + fraction_unit n * unsigned_abs (at n.bounds c.args.i) = rw (c.in_ok-less.ensures.size, c.in_ok-less_offsets.ensures.size, bound) refl in
    let size : c.in_ok-over.over.size + c.in_ok-rest.rest.size ≡ still_size n (box_of c.args.low.now c.args.high.now) c.args.i =
    rw (c.in_ok-over.ensures.size, c.power.ensures.size, c.in_ok-over_box.ensures.size, c.in_ok-rest.ensures.size, c.power-3.ensures.size, less) refl in
    rw size at c.plus.ensures.size

pub returns-clause-room : goal.returns-clause-room
returns-clause-room c =
    let n = numbers c.args.c.now in
    let f : FitsSigned w128 c.index.result.now = search rules in
    let read = coordinate_at c.args.c.now.bound.items c.args.c.now.m c.args.i c.index.result.now c.requires.sized.shaped.bounds c.requires.row c.index.ensures in
    let bound : c.in_ok-bound.bound.size ≡ fraction_unit n * unsigned_abs (at n.bounds c.args.i) = rw (c.in_ok-bound.ensures.size, c.power-2.ensures.size, c.of.ensures.size, to_z-of_z w128 _ f, read) refl in
    let less : c.in_ok-less.field-0.size ≡ less_size n c.args.i + fraction_unit n * unsigned_abs (at n.bounds c.args.i) = rw (c.in_ok-less.ensures.size, c.in_ok-less_offsets.ensures.size, bound) refl in
    let size : c.in_ok-over.over.size + c.in_ok-rest.rest.size ≡ still_size n (box_of c.args.low.now c.args.high.now) c.args.i =
    rw (c.in_ok-over.ensures.size, c.power.ensures.size, c.in_ok-over_box.ensures.size, c.in_ok-rest.ensures.size, c.power-3.ensures.size, less) refl in
    rw size at c.plus.ensures.room
