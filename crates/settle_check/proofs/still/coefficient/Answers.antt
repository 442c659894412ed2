use Rattle.std.proofs.Common.{◌≡◌, ◌+◌, ◌-ℤ◌, rules, refl, FitsSigned}
use Rattle.std.specs.Int.{w128}
use Rattle.std.proofs.lemmas.Int.{to_z-of_z}
use Rattle.qp_model.specs.machine.Controller.{numbers}
use Rattle.settle_check.specs.Still.{still_coefficient}
use Rattle.settle_check.specs.StillSize.{still_coefficient_size}
use Rattle.settle_check.proofs.still.coefficient.Goals as goal

pub returns-clause-value : goal.returns-clause-value
returns-clause-value c =
    let f : FitsSigned w128 c.at.result = search rules in
    let e : c.in_ok-own.own.value -ℤ c.in_ok-gains.field-0.value ≡ still_coefficient (numbers c.args.c.now) c.args.i c.args.j =
    rw (c.in_ok-own.ensures.value, c.power.ensures.value, c.of.ensures.value, to_z-of_z w128 _ f, c.at.ensures, c.in_ok-gains.ensures.value) refl in
    rw e at c.less.ensures.value

pub returns-clause-size : goal.returns-clause-size
returns-clause-size c =
    let f : FitsSigned w128 c.at.result = search rules in
    let e : c.in_ok-own.own.size + c.in_ok-gains.field-0.size ≡ still_coefficient_size (numbers c.args.c.now) c.args.i c.args.j =
    rw (c.in_ok-own.ensures.size, c.power.ensures.size, c.of.ensures.size, to_z-of_z w128 _ f, c.at.ensures, c.in_ok-gains.ensures.size) refl in
    rw e at c.less.ensures.size

pub returns-clause-room : goal.returns-clause-room
returns-clause-room c =
    let f : FitsSigned w128 c.at.result = search rules in
    let e : c.in_ok-own.own.size + c.in_ok-gains.field-0.size ≡ still_coefficient_size (numbers c.args.c.now) c.args.i c.args.j =
    rw (c.in_ok-own.ensures.size, c.power.ensures.size, c.of.ensures.size, to_z-of_z w128 _ f, c.at.ensures, c.in_ok-gains.ensures.size) refl in
    rw e at c.less.ensures.room
