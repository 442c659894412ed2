use Rattle.std.proofs.Common.{FitsSigned, unsigned_abs, ◌-ℤ◌, rules, arith, ◌∙◌}
use Rattle.std.specs.Int.{w128}
use Rattle.std.proofs.lemmas.Int.{to_z-of_z}
use Rattle.step_error.proofs.GainRooms.{through, solved_small, shifted_small, missed_is}
use Rattle.step_error.proofs.Scaled.{product_fits, product_read, unit_is}
use Rattle.step_error.proofs.real_gains.Gains.missed.Goals as goal

pub overflow_mul-self : goal.overflow_mul-self
overflow_mul-self c =
    let self = c.args.self.now in
    let limit : FitsSigned w128 self.c.now.limit_den = search rules in
    let product : FitsSigned w128 c.product.result = search rules in
    product_fits _ _ _ _ (to_z-of_z w128 _ limit) (to_z-of_z w128 _ product ∙ c.product.ensures)
    (through (solved_small self.c.now _ _ _ _ _ _ self.made c.args.i c.args.j c.requires.column c.requires.entry) (omega arith))

pub overflow_mul-number : goal.overflow_mul-number
overflow_mul-number c =
    let self = c.args.self.now in
    let number : FitsSigned w128 c.number.result = search rules in
    product_fits _ _ _ _ (to_z-of_z w128 _ number ∙ c.number.ensures) (unit_is self.f self.made.bits)
    (through (shifted_small self.c.now _ _ _ _ _ _ self.made c.args.i c.args.j c.requires.column c.requires.entry) (omega arith))

pub distance-requires-clause-a_small : goal.distance-requires-clause-a_small
distance-requires-clause-a_small c =
    let self = c.args.self.now in
    let limit : FitsSigned w128 self.c.now.limit_den = search rules in
    let product : FitsSigned w128 c.product.result = search rules in
    let solved = solved_small self.c.now _ _ _ _ _ _ self.made c.args.i c.args.j c.requires.column c.requires.entry in
    rw (product_read _ _ _ _ (to_z-of_z w128 _ limit) (to_z-of_z w128 _ product ∙ c.product.ensures) (through solved (omega arith))) solved

pub distance-requires-clause-b_small : goal.distance-requires-clause-b_small
distance-requires-clause-b_small c =
    let self = c.args.self.now in
    let number : FitsSigned w128 c.number.result = search rules in
    let shifted = shifted_small self.c.now _ _ _ _ _ _ self.made c.args.i c.args.j c.requires.column c.requires.entry in
    rw (product_read _ _ _ _ (to_z-of_z w128 _ number ∙ c.number.ensures) (unit_is self.f self.made.bits) (through shifted (omega arith))) shifted

pub returns : goal.returns
returns c =
    let self = c.args.self.now in
    let limit : FitsSigned w128 self.c.now.limit_den = search rules in
    let product : FitsSigned w128 c.product.result = search rules in
    let number : FitsSigned w128 c.number.result = search rules in
    let solved = solved_small self.c.now _ _ _ _ _ _ self.made c.args.i c.args.j c.requires.column c.requires.entry in
    let shifted = shifted_small self.c.now _ _ _ _ _ _ self.made c.args.i c.args.j c.requires.column c.requires.entry in
    let a = product_read _ _ _ _ (to_z-of_z w128 _ limit) (to_z-of_z w128 _ product ∙ c.product.ensures) (through solved (omega arith)) in
    let b = product_read _ _ _ _ (to_z-of_z w128 _ number ∙ c.number.ensures) (unit_is self.f self.made.bits) (through shifted (omega arith)) in
    c.distance.ensures ∙ (λ i. unsigned_abs (a i -ℤ b i)) ∙ missed_is self.c.now _ _ _ _ _ _ self.made c.args.i c.args.j
