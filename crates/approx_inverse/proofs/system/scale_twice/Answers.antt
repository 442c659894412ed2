use Rattle.std.proofs.Common.{ℤ, ◌*ℤ◌, length, ap, refl}
use Rattle.std.specs.Int.{w128}
use Rattle.std.proofs.lemmas.Int.{to_z-of_z}
use Rattle.integer_algebra.specs.Sums.{at}
use Rattle.approx_inverse.proofs.SystemLaws.{wide_scaled, wide_same}
use Rattle.approx_inverse.proofs.system.scale_twice.Goals as goal

pub returns-then-scale-clause-wide : goal.returns-then-scale-clause-wide
returns-then-scale-clause-wide c = λ no.
    let first = rw (to_z-of_z w128 _ c.ranges.k) at c.if-scale.ensures.done in
    let second = rw (c.scale.auto.xs, to_z-of_z w128 _ c.ranges.l) at c.scale-then-scale.ensures.wide in
    wide_same (length c.args.xs.now) (λ j. c.args.l *ℤ at c.scale.new.xs j) _ (second no)
    (λ j l. ap (λ (z : ℤ). c.args.l *ℤ z) (first refl j l))

pub returns-else-scale-clause-wide : goal.returns-else-scale-clause-wide
returns-else-scale-clause-wide c = λ no.
    wide_scaled (length c.args.xs.now) c.args.l (λ j. c.args.k *ℤ at c.args.xs.now j) c.requires
    ((rw (to_z-of_z w128 _ c.ranges.k) at c.scale.ensures.wide) no)
