use Rattle.std.proofs.Common.{ℤ, ◌*ℤ◌, length, refl, ap, ◌∙◌}
use Rattle.std.specs.Int.{w128}
use Rattle.std.proofs.lemmas.Int.{to_z-of_z}
use Rattle.integer_algebra.specs.Sums.{at}
use Rattle.approx_inverse.proofs.SystemLaws.{factors, wide_scaled, wide_same}
use Rattle.approx_inverse.proofs.system.scale_row.Goals as goal

pub returns-then-scale_twice-clause-done : goal.returns-then-scale_twice-clause-done
returns-then-scale_twice-clause-done c = λ yes j l.
    let first = rw (to_z-of_z w128 _ c.ranges.w, to_z-of_z w128 _ c.ranges.r) at c.if-scale_twice.ensures.done in
    let second = rw (c.scale_twice.auto.xs, to_z-of_z w128 _ c.ranges.r, to_z-of_z w128 _ c.ranges.p) at c.scale_twice-then-scale_twice.ensures.done in
    second yes j l ∙ ap (λ (z : ℤ). c.args.p *ℤ (c.args.r *ℤ z)) (first refl j l) ∙ factors c.args.p c.args.r c.args.w (at c.args.xs.now j)

pub returns-then-scale_twice-clause-wide : goal.returns-then-scale_twice-clause-wide
returns-then-scale_twice-clause-wide c = λ no.
    let first = rw (to_z-of_z w128 _ c.ranges.w, to_z-of_z w128 _ c.ranges.r) at c.if-scale_twice.ensures.done in
    let second = rw (c.scale_twice.auto.xs, to_z-of_z w128 _ c.ranges.r, to_z-of_z w128 _ c.ranges.p) at c.scale_twice-then-scale_twice.ensures.wide in
    wide_same (length c.args.xs.now) (λ j. c.args.p *ℤ (c.args.r *ℤ at c.scale_twice.new.xs j)) _ (second no)
    (λ j l. ap (λ (z : ℤ). c.args.p *ℤ (c.args.r *ℤ z)) (first refl j l) ∙ factors c.args.p c.args.r c.args.w (at c.args.xs.now j))

pub returns-else-scale_twice-clause-wide : goal.returns-else-scale_twice-clause-wide
returns-else-scale_twice-clause-wide c = λ no.
    let first = rw (to_z-of_z w128 _ c.ranges.w, to_z-of_z w128 _ c.ranges.r) at c.scale_twice.ensures.wide in
    let n = length c.args.xs.now in
    let f = λ (j : _). c.args.r *ℤ (c.args.w *ℤ at c.args.xs.now j) in
    wide_same n (λ j. c.args.p *ℤ (c.args.r *ℤ f j)) _
    (wide_scaled n c.args.p (λ j. c.args.r *ℤ f j) c.requires.p_positive (wide_scaled n c.args.r f c.requires.r_positive (first no)))
    (λ j l. factors c.args.p c.args.r c.args.w (at c.args.xs.now j))
