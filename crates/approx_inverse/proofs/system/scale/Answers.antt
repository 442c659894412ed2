use Rattle.std.proofs.Common.{rules, ◌≡◌, ◌*ℤ◌, FitsSigned, length, pos, arith, get_or-set_same, get_or-set_other, below_more, ◌∙◌}
use Rattle.std.specs.Int.{w128}
use Rattle.std.proofs.lemmas.Int.{to_z-of_z}
use Rattle.integer_algebra.specs.Sums.{at}
use Rattle.approx_inverse.proofs.SystemLaws.{wide_at}
use Rattle.approx_inverse.proofs.system.scale.Goals as goal

pub returns-in_default-clause-wide : goal.returns-in_default-clause-wide
returns-in_default-clause-wide c = λ no.
    let i = c.loop-x.x-index in
    let x : FitsSigned w128 (at c.loop-x.xs i) = search rules in
    wide_at (length c.args.xs.now) (λ j. c.args.k *ℤ at c.args.xs.now j) i (omega (arith, c.loop-x.auto.xs))
    (rw (to_z-of_z w128 _ x, to_z-of_z w128 _ c.ranges.k, c.loop-x.invariant.left i (omega arith)) at c.in_default.ensures)

pub loop-x-preserved : goal.loop-x-preserved
loop-x-preserved c =
    let i = c.loop-x.x-index in
    let old = c.loop-x.xs in
    let x : FitsSigned w128 (at old i) = search rules in
    let p : FitsSigned w128 c.in-Some.product = search rules in
    let k = to_z-of_z w128 _ c.ranges.k in
    let is : c.in-Some.product ≡ c.args.k *ℤ at c.args.xs.now i =
    rw (to_z-of_z w128 _ x, k, c.loop-x.invariant.left i (omega arith)) at c.in-Some.ensures.1 in
    rw k (record {
      done = below_more _ _
          (λ j l. get_or-set_other old i j _ (pos 0) (omega arith) ∙ (rw k at c.loop-x.invariant.done) j l)
          (get_or-set_same old i _ (pos 0) (omega (arith, c.loop-x.auto.xs)) ∙ to_z-of_z w128 _ p ∙ is);
      left = λ j l. get_or-set_other old i j _ (pos 0) (omega arith) ∙ c.loop-x.invariant.left j (omega arith);
    })
