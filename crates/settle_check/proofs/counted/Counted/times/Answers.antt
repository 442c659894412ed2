use Rattle.std.proofs.Common.{◌*ℤ◌, rules, refl, FitsSigned}
use Rattle.std.specs.Int.{w128}
use Rattle.std.proofs.lemmas.Int.{to_z-of_z}
use Rattle.settle_check.proofs.CountedFacts.{product_le, fits}
use Rattle.settle_check.proofs.counted.Counted.times.Goals as goal

pub overflow_mul-result : goal.overflow_mul-result
overflow_mul-result c =
    let f : FitsSigned w128 c.args.self.value = search rules in
    let g : FitsSigned w128 c.args.by.value = search rules in
    let near = product_le c.args.self.value c.args.by.value _ _ c.args.self.within c.args.by.within in
    let p = fits (c.args.self.value *ℤ c.args.by.value) _ near c.in_ok-size.ensures.0 in
    rw (to_z-of_z w128 _ f, to_z-of_z w128 _ g) p

pub invariant_of-result : goal.invariant_of-result
invariant_of-result c =
    let f : FitsSigned w128 c.args.self.value = search rules in
    let g : FitsSigned w128 c.args.by.value = search rules in
    let near = product_le c.args.self.value c.args.by.value _ _ c.args.self.within c.args.by.within in
    let p = fits (c.args.self.value *ℤ c.args.by.value) _ near c.in_ok-size.ensures.0 in
    record {
      within = rw (to_z-of_z w128 _ f, to_z-of_z w128 _ g, to_z-of_z w128 _ p, c.in_ok-size.ensures.1)
          near;
    }

pub returns-clause-value : goal.returns-clause-value
returns-clause-value c =
    let f : FitsSigned w128 c.args.self.value = search rules in
    let g : FitsSigned w128 c.args.by.value = search rules in
    let near = product_le c.args.self.value c.args.by.value _ _ c.args.self.within c.args.by.within in
    let p = fits (c.args.self.value *ℤ c.args.by.value) _ near c.in_ok-size.ensures.0 in
    rw (to_z-of_z w128 _ f, to_z-of_z w128 _ g, to_z-of_z w128 _ p) refl
