use Rattle.std.proofs.Common.{◌*ℤ◌, rules, refl, FitsSigned}
use Rattle.std.specs.Int.{w128}
use Rattle.std.proofs.lemmas.Int.{to_z-of_z}
use Rattle.settle_check.proofs.CountedFacts.{both_within, fits, max_le}
use Rattle.settle_check.proofs.counted.Counted.greatest_over.Goals as goal

pub overflow_mul-self : goal.overflow_mul-self
overflow_mul-self c =
    let v : FitsSigned w128 c.args.self.value = search rules in
    let f : FitsSigned w128 c.args.low = search rules in
    let g : FitsSigned w128 c.args.high = search rules in
    let w =
    both_within c.args.self.value c.args.low c.args.high c.args.self.size _ _ _ _ c.args.self.within (rw (to_z-of_z w128 _ f) at c.unsigned_abs.ensures.value)
    (rw (to_z-of_z w128 _ g) at c.unsigned_abs-2.ensures.value) c.max.ensures c.max-most.ensures in
    let a = fits (c.args.self.value *ℤ c.args.low) _ w.0 c.in_ok-size.ensures.0 in
    let b = fits (c.args.self.value *ℤ c.args.high) _ w.1 c.in_ok-size.ensures.0 in
    rw (to_z-of_z w128 _ v, to_z-of_z w128 _ f) a

pub overflow_mul-self-2 : goal.overflow_mul-self-2
overflow_mul-self-2 c =
    let v : FitsSigned w128 c.args.self.value = search rules in
    let f : FitsSigned w128 c.args.low = search rules in
    let g : FitsSigned w128 c.args.high = search rules in
    let w =
    both_within c.args.self.value c.args.low c.args.high c.args.self.size _ _ _ _ c.args.self.within (rw (to_z-of_z w128 _ f) at c.unsigned_abs.ensures.value)
    (rw (to_z-of_z w128 _ g) at c.unsigned_abs-2.ensures.value) c.max.ensures c.max-most.ensures in
    let a = fits (c.args.self.value *ℤ c.args.low) _ w.0 c.in_ok-size.ensures.0 in
    let b = fits (c.args.self.value *ℤ c.args.high) _ w.1 c.in_ok-size.ensures.0 in
    rw (to_z-of_z w128 _ v, to_z-of_z w128 _ g) b

pub invariant_of-result : goal.invariant_of-result
invariant_of-result c =
    let v : FitsSigned w128 c.args.self.value = search rules in
    let f : FitsSigned w128 c.args.low = search rules in
    let g : FitsSigned w128 c.args.high = search rules in
    let w =
    both_within c.args.self.value c.args.low c.args.high c.args.self.size _ _ _ _ c.args.self.within (rw (to_z-of_z w128 _ f) at c.unsigned_abs.ensures.value)
    (rw (to_z-of_z w128 _ g) at c.unsigned_abs-2.ensures.value) c.max.ensures c.max-most.ensures in
    let a = fits (c.args.self.value *ℤ c.args.low) _ w.0 c.in_ok-size.ensures.0 in
    let b = fits (c.args.self.value *ℤ c.args.high) _ w.1 c.in_ok-size.ensures.0 in
    let m : FitsSigned w128 c.max-2.result = search rules in
    record {
      within = rw (to_z-of_z w128 _ m, c.max-2.ensures.value, to_z-of_z w128 _ v, to_z-of_z w128 _ f, to_z-of_z w128 _ g, to_z-of_z w128 _ a, to_z-of_z w128 _ b, c.in_ok-size.ensures.1)
          (max_le (c.args.self.value *ℤ c.args.low) (c.args.self.value *ℤ c.args.high) _ w.0 w.1);
    }

pub returns-clause-value : goal.returns-clause-value
returns-clause-value c =
    let v : FitsSigned w128 c.args.self.value = search rules in
    let f : FitsSigned w128 c.args.low = search rules in
    let g : FitsSigned w128 c.args.high = search rules in
    let w =
    both_within c.args.self.value c.args.low c.args.high c.args.self.size _ _ _ _ c.args.self.within (rw (to_z-of_z w128 _ f) at c.unsigned_abs.ensures.value)
    (rw (to_z-of_z w128 _ g) at c.unsigned_abs-2.ensures.value) c.max.ensures c.max-most.ensures in
    let a = fits (c.args.self.value *ℤ c.args.low) _ w.0 c.in_ok-size.ensures.0 in
    let b = fits (c.args.self.value *ℤ c.args.high) _ w.1 c.in_ok-size.ensures.0 in
    let m : FitsSigned w128 c.max-2.result = search rules in
    rw (to_z-of_z w128 _ m, c.max-2.ensures.value, to_z-of_z w128 _ v, to_z-of_z w128 _ f, to_z-of_z w128 _ g, to_z-of_z w128 _ a, to_z-of_z w128 _ b) refl
