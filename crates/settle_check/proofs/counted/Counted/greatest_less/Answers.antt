use Rattle.std.proofs.Common.{◌+◌, pos, ◌-ℤ◌, ◌*ℤ◌, unsigned_abs, arith, rules, refl, FitsSigned}
use Rattle.std.specs.Int.{w128, int_max}
use Rattle.std.proofs.lemmas.Int.{to_z-of_z}
use Rattle.settle_check.proofs.CountedFacts.{product_le, fits, less_le}
use Rattle.settle_check.proofs.counted.Counted.greatest_less.Goals as goal

pub overflow_mul-result : goal.overflow_mul-result
overflow_mul-result c =
    let f : FitsSigned w128 c.args.self.value = search rules in
    let g : FitsSigned w128 c.args.by = search rules in
    let room = rw (c.unsigned_abs.ensures.value, to_z-of_z w128 _ g) at c.in_ok-size.ensures.0 in
    let near = less_le c.args.self.value c.args.by c.args.self.size (unsigned_abs c.args.by + 1) c.args.self.within refl in
    let p = fits (c.args.self.value *ℤ c.args.by) _ (product_le c.args.self.value c.args.by c.args.self.size (unsigned_abs c.args.by + 1) c.args.self.within (omega arith)) room in
    let q = fits (int_max c.args.self.value (pos 0) -ℤ c.args.self.value *ℤ c.args.by) _ near room in
    rw (to_z-of_z w128 _ f, to_z-of_z w128 _ g) p

pub overflow_sub-result : goal.overflow_sub-result
overflow_sub-result c =
    let f : FitsSigned w128 c.args.self.value = search rules in
    let g : FitsSigned w128 c.args.by = search rules in
    let room = rw (c.unsigned_abs.ensures.value, to_z-of_z w128 _ g) at c.in_ok-size.ensures.0 in
    let near = less_le c.args.self.value c.args.by c.args.self.size (unsigned_abs c.args.by + 1) c.args.self.within refl in
    let p = fits (c.args.self.value *ℤ c.args.by) _ (product_le c.args.self.value c.args.by c.args.self.size (unsigned_abs c.args.by + 1) c.args.self.within (omega arith)) room in
    let q = fits (int_max c.args.self.value (pos 0) -ℤ c.args.self.value *ℤ c.args.by) _ near room in
    let m : FitsSigned w128 c.max.result = search rules in
    rw (to_z-of_z w128 _ m, c.max.ensures.value, to_z-of_z w128 _ f, to_z-of_z w128 _ g, to_z-of_z w128 _ p) q

pub invariant_of-result : goal.invariant_of-result
invariant_of-result c =
    let f : FitsSigned w128 c.args.self.value = search rules in
    let g : FitsSigned w128 c.args.by = search rules in
    let room = rw (c.unsigned_abs.ensures.value, to_z-of_z w128 _ g) at c.in_ok-size.ensures.0 in
    let near = less_le c.args.self.value c.args.by c.args.self.size (unsigned_abs c.args.by + 1) c.args.self.within refl in
    let p = fits (c.args.self.value *ℤ c.args.by) _ (product_le c.args.self.value c.args.by c.args.self.size (unsigned_abs c.args.by + 1) c.args.self.within (omega arith)) room in
    let q = fits (int_max c.args.self.value (pos 0) -ℤ c.args.self.value *ℤ c.args.by) _ near room in
    let m : FitsSigned w128 c.max.result = search rules in
    record {
      within = rw (to_z-of_z w128 _ m, c.max.ensures.value, to_z-of_z w128 _ f, to_z-of_z w128 _ g, to_z-of_z w128 _ p, to_z-of_z w128 _ q, c.in_ok-size.ensures.1, c.unsigned_abs.ensures.value, to_z-of_z w128 _ g)
          near;
    }

pub returns-clause-value : goal.returns-clause-value
returns-clause-value c =
    let f : FitsSigned w128 c.args.self.value = search rules in
    let g : FitsSigned w128 c.args.by = search rules in
    let room = rw (c.unsigned_abs.ensures.value, to_z-of_z w128 _ g) at c.in_ok-size.ensures.0 in
    let near = less_le c.args.self.value c.args.by c.args.self.size (unsigned_abs c.args.by + 1) c.args.self.within refl in
    let p = fits (c.args.self.value *ℤ c.args.by) _ (product_le c.args.self.value c.args.by c.args.self.size (unsigned_abs c.args.by + 1) c.args.self.within (omega arith)) room in
    let q = fits (int_max c.args.self.value (pos 0) -ℤ c.args.self.value *ℤ c.args.by) _ near room in
    let m : FitsSigned w128 c.max.result = search rules in
    rw (to_z-of_z w128 _ m, c.max.ensures.value, to_z-of_z w128 _ f, to_z-of_z w128 _ g, to_z-of_z w128 _ p, to_z-of_z w128 _ q) refl
