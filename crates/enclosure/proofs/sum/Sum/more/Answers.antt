use Rattle.std.proofs.Common.{◌+ℤ◌, rules, refl, FitsSigned}
use Rattle.std.specs.Int.{w128}
use Rattle.std.proofs.lemmas.Int.{to_z-of_z}
use Rattle.integer_algebra.proofs.OrderLaws.{add_nonneg_z}
use Rattle.enclosure.proofs.RoomLaws.{near_fits, near_fits_too, reach_more}
use Rattle.enclosure.proofs.sum.Sum.more.Goals as goal

pub returns-in_err-magnitude-clause-room : goal.returns-in_err-magnitude-clause-room
returns-in_err-magnitude-clause-room c =
    let far = rw c.magnitude.ensures at c.in_err-magnitude.ensures in
    rw c.from_residual.ensures (λ s. cc, λ h. absurd (far h))

pub returns-clause-magnitude : goal.returns-clause-magnitude
returns-clause-magnitude c = rw c.magnitude.ensures at c.in_ok-magnitude.ensures.1

pub returns-clause-room : goal.returns-clause-room
returns-clause-room c =
    let near = rw c.magnitude.ensures at c.in_ok-magnitude.ensures.0 in
    (λ h. near, λ h. refl)

pub overflow_add-result : goal.overflow_add-result
overflow_add-result c =
    let f : FitsSigned w128 c.args.self.value.mid = search rules in
    let g : FitsSigned w128 c.args.term.mid = search rules in
    rw (to_z-of_z w128 _ f, to_z-of_z w128 _ g) (near_fits c.args.self.value.mid c.args.term.mid _ _ _ _ c.args.self.within c.magnitude.ensures c.in_ok-magnitude.ensures.0)

pub overflow_add-result-2 : goal.overflow_add-result-2
overflow_add-result-2 c =
    let h : FitsSigned w128 c.args.self.value.rad = search rules in
    let k : FitsSigned w128 c.args.term.rad = search rules in
    rw (to_z-of_z w128 _ h, to_z-of_z w128 _ k) (near_fits_too c.args.self.value.rad c.args.term.rad _ _ _ _ c.args.self.within c.magnitude.ensures c.in_ok-magnitude.ensures.0)

pub invariant_of-result : goal.invariant_of-result
invariant_of-result c =
    let h : FitsSigned w128 c.args.self.value.rad = search rules in
    let k : FitsSigned w128 c.args.term.rad = search rules in
    let rad : FitsSigned w128 (c.args.self.value.rad +ℤ c.args.term.rad) = near_fits_too c.args.self.value.rad c.args.term.rad _ _ _ _ c.args.self.within c.magnitude.ensures c.in_ok-magnitude.ensures.0 in
    record { nonnegative = rw (to_z-of_z w128 _ h, to_z-of_z w128 _ k, to_z-of_z w128 _ rad) (add_nonneg_z c.args.self.value.nonnegative c.args.term.nonnegative) }

pub invariant_of-result-2 : goal.invariant_of-result-2
invariant_of-result-2 c =
    let f : FitsSigned w128 c.args.self.value.mid = search rules in
    let g : FitsSigned w128 c.args.term.mid = search rules in
    let h : FitsSigned w128 c.args.self.value.rad = search rules in
    let k : FitsSigned w128 c.args.term.rad = search rules in
    let mid : FitsSigned w128 (c.args.self.value.mid +ℤ c.args.term.mid) = near_fits c.args.self.value.mid c.args.term.mid _ _ _ _ c.args.self.within c.magnitude.ensures c.in_ok-magnitude.ensures.0 in
    let rad : FitsSigned w128 (c.args.self.value.rad +ℤ c.args.term.rad) = near_fits_too c.args.self.value.rad c.args.term.rad _ _ _ _ c.args.self.within c.magnitude.ensures c.in_ok-magnitude.ensures.0 in
    record {
      within = rw (to_z-of_z w128 _ f, to_z-of_z w128 _ g, to_z-of_z w128 _ h, to_z-of_z w128 _ k, to_z-of_z w128 _ mid, to_z-of_z w128 _ rad, c.in_ok-magnitude.ensures.1)
          (reach_more c.args.self.value.mid c.args.term.mid c.args.self.value.rad c.args.term.rad _ _ c.args.self.within c.magnitude.ensures);
      limited = rw c.in_ok-magnitude.ensures.1 c.in_ok-magnitude.ensures.0;
    }

pub returns-clause-value : goal.returns-clause-value
returns-clause-value c =
    let f : FitsSigned w128 c.args.self.value.mid = search rules in
    let g : FitsSigned w128 c.args.term.mid = search rules in
    let h : FitsSigned w128 c.args.self.value.rad = search rules in
    let k : FitsSigned w128 c.args.term.rad = search rules in
    let mid : FitsSigned w128 (c.args.self.value.mid +ℤ c.args.term.mid) = near_fits c.args.self.value.mid c.args.term.mid _ _ _ _ c.args.self.within c.magnitude.ensures c.in_ok-magnitude.ensures.0 in
    let rad : FitsSigned w128 (c.args.self.value.rad +ℤ c.args.term.rad) = near_fits_too c.args.self.value.rad c.args.term.rad _ _ _ _ c.args.self.within c.magnitude.ensures c.in_ok-magnitude.ensures.0 in
    rw (to_z-of_z w128 _ f, to_z-of_z w128 _ g, to_z-of_z w128 _ h, to_z-of_z w128 _ k, to_z-of_z w128 _ mid, to_z-of_z w128 _ rad) refl
