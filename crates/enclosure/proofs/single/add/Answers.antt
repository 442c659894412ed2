use Rattle.std.proofs.Common.{◌+ℤ◌, unsigned_abs, rules, le_refl, refl, ap₂, ℤ, sym, FitsSigned}
use Rattle.std.specs.Int.{w128}
use Rattle.std.proofs.lemmas.Int.{to_z-of_z}
use Rattle.enclosure.proofs.RoomLaws.{reach_is, refused, limit_is, near_fits, near_fits_too}
use Rattle.std.proofs.Common.{subst}
use Rattle.frac_scaled.specs.Enclosures.{Enclosure}
use Rattle.frac_scaled.proofs.EnclosureLaws.{sum_law}
use Rattle.enclosure.specs.Values.{pair}
use Rattle.enclosure.specs.Laws.{EnclosesSum}
use Rattle.enclosure.proofs.single.add.Goals as goal

pub returns-in_err-limited_sum-clause-room : goal.returns-in_err-limited_sum-clause-room
returns-in_err-limited_sum-clause-room c =
    refused c.from_residual.result _ _ c.from_residual.ensures
    (ap₂ (λ (x y : ℤ). x +ℤ y) (reach_is c.args.a.mid c.args.a.rad c.args.a.nonnegative) (reach_is c.args.b.mid c.args.b.rad c.args.b.nonnegative))
    (rw (c.magnitude.ensures, c.magnitude-2.ensures) at c.in_err-limited_sum.ensures)

pub overflow_add-result : goal.overflow_add-result
overflow_add-result c =
    let f : FitsSigned w128 c.args.a.mid = search rules in
    let g : FitsSigned w128 c.args.b.mid = search rules in
    rw (to_z-of_z w128 _ f, to_z-of_z w128 _ g) (near_fits c.args.a.mid c.args.b.mid (unsigned_abs c.args.a.rad) _ c.magnitude.result _ (rw c.magnitude.ensures (le_refl _)) c.magnitude-2.ensures c.in_ok-limited_sum.ensures.0)

pub returns-clause-value : goal.returns-clause-value
returns-clause-value c =
    let f : FitsSigned w128 c.args.a.mid = search rules in
    let g : FitsSigned w128 c.args.b.mid = search rules in
    let h : FitsSigned w128 c.args.a.rad = search rules in
    let k : FitsSigned w128 c.args.b.rad = search rules in
    let mid : FitsSigned w128 (c.args.a.mid +ℤ c.args.b.mid) = near_fits c.args.a.mid c.args.b.mid (unsigned_abs c.args.a.rad) _ c.magnitude.result _ (rw c.magnitude.ensures (le_refl _)) c.magnitude-2.ensures c.in_ok-limited_sum.ensures.0 in
    let rad : FitsSigned w128 (c.args.a.rad +ℤ c.args.b.rad) = near_fits_too c.args.a.rad c.args.b.rad (unsigned_abs c.args.a.mid) _ c.magnitude.result _ (rw c.magnitude.ensures (le_refl _)) c.magnitude-2.ensures c.in_ok-limited_sum.ensures.0 in
    rw (to_z-of_z w128 _ f, to_z-of_z w128 _ g, to_z-of_z w128 _ h, to_z-of_z w128 _ k, to_z-of_z w128 _ mid, to_z-of_z w128 _ rad) refl

pub returns-clause-room : goal.returns-clause-room
returns-clause-room c =
    let near = rw (c.magnitude.ensures, c.magnitude-2.ensures) at c.in_ok-limited_sum.ensures.0 in
    let reach = ap₂ (λ (x y : ℤ). x +ℤ y) (reach_is c.args.a.mid c.args.a.rad c.args.a.nonnegative) (reach_is c.args.b.mid c.args.b.rad c.args.b.nonnegative) in
    (λ h. (limit_is _ _ reach).0 near, λ h. refl)

pub returns-clause-encloses : goal.returns-clause-encloses
returns-clause-encloses c =
    subst (λ (e : Enclosure). EnclosesSum (pair c.args.a) (pair c.args.b) e) (sym (returns-clause-value c)) (sum_law (pair c.args.a) (pair c.args.b))
