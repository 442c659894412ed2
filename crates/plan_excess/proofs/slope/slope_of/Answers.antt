use Rattle.std.proofs.Common.{◌^◌, ap, ap₂, ◌∙◌, refl, FitsSigned, rules}
use Rattle.std.specs.Int.{w128}
use Rattle.std.proofs.lemmas.Int.{to_z-of_z}
use Rattle.integer_algebra.specs.Division.{ceil_of}
use Rattle.frac_scaled.specs.Enclosures.{Enclosure, magnitude, sum_of, product_of}
use Rattle.enclosure.specs.Values.{pair}
use Rattle.plan_excess.proofs.RoomFacts.{none_of}
use Rattle.plan_excess.proofs.GradientFacts.{sum_short, sum_long, product_short, product_long}
use Rattle.plan_excess.proofs.SlopeFacts.{here, there, step_of, slope_room, slope_fits, entry_is, entry_short, entry_long}
use Rattle.plan_excess.proofs.slope.slope_of.Goals as goal

pub returns-in_err-here-clause-room : goal.returns-in_err-here-clause-room
returns-in_err-here-clause-room c = λ d h is grid.
    let k = c.args.corner.now in
    let row = c.args.row.now in
    let g : FitsSigned w128 c.args.corner.now.grid = search rules in
    let q : FitsSigned w128 c.args.corner.now.over = search rules in
    none_of c.from_residual.result _ c.from_residual.ensures
    (λ s. let no = c.in_err-here.ensures.room.1 (entry_short d h k c.args.j row is grid k.plan.now k.over c.deref.result.now _ _ c.deref.ensures.value (to_z-of_z w128 _ g) (to_z-of_z w128 _ q) (slope_room d h k c.args.j s).plan) in cc)

pub returns-in_err-there-clause-room : goal.returns-in_err-there-clause-room
returns-in_err-there-clause-room c = λ d h is grid.
    let k = c.args.corner.now in
    let row = c.args.row.now in
    let g : FitsSigned w128 c.args.corner.now.grid = search rules in
    let o : FitsSigned w128 c.args.corner.now.under = search rules in
    none_of c.from_residual-in_err-there.result _ c.from_residual-in_err-there.ensures
    (λ s. let no = c.in_err-there.ensures.room.1 (entry_short d h k c.args.j row is grid k.reference.now k.under c.deref-2.result.now _ _ c.deref-2.ensures.value
    (to_z-of_z w128 _ g) (to_z-of_z w128 _ o) (slope_room d h k c.args.j s).reference) in cc)

pub returns-in_err-both-clause-room : goal.returns-in_err-both-clause-room
returns-in_err-both-clause-room c = λ d h is grid.
    let k = c.args.corner.now in
    let row = c.args.row.now in
    let g : FitsSigned w128 c.args.corner.now.grid = search rules in
    let q : FitsSigned w128 c.args.corner.now.over = search rules in
    let o : FitsSigned w128 c.args.corner.now.under = search rules in
    let near = entry_is d h k c.args.j row is grid k.plan.now k.over c.deref.result.now _ _ c.deref.ensures.value (to_z-of_z w128 _ g) (to_z-of_z w128 _ q) (pair c.in_ok-here.here) c.in_ok-here.ensures.value in
    let far = entry_is d h k c.args.j row is grid k.reference.now k.under c.deref-2.result.now _ _ c.deref-2.ensures.value (to_z-of_z w128 _ g) (to_z-of_z w128 _ o) (pair c.in_ok-there.there) c.in_ok-there.ensures.value in
    none_of c.from_residual-in_err-both.result _ c.from_residual-in_err-both.ensures
    (λ s. let no = c.in_err-both.ensures.room.1 (sum_short (here d h k c.args.j) (there d h k c.args.j) (pair c.in_ok-here.here) (pair c.in_ok-there.there) near far (slope_room d h k c.args.j s).both) in cc)

pub returns-in_err-step-clause-room : goal.returns-in_err-step-clause-room
returns-in_err-step-clause-room c = λ d h is grid.
    let k = c.args.corner.now in
    none_of c.from_residual-in_err-step.result _ c.from_residual-in_err-step.ensures
    (λ s. let no = c.in_err-step.ensures.room.1 (slope_room d h k c.args.j s).step in cc)

pub returns-in_err-value-clause-room : goal.returns-in_err-value-clause-room
returns-in_err-value-clause-room c = λ d h is grid.
    let k = c.args.corner.now in
    let row = c.args.row.now in
    let g : FitsSigned w128 c.args.corner.now.grid = search rules in
    let q : FitsSigned w128 c.args.corner.now.over = search rules in
    let o : FitsSigned w128 c.args.corner.now.under = search rules in
    let near = entry_is d h k c.args.j row is grid k.plan.now k.over c.deref.result.now _ _ c.deref.ensures.value (to_z-of_z w128 _ g) (to_z-of_z w128 _ q) (pair c.in_ok-here.here) c.in_ok-here.ensures.value in
    let far = entry_is d h k c.args.j row is grid k.reference.now k.under c.deref-2.result.now _ _ c.deref-2.ensures.value (to_z-of_z w128 _ g) (to_z-of_z w128 _ o) (pair c.in_ok-there.there) c.in_ok-there.ensures.value in
    let both = c.in_ok-both.ensures.value ∙ ap₂ (λ (a b : Enclosure). sum_of a b) near far in
    none_of c.from_residual-in_err-value.result _ c.from_residual-in_err-value.ensures
    (λ s. let no = c.in_err-value.ensures.room.1 (product_short (sum_of (here d h k c.args.j) (there d h k c.args.j)) (step_of d h k c.args.j) (pair c.in_ok-both.both) (pair c.in_ok-step.field-0)
    both c.in_ok-step.ensures.value (slope_room d h k c.args.j s).value) in cc)

pub returns-clause-value : goal.returns-clause-value
returns-clause-value c = λ d h is grid.
    let k = c.args.corner.now in
    let row = c.args.row.now in
    let g : FitsSigned w128 c.args.corner.now.grid = search rules in
    let q : FitsSigned w128 c.args.corner.now.over = search rules in
    let o : FitsSigned w128 c.args.corner.now.under = search rules in
    let near = entry_is d h k c.args.j row is grid k.plan.now k.over c.deref.result.now _ _ c.deref.ensures.value (to_z-of_z w128 _ g) (to_z-of_z w128 _ q) (pair c.in_ok-here.here) c.in_ok-here.ensures.value in
    let far = entry_is d h k c.args.j row is grid k.reference.now k.under c.deref-2.result.now _ _ c.deref-2.ensures.value (to_z-of_z w128 _ g) (to_z-of_z w128 _ o) (pair c.in_ok-there.there) c.in_ok-there.ensures.value in
    let both = c.in_ok-both.ensures.value ∙ ap₂ (λ (a b : Enclosure). sum_of a b) near far in
    record {
      value = c.in_ok-value.ensures.value ∙ ap₂ (λ (a b : Enclosure). product_of a b) both c.in_ok-step.ensures.value;
      steepness = c.steepness.ensures ∙ ap (λ (e : Enclosure). ceil_of (magnitude e) (2 ^ 16)) far;
    }

pub returns-clause-room : goal.returns-clause-room
returns-clause-room c = λ d h is grid.
    let k = c.args.corner.now in
    let row = c.args.row.now in
    let g : FitsSigned w128 c.args.corner.now.grid = search rules in
    let q : FitsSigned w128 c.args.corner.now.over = search rules in
    let o : FitsSigned w128 c.args.corner.now.under = search rules in
    let near = entry_is d h k c.args.j row is grid k.plan.now k.over c.deref.result.now _ _ c.deref.ensures.value (to_z-of_z w128 _ g) (to_z-of_z w128 _ q) (pair c.in_ok-here.here) c.in_ok-here.ensures.value in
    let far = entry_is d h k c.args.j row is grid k.reference.now k.under c.deref-2.result.now _ _ c.deref-2.ensures.value (to_z-of_z w128 _ g) (to_z-of_z w128 _ o) (pair c.in_ok-there.there) c.in_ok-there.ensures.value in
    let both = c.in_ok-both.ensures.value ∙ ap₂ (λ (a b : Enclosure). sum_of a b) near far in (
      λ s. slope_fits d h k c.args.j (record {
        plan = entry_long d h k c.args.j row is grid k.plan.now k.over c.deref.result.now _ _ c.deref.ensures.value (to_z-of_z w128 _ g) (to_z-of_z w128 _ q) (c.in_ok-here.ensures.room.0 refl);
        reference = entry_long d h k c.args.j row is grid k.reference.now k.under c.deref-2.result.now _ _ c.deref-2.ensures.value (to_z-of_z w128 _ g) (to_z-of_z w128 _ o) (c.in_ok-there.ensures.room.0 refl);
        both = sum_long (here d h k c.args.j) (there d h k c.args.j) (pair c.in_ok-here.here) (pair c.in_ok-there.there) near far c.in_ok-here.here.nonnegative c.in_ok-there.there.nonnegative
            (c.in_ok-both.ensures.room.0 refl);
        step = c.in_ok-step.ensures.room.0 refl;
        value = product_long (sum_of (here d h k c.args.j) (there d h k c.args.j)) (step_of d h k c.args.j) (pair c.in_ok-both.both) (pair c.in_ok-step.field-0)
            both c.in_ok-step.ensures.value c.in_ok-both.both.nonnegative c.in_ok-step.field-0.nonnegative (c.in_ok-value.ensures.room.0 refl);
      }),
      λ s. refl,
    )
