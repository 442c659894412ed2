use Rattle.std.proofs.Common.{unsigned_abs, length, ap, ◌∙◌, ap₂, refl}
use Rattle.std.specs.Int.{w128}
use Rattle.std.proofs.lemmas.Int.{to_z-of_z}
use Rattle.integer_algebra.specs.Sums.{at}
use Rattle.frac_scaled.specs.Enclosures.{Enclosure, sum_of}
use Rattle.mat_int.specs.Enclosures.{combined}
use Rattle.enclosure.specs.Values.{pair, pair_at}
use Rattle.plan_excess.proofs.RoomFacts.{none_of}
use Rattle.plan_excess.proofs.GradientFacts.{sum_short, sum_long, lent_short, lent_long, some_same, gradient_room, gradient_fits}
use Rattle.plan_excess.proofs.slope.gradient.Goals as goal

pub returns-in_err-of_plan-clause-room : goal.returns-in_err-of_plan-clause-room
returns-in_err-of_plan-clause-room c =
    let row = c.args.row.now in
    none_of c.from_residual.result _ c.from_residual.ensures
    (λ h. let no = c.in_err-of_plan.ensures.room.1 (lent_short c.deref.result.now row.plan.items (at c.args.plan.now) c.deref.ensures.value
    (gradient_room row c.args.state.now c.args.plan.now (unsigned_abs c.args.grid) (unsigned_abs c.args.over) h).plan) in cc)

pub returns-in_err-of_state-clause-room : goal.returns-in_err-of_state-clause-room
returns-in_err-of_state-clause-room c =
    let row = c.args.row.now in
    none_of c.from_residual-in_err-of_state.result _ c.from_residual-in_err-of_state.ensures
    (λ h. let no = c.in_err-of_state.ensures.room.1 (lent_short c.deref-2.result.now row.state.items (at c.args.state.now) c.deref-2.ensures.value
    (gradient_room row c.args.state.now c.args.plan.now (unsigned_abs c.args.grid) (unsigned_abs c.args.over) h).state) in cc)

pub returns-in_err-add-clause-room : goal.returns-in_err-add-clause-room
returns-in_err-add-clause-room c =
    let row = c.args.row.now in
    let plan = rw (c.deref.ensures.value, to_z-of_z w128 _ c.ranges.over) at c.in_ok-of_plan.ensures.value in
    let state = rw (c.deref-2.ensures.value, to_z-of_z w128 _ c.ranges.grid) at c.in_ok-of_state.ensures.value in
    none_of c.from_residual-in_err-add.result _ c.from_residual-in_err-add.ensures
    (λ h. let no = c.in_err-add.ensures.room.1 (sum_short (combined (length row.plan.items) (at c.args.plan.now) (pair_at row.plan.items) (unsigned_abs c.args.over))
    (combined (length row.state.items) (at c.args.state.now) (pair_at row.state.items) (unsigned_abs c.args.grid)) _ _ plan state
    (gradient_room row c.args.state.now c.args.plan.now (unsigned_abs c.args.grid) (unsigned_abs c.args.over) h).half) in cc)

pub returns-clause-value : goal.returns-clause-value
returns-clause-value c =
    let plan = rw (c.deref.ensures.value, to_z-of_z w128 _ c.ranges.over) at c.in_ok-of_plan.ensures.value in
    let state = rw (c.deref-2.ensures.value, to_z-of_z w128 _ c.ranges.grid) at c.in_ok-of_state.ensures.value in
    let half = c.in_ok-add.ensures.value ∙ ap₂ (λ (a b : Enclosure). sum_of a b) plan state in
    some_same c.add-2.result _ _ (ap (λ (e : Enclosure). sum_of e (pair c.args.row.now.constant)) half) c.add-2.ensures.value

pub returns-clause-room : goal.returns-clause-room
returns-clause-room c =
    let row = c.args.row.now in
    let plan = rw (c.deref.ensures.value, to_z-of_z w128 _ c.ranges.over) at c.in_ok-of_plan.ensures.value in
    let state = rw (c.deref-2.ensures.value, to_z-of_z w128 _ c.ranges.grid) at c.in_ok-of_state.ensures.value in
    let half = c.in_ok-add.ensures.value ∙ ap₂ (λ (a b : Enclosure). sum_of a b) plan state in
    let of_plan = combined (length row.plan.items) (at c.args.plan.now) (pair_at row.plan.items) (unsigned_abs c.args.over) in
    let of_state = combined (length row.state.items) (at c.args.state.now) (pair_at row.state.items) (unsigned_abs c.args.grid) in
    let plan_room = lent_long c.deref.result.now row.plan.items (at c.args.plan.now) c.deref.ensures.value (c.in_ok-of_plan.ensures.room.0 refl) in
    let state_room = lent_long c.deref-2.result.now row.state.items (at c.args.state.now) c.deref-2.ensures.value (c.in_ok-of_state.ensures.room.0 refl) in (
      λ s. gradient_fits row c.args.state.now c.args.plan.now (unsigned_abs c.args.grid) (unsigned_abs c.args.over) (record {
        plan = plan_room;
        state = state_room;
        half = sum_long of_plan of_state (pair c.in_ok-of_plan.of_plan) (pair c.in_ok-of_state.of_state) plan state c.in_ok-of_plan.of_plan.nonnegative c.in_ok-of_state.of_state.nonnegative (c.in_ok-add.ensures.room.0 refl);
        whole = sum_long (sum_of of_plan of_state) (pair row.constant) (pair c.in_ok-add.field-0) (pair row.constant) half refl c.in_ok-add.field-0.nonnegative row.constant.nonnegative (c.add-2.ensures.room.0 s);
      }),
      λ h. c.add-2.ensures.room.1 (sum_short (sum_of of_plan of_state) (pair row.constant) (pair c.in_ok-add.field-0) (pair row.constant) half refl
          (gradient_room row c.args.state.now c.args.plan.now (unsigned_abs c.args.grid) (unsigned_abs c.args.over) h).whole),
    )
