use Rattle.std.proofs.Common.{◌<◌, arith, refl}
use Rattle.qp_model.specs.problem.Design.{entries}
use Rattle.plan_excess.specs.Rows.{IsGradientRow}
use Rattle.plan_excess.specs.Slopes.{corner_slope, steepness_at, slope_size_at}
use Rattle.plan_excess.proofs.CornerFacts.{radii}
use Rattle.plan_excess.proofs.FormFacts.{row_at}
use Rattle.plan_excess.proofs.RoomFacts.{none_of, near_more, near_all}
use Rattle.plan_excess.proofs.SumFacts.{term_within, step_within, one_added, far_is, squared_is, sums_fit, all_sums}
use Rattle.plan_excess.proofs.corners.sums_of.Goals as goal

pub returns-in_err-slope_of-clause-room : goal.returns-in_err-slope_of-clause-room
returns-in_err-slope_of-clause-room c = λ d h are grid.
    let k = c.args.corner.now in
    let l : c.loop-j.j < entries d = omega (arith, c.loop-j-test.true, are.long) in
    let row : IsGradientRow d h c.loop-j.j c.index-rows-j.result = row_at d h c.args.rows.now are c.loop-j.j c.index-rows-j.result l c.index-rows-j.is in
    none_of c.from_residual.result _ c.from_residual.ensures
    (λ s. let no = (c.in_err-slope_of.ensures.room d h row grid).1
    (term_within (entries d) (slope_size_at d h k) (corner_slope d h k) (steepness_at d h k) (radii d h c.args.rows.now k are c.requires.plans) s c.loop-j.j l) in cc)

pub returns-in_err-sums-clause-room : goal.returns-in_err-sums-clause-room
returns-in_err-sums-clause-room c = λ d h are grid.
    let k = c.args.corner.now in
    let l : c.loop-j.j < entries d = omega (arith, c.loop-j-test.true, are.long) in
    let row : IsGradientRow d h c.loop-j.j c.index-rows-j.result = row_at d h c.args.rows.now are c.loop-j.j c.index-rows-j.result l c.index-rows-j.is in
    let made = c.loop-j.invariant.made d h are grid in
    let entry = c.in_ok-slope_of.ensures.value d h row grid in
    none_of c.from_residual-in_err-sums.result _ c.from_residual-in_err-sums.ensures
    (λ s. let no = c.in_err-sums.ensures.room.1
    (step_within (entries d) (slope_size_at d h k) (corner_slope d h k) (steepness_at d h k) (radii d h c.args.rows.now k are c.requires.plans) s c.loop-j.j l _ _
    (far_is c.loop-j.j (corner_slope d h k) (steepness_at d h k) c.loop-j.sums c.in_ok-slope_of.field-0 made entry.value entry.steepness)
    (squared_is c.loop-j.j (corner_slope d h k) (steepness_at d h k) c.loop-j.sums c.in_ok-slope_of.field-0 made entry.value entry.steepness)) in cc)

pub loop-j-preserved : goal.loop-j-preserved
loop-j-preserved c = record {
  made = λ d h are grid.
      let k = c.args.corner.now in
      let l : c.loop-j.j < entries d = omega (arith, c.loop-j-test.true, are.long) in
      let entry = c.in_ok-slope_of.ensures.value d h (row_at d h c.args.rows.now are c.loop-j.j c.index-rows-j.result l c.index-rows-j.is) grid in
      one_added c.loop-j.j (corner_slope d h k) (steepness_at d h k) c.loop-j.sums c.in_ok-sums.sums c.in_ok-slope_of.field-0 (c.loop-j.invariant.made d h are grid) entry.value entry.steepness
      c.in_ok-sums.ensures.rise c.in_ok-sums.ensures.reach c.in_ok-sums.ensures.squares;
  near = λ d h are grid.
      let l : c.loop-j.j < entries d = omega (arith, c.loop-j-test.true, are.long) in
      let row : IsGradientRow d h c.loop-j.j c.index-rows-j.result = row_at d h c.args.rows.now are c.loop-j.j c.index-rows-j.result l c.index-rows-j.is in
      near_more c.loop-j.j (slope_size_at d h c.args.corner.now) (c.loop-j.invariant.near d h are grid) ((c.in_ok-slope_of.ensures.room d h row grid).0 refl);
}

pub returns-clause-room : goal.returns-clause-room
returns-clause-room c = λ d h are grid.
    let k = c.args.corner.now in (
      λ s. sums_fit (entries d) (slope_size_at d h k) (corner_slope d h k) (steepness_at d h k) c.loop-j.sums (radii d h c.args.rows.now k are c.requires.plans)
          (all_sums c.loop-j.j (entries d) (corner_slope d h k) (steepness_at d h k) c.loop-j.sums (omega (arith, c.loop-j.auto.j-end, are.long)) (omega (arith, c.loop-j-test.false, are.long))
          (c.loop-j.invariant.made d h are grid))
          (near_all c.loop-j.j (entries d) (slope_size_at d h k) (omega (arith, c.loop-j.auto.j-end, are.long)) (omega (arith, c.loop-j-test.false, are.long)) (c.loop-j.invariant.near d h are grid)),
      λ s. refl,
    )
