use Rattle.std.proofs.Common.{FitsSigned, rules}
use Rattle.std.specs.Int.{w128}
use Rattle.std.proofs.lemmas.Int.{to_z-of_z}
use Rattle.design_files.proofs.places.joined.Goals as goal

pub returns : goal.returns
returns c =
    let first = c.args.first in
    let last = c.args.last in
    let fits0 : FitsSigned w128 first.plant.den = search rules in
    let fits1 : FitsSigned w128 first.cost.den = search rules in
    let fits2 : FitsSigned w128 first.cost.row_den = search rules in
    let fits3 : FitsSigned w128 last.limits.den = search rules in
    let fits4 : FitsSigned w128 last.targets.den = search rules in
    let fits5 : FitsSigned w128 last.targets.violation = search rules in
    let fits6 : FitsSigned w128 last.targets.gap = search rules in
    rw (to_z-of_z w128 _ fits0, to_z-of_z w128 _ fits1, to_z-of_z w128 _ fits2, to_z-of_z w128 _ fits3, to_z-of_z w128 _ fits4, to_z-of_z w128 _ fits5, to_z-of_z w128 _ fits6) (λ v f l. (
      record {
        version = f.sizes.version.number;
        states = f.sizes.states.number;
        inputs = f.sizes.inputs.number;
        stages = f.sizes.stages.number;
        plant_den = f.plant.den.number;
        a = f.plant.a.numbers;
        b = f.plant.b.numbers;
        cost_den = f.cost.den.number;
        row_den = f.cost.row_den.number;
        input = f.cost.input.numbers;
        stage_cost = f.cost.stage.numbers;
        final_cost = f.cost.final_.numbers;
        limit_den = l.limits.den.number;
        stage_rows = l.limits.stage.numbers;
        final_rows = l.limits.final_.numbers;
        grid = l.bounds.grid.number;
        lo = l.bounds.lo.numbers;
        hi = l.bounds.hi.numbers;
        target_den = l.targets.den.number;
        violation = l.targets.violation.number;
        gap = l.targets.gap.number;
      },
      record {
        version = f.sizes.version.fits;
        states = f.sizes.states.fits;
        inputs = f.sizes.inputs.fits;
        stages = f.sizes.stages.fits;
        plant_den = f.plant.den.fits;
        a = f.plant.a.fits;
        b = f.plant.b.fits;
        cost_den = f.cost.den.fits;
        row_den = f.cost.row_den.fits;
        input_count = f.cost.input.long;
        input_weights = f.cost.input.fits;
        stage_cost = f.cost.stage.fits;
        stage_weights = f.cost.stage.weights;
        final_cost = f.cost.final_.fits;
        final_weights = f.cost.final_.weights;
        limit_den = l.limits.den.fits;
        stage_rows = l.limits.stage.fits;
        final_rows = l.limits.final_.fits;
        some_row = l.limits.some_row;
        grid = l.bounds.grid.fits.1;
        lo = l.bounds.lo.fits;
        hi = l.bounds.hi.fits;
        box = l.bounds.box;
        target_den = l.targets.den.fits;
        violation = l.targets.violation.fits;
        gap = l.targets.gap.fits;
      },
    ))
