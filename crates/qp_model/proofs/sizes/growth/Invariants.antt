use Rattle.std.proofs.Common.{◌≡◌, max, unsigned_abs}
use Rattle.qp_model.specs.problem.Parts.{design_of}
use Rattle.qp_model.specs.form.Quantities.{greatest, plant_width}
use Rattle.qp_model.proofs.sizes.growth.Given as goal

abbrev pub invariant-loop-i : goal.invariant-loop-i
invariant-loop-i l = l.most ≡ max (unsigned_abs l.parts.plant_den) (greatest l.i (plant_width (design_of l.parts)))
