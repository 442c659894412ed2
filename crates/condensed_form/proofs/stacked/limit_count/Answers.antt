use Rattle.std.proofs.Common.{arith}
use Rattle.qp_model.proofs.VersionLaws.{design_rows_le}
use Rattle.condensed_form.proofs.stacked.limit_count.Goals as goal

pub count_of-requires : goal.count_of-requires
count_of-requires c = omega (arith, design_rows_le c.args.parts.now c.requires)
