use Rattle.qp_model.specs.declared.quantity.Quantity.TheVariants.{Prediction, Hessian, Rows}
use Rattle.qp_model.specs.problem.Parts.{design_of}
use Rattle.condensed_form.proofs.FaultFacts.{prediction_first, first_prediction, hessian_first, first_hessian, rows_first, first_rows, fault_wide, value_wide, entry_sizes, wide_has_memory, value_has_memory}
use Rattle.scaled_condense.proofs.exact.sizes_of.Goals as goal

pub prediction_size-requires : goal.prediction_size-requires
prediction_size-requires c = c.requires

pub returns-in_default-clause-sizes : goal.returns-in_default-clause-sizes
returns-in_default-clause-sizes c = tt

pub returns-in_default-clause-memory : goal.returns-in_default-clause-memory
returns-in_default-clause-memory c = wide_has_memory _

pub hessian_size-requires : goal.hessian_size-requires
hessian_size-requires c = c.requires

pub returns-in_default-hessian_size-clause-sizes : goal.returns-in_default-hessian_size-clause-sizes
returns-in_default-hessian_size-clause-sizes c = tt

pub returns-in_default-hessian_size-clause-memory : goal.returns-in_default-hessian_size-clause-memory
returns-in_default-hessian_size-clause-memory c = wide_has_memory _

pub rows_size-requires : goal.rows_size-requires
rows_size-requires c = c.requires

pub returns-in_default-rows_size-clause-sizes : goal.returns-in_default-rows_size-clause-sizes
returns-in_default-rows_size-clause-sizes c = tt

pub returns-in_default-rows_size-clause-memory : goal.returns-in_default-rows_size-clause-memory
returns-in_default-rows_size-clause-memory c = wide_has_memory _

pub returns-clause-memory : goal.returns-clause-memory
returns-clause-memory c = value_has_memory _

pub returns-in_default-clause-wide : goal.returns-in_default-clause-wide
returns-in_default-clause-wide c =
    let missed = c.in_default.ensures in
    fault_wide (design_of c.args.parts.now) Prediction (prediction_first (design_of c.args.parts.now) missed) (first_prediction (design_of c.args.parts.now) missed)

pub returns-in_default-hessian_size-clause-wide : goal.returns-in_default-hessian_size-clause-wide
returns-in_default-hessian_size-clause-wide c =
    let within = c.in-Some.ensures.0 in
    fault_wide (design_of c.args.parts.now) Hessian (hessian_first (design_of c.args.parts.now) within c.in_default-hessian_size.ensures) (first_hessian (design_of c.args.parts.now) within c.in_default-hessian_size.ensures)

pub returns-in_default-rows_size-clause-wide : goal.returns-in_default-rows_size-clause-wide
returns-in_default-rows_size-clause-wide c =
    let within = c.in-Some.ensures.0 in
    fault_wide (design_of c.args.parts.now) Rows (rows_first (design_of c.args.parts.now) within c.in-Some-hessian_size.ensures.0 c.in_default-rows_size.ensures) (first_rows (design_of c.args.parts.now) within c.in-Some-hessian_size.ensures.0 c.in_default-rows_size.ensures)

pub returns-clause-sizes : goal.returns-clause-sizes
returns-clause-sizes c = entry_sizes (design_of c.args.parts.now) _ _ c.in-Some-hessian_size.ensures c.in-Some-rows_size.ensures

pub returns-clause-wide : goal.returns-clause-wide
returns-clause-wide c =
    let within = c.in-Some.ensures.0 in
    value_wide (design_of c.args.parts.now) _ within c.in-Some-hessian_size.ensures.0 c.in-Some-rows_size.ensures.0

pub returns-in_default-clause-reach : goal.returns-in_default-clause-reach
returns-in_default-clause-reach c = tt

pub returns-in_default-hessian_size-clause-reach : goal.returns-in_default-hessian_size-clause-reach
returns-in_default-hessian_size-clause-reach c = tt

pub returns-in_default-rows_size-clause-reach : goal.returns-in_default-rows_size-clause-reach
returns-in_default-rows_size-clause-reach c = tt

pub returns-clause-reach : goal.returns-clause-reach
returns-clause-reach c = c.in-Some.ensures.1
