use Rattle.std.proofs.Common.{◌-◌, length, map, inr, arith}
use Rattle.std.proofs.lemmas.List.{length-map}
use Rattle.csv.specs.Records.{fields_of}
use Rattle.qp_model.specs.problem.Parts.{design_of}
use Rattle.qp_model.specs.problem.Policy.{plans_of}
use Rattle.cell_split.proofs.PlanFacts.{counted, left_wrong}
use Rattle.cell_split.proofs.read_cells.count_fault.Goals as goal

pub returns-in_default : goal.returns-in_default
returns-in_default c =
    let records = c.args.records.now in
    inr (inr (counted (map fields_of records) (design_of c.args.parts.now) c.args.start (length records - c.args.start) (length records) (plans_of c.in_default.field-0)
    (omega (arith, c.requires.inside, length-map records fields_of)) (omega (arith, length-map records fields_of)) c.in_default.ensures.found))

pub returns : goal.returns
returns c =
    let records = c.args.records.now in
    left_wrong (map fields_of records) (design_of c.args.parts.now) c.args.start (length records - c.args.start) c.in-Err.fault
    (omega (arith, c.requires.inside, length-map records fields_of)) c.in-Err.ensures.fault
