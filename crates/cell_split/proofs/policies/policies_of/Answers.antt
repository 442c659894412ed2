use Rattle.std.proofs.Common.{map, arith}
use Rattle.std.proofs.lemmas.List.{length-map}
use Rattle.csv.specs.Records.{fields_of}
use Rattle.qp_model.specs.problem.Parts.{design_of}
use Rattle.policy_file.proofs.TextFacts.{passed_on}
use Rattle.cell_split.proofs.PlanFacts.{readable}
use Rattle.cell_split.proofs.PolicyFacts.{cells_told, left_told}
use Rattle.cell_split.proofs.policies.policies_of.Goals as goal

pub cells_in-requires-clause-readable : goal.cells_in-requires-clause-readable
cells_in-requires-clause-readable c = rw c.deref.ensures.value (readable c.in_ok-records.records.items c.args.bytes.now c.in_ok-records.ensures c.requires.small)

pub count_fault-requires-clause-readable : goal.count_fault-requires-clause-readable
count_fault-requires-clause-readable c = rw c.deref-then-read-len.ensures.value (readable c.in_ok-records.records.items c.args.bytes.now c.in_ok-records.ensures c.requires.small)

pub returns-in_err-read-clause-fault : goal.returns-in_err-read-clause-fault
returns-in_err-read-clause-fault c =
    let records = c.in_ok-records.records.items in
    passed_on _ _ _ c.from_residual-in_err-read.ensures.1
    (cells_told c.args.bytes.now (design_of c.args.parts.now) c.args.cells (map fields_of records) c.in_ok-records.ensures _ (rw c.deref.ensures.value at c.in_err-read.ensures.fault))

pub returns-then-read-len-clause-fault : goal.returns-then-read-len-clause-fault
returns-then-read-len-clause-fault c =
    let records = c.in_ok-records.records.items in
    left_told c.args.bytes.now (design_of c.args.parts.now) c.args.cells (map fields_of records) c.in_ok-records.ensures c.in_ok-read.read.policies.items c.in_ok-read.read.end
    (rw c.deref.ensures.value at c.in_ok-read.ensures.found) c.count_fault.result (omega (arith, c.if-read-len.true, length-map records fields_of))
    (rw c.deref-then-read-len.ensures.value at c.count_fault.ensures)
