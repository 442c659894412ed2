use Rattle.std.proofs.Common.{map, arith, refl, inl}
use Rattle.csv.specs.Records.{fields_of}
use Rattle.mat_int.specs.Lines.{lists}
use Rattle.qp_model.specs.problem.Parts.{design_of}
use Rattle.policy_file.proofs.RecordFacts.{records_few}
use Rattle.number_text.specs.declared.text_fault.TextFault.TheVariants.{Memory}
use Rattle.policy_file.proofs.TextFacts.{records_count, passed_on}
use Rattle.std.proofs.lemmas.List.{length-map}
use Rattle.cell_split.proofs.TextFacts.{short, told_ok, told_err, count_told, record_told}
use Rattle.cell_split.proofs.read.cuts_of_text.Goals as goal

pub overflow_cast-result : goal.overflow_cast-result
overflow_cast-result c =
    let n = records_count c.in_ok-records.records.items c.args.bytes.now c.in_ok-records.ensures in
    let few = records_few c.args.bytes.now in
    omega (arith, n, few)

pub returns-then-len-parts-clause-fault : goal.returns-then-len-parts-clause-fault
returns-then-len-parts-clause-fault c =
    count_told c.args.bytes.now (design_of c.args.parts.now) (map fields_of c.in_ok-records.records.items) (lists c.in_ok-cuts.cuts.items) _ c.in_ok-records.ensures
    (omega (arith, length-map c.in_ok-records.records.items fields_of)) (λ q. absurd (omega (arith, q, c.if-len-parts.true))) (rw c.deref.ensures.value at c.in_ok-cuts.ensures.found)

pub counted-requires : goal.counted-requires
counted-requires c = short (design_of c.args.parts.now) (map fields_of c.in_ok-records.records.items) c.in_ok-cuts.cuts.items (rw c.deref.ensures.value at c.in_ok-cuts.ensures.found)

pub returns-in_err-records-clause-fault : goal.returns-in_err-records-clause-fault
returns-in_err-records-clause-fault c = passed_on _ _ Memory c.from_residual.ensures.1 (inl refl)

pub returns-in_err-cuts-clause-fault : goal.returns-in_err-cuts-clause-fault
returns-in_err-cuts-clause-fault c =
    passed_on _ _ _ c.from_residual-in_err-cuts.ensures.1
    (record_told c.args.bytes.now (design_of c.args.parts.now) (map fields_of c.in_ok-records.records.items) _ c.in_ok-records.ensures (rw c.deref.ensures.value at c.in_err-cuts.ensures.fault))

pub returns-clause-found : goal.returns-clause-found
returns-clause-found c =
    told_ok c.args.bytes.now (design_of c.args.parts.now) (map fields_of c.in_ok-records.records.items) (lists c.in_ok-cuts.cuts.items) c.counted.result c.in_ok-records.ensures
    (omega (arith, length-map c.in_ok-records.records.items fields_of)) (rw c.deref.ensures.value at c.in_ok-cuts.ensures.found) c.counted.ensures.made c.counted.ensures.few

pub returns-clause-fault : goal.returns-clause-fault
returns-clause-fault c =
    told_err c.args.bytes.now (design_of c.args.parts.now) (map fields_of c.in_ok-records.records.items) (lists c.in_ok-cuts.cuts.items) c.counted.result c.in_ok-records.ensures
    (omega (arith, length-map c.in_ok-records.records.items fields_of)) (rw c.deref.ensures.value at c.in_ok-cuts.ensures.found) c.counted.ensures.many
