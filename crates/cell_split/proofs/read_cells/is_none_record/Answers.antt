use Rattle.std.proofs.Common.{◌≡◌, length, Some, ◌∙◌, arith}
use Rattle.csv.specs.Records.{fields_of}
use Rattle.policy_file.specs.Records.{field_of}
use Rattle.policy_file.proofs.PlaceFacts.{field_is}
use Rattle.cell_split.proofs.PolicyFacts.{says_by, says_other}
use Rattle.cell_split.proofs.read_cells.is_none_record.Goals as goal

pub returns-then-len-eq1 : goal.returns-then-len-eq1
returns-then-len-eq1 c =
    let fields = fields_of c.args.row.now in
    let one : length fields ≡ 1 = omega (arith, c.len.ensures, c.if-len-eq1.true) in
    let some : Some c.in-Some.field.now ≡ Some (field_of fields 0) = c.in-Some.ensures.value ∙ field_is fields 0 (omega (arith, one)) in
    let first : c.in-Some.field.now ≡ field_of fields 0 = cc in
    says_by fields c.eq.result one (rw (first, c.as_slice.ensures) at c.eq.ensures)

pub returns-in-None : goal.returns-in-None
returns-in-None c =
    let fields = fields_of c.args.row.now in
    says_other fields (λ one. (let some = c.in-None.ensures.value ∙ field_is fields 0 (omega (arith, one)) in cc some))
