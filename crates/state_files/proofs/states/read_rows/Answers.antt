use Rattle.std.proofs.Common.{◌≡◌, length, Ok, ◌∙◌, refl}
use Rattle.csv.specs.Records.{Row, fields_of}
use Rattle.policy_file.specs.Layout.{rule_of}
use Rattle.policy_file.proofs.LeftFacts.{GivenAt, none_read, read_more, rows_read, given_at, all_given, given_room, given_small}
use Rattle.policy_file.proofs.TextFacts.{passed_on}
use Rattle.state_files.proofs.RowFacts.{for_each, of_it, next_fault}
use Rattle.state_files.proofs.states.read_rows.Goals as goal
use Rattle.state_files.proofs.states.read_rows.Goals.{In-Some}

pub loop-record-init : goal.loop-record-init
loop-record-init c =
    let start = c.into_iter-record-iterator.ensures.into_iter_gives ∙ refl in
    rw (start, c.new-packed.ensures) (none_read (rule_of c.args.layout) c.args.width c.args.bytes.now _ c.text_records-record-items.ensures)

-- the record that was read is the next one
next_given : (c : In-Some) (row : Row) → c.in-Some.record ≡ Ok row → GivenAt c.args.bytes.now (length c.loop-record.packed.rows) (fields_of row) c.next.new.self
next_given c row is =
    let left = c.loop-record.invariant.left in
    let s = rw (c.in-Some.is, is) at ((c.next.ensures.steps left.turns left.trim).0 left.ready) in
    given_at c.args.bytes.now (length c.loop-record.packed.rows) c.loop-record.record-iterator c.next.new.self (fields_of row) left s.0 s.1 s.2

pub push_record-requires : goal.push_record-requires
push_record-requires c = for_each c.in-Some.record _ (λ row is.
    let g = next_given (goal.at.push_record-requires c).In-Some row is in
    (given_small _ _ _ _ g c.requires, given_room _ _ _ _ g c.requires))

pub returns-in_err-push_record-clause-fault : goal.returns-in_err-push_record-clause-fault
returns-in_err-push_record-clause-fault c =
    passed_on _ _ _ c.from_residual.ensures.1
    (next_fault (rule_of c.args.layout) c.args.width c.args.bytes.now c.loop-record.packed c.in-Some.record c.next.new.self _ c.loop-record.invariant.cols c.loop-record.invariant.each
    (next_given (goal.at.returns-in_err-push_record-clause-fault c).In-Some) c.in_err-push_record.ensures.fault)

pub loop-record-preserved : goal.loop-record-preserved
loop-record-preserved c =
    of_it c.in-Some.record _ _ c.in_ok-push_record.ensures.found (λ row is more.
    read_more (rule_of c.args.layout) c.args.width c.args.bytes.now c.loop-record.record-iterator c.next.new.self c.loop-record.packed c.push_record.new.packed (fields_of row) more.numbers
    more.rows c.loop-record.invariant (next_given (goal.at.loop-record-preserved c).In-Some row is) (rw c.loop-record.invariant.cols at more.holds))

pub returns-clause-found : goal.returns-clause-found
returns-clause-found c =
    let read = c.loop-record.invariant in
    let s = rw c.in-None.is at ((c.next.ensures.steps read.left.turns read.left.trim).0 read.left.ready) in
    rows_read (rule_of c.args.layout) c.args.width c.args.bytes.now c.loop-record.record-iterator c.loop-record.packed
    (all_given c.args.bytes.now (length c.loop-record.packed.rows) c.loop-record.record-iterator c.next.new.self read.left s) read
