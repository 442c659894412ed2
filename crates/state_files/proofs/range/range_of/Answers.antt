use Rattle.std.proofs.Common.{◌<◌, length, arith}
use Rattle.std.proofs.lemmas.List.{get_or_read}
use Rattle.policy_file.proofs.RecordFacts.{records_few}
use Rattle.policy_file.proofs.TextFacts.{record_is, records_count, entry_small, room_small, passed_on}
use Rattle.state_files.proofs.RangeFacts.{read_more, range_found, record_fault, count_fault}
use Rattle.state_files.proofs.range.range_of.Goals as goal

pub next_shifts-requires-clause-room : goal.next_shifts-requires-clause-room
next_shifts-requires-clause-room c =
    let rows = c.in_ok-records.records.items in
    let lt : c.loop-i.i < length rows = omega arith in
    room_small rows c.args.bytes.now c.index.result.now c.loop-i.i c.in_ok-records.ensures c.requires lt (get_or_read rows c.loop-i.i _ lt c.index.ensures _)

pub next_shifts-requires-clause-small : goal.next_shifts-requires-clause-small
next_shifts-requires-clause-small c =
    let rows = c.in_ok-records.records.items in
    let lt : c.loop-i.i < length rows = omega arith in
    let small = entry_small rows c.args.bytes.now c.loop-i.i c.in_ok-records.ensures c.requires lt in
    omega (arith, small, c.loop-i.invariant.long)

pub returns-in_err-numbers-clause-fault : goal.returns-in_err-numbers-clause-fault
returns-in_err-numbers-clause-fault c =
    let rows = c.in_ok-records.records.items in
    let lt : c.loop-i.i < length rows = omega arith in
    let row = record_is rows c.args.bytes.now c.index.result.now c.loop-i.i c.in_ok-records.ensures lt (get_or_read rows c.loop-i.i _ lt c.index.ensures _) in
    passed_on _ _ _ c.from_residual-in_err-numbers.ensures.1
    (record_fault c.args.bytes.now c.args.n c.loop-i.i rows c.loop-i.range _ c.in_ok-records.ensures lt c.loop-i.invariant
    (rw (row, c.loop-i.invariant.cols, c.loop-i.invariant.long) at c.in_err-numbers.ensures.fault))

pub loop-i-preserved : goal.loop-i-preserved
loop-i-preserved c =
    let rows = c.in_ok-records.records.items in
    let lt : c.loop-i.i < length rows = omega arith in
    let row = record_is rows c.args.bytes.now c.index.result.now c.loop-i.i c.in_ok-records.ensures lt (get_or_read rows c.loop-i.i _ lt c.index.ensures _) in
    read_more c.args.bytes.now c.args.n c.loop-i.i c.loop-i.range _ c.in_ok-numbers.numbers.items (rw (← c.deref-in-loop-i.ensures.value) c.in_ok-push_row.ensures.ok)
    (rw (row, c.loop-i.invariant.cols, c.loop-i.invariant.long) at c.in_ok-numbers.ensures.found) c.loop-i.invariant

pub overflow_cast-result : goal.overflow_cast-result
overflow_cast-result c =
    let n = records_count c.in_ok-records.records.items c.args.bytes.now c.in_ok-records.ensures in
    let few = records_few c.args.bytes.now in
    omega (arith, n, few)

pub returns-then-len-ne2-clause-fault : goal.returns-then-len-ne2-clause-fault
returns-then-len-ne2-clause-fault c =
    count_fault c.args.bytes.now c.args.n c.loop-i.i _ c.in_ok-records.records.items c.loop-i.range c.in_ok-records.ensures (omega arith) (omega arith)
    (λ two. absurd (omega (arith, two))) c.loop-i.invariant

pub returns-clause-found : goal.returns-clause-found
returns-clause-found c =
    range_found c.args.bytes.now c.args.n c.loop-i.i c.in_ok-records.records.items c.loop-i.range c.in_ok-records.ensures (omega arith) (omega arith) (omega arith) c.loop-i.invariant
