use Rattle.std.proofs.Common.{◌≡◌, arith, rules}
use Rattle.policy_file.proofs.RecordFacts.{records_few}
use Rattle.policy_file.proofs.TextFacts.{passed_on}
use Rattle.state_files.specs.ShiftRule.{least_shifts}
use Rattle.state_files.proofs.TurnFacts.{turns_found, turn_count, record_fault}
use Rattle.state_files.proofs.turns.shifts_in.Goals as goal

pub returns-in_err-shifts-clause-fault : goal.returns-in_err-shifts-clause-fault
returns-in_err-shifts-clause-fault c =
    let floors : c.deref.result.now ≡ least_shifts c.args.n = search rules in
    passed_on _ _ _ c.from_residual-in_err-shifts.ensures.1 (record_fault c.args.bytes.now c.args.n c.args.turns c.deref.result.now floors _ c.in_err-shifts.ensures.fault)

pub overflow_cast-result : goal.overflow_cast-result
overflow_cast-result c = omega (arith, c.rows-entries.ensures.count, c.in_ok-shifts.ensures.found.rows, records_few c.args.bytes.now)

pub returns-then-entries-turns-clause-fault : goal.returns-then-entries-turns-clause-fault
returns-then-entries-turns-clause-fault c =
    let floors : c.deref.result.now ≡ least_shifts c.args.n = search rules in
    turn_count c.args.bytes.now c.args.n c.args.turns c.deref.result.now floors c.in_ok-shifts.shifts c.in_ok-shifts.ensures.found _ c.rows-entries.ensures.count
    (λ same. absurd (omega (arith, same, c.rows-entries.ensures.count)))

pub returns-clause-found : goal.returns-clause-found
returns-clause-found c =
    let floors : c.deref.result.now ≡ least_shifts c.args.n = search rules in
    turns_found c.args.bytes.now c.args.n c.args.turns c.deref.result.now floors c.in_ok-shifts.shifts c.in_ok-shifts.ensures.found (omega (arith, c.rows-entries.ensures.count))
