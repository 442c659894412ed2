use Rattle.std.proofs.Common.{arith}
use Rattle.std.proofs.lemmas.Result.{IfOk-weaker}
use Rattle.policy_file.proofs.RecordFacts.{records_few}
use Rattle.policy_file.proofs.UniqueFacts.{states_told}
use Rattle.state_files.proofs.states.read_states.Goals as goal

pub returns-clause-found : goal.returns-clause-found
returns-clause-found c = IfOk-weaker c.read_rows.result _ _ (λ m read. record { cols = read.cols; rows = read.rows; each = read.each }) c.read_rows.ensures.found

pub returns-clause-fault : goal.returns-clause-fault
returns-clause-fault c = c.read_rows.ensures.fault

pub returns-clause-right : goal.returns-clause-right
returns-clause-right c = (states_told c.args.bytes.now c.args.n c.read_rows.result (returns-clause-found c) c.read_rows.ensures.fault).0

pub returns-clause-first : goal.returns-clause-first
returns-clause-first c = (states_told c.args.bytes.now c.args.n c.read_rows.result (returns-clause-found c) c.read_rows.ensures.fault).1

pub returns-clause-count : goal.returns-clause-count
returns-clause-count c = IfOk-weaker c.read_rows.result _ _ (λ m read. omega (arith, read.rows, records_few c.args.bytes.now)) c.read_rows.ensures.found
