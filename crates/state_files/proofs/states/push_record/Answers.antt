use Rattle.std.proofs.Common.{arith}
use Rattle.policy_file.specs.Layout.{rule_of}
use Rattle.policy_file.proofs.TextFacts.{passed_on}
use Rattle.state_files.proofs.RowFacts.{at_it, it_is, its_fault}
use Rattle.state_files.proofs.states.push_record.Goals as goal

pub overflow_cast-entry : goal.overflow_cast-entry
overflow_cast-entry c = omega (arith, c.rows.ensures.count, (at_it c.args.read c.in-Ok.record _ c.in-Ok.is c.requires).0)

pub overflow_add-entry : goal.overflow_add-entry
overflow_add-entry c = omega (arith, c.rows.ensures.count, (at_it c.args.read c.in-Ok.record _ c.in-Ok.is c.requires).0)

pub numbers_of-requires : goal.numbers_of-requires
numbers_of-requires c = (at_it c.args.read c.in-Ok.record _ c.in-Ok.is c.requires).1

pub returns-in_err-numbers-clause-fault : goal.returns-in_err-numbers-clause-fault
returns-in_err-numbers-clause-fault c =
    passed_on _ _ _ c.from_residual.ensures.1
    (its_fault c.args.read c.in-Ok.record (rule_of c.args.layout) _ _ _ _ _ c.in-Ok.is c.cols-width.ensures c.rows.ensures.count c.in_err-numbers.ensures.fault)

pub push_row-requires-clause-few : goal.push_row-requires-clause-few
push_row-requires-clause-few c = omega (arith, (at_it c.args.read c.in-Ok.record _ c.in-Ok.is c.requires).0)

pub returns-clause-found : goal.returns-clause-found
returns-clause-found c =
    it_is c.args.read c.in-Ok.record _ c.in-Ok.is (record {
      numbers = c.in_ok-numbers.numbers.items;
      rows = rw (← c.deref.ensures.value) c.in_ok-push_row.ensures.ok;
      holds = rw c.cols-width.ensures at c.in_ok-numbers.ensures.found;
    })
