use Rattle.command_make.proofs.check.check_under.Goals as goal

pub returns-in-Ok-clause-kept : goal.returns-in-Ok-clause-kept
returns-in-Ok-clause-kept c = record {
  stays = rw (c.row.ensures.value, c.row-2.ensures.value) at c.in-Ok.ensures.found;
  keeps = rw (c.row.ensures.value, c.row-2.ensures.value) at c.in-Ok.ensures.stays;
}

pub returns-in-Err-clause-caught : goal.returns-in-Err-clause-caught
returns-in-Err-clause-caught c = record {
  fault = c.in-Err.fault;
  found = rw (c.row.ensures.value, c.row-2.ensures.value) at c.in-Err.ensures.fault;
  is = c.stay_status.ensures;
}
