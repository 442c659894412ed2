use Rattle.std.proofs.Common.{◌+◌}
use Rattle.qp_model.specs.problem.Runs.{Holds}
use Rattle.settle_check.specs.Still.{box_of}
use Rattle.settle_check.specs.Course.{end_at, end_row, tube_of, EndHasRoom}
use Rattle.settle_check.proofs.CourseFacts.{IsFollowed}
use Rattle.settle_check.proofs.closed.ClosedLoop.ends.Given as goal

abbrev pub invariant-loop-turn : goal.invariant-loop-turn
invariant-loop-turn l = record {
  followed : IsFollowed l.self (end_row l.upper l.i) l._turn l.row.items l.added.value l.added.size;
  ends : Holds l.ends.items (l._turn + 1) (λ t. end_at l.upper (tube_of l.self (box_of l.low l.high) t) l.i);
  room : EndHasRoom l.self (box_of l.low l.high) l._turn l.upper l.i;
}
