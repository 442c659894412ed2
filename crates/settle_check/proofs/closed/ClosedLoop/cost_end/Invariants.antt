use Rattle.settle_check.specs.Course.{plant, cost_first}
use Rattle.settle_check.proofs.CourseFacts.{IsFollowed}
use Rattle.settle_check.proofs.closed.ClosedLoop.cost_end.Given as goal

abbrev pub invariant-loop-turn : goal.invariant-loop-turn
invariant-loop-turn l = IsFollowed l.self (cost_first (plant l.self) l.upper l.k) l._turn l.row.items l.added.value l.added.size
