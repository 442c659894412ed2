use Rattle.std.proofs.Common.{◌+◌, ◌*◌, ◌^◌, pos, neg_ℤ, ◌+ℤ◌, ◌*ℤ◌, ◌≤ℤ◌}
use Rattle.enclosure.specs.Wide.{IsQuotient}
use Rattle.enclosure.proofs.wide.scaled_quotient.Given as goal

abbrev pub invariant-loop-step : goal.invariant-loop-step
invariant-loop-step l = record {
  value : IsQuotient (pos (2 ^ l._step) *ℤ l.num) l.den l.quotient.whole l.quotient.rest;
  least : neg_ℤ (pos (2 ^ 86 * 2 ^ l._step)) ≤ℤ l.quotient.whole;
  most : (l.quotient.whole +ℤ pos 1) ≤ℤ pos ((2 ^ 86 + 1) * 2 ^ l._step);
}
