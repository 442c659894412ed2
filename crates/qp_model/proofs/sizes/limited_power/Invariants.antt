use Rattle.std.proofs.Common.{◌≡◌, ◌^◌, ◌≤◌}
use Rattle.qp_model.proofs.sizes.limited_power.Given as goal

abbrev pub invariant-loop : goal.invariant-loop
invariant-loop l = (l.power ≡ l.base ^ l.counter) × (l.power ≤ 2 ^ 126)
