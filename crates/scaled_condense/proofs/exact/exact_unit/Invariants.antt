use Rattle.std.proofs.Common.{◌≡◌, ◌^◌, unsigned_abs}
use Rattle.scaled_condense.proofs.exact.exact_unit.Given as goal

abbrev pub invariant-loop : goal.invariant-loop
invariant-loop l = l.power ≡ unsigned_abs l.parts.plant_den ^ l.counter
