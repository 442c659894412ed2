-- What the machine has made with its multipliers raised, as a kernel's words hold it.
use Rattle.std.specs.Prelude.{◌^◌, ℤ, List, length, map}
use Rattle.std.specs.List.{range_with_len}
use Rattle.integer_algebra.specs.Division.{floor_of}
use Rattle.integer_algebra.specs.Sums.{at}
use Rattle.qp_model.specs.machine.Controller.{Numbers}
use Rattle.qp_model.specs.machine.Machine.{Iterate, lowering_of, raised, plan_of, next_multipliers, added}

-- each multiplier over 2^(fraction_bits + its row's exponent), rounded down, of those over 2^(fraction_bits + step_exponent)
abbrev pub unraised : Numbers → List ℤ → List ℤ
unraised c multipliers = map (λ i. floor_of (at multipliers i) (2 ^ lowering_of c i)) (range_with_len 0 (length c.bounds))

-- what the machine has made, its multipliers over 2^(fraction_bits + step_exponent)
abbrev pub with_raised : Numbers → Iterate → Iterate
with_raised c made = record made { multipliers = raised c made.multipliers }

-- a step from that to the same after it: of what the machine has made it is the machine's step, by step_with_raised
abbrev pub raised_step : Numbers → List ℤ → Iterate → Iterate
raised_step c state made =
    let plan = plan_of c state made.multipliers in
    record { plan = plan; multipliers = raised c (next_multipliers c state plan (unraised c made.multipliers)); sums = added made.sums plan }
