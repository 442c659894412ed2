-- The closed loop of a design's plant with a controller: its states, turn by turn.
use Rattle.std.specs.Prelude.{◌≡◌, ℕ, zero, suc, ◌-◌, ◌*◌, ◌^◌, ℤ, pos, ◌+ℤ◌, ◌*ℤ◌, List, map}
use Rattle.std.specs.List.{range_with_len}
use Rattle.integer_algebra.specs.Division.{round_of}
use Rattle.integer_algebra.specs.Sums.{image, at}
use Rattle.qp_model.specs.problem.Design.{Design}
use Rattle.qp_model.specs.machine.Controller.{Numbers}
use Rattle.qp_model.specs.machine.Machine.{averaged_plan}

-- the controller is for states and inputs of the design, over its grid
pub record IsFor (c : Numbers) (d : Design) : Type 0 where
  pub states : d.states ≡ c.states
  pub inputs : d.inputs ≡ c.inputs
  pub grid : d.grid ≡ c.grid_bits

-- what a number over 2^grid_bits is times, to be over the averaged plan's denominator
abbrev pub grid_scale : Numbers → ℕ
grid_scale c = c.steps * 2 ^ (c.fraction_bits - c.grid_bits)

-- coordinate i of the plant's next state over 2^grid_bits, under the first inputs of the averaged plan, as a numerator over next_over
abbrev pub next_sum : Design → Numbers → List ℤ → ℕ → ℤ
next_sum d c xi i =
    image d.states d.plant_a (at xi) i *ℤ pos (grid_scale c) +ℤ
    image d.inputs d.plant_b (at (averaged_plan c xi)) i

-- what these numerators are over
abbrev pub next_over : Design → Numbers → ℕ
next_over d c = d.plant_denominator * grid_scale c

-- the next state over 2^grid_bits: the nearest whole numbers, a tie upward
abbrev pub successor : Design → Numbers → List ℤ → List ℤ
successor d c xi = map (λ i. round_of (next_sum d c xi i) (next_over d c)) (range_with_len 0 d.states)

-- the state after so many turns from a start; turn t, from 1, is made from the state after t - 1 turns
unfoldable pub state_after : Design → Numbers → List ℤ → ℕ → List ℤ
state_after d c start zero = start
state_after d c start (suc k) = successor d c (state_after d c start k)
