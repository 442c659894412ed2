-- The plant's states under a plan.
--
-- A plan u over q is its numerators, stage by stage; a state xi is numerators over 2^grid. The equations hold at every q; where a plan is
-- read as fractions, q is positive.
use Rattle.std.specs.Prelude.{ℕ, zero, suc, ◌+◌, ◌-◌, ◌*◌, ◌^◌, ℤ, pos, ◌+ℤ◌, ◌*ℤ◌}
use Rattle.integer_algebra.specs.Sums.{image}
use Rattle.qp_model.specs.problem.Design.{Design}

-- the state at a stage, as numerators over 2^grid * q * plant_denominator^stage
abbrev pub trajectory : Design → ℤ → (xi u : ℕ → ℤ) → ℕ → ℕ → ℤ
trajectory d q xi u zero i = q *ℤ xi i
trajectory d q xi u (suc k) i =
    image d.states d.plant_a (trajectory d q xi u k) i +ℤ
    pos (2 ^ d.grid * d.plant_denominator ^ k) *ℤ image d.inputs d.plant_b (λ l. u (k * d.inputs + l)) i

-- what a numerator at stage k is times, to be over plant_denominator^stages
abbrev pub lift : Design → ℕ → ℤ
lift d k = pos (d.plant_denominator ^ (d.stages - k))
