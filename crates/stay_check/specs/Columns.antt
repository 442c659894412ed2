-- What the plant, a limit and a first row have of a state or of an input.
use Rattle.std.specs.Prelude.{ℕ, ◌<◌, ℤ}
use Rattle.qp_model.specs.problem.Design.{Design, LimitRow}
use Rattle.stay_check.specs.FirstRows.{FirstRow}
use Rattle.stay_check.specs.declared.rows.Column.{Column}
use Rattle.stay_check.specs.declared.rows.Column.TheVariants.{State, Input}

-- the design has this state, or this input, counted from 0
abbrev pub IsColumn : Design → Column → Type 0
IsColumn d (State j) = j < d.states
IsColumn d (Input l) = l < d.inputs

-- coordinate i of the plant has so much of it
abbrev pub plant_at : Design → ℕ → Column → ℤ
plant_at d i (State j) = d.plant_a i j
plant_at d i (Input l) = d.plant_b i l

-- a limit has so much of it
abbrev pub limit_coefficient : LimitRow → Column → ℤ
limit_coefficient r (State j) = r.of_state j
limit_coefficient r (Input l) = r.of_input l

-- a first row has so much of it
abbrev pub coefficient : FirstRow → Column → ℤ
coefficient r (State j) = r.of_state j
coefficient r (Input l) = r.of_input l
