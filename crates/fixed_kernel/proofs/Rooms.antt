-- A controller leaves room for the sums of its rows.
use Rattle.std.proofs.Common.{◌≡◌, ℕ, ◌+◌, ◌*◌, ◌^◌, ◌≤◌, ◌<◌, ℤ, ◌+ℤ◌, List, length, unsigned_abs, arith}
use Rattle.integer_algebra.specs.Sums.{at}
use Rattle.std.proofs.lemmas.Nat.{pow_pos}
use Rattle.integer_algebra.specs.Division.{floor_of, ceil_div}
use Rattle.mat_int.specs.Row.{list_dot, abs_dot}
use Rattle.mat_int.specs.Matrix.{row_of}
use Rattle.mat_int.proofs.Dots.{abs-add_le, abs-dot_le}
use Rattle.qp_model.specs.machine.Controller.{Numbers}
use Rattle.qp_model.specs.machine.AbsoluteSums.{state_magnitudes, clamp_magnitudes, plan_magnitudes, entry_absolute_sum, weighted_abs_sum, IsController}
use Rattle.qp_model.specs.machine.Within.{AreWithin}
use Rattle.overflow_check.proofs.Sizes.{length-state_reach, length-clamp_reach, length-plan_reach}
use Rattle.qp_model.proofs.AbsoluteLaws.{le_times_pow, abs-floor_le, ceil_div_mono}
use Rattle.qp_model.proofs.MagnitudeLaws.{abs_dot-magnitudes}
use Rattle.overflow_check.proofs.SumLaws.{SumsFit, sums_fit, dual_le, planned_le, row_parts_le, row_le, next_le}

pub fit : (c : Numbers) → IsController c → SumsFit c (2 ^ 126)
fit c s = sums_fit c (2 ^ 126) s.room

-- ---- lengths
pub state_long : (c : Numbers) (state : List ℤ) → IsController c → AreWithin state (state_magnitudes c) → length state ≡ c.states
state_long c state s w = omega (arith, w.long, length-state_reach c s.form.sized)

pub multipliers_long : (c : Numbers) (multipliers : List ℤ) → IsController c → AreWithin multipliers (clamp_magnitudes c) → length multipliers ≡ c.rows
multipliers_long c multipliers s w = omega (arith, w.long, length-clamp_reach c, s.form.sized.shaped.bounds)

pub plan_long : (c : Numbers) (plan : List ℤ) → AreWithin plan (plan_magnitudes c) → length plan ≡ length c.offsets
plan_long c plan w = omega (arith, w.long, length-plan_reach c)

-- ---- rooms
pub dual_room : (c : Numbers) (multipliers : List ℤ) (j : ℕ) → IsController c → j < length c.offsets → AreWithin multipliers (clamp_magnitudes c) → abs_dot (row_of c.dual_gains j) multipliers < 2 ^ 127
dual_room c multipliers j s h w = omega (arith, dual_le c multipliers j w, (fit c s).entries j h)

-- the multipliers' part of a plan entry, as it is floored, with the state's products one by one and the offset
entry_inner_le : (c : Numbers) (state multipliers : List ℤ) (j : ℕ) → AreWithin state (state_magnitudes c) → AreWithin multipliers (clamp_magnitudes c) →
    unsigned_abs (floor_of (list_dot (row_of c.dual_gains j) multipliers) (2 ^ c.step_exponent)) + abs_dot (row_of c.state_gains j) state + unsigned_abs (at c.offsets j) ≤ entry_absolute_sum c j
entry_inner_le c state multipliers j w v =
    let p = weighted_abs_sum (row_of c.state_gains j) (state_magnitudes c) in
    let t = unsigned_abs (at c.offsets j) in
    omega (
      arith,
      abs-floor_le (list_dot (row_of c.dual_gains j) multipliers) (2 ^ c.step_exponent),
      abs-dot_le (row_of c.dual_gains j) multipliers,
      abs_dot-magnitudes (row_of c.dual_gains j) multipliers (clamp_magnitudes c) v,
      abs_dot-magnitudes (row_of c.state_gains j) state (state_magnitudes c) w,
      le_times_pow t c.fraction_bits,
      le_times_pow (p + t * 2 ^ c.fraction_bits) c.step_exponent,
    )

pub inner_room : (c : Numbers) (state multipliers : List ℤ) (j : ℕ) → IsController c → j < length c.offsets → AreWithin state (state_magnitudes c) → AreWithin multipliers (clamp_magnitudes c) →
    unsigned_abs (floor_of (list_dot (row_of c.dual_gains j) multipliers) (2 ^ c.step_exponent)) + abs_dot (row_of c.state_gains j) state < 2 ^ 127
inner_room c state multipliers j s h w v = omega (arith, entry_inner_le c state multipliers j w v, (fit c s).entries j h)

pub entry_room : (c : Numbers) (state multipliers : List ℤ) (j : ℕ) → IsController c → j < length c.offsets → AreWithin state (state_magnitudes c) → AreWithin multipliers (clamp_magnitudes c) →
    unsigned_abs (floor_of (list_dot (row_of c.dual_gains j) multipliers) (2 ^ c.step_exponent) +ℤ list_dot (row_of c.state_gains j) state) + unsigned_abs (at c.offsets j) ≤ 2 ^ 126
entry_room c state multipliers j s h w v =
    let dual = floor_of (list_dot (row_of c.dual_gains j) multipliers) (2 ^ c.step_exponent) in
    omega (arith, abs-add_le dual (list_dot (row_of c.state_gains j) state), abs-dot_le (row_of c.state_gains j) state, entry_inner_le c state multipliers j w v, (fit c s).entries j h)

pub planned_room : (c : Numbers) (plan : List ℤ) (i : ℕ) → IsController c → i < length c.bounds → AreWithin plan (plan_magnitudes c) → abs_dot (row_of c.plan_rows i) plan < 2 ^ 127
planned_room c plan i s h w = omega (arith, planned_le c plan i w, (fit c s).rows i h)

pub state_room : (c : Numbers) (state plan : List ℤ) (i : ℕ) → IsController c → i < length c.bounds → AreWithin state (state_magnitudes c) → AreWithin plan (plan_magnitudes c) →
    unsigned_abs (list_dot (row_of c.plan_rows i) plan) + abs_dot (row_of c.state_rows i) state < 2 ^ 127
state_room c state plan i s h w v = omega (arith, row_parts_le c state plan i w v, (fit c s).rows i h)

pub row_room : (c : Numbers) (state plan : List ℤ) (i : ℕ) → IsController c → i < length c.bounds → AreWithin state (state_magnitudes c) → AreWithin plan (plan_magnitudes c) →
    unsigned_abs (list_dot (row_of c.plan_rows i) plan +ℤ list_dot (row_of c.state_rows i) state) + unsigned_abs (at c.bounds i) * 2 ^ c.fraction_bits ≤ 2 ^ 126
row_room c state plan i s h w v =
    omega (arith, abs-add_le (list_dot (row_of c.plan_rows i) plan) (list_dot (row_of c.state_rows i) state), row_le c state plan i w v, (fit c s).rows i h)

pub next_room : (c : Numbers) (state plan : List ℤ) (old : ℤ) (i : ℕ) → IsController c → i < length c.bounds → unsigned_abs old ≤ unsigned_abs c.clamp → AreWithin state (state_magnitudes c) → AreWithin plan (plan_magnitudes c) →
    unsigned_abs old + ceil_div (unsigned_abs (list_dot (row_of c.plan_rows i) plan +ℤ list_dot (row_of c.state_rows i) state) + unsigned_abs (at c.bounds i) * 2 ^ c.fraction_bits) (2 ^ c.fraction_bits) ≤ 2 ^ 126
next_room c state plan old i s h le w v =
    let planned = list_dot (row_of c.plan_rows i) plan in
    let own = list_dot (row_of c.state_rows i) state in
    let b = unsigned_abs (at c.bounds i) * 2 ^ c.fraction_bits in
    let mono = ceil_div_mono (unsigned_abs (planned +ℤ own) + b) (unsigned_abs planned + unsigned_abs own + b) (2 ^ c.fraction_bits) (pow_pos c.fraction_bits) (omega (arith, abs-add_le planned own)) in
    omega (arith, mono, next_le c state plan old i le w v, (fit c s).next i h)

-- both under other names of the row's products, its bound and the multiplier
pub move_room : (c : Numbers) (state plan : List ℤ) (row bound old was : ℤ) (i : ℕ) →
    IsController c → i < length c.bounds → unsigned_abs was ≤ unsigned_abs c.clamp → AreWithin state (state_magnitudes c) → AreWithin plan (plan_magnitudes c) →
    row ≡ list_dot (row_of c.plan_rows i) plan +ℤ list_dot (row_of c.state_rows i) state → bound ≡ at c.bounds i → old ≡ was →
    (unsigned_abs row + unsigned_abs bound * 2 ^ c.fraction_bits ≤ 2 ^ 126) × (unsigned_abs old + ceil_div (unsigned_abs row + unsigned_abs bound * 2 ^ c.fraction_bits) (2 ^ c.fraction_bits) ≤ 2 ^ 126)
move_room c state plan row bound old was i s h le w v d e o = rw (d, e, o) (row_room c state plan i s h w v, next_room c state plan was i s h le w v)
