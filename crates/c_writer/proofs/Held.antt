-- What is held of rows, and how great it is.
use Rattle.std.proofs.Common.{◌≡◌, ℕ, ◌+◌, ◌*◌, ◌/◌, ◌^◌, ◌≤◌, ◌<◌, [], if◌then◌else◌, length, unsigned_abs, refl, arith, le_refl}
use Rattle.std.proofs.lemmas.Nat.{mul-le}
use Rattle.std.specs.Prelude.{slice_index_or}
use Rattle.qp_model.specs.machine.Controller.{Numbers}
use Rattle.qp_model.specs.machine.AbsoluteSums.{IsController, plan_magnitudes}
use Rattle.overflow_check.specs.FastMachine.{all_weights}
use Rattle.overflow_check.specs.FastController.{with_last_version, IsFastController, moved_magnitude, reached_magnitude, fast_sum_magnitude}
use Rattle.overflow_check.specs.declared.machine.Machine.{Machine}
use Rattle.overflow_check.specs.declared.machine.Machine.TheVariants.{Plain, Accelerated}
use Rattle.overflow_check.proofs.Greatest.{fast-parts, le-greatest}
use Rattle.c_language.specs.Needed.{left_in}
use Rattle.c_program.specs.Of.{zero_statements, is_row_needed, is_needed}
use Rattle.c_program.specs.ByMachine.{sizes_for, plans_for}
use Rattle.c_writer.specs.Measured.{held_family}
use Rattle.c_writer.specs.declared.measured.Held.{Held}
use Rattle.c_writer.specs.declared.measured.Held.TheVariants.{Planned, Kept, Added, Near}
use Rattle.c_writer.proofs.Rooms.{fit_of}

-- it is needed where the row is
pub held_part : (h : Held) (c : Numbers) (i : ℕ) → left_in (is_needed c) (zero_statements (held_family h) i) ≡ (if is_row_needed c i then zero_statements (held_family h) i else [])
held_part Planned c i = refl
held_part Kept c i = refl
held_part Added c i = refl
held_part Near c i = refl

-- ---- of an accelerated controller
pub fast_moved_room : (c : Numbers) (i : ℕ) → IsFastController c → i < length c.bounds → moved_magnitude c i ≤ 2 ^ 126
fast_moved_room c i h l = omega (arith, h.room, fast-parts c, le-greatest (moved_magnitude c) (length c.bounds) i l)

pub fast_sum_room : (c : Numbers) (j : ℕ) → IsFastController c → j < length c.offsets → fast_sum_magnitude c j ≤ 2 ^ 126
fast_sum_room c j h l = omega (arith, h.room, fast-parts c, le-greatest (fast_sum_magnitude c) (length c.offsets) j l)

pub reached_room : (c : Numbers) → IsFastController c → reached_magnitude c ≤ 2 ^ 126
reached_room c h = omega (arith, h.room, fast-parts c)

-- the weights of 1 to 65534 steps
pub weights_fit : (n : ℕ) → 1 ≤ n → n ≤ 65534 → (2 ≤ all_weights n) × (n * (n + 3) < 2 ^ 32) × (all_weights n ≡ n * (n + 3) / 2)
unfolding all_weights
weights_fit n some few =
    let low : 4 ≤ n * (n + 3) = mul-le 1 4 n (n + 3) some (omega (arith, some)) in
    let high : n * (n + 3) ≤ 65534 * 65537 = mul-le n (n + 3) 65534 65537 few (omega (arith, few)) in
    (omega (arith, low), omega (arith, high), refl)

pub twice_clamp_room : (c : Numbers) → IsFastController c → 2 * unsigned_abs c.clamp ≤ 2 ^ 126
twice_clamp_room c h =
    let twice = 2 * unsigned_abs c.clamp in
    let some = (weights_fit c.steps h.form.sized.steps.0 h.form.sized.steps.1).0 in
    omega (arith, reached_room c h, mul-le twice 1 twice (all_weights c.steps) (le_refl twice) (omega (arith, some)))

-- ---- sums of either machine's plans
pub plans_times : (m : Machine) (c : Numbers) (j : ℕ) → plans_for m c * slice_index_or (plan_magnitudes c) j 0 ≡ (sizes_for m c).sum j
plans_times Plain c j = refl
plans_times Accelerated c j = refl

pub plans_room : (m : Machine) (c : Numbers) (j : ℕ) → IsController (with_last_version c) → (m ≡ Accelerated → IsFastController c) → j < length c.offsets →
    plans_for m c * slice_index_or (plan_magnitudes c) j 0 ≤ 2 ^ 126
plans_room Plain c j sound fast l = (fit_of c sound).sums j l
plans_room Accelerated c j sound fast l = fast_sum_room c j (fast refl) l
