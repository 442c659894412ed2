-- What the constants and products of a controller of either machine are at most, by its absolute sums.
use Rattle.std.proofs.Common.{◌≡◌, ℕ, ◌+◌, ◌*◌, ◌^◌, ◌<◌, ◌≤◌, ℤ, pos, ◌*ℤ◌, List, length, get_or, unsigned_abs, refl, sym, ap, ◌∙◌, arith}
use Rattle.integer_algebra.specs.Sums.{at}
use Rattle.integer_algebra.proofs.SizeLaws.{amount_term}
use Rattle.mat_int.specs.Matrix.{row_of}
use Rattle.qp_model.specs.machine.Controller.{Numbers, plan_length}
use Rattle.qp_model.specs.machine.AbsoluteSums.{IsController, weighted_abs_sum, state_magnitudes, plan_magnitudes, entry_absolute_sum}
use Rattle.qp_model.proofs.AbsoluteLaws.{abs-shifted, le_times_pow}
use Rattle.overflow_check.specs.FastController.{with_last_version}
use Rattle.overflow_check.proofs.SumLaws.{SumsFit, sums_fit}
use Rattle.c_program.specs.Of.{gain_of, multiplier_top}
use Rattle.c_program.proofs.Pairs.{gains_amount}
use Rattle.c_program.proofs.Parts.{row_long}
use Rattle.c_program.proofs.Amounts.{weighted_is, scaled_amount}

pub fit_of : (c : Numbers) → IsController (with_last_version c) → SumsFit (with_last_version c) (2 ^ 126)
fit_of c h = sums_fit (with_last_version c) (2 ^ 126) h.room

-- ---- constants
own_of : Numbers → ℕ → ℕ
own_of c j = weighted_abs_sum (row_of c.state_gains j) (state_magnitudes c)

entry_split : (c : Numbers) (j : ℕ) →
    (own_of c j * 2 ^ c.step_exponent ≤ entry_absolute_sum c j) × (unsigned_abs (at c.offsets j) * 2 ^ c.fraction_bits * 2 ^ c.step_exponent ≤ entry_absolute_sum c j)
unfolding own_of
entry_split c j =
    let own = weighted_abs_sum (row_of c.state_gains j) (state_magnitudes c) in
    let size = unsigned_abs (at c.offsets j) * 2 ^ c.fraction_bits in
    let most : size * 2 ^ c.step_exponent + own * 2 ^ c.step_exponent ≡ (own + size) * 2 ^ c.step_exponent = omega arith in
    let room : (own + size) * 2 ^ c.step_exponent ≤ entry_absolute_sum c j = omega arith in
    (omega (arith, most, room), omega (arith, most, room))

pub offset_room : (c : Numbers) (j : ℕ) → IsController (with_last_version c) → j < length c.offsets →
    (unsigned_abs (at c.offsets j *ℤ pos (2 ^ c.fraction_bits)) ≤ 2 ^ 126) × (unsigned_abs (at c.offsets j *ℤ pos (2 ^ c.fraction_bits) *ℤ pos (2 ^ c.step_exponent)) ≤ 2 ^ 126)
offset_room c j h l =
    let offset = at c.offsets j *ℤ pos (2 ^ c.fraction_bits) in
    let size = unsigned_abs (at c.offsets j) * 2 ^ c.fraction_bits in
    let first : unsigned_abs offset ≡ size = abs-shifted (at c.offsets j) c.fraction_bits in
    let whole : unsigned_abs (offset *ℤ pos (2 ^ c.step_exponent)) ≡ size * 2 ^ c.step_exponent = abs-shifted offset c.step_exponent ∙ ap (λ (a : ℕ). a * 2 ^ c.step_exponent) first in
    let most : size * 2 ^ c.step_exponent ≤ 2 ^ 126 = omega (arith, (entry_split c j).1, (fit_of c h).entries j l) in
    (omega (arith, first, most, le_times_pow size c.step_exponent), omega (arith, whole, most))

pub bound_room : (c : Numbers) (i : ℕ) → IsController (with_last_version c) → i < length c.bounds → unsigned_abs (at c.bounds i *ℤ pos (2 ^ c.fraction_bits)) ≤ 2 ^ 126
bound_room c i h l = omega (arith, abs-shifted (at c.bounds i) c.fraction_bits, (fit_of c h).rows i l)

-- ---- products
pub own_room : (c : Numbers) (j : ℕ) → IsController (with_last_version c) → j < length c.offsets → weighted_abs_sum (row_of c.state_gains j) (state_magnitudes c) * 2 ^ c.step_exponent ≤ 2 ^ 126
unfolding own_of
own_room c j h l = omega (arith, (entry_split c j).0, (fit_of c h).entries j l)

pub row_room : (c : Numbers) (i : ℕ) → IsController (with_last_version c) → i < length c.bounds →
    (weighted_abs_sum (row_of c.state_rows i) (state_magnitudes c) ≤ 2 ^ 126) × (weighted_abs_sum (row_of c.plan_rows i) (plan_magnitudes c) ≤ 2 ^ 126)
row_room c i h l = (omega (arith, (fit_of c h).rows i l), omega (arith, (fit_of c h).rows i l))

pub products_fit : (xs : List ℤ) (tops : List ℕ) → length xs ≡ length tops → weighted_abs_sum xs tops ≤ 2 ^ 126 →
    (k : ℕ) → k < length xs → unsigned_abs (at xs k) * get_or tops k 0 < 2 ^ 127
products_fit xs tops e h k l =
    omega (arith, h, weighted_is (length xs) xs tops refl (sym e), amount_term k (length xs) (λ i. unsigned_abs (at xs i) * get_or tops i 0) l)

pub scaled_fit : (xs : List ℤ) (tops : List ℕ) (s : ℕ) → length xs ≡ length tops → weighted_abs_sum xs tops * 2 ^ s ≤ 2 ^ 126 →
    (k : ℕ) → k < length xs → unsigned_abs (at xs k *ℤ pos (2 ^ s)) * get_or tops k 0 < 2 ^ 127
scaled_fit xs tops s e h k l =
    omega (arith, h, scaled_amount (length xs) xs tops s refl (sym e), amount_term k (length xs) (λ i. unsigned_abs (at xs i *ℤ pos (2 ^ s)) * get_or tops i 0) l)

pub gain_room : (c : Numbers) (j i : ℕ) → IsController (with_last_version c) → j < length c.offsets → i < length c.bounds → unsigned_abs (gain_of c j i) * multiplier_top c i < 2 ^ 127
gain_room c j i h l k =
    let s = h.form.sized.shaped in
    let long = row_long c.dual_gains (plan_length c) c.rows j s.dual_gains (omega (arith, l, s.offsets)) ∙ sym s.bounds in
    omega (arith, (fit_of c h).entries j l, gains_amount c j h.form.sized.clamp_low long, amount_term i (length c.bounds) (λ i. unsigned_abs (gain_of c j i) * multiplier_top c i) k)
