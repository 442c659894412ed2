-- What a plan entry and a multiplier are made of fits the word where the absolute values leave room.
use Rattle.std.proofs.Common.{◌≡◌, ℕ, ◌+◌, ◌*◌, ◌^◌, ◌≤◌, ℤ, pos, negsuc, ◌+ℤ◌, ◌-ℤ◌, ◌*ℤ◌, neg_ℤ, unsigned_abs, FitsSigned, arith}
use Rattle.std.specs.Int.{w128}
use Rattle.std.proofs.lemmas.Int.{ints, fits_signed_from_abs}
use Rattle.std.proofs.lemmas.Nat.{pow_pos}
use Rattle.std.proofs.Math.Nat.{div-le_self}
use Rattle.integer_algebra.specs.Division.{floor_of, ceil_div}
use Rattle.mat_int.proofs.Dots.{abs-add_le}
use Rattle.qp_model.proofs.AbsoluteLaws.{abs-shifted, abs-neg, abs-floor_le, abs-floor_le_ceil, ceil_div_mono}
use Rattle.fixed_kernel.proofs.Floors.{row_floor}

-- ---- a plan entry
pub floor_fits : (z : ℤ) (d : ℕ) → FitsSigned w128 z → FitsSigned w128 (floor_of z d)
floor_fits (pos a) d h = record { sfits = omega (arith, div-le_self a d, h.sfits) }
floor_fits (negsuc a) d h = record { sfits = omega (arith, div-le_self a d, h.sfits) }

-- what is floored, and the offset beside it
abbrev HasRoom : ℤ → ℤ → Type 0
HasRoom sum offset = unsigned_abs sum + unsigned_abs offset ≤ 2 ^ 126

outer_le : (sum offset : ℤ) (d : ℕ) → HasRoom sum offset → unsigned_abs (floor_of sum d +ℤ offset) ≤ 2 ^ 126
outer_le sum offset d room = omega (arith, abs-add_le (floor_of sum d) offset, abs-floor_le sum d, room)

pub outer_fits : (sum offset : ℤ) (d : ℕ) → HasRoom sum offset → FitsSigned w128 (floor_of sum d +ℤ offset)
outer_fits sum offset d room = fits_signed_from_abs w128 _ (omega (arith, outer_le sum offset d room))

pub minus_fits : (sum offset : ℤ) (d : ℕ) → HasRoom sum offset → FitsSigned w128 (pos 0 -ℤ (floor_of sum d +ℤ offset))
minus_fits sum offset d room =
    let z = floor_of sum d +ℤ offset in
    let same : pos 0 -ℤ z ≡ neg_ℤ z = omega (arith, ints) in
    rw same (fits_signed_from_abs w128 _ (omega (arith, abs-neg z, outer_le sum offset d room)))

-- ---- a multiplier
row_le : (row bound : ℤ) (f : ℕ) → unsigned_abs (row -ℤ bound *ℤ pos (2 ^ f)) ≤ unsigned_abs row + unsigned_abs bound * 2 ^ f
row_le row bound f =
    let b = bound *ℤ pos (2 ^ f) in
    let same : row -ℤ b ≡ row +ℤ neg_ℤ b = omega (arith, ints) in
    rw same (omega (arith, abs-add_le row (neg_ℤ b), abs-neg b, abs-shifted bound f))

pub moved_fits : (row bound : ℤ) (f : ℕ) → unsigned_abs row + unsigned_abs bound * 2 ^ f ≤ 2 ^ 126 → FitsSigned w128 (floor_of row (2 ^ f) -ℤ bound)
moved_fits row bound f room =
    rw (← row_floor row bound f) (floor_fits _ (2 ^ f) (fits_signed_from_abs w128 _ (omega (arith, row_le row bound f, room))))

pub next_fits : (row bound old : ℤ) (f : ℕ) → unsigned_abs old + ceil_div (unsigned_abs row + unsigned_abs bound * 2 ^ f) (2 ^ f) ≤ 2 ^ 126 → FitsSigned w128 (old +ℤ (floor_of row (2 ^ f) -ℤ bound))
next_fits row bound old f room =
    let z = row -ℤ bound *ℤ pos (2 ^ f) in
    let le = ceil_div_mono (unsigned_abs z) _ (2 ^ f) (pow_pos f) (row_le row bound f) in
    rw (← row_floor row bound f) (fits_signed_from_abs w128 _ (omega (arith, abs-add_le old (floor_of z (2 ^ f)), abs-floor_le_ceil z (2 ^ f) (pow_pos f), le, room)))
