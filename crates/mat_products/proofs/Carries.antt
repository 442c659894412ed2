-- Sums in two words of 64 bits, and sums of products that begin with a number.
use Rattle.std.proofs.Common.{◌≡◌, ℕ, suc, ◌+◌, ◌*◌, ◌%◌, ◌^◌, ◌<◌, ℤ, pos, ◌+ℤ◌, ◌*ℤ◌, List, length, take, get_or, unsigned_abs, FitsSigned, arith}
use Rattle.std.specs.Int.{w64, w128}
use Rattle.std.proofs.lemmas.Int.{ints, fits_signed_from_abs, to_z-of_z}
use Rattle.mat_int.specs.Row.{list_dot, abs_dot}
use Rattle.mat_int.proofs.Dots.{abs-add_le, abs-dot_le, abs_dot-take_le, dot-take_suc, dot-take_more, product_fits}
use mir.Val.{bool_byte}
use lib.Dec.{ltb}

-- ---- sums
-- 1 where the low words a and l carry
abbrev pub carry : ℕ → ℕ → ℕ
carry a l = bool_byte (ltb ((a + l) % 2 ^ 64) l)

pub carry_is : (a l : ℕ) → a < 2 ^ 64 → l < 2 ^ 64 → (a + l) % 2 ^ 64 + carry a l * 2 ^ 64 ≡ a + l
carry_is a l h k = grind arith

-- the high word fits, where the whole does
pub high_fits : (z : ℤ) (s : ℕ) → s < 2 ^ 64 → FitsSigned w128 (z *ℤ pos (2 ^ 64) +ℤ pos s) → FitsSigned w64 z
high_fits z s h f = omega (arith, ints)

-- the words after the sum
pub added_whole : (h q : ℤ) (a l : ℕ) → a < 2 ^ 64 → l < 2 ^ 64 →
    (h +ℤ q +ℤ pos (carry a l)) *ℤ pos (2 ^ 64) +ℤ pos ((a + l) % 2 ^ 64) ≡ h *ℤ pos (2 ^ 64) +ℤ pos a +ℤ (q *ℤ pos (2 ^ 64) +ℤ pos l)
added_whole h q a l low le =
    let s = carry_is a l low le in
    omega (arith, ints, s)

-- ---- a number and the products up to an index
-- the next sum fits where the absolute values leave room
pub started_fits : (start : ℤ) (xs ys : List ℤ) (i : ℕ) → i < length xs → i < length ys → unsigned_abs start + abs_dot xs ys < 2 ^ 127 →
    FitsSigned w128 (start +ℤ list_dot (take i xs) (take i ys) +ℤ get_or xs i (pos 0) *ℤ get_or ys i (pos 0))
started_fits start xs ys i p q room =
    let le = abs-add_le start (list_dot (take (suc i) xs) (take (suc i) ys)) in
    let same : start +ℤ list_dot (take i xs) (take i ys) +ℤ get_or xs i (pos 0) *ℤ get_or ys i (pos 0) ≡ start +ℤ list_dot (take (suc i) xs) (take (suc i) ys) =
    omega (arith, ints, dot-take_suc xs ys i p q) in
    rw same (fits_signed_from_abs w128 _ (omega (arith, le, abs-dot_le (take (suc i) xs) (take (suc i) ys), abs_dot-take_le xs ys (suc i), room)))

-- what the loop of `narrow_dot` rests on
pub ruleset started_steps = (started_fits, dot-take_more, to_z-of_z)
