-- A word that is a number in a range.
use Rattle.std.proofs.Common.{◌≡◌, ℕ, ◌≤◌, ℤ, pos, List, Option, Some, None, FitsSigned, arith}
use Rattle.std.specs.Prelude.{◌≤ℤ◌}
use Rattle.std.specs.Int.{w128}
use Rattle.std.specs.Fmt.{signed_decimal}
use Rattle.std.proofs.lemmas.Int.{ints}
use Rattle.command_line.specs.Words.{IsCount}

-- what was read of a word: the number that it spells, if it spells one that fits
abbrev pub IsRead : List ℕ → Option ℤ → Type 0
IsRead word read = (z : ℤ) → FitsSigned w128 z → word ≡ signed_decimal z → read ≡ Some z

-- a count in range was read
count_read : (word : List ℕ) (most n : ℕ) (read : Option ℤ) → most ≤ 4294967295 → IsRead word read → IsCount most word n → read ≡ Some (pos n)
count_read word most n read fits only k = only (pos n) (record { sfits = omega (arith, k.limit, fits) }) k.digits

pub none_read : (word : List ℕ) (most n : ℕ) → most ≤ 4294967295 → IsRead word None → IsCount most word n → ⊥
none_read word most n fits only k = let is = count_read word most n None fits only k in cc

pub other_read : (word : List ℕ) (most n : ℕ) (z : ℤ) → most ≤ 4294967295 → IsRead word (Some z) → (pos 0 ≤ℤ z → z ≤ℤ pos most → ⊥) → IsCount most word n → ⊥
other_read word most n z fits only out k =
    let is = count_read word most n (Some z) fits only k in
    let same : z ≡ pos n = cc in
    out (rw same (omega (arith, ints))) (rw same (omega (arith, ints, k.limit)))
