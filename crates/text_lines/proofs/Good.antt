-- Lines that can be read: their words and their numbers.
use Rattle.std.proofs.Common.{◌≡◌, ℕ, ◌^◌, ◌<◌, true, ltb, ℤ, pos, negsuc, List, get_or, FitsSigned, unsigned_abs, arith}
use Rattle.std.specs.Prelude.{All, ◌≤ℤ◌}
use Rattle.std.specs.Int.{w128}
use Rattle.std.specs.List.{list_all, AllByRecursion}
use Rattle.std.proofs.lemmas.Bool.Decides.{nat_tests}
use Rattle.std.proofs.lemmas.Int.{ints}
use Rattle.std.proofs.lemmas.List.Sums.{AllPass-from_list_all}
use Rattle.std.proofs.lemmas.List.Elements.{All-from_recursion}
use Rattle.text_lines.specs.Lines.{keyed_line, IsKeyedLine}

-- ---- numbers

pub natural_fits : (n : ℕ) → n < 2 ^ 32 → FitsSigned w128 (pos n)
natural_fits n lt = record { sfits = omega arith }

pub half_word_fits : (z : ℤ) → unsigned_abs z < 2 ^ 31 → FitsSigned w128 z
half_word_fits (pos n) lt = record { sfits = omega arith }
half_word_fits (negsuc n) lt = record { sfits = omega arith }

pub half_words_fit : (zs : List ℤ) → All (λ z. unsigned_abs z < 2 ^ 31) zs → All (FitsSigned w128) zs
half_words_fit zs h k d lt = half_word_fits (get_or zs k d) (h k d lt)

pub quarter_fits : (z : ℤ) → pos 0 ≤ℤ z → z ≤ℤ pos (2 ^ 126) → FitsSigned w128 z
quarter_fits (pos n) low high = record { sfits = omega (arith, ints) }
quarter_fits (negsuc n) low high = absurd (omega (arith, ints))

-- ---- lines

-- a word of bytes above the space
pub word : (key : List ℕ) → list_all (λ b. ltb 32 b) key ≡ true → All (λ b. 32 < b) key
word key h k d lt =
    let test : ltb 32 (get_or key k d) ≡ true = AllPass-from_list_all (λ b. ltb 32 b) key h k d lt in
    grind (arith, nat_tests)

pub good_of : (key : List ℕ) (zs : List ℤ) → list_all (λ b. ltb 32 b) key ≡ true → All (FitsSigned w128) zs → IsKeyedLine (keyed_line key zs)
good_of key zs h fits = record { key = word key h; fits = fits }

pub good : (key : List ℕ) (zs : List ℤ) → list_all (λ b. ltb 32 b) key ≡ true → AllByRecursion (FitsSigned w128) zs → IsKeyedLine (keyed_line key zs)
good key zs h fits = good_of key zs h (All-from_recursion (FitsSigned w128) zs fits)
