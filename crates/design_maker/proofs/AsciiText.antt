-- A made design's text is ASCII.
use Rattle.std.proofs.Common.{◌≡◌, ℕ, zero, suc, ◌<◌, ◌≤◌, ℤ, pos, negsuc, List, [], ◌∷◌, ◌++◌, length, map, codes, Bool, true, ◌&&◌, nat_lt, refl, arith, eq-eqb, lit<}
use Rattle.std.specs.Str.{IsAscii}
use Rattle.std.specs.Str.Lossy.{utf8_valid_len}
use Rattle.std.specs.Fmt.{decimal, signed_decimal}
use Rattle.std.proofs.lemmas.Bool.{and_parts}
use Rattle.std.proofs.lemmas.Bool.Decides.{nat_tests}
use Rattle.std.proofs.lemmas.Fmt.{IsAscii-signed}
use Rattle.std.proofs.lemmas.Str.{IsUtf8-from_ascii, utf8_valid_len-IsUtf8}
use Rattle.number_text.specs.Lines.{text_of}
use Rattle.toml.specs.Parse.{parse_document}
use Rattle.design_files.specs.Document.{document_of}
use Rattle.design_maker.specs.declared.draws.Drawn.{Drawn}
use Rattle.design_maker.specs.Texts.{other_lines, bracketed, list_text, rows_text, plant_rows, input_weights, cost_rows, design_lines}
use Rattle.design_maker.proofs.WrittenValues.{Small, AllSmall, RowsSmall}
use Rattle.design_maker.proofs.MadeDocument.{AreSmall}

abbrev Ascii : List ℕ → Type 0
Ascii [] = Unit {0}
Ascii (c ∷ cs) = (c < 128) × Ascii cs

abbrev AllAscii : List (List ℕ) → Type 0
AllAscii [] = Unit {0}
AllAscii (w ∷ ws) = Ascii w × AllAscii ws

abbrev is_ascii : List ℕ → Bool
is_ascii [] = true
is_ascii (c ∷ cs) = nat_lt c 128 && is_ascii cs

one_ascii : (c : ℕ) → nat_lt c 128 ≡ true → c < 128
one_ascii c h = grind (arith, nat_tests)

tested : (cs : List ℕ) → is_ascii cs ≡ true → Ascii cs
tested [] h = tt
tested (c ∷ cs) h = let (first, rest) = and_parts (nat_lt c 128) (is_ascii cs) h in (one_ascii c first, tested cs rest)

joined : (a b : List ℕ) → Ascii a → Ascii b → Ascii (a ++ b)
joined [] b h k = k
joined (c ∷ a) b h k = (h.0, joined a b h.1 k)

-- by indices
by_index : (cs : List ℕ) → Ascii cs → IsAscii cs
by_index [] h i = omega arith
by_index (c ∷ cs) h zero = h.0
by_index (c ∷ cs) h (suc i) = by_index cs h.1 i

from_indices : (cs : List ℕ) → IsAscii cs → Ascii cs
from_indices [] h = tt
from_indices (c ∷ cs) h = (h 0, from_indices cs (λ i. h (suc i)))

-- ---- numbers and lists
number_ascii : (z : ℤ) → Small z → Ascii (signed_decimal z)
number_ascii (pos n) h = from_indices (signed_decimal (pos n)) (IsAscii-signed (pos n) (omega (arith, h)))
number_ascii (negsuc n) h = from_indices (signed_decimal (negsuc n)) (IsAscii-signed (negsuc n) (omega (arith, h)))

others_ascii : (ws : List (List ℕ)) → AllAscii ws → Ascii (other_lines ws)
others_ascii [] h = tt
others_ascii (w ∷ ws) h = (lit< tt, (lit< tt, joined w (other_lines ws) h.0 (others_ascii ws h.1)))

bracketed_ascii : (ws : List (List ℕ)) → AllAscii ws → Ascii (bracketed ws)
bracketed_ascii [] h = tested (codes "[]") refl
bracketed_ascii (w ∷ ws) h = (lit< tt, joined (w ++ other_lines ws) (codes "]") (joined w (other_lines ws) h.0 (others_ascii ws h.1)) (tested (codes "]") refl))

words_ascii : (zs : List ℤ) → AllSmall zs → AllAscii (map signed_decimal zs)
words_ascii [] h = tt
words_ascii (z ∷ zs) h = (number_ascii z h.0, words_ascii zs h.1)

list_ascii : (zs : List ℤ) → AllSmall zs → Ascii (list_text zs)
list_ascii zs h = bracketed_ascii (map signed_decimal zs) (words_ascii zs h)

lists_ascii : (rows : List (List ℤ)) → RowsSmall rows → AllAscii (map list_text rows)
lists_ascii [] h = tt
lists_ascii (row ∷ rows) h = (list_ascii row h.0, lists_ascii rows h.1)

rows_ascii : (rows : List (List ℤ)) → RowsSmall rows → Ascii (rows_text rows)
rows_ascii rows h = bracketed_ascii (map list_text rows) (lists_ascii rows h)

-- ---- lines
lines_ascii : (lines : List (List ℕ)) → AllAscii lines → Ascii (text_of lines)
lines_ascii [] h = tt
lines_ascii (line ∷ lines) h = joined (line ++ codes "\n") (text_of lines) (joined line (codes "\n") h.0 (tested (codes "\n") refl)) (lines_ascii lines h.1)

design_ascii : (d : Drawn) (stages : ℕ) → AreSmall d → stages ≤ 20 → AllAscii (design_lines d stages)
design_ascii d stages h s = (
  tested (codes "version = 1") refl,
  (
    tested (codes "states = 2") refl,
    (
      tested (codes "inputs = 2") refl,
      (
        joined (codes "stages = ") (decimal stages) (tested (codes "stages = ") refl) (number_ascii (pos stages) s),
        (
          tested (codes "[plant]") refl,
          (
            tested (codes "den = 4") refl,
            (
              joined (codes "a = ") (rows_text (plant_rows d)) (tested (codes "a = ") refl) (rows_ascii (plant_rows d) h.plant),
              (
                tested (codes "b = [[4, 0], [0, 4]]") refl,
                (
                  tested (codes "[cost]") refl,
                  (
                    tested (codes "den = 1") refl,
                    (
                      tested (codes "row_den = 1") refl,
                      (
                        joined (codes "input = ") (list_text (input_weights d)) (tested (codes "input = ") refl) (list_ascii (input_weights d) h.input),
                        (
                          joined (codes "stage = ") (rows_text (cost_rows d)) (tested (codes "stage = ") refl) (rows_ascii (cost_rows d) h.cost),
                          (
                            tested (codes "final = []") refl,
                            (
                              tested (codes "[limits]") refl,
                              (
                                tested (codes "den = 4") refl,
                                (
                                  tested (codes "stage = [[0, 0, 4, 0, 4], [0, 0, -4, 0, 4], [0, 0, 0, 4, 4], [0, 0, 0, -4, 4], [4, 0, 0, 0, 5], [-4, 0, 0, 0, 5], [0, 4, 0, 0, 5], [0, -4, 0, 0, 5]]") refl,
                                  (
                                    tested (codes "final = [[4, 0, 5], [-4, 0, 5], [0, 4, 5], [0, -4, 5]]") refl,
                                    (
                                      tested (codes "[box]") refl,
                                      (
                                        tested (codes "grid = 4") refl,
                                        (
                                          tested (codes "lo = [-16, -16]") refl,
                                          (
                                            tested (codes "hi = [16, 16]") refl,
                                            (
                                              tested (codes "[targets]") refl,
                                              (
                                                tested (codes "den = 4") refl,
                                                (
                                                  tested (codes "violation = 1") refl,
                                                  (
                                                    tested (codes "gap = 4") refl,
                                                    tt,
                                                  ),
                                                ),
                                              ),
                                            ),
                                          ),
                                        ),
                                      ),
                                    ),
                                  ),
                                ),
                              ),
                            ),
                          ),
                        ),
                      ),
                    ),
                  ),
                ),
              ),
            ),
          ),
        ),
      ),
    ),
  ),
)

-- so it is the document that its bytes are
pub same_document : (d : Drawn) (stages : ℕ) → AreSmall d → stages ≤ 20 → document_of (text_of (design_lines d stages)) ≡ parse_document (text_of (design_lines d stages))
same_document d stages h s =
    let text = text_of (design_lines d stages) in
    let all = by_index text (lines_ascii (design_lines d stages) (design_ascii d stages h s)) in
    rw (eq-eqb (utf8_valid_len text) (length text) (utf8_valid_len-IsUtf8 text (IsUtf8-from_ascii text all))) refl
