-- The TOML document that a made design's text is.
use Rattle.std.proofs.Common.{◌≡◌, ℕ, ◌≤◌, suc, ℤ, pos, neg_ℤ, List, [], ◌∷◌, length, codes, Some, option_map, refl, arith}
use Rattle.std.specs.Fmt.{digits}
use Rattle.number_text.specs.Lines.{text_of}
use Rattle.toml_writer.specs.Text.{key_text}
use Rattle.toml.specs.Data.{Data, integer, array, table, Members, member, no_members}
use Rattle.toml.specs.Tables.{Document, Expression, no_nodes, close, key_value, std_table, along_header, along_dots, at_key, define}
use Rattle.toml.specs.Parse.{skip_bom, parse_document}
use Rattle.toml.proofs.ReadLines.{run}
use Rattle.design_maker.specs.declared.draws.Drawn.{Drawn}
use Rattle.design_maker.specs.Texts.{plant_rows, input_weights, cost_rows, design_lines}
use Rattle.design_maker.specs.MadeParts.{limit_rows, final_rows, input_rows}
use Rattle.design_maker.proofs.ReadsLines.{AllWrite, writes_pair, writes_header, reads_lines}
use Rattle.design_maker.proofs.WrittenValues.{items_of, rows_of, Small, AllSmall, RowsSmall, list_small, rows_small, list_written, rows_written, number_written}

abbrev pair : List ℕ → Data → Expression
pair k d = (([], k), key_value d)

abbrev header : List ℕ → Expression
header k = (([], k), std_table)

abbrev numbers : List ℤ → Data
numbers zs = array (items_of zs)

abbrev rows : List (List ℤ) → Data
rows zs = array (rows_of zs)

abbrev low : List ℤ
low = neg_ℤ (pos 16) ∷ neg_ℤ (pos 16) ∷ []

abbrev high : List ℤ
high = pos 16 ∷ pos 16 ∷ []

-- the lines
abbrev expressions : Drawn → ℕ → List Expression
expressions d stages =
    pair (codes "version") (integer (pos 1))
    ∷ pair (codes "states") (integer (pos 2))
    ∷ pair (codes "inputs") (integer (pos 2))
    ∷ pair (codes "stages") (integer (pos stages))
    ∷ header (codes "plant")
    ∷ pair (codes "den") (integer (pos 4))
    ∷ pair (codes "a") (rows (plant_rows d))
    ∷ pair (codes "b") (rows input_rows)
    ∷ header (codes "cost")
    ∷ pair (codes "den") (integer (pos 1))
    ∷ pair (codes "row_den") (integer (pos 1))
    ∷ pair (codes "input") (numbers (input_weights d))
    ∷ pair (codes "stage") (rows (cost_rows d))
    ∷ pair (codes "final") (rows [])
    ∷ header (codes "limits")
    ∷ pair (codes "den") (integer (pos 4))
    ∷ pair (codes "stage") (rows limit_rows)
    ∷ pair (codes "final") (rows final_rows)
    ∷ header (codes "box")
    ∷ pair (codes "grid") (integer (pos 4))
    ∷ pair (codes "lo") (numbers low)
    ∷ pair (codes "hi") (numbers high)
    ∷ header (codes "targets")
    ∷ pair (codes "den") (integer (pos 4))
    ∷ pair (codes "violation") (integer (pos 1))
    ∷ pair (codes "gap") (integer (pos 4))
    ∷ []

-- the document, its keys in order
abbrev pub made_document : Drawn → ℕ → Members
made_document d stages =
    member (codes "box") (table (member (codes "grid") (integer (pos 4)) (member (codes "hi") (numbers high) (member (codes "lo") (numbers low) no_members))))
    (member (codes "cost") (table (member (codes "den") (integer (pos 1))
    (member (codes "final") (rows []) (member (codes "input") (numbers (input_weights d)) (member (codes "row_den") (integer (pos 1)) (member (codes "stage") (rows (cost_rows d)) no_members))))))
    (member (codes "inputs") (integer (pos 2))
    (member (codes "limits") (table (member (codes "den") (integer (pos 4)) (member (codes "final") (rows final_rows) (member (codes "stage") (rows limit_rows) no_members))))
    (member (codes "plant") (table (member (codes "a") (rows (plant_rows d)) (member (codes "b") (rows input_rows) (member (codes "den") (integer (pos 4)) no_members))))
    (member (codes "stages") (integer (pos stages))
    (member (codes "states") (integer (pos 2))
    (member (codes "targets") (table (member (codes "den") (integer (pos 4)) (member (codes "gap") (integer (pos 4)) (member (codes "violation") (integer (pos 1)) no_members))))
    (member (codes "version") (integer (pos 1)) no_members))))))))

runs : (d : Drawn) (stages : ℕ) → option_map (λ (doc : Document). close doc.0) (run (no_nodes, []) (expressions d stages)) ≡ Some (made_document d stages)
unfolding define along_header along_dots at_key
runs d stages = refl

-- the drawn numbers are small
pub record AreSmall (d : Drawn) : Type 0 where
  pub plant : RowsSmall (plant_rows d)
  pub input : AllSmall (input_weights d)
  pub cost : RowsSmall (cost_rows d)

one_small : Small (pos 1)
one_small = omega arith

two_small : Small (pos 2)
two_small = omega arith

four_small : Small (pos 4)
four_small = omega arith

pub limits_small : RowsSmall limit_rows
limits_small = rows_small limit_rows refl

pub finals_small : RowsSmall final_rows
finals_small = rows_small final_rows refl

pub inputs_small : RowsSmall input_rows
inputs_small = rows_small input_rows refl

pub low_small : AllSmall low
low_small = list_small low refl

pub high_small : AllSmall high
high_small = list_small high refl

-- each line writes its expression
all_write : (d : Drawn) (stages : ℕ) → AreSmall d → stages ≤ 20 → AllWrite (expressions d stages) (design_lines d stages)
unfolding key_text digits
all_write d stages h s = (
  writes_pair (codes "version") (codes "1") (integer (pos 1)) refl (number_written (pos 1) one_small) (omega arith) refl,
  (
    writes_pair (codes "states") (codes "2") (integer (pos 2)) refl (number_written (pos 2) two_small) (omega arith) refl,
    (
      writes_pair (codes "inputs") (codes "2") (integer (pos 2)) refl (number_written (pos 2) two_small) (omega arith) refl,
      (
        writes_pair (codes "stages") _ (integer (pos stages)) refl (number_written (pos stages) s) (omega arith) refl,
        (
          writes_header (codes "plant") refl,
          (
            writes_pair (codes "den") (codes "4") (integer (pos 4)) refl (number_written (pos 4) four_small) (omega arith) refl,
            (
              writes_pair (codes "a") _ (rows (plant_rows d)) refl (rows_written (plant_rows d) h.plant) (omega arith) refl,
              (
                writes_pair (codes "b") (codes "[[4, 0], [0, 4]]") (rows input_rows) refl (rows_written input_rows inputs_small) (omega arith) refl,
                (
                  writes_header (codes "cost") refl,
                  (
                    writes_pair (codes "den") (codes "1") (integer (pos 1)) refl (number_written (pos 1) one_small) (omega arith) refl,
                    (
                      writes_pair (codes "row_den") (codes "1") (integer (pos 1)) refl (number_written (pos 1) one_small) (omega arith) refl,
                      (
                        writes_pair (codes "input") _ (numbers (input_weights d)) refl (list_written (input_weights d) h.input) (omega arith) refl,
                        (
                          writes_pair (codes "stage") _ (rows (cost_rows d)) refl (rows_written (cost_rows d) h.cost) (omega arith) refl,
                          (
                            writes_pair (codes "final") (codes "[]") (rows []) refl (rows_written [] tt) (omega arith) refl,
                            (
                              writes_header (codes "limits") refl,
                              (
                                writes_pair (codes "den") (codes "4") (integer (pos 4)) refl (number_written (pos 4) four_small) (omega arith) refl,
                                (
                                  writes_pair (codes "stage") _ (rows limit_rows) refl (rows_written limit_rows limits_small) (omega arith) refl,
                                  (
                                    writes_pair (codes "final") _ (rows final_rows) refl (rows_written final_rows finals_small) (omega arith) refl,
                                    (
                                      writes_header (codes "box") refl,
                                      (
                                        writes_pair (codes "grid") (codes "4") (integer (pos 4)) refl (number_written (pos 4) four_small) (omega arith) refl,
                                        (
                                          writes_pair (codes "lo") _ (numbers low) refl (list_written low low_small) (omega arith) refl,
                                          (
                                            writes_pair (codes "hi") _ (numbers high) refl (list_written high high_small) (omega arith) refl,
                                            (
                                              writes_header (codes "targets") refl,
                                              (
                                                writes_pair (codes "den") (codes "4") (integer (pos 4)) refl (number_written (pos 4) four_small) (omega arith) refl,
                                                (
                                                  writes_pair (codes "violation") (codes "1") (integer (pos 1)) refl (number_written (pos 1) one_small) (omega arith) refl,
                                                  (
                                                    writes_pair (codes "gap") (codes "4") (integer (pos 4)) refl (number_written (pos 4) four_small) (omega arith) refl,
                                                    tt,
                                                  ),
                                                ),
                                              ),
                                            ),
                                          ),
                                        ),
                                      ),
                                    ),
                                  ),
                                ),
                              ),
                            ),
                          ),
                        ),
                      ),
                    ),
                  ),
                ),
              ),
            ),
          ),
        ),
      ),
    ),
  ),
)

-- a text that begins with no mark of byte order
begins : (d : Drawn) (stages : ℕ) → skip_bom (text_of (design_lines d stages)) ≡ text_of (design_lines d stages)
unfolding skip_bom
begins d stages = refl

pub is_document : (d : Drawn) (stages : ℕ) → AreSmall d → stages ≤ 20 → parse_document (text_of (design_lines d stages)) ≡ Some (made_document d stages)
unfolding parse_document
is_document d stages h s =
    let text = text_of (design_lines d stages) in
    rw (begins d stages, reads_lines (expressions d stages) (design_lines d stages) text (no_nodes, []) (suc (length text)) (all_write d stages h s) refl (omega arith)) (runs d stages)
