use Rattle.std.proofs.Common.{◌≡◌, ◌∙◌, ◌++◌, ℕ, ℤ, List, [], get_or, map, FitsSigned, refl, ap, sym, subst, rules}
use Rattle.std.specs.Prelude.{All, Result, Ok, Err, OnOk}
use Rattle.std.specs.Int.{w128}
use Rattle.std.proofs.lemmas.List.Elements.{All-map}
use Rattle.qp_model.specs.machine.Controller.{Numbers, numbers}
use Rattle.number_text.specs.Lines.{line_of, text_of}
use Rattle.text_lines.specs.Lines.{Keyed, keyed_line, spelled, Fits}
use Rattle.text_lines.specs.Blocks.{row_lines}
use Rattle.controller_text.specs.Lines.{line_blocks}
use Rattle.controller_text.specs.Table.{sizes_of, block_at}
use Rattle.controller_text.proofs.Texts.{spelled_rows}
use Rattle.controller_text.specs.BlockPlace.{place_in_table}
use Rattle.controller_text.specs.declared.block.Block.{Block}
use Rattle.controller_text.proofs.writer.push_block.Goals as goal

-- the lines of the block of rows, whatever its word is called
rows_are : (n : Numbers) (block : Block) (k : ℕ) (key : List ℕ) (rows : List (List ℤ)) → place_in_table block ≡ k → key ≡ (block_at (sizes_of n) (place_in_table block)).0
    → get_or (line_blocks n) k [] ≡ row_lines (block_at (sizes_of n) k).0 rows → get_or (line_blocks n) (place_in_table block) [] ≡ row_lines key rows
rows_are n block k key rows e f there = ap (λ (j : ℕ). get_or (line_blocks n) j []) e ∙ there ∙ ap (λ (s : List ℕ). row_lines s rows) (sym (f ∙ ap (λ (j : ℕ). (block_at (sizes_of n) j).0) e))

rows_text : {A E : Type 0} (r : Result A E) (t u key : List ℕ) (rows : List (List ℤ)) (ls : List Keyed) → ls ≡ row_lines key rows → OnOk r (u ≡ t ++ text_of (map (line_of key) rows)) → OnOk r (u ≡ t ++ text_of (map spelled ls))
rows_text r t u key rows ls e h = subst (λ (lines : List (List ℕ)). OnOk r (u ≡ t ++ text_of lines)) (sym (ap (map spelled) e ∙ spelled_rows key rows)) h

rows_word : {A E : Type 0} (r : Result A E) (key : List ℕ) (rows : List (List ℤ)) (ls : List Keyed) → ls ≡ row_lines key rows → All (All (FitsSigned w128)) rows → OnOk r (All Fits ls)
rows_word (Err f) key rows ls e h = tt
rows_word (Ok a) key rows ls e h = subst (λ (ks : List Keyed). All Fits ks) (sym e) (All-map Fits (keyed_line key) rows h)

pub returns-in-StateGains-clause-text : goal.returns-in-StateGains-clause-text
returns-in-StateGains-clause-text c = rows_text c.push_rows.result _ _ _ _ _ (rows_are (numbers c.args.parts.now) c.args.block 9 _ _ (ap place_in_table c.in-StateGains.is) c.requires refl) c.push_rows.ensures.text

pub returns-in-StateGains-clause-word : goal.returns-in-StateGains-clause-word
returns-in-StateGains-clause-word c = rows_word c.push_rows.result _ _ _ (rows_are (numbers c.args.parts.now) c.args.block 9 _ _ (ap place_in_table c.in-StateGains.is) c.requires refl) c.push_rows.ensures.word

pub returns-in-DualGains-clause-text : goal.returns-in-DualGains-clause-text
returns-in-DualGains-clause-text c = rows_text c.push_rows-in-DualGains.result _ _ _ _ _ (rows_are (numbers c.args.parts.now) c.args.block 11 _ _ (ap place_in_table c.in-DualGains.is) c.requires refl) c.push_rows-in-DualGains.ensures.text

pub returns-in-DualGains-clause-word : goal.returns-in-DualGains-clause-word
returns-in-DualGains-clause-word c = rows_word c.push_rows-in-DualGains.result _ _ _ (rows_are (numbers c.args.parts.now) c.args.block 11 _ _ (ap place_in_table c.in-DualGains.is) c.requires refl) c.push_rows-in-DualGains.ensures.word

pub returns-in-PlanRows-clause-text : goal.returns-in-PlanRows-clause-text
returns-in-PlanRows-clause-text c = rows_text c.push_rows-in-PlanRows.result _ _ _ _ _ (rows_are (numbers c.args.parts.now) c.args.block 12 _ _ (ap place_in_table c.in-PlanRows.is) c.requires refl) c.push_rows-in-PlanRows.ensures.text

pub returns-in-PlanRows-clause-word : goal.returns-in-PlanRows-clause-word
returns-in-PlanRows-clause-word c = rows_word c.push_rows-in-PlanRows.result _ _ _ (rows_are (numbers c.args.parts.now) c.args.block 12 _ _ (ap place_in_table c.in-PlanRows.is) c.requires refl) c.push_rows-in-PlanRows.ensures.word

pub returns-in-StateRows-clause-text : goal.returns-in-StateRows-clause-text
returns-in-StateRows-clause-text c = rows_text c.push_rows-in-StateRows.result _ _ _ _ _ (rows_are (numbers c.args.parts.now) c.args.block 13 _ _ (ap place_in_table c.in-StateRows.is) c.requires refl) c.push_rows-in-StateRows.ensures.text

pub returns-in-StateRows-clause-word : goal.returns-in-StateRows-clause-word
returns-in-StateRows-clause-word c = rows_word c.push_rows-in-StateRows.result _ _ _ (rows_are (numbers c.args.parts.now) c.args.block 13 _ _ (ap place_in_table c.in-StateRows.is) c.requires refl) c.push_rows-in-StateRows.ensures.word

pub returns-in-Exponents-clause-text : goal.returns-in-Exponents-clause-text
returns-in-Exponents-clause-text c = search rules

pub returns-in-Exponents-clause-word : goal.returns-in-Exponents-clause-word
returns-in-Exponents-clause-word c = search rules
