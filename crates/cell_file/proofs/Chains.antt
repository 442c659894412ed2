-- The lines of cells, one controller behind the other.
use Rattle.std.proofs.Common.{◌≡◌, ℕ, ◌+◌, ◌<◌, List, [], ◌∷◌, ◌++◌, length, get_or, take, drop, map, refl, sym, ap, ◌∙◌, append_assoc, arith}
use Rattle.std.proofs.Math.Seq.{drop-append_seam}
use Rattle.std.proofs.lemmas.List.{take-append-drop, drop_more, drop_all, length-append, take_more, map-append}
use Rattle.qp_model.specs.machine.Controller.{Numbers}
use Rattle.text_lines.specs.Lines.{Keyed}
use Rattle.text_lines.specs.Blocks.{chained}
use Rattle.controller_text.specs.Lines.{keyed_lines}
use Rattle.cell_file.specs.Lines.{end_line, rest_lines, cells_lines, lines_before}

-- ---- lists one behind the other
pub chained_append : (xs ys : List (List Keyed)) → chained (xs ++ ys) ≡ chained xs ++ chained ys
chained_append [] ys = refl
chained_append (x ∷ xs) ys = ap (λ (ls : List Keyed). x ++ ls) (chained_append xs ys) ∙ sym (append_assoc x (chained xs) (chained ys))

pub rest_append : (xs ys : List Numbers) → rest_lines (xs ++ ys) ≡ chained (map keyed_lines xs) ++ rest_lines ys
rest_append xs ys =
    ap (λ (ls : List Keyed). ls ++ end_line ∷ []) (ap chained (map-append keyed_lines xs ys) ∙ chained_append (map keyed_lines xs) (map keyed_lines ys))
    ∙ append_assoc (chained (map keyed_lines xs)) (chained (map keyed_lines ys)) (end_line ∷ [])

-- ---- the lines from a cell on
pub from_cell : (cells : List Numbers) (k : ℕ) → drop (lines_before cells k) (cells_lines cells) ≡ rest_lines (drop k cells)
from_cell cells k =
    let before = chained (map keyed_lines (take k cells)) in
    let split : rest_lines cells ≡ before ++ rest_lines (drop k cells) = ap rest_lines (sym (take-append-drop k cells)) ∙ rest_append (take k cells) (drop k cells) in
    ap (drop (length before)) split ∙ drop-append_seam before (rest_lines (drop k cells))

-- a cell, and what comes behind
pub at_cell : (cells : List Numbers) (k : ℕ) (d : Numbers) → k < length cells → drop (lines_before cells k) (cells_lines cells) ≡ keyed_lines (get_or cells k d) ++ rest_lines (drop (k + 1) cells)
at_cell cells k d lt =
    from_cell cells k ∙ ap rest_lines (drop_more cells k d lt)
    ∙ append_assoc (keyed_lines (get_or cells k d)) (chained (map keyed_lines (drop (k + 1) cells))) (end_line ∷ [])

pub at_end : (cells : List Numbers) (k : ℕ) → k ≡ length cells → drop (lines_before cells k) (cells_lines cells) ≡ end_line ∷ []
at_end cells k is = from_cell cells k ∙ ap rest_lines (drop_all k cells (omega (arith, is)))

-- ---- how many lines are before
pub before_next : (cells : List Numbers) (k : ℕ) (d : Numbers) → k < length cells → lines_before cells (k + 1) ≡ lines_before cells k + length (keyed_lines (get_or cells k d))
before_next cells k d lt =
    let this = keyed_lines (get_or cells k d) in
    let before = chained (map keyed_lines (take k cells)) in
    let all : chained (map keyed_lines (take (k + 1) cells)) ≡ before ++ (this ++ []) =
    ap (λ (cs : List Numbers). chained (map keyed_lines cs)) (take_more cells k d lt) ∙ ap chained (map-append keyed_lines (take k cells) (get_or cells k d ∷ [])) ∙ chained_append (map keyed_lines (take k cells)) (this ∷ []) in
    omega (arith, ap length all, length-append before (this ++ []), length-append this [])
