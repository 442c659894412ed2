-- The lines of cells are their text, and a text has one list of cells.
use Rattle.std.proofs.Common.{◌≡◌, inl, inr, ◌⊎◌, ℕ, zero, suc, pos, List, [], ◌∷◌, ◌++◌, length, get_or, take, drop, map, Vec, Result, Ok, Err, refl, sym, ap, subst, ◌∙◌, append_assoc, arith}
use Rattle.std.specs.Prelude.{All, IfOk, IfErr, MatchResult, codes}
use Rattle.std.specs.List.{flat_map}
use Rattle.std.specs.declared.alloc.Global.{Global}
use Rattle.std.proofs.lemmas.List.{append-nil, take_at, drop_at, map-append}
use Rattle.number_text.specs.Lines.{text_of}
use Rattle.qp_model.specs.machine.Controller.{Numbers}
use Rattle.controller_text.specs.TextForm.{IsTextForm}
use Rattle.qp_model.specs.text.ControllerText.{controller_text}
use Rattle.text_lines.specs.Lines.{Keyed, no_line, spelled}
use Rattle.text_lines.specs.Blocks.{chained, total_rows}
use Rattle.text_lines.specs.Grammar.{IsTextOf}
use Rattle.text_lines.proofs.OneText.{text_append, one_text, no_prefix_of}
use Rattle.controller_text.specs.Lines.{keyed_lines}
use Rattle.controller_text.specs.Table.{text_table, sizes_of}
use Rattle.controller_text.specs.declared.layout.Sizes.{Sizes}
use Rattle.controller_text.specs.declared.bad_controller.BadController.{BadController}
use Rattle.controller_text.specs.declared.bad_controller.BadController.TheVariants.{Memory, Unsafe, Line}
use Rattle.controller_text.proofs.Blocks.{same_sizes, line_count}
use Rattle.controller_text.proofs.Texts.{keyed_text}
use Rattle.controller_file.specs.FirstLine.{IsEitherController}
use Rattle.controller_file.specs.AnyText.{any_numbers, IsSafe}
use Rattle.controller_file.specs.declared.any_controller.AnyController.{AnyController}
use Rattle.controller_file.proofs.AnyText.{either, one_any}
use Rattle.controller_file.proofs.Uniqueness.{one_choice}
use Rattle.cell_file.specs.Cells.{AreCells}
use Rattle.cell_file.specs.Lines.{head_line, end_line, rest_lines, cells_lines, IsCellsWhole}
use Rattle.cell_file.specs.Reading.{AreCellsOf, AreNoneOf}
use Rattle.cell_file.specs.Text.{cells_text, IsTextOfCells, IsCellsForm, IsBadCellsLine, IsCellsText, AreUnsafe}
use Rattle.cell_file.specs.Laws.{CellsHaveNoPrefix}
use Rattle.cell_file.proofs.Alikes.{version_line, size_line}
use Rattle.cell_file.proofs.Grammars.{cells_good}

-- ---- the text
chained_text : (cells : List Numbers) → text_of (map spelled (chained (map keyed_lines cells))) ≡ flat_map controller_text cells
chained_text [] = refl
chained_text (c ∷ cells) =
    ap text_of (map-append spelled (keyed_lines c) (chained (map keyed_lines cells))) ∙ text_append (map spelled (keyed_lines c)) (map spelled (chained (map keyed_lines cells)))
    ∙ (λ i. keyed_text c i ++ chained_text cells i)

pub lines_text : (cells : List Numbers) → text_of (map spelled (cells_lines cells)) ≡ cells_text cells
lines_text cells =
    let all = chained (map keyed_lines cells) in
    let rest : text_of (map spelled (rest_lines cells)) ≡ flat_map controller_text cells ++ text_of (codes "end" ∷ []) =
    ap text_of (map-append spelled all (end_line ∷ [])) ∙ text_append (map spelled all) (spelled end_line ∷ []) ∙ ap (λ (t : List ℕ). t ++ text_of (codes "end" ∷ [])) (chained_text cells) in
    text_append (spelled (head_line (length cells)) ∷ []) (map spelled (rest_lines cells)) ∙ ap (λ (t : List ℕ). text_of (spelled (head_line (length cells)) ∷ []) ++ t) rest

pub form_from : (bytes : List ℕ) → IsTextOf IsCellsWhole bytes → IsCellsForm bytes
form_from bytes t = record {
  cells = t.whole.cells;
  form = record { are = t.whole.are; text = t.text ∙ ap (λ (ls : List Keyed). text_of (map spelled ls)) (sym t.whole.lines) ∙ lines_text t.whole.cells };
}

pub form_to : (bytes : List ℕ) → IsCellsForm bytes → IsTextOf IsCellsWhole bytes
form_to bytes t = record {
  lines = cells_lines t.cells;
  whole = record { cells = t.cells; are = t.form.are; lines = refl };
  text = t.form.text ∙ sym (lines_text t.cells);
}

-- ---- one list of cells
one_cell : (c d : Numbers) → IsTextForm c → IsTextForm d → (more rest : List Keyed) → keyed_lines c ++ more ≡ keyed_lines d ++ rest → (c ≡ d) × (more ≡ rest)
one_cell c d form other more rest e =
    let first : version_line c ≡ version_line d = ap (λ (ks : List Keyed). get_or ks 0 no_line) e in
    let second : size_line c ≡ size_line d = ap (λ (ks : List Keyed). get_or ks 1 no_line) e in
    let one : pos c.version ∷ [] ≡ pos d.version ∷ [] = ap (λ (k : Keyed). k.numbers) first in
    let sizes = same_sizes c (sizes_of d) (cc one) (ap (λ (k : Keyed). k.numbers) second) in
    let long : length (keyed_lines c) ≡ length (keyed_lines d) = line_count c form ∙ ap (λ (z : Sizes). total_rows (text_table z)) sizes ∙ sym (line_count d other) in
    let lines : keyed_lines c ≡ keyed_lines d = sym (take_at (keyed_lines c) more (length (keyed_lines d)) long) ∙ ap (take (length (keyed_lines d))) e ∙ take_at (keyed_lines d) rest (length (keyed_lines d)) refl in
    let left : more ≡ rest = sym (drop_at (keyed_lines c) more (length (keyed_lines d)) long) ∙ ap (drop (length (keyed_lines d))) e ∙ drop_at (keyed_lines d) rest (length (keyed_lines d)) refl in
    (one_choice c d form other lines, left)

-- of as many cells, and lines behind those of the first
same_rest : (xs ys : List Numbers) (more : List Keyed) → All IsTextForm xs → All IsTextForm ys → length xs ≡ length ys → rest_lines xs ++ more ≡ rest_lines ys → (xs ≡ ys) × (more ≡ [])
same_rest [] [] more f g long e = (refl, ap (drop 1) e)
same_rest [] (b ∷ ys) more f g long e = absurd (omega (arith, long))
same_rest (a ∷ xs) [] more f g long e = absurd (omega (arith, long))
same_rest (a ∷ xs) (b ∷ ys) more f g long e =
    let regrouped : keyed_lines a ++ (rest_lines xs ++ more) ≡ keyed_lines b ++ rest_lines ys =
    sym (append_assoc (keyed_lines a) (rest_lines xs) more) ∙ ap (λ (ls : List Keyed). ls ++ more) (sym (append_assoc (keyed_lines a) (chained (map keyed_lines xs)) (end_line ∷ []))) ∙ e
    ∙ append_assoc (keyed_lines b) (chained (map keyed_lines ys)) (end_line ∷ []) in
    let here = one_cell a b (f 0 a (omega arith)) (g 0 b (omega arith)) (rest_lines xs ++ more) (rest_lines ys) regrouped in
    let others = same_rest xs ys more (λ i d lt. f (suc i) d (omega (arith, lt))) (λ i d lt. g (suc i) d (omega (arith, lt))) (omega (arith, long)) here.1 in
    ((λ i. here.0 i ∷ others.0 i), others.1)

head_count : (n m : ℕ) → head_line n ≡ head_line m → n ≡ m
head_count n m e = let same : pos n ∷ [] ≡ pos m ∷ [] = ap (λ (k : Keyed). k.numbers) e in cc same

same_cells : (xs ys : List Numbers) (more : List Keyed) → AreCells xs → AreCells ys → cells_lines xs ++ more ≡ cells_lines ys → (xs ≡ ys) × (more ≡ [])
same_cells xs ys more f g e =
    let long = head_count (length xs) (length ys) (ap (λ (ks : List Keyed). get_or ks 0 no_line) e) in
    same_rest xs ys more f.form g.form long (ap (drop 1) e)

pub one_list : (xs ys : List Numbers) → AreCells xs → AreCells ys → cells_lines xs ≡ cells_lines ys → xs ≡ ys
one_list xs ys f g e = (same_cells xs ys [] f g (append-nil (cells_lines xs) ∙ e)).0

pub one_cells : (bytes : List ℕ) (xs ys : List Numbers) → IsTextOfCells bytes xs → IsTextOfCells bytes ys → xs ≡ ys
one_cells bytes xs ys f g =
    let texts : text_of (map spelled (cells_lines xs)) ≡ text_of (map spelled (cells_lines ys)) = lines_text xs ∙ sym f.text ∙ g.text ∙ sym (lines_text ys) in
    one_list xs ys f.are g.are (one_text (cells_lines xs) (cells_lines ys) (cells_good xs f.are) (cells_good ys g.are) texts)

-- ---- controllers by their numbers
pub all_numbers : (P : Numbers → Type 0) (cells : List AnyController) → All (λ k. P (any_numbers k)) cells → All P (map any_numbers cells)
all_numbers P [] all i c lt = absurd (omega (arith, lt))
all_numbers P (k ∷ cells) all zero c lt = all 0 k (omega arith)
all_numbers P (k ∷ cells) all (suc i) c lt = all_numbers P cells (λ j d l. all (suc j) d (omega (arith, l))) i c (omega (arith, lt))

all_either : (cells : List AnyController) → All IsSafe cells → All IsEitherController (map any_numbers cells)
all_either cells safe = all_numbers IsEitherController cells (λ i k lt. either (get_or cells i k) (safe i k lt))

-- the numbers tell the machines
one_each : (xs ys : List AnyController) → All IsSafe xs → All IsSafe ys → map any_numbers xs ≡ map any_numbers ys → xs ≡ ys
one_each [] [] f g e = refl
one_each [] (b ∷ ys) f g e = absurd (omega (arith, ap length e))
one_each (a ∷ xs) [] f g e = absurd (omega (arith, ap length e))
one_each (a ∷ xs) (b ∷ ys) f g e =
    let here = one_any a b (f 0 a (omega arith)) (g 0 b (omega arith)) (ap (λ (cs : List Numbers). get_or cs 0 (any_numbers a)) e) in
    let others = one_each xs ys (λ i d lt. f (suc i) d (omega (arith, lt))) (λ i d lt. g (suc i) d (omega (arith, lt))) (ap (drop 1) e) in
    (λ i. here i ∷ others i)

pub one_any_cells : (bytes : List ℕ) (xs ys : List AnyController) → IsCellsText bytes xs → IsCellsText bytes ys → xs ≡ ys
one_any_cells bytes xs ys f g = one_each xs ys f.safe g.safe (one_cells bytes (map any_numbers xs) (map any_numbers ys) f.form g.form)

pub no_prefix : CellsHaveNoPrefix
no_prefix bytes more xs ys f g =
    no_prefix_of (cells_lines xs) (cells_lines ys) more (cells_good xs f.are) (cells_good ys g.are)
    (ap (λ (t : List ℕ). t ++ more) (lines_text xs ∙ sym f.text) ∙ g.text ∙ sym (lines_text ys)) (λ rest e. (same_cells xs ys rest f.are g.are (sym e)).1)

-- ---- what reading answers
-- of lines that are all of a text
module _ (bytes : List ℕ) (ls : List Keyed) (w : IsCellsWhole ls) (text : bytes ≡ text_of (map spelled ls)) where
  pub formed : IsTextOfCells bytes w.cells
  formed = record { are = w.are; text = text ∙ ap (λ (ks : List Keyed). text_of (map spelled ks)) (sym w.lines) ∙ lines_text w.cells }

  pub whole_found : (r : Result (Vec AnyController Global) BadController) → IfOk r (λ v. AreCellsOf ls v.items) → IfOk r (λ v. IsCellsText bytes v.items)
  whole_found (Ok v) h = record { form = subst (IsTextOfCells bytes) (sym (h.one w.cells w.are w.lines)) formed; safe = h.safe }
  whole_found (Err e) h = tt

  pub whole_no_line : (r : Result (Vec AnyController Global) BadController) → IfErr r (AreNoneOf ls) → (l : ℕ) → r ≡ Err (Line l) → IsBadCellsLine bytes l
  whole_no_line (Ok v) h l is = cc
  whole_no_line (Err e) (inl memory) l is = absurd (let never : ⊥ = cc in never)
  whole_no_line (Err e) (inr wide) l is = let told = wide.0 in absurd (let never : ⊥ = cc in never)

  pub whole_wide : (r : Result (Vec AnyController Global) BadController) → IfErr r (AreNoneOf ls) → r ≡ Err Unsafe → AreUnsafe bytes
  whole_wide (Ok v) h is = cc
  whole_wide (Err e) (inl memory) is = absurd (let never : ⊥ = cc in never)
  whole_wide (Err e) (inr wide) is = record { cells = w.cells; form = formed; wide = wide.1 w.cells w.are w.lines }

  pub whole_right : (r : Result (Vec AnyController Global) BadController) → IfOk r (λ v. AreCellsOf ls v.items) → IfErr r (AreNoneOf ls) → (cells : List AnyController) → IsCellsText bytes cells →
      MatchResult r (λ v. v.items ≡ cells) (λ e. e ≡ Memory)
  whole_right (Ok v) found fault cells t = one_any_cells bytes v.items cells (whole_found (Ok v) found) t
  whole_right (Err e) found (inl memory) cells t = memory
  whole_right (Err e) found (inr wide) cells t = absurd (wide.1 w.cells w.are w.lines (subst (All IsEitherController) (one_cells bytes (map any_numbers cells) w.cells t.form formed) (all_either cells t.safe)))

  pub whole_first : (r : Result (Vec AnyController Global) BadController) (l : ℕ) → IsBadCellsLine bytes l → (r ≡ Err (Line l)) ⊎ (r ≡ Err Memory)
  whole_first r l bad = absurd (bad.none (record { cells = w.cells; form = formed }))

  pub whole_sums : (r : Result (Vec AnyController Global) BadController) → IfOk r (λ v. AreCellsOf ls v.items) → IfErr r (AreNoneOf ls) → AreUnsafe bytes → (r ≡ Err Unsafe) ⊎ (r ≡ Err Memory)
  whole_sums (Ok v) found fault u = absurd (u.wide (subst (All IsEitherController) (found.one w.cells w.are w.lines ∙ one_cells bytes w.cells u.cells formed u.form) (all_either v.items found.safe)))
  whole_sums (Err e) found (inl memory) u = inr (ap Err memory)
  whole_sums (Err e) found (inr wide) u = inl (ap Err wide.0)
