-- The place of the first lines of a text of cells.
use Rattle.std.proofs.Common.{◌≡◌, ℕ, ◌+◌, ◌-◌, ◌<◌, ◌≤◌, List, [], ◌∷◌, ◌++◌, length, get_or, take, drop, Option, Some, None, refl, sym, ap, subst, ◌∙◌, arith}
use Rattle.std.proofs.lemmas.List.{drop-append-le}
use Rattle.qp_model.specs.machine.Controller.{Numbers}
use Rattle.controller_text.specs.TextForm.{IsTextForm}
use Rattle.text_lines.specs.Lines.{Keyed}
use Rattle.controller_text.specs.Lines.{keyed_lines}
use Rattle.cell_file.specs.Cells.{AreCells}
use Rattle.cell_file.specs.Lines.{head_line, end_line, rest_lines, cells_lines, lines_before, IsPlace}
use Rattle.cell_file.specs.Begins.{BeginsCell, EndsAt}
use Rattle.cell_file.proofs.Chains.{at_cell, at_end, before_next}
use Rattle.cell_file.proofs.Alikes.{version_line, size_line}
use Rattle.controller_file.proofs.Again.{small_is}
use Rattle.controller_file.proofs.Blank.{blank}
use Rattle.controller_text.proofs.Blocks.{same_sizes, line_count}
use Rattle.controller_file.specs.Following.{IsAnyWhole}
use Rattle.controller_text.specs.Table.{text_table, Says}
use Rattle.controller_text.specs.declared.layout.Sizes.{Sizes}
use Rattle.integer_algebra.specs.Sums.{at}
use Rattle.std.proofs.lemmas.List.{length-map, length-drop, take-map, drop-map, take_rest}
use Rattle.text_lines.specs.Blocks.{total_rows}
use Rattle.text_lines.specs.Grammar.{IsBeginning}
use Rattle.text_lines.specs.Lines.{view, views, line_in, small, no_line}
use Rattle.text_lines.specs.declared.line.Line.{Line}
use Rattle.text_lines.proofs.Beginnings.{begins}
use Rattle.cell_file.specs.declared.place.Place.{Place}

abbrev pub blank_one : Numbers
blank_one = blank 1 1 1 1 1

-- the first lines have at least this place
pub record IsPlaceOf (cells : List Numbers) (n : ℕ) (p : Place) : Type 0 where
  pub few : p.cells ≤ length cells
  pub start : p.start ≡ lines_before cells p.cells
  pub within : p.start ≤ n

-- the number of cells, as the first line says it
pub count_is : (cells : List Numbers) (ls more : List Keyed) → 0 < length ls → AreCells cells → cells_lines cells ≡ ls ++ more → small (at (line_in ls 0) 0) ≡ length cells
count_is cells [] more some are e = absurd (omega (arith, some))
count_is cells (l ∷ ls) more some are e =
    let first : head_line (length cells) ≡ l = ap (λ (ks : List Keyed). get_or ks 0 no_line) e in
    ap (λ (k : Keyed). small (at k.numbers 0)) (sym first) ∙ small_is (length cells) (omega (arith, are.few))

-- what stands behind the whole cells
pub tail_is : (cells : List Numbers) (ls more : List Keyed) (p : Place) (d : Numbers) → cells_lines cells ≡ ls ++ more → IsPlaceOf cells (length ls) p → p.cells < length cells →
    drop p.start ls ++ more ≡ keyed_lines (get_or cells p.cells d) ++ rest_lines (drop (p.cells + 1) cells)
tail_is cells ls more p d e place lt =
    sym (drop-append-le p.start ls more place.within) ∙ ap (drop p.start) (sym e) ∙ ap (λ (n : ℕ). drop n (cells_lines cells)) place.start ∙ at_cell cells p.cells d lt

pub tail_ends : (cells : List Numbers) (ls more : List Keyed) (p : Place) → cells_lines cells ≡ ls ++ more → IsPlaceOf cells (length ls) p → p.cells ≡ length cells →
    drop p.start ls ++ more ≡ end_line ∷ []
tail_ends cells ls more p e place all =
    sym (drop-append-le p.start ls more place.within) ∙ ap (drop p.start) (sym e) ∙ ap (λ (n : ℕ). drop n (cells_lines cells)) place.start ∙ at_end cells p.cells all

-- ---- one cell more
pub place_more : (cells : List Numbers) (n : ℕ) (p : Place) (e : ℕ) (d : Numbers) → IsPlaceOf cells n p → p.cells < length cells → e ≡ p.start + length (keyed_lines (get_or cells p.cells d)) → e ≤ n →
    IsPlaceOf cells n (record { cells = p.cells + 1; start = e })
place_more cells n p e d place lt is within = record {
  few = omega (arith, lt);
  start = is ∙ ap (λ (s : ℕ). s + length (keyed_lines (get_or cells p.cells d))) place.start ∙ sym (before_next cells p.cells d lt);
  within = within;
}

pub place_stops : (cells : List Numbers) (n : ℕ) (p : Place) (d : Numbers) → IsPlaceOf cells n p → p.cells < length cells → n < p.start + length (keyed_lines (get_or cells p.cells d)) → IsPlace cells n p
place_stops cells n p d place lt short = record { few = place.few; start = place.start; within = place.within; next = λ l. omega (arith, before_next cells p.cells d lt, place.start, short) }

-- the cell that begins there
pub begins_cell : (cells : List Numbers) (ls more : List Keyed) (p : Place) → AreCells cells → cells_lines cells ≡ ls ++ more → IsPlaceOf cells (length ls) p → p.cells < length cells → BeginsCell (drop p.start ls)
begins_cell cells ls more p are e place lt = record {
  numbers = get_or cells p.cells blank_one;
  form = are.form p.cells blank_one lt;
  word = are.word p.cells blank_one lt;
  more = more;
  rest = rest_lines (drop (p.cells + 1) cells);
  lines = tail_is cells ls more p blank_one e place lt;
}

-- ---- where a controller ends
-- its first two lines
two_lines : (c : Numbers) (ls more rest : List Keyed) → 2 ≤ length ls → ls ++ more ≡ keyed_lines c ++ rest → take 2 ls ≡ version_line c ∷ size_line c ∷ []
two_lines c [] more rest two e = absurd (omega (arith, two))
two_lines c (a ∷ []) more rest two e = absurd (omega (arith, two))
two_lines c (a ∷ b ∷ ls) more rest two e =
    let first : a ≡ version_line c = ap (λ (ks : List Keyed). get_or ks 0 no_line) e in
    let second : b ≡ size_line c = ap (λ (ks : List Keyed). get_or ks 1 no_line) e in
    (λ i. first i ∷ second i ∷ [])

slice_views : (lines : List Line) (s : ℕ) → views (take (s + 2 - s) (drop s lines)) ≡ take 2 (drop s (views lines))
slice_views lines s =
    let two : s + 2 - s ≡ 2 = omega arith in
    ap (λ (n : ℕ). views (take n (drop s lines))) two ∙ sym (take-map view 2 (drop s lines)) ∙ ap (take 2) (sym (drop-map view s lines))

pub two_begin : (lines : List Line) (s : ℕ) → s + 2 ≤ length lines → BeginsCell (drop s (views lines)) → IsBeginning IsAnyWhole (views (take (s + 2 - s) (drop s lines)))
two_begin lines s long b =
    let c = b.numbers in
    let some : 2 ≤ length (drop s (views lines)) = omega (arith, length-drop s (views lines), length-map lines view, long) in
    subst (IsBeginning IsAnyWhole) (sym (slice_views lines s ∙ two_lines c (drop s (views lines)) b.more b.rest some b.lines))
    (begins IsAnyWhole 2 (keyed_lines c) (record { numbers = c; form = b.form; word = b.word; lines = refl }))

pub end_is : (lines : List Line) (s : ℕ) (z : Sizes) (count : ℕ) (c : Numbers) (more rest : List Keyed) → s + 2 ≤ length lines → Says (views (take (s + 2 - s) (drop s lines))) z → count ≡ total_rows (text_table z) →
    IsTextForm c → drop s (views lines) ++ more ≡ keyed_lines c ++ rest → count ≡ length (keyed_lines c)
end_is lines s z count c more rest long says is form e =
    let some : 2 ≤ length (drop s (views lines)) = omega (arith, length-drop s (views lines), length-map lines view, long) in
    let two = slice_views lines s ∙ two_lines c (drop s (views lines)) more rest some e in
    let said : Says (version_line c ∷ size_line c ∷ []) z = subst (λ (ks : List Keyed). Says ks z) two says in
    let same = same_sizes c z (cc (said.version (omega arith))) (said.sizes (omega arith)) in
    is ∙ ap (λ (y : Sizes). total_rows (text_table y)) (sym same) ∙ sym (line_count c form)

-- ---- as the code has them
pub tail_views : (lines : List Line) (s : ℕ) → views (take (length lines - s) (drop s lines)) ≡ drop s (views lines)
tail_views lines s = ap views (take_rest lines s) ∙ sym (drop-map view s lines)

pub cell_inside : (cells : List Numbers) (lines : List Line) (more : List Keyed) (p : Place) (k end : ℕ) → 0 < length lines → AreCells cells → cells_lines cells ≡ views lines ++ more → p.cells ≡ k →
    end ≡ small (at (line_in (views lines) 0) 0) → k < end → p.cells < length cells
cell_inside cells lines more p k end some are e counted is lt =
    omega (arith, counted, is, lt, count_is cells (views lines) more (omega (arith, some, length-map lines view)) are e)

-- what the search for the end of a cell tells
abbrev pub Told : List Line → Place → Option ℕ → Type 0
Told lines p found = (c : Numbers) (more rest : List Keyed) → IsTextForm c → drop p.start (views lines) ++ more ≡ keyed_lines c ++ rest → EndsAt (length lines) (p.start + length (keyed_lines c)) found

pub cell_after : (cells : List Numbers) (lines : List Line) (more : List Keyed) (p : Place) (found : Option ℕ) (end : ℕ) → AreCells cells → cells_lines cells ≡ views lines ++ more → IsPlaceOf cells (length (views lines)) p →
    p.cells < length cells → Told lines p found → found ≡ Some end → IsPlaceOf cells (length (views lines)) (record { cells = p.cells + 1; start = end })
cell_after cells lines more p found end are e place lt told is =
    let here = told (get_or cells p.cells blank_one) more (rest_lines (drop (p.cells + 1) cells)) (are.form p.cells blank_one lt) (tail_is cells (views lines) more p blank_one e place lt) in
    let both : (end ≡ p.start + length (keyed_lines (get_or cells p.cells blank_one))) × (p.start + length (keyed_lines (get_or cells p.cells blank_one)) ≤ length lines) =
    subst (EndsAt (length lines) (p.start + length (keyed_lines (get_or cells p.cells blank_one)))) is here in
    place_more cells (length (views lines)) p end blank_one place lt both.0 (omega (arith, both.0, both.1, length-map lines view))

pub cell_stops : (cells : List Numbers) (lines : List Line) (more : List Keyed) (p : Place) (found : Option ℕ) → AreCells cells → cells_lines cells ≡ views lines ++ more → IsPlaceOf cells (length (views lines)) p →
    p.cells < length cells → Told lines p found → found ≡ None → IsPlace cells (length (views lines)) p
cell_stops cells lines more p found are e place lt told is =
    let here = told (get_or cells p.cells blank_one) more (rest_lines (drop (p.cells + 1) cells)) (are.form p.cells blank_one lt) (tail_is cells (views lines) more p blank_one e place lt) in
    let short : length lines < p.start + length (keyed_lines (get_or cells p.cells blank_one)) = subst (EndsAt (length lines) (p.start + length (keyed_lines (get_or cells p.cells blank_one)))) is here in
    place_stops cells (length (views lines)) p blank_one place lt (omega (arith, short, length-map lines view))
