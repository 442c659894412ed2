-- Texts of cells are those of a grammar of lines.
use Rattle.std.proofs.Common.{◌≡◌, ℕ, ◌-◌, ◌*◌, ◌^◌, ◌<◌, ◌≤◌, ℤ, pos, negsuc, ◌≤ℤ◌, List, [], ◌∷◌, length, get_or, map, replicate, refl, sym, ap, subst, ◌∙◌, arith}
use Rattle.std.specs.Prelude.{All, codes, ◌↔◌}
use Rattle.std.specs.List.{AllByRecursion}
use Rattle.std.proofs.lemmas.Int.{ints}
use Rattle.std.proofs.lemmas.List.{length-append, length-replicate, get_or-replicate}
use Rattle.std.proofs.lemmas.List.Elements.{All-from_recursion, recursion_from_All}
use Rattle.qp_model.specs.machine.Controller.{Numbers, FitsWord}
use Rattle.controller_text.specs.TextForm.{IsTextForm}
use Rattle.integer_algebra.specs.Sums.{at}
use Rattle.text_lines.specs.Lines.{Keyed, keyed_line, no_line, IsKeyedLine, place, place_of}
use Rattle.text_lines.proofs.Blocks.{key_is, count_is}
use Rattle.controller_file.proofs.HeadLines.{one_of}
use Rattle.text_lines.specs.Blocks.{chained}
use Rattle.text_lines.specs.Grammar.{IsBeginning, IsGrammar}
use Rattle.text_lines.proofs.Beginnings.{begins}
use Rattle.text_lines.proofs.Chained.{all_append, all_chained}
use Rattle.text_lines.proofs.Good.{natural_fits, good}
use Rattle.controller_text.specs.Lines.{keyed_lines}
use Rattle.controller_file.proofs.Blank.{blank, blank_form, blank_fits, all_same}
use Rattle.controller_text.proofs.Blocks.{few_lines}
use Rattle.controller_text.proofs.Texts.{good_lines}
use Rattle.cell_file.specs.Cells.{AreAlike, AreCells}
use Rattle.cell_file.specs.Lines.{head_line, end_line, rest_lines, cells_lines, IsCellsWhole}

-- ---- texts of blank controllers
abbrev one_blank : Numbers
one_blank = blank 1 1 1 1 1

blank_is : IsTextForm one_blank
blank_is = blank_form 1 1 1 1 1 (omega arith, omega arith) (omega arith, omega arith) (omega arith, omega arith) (omega arith, omega arith) (omega arith, omega arith)

blanks_alike : (n i : ℕ) (c : Numbers) → i < length (replicate n one_blank) → AreAlike (get_or (replicate n one_blank) 0 c) (get_or (replicate n one_blank) i c)
blanks_alike n i c lt =
    let inside : i < n = omega (arith, lt, length-replicate n one_blank) in
    let first = get_or-replicate n 0 one_blank c (omega (arith, inside)) in
    let this = get_or-replicate n i one_blank c inside in
    subst (λ (d : Numbers). AreAlike d (get_or (replicate n one_blank) i c)) (sym first) (subst (AreAlike one_blank) (sym this) (record { states = refl; inputs = refl; stages = refl; grid = refl }))

blanks_are : (n : ℕ) → 1 ≤ n → n ≤ 64 → AreCells (replicate n one_blank)
blanks_are n some few = record {
  some = omega (arith, some, length-replicate n one_blank);
  few = omega (arith, few, length-replicate n one_blank);
  form = all_same IsTextForm one_blank blank_is n;
  word = all_same FitsWord one_blank (blank_fits 1 1 1 1 1) n;
  alike = blanks_alike n;
}

-- ---- the first line
pub head_begins : (n : ℕ) → 1 ≤ n → n ≤ 64 → IsBeginning IsCellsWhole (head_line n ∷ [])
head_begins n some few = record {
  more = rest_lines (replicate n one_blank);
  whole = record { cells = replicate n one_blank; are = blanks_are n some few; lines = ap (λ (k : ℕ). head_line k ∷ rest_lines (replicate n one_blank)) (length-replicate n one_blank) };
}

pub head_is : (l : Keyed) → IsBeginning IsCellsWhole (l ∷ []) → (n : ℕ) × (l ≡ head_line n) × (1 ≤ n) × (n ≤ 64)
head_is l b = (length b.whole.cells, sym (ap (λ (ks : List Keyed). get_or ks 0 no_line) b.whole.lines), b.whole.are.some, b.whole.are.few)

none_of : (zs : List ℤ) → length zs ≡ 0 → zs ≡ []
none_of [] long = refl
none_of (z ∷ zs) long = absurd (omega arith)

pub end_is : (l : Keyed) → place_of l ≡ place (codes "end") 0 → l ≡ end_line
end_is l here = key_is l (codes "end") 0 here ∙ ap (keyed_line (codes "end")) (none_of l.numbers (count_is l (codes "end") 0 here))

natural_count : (z : ℤ) → pos 1 ≤ℤ z → z ≤ℤ pos 64 → (n : ℕ) × (z ≡ pos n) × (1 ≤ n) × (n ≤ 64)
natural_count (pos n) low high = (n, refl, omega (arith, ints, low), omega (arith, ints, high))
natural_count (negsuc n) low high = absurd (omega (arith, ints, low))

pub head_law : (l : Keyed) (T : Type 0) (z : ℤ) → place_of l ≡ place (codes "mpc-cells") 1 → z ≡ at l.numbers 0 → T ↔ ((pos 1 ≤ℤ z) × (z ≤ℤ pos 64)) → T ↔ IsBeginning IsCellsWhole (l ∷ [])
head_law l T z here is test = (λ t. from (test.0 t), λ b. test.1 (to b))
  where
    from : (pos 1 ≤ℤ z) × (z ≤ℤ pos 64) → IsBeginning IsCellsWhole (l ∷ [])
    from range =
        let n = natural_count z range.0 range.1 in
        let line : l ≡ head_line n.0 = key_is l (codes "mpc-cells") 1 here ∙ ap (keyed_line (codes "mpc-cells")) (one_of l.numbers (count_is l (codes "mpc-cells") 1 here) ∙ ap (λ (y : ℤ). y ∷ []) (sym is ∙ n.1)) in
        subst (λ (k : Keyed). IsBeginning IsCellsWhole (k ∷ [])) (sym line) (head_begins n.0 n.2 n.3)

    to : IsBeginning IsCellsWhole (l ∷ []) → (pos 1 ≤ℤ z) × (z ≤ℤ pos 64)
    to b =
        let n = head_is l b in
        let same : pos n.0 ≡ z = sym (ap (λ (k : Keyed). at k.numbers 0) n.1) ∙ sym is in
        subst (λ (y : ℤ). (pos 1 ≤ℤ y) × (y ≤ℤ pos 64)) same (omega (arith, ints, n.2), omega (arith, ints, n.3))

-- ---- the grammar
nothing : IsBeginning IsCellsWhole []
nothing = begins IsCellsWhole 0 (cells_lines (replicate 1 one_blank)) (record { cells = replicate 1 one_blank; are = blanks_are 1 (omega arith) (omega arith); lines = refl })

each_good : (cells : List Numbers) → AllByRecursion IsTextForm cells → AllByRecursion FitsWord cells → AllByRecursion (AllByRecursion IsKeyedLine) (map keyed_lines cells)
each_good [] form word = tt
each_good (c ∷ cells) form word = (recursion_from_All IsKeyedLine (keyed_lines c) (good_lines c form.0 word.0), each_good cells form.1 word.1)

pub cells_good : (cells : List Numbers) → AreCells cells → All IsKeyedLine (cells_lines cells)
cells_good cells are =
    let form = recursion_from_All IsTextForm cells are.form in
    let word = recursion_from_All FitsWord cells are.word in
    let head = good (codes "mpc-cells") (pos (length cells) ∷ []) refl (natural_fits (length cells) (omega (arith, are.few)), tt) in
    let last = good (codes "end") [] refl tt in
    All-from_recursion IsKeyedLine (cells_lines cells)
    (head, all_append IsKeyedLine (chained (map keyed_lines cells)) (end_line ∷ []) (all_chained IsKeyedLine (map keyed_lines cells) (each_good cells form word)) (last, tt))

few_chained : (cells : List Numbers) → AllByRecursion IsTextForm cells → length (chained (map keyed_lines cells)) ≤ length cells * 936
few_chained [] form = omega arith
few_chained (c ∷ cells) form = omega (arith, length-append (keyed_lines c) (chained (map keyed_lines cells)), few_lines c form.0, few_chained cells form.1)

pub cells_few : (cells : List Numbers) → AreCells cells → length (cells_lines cells) ≤ 60000
cells_few cells are =
    let few = few_chained cells (recursion_from_All IsTextForm cells are.form) in
    omega (arith, few, are.few, length-append (chained (map keyed_lines cells)) (end_line ∷ []))

few_whole : (ls : List Keyed) → IsCellsWhole ls → length ls < 2 ^ 32 - 1
few_whole ls w = omega (arith, cells_few w.cells w.are, ap length w.lines)

pub grammar : IsGrammar IsCellsWhole
grammar = record { some = nothing; each = λ ls w. subst (All IsKeyedLine) w.lines (cells_good w.cells w.are); few = few_whole }
