-- Which line can follow in the lists of a text in form: any with the word and the count of its place.
use Rattle.std.proofs.Common.{◌≡◌, ℕ, zero, suc, ◌+◌, ◌<◌, ◌≤◌, ℤ, pos, List, [], ◌∷◌, ◌++◌, length, get_or, take, drop, replicate, map, Some, refl, sym, ap, subst, ◌∙◌, append_assoc, arith}
use Rattle.std.specs.Prelude.{All, codes, slice_get}
use Rattle.std.specs.List.{AllByRecursion}
use Rattle.std.proofs.lemmas.List.{length-map, map-append, nil_from_length, length-take-le, take-append-drop}
use Rattle.std.proofs.lemmas.List.Elements.{All-from_recursion, recursion_from_All}
use Rattle.mat_int.specs.Matrix.{Matrix}
use Rattle.qp_model.specs.machine.Controller.{Numbers, plan_length, HasShape, FitsWord}
use Rattle.controller_text.specs.TextForm.{exponent_rows, IsTextForm}
use Rattle.controller_text.specs.declared.layout.Sizes.{Sizes}
use Rattle.text_lines.specs.Lines.{Keyed, keyed_line, Fits, Place, place, place_of}
use Rattle.text_lines.specs.Blocks.{row_lines, chained}
use Rattle.controller_text.specs.Lines.{keyed_lines}
use Rattle.controller_text.specs.Table.{text_table, places, sizes_of, Says}
use Rattle.text_lines.specs.Blocks.{spread}
use Rattle.text_lines.specs.Grammar.{IsBeginning}
use Rattle.text_lines.proofs.Chained.{all_append, all_parts, map_chained}
use Rattle.text_lines.proofs.Blocks.{key_is, count_is}
use Rattle.controller_text.proofs.Blocks.{same_sizes, blocks_placed, lines_placed}
use Rattle.controller_file.proofs.Beginnings.{grown, line_is, parted}
use Rattle.controller_file.proofs.HeadLines.{own_head, own_exponents, own_box, resized_form, tail_lines, up_to, split_at, count_to}
use Rattle.controller_text.proofs.Texts.{good_lines, fits_word}
use Rattle.controller_file.specs.Following.{IsAnyWhole}

-- ---- their places

-- those of the lines after the box
abbrev tail_places : Sizes → List Place
tail_places z = spread (drop 9 (text_table z))

tail_placed : (c : Numbers) → IsTextForm c → map place_of (tail_lines c) ≡ tail_places (sizes_of c)
tail_placed c form = map_chained place_of
    (row_lines (codes "P") c.state_gains.rows ∷ (keyed_line (codes "T") c.offsets ∷ []) ∷ row_lines (codes "W") c.dual_gains.rows ∷ row_lines (codes "G") c.plan_rows.rows ∷
    row_lines (codes "E") c.state_rows.rows ∷ (keyed_line (codes "b") c.bounds ∷ []) ∷ (keyed_line (codes "end") [] ∷ []) ∷ [])
    ∙ ap (λ (ps : List (List Place)). chained (drop 9 ps)) (blocks_placed c form)

-- ---- lines in such places are lists

record Rows (key : List ℕ) (height breadth : ℕ) (ms : List Keyed) (others : List Place) : Type 0 where
  matrix : Matrix
  rest : List Keyed
  lines : ms ≡ row_lines key matrix.rows ++ rest
  shape : HasShape matrix height breadth
  places : map place_of rest ≡ others

record Split (key : List ℕ) (height breadth : ℕ) (ms : List Keyed) (others : List Place) : Type 0 where
  rows : List (List ℤ)
  rest : List Keyed
  lines : ms ≡ row_lines key rows ++ rest
  count : length rows ≡ height
  each : AllByRecursion (λ row. length row ≡ breadth) rows
  places : map place_of rest ≡ others

split_rows : (key : List ℕ) (height breadth : ℕ) (ms : List Keyed) (others : List Place) → map place_of ms ≡ replicate height (place key breadth) ++ others → Split key height breadth ms others
split_rows key zero breadth ms others e = record { rows = []; rest = ms; lines = refl; count = refl; each = tt; places = e }
split_rows key (suc height) breadth [] others e = absurd cc
split_rows key (suc height) breadth (m ∷ ms) others e =
    let first : place_of m ≡ place key breadth = ap (λ (ps : List Place). get_or ps 0 (place [] 0)) e in
    let back = split_rows key height breadth ms others (ap (drop 1) e) in
    let here = key_is m key breadth first in
    let after = back.lines in
    record {
      rows = m.numbers ∷ back.rows;
      rest = back.rest;
      lines = (λ i. here i ∷ after i);
      count = ap suc back.count;
      each = (count_is m key breadth first, back.each);
      places = back.places;
    }

rows_from : (key : List ℕ) (height breadth : ℕ) (ms : List Keyed) (others : List Place) → map place_of ms ≡ replicate height (place key breadth) ++ others → Rows key height breadth ms others
rows_from key height breadth ms others e =
    let s = split_rows key height breadth ms others e in
    record {
      matrix = record { cols = breadth; rows = s.rows };
      rest = s.rest;
      lines = s.lines;
      shape = record { rows = s.count; cols = refl; each = All-from_recursion (λ row. length row ≡ breadth) s.rows s.each };
      places = s.places;
    }

record One (key : List ℕ) (size : ℕ) (ms : List Keyed) (others : List Place) : Type 0 where
  numbers : List ℤ
  rest : List Keyed
  lines : ms ≡ keyed_line key numbers ∷ rest
  count : length numbers ≡ size
  places : map place_of rest ≡ others

one_from : (key : List ℕ) (size : ℕ) (ms : List Keyed) (others : List Place) → map place_of ms ≡ place key size ∷ others → One key size ms others
one_from key size [] others e = absurd cc
one_from key size (m ∷ ms) others e =
    let first : place_of m ≡ place key size = ap (λ (ps : List Place). get_or ps 0 (place [] 0)) e in
    record { numbers = m.numbers; rest = ms; lines = ap (λ (k : Keyed). k ∷ ms) (key_is m key size first); count = count_is m key size first; places = ap (drop 1) e }

-- lines that are there, one after the other
joined : (p w g e : List (List ℤ)) (t b none : List ℤ) (r2 r3 r4 r5 r6 r7 r8 r9 : List Keyed) → r2 ≡ row_lines (codes "P") p ++ r3 → r3 ≡ keyed_line (codes "T") t ∷ r4
    → r4 ≡ row_lines (codes "W") w ++ r5 → r5 ≡ row_lines (codes "G") g ++ r6 → r6 ≡ row_lines (codes "E") e ++ r7 → r7 ≡ keyed_line (codes "b") b ∷ r8
    → r8 ≡ keyed_line (codes "end") none ∷ r9 → length none ≡ 0 → length r9 ≡ 0
    → r2 ≡ row_lines (codes "P") p ++ (keyed_line (codes "T") t ∷ (row_lines (codes "W") w ++ (row_lines (codes "G") g ++ (row_lines (codes "E") e ++ (keyed_line (codes "b") b ∷ keyed_line (codes "end") [] ∷ [])))))
joined p w g e t b none r2 r3 r4 r5 r6 r7 r8 r9 t2 t3 t4 t5 t6 t7 t8 empty over =
    let no_numbers : none ≡ [] = nil_from_length none empty in
    let no_lines : r9 ≡ [] = nil_from_length r9 over in
    let e8 : r8 ≡ keyed_line (codes "end") [] ∷ [] = t8 ∙ (λ i. keyed_line (codes "end") (no_numbers i) ∷ no_lines i) in
    let e6 = t6 ∙ ap (λ (r : List Keyed). row_lines (codes "E") e ++ r) (t7 ∙ ap (λ (r : List Keyed). keyed_line (codes "b") b ∷ r) e8) in
    let e4 = t4 ∙ ap (λ (r : List Keyed). row_lines (codes "W") w ++ r) (t5 ∙ ap (λ (r : List Keyed). row_lines (codes "G") g ++ r) e6) in
    t2 ∙ ap (λ (r : List Keyed). row_lines (codes "P") p ++ r) (t3 ∙ ap (λ (r : List Keyed). keyed_line (codes "T") t ∷ r) e4)

-- the same head and box with these lines after them
record Remade (c : Numbers) (ms : List Keyed) : Type 0 where
  numbers : Numbers
  form : IsTextForm numbers
  lines : keyed_lines numbers ≡ up_to 2 c ++ ms

remade : (c : Numbers) (ms : List Keyed) → IsTextForm c → map place_of ms ≡ tail_places (sizes_of c) → Remade c ms
remade c ms form e =
    let nu = plan_length c in
    let m = c.rows in
    let p7 = place (codes "b") m ∷ place (codes "end") 0 ∷ [] in
    let p6 = replicate m (place (codes "E") c.states) ++ p7 in
    let p5 = replicate m (place (codes "G") nu) ++ p6 in
    let p4 = replicate nu (place (codes "W") m) ++ p5 in
    let p = rows_from (codes "P") nu c.states ms (place (codes "T") nu ∷ p4) e in
    let t = one_from (codes "T") nu p.rest p4 p.places in
    let w = rows_from (codes "W") nu m t.rest p5 t.places in
    let g = rows_from (codes "G") m nu w.rest p6 w.places in
    let r = rows_from (codes "E") m c.states g.rest p7 g.places in
    let b = one_from (codes "b") m r.rest (place (codes "end") 0 ∷ []) r.places in
    let end = one_from (codes "end") 0 b.rest [] b.places in
    let over : length end.rest ≡ 0 = sym (length-map end.rest place_of) ∙ ap length end.places in
    let lines = joined p.matrix.rows w.matrix.rows g.matrix.rows r.matrix.rows t.numbers b.numbers end.numbers ms p.rest t.rest w.rest g.rest r.rest b.rest end.rest p.lines t.lines w.lines g.lines r.lines b.lines end.lines end.count over in
    let d = record c { state_gains = p.matrix; offsets = t.numbers; dual_gains = w.matrix; plan_rows = g.matrix; state_rows = r.matrix; bounds = b.numbers } in
    record {
      numbers = d;
      form = resized_form c d form (own_head c form) (own_exponents c form) (own_box c form) (p.shape, t.count, w.shape, g.shape, r.shape, b.count);
      lines = split_at 2 d ∙ ap (λ (ls : List Keyed). up_to 2 c ++ ls) (sym lines);
    }

-- ---- the line with an index

pub record At (more : List Keyed) (x : Place) : Type 0 where
  pub first : Keyed
  pub others : List Keyed
  pub split : more ≡ first ∷ others
  pub place : place_of first ≡ x

pub line_at : (front more : List Keyed) (i : ℕ) (x : Place) → length front ≡ i → slice_get (map place_of (front ++ more)) i ≡ Some x → At more x
line_at [] [] i x len e = absurd cc
line_at [] (a ∷ more) zero x len e = record { first = a; others = more; split = refl; place = cc e }
line_at [] (a ∷ more) (suc i) x len e = absurd (omega (arith, len))
line_at (f ∷ front) more zero x len e = absurd (omega (arith, len))
line_at (f ∷ front) more (suc i) x len e = line_at front more i x (omega (arith, len)) e

pub at_line : (front more : List Keyed) (l : Keyed) (i : ℕ) → length front ≡ i → slice_get (map place_of (front ++ (l ∷ more))) i ≡ Some (place_of l)
at_line [] more l zero len = refl
at_line [] more l (suc i) len = absurd (omega (arith, len))
at_line (f ∷ front) more l zero len = absurd (omega (arith, len))
at_line (f ∷ front) more l (suc i) len = at_line front more l i (omega (arith, len))

-- ---- the sizes

pub version_is : (ls : List Keyed) (b : IsBeginning IsAnyWhole ls) (z : Sizes) → 0 < length ls → Says ls z → b.whole.numbers.version ≡ z.version
version_is ls b z lt says =
    let one : pos b.whole.numbers.version ∷ [] ≡ pos z.version ∷ [] = ap (λ (k : Keyed). k.numbers) (line_is ls b 0 lt) ∙ says.version lt in
    cc one

pub sizes_are : (ls : List Keyed) (b : IsBeginning IsAnyWhole ls) (z : Sizes) → 1 < length ls → Says ls z → sizes_of b.whole.numbers ≡ z
sizes_are ls b z lt says =
    let c = b.whole.numbers in
    let four : pos c.states ∷ pos c.inputs ∷ pos c.stages ∷ pos c.rows ∷ [] ≡ pos z.n ∷ pos z.p ∷ pos z.stages ∷ pos z.m ∷ [] = ap (λ (k : Keyed). k.numbers) (line_is ls b 1 lt) ∙ says.sizes lt in
    same_sizes c z (version_is ls b z (omega (arith, lt)) says) four

pub places_are : (ls : List Keyed) (b : IsBeginning IsAnyWhole ls) (z : Sizes) → 1 < length ls → Says ls z → map place_of (ls ++ b.more) ≡ places z
places_are ls b z lt says = ap (map place_of) (sym b.whole.lines) ∙ lines_placed b.whole.numbers b.whole.form ∙ ap places (sizes_are ls b z lt says)

-- ---- one line more

-- the numbers of lines of which one is another one
fits_swapped : (ls : List Keyed) (a l : Keyed) (more : List Keyed) (c : Numbers) → IsTextForm c → FitsWord c → keyed_lines c ≡ ls ++ (a ∷ more) → Fits l → AllByRecursion Fits (ls ++ (l ∷ more))
fits_swapped ls a l more c form word e fits =
    let good = good_lines c form word in
    let all : All Fits (keyed_lines c) = λ k d lt. (good k d lt).fits in
    let parts = all_parts Fits ls (a ∷ more) (recursion_from_All Fits (ls ++ (a ∷ more)) (subst (λ (ms : List Keyed). All Fits ms) e all)) in
    all_append Fits ls (l ∷ more) parts.0 (fits, parts.1.1)

-- where another line stands in a text in form, one with the same word and count can stand
swapped : (ls : List Keyed) (b : IsBeginning IsAnyWhole ls) (l a : Keyed) (others : List Keyed) → 8 + exponent_rows b.whole.numbers.version ≤ length ls → Fits l → b.more ≡ a ∷ others → place_of a ≡ place_of l → IsBeginning IsAnyWhole (ls ++ l ∷ [])
swapped ls b l a others le fits split place =
    let c = b.whole.numbers in
    let k = 8 + exponent_rows c.version in
    let front = drop k ls in
    let begun_lines = b.whole.lines ∙ ap (λ (ms : List Keyed). ms ++ b.more) (sym (take-append-drop k ls)) ∙ append_assoc (take k ls) front b.more in
    let begun : IsBeginning IsAnyWhole (take k ls) = record { more = front ++ b.more; whole = record { numbers = c; form = b.whole.form; word = b.whole.word; lines = begun_lines } } in
    let parts = parted (take k ls) begun (up_to 2 c) (tail_lines c) (split_at 2 c) (omega (arith, length-take-le k ls le, count_to 2 c b.whole.form (omega arith))) in
    let tail : tail_lines c ≡ front ++ (a ∷ others) = parts.1 ∙ ap (λ (ms : List Keyed). front ++ ms) split in
    let same : map place_of (front ++ (l ∷ others)) ≡ map place_of (front ++ (a ∷ others)) =
    map-append place_of front (l ∷ others) ∙ ap (λ (x : Place). map place_of front ++ (x ∷ map place_of others)) (sym place) ∙ sym (map-append place_of front (a ∷ others)) in
    let d = remade c (front ++ (l ∷ others)) b.whole.form (same ∙ sym (ap (map place_of) tail) ∙ tail_placed c b.whole.form) in
    let lines : keyed_lines d.numbers ≡ ls ++ (l ∷ others) =
    d.lines ∙ ap (λ (ms : List Keyed). ms ++ (front ++ (l ∷ others))) parts.0 ∙ sym (append_assoc (take k ls) front (l ∷ others)) ∙ ap (λ (ms : List Keyed). ms ++ (l ∷ others)) (take-append-drop k ls) in
    let all = All-from_recursion Fits (ls ++ (l ∷ others)) (fits_swapped ls a l others c b.whole.form b.whole.word (b.whole.lines ∙ ap (λ (ms : List Keyed). ls ++ ms) split) fits) in
    grown ls l d.numbers others d.form (fits_word d.numbers (subst (λ (ms : List Keyed). All Fits ms) (sym lines) all)) lines

pub list_follows : (ls : List Keyed) (l : Keyed) (z : Sizes) (b : IsBeginning IsAnyWhole ls) → 8 + exponent_rows b.whole.numbers.version ≤ length ls →
    Says ls z → Fits l → slice_get (places z) (length ls) ≡ Some (place_of l) → IsBeginning IsAnyWhole (ls ++ l ∷ [])
list_follows ls l z b le says fits h =
    let at = line_at ls b.more (length ls) (place_of l) refl (ap (λ (ps : List Place). slice_get ps (length ls)) (places_are ls b z (omega (arith, le)) says) ∙ h) in
    swapped ls b l at.first at.others le fits at.split at.place
