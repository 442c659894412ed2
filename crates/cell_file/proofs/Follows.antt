-- A line can follow where it has its place and its controller is like the first.
use Rattle.std.proofs.Common.{◌≡◌, inl, inr, ℕ, zero, suc, ◌+◌, ◌-◌, ◌<◌, ◌≤◌, List, [], ◌∷◌, ◌++◌, length, get_or, take, drop, map, replicate, refl, sym, ap, subst, ◌∙◌, append_assoc, arith}
use Rattle.std.specs.Prelude.{All, ◌↔◌}
use Rattle.std.proofs.Math.Seq.{take-append_seam}
use Rattle.std.proofs.lemmas.Bool.{cases_lt}
use Rattle.std.proofs.lemmas.List.{take-append-drop, take-append-le, length-append, length-take-le, length-drop, length-replicate, get_or_append_left, get_or-append-add, get_or-replicate, get_or_default, drop-append-le, drop_all, append-nil}
use Rattle.integer_algebra.specs.Sums.{at}
use Rattle.std.proofs.lemmas.List.Elements.{All-take}
use Rattle.qp_model.specs.machine.Controller.{Numbers, FitsWord}
use Rattle.controller_text.specs.TextForm.{IsTextForm}
use Rattle.text_lines.specs.Lines.{Keyed, no_line, line_in, small}
use Rattle.text_lines.specs.Blocks.{chained}
use Rattle.text_lines.specs.Grammar.{IsBeginning}
use Rattle.controller_text.specs.Lines.{keyed_lines}
use Rattle.controller_file.specs.Following.{IsAnyWhole}
use Rattle.text_lines.proofs.Beginnings.{grown}
use Rattle.controller_file.proofs.Blank.{all_same}
use Rattle.cell_file.specs.Cells.{AreAlike, AreCells}
use Rattle.cell_file.specs.Alike.{IsAlikeLine}
use Rattle.cell_file.specs.Lines.{head_line, end_line, rest_lines, cells_lines, lines_before, IsCellsWhole, IsPlace}
use Rattle.cell_file.specs.declared.place.Place.{Place}
use Rattle.cell_file.proofs.Chains.{rest_append, at_cell, before_next}
use Rattle.cell_file.proofs.Places.{blank_one, IsPlaceOf, count_is, tail_is, tail_ends}
use Rattle.cell_file.proofs.Alikes.{alike_line, goes_alike}

-- ---- the first cells as they are, and all others this controller
abbrev filled : List Numbers → ℕ → Numbers → List Numbers
filled cells k d = take k cells ++ replicate (length cells - k) d

filled_long : (cells : List Numbers) (k : ℕ) (d : Numbers) → k ≤ length cells → length (filled cells k d) ≡ length cells
filled_long cells k d le = omega (arith, length-append (take k cells) (replicate (length cells - k) d), length-take-le k cells le, length-replicate (length cells - k) d, le)

all_append : (P : Numbers → Type 0) (xs ys : List Numbers) → All P xs → All P ys → All P (xs ++ ys)
all_append P xs ys first second i c lt = elim (cases_lt i (length xs)) [
  | inl l ↦ subst P (sym (get_or_append_left xs ys c i l)) (first i c l)
  | inr le ↦
      let place : length xs + (i - length xs) ≡ i = omega (arith, le) in
      subst P (sym (get_or-append-add xs ys (i - length xs) c) ∙ ap (λ (n : ℕ). get_or (xs ++ ys) n c) place) (second (i - length xs) c (omega (arith, lt, le, length-append xs ys)))
]

all_filled : (P : Numbers → Type 0) (cells : List Numbers) (k : ℕ) (d : Numbers) → All P cells → P d → All P (filled cells k d)
all_filled P cells k d all here = all_append P (take k cells) (replicate (length cells - k) d) (All-take P k cells all) (all_same P d here (length cells - k))

-- d is like the first where that stays
abbrev pub IsLikeFirst : List Numbers → ℕ → Numbers → Type 0
IsLikeFirst cells k d = 0 < k → (c : Numbers) → AreAlike (get_or cells 0 c) d

same_alike : (c : Numbers) → AreAlike c c
same_alike c = record { states = refl; inputs = refl; stages = refl; grid = refl }

first_of : (cells : List Numbers) (k : ℕ) (d c : Numbers) → k < length cells → IsLikeFirst cells k d → AreAlike (get_or (filled cells k d) 0 c) d
first_of [] k d c lt like = absurd (omega (arith, lt))
first_of (x ∷ cells) zero d c lt like = subst (λ (e : Numbers). AreAlike e d) (sym (get_or-replicate (length (x ∷ cells) - 0) 0 d c (omega arith))) (same_alike d)
first_of (x ∷ cells) (suc k) d c lt like = like (omega arith) c

-- the first of them is like each that stays
alike_kept : (cells : List Numbers) (k : ℕ) (d c : Numbers) → k < length cells → AreCells cells → All (AreAlike (get_or (filled cells k d) 0 c)) (take k cells)
alike_kept cells zero d c lt are = λ i x l. absurd (omega (arith, l))
alike_kept [] (suc k) d c lt are = absurd (omega (arith, lt))
alike_kept (x ∷ cells) (suc k) d c lt are = All-take (AreAlike x) (suc k) (x ∷ cells) (λ i y l. are.alike i y l)

alike_filled : (cells : List Numbers) (k : ℕ) (d c : Numbers) → k < length cells → AreCells cells → IsLikeFirst cells k d → All (AreAlike (get_or (filled cells k d) 0 c)) (filled cells k d)
alike_filled cells k d c lt are like =
    all_append (AreAlike (get_or (filled cells k d) 0 c)) (take k cells) (replicate (length cells - k) d) (alike_kept cells k d c lt are)
    (all_same (AreAlike (get_or (filled cells k d) 0 c)) d (first_of cells k d c lt like) (length cells - k))

filled_are : (cells : List Numbers) (k : ℕ) (d : Numbers) → k < length cells → AreCells cells → IsTextForm d → FitsWord d → IsLikeFirst cells k d → AreCells (filled cells k d)
filled_are cells k d lt are form word like =
    let long = filled_long cells k d (omega (arith, lt)) in
    record {
      some = omega (arith, long, are.some);
      few = omega (arith, long, are.few);
      form = all_filled IsTextForm cells k d are.form form;
      word = all_filled FitsWord cells k d are.word word;
      alike = λ i c l. alike_filled cells k d c lt are like i c l;
    }

-- ---- with a line more
-- the lines of whole cells
kept_lines : (cells : List Numbers) (ls more : List Keyed) (p : Place) → cells_lines cells ≡ ls ++ more → IsPlaceOf cells (length ls) p → take p.start ls ≡ head_line (length cells) ∷ chained (map keyed_lines (take p.cells cells))
kept_lines cells ls more p e place =
    let before = chained (map keyed_lines (take p.cells cells)) in
    let split : rest_lines cells ≡ before ++ rest_lines (drop p.cells cells) = ap rest_lines (sym (take-append-drop p.cells cells)) ∙ rest_append (take p.cells cells) (drop p.cells cells) in
    sym (take-append-le p.start ls more place.within) ∙ ap (take p.start) (sym e) ∙ ap (λ (n : ℕ). take n (cells_lines cells)) place.start
    ∙ ap (λ (ks : List Keyed). head_line (length cells) ∷ take (length before) ks) split ∙ ap (λ (ks : List Keyed). head_line (length cells) ∷ ks) (take-append_seam before (rest_lines (drop p.cells cells)))

some_left : (n k : ℕ) → k < n → (j : ℕ) × (n - k ≡ suc j)
some_left n k lt = (n - k - 1, omega (arith, lt))

-- a controller that begins behind the whole cells, and goes on with this line
pub goes_on : (cells : List Numbers) (ls more : List Keyed) (p : Place) (l : Keyed) (d : Numbers) (m : List Keyed) → AreCells cells → cells_lines cells ≡ ls ++ more → IsPlaceOf cells (length ls) p →
    p.cells < length cells → IsTextForm d → FitsWord d → IsLikeFirst cells p.cells d → keyed_lines d ≡ drop p.start ls ++ l ∷ m → IsBeginning IsCellsWhole (ls ++ l ∷ [])
goes_on cells ls more p l d m are e place lt form word like lines =
    let k = p.cells in
    let new = filled cells k d in
    let left = some_left (length cells) k lt in
    let others = rest_lines (replicate left.0 d) in
    let front = head_line (length cells) ∷ chained (map keyed_lines (take k cells)) in
    let tail = drop p.start ls in
    let rest : rest_lines (replicate (length cells - k) d) ≡ keyed_lines d ++ others =
    ap (λ (n : ℕ). rest_lines (replicate n d)) left.1 ∙ append_assoc (keyed_lines d) (chained (map keyed_lines (replicate left.0 d))) (end_line ∷ []) in
    let all : cells_lines new ≡ front ++ (keyed_lines d ++ others) =
    (λ i. head_line (filled_long cells k d (omega (arith, lt)) i) ∷ rest_lines new)
    ∙ ap (λ (ks : List Keyed). head_line (length cells) ∷ ks) (rest_append (take k cells) (replicate (length cells - k) d) ∙ ap (λ (ks : List Keyed). chained (map keyed_lines (take k cells)) ++ ks) rest) in
    let mine : ls ≡ front ++ tail = sym (take-append-drop p.start ls) ∙ ap (λ (ks : List Keyed). ks ++ tail) (kept_lines cells ls more p e place) in
    record {
      more = m ++ others;
      whole = record {
        cells = new;
        are = filled_are cells k d lt are form word like;
        lines = all ∙ ap (λ (ks : List Keyed). front ++ (ks ++ others)) lines ∙ ap (λ (ks : List Keyed). front ++ ks) (append_assoc tail (l ∷ m) others)
            ∙ sym (append_assoc front tail (l ∷ (m ++ others))) ∙ ap (λ (ks : List Keyed). ks ++ (l ∷ (m ++ others))) (sym mine) ∙ sym (append_assoc ls (l ∷ []) (m ++ others));
      };
    }

-- ---- lists with which others begin
front : (ys rest xs more : List Keyed) → ys ++ rest ≡ xs ++ more → length ys ≤ length xs → (r : List Keyed) × (xs ≡ ys ++ r)
front [] rest xs more e le = (xs, refl)
front (a ∷ ys) rest [] more e le = absurd (omega (arith, le))
front (a ∷ ys) rest (x ∷ xs) more e le =
    let others = front ys rest xs more (ap (drop 1) e) (omega (arith, le)) in
    let first : x ≡ a = sym (ap (λ (ks : List Keyed). get_or ks 0 no_line) e) in
    (others.0, (λ i. first i ∷ others.1 i))

inside : (tail : List Keyed) (l : Keyed) (more all rest : List Keyed) → tail ++ l ∷ more ≡ all ++ rest → length tail < length all → (m : List Keyed) × (all ≡ tail ++ l ∷ m)
inside tail l more [] rest e lt = absurd (omega (arith, lt))
inside [] l more (a ∷ all) rest e lt = (all, ap (λ (k : Keyed). k ∷ all) (sym (ap (λ (ks : List Keyed). get_or ks 0 no_line) e)))
inside (t ∷ tail) l more (a ∷ all) rest e lt =
    let others = inside tail l more all rest (ap (drop 1) e) (omega (arith, lt)) in
    let first : a ≡ t = sym (ap (λ (ks : List Keyed). get_or ks 0 no_line) e) in
    (others.0, (λ i. first i ∷ others.1 i))

one_left : (tail : List Keyed) (l x : Keyed) (more : List Keyed) → tail ++ l ∷ more ≡ x ∷ [] → (tail ≡ []) × (l ≡ x)
one_left [] l x more e = (refl, ap (λ (ks : List Keyed). get_or ks 0 no_line) e)
one_left (t ∷ tail) l x more e = absurd (omega (arith, ap length e, length-append tail (l ∷ more)))

at_least : (cells : List Numbers) (n : ℕ) (p : Place) → IsPlace cells n p → IsPlaceOf cells n p
at_least cells n p place = record { few = place.few; start = place.start; within = place.within }

-- the controller of a line behind the whole cells
line_there : (cells : List Numbers) (ls more : List Keyed) (p : Place) (l : Keyed) (c : Numbers) → cells_lines cells ≡ ls ++ l ∷ more → IsPlace cells (length ls) p → p.cells < length cells →
    (m : List Keyed) × (keyed_lines (get_or cells p.cells c) ≡ drop p.start ls ++ l ∷ m)
line_there cells ls more p l c e place lt =
    inside (drop p.start ls) l more (keyed_lines (get_or cells p.cells c)) (rest_lines (drop (p.cells + 1) cells)) (tail_is cells ls (l ∷ more) p c e (at_least cells (length ls) p place) lt)
    (omega (arith, length-drop p.start ls, place.next lt, before_next cells p.cells c lt, place.start))

-- ---- all that is known of the place of first lines
abbrev pub Placed : List Keyed → Place → Type 0
Placed ls p = (cells : List Numbers) (more : List Keyed) → AreCells cells → cells_lines cells ≡ ls ++ more → IsPlace cells (length ls) p

-- the lines before a cell, or behind the last, are fewer than all
pub whole_before : (cells : List Numbers) (k : ℕ) → lines_before cells k < suc (length (rest_lines cells))
whole_before cells k =
    let split : rest_lines cells ≡ chained (map keyed_lines (take k cells)) ++ rest_lines (drop k cells) = ap rest_lines (sym (take-append-drop k cells)) ∙ rest_append (take k cells) (drop k cells) in
    omega (arith, ap length split, length-append (chained (map keyed_lines (take k cells))) (rest_lines (drop k cells)), length-append (chained (map keyed_lines (drop k cells))) (end_line ∷ []))

module _ (ls : List Keyed) (p : Place) (placed : Placed ls p) (some : 0 < length ls) where
  -- the cells of a text that begins with them, and with a line more
  wider : (l : Keyed) (g : IsBeginning IsCellsWhole (ls ++ l ∷ [])) → cells_lines g.whole.cells ≡ ls ++ l ∷ g.more
  wider l g = g.whole.lines ∙ append_assoc ls (l ∷ []) g.more

  -- ---- behind all cells
  pub end_follows : (l : Keyed) → IsBeginning IsCellsWhole ls → p.cells ≡ small (at (line_in ls 0) 0) → p.start ≡ length ls → l ≡ end_line → IsBeginning IsCellsWhole (ls ++ l ∷ [])
  end_follows l b all last is =
      let none : drop p.start ls ≡ [] = drop_all p.start ls (omega (arith, last)) in
      let cells = b.whole.cells in
      let place = at_least cells (length ls) p (placed cells b.more b.whole.are b.whole.lines) in
      let count = count_is cells ls b.more some b.whole.are b.whole.lines in
      let left : b.more ≡ l ∷ [] = ap (λ (ks : List Keyed). ks ++ b.more) (sym none) ∙ tail_ends cells ls b.more p b.whole.lines place (all ∙ count) ∙ ap (λ (k : Keyed). k ∷ []) (sym is) in
      record { more = []; whole = subst IsCellsWhole (ap (λ (ks : List Keyed). ls ++ ks) left ∙ sym (append-nil (ls ++ l ∷ []))) b.whole }

  pub end_only : (l : Keyed) → p.cells ≡ small (at (line_in ls 0) 0) → IsBeginning IsCellsWhole (ls ++ l ∷ []) → (p.start ≡ length ls) × (l ≡ end_line)
  end_only l all g =
      let cells = g.whole.cells in
      let e = wider l g in
      let place = at_least cells (length ls) p (placed cells (l ∷ g.more) g.whole.are e) in
      let left = one_left (drop p.start ls) l end_line g.more (tail_ends cells ls (l ∷ g.more) p e place (all ∙ count_is cells ls (l ∷ g.more) some g.whole.are e)) in
      (omega (arith, ap length left.0, length-drop p.start ls, place.within), left.1)

  -- ---- in a cell
  there : (cells : List Numbers) (more : List Keyed) → AreCells cells → cells_lines cells ≡ ls ++ more → (p.cells ≡ small (at (line_in ls 0) 0) → ⊥) → p.cells < length cells
  there cells more are e not =
      let place = placed cells more are e in
      let count = count_is cells ls more some are e in
      elim (cases_lt p.cells (length cells)) [ inl l ↦ l | inr le ↦ absurd (not (omega (arith, le, place.few, count))) ]

  -- the controller behind the whole cells begins with what is left
  begun_with : (cells : List Numbers) (more : List Keyed) (are : AreCells cells) (e : cells_lines cells ≡ ls ++ more) → p.cells < length cells → (m : List Keyed) × (keyed_lines (get_or cells p.cells blank_one) ≡ drop p.start ls ++ m)
  begun_with cells more are e lt =
      let place = placed cells more are e in
      front (drop p.start ls) more (keyed_lines (get_or cells p.cells blank_one)) (rest_lines (drop (p.cells + 1) cells)) (tail_is cells ls more p blank_one e (at_least cells (length ls) p place) lt)
      (omega (arith, length-drop p.start ls, place.next lt, before_next cells p.cells blank_one lt, place.start))

  pub tail_begins : IsBeginning IsCellsWhole ls → (p.cells ≡ small (at (line_in ls 0) 0) → ⊥) → IsBeginning IsAnyWhole (drop p.start ls)
  tail_begins b not =
      let cells = b.whole.cells in
      let lt = there cells b.more b.whole.are b.whole.lines not in
      let m = begun_with cells b.more b.whole.are b.whole.lines lt in
      record { more = m.0; whole = record { numbers = get_or cells p.cells blank_one; form = b.whole.are.form p.cells blank_one lt; word = b.whole.are.word p.cells blank_one lt; lines = m.1 } }

  pub first_follows : (l : Keyed) → IsBeginning IsCellsWhole ls → (p.cells ≡ small (at (line_in ls 0) 0) → ⊥) → p.cells ≡ 0 → IsBeginning IsAnyWhole (drop p.start ls ++ l ∷ []) → IsBeginning IsCellsWhole (ls ++ l ∷ [])
  first_follows l b not none g =
      let cells = b.whole.cells in
      let place = at_least cells (length ls) p (placed cells b.more b.whole.are b.whole.lines) in
      goes_on cells ls b.more p l g.whole.numbers g.more b.whole.are b.whole.lines place (there cells b.more b.whole.are b.whole.lines not) g.whole.form g.whole.word
      (λ lt c. absurd (omega (arith, lt, none))) (g.whole.lines ∙ append_assoc (drop p.start ls) (l ∷ []) g.more)

  pub cell_only : (l : Keyed) → (p.cells ≡ small (at (line_in ls 0) 0) → ⊥) → IsBeginning IsCellsWhole (ls ++ l ∷ []) → IsBeginning IsAnyWhole (drop p.start ls ++ l ∷ [])
  cell_only l not g =
      let cells = g.whole.cells in
      let e = wider l g in
      let lt = there cells (l ∷ g.more) g.whole.are e not in
      let m = line_there cells ls g.more p l blank_one e (placed cells (l ∷ g.more) g.whole.are e) lt in
      let c = get_or cells p.cells blank_one in
      grown IsAnyWhole (drop p.start ls) l m.0 (keyed_lines c) (record { numbers = c; form = g.whole.are.form p.cells blank_one lt; word = g.whole.are.word p.cells blank_one lt; lines = refl }) m.1

  -- ---- and like the first
  first_there : (cells : List Numbers) (k : ℕ) → 0 < k → k ≤ length cells → suc (length (keyed_lines (get_or cells 0 blank_one))) ≤ lines_before cells k
  first_there [] k later le = absurd (omega (arith, later, le))
  first_there (c ∷ cells) zero later le = absurd (omega (arith, later))
  first_there (c ∷ cells) (suc k) later le = omega (arith, length-append (keyed_lines c) (chained (map keyed_lines (take k cells))))

  -- the lines of the first cell stand behind the first line
  first_lines : (cells : List Numbers) (more : List Keyed) (are : AreCells cells) (e : cells_lines cells ≡ ls ++ more) → 0 < p.cells → (r : List Keyed) × (drop 1 ls ≡ keyed_lines (get_or cells 0 blank_one) ++ r)
  first_lines cells more are e later =
      let place = placed cells more are e in
      let long = first_there cells p.cells later place.few in
      let here : keyed_lines (get_or cells 0 blank_one) ++ rest_lines (drop 1 cells) ≡ drop 1 ls ++ more =
      sym (at_cell cells 0 blank_one (omega (arith, are.some))) ∙ ap (drop 1) e ∙ drop-append-le 1 ls more (omega (arith, some)) in
      front (keyed_lines (get_or cells 0 blank_one)) (rest_lines (drop 1 cells)) (drop 1 ls) more here (omega (arith, long, place.start, place.within, length-drop 1 ls))

  module _ (l : Keyed) (T : Type 0) (tail : List Keyed) (tail_is_rest : tail ≡ drop p.start ls)
      (test : (c : Numbers) (rest : List Keyed) → IsTextForm c → drop 1 ls ≡ keyed_lines c ++ rest → T ↔ IsAlikeLine c (length tail) l.numbers) where
    pub alike_follows : IsBeginning IsCellsWhole ls → (p.cells ≡ small (at (line_in ls 0) 0) → ⊥) → (p.cells ≡ 0 → ⊥) → IsBeginning IsAnyWhole (drop p.start ls ++ l ∷ []) → T → IsBeginning IsCellsWhole (ls ++ l ∷ [])
    alike_follows b not none g t =
        let cells = b.whole.cells in
        let are = b.whole.are in
        let place = at_least cells (length ls) p (placed cells b.more are b.whole.lines) in
        let lt = there cells b.more are b.whole.lines not in
        let later : 0 < p.cells = above p.cells none in
        let r = first_lines cells b.more are b.whole.lines later in
        let own = are.form 0 blank_one (omega (arith, are.some)) in
        let line = subst (λ (ks : List Keyed). IsAlikeLine (get_or cells 0 blank_one) (length ks) l.numbers) tail_is_rest ((test (get_or cells 0 blank_one) r.0 own r.1).0 t) in
        let m = begun_with cells b.more are b.whole.lines lt in
        let go = goes_alike (get_or cells 0 blank_one) (get_or cells p.cells blank_one) own (are.form p.cells blank_one lt) (are.alike p.cells blank_one lt) (drop p.start ls) l m.0 m.1 g line in
        goes_on cells ls b.more p l go.numbers go.more are b.whole.lines place lt go.form go.word
        (λ _ c. subst (λ (d : Numbers). AreAlike d go.numbers) (sym (get_or_default cells 0 c blank_one (omega (arith, are.some)))) go.alike) go.lines
      where
        above : (n : ℕ) → (n ≡ 0 → ⊥) → 0 < n
        above zero h = absurd (h refl)
        above (suc n) h = omega arith

    pub alike_only : (p.cells ≡ small (at (line_in ls 0) 0) → ⊥) → (p.cells ≡ 0 → ⊥) → IsBeginning IsCellsWhole (ls ++ l ∷ []) → T
    alike_only not none g =
        let cells = g.whole.cells in
        let are = g.whole.are in
        let e = wider l g in
        let lt = there cells (l ∷ g.more) are e not in
        let later : 0 < p.cells = above p.cells none in
        let r = first_lines cells (l ∷ g.more) are e later in
        let m = line_there cells ls g.more p l blank_one e (placed cells (l ∷ g.more) are e) lt in
        let line = alike_line (get_or cells 0 blank_one) (get_or cells p.cells blank_one) (are.alike p.cells blank_one lt) (are.form p.cells blank_one lt) (drop p.start ls) l m.0 m.1 in
        (test (get_or cells 0 blank_one) r.0 (are.form 0 blank_one (omega (arith, are.some))) r.1).1
        (subst (λ (ks : List Keyed). IsAlikeLine (get_or cells 0 blank_one) (length ks) l.numbers) (sym tail_is_rest) line)
      where
        above : (n : ℕ) → (n ≡ 0 → ⊥) → 0 < n
        above zero h = absurd (h refl)
        above (suc n) h = omega arith

  -- ---- all lines
  pub whole_if : IsBeginning IsCellsWhole ls → p.cells ≡ small (at (line_in ls 0) 0) → p.start < length ls → IsCellsWhole ls
  whole_if b all lt =
      let cells = b.whole.cells in
      let place = at_least cells (length ls) p (placed cells b.more b.whole.are b.whole.lines) in
      let left = tail_ends cells ls b.more p b.whole.lines place (all ∙ count_is cells ls b.more some b.whole.are b.whole.lines) in
      let none : b.more ≡ [] = nothing_left (drop p.start ls) end_line b.more (omega (arith, lt, length-drop p.start ls)) left in
      subst IsCellsWhole (ap (λ (ks : List Keyed). ls ++ ks) none ∙ append-nil ls) b.whole
    where
      nothing_left : (tail : List Keyed) (x : Keyed) (more : List Keyed) → 0 < length tail → tail ++ more ≡ x ∷ [] → more ≡ []
      nothing_left [] x more lt e = absurd (omega (arith, lt))
      nothing_left (t ∷ []) x more lt e = ap (drop 1) e
      nothing_left (t ∷ s ∷ tail) x more lt e = absurd (omega (arith, ap length e, length-append tail more))

  pub whole_only : IsCellsWhole ls → (p.cells ≡ small (at (line_in ls 0) 0)) × (p.start < length ls)
  whole_only w =
      let cells = w.cells in
      let e : cells_lines cells ≡ ls ++ [] = w.lines ∙ sym (append-nil ls) in
      let place = placed cells [] w.are e in
      let count = count_is cells ls [] some w.are e in
      let long : length ls ≡ suc (length (rest_lines cells)) = ap length (sym w.lines) in
      elim (cases_lt p.cells (length cells)) [
        | inl lt ↦ absurd (omega (arith, place.next lt, whole_before cells (p.cells + 1), long))
        | inr le ↦
            let all : p.cells ≡ length cells = omega (arith, le, place.few) in
            (all ∙ sym count, omega (arith, place.start, whole_before cells p.cells, long))
      ]
