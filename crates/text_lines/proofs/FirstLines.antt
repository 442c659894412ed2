-- The first line at which bytes are no text of a grammar, by the pieces between their line feeds.
use Rattle.std.proofs.Common.{◌≡◌, ◌≢◌, ℕ, zero, suc, ◌+◌, ◌-◌, ◌<◌, ◌≤◌, Bor, eqb, List, [], ◌∷◌, ◌++◌, length, get_or, take, drop, map, refl, sym, ap, subst, ◌∙◌, append_assoc, arith, eq-eqb, add-one}
use Rattle.std.specs.Prelude.{All}
use Rattle.std.proofs.Math.Nat.{lt_of_not-le}
use Rattle.std.specs.List.{join_with_byte, slice_split}
use Rattle.std.proofs.lemmas.Bool.{ne_eqb, false≢true}
use Rattle.std.proofs.lemmas.List.{append-nil, take_at, take_all, take_more, take-take, take-map, take-append-le, take-append-drop, length-append, length-map, length-take-le, get_or-take, get_or-map, map-append}
use Rattle.std.proofs.lemmas.List.Splits.{join_with_byte-slice_split}
use Rattle.number_text.specs.Lines.{text_of}
use Rattle.number_text.proofs.Pieces.{IsPiece, ArePieces, split_text}
use Rattle.text_lines.specs.FirstLine.{IsOneLine, BeginsInForm, IsFirstLineOf, IsBadLineOf}
use Rattle.text_lines.specs.Lines.{Keyed, no_line, spelled}
use Rattle.text_lines.specs.Grammar.{IsTextOf, IsBeginning, IsGrammar, BeginsWith, IsMost}
use Rattle.text_lines.proofs.Cuts.{cut_some, line_pieces, text_cut}
use Rattle.text_lines.proofs.OneText.{one_lines, split_more, text_append}
use Rattle.text_lines.proofs.Beginnings.{shorter, begins, begun, lines_good}

abbrev pub pieces : List ℕ → List (List ℕ)
pieces bytes = slice_split (λ b. eqb b 10) bytes

-- ---- lines as pieces

piece_from : (line : List ℕ) → IsOneLine line → IsPiece 10 line
piece_from line h k d lt = ne_eqb (get_or line k d) 10 (h k d lt)

one_line_from : (line : List ℕ) → IsPiece 10 line → IsOneLine line
one_line_from line h k d lt = λ same. false≢true (sym (h k d lt) ∙ eq-eqb (get_or line k d) 10 same)

pieces_from : (ls : List (List ℕ)) → All IsOneLine ls → ArePieces 10 ls
pieces_from [] h = tt
pieces_from (l ∷ ls) h = (piece_from l (h 0 l (omega arith)), pieces_from ls (λ k d lt. h (suc k) d (omega arith)))

lines_from : (ls : List (List ℕ)) → ArePieces 10 ls → All IsOneLine ls
lines_from [] h k d lt = absurd (omega arith)
lines_from (l ∷ ls) h zero d lt = one_line_from l h.0
lines_from (l ∷ ls) h (suc k) d lt = lines_from ls h.1 k d (omega arith)

-- lines and what is after them
joined_front : (ls rest : List (List ℕ)) → 0 < length rest → join_with_byte 10 (ls ++ rest) ≡ text_of ls ++ join_with_byte 10 rest
joined_front [] rest some = refl
joined_front (l ∷ []) [] some = absurd (omega arith)
joined_front (l ∷ []) (r ∷ rs) some = last l (join_with_byte 10 (r ∷ rs))
  where
    last : (l rest : List ℕ) → l ++ (10 ∷ rest) ≡ l ++ 10 ∷ [] ++ [] ++ rest
    last l rest = simp append_assoc
joined_front (l ∷ m ∷ ls) rest some = ap (λ (t : List ℕ). l ++ (10 ∷ t)) (joined_front (m ∷ ls) rest some) ∙ one l (text_of (m ∷ ls)) (join_with_byte 10 rest)
  where
    one : (l front rest : List ℕ) → l ++ (10 ∷ (front ++ rest)) ≡ l ++ 10 ∷ [] ++ front ++ rest
    one l front rest = simp append_assoc

front_lines : (xs ys zs : List (List ℕ)) (x : List ℕ) → xs ++ x ∷ [] ≡ ys ++ zs → 0 < length zs → (length ys ≤ length xs) × (take (length ys) xs ≡ ys)
front_lines xs ys zs x e some =
    let le : length ys ≤ length xs = omega (arith, ap length e, length-append xs (x ∷ []), length-append ys zs, some) in
    (le, sym (take-append-le (length ys) xs (x ∷ []) le) ∙ ap (take (length ys)) e ∙ take_at ys zs (length ys) refl)

-- ---- some text begins with lines of bytes, and with pieces of them

fewer_pieces : (W : List Keyed → Type 0) (ps : List (List ℕ)) (k j : ℕ) → BeginsWith W ps k → j ≤ k → BeginsWith W ps j
fewer_pieces W ps k j w le = record {
  lines = take j w.lines;
  beginning = shorter W j w.lines w.beginning;
  within = omega (arith, w.within, le);
  spelling = sym (take-map spelled j w.lines) ∙ ap (take j) w.spelling ∙ take-take j k ps le;
}

begins_in : (W : List Keyed → Type 0) → IsGrammar W → (bytes : List ℕ) (whole : List (List ℕ)) (last : List ℕ) (k : ℕ) → pieces bytes ≡ whole ++ last ∷ [] → BeginsWith W whole k → BeginsInForm (IsTextOf W) bytes k
begins_in W g bytes whole last k cut w =
    let b = w.beginning in
    let lines = map spelled w.lines in
    let rest = drop k whole ++ last ∷ [] in
    let parts : pieces bytes ≡ lines ++ rest =
    cut ∙ ap (λ (ps : List (List ℕ)). ps ++ last ∷ []) (sym (take-append-drop k whole)) ∙ append_assoc (take k whole) (drop k whole) (last ∷ []) ∙ ap (λ (ps : List (List ℕ)). ps ++ rest) (sym w.spelling) in
    let some : 0 < length rest = omega (arith, length-append (drop k whole) (last ∷ [])) in
    record {
      lines = lines;
      count = ap length w.spelling ∙ length-take-le k whole w.within;
      each = lines_from lines (line_pieces w.lines (lines_good W g w.lines b));
      rest = join_with_byte 10 rest;
      split = sym (join_with_byte-slice_split 10 bytes) ∙ ap (join_with_byte 10) parts ∙ joined_front lines rest some;
      more = text_of (map spelled b.more);
      form = record {
        lines = w.lines ++ b.more;
        whole = b.whole;
        text = sym (text_append lines (map spelled b.more)) ∙ ap text_of (sym (map-append spelled w.lines b.more));
      };
    }

begins_with : (W : List Keyed → Type 0) → IsGrammar W → (bytes : List ℕ) (whole : List (List ℕ)) (last : List ℕ) (k : ℕ) → pieces bytes ≡ whole ++ last ∷ [] → BeginsInForm (IsTextOf W) bytes k → BeginsWith W whole k
begins_with W g bytes whole last k cut b =
    let f = b.form in
    let ls = f.lines in
    let apart = pieces_from b.lines b.each in
    let here : whole ++ last ∷ [] ≡ b.lines ++ pieces b.rest = sym cut ∙ ap pieces b.split ∙ split_more b.lines b.rest apart in
    let there : map spelled ls ++ [] ∷ [] ≡ b.lines ++ pieces b.more = sym (split_text (map spelled ls) (line_pieces ls (g.each ls f.whole))) ∙ ap pieces (sym f.text) ∙ split_more b.lines b.more apart in
    let front = front_lines whole b.lines (pieces b.rest) last here (cut_some 10 b.rest) in
    let lines = front_lines (map spelled ls) b.lines (pieces b.more) [] there (cut_some 10 b.more) in
    let found : BeginsWith W whole (length b.lines) = record {
      lines = take (length b.lines) ls;
      beginning = begins W (length b.lines) ls f.whole;
      within = front.0;
      spelling = sym (take-map spelled (length b.lines) ls) ∙ lines.1 ∙ sym front.1;
    } in
    subst (λ (n : ℕ). BeginsWith W whole n) b.count found

-- the line after the most that are right
pub most_first : (W : List Keyed → Type 0) → IsGrammar W → (bytes : List ℕ) (whole : List (List ℕ)) (last : List ℕ) (k : ℕ) → pieces bytes ≡ whole ++ last ∷ [] → IsMost W whole k → IsFirstLineOf (IsTextOf W) bytes (k + 1)
most_first W g bytes whole last k cut m = record {
  low = omega arith;
  before = λ j lt. begins_in W g bytes whole last j cut (fewer_pieces W whole k j m.these (omega (arith, lt)));
  here = λ b. m.no_more (subst (λ (n : ℕ). BeginsWith W whole n) (add-one k) (begins_with W g bytes whole last (k + 1) cut b));
}

-- ---- pieces that are read one by one

-- where no line follows, none does
pub stuck : (W : List Keyed → Type 0) → IsGrammar W → (ps : List (List ℕ)) (ls : List Keyed) (i : ℕ) → IsBeginning W ls → i < length ps → map spelled ls ≡ take i ps →
    ((l : Keyed) → IsBeginning W (ls ++ l ∷ []) → get_or ps i [] ≢ spelled l) → ¬ BeginsWith W ps (suc i)
stuck W g ps ls i b lt so_far none_follows w =
    let ms = w.lines in
    let count : length ms ≡ suc i = sym (length-map ms spelled) ∙ ap length w.spelling ∙ length-take-le (suc i) ps w.within in
    let within : i < length ms = omega (arith, count) in
    let m = get_or ms i no_line in
    let parts : ms ≡ take i ms ++ m ∷ [] = sym (take_all (i + 1) ms (omega (arith, count))) ∙ take_more ms i no_line within in
    let front : map spelled (take i ms) ≡ map spelled ls = sym (take-map spelled i ms) ∙ ap (take i) w.spelling ∙ take-take i (suc i) ps (omega arith) ∙ sym so_far in
    let same : take i ms ≡ ls = one_lines (take i ms) ls (lines_good W g (take i ms) (shorter W i ms w.beginning)) (lines_good W g ls b) front in
    let here : get_or ps i [] ≡ spelled m = sym (get_or-take (suc i) ps i [] (omega arith)) ∙ ap (λ (qs : List (List ℕ)). get_or qs i []) (sym w.spelling) ∙ get_or-map spelled ms i no_line [] within in
    none_follows m (subst (IsBeginning W) (parts ∙ ap (λ (ks : List Keyed). ks ++ m ∷ []) same) w.beginning) here

pub most_from : (W : List Keyed → Type 0) (ps : List (List ℕ)) (ls : List Keyed) (i n : ℕ) → IsBeginning W ls → i ≤ length ps → map spelled ls ≡ take i ps → length ls ≡ n → ¬ BeginsWith W ps (suc i) → IsMost W ps n
most_from W ps ls i n b le so_far len none_more =
    let same : i ≡ n = sym (length-take-le i ps le) ∙ ap length (sym so_far) ∙ length-map ls spelled ∙ len in
    subst (λ (k : ℕ). IsMost W ps k) same (record { these = record { lines = ls; beginning = b; within = le; spelling = so_far }; no_more = none_more })

pub all_right : (W : List Keyed → Type 0) (ps : List (List ℕ)) (i : ℕ) → length ps ≤ i → ¬ BeginsWith W ps (suc i)
all_right W ps i le w = omega (arith, w.within)

-- one piece more
pub one_more : (ps : List (List ℕ)) (ls : List Keyed) (i : ℕ) (l : Keyed) → i < length ps → map spelled ls ≡ take i ps → get_or ps i [] ≡ spelled l → map spelled (ls ++ l ∷ []) ≡ take (i + 1) ps
one_more ps ls i l lt so_far here = map-append spelled ls (l ∷ []) ∙ (λ j. so_far j ++ (sym here j ∷ [])) ∙ sym (take_more ps i [] lt)

-- ---- pieces as they are read

abbrev pub none_read : Bor (List ℕ)
none_read = record { ref_ptr = (0, 0); now = [] }

pub whole_pieces : (bytes : List ℕ) (ps : List (Bor (List ℕ))) (k : ℕ) → map (λ x. x.now) ps ≡ pieces bytes → length ps ≡ k → pieces bytes ≡ map (λ x. x.now) (take (k - 1) ps) ++ (get_or ps (k - 1) none_read).now ∷ []
whole_pieces bytes ps k same count =
    let some : 0 < k = omega (arith, cut_some 10 bytes, ap length same, length-map ps (λ (x : Bor (List ℕ)). x.now), count) in
    let all : take (k - 1 + 1) ps ≡ ps = take_all (k - 1 + 1) ps (omega (arith, count, some)) in
    sym same ∙ ap (map (λ (x : Bor (List ℕ)). x.now)) (sym all ∙ take_more ps (k - 1) none_read (omega (arith, count, some))) ∙ map-append (λ (x : Bor (List ℕ)). x.now) (take (k - 1) ps) (get_or ps (k - 1) none_read ∷ [])

-- there is a piece
pub some_piece : (bytes : List ℕ) (ps : List (Bor (List ℕ))) → map (λ x. x.now) ps ≡ pieces bytes → 0 < length ps
some_piece bytes ps same = omega (arith, cut_some 10 bytes, ap length same, length-map ps (λ (x : Bor (List ℕ)). x.now))

-- ---- bytes that are no text

-- where fewer pieces are right, or bytes are left, or the right lines are not all lines of a text
pub bad_line : (W : List Keyed → Type 0) → IsGrammar W → (bytes : List ℕ) (whole : List (List ℕ)) (last : List ℕ) (ls : List Keyed) → pieces bytes ≡ whole ++ last ∷ [] → IsBeginning W ls →
    map spelled ls ≡ take (length ls) whole → IsMost W whole (length ls)
    → ¬ ((length ls ≡ length whole) × (last ≡ []) × W ls) → IsBadLineOf (IsTextOf W) bytes (length ls + 1)
bad_line W g bytes whole last ls cut b spelling most other = record {
  none = λ t.
      let good = g.each t.lines t.whole in
      let parts = text_cut bytes t.lines whole last good t.text cut in
      let all : BeginsWith W whole (length whole) = record {
        lines = t.lines;
        beginning = begun W t.lines t.whole;
        within = omega arith;
        spelling = sym parts.0 ∙ sym (take_all (length whole) whole (omega arith));
      } in
      let least = lt_of_not-le (λ lt. most.no_more (fewer_pieces W whole (length whole) (suc (length ls)) all lt)) in
      let count : length ls ≡ length whole = omega (arith, least, most.these.within) in
      let same : map spelled ls ≡ map spelled t.lines = spelling ∙ take_all (length ls) whole (omega (arith, count)) ∙ parts.0 in
      let lines = one_lines ls t.lines (lines_good W g ls b) good same in
      other (count, parts.1, subst W (sym lines) t.whole);
  first = most_first W g bytes whole last (length ls) cut most;
}

-- where all are right and nothing is left
pub good_text : (bytes : List ℕ) (whole : List (List ℕ)) (ls : List Keyed) → pieces bytes ≡ whole ++ [] ∷ [] → map spelled ls ≡ take (length ls) whole → length ls ≡ length whole → bytes ≡ text_of (map spelled ls)
good_text bytes whole ls cut spelling count =
    let same : whole ≡ map spelled ls = sym (take_all (length ls) whole (omega (arith, count))) ∙ sym spelling in
    sym (join_with_byte-slice_split 10 bytes) ∙ ap (join_with_byte 10) cut ∙ joined_front whole ([] ∷ []) (omega arith) ∙ append-nil (text_of whole) ∙ ap text_of same

-- ---- one form said in two ways

begins_so : (F G : List ℕ → Type 0) → ((bytes : List ℕ) → F bytes → G bytes) → (bytes : List ℕ) (k : ℕ) → BeginsInForm F bytes k → BeginsInForm G bytes k
begins_so F G h bytes k b = record { lines = b.lines; count = b.count; each = b.each; rest = b.rest; split = b.split; more = b.more; form = h (text_of b.lines ++ b.more) b.form }

pub bad_line_so : (F G : List ℕ → Type 0) → ((bytes : List ℕ) → F bytes → G bytes) → ((bytes : List ℕ) → G bytes → F bytes) → (bytes : List ℕ) (l : ℕ) → IsBadLineOf F bytes l → IsBadLineOf G bytes l
bad_line_so F G h k bytes l bad = record {
  none = λ form. bad.none (k bytes form);
  first = record {
    low = bad.first.low;
    before = λ j lt. begins_so F G h bytes j (bad.first.before j lt);
    here = λ b. bad.first.here (begins_so G F k bytes l b);
  };
}
