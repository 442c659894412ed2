use Rattle.std.proofs.Common.{◌≡◌, ◌<◌, ◌≤◌, ◌∙◌, ◌-◌, ◌+◌, ◌++◌, ◌∷◌, [], ℕ, List, map, take, get_or, length, Bor, sym, ap, subst, arith}
use Rattle.std.proofs.lemmas.Bool.{false≢true}
use Rattle.std.proofs.lemmas.List.{length-map, length-take-le, get_or_read}
use Rattle.text_lines.specs.declared.line.Line.{Line}
use Rattle.text_lines.specs.Lines.{view, views, spelled}
use Rattle.text_lines.specs.FirstLine.{IsBadLineOf}
use Rattle.text_lines.specs.Grammar.{IsTextOf, IsMost}
use Rattle.text_lines.proofs.FirstLines.{pieces, none_read, whole_pieces, some_piece, bad_line, good_text}
use Rattle.text_lines.proofs.Beginnings.{few_right}
use Rattle.text_lines.proofs.reader.lines_in.Goals as goal

pub slice_bounds-whole-count : goal.slice_bounds-whole-count
slice_bounds-whole-count g c = omega (arith, some_piece c.args.bytes.now c.in_ok-pieces.pieces.items c.in_ok-pieces.ensures, c.in_ok-pieces.pieces.ok.0, c.len.ensures)

pub index-requires : goal.index-requires
index-requires g c =
    let some = some_piece c.args.bytes.now c.in_ok-pieces.pieces.items c.in_ok-pieces.ensures in
    let le : c.len.result - 1 ≤ length c.deref.result.now = omega (arith, c.deref.ensures.len, c.len.ensures) in
    omega (arith, some, c.in_ok-pieces.pieces.ok.0, c.len.ensures, length-take-le (c.len.result - 1) c.deref.result.now le)

pub overflow_cast-result : goal.overflow_cast-result
overflow_cast-result g c =
    let items = c.in_ok-lines.lines.items in
    record { fits = omega (arith, few_right g.G.Grammar.whole c.requires (views items) c.in_ok-lines.ensures.beginning, length-map items view, c.len-else-right.ensures, c.in_ok-lines.lines.ok.0) }

pub overflow_add-result : goal.overflow_add-result
overflow_add-result g c =
    let items = c.in_ok-lines.lines.items in
    record { fits = omega (arith, few_right g.G.Grammar.whole c.requires (views items) c.in_ok-lines.ensures.beginning, length-map items view, c.len-else-right.ensures, c.in_ok-lines.lines.ok.0) }

-- the last piece as it is read
last_is : (ps items : List (Bor (List ℕ))) (x : Bor (List ℕ)) (n k : ℕ) → ps ≡ items → n ≡ k → n < length items → x ≡ get_or items n x → x ≡ get_or ps k none_read
last_is ps items x n k same count lt read = get_or_read items n x lt read none_read ∙ ap (λ (j : ℕ). get_or items j none_read) count ∙ ap (λ (qs : List (Bor (List ℕ))). get_or qs k none_read) (sym same)

-- the bytes' pieces, and the last of them as it is read
record IsCut (bytes : List ℕ) (ps : List (Bor (List ℕ))) (k : ℕ) (x : Bor (List ℕ)) : Type 0 where
  pub split : pieces bytes ≡ map (λ (y : Bor (List ℕ)). y.now) (take (k - 1) ps) ++ (get_or ps (k - 1) none_read).now ∷ []
  pub last : x ≡ get_or ps (k - 1) none_read

cut_is : (bytes : List ℕ) (ps items : List (Bor (List ℕ))) (k : ℕ) (x : Bor (List ℕ)) → ps ≡ items → map (λ (y : Bor (List ℕ)). y.now) items ≡ pieces bytes → length ps ≡ k →
    x ≡ get_or items (length (take (k - 1) ps)) x → IsCut bytes ps k x
cut_is bytes ps items k x same cut count read =
    let long : length (take (k - 1) ps) ≡ k - 1 = length-take-le (k - 1) ps (omega (arith, count)) in
    record {
      split = whole_pieces bytes ps k (ap (map (λ (y : Bor (List ℕ)). y.now)) same ∙ cut) count;
      last = last_is ps items x (length (take (k - 1) ps)) (k - 1) same long (omega (arith, long, count, some_piece bytes items cut, ap length same)) read;
    }

-- as many lines as were read
spelled_so : (items : List Line) (whole : List (List ℕ)) → map spelled (views items) ≡ take (length items) whole → map spelled (views items) ≡ take (length (views items)) whole
spelled_so items whole e = e ∙ ap (λ (n : ℕ). take n whole) (sym (length-map items view))

pub returns-then-right : goal.returns-then-right
returns-then-right g c =
    let bytes = c.args.bytes.now in
    let ps = c.deref.result.now in
    let k = c.len.result in
    let items = c.in_ok-lines.lines.items in
    let front = take (k - 1) ps in
    let whole = map (λ (x : Bor (List ℕ)). x.now) front in
    let cut = cut_is bytes ps c.in_ok-pieces.pieces.items k c.index.result.now c.deref.ensures.value c.in_ok-pieces.ensures (omega (arith, c.deref.ensures.len, c.len.ensures)) c.index.ensures in
    let test = c.is_text-right.ensures.0 c.if-right.true in
    let empty : (get_or ps (k - 1) none_read).now ≡ [] = ap (λ (x : Bor (List ℕ)). x.now) (sym cut.last) ∙ test.1 in
    let same = c.deref-2.ensures.value in
    let all : length (views items) ≡ length whole = length-map items view ∙ ap length (sym same) ∙ test.0 ∙ sym (length-map front (λ (x : Bor (List ℕ)). x.now)) in
    (subst (λ (ls : List Line). g.G.Grammar.whole (views ls)) same test.2, good_text bytes whole (views items) (cut.split ∙ ap (λ (l : List ℕ). whole ++ l ∷ []) empty) (spelled_so items whole c.in_ok-lines.ensures.spelling) all)

pub returns : goal.returns
returns g c =
    let bytes = c.args.bytes.now in
    let ps = c.deref.result.now in
    let k = c.len.result in
    let items = c.in_ok-lines.lines.items in
    let front = take (k - 1) ps in
    let whole = map (λ (x : Bor (List ℕ)). x.now) front in
    let cut = cut_is bytes ps c.in_ok-pieces.pieces.items k c.index.result.now c.deref.ensures.value c.in_ok-pieces.ensures (omega (arith, c.deref.ensures.len, c.len.ensures)) c.index.ensures in
    let same = c.deref-2.ensures.value in
    let counted : length (views items) ≡ c.len-else-right.result = omega (arith, length-map items view, c.len-else-right.ensures, c.in_ok-lines.lines.ok.0) in
    let most = subst (λ (n : ℕ). IsMost g.G.Grammar.whole whole n) (sym (length-map items view)) c.in_ok-lines.ensures.most in
    let bad = bad_line g.G.Grammar.whole c.requires bytes whole (get_or ps (k - 1) none_read).now (views items) cut.split c.in_ok-lines.ensures.beginning (spelled_so items whole c.in_ok-lines.ensures.spelling) most
    (λ h. false≢true (sym c.if-right.false ∙ c.is_text-right.ensures.1
    (ap length same ∙ sym (length-map items view) ∙ h.0 ∙ length-map front (λ (x : Bor (List ℕ)). x.now), ap (λ (x : Bor (List ℕ)). x.now) cut.last ∙ h.1, subst (λ (ls : List Line). g.G.Grammar.whole (views ls)) (sym same) h.2))) in
    subst (λ (n : ℕ). IsBadLineOf (IsTextOf g.G.Grammar.whole) bytes (n + 1)) counted bad
