use Rattle.std.proofs.Common.{◌≡◌, ◌≢◌, ◌<◌, ◌≤◌, ◌++◌, ◌∷◌, [], ℕ, List, map, length, get_or, Bor, sym, ap, subst, ◌∙◌, arith, take}
use Rattle.std.proofs.lemmas.List.{length-take, length-map, get_or-map, map-append}
use Rattle.std.proofs.lemmas.Result.{err_from_is_err_and}
use Rattle.std.proofs.lemmas.Option.{MatchOption-at_some, MatchOption-at_none}
use Rattle.text_lines.specs.declared.line.Line.{Line}
use Rattle.text_lines.specs.Lines.{Keyed, view, views, spelled}
use Rattle.text_lines.specs.Grammar.{IsBeginning}
use Rattle.text_lines.proofs.FirstLines.{none_read, one_more, stuck, most_from, all_right}
use Rattle.text_lines.proofs.reader.right_lines.Goals as goal

-- as many pieces as were read
as_many : (ps : List (List ℕ)) (items : List Line) (i : ℕ) → i ≤ length ps → map spelled (views items) ≡ take i ps → map spelled (views items) ≡ take (length items) ps
as_many ps items i within so_far =
    let long : length items ≡ i = omega (arith, ap length so_far, length-map (views items) spelled, length-map items view, length-take i ps, within) in
    rw long so_far

pub loop-piece-init : goal.loop-piece-init
loop-piece-init g c =
    let none : views c.new-lines.result.items ≡ [] = ap views c.new-lines.ensures.items in
    record { beginning = subst (IsBeginning g.G.Grammar.whole) (sym none) c.requires.some; spelling = ap (map spelled) none }

pub returns-in_default-clause-most : goal.returns-in_default-clause-most
returns-in_default-clause-most g c =
    let ps = map (λ (x : Bor (List ℕ)). x.now) c.args.pieces.now in
    let i = c.loop-piece.piece-index in
    let items = c.loop-piece.lines.items in
    let ls = views items in
    let lt : i < length ps = omega (arith, length-map c.args.pieces.now (λ (x : Bor (List ℕ)). x.now)) in
    let count : length ls ≡ length items = length-map items view in
    let here : get_or ps i [] ≡ (get_or c.args.pieces.now i none_read).now = get_or-map (λ (x : Bor (List ℕ)). x.now) c.args.pieces.now i none_read [] c.loop-piece-test.true in
    let none = MatchOption-at_none _ _ c.in_default.is c.in_ok-line.ensures.none in
    let follows : (l : Keyed) → IsBeginning g.G.Grammar.whole (ls ++ l ∷ []) → get_or ps i [] ≢ spelled l =
    λ l b e. none l (subst (λ (xs : List Line). IsBeginning g.G.Grammar.whole (views xs ++ l ∷ [])) (sym c.deref.ensures.value) b) (sym here ∙ e) in
    most_from g.G.Grammar.whole ps ls i (length items) c.loop-piece.invariant.beginning (omega (arith, lt)) c.loop-piece.invariant.spelling count
    (stuck g.G.Grammar.whole c.requires ps ls i c.loop-piece.invariant.beginning lt c.loop-piece.invariant.spelling follows)

pub loop-piece-preserved : goal.loop-piece-preserved
loop-piece-preserved g c =
    let ps = map (λ (x : Bor (List ℕ)). x.now) c.args.pieces.now in
    let i = c.loop-piece.piece-index in
    let old = c.loop-piece.lines.items in
    let l = c.in-Some.line in
    let lt : i < length ps = omega (arith, length-map c.args.pieces.now (λ (x : Bor (List ℕ)). x.now)) in
    let items : c.push.new.self.items ≡ old ++ l ∷ [] = c.in_ok-push.ensures.items in
    let more : views c.push.new.self.items ≡ views old ++ view l ∷ [] = ap views items ∙ map-append view old (l ∷ []) in
    let here : get_or ps i [] ≡ (get_or c.args.pieces.now i none_read).now = get_or-map (λ (x : Bor (List ℕ)). x.now) c.args.pieces.now i none_read [] c.loop-piece-test.true in
    let found : (get_or c.args.pieces.now i none_read).now ≡ spelled (view l) = MatchOption-at_some _ (λ (k : Line). (get_or c.args.pieces.now i none_read).now ≡ spelled (view k)) l c.in-Some.is c.in_ok-line.ensures.found in
    let follows : IsBeginning g.G.Grammar.whole (views c.deref.result.now ++ view l ∷ []) =
    MatchOption-at_some _ (λ (k : Line). IsBeginning g.G.Grammar.whole (views c.deref.result.now ++ view k ∷ [])) l c.in-Some.is c.in_ok-line.ensures.follows in
    record {
      beginning = subst (λ (ls : List Keyed). IsBeginning g.G.Grammar.whole ls) (ap (λ (xs : List Line). views xs ++ view l ∷ []) c.deref.ensures.value ∙ sym more) follows;
      spelling = ap (map spelled) more ∙ one_more ps (views old) i (view l) lt c.loop-piece.invariant.spelling (here ∙ found);
    }

pub returns-clause-most : goal.returns-clause-most
returns-clause-most g c =
    let ps = map (λ (x : Bor (List ℕ)). x.now) c.args.pieces.now in
    let i = c.loop-piece.piece-index in
    let items = c.loop-piece.lines.items in
    let count : length (views items) ≡ length items = length-map items view in
    let past : length ps ≤ i = omega (arith, length-map c.args.pieces.now (λ (x : Bor (List ℕ)). x.now)) in
    let within : i ≤ length ps = omega (arith, length-map c.args.pieces.now (λ (x : Bor (List ℕ)). x.now)) in
    most_from g.G.Grammar.whole ps (views items) i (length items) c.loop-piece.invariant.beginning within c.loop-piece.invariant.spelling count (all_right g.G.Grammar.whole ps i past)

pub returns-in_err-line-clause-beginning : goal.returns-in_err-line-clause-beginning
returns-in_err-line-clause-beginning g c = rw (err_from_is_err_and c.from_residual.result c.from_residual.ensures.1).1 tt

pub returns-in_err-line-clause-spelling : goal.returns-in_err-line-clause-spelling
returns-in_err-line-clause-spelling g c = rw (err_from_is_err_and c.from_residual.result c.from_residual.ensures.1).1 tt

pub returns-in_err-line-clause-most : goal.returns-in_err-line-clause-most
returns-in_err-line-clause-most g c = rw (err_from_is_err_and c.from_residual.result c.from_residual.ensures.1).1 tt

pub returns-in_err-push-clause-beginning : goal.returns-in_err-push-clause-beginning
returns-in_err-push-clause-beginning g c = rw (err_from_is_err_and c.from_residual-in_err-push.result c.from_residual-in_err-push.ensures.1).1 tt

pub returns-in_err-push-clause-spelling : goal.returns-in_err-push-clause-spelling
returns-in_err-push-clause-spelling g c = rw (err_from_is_err_and c.from_residual-in_err-push.result c.from_residual-in_err-push.ensures.1).1 tt

pub returns-in_err-push-clause-most : goal.returns-in_err-push-clause-most
returns-in_err-push-clause-most g c = rw (err_from_is_err_and c.from_residual-in_err-push.result c.from_residual-in_err-push.ensures.1).1 tt

pub next_line-requires-clause-beginning : goal.next_line-requires-clause-beginning
next_line-requires-clause-beginning g c = rw c.deref.ensures.value c.loop-piece.invariant.beginning

pub returns-in_default-clause-beginning : goal.returns-in_default-clause-beginning
returns-in_default-clause-beginning g c = c.loop-piece.invariant.beginning

pub returns-clause-beginning : goal.returns-clause-beginning
returns-clause-beginning g c = c.loop-piece.invariant.beginning

pub returns-in_default-clause-spelling : goal.returns-in_default-clause-spelling
returns-in_default-clause-spelling g c = as_many _ c.loop-piece.lines.items c.loop-piece.piece-index (omega (arith, length-map c.args.pieces.now (λ (x : Bor (List ℕ)). x.now), c.loop-piece-test.true)) c.loop-piece.invariant.spelling

pub returns-clause-spelling : goal.returns-clause-spelling
returns-clause-spelling g c = as_many _ c.loop-piece.lines.items c.loop-piece.piece-index (omega (arith, length-map c.args.pieces.now (λ (x : Bor (List ℕ)). x.now))) c.loop-piece.invariant.spelling

pub bounds-pieces-piece-index : goal.bounds-pieces-piece-index
bounds-pieces-piece-index g c = c.loop-piece-test.true
