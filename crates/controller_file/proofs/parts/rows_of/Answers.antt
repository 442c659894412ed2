use Rattle.std.proofs.Common.{◌≡◌, ◌<◌, ◌∙◌, ◌+◌, ◌++◌, ◌∷◌, [], ℕ, ℤ, List, length, take, get_or, map, ap, sym, arith}
use Rattle.std.proofs.lemmas.List.{length-map, get_or-map, take_more, map-append}
use Rattle.mat_int.specs.Matrix.{Matrix}
use Rattle.text_lines.specs.declared.line.Line.{Line}
use Rattle.text_lines.specs.Lines.{Keyed, view, views}
use Rattle.controller_file.proofs.parts.rows_of.Goals as goal

here_is : (lines : List Line) (i : ℕ) (l : Line) → i < length lines → l ≡ get_or lines i l → get_or (views lines) i (view l) ≡ view l
here_is lines i l lt is = get_or-map view lines i l (view l) lt ∙ ap view (sym is)

pub push_row-requires : goal.push_row-requires
push_row-requires c =
    let lines = c.args.lines.now in
    let i = c.loop-line.line-index in
    let l = c.line-item.result in
    let here = here_is lines i l c.loop-line-test.true c.line-item.is in
    let count : length l.numbers.items ≡ c.args.cols = ap (λ (k : Keyed). length k.numbers) (sym here) ∙ c.requires i (view l) (omega (arith, length-map lines view, c.loop-line-test.true)) in
    ap length c.deref.ensures.value ∙ count ∙ sym (ap (λ (m : Matrix). m.cols) c.loop-line.invariant)

pub loop-line-preserved : goal.loop-line-preserved
loop-line-preserved c =
    let vs = views c.args.lines.now in
    let i = c.loop-line.line-index in
    let l = c.line-item.result in
    let f = λ (k : Keyed). k.numbers in
    let here = here_is c.args.lines.now i l c.loop-line-test.true c.line-item.is in
    let lt : i < length vs = omega (arith, length-map c.args.lines.now view, c.loop-line-test.true) in
    let more : map f (take (i + 1) vs) ≡ map f (take i vs) ++ l.numbers.items ∷ [] = ap (map f) (take_more vs i (view l) lt)
    ∙ map-append f (take i vs) (get_or vs i (view l) ∷ []) ∙ ap (λ (k : Keyed). map f (take i vs) ++ k.numbers ∷ []) here in
    let before = c.loop-line.invariant in
    let value = c.deref.ensures.value in
    c.in_ok-push_row.ensures.ok ∙ (λ j. record { cols = (before j).cols; rows = (before j).rows ++ value j ∷ [] }) ∙ ap (λ (rows : List (List ℤ)). record { cols = c.args.cols; rows = rows }) (sym more)
