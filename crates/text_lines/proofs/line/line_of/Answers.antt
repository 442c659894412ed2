use Rattle.std.proofs.Common.{◌≡◌, ℕ, List, ◌∷◌, map, eqb, Bor, sym, ap, ◌∙◌, refl}
use Rattle.std.specs.List.{slice_split}
use Rattle.std.specs.Fmt.{signed_decimal}
use Rattle.std.proofs.lemmas.Option.{MatchOption-at_some}
use Rattle.text_lines.proofs.Cuts.{line_cut, line_from_cut, no_words, first_words, some_at, none_at}
use Rattle.text_lines.proofs.line.line_of.Goals as goal

pub returns-in_default-clause-only : goal.returns-in_default-clause-only
returns-in_default-clause-only c = λ l good e.
    let cut : map (λ (x : Bor (List ℕ)). x.now) c.deref.result.now ≡ slice_split (λ b. eqb b 32) c.args.piece.now = rw c.deref.ensures.value c.in_ok-words.ensures in
    no_words c.split_first.result c.deref.result.now 32 c.args.piece.now cut c.split_first.ensures.cases c.in_default.is

pub returns-in_default-2-clause-only : goal.returns-in_default-2-clause-only
returns-in_default-2-clause-only c = λ l good e.
    let cut : map (λ (x : Bor (List ℕ)). x.now) c.deref.result.now ≡ slice_split (λ b. eqb b 32) c.args.piece.now = rw c.deref.ensures.value c.in_ok-words.ensures in
    let words = first_words c.split_first.result (c.in-Some.key, c.in-Some.rest) c.deref.result.now (slice_split (λ b. eqb b 32) c.args.piece.now) cut c.split_first.ensures.cases c.in-Some.is in
    let rest : map (λ (x : Bor (List ℕ)). x.now) c.in-Some.rest.now ≡ map signed_decimal l.numbers = cc (sym words ∙ line_cut c.args.piece.now l good e) in
    none_at c.in_ok-numbers.field-0 (λ v. v.items ≡ l.numbers) (c.in_ok-numbers.ensures.only l.numbers good.fits rest) c.in_default-2.is

pub returns-clause-found : goal.returns-clause-found
returns-clause-found c =
    let cut : map (λ (x : Bor (List ℕ)). x.now) c.deref.result.now ≡ slice_split (λ b. eqb b 32) c.args.piece.now = rw c.deref.ensures.value c.in_ok-words.ensures in
    let words = first_words c.split_first.result (c.in-Some.key, c.in-Some.rest) c.deref.result.now (slice_split (λ b. eqb b 32) c.args.piece.now) cut c.split_first.ensures.cases c.in-Some.is in
    let numbers = MatchOption-at_some _ (λ v. map signed_decimal v.items ≡ map (λ (x : Bor (List ℕ)). x.now) c.in-Some.rest.now) c.in-Some-2.numbers c.in-Some-2.is c.in_ok-numbers.ensures.found in
    line_from_cut c.args.piece.now c.in-Some.key.now.now c.in-Some-2.numbers.items (words ∙ ap (λ (ws : List (List ℕ)). c.in-Some.key.now.now ∷ ws) (sym numbers))

pub returns-clause-only : goal.returns-clause-only
returns-clause-only c = λ l good e.
    let cut : map (λ (x : Bor (List ℕ)). x.now) c.deref.result.now ≡ slice_split (λ b. eqb b 32) c.args.piece.now = rw c.deref.ensures.value c.in_ok-words.ensures in
    let words = first_words c.split_first.result (c.in-Some.key, c.in-Some.rest) c.deref.result.now (slice_split (λ b. eqb b 32) c.args.piece.now) cut c.split_first.ensures.cases c.in-Some.is in
    let both = sym words ∙ line_cut c.args.piece.now l good e in
    let key : c.in-Some.key.now.now ≡ l.key = cc both in
    let rest : map (λ (x : Bor (List ℕ)). x.now) c.in-Some.rest.now ≡ map signed_decimal l.numbers = cc both in
    let numbers = some_at c.in_ok-numbers.field-0 c.in-Some-2.numbers (λ v. v.items ≡ l.numbers) (c.in_ok-numbers.ensures.only l.numbers good.fits rest) c.in-Some-2.is in
    rw (key, numbers) refl
