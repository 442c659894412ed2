use Rattle.std.proofs.Common.{◌≡◌, ◌<◌, ℕ, pos, List, [], ◌∷◌, ◌++◌, map, take, length, get_or, Bor, FitsSigned, sym, ap, ◌∙◌, arith, refl, rules}
use Rattle.std.specs.Int.{w128}
use Rattle.std.specs.Fmt.{signed_decimal}
use Rattle.std.proofs.lemmas.List.{get_or-map, length-map, take_all, take_more, map-append}
use Rattle.std.proofs.lemmas.Grind.{common_steps}
use Rattle.number_text.proofs.Words.{same_at}
use Rattle.number_text.proofs.number.numbers_of.Goals as goal

pub returns-in_default-clause-only : goal.returns-in_default-clause-only
returns-in_default-clause-only c = λ zs fits e.
    let i = c.loop-word.word-index in
    let texts = map (λ (x : Bor (List ℕ)). x.now) c.args.words.now in
    let lt : i < length c.args.words.now = omega arith in
    let long : i < length texts = omega (arith, length-map c.args.words.now (λ (x : Bor (List ℕ)). x.now)) in
    let at = same_at texts zs i e long in
    let none : Bor (List ℕ) = record { ref_ptr = (0, 0); now = [] } in
    let word : (get_or c.args.words.now i none).now ≡ get_or texts i [] = sym (get_or-map (λ (x : Bor (List ℕ)). x.now) c.args.words.now i none [] lt) in
    let no = c.in_default.ensures.only (get_or zs i (pos 0)) (fits i (pos 0) at.0) (word ∙ at.1) in
    cc no

pub loop-word-preserved : goal.loop-word-preserved
loop-word-preserved c =
    let i = c.loop-word.word-index in
    let words = c.args.words.now in
    let texts = map (λ (x : Bor (List ℕ)). x.now) words in
    let lt : i < length words = omega arith in
    let long : i < length texts = omega (arith, length-map words (λ (x : Bor (List ℕ)). x.now)) in
    let none : Bor (List ℕ) = record { ref_ptr = (0, 0); now = [] } in
    let word : (get_or words i none).now ≡ get_or texts i [] = sym (get_or-map (λ (x : Bor (List ℕ)). x.now) words i none [] lt) in
    let old = c.loop-word.numbers.items in
    let items : c.push.new.self.items ≡ old ++ c.in-Some.number ∷ [] = search rules in
    let spelled : signed_decimal c.in-Some.number ≡ (get_or words i none).now = sym c.in-Some.ensures.found ∙ word ∙ get_or-map (λ (x : Bor (List ℕ)). x.now) words i none [] lt in
    let fits : FitsSigned w128 c.in-Some.number = search rules in
    record {
      word = grind (arith, common_steps);
      found = rw (items, map-append signed_decimal old (c.in-Some.number ∷ []), c.loop-word.invariant.found, take_more words i none lt, map-append (λ (x : Bor (List ℕ)). x.now) (take i words) (get_or words i none ∷ []), spelled) refl;
      only = λ zs fits e.
          let at = same_at texts zs i e long in
          let some = c.in-Some.ensures.only (get_or zs i (pos 0)) (fits i (pos 0) at.0) (word ∙ at.1) in
          let same : c.in-Some.number ≡ get_or zs i (pos 0) = cc some in
          rw (items, c.loop-word.invariant.only zs fits e, take_more zs i (pos 0) at.0, same) refl;
    }

pub returns-in_default-clause-found : goal.returns-in_default-clause-found
returns-in_default-clause-found c = tt

pub returns-in_default-clause-word : goal.returns-in_default-clause-word
returns-in_default-clause-word c = tt

pub returns-clause-found : goal.returns-clause-found
returns-clause-found c =
    c.loop-word.invariant.found ∙ ap (λ (ws : List (Bor (List ℕ))). map (λ (x : Bor (List ℕ)). x.now) ws) (take_all c.loop-word.word-index c.args.words.now (omega arith))

pub returns-clause-word : goal.returns-clause-word
returns-clause-word c = c.loop-word.invariant.word

pub returns-clause-only : goal.returns-clause-only
returns-clause-only c = λ zs fits e.
    let long : length zs ≡ length c.args.words.now = sym (length-map zs signed_decimal) ∙ sym (ap length e) ∙ length-map c.args.words.now (λ (x : Bor (List ℕ)). x.now) in
    c.loop-word.invariant.only zs fits e ∙ take_all c.loop-word.word-index zs (omega arith)
