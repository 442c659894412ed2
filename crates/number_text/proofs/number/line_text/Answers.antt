use Rattle.std.proofs.Common.{◌≡◌, ◌<◌, [], ◌∷◌, ◌++◌, pos, length, get_or, arith, rules, string_bytes, refl, FitsSigned, All, List, ℤ, subst, ap, ◌∙◌}
use Rattle.std.specs.Int.{w128}
use Rattle.std.specs.Fmt.{signed_decimal}
use Rattle.std.proofs.lemmas.List.{take_all}
use Rattle.number_text.specs.Lines.{line_of}
use Rattle.number_text.proofs.Words.{line_of_more, fits_none, fits_more}
use Rattle.number_text.proofs.number.line_text.Goals as goal

pub loop-number-preserved : goal.loop-number-preserved
loop-number-preserved c =
    let xs = c.args.numbers.now in
    let i = c.loop-number.number-index in
    let lt : i < length xs = omega arith in
    let pushed : string_bytes c.push_str.new.self ≡ (string_bytes c.loop-number.text ++ 32 ∷ []) ++ signed_decimal (get_or xs i (pos 0)) = search rules in
    let fits : FitsSigned w128 (get_or xs i (pos 0)) = search rules in
    record {
      value = rw (line_of_more c.args.key.now xs i lt, pushed, c.loop-number.invariant.value) refl;
      word = fits_more xs i lt c.loop-number.invariant.word fits;
    }

pub loop-number-init : goal.loop-number-init
loop-number-init c = record { value = c.in_ok-text.ensures.ok; word = fits_none }

pub returns-clause-value : goal.returns-clause-value
returns-clause-value c =
    let xs = c.args.numbers.now in
    c.loop-number.invariant.value ∙ ap (line_of c.args.key.now) (take_all c.loop-number.number-index xs (omega arith))

pub returns-clause-word : goal.returns-clause-word
returns-clause-word c =
    let xs = c.args.numbers.now in
    subst (λ (zs : List ℤ). All (FitsSigned w128) zs) (take_all c.loop-number.number-index xs (omega arith)) c.loop-number.invariant.word
