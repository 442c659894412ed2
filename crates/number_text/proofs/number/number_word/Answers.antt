use Rattle.std.proofs.Common.{◌≡◌, true, ◌∙◌, ap}
use Rattle.std.specs.Result.{result_ok}
use Rattle.number_text.specs.Spelling.{is_plain}
use Rattle.number_text.proofs.Words.{found_ok, plain_signed, utf8_signed, read_signed}
use Rattle.number_text.proofs.number.number_word.Goals as goal

pub returns-then-not-is_plain-clause-only : goal.returns-then-not-is_plain-clause-only
returns-then-not-is_plain-clause-only c = λ z fits e.
    let plain = rw (← e) at (plain_signed z fits) in
    absurd cc

pub returns-in_default-clause-only : goal.returns-in_default-clause-only
returns-in_default-clause-only c = λ z fits e. absurd (c.in_default.ensures.cases.0 (rw e (utf8_signed z fits)))

pub returns-clause-found : goal.returns-clause-found
returns-clause-found c =
    let (same, utf8) = c.in-Ok.ensures.cases in
    let plain : is_plain c.args.word.now ≡ true = cc in
    rw c.ok.ensures.value (found_ok c.args.word.now c.parse.result plain (rw same at c.parse.ensures.value.0))

pub returns-clause-only : goal.returns-clause-only
returns-clause-only c = λ z fits e.
    let (same, utf8) = c.in-Ok.ensures.cases in
    c.ok.ensures.value ∙ ap result_ok (read_signed z c.args.word.now c.parse.result fits e (rw same at c.parse.ensures.value.0))
