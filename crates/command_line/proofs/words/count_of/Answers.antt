use Rattle.std.proofs.Common.{◌∙◌, ◌≤◌, arith}
use Rattle.std.proofs.lemmas.Int.{ints}
use Rattle.command_line.proofs.Numerals.{none_read, other_read}
use Rattle.command_line.proofs.words.count_of.Goals as goal

pub returns-in_default : goal.returns-in_default
returns-in_default c = λ n is.
    let few : c.args.most ≤ 4294967295 = omega arith in
    other_read c.args.word.now c.args.most n c.in-Some.number few (λ z fit spelled. c.in-Some.ensures.only z fit (c.as_bytes.ensures.value ∙ spelled)) (λ low high. omega (arith, ints)) is

pub returns-in_default-2 : goal.returns-in_default-2
returns-in_default-2 c = λ n is.
    let few : c.args.most ≤ 4294967295 = omega arith in
    other_read c.args.word.now c.args.most n c.in-Some.number few (λ z fit spelled. c.in-Some.ensures.only z fit (c.as_bytes.ensures.value ∙ spelled)) (λ low high. omega (arith, ints)) is

pub returns-in_default-3 : goal.returns-in_default-3
returns-in_default-3 c = λ n is.
    let few : c.args.most ≤ 4294967295 = omega arith in
    none_read c.args.word.now c.args.most n few (λ z fit spelled. c.in_default.ensures.only z fit (c.as_bytes.ensures.value ∙ spelled)) is
