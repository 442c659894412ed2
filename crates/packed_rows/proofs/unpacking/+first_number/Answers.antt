use Rattle.std.proofs.Common.{sym, ◌∙◌, arith, rules}
use Rattle.packed_rows.proofs.NumberFacts.{none_there, last_there, more_there}
use Rattle.packed_rows.proofs.unpacking.+first_number.Goals as goal

pub returns-in_default-clause-value : goal.returns-in_default-clause-value
returns-in_default-clause-value t c = sym (none_there c.args.bytes.now (rw c.in_default.is at c.split_first.ensures.cases)).first

pub returns-in_default-clause-rest : goal.returns-in_default-clause-rest
returns-in_default-clause-rest t c = sym (none_there c.args.bytes.now (rw c.in_default.is at c.split_first.ensures.cases)).after

pub returns-then-low-lt128-clause-value : goal.returns-then-low-lt128-clause-value
returns-then-low-lt128-clause-value t c =
    c.from.ensures ∙ sym (last_there c.args.bytes.now c.in-Some.rest.now c.in-Some.low.now c.in-Some.ensures.cases.0 c.if-low-lt128.true).first

pub returns-then-low-lt128-clause-rest : goal.returns-then-low-lt128-clause-rest
returns-then-low-lt128-clause-rest t c = sym (last_there c.args.bytes.now c.in-Some.rest.now c.in-Some.low.now c.in-Some.ensures.cases.0 c.if-low-lt128.true).after

pub first_number-high-requires : goal.first_number-high-requires
first_number-high-requires t c =
    let more = more_there c.args.bytes.now c.in-Some.rest.now c.in-Some.low.now c.in-Some.ensures.cases.0 c.if-low-lt128.false in
    (search rules, omega (arith, more.first, c.requires))

pub overflow_mul-result : goal.overflow_mul-result
overflow_mul-result t c =
    let more = more_there c.args.bytes.now c.in-Some.rest.now c.in-Some.low.now c.in-Some.ensures.cases.0 c.if-low-lt128.false in
    omega (arith, more.first, c.requires, c.first_number-high.ensures.value)

pub overflow_add-result : goal.overflow_add-result
overflow_add-result t c =
    let more = more_there c.args.bytes.now c.in-Some.rest.now c.in-Some.low.now c.in-Some.ensures.cases.0 c.if-low-lt128.false in
    omega (arith, more.first, c.requires, c.from-2.ensures, c.first_number-high.ensures.value)

pub returns-clause-value : goal.returns-clause-value
returns-clause-value t c =
    let more = more_there c.args.bytes.now c.in-Some.rest.now c.in-Some.low.now c.in-Some.ensures.cases.0 c.if-low-lt128.false in
    omega (arith, more.first, c.from-2.ensures, c.first_number-high.ensures.value)

pub returns-clause-rest : goal.returns-clause-rest
returns-clause-rest t c =
    let more = more_there c.args.bytes.now c.in-Some.rest.now c.in-Some.low.now c.in-Some.ensures.cases.0 c.if-low-lt128.false in
    c.first_number-high.ensures.rest ∙ sym more.after
