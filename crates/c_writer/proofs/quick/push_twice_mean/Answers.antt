use Rattle.std.proofs.Common.{◌++◌, codes, string_bytes}
use Rattle.c_language.specs.Syntax.Family.{Head}
use Rattle.c_program.specs.FastOf.{exact_statements, first_round_statements, second_round_statements, rounds_statements}
use Rattle.c_writer.specs.Measured.{kinds_in}
use Rattle.c_writer.proofs.Texts.{blocks_more}
use Rattle.c_writer.proofs.quick.push_twice_mean.Goals as goal

pub returns : goal.returns
returns c =
    let i = c.args.i in
    let more = blocks_more (kinds_in c.args.from.now) (codes "        ") in
    let old = string_bytes c.args.text.now in
    let first = first_round_statements i in
    let second = second_round_statements i in
    let t1 = string_bytes c.push_first_round.new.text in
    let t2 = string_bytes c.push_second_round.new.text in
    let t3 = string_bytes c.push_exact.new.text in
    more (first ++ second ++ exact_statements Head i) (rounds_statements i) old t3 (string_bytes c.push_rounds.new.text)
    (more (first ++ second) (exact_statements Head i) old t2 t3 (more first second old t1 t2 c.in_ok-push_first_round.ensures c.in_ok-push_second_round.ensures) c.in_ok-push_exact.ensures)
    c.in_ok-push_rounds.ensures
