use Rattle.std.proofs.Common.{ℕ, List, ◌∙◌, ap, arith, get_or, string_bytes, codes}
use Rattle.qp_model.specs.machine.Controller.{numbers}
use Rattle.overflow_check.proofs.Sizes.{length-plan_reach}
use Rattle.c_language.specs.Syntax.{variable}
use Rattle.c_language.specs.Syntax.Family.{Entry}
use Rattle.c_program.specs.Of.{kind_for}
use Rattle.c_language.specs.Text.{kind_text}
use Rattle.c_writer.specs.Terms.{entry_in}
use Rattle.c_writer.specs.Measured.{kinds_in}
use Rattle.c_writer.proofs.Texts.{declared_line}
use Rattle.c_writer.proofs.plan.push_entry.Goals as goal

pub bounds-from-j : goal.bounds-from-j
bounds-from-j c = rw c.args.from.now.plan_tops (omega (arith, length-plan_reach (numbers c.args.from.now.c.now), c.requires.in_range))

pub returns : goal.returns
returns c =
    let n = numbers c.args.from.now.c.now in
    declared_line (kinds_in c.args.from.now) (variable Entry c.args.j) (entry_in c.args.from.now.parted n c.args.j) (codes "        ") c.kind_word.result.now (string_bytes c.args.text.now) (string_bytes c.push_declared.new.text)
    (string_bytes c.push_entry_value.new.text) (string_bytes c.push_end.new.text)
    (c.kind_word.ensures ∙ ap (λ (tops : List ℕ). kind_text (kind_for (get_or tops c.args.j 0))) c.args.from.now.plan_tops) c.in_ok-push_declared.ensures c.in_ok-push_entry_value.ensures c.in_ok-push_end.ensures
