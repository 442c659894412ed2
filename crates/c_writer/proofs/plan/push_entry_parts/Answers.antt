use Rattle.std.proofs.Common.{◌++◌, ◌∙◌, ℕ, List, ap, refl, arith, get_or, codes, decimal, string_bytes}
use Rattle.qp_model.specs.machine.Controller.{numbers}
use Rattle.overflow_check.proofs.Sizes.{length-plan_reach}
use Rattle.c_language.specs.Syntax.{variable}
use Rattle.c_language.specs.Syntax.Family.{Entry, EntryHigh, EntryLow}
use Rattle.c_language.specs.Text.{kind_text}
use Rattle.c_program.specs.Of.{high_top, kind_for}
use Rattle.c_writer.specs.Terms.{high_line, low_line}
use Rattle.c_writer.specs.Measured.{kinds_in}
use Rattle.c_writer.proofs.InParts.{parts_read}
use Rattle.c_writer.proofs.plan.push_entry_parts.Goals as goal

pub bounds-from-j : goal.bounds-from-j
bounds-from-j c = rw c.args.from.now.plan_tops (omega (arith, length-plan_reach (numbers c.args.from.now.c.now), c.requires.in_range))

pub returns : goal.returns
returns c =
    let j = c.args.j in
    let old = string_bytes c.args.text.now in
    let kind = c.high_kind-kind.result.now in
    let whole = codes "u" ++ decimal j in
    let lines = λ (high low : List ℕ). old ++ (high_line kind whole high ++ low_line whole high low) in
    parts_read (kinds_in c.args.from.now) (variable Entry j) (variable EntryHigh j) (variable EntryLow j) kind old (string_bytes c.push_parts.new.text)
    (c.high_kind-kind.ensures ∙ ap (λ (tops : List ℕ). kind_text (kind_for (high_top (get_or tops j 0)))) c.args.from.now.plan_tops) refl
    (c.in_ok-push_parts.ensures ∙ (λ i. lines (c.entry_letter-high.ensures j i) (c.entry_letter-low.ensures j i)))
