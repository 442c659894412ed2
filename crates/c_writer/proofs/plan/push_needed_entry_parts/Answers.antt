use Rattle.std.proofs.Common.{◌≡◌, ◌++◌, ◌∙◌, OnOk, List, ap, sym, subst, append-nil, codes, string_bytes}
use Rattle.std.proofs.lemmas.Bool.{cond-true, cond-false}
use Rattle.qp_model.specs.machine.Controller.{numbers}
use Rattle.c_language.specs.Syntax.{Statement}
use Rattle.c_writer.specs.Terms.{block_text}
use Rattle.c_writer.specs.Measured.{kinds_in}
use Rattle.c_writer.proofs.InParts.{entry_part}
use Rattle.c_writer.proofs.plan.push_needed_entry_parts.Goals as goal

pub returns-then-is_entry_needed_at : goal.returns-then-is_entry_needed_at
returns-then-is_entry_needed_at c =
    let n = numbers c.args.from.now.c.now in
    subst (λ (ss : List Statement). OnOk c.push_entry_parts.result (string_bytes c.push_entry_parts.new.text ≡ string_bytes c.args.text.now ++ block_text (kinds_in c.args.from.now) (codes "        ") ss))
    (sym (entry_part n c.args.j ∙ cond-true _ _ _ (sym c.is_entry_needed_at.ensures ∙ c.if-is_entry_needed_at.true))) c.push_entry_parts.ensures

pub returns-else-is_entry_needed_at : goal.returns-else-is_entry_needed_at
returns-else-is_entry_needed_at c =
    let n = numbers c.args.from.now.c.now in
    sym (ap (λ (ss : List Statement). string_bytes c.args.text.now ++ block_text (kinds_in c.args.from.now) (codes "        ") ss)
    (entry_part n c.args.j ∙ cond-false _ _ _ (sym c.is_entry_needed_at.ensures ∙ c.if-is_entry_needed_at.false)) ∙ append-nil (string_bytes c.args.text.now))
