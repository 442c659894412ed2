use Rattle.std.proofs.Common.{◌≡◌, ◌++◌, ◌∙◌, ℕ, List, [], OnOk, ap, sym, subst, codes, string_bytes}
use Rattle.std.proofs.lemmas.Bool.{cond-true}
use Rattle.qp_model.specs.machine.Controller.{numbers}
use Rattle.c_program.specs.Of.{is_any_quick}
use Rattle.c_program.specs.FastOf.{scale_lines}
use Rattle.c_writer.specs.Terms.{block_text}
use Rattle.c_writer.specs.Measured.{kinds_in}
use Rattle.c_writer.proofs.QuickTexts.{scale_text, scale_part}
use Rattle.c_writer.proofs.quick.push_scale.Goals as goal

pub returns-then-is_any_quick_at : goal.returns-then-is_any_quick_at
returns-then-is_any_quick_at c =
    let m = c.args.from.now in
    let n = numbers m.c.now in
    let kept = cond-true (is_any_quick n) scale_lines [] (sym c.is_any_quick_at.ensures ∙ c.if-is_any_quick_at.true) in
    subst (λ (t : List ℕ). OnOk c.push_pieces.result (string_bytes c.push_pieces.new.text ≡ string_bytes c.args.text.now ++ t))
    (scale_text m ∙ ap (block_text (kinds_in m) (codes "        ")) (sym (scale_part n ∙ kept))) c.push_pieces.ensures
