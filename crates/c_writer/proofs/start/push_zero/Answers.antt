use Rattle.std.proofs.Common.{◌++◌, ◌∙◌, ℕ, List, ap, pos, codes, string_bytes}
use Rattle.c_language.specs.Syntax.{variable}
use Rattle.c_language.specs.Syntax.Expression.{Constant}
use Rattle.c_writer.specs.Terms.{declared_text}
use Rattle.c_writer.specs.Measured.{held_family, kinds_in}
use Rattle.c_writer.proofs.Texts.{declared_line, zero_text}
use Rattle.c_writer.proofs.start.push_zero.Goals as goal

pub returns : goal.returns
returns c =
    let kind = c.held_kind-kind.result.now in
    declared_line (kinds_in c.args.from.now) (variable (held_family c.args.held) c.args.i) (Constant (pos 0)) (codes "    ") kind (string_bytes c.args.text.now) (string_bytes c.push_declared.new.text)
    (string_bytes c.push_str.new.self) (string_bytes c.push_end.new.text) c.held_kind-kind.ensures
    (c.in_ok-push_declared.ensures ∙ ap (λ (name : List ℕ). string_bytes c.args.text.now ++ declared_text (codes "    ") kind name) (c.held_letter.ensures c.args.i))
    (c.in_ok-push_str.ensures.bytes ∙ ap (λ (t : List ℕ). string_bytes c.push_declared.new.text ++ t) zero_text) c.in_ok-push_end.ensures
