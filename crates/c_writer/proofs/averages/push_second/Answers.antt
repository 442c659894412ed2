use Rattle.std.proofs.Common.{◌≡◌, ◌++◌, ◌∙◌, ◌∷◌, [], ℕ, List, length, ap, sym, arith, codes, string_bytes, get_or, pos}
use Rattle.std.proofs.lemmas.List.FromFn.{get_or-map-range_with_len, length-map-range_with_len}
use Rattle.number_text.specs.Lines.{text_of}
use Rattle.qp_model.specs.machine.Controller.{numbers}
use Rattle.c_language.specs.Syntax.{Expression}
use Rattle.c_language.specs.Syntax.Expression.{Constant}
use Rattle.c_program.specs.Of.{average_of}
use Rattle.c_program.specs.ByMachine.{plans_for}
use Rattle.c_language.specs.Text.{numbered_lines, average_line, average_head_text}
use Rattle.c_writer.specs.Measured.{program_in}
use Rattle.c_writer.proofs.Texts.{lines_then, lines_same, opened}
use Rattle.c_writer.proofs.averages.push_second.Goals as goal

pub returns : goal.returns
returns c =
    let n = numbers c.args.from.now.c.now in
    let p = program_in c.args.from.now in
    let old = string_bytes c.args.text.now in
    let new = average_of (plans_for c.args.from.now.machine n) in
    let a = average_head_text c.args.name.now p ∷ codes "{" ∷ [] in
    let b = numbered_lines (λ j. average_line j (new j)) n.inputs in
    let t1 = string_bytes c.push_str.new.self in
    let t2 = string_bytes c.push_averages.new.text in
    let line = λ (j : ℕ). average_line j (get_or p.averages j (Constant (pos 0))) in
    let same : b ≡ numbered_lines line (length p.averages) =
    lines_same (λ j. average_line j (new j)) line n.inputs (λ k l. ap (λ (e : Expression). average_line k e) (sym (get_or-map-range_with_len new 0 n.inputs k k (Constant (pos 0)) l (omega arith)))) ∙
    ap (λ (k : ℕ). numbered_lines line k) (sym (length-map-range_with_len new 0 n.inputs)) in
    lines_then (a ++ b) (codes "}" ∷ []) old t2 (string_bytes c.push_str-2.new.self)
    (lines_then a b old t1 t2 (opened (average_head_text c.args.name.now p) old (string_bytes c.push_average_head.new.text) t1 (c.in_ok-push_average_head.ensures c.args.from.now.machine) c.in_ok-push_str.ensures.bytes)
    (c.in_ok-push_averages.ensures ∙ ap (λ (k : ℕ). t1 ++ text_of (numbered_lines (λ j. average_line j (average_of k j)) n.inputs)) c.plans_of.ensures.value)) c.in_ok-push_str-2.ensures.bytes ∙
    ap (λ (ls : List (List ℕ)). old ++ text_of (a ++ ls ++ codes "}" ∷ [])) same
