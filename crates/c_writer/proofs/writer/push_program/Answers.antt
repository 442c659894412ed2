use Rattle.std.proofs.Common.{◌≡◌, ◌++◌, ◌∙◌, ◌∷◌, [], ℕ, List, length, ap, sym, arith, rules, codes, string_bytes, get_or}
use Rattle.std.proofs.lemmas.List.FromFn.{get_or-map-range_with_len, length-map-range_with_len}
use Rattle.number_text.specs.Lines.{text_of}
use Rattle.qp_model.specs.machine.Controller.{numbers}
use Rattle.c_language.specs.Syntax.{Variable, variable}
use Rattle.c_language.specs.Syntax.Family.{State, Sum}
use Rattle.c_program.specs.Of.{is_needed}
use Rattle.c_writer.specs.Measured.{program_in, before_in, body_in}
use Rattle.c_language.specs.Text.{statement_lines, numbered_lines, refusal_line, output_line, second_lines, opening_lines, repetition_line}
use Rattle.c_language.specs.Needed.{left_in}
use Rattle.c_writer.proofs.Texts.{lines_then, lines_same}
use Rattle.c_writer.proofs.writer.push_program.Goals as goal

pub returns : goal.returns
returns c =
    let n = numbers c.args.from.now.c.now in
    let p = program_in c.args.from.now in
    let m = length n.offsets in
    let old = string_bytes c.args.text.now in
    let a = opening_lines c.args.name.now p in
    let b = numbered_lines (refusal_line p) (length n.low) in
    let d = statement_lines p.kind (codes "    ") (left_in (is_needed n) (before_in c.args.from.now)) in
    let e = repetition_line p ∷ [] in
    let f = statement_lines p.kind (codes "        ") (left_in (is_needed n) (body_in c.args.from.now)) in
    let g = codes "    }" ∷ [] in
    let h = numbered_lines (λ j. output_line j (variable Sum j)) m in
    let t1 = string_bytes c.push_opening.new.text in
    let t2 = string_bytes c.push_refusals.new.text in
    let t3 = string_bytes c.push_before.new.text in
    let t4 = string_bytes c.push_loop.new.text in
    let t5 = string_bytes c.push_body.new.text in
    let t6 = string_bytes c.push_str.new.self in
    let t7 = string_bytes c.push_outputs.new.text in
    let count : c.len.result ≡ m = search rules in
    let line = λ (j : ℕ). output_line j (get_or p.outputs j (variable State 0)) in
    let outputs : h ≡ numbered_lines line (length p.outputs) =
    lines_same (λ j. output_line j (variable Sum j)) line m (λ k l. ap (λ (v : Variable). output_line k v) (sym (get_or-map-range_with_len (variable Sum) 0 m k k (variable State 0) l (omega arith)))) ∙
    ap (λ (k : ℕ). numbered_lines line k) (sym (length-map-range_with_len (variable Sum) 0 m)) in
    let i = codes "    return 0;" ∷ codes "}" ∷ [] ∷ [] in
    let t8 = string_bytes c.push_str-2.new.self in
    lines_then (a ++ b ++ d ++ e ++ f ++ g ++ h ++ i) (second_lines c.args.name.now p) old t8 (string_bytes c.push_second.new.text)
    (lines_then (a ++ b ++ d ++ e ++ f ++ g ++ h) i old t7 t8
    (lines_then (a ++ b ++ d ++ e ++ f ++ g) h old t6 t7
    (lines_then (a ++ b ++ d ++ e ++ f) g old t5 t6
    (lines_then (a ++ b ++ d ++ e) f old t4 t5
    (lines_then (a ++ b ++ d) e old t3 t4
    (lines_then (a ++ b) d old t2 t3
    (lines_then a b old t1 t2 c.in_ok-push_opening.ensures c.in_ok-push_refusals.ensures)
    c.in_ok-push_before.ensures) c.in_ok-push_loop.ensures) c.in_ok-push_body.ensures) c.in_ok-push_str.ensures.bytes)
    (c.in_ok-push_outputs.ensures ∙ ap (λ (k : ℕ). t6 ++ text_of (numbered_lines (λ j. output_line j (variable Sum j)) k)) count)) c.in_ok-push_str-2.ensures.bytes) c.in_ok-push_second.ensures ∙
    ap (λ (ls : List (List ℕ)). old ++ text_of (a ++ b ++ d ++ e ++ f ++ g ++ ls ++ i ++ second_lines c.args.name.now p)) outputs
