use Rattle.std.proofs.Common.{◌≡◌, ◌++◌, ◌∙◌, ℕ, List, length, ap, sym, rules, decimal, codes, string_bytes}
use Rattle.std.proofs.lemmas.List.FromFn.{length-map-range_with_len}
use Rattle.qp_model.specs.machine.Controller.{numbers}
use Rattle.c_language.specs.Syntax.{variable}
use Rattle.c_language.specs.Syntax.Family.{Sum}
use Rattle.c_program.specs.Of.{average_of}
use Rattle.c_program.specs.ByMachine.{plans_for}
use Rattle.c_writer.proofs.Texts.{head_pieces}
use Rattle.c_writer.proofs.averages.push_average_head.Goals as goal

pub returns : goal.returns
returns c = λ m.
    let n = numbers c.args.c.now in
    let a : c.as_str.result.now ≡ decimal (length n.offsets) = search rules in
    let b : c.as_str-2.result.now ≡ decimal n.inputs = search rules in
    let d = a ∙ ap decimal (sym (length-map-range_with_len (variable Sum) 0 (length n.offsets))) in
    let e = b ∙ ap decimal (sym (length-map-range_with_len (average_of (plans_for m n)) 0 n.inputs)) in
    c.in_ok-push_pieces.ensures ∙ ap (λ (t : List ℕ). string_bytes c.args.text.now ++ t) (rw (d, e)
    (head_pieces (codes "void ") c.args.name.now (codes "_first_inputs(const int64_t sums[") _ (codes "], int64_t inputs[") _ (codes "])")))
