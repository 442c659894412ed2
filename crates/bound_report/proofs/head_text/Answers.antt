use Rattle.std.proofs.Common.{rules, ◌≡◌, ◌++◌, ◌∷◌, [], ◌∙◌, string_bytes, pos, ℕ, List, FitsSigned, arith}
use Rattle.std.specs.Prelude.{codes}
use Rattle.std.specs.Int.{w128}
use Rattle.std.proofs.lemmas.Int.{to_z_pos, to_z-of_z}
use Rattle.number_text.specs.Lines.{line_of, text_of}
use Rattle.qp_model.specs.bounds.Printed.{printed}
use Rattle.bound_report.specs.Report.{cost_line}
use Rattle.bound_report.proofs.Growing.{pushed}
use Rattle.bound_report.proofs.head_text.Goals as goal

pub returns : goal.returns
returns c =
    let b = c.args.b.now in
    let margin_fits : FitsSigned w128 b.margin = search rules in
    let multiplier_fits : FitsSigned w128 b.multiplier = search rules in
    let margin = to_z-of_z w128 b.margin margin_fits in
    let multiplier = to_z-of_z w128 b.multiplier multiplier_fits in
    let words = to_z_pos w128 b.words (omega arith) in
    let version_fits : FitsSigned w128 c.from.result = search rules in
    let version = to_z-of_z w128 c.from.result version_fits ∙ c.from.ensures in
    let step_fits : FitsSigned w128 c.from-2.result = search rules in
    let step = to_z-of_z w128 c.from-2.result step_fits ∙ c.from-2.ensures in
    let steps_fits : FitsSigned w128 c.from-3.result = search rules in
    let steps = to_z-of_z w128 c.from-3.result steps_fits ∙ c.from-3.ensures in
    let bits_fits : FitsSigned w128 c.from-4.result = search rules in
    let bits = to_z-of_z w128 c.from-4.result bits_fits ∙ c.from-4.ensures in
    let width_fits : FitsSigned w128 c.from-5.result = search rules in
    let width = to_z-of_z w128 c.from-5.result width_fits ∙ c.from-5.ensures in
    let text0 : List ℕ = string_bytes c.push_line.new.text in
    let text1 : List ℕ = string_bytes c.push_line-2.new.text in
    let text2 : List ℕ = string_bytes c.push_cost.new.text in
    let text3 : List ℕ = string_bytes c.push_line-3.new.text in
    let text4 : List ℕ = string_bytes c.push_line-4.new.text in
    let text5 : List ℕ = string_bytes c.push_line-5.new.text in
    let text6 : List ℕ = string_bytes c.push_line-6.new.text in
    let text7 : List ℕ = string_bytes c.push_line-7.new.text in
    let text8 : List ℕ = string_bytes c.push_line-8.new.text in
    let l0 = line_of (codes "mpc-report") (pos b.version ∷ []) in
    let l1 = line_of (codes "margin") (b.margin ∷ pos 65536 ∷ []) in
    let l2 = cost_line (printed b) in
    let l3 = line_of (codes "multiplier") (b.multiplier ∷ []) in
    let l4 = line_of (codes "step") (pos b.step ∷ []) in
    let l5 = line_of (codes "steps") (pos b.steps ∷ []) in
    let l6 = line_of (codes "bits") (pos b.bits ∷ []) in
    let l7 = line_of (codes "width") (pos b.width ∷ []) in
    let l8 = line_of (codes "words") (pos b.words ∷ []) in
    let empty : string_bytes c.new-text.result ≡ text_of [] = search rules in
    let e0 : text0 ≡ text_of (l0 ∷ []) = pushed [] (l0 ∷ []) (string_bytes c.new-text.result) text0 empty
    (c.in_ok-push_line.ensures.text ∙ (λ i. string_bytes c.new-text.result ++ text_of (line_of (codes "mpc-report") (version i ∷ []) ∷ []))) in
    let e1 : text1 ≡ text_of (l0 ∷ l1 ∷ []) = pushed (l0 ∷ []) (l1 ∷ []) text0 text1 e0
    (c.in_ok-push_line-2.ensures.text ∙ (λ i. text0 ++ text_of (line_of (codes "margin") (margin i ∷ pos 65536 ∷ []) ∷ []))) in
    let e2 : text2 ≡ text_of (l0 ∷ l1 ∷ l2 ∷ []) = pushed (l0 ∷ l1 ∷ []) (l2 ∷ []) text1 text2 e1
    c.in_ok-push_cost.ensures in
    let e3 : text3 ≡ text_of (l0 ∷ l1 ∷ l2 ∷ l3 ∷ []) = pushed (l0 ∷ l1 ∷ l2 ∷ []) (l3 ∷ []) text2 text3 e2
    (c.in_ok-push_line-3.ensures.text ∙ (λ i. text2 ++ text_of (line_of (codes "multiplier") (multiplier i ∷ []) ∷ []))) in
    let e4 : text4 ≡ text_of (l0 ∷ l1 ∷ l2 ∷ l3 ∷ l4 ∷ []) = pushed (l0 ∷ l1 ∷ l2 ∷ l3 ∷ []) (l4 ∷ []) text3 text4 e3
    (c.in_ok-push_line-4.ensures.text ∙ (λ i. text3 ++ text_of (line_of (codes "step") (step i ∷ []) ∷ []))) in
    let e5 : text5 ≡ text_of (l0 ∷ l1 ∷ l2 ∷ l3 ∷ l4 ∷ l5 ∷ []) = pushed (l0 ∷ l1 ∷ l2 ∷ l3 ∷ l4 ∷ []) (l5 ∷ []) text4 text5 e4
    (c.in_ok-push_line-5.ensures.text ∙ (λ i. text4 ++ text_of (line_of (codes "steps") (steps i ∷ []) ∷ []))) in
    let e6 : text6 ≡ text_of (l0 ∷ l1 ∷ l2 ∷ l3 ∷ l4 ∷ l5 ∷ l6 ∷ []) = pushed (l0 ∷ l1 ∷ l2 ∷ l3 ∷ l4 ∷ l5 ∷ []) (l6 ∷ []) text5 text6 e5
    (c.in_ok-push_line-6.ensures.text ∙ (λ i. text5 ++ text_of (line_of (codes "bits") (bits i ∷ []) ∷ []))) in
    let e7 : text7 ≡ text_of (l0 ∷ l1 ∷ l2 ∷ l3 ∷ l4 ∷ l5 ∷ l6 ∷ l7 ∷ []) = pushed (l0 ∷ l1 ∷ l2 ∷ l3 ∷ l4 ∷ l5 ∷ l6 ∷ []) (l7 ∷ []) text6 text7 e6
    (c.in_ok-push_line-7.ensures.text ∙ (λ i. text6 ++ text_of (line_of (codes "width") (width i ∷ []) ∷ []))) in
    pushed (l0 ∷ l1 ∷ l2 ∷ l3 ∷ l4 ∷ l5 ∷ l6 ∷ l7 ∷ []) (l8 ∷ []) text7 text8 e7
    (c.in_ok-push_line-8.ensures.text ∙ (λ i. text7 ++ text_of (line_of (codes "words") (words i ∷ []) ∷ [])))
