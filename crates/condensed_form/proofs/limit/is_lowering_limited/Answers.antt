use Rattle.std.proofs.Common.{◌≡◌, FitsSigned, unsigned_abs, arith, ap, ◌∙◌, rules, refl, ℕ, ◌<◌, ◌≤◌}
use Rattle.std.specs.Int.{w128}
use Rattle.std.proofs.lemmas.Int.{to_z-of_z}
use Rattle.std.proofs.lemmas.Bool.{leb-true}
use Rattle.qp_model.specs.form.Class.{rows_in}
use Rattle.qp_model.specs.problem.Parts.{design_of}
use Rattle.condensed_form.proofs.LimitFacts.{lowering_by, lowering_back}
use Rattle.condensed_form.proofs.limit.is_lowering_limited.Goals as goal

-- no number is above another and at most it
over : {P : Type 0} (a b : ℕ) → b < a → a ≤ b → P
over a b h k = absurd (let f : ⊥ = omega (arith, h, k) in f)

pub returns-then-size : goal.returns-then-size
returns-then-size c = λ fine p f.
    let d = design_of p in
    let fits : FitsSigned w128 c.args.c.now.rows_size = search rules in
    let size : c.unsigned_abs-size.result ≡ rows_in fine d = c.unsigned_abs-size.ensures.value ∙ ap unsigned_abs (to_z-of_z w128 _ fits ∙ f.sizes.limit_size) in
    let test = c.is_limited_with.ensures fine p f in
    (λ t. lowering_by fine d _ _ size c.if-size.true refl (test.0 t), λ h. test.1 (lowering_back fine d _ _ size refl h).1)

pub returns-else-size : goal.returns-else-size
returns-else-size c = λ fine p f.
    let d = design_of p in
    let fits : FitsSigned w128 c.args.c.now.rows_size = search rules in
    let size : c.unsigned_abs-size.result ≡ rows_in fine d = c.unsigned_abs-size.ensures.value ∙ ap unsigned_abs (to_z-of_z w128 _ fits ∙ f.sizes.limit_size) in
    (λ t. over _ _ c.if-size.false (leb-true _ _ t), λ h. over _ _ c.if-size.false (lowering_back fine d _ _ size refl h).0)
