use Rattle.std.proofs.Common.{rules, ◌∙◌}
use Rattle.qp_model.specs.form.FineSizes.{is_fine}
use Rattle.qp_model.specs.problem.Parts.{design_of}
use Rattle.hessian_check.proofs.LoweringLaws.{exponents_of, listed_of, replicated_of}
use Rattle.hessian_check.proofs.RowLaws.{not_true}
use Rattle.hessian_check.proofs.row_exponents.exponents.Goals as goal

pub lowered_rows-requires-clause-room : goal.lowered_rows-requires-clause-room
lowered_rows-requires-clause-room c = λ p f. (c.if-is_lowering_limited.ensures (is_fine (design_of p)) p f).0 (search rules)

pub returns-then-is_lowering_limited-clause-list : goal.returns-then-is_lowering_limited-clause-list
returns-then-is_lowering_limited-clause-list c = λ p f.
    listed_of (design_of p) c.args.s c.lowered_rows.result ((c.if-is_lowering_limited.ensures (is_fine (design_of p)) p f).0 (search rules)) (c.lowered_rows.ensures p f)

pub returns-then-is_lowering_limited-clause-exponents : goal.returns-then-is_lowering_limited-clause-exponents
returns-then-is_lowering_limited-clause-exponents c = λ p f.
    exponents_of p c.args.c.now f c.args.s (c.requires.chosen p f) c.lowered_rows.result
    (listed_of (design_of p) c.args.s c.lowered_rows.result ((c.if-is_lowering_limited.ensures (is_fine (design_of p)) p f).0 (search rules)) (c.lowered_rows.ensures p f))

pub returns-else-is_lowering_limited-clause-list : goal.returns-else-is_lowering_limited-clause-list
returns-else-is_lowering_limited-clause-list c = λ p f.
    replicated_of (design_of p) c.args.s c.rows.result c.vec.result (λ h. not_true ((c.if-is_lowering_limited.ensures (is_fine (design_of p)) p f).1 h)) (c.rows.ensures.count ∙ f.shapes.g.rows)
    c.vec.ensures.items_if_clones_equal

pub returns-else-is_lowering_limited-clause-exponents : goal.returns-else-is_lowering_limited-clause-exponents
returns-else-is_lowering_limited-clause-exponents c = λ p f.
    exponents_of p c.args.c.now f c.args.s (c.requires.chosen p f) c.vec.result
    (replicated_of (design_of p) c.args.s c.rows.result c.vec.result (λ h. not_true ((c.if-is_lowering_limited.ensures (is_fine (design_of p)) p f).1 h)) (c.rows.ensures.count ∙ f.shapes.g.rows)
    c.vec.ensures.items_if_clones_equal)
