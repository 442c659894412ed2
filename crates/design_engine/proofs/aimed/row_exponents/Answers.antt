use Rattle.std.proofs.Common.{◌≡◌, ℕ, ◌<◌, List, replicate, sym, ap, subst, ◌∙◌}
use Rattle.std.proofs.lemmas.List.{get_or-replicate}
use Rattle.qp_model.specs.form.Curvature.{AreExponents, IsExponent}
use Rattle.qp_model.specs.problem.Design.{Design, rows}
use Rattle.qp_model.specs.problem.Parts.{design_of}
use Rattle.hessian_check.specs.RowExponents.{exponent_in}
use Rattle.hessian_check.proofs.RowExponentLaws.{exponents_same}
use Rattle.design_engine.proofs.AnswerLaws.{ok_map}
use Rattle.design_engine.proofs.aimed.row_exponents.Goals as goal

-- one exponent for all rows, told row by row
repeated : (d : Design) (s n : ℕ) (es : List ℕ) → es ≡ replicate n s → n ≡ rows d → IsExponent d s → AreExponents d (exponent_in es) s
repeated d s n es e count one = exponents_same d (λ i. s) (exponent_in es) s (λ i l.
    sym (ap (λ (xs : List ℕ). exponent_in xs i) e ∙ get_or-replicate n i s 0 (subst (λ (m : ℕ). i < m) (sym count) l))) one

pub returns-then-parts-eq-FIRST_VERSION-clause-curved : goal.returns-then-parts-eq-FIRST_VERSION-clause-curved
returns-then-parts-eq-FIRST_VERSION-clause-curved c =
    ok_map c.vec.result _ _ c.vec.ensures.items_if_clones_equal (λ es e.
    repeated (design_of c.args.design.now) c.args.s c.rows.result es.items (e (λ y h. h)) (c.rows.ensures.count ∙ c.requires.form.shapes.g.rows) c.requires.curved)

pub returns-else-parts-eq-FIRST_VERSION-clause-list : goal.returns-else-parts-eq-FIRST_VERSION-clause-list
returns-else-parts-eq-FIRST_VERSION-clause-list c =
    ok_map c.exponents.result _ _ (c.exponents.ensures.list c.args.design.now c.requires.form) (λ es h.
    record { first = λ e. absurd (c.if-parts-eq-FIRST_VERSION.false (rw c.parts.ensures.value e)); second = λ n. h })

pub returns-else-parts-eq-FIRST_VERSION-clause-curved : goal.returns-else-parts-eq-FIRST_VERSION-clause-curved
returns-else-parts-eq-FIRST_VERSION-clause-curved c = c.exponents.ensures.exponents c.args.design.now c.requires.form

pub exponents-requires-clause-form : goal.exponents-requires-clause-form
exponents-requires-clause-form c = record { parts = c.args.design.now; form = c.requires.form }

pub exponents-requires-clause-chosen : goal.exponents-requires-clause-chosen
exponents-requires-clause-chosen c = c.requires.chosen

pub returns-then-parts-eq-FIRST_VERSION-clause-list : goal.returns-then-parts-eq-FIRST_VERSION-clause-list
returns-then-parts-eq-FIRST_VERSION-clause-list c =
    let count = c.rows.ensures.count ∙ c.requires.form.shapes.g.rows in
    ok_map c.vec.result _ _ c.vec.ensures.items_if_clones_equal (λ es e. record {
      first = λ v. e (λ y h. h) ∙ ap (λ (n : ℕ). replicate n c.args.s) count;
      second = λ other. absurd (other (rw c.parts.ensures.value at c.if-parts-eq-FIRST_VERSION.true));
    })
