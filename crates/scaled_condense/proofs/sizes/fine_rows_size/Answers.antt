use Rattle.std.proofs.Common.{◌≡◌, ℕ, ◌+◌, ◌*◌, ◌^◌, ◌≤◌, ◌∙◌, sym, subst, refl}
use Rattle.std.specs.Option.{SomeIff}
use Rattle.qp_model.specs.problem.Design.{entries, rows}
use Rattle.qp_model.specs.problem.Parts.{design_of}
use Rattle.qp_model.specs.form.Quantities.{limit_width}
use Rattle.qp_model.specs.form.FineSizes.{fine_reach}
use Rattle.qp_model.proofs.SizeFacts.{rows_parts, rows_value, some_limit, some_row}
use Rattle.scaled_condense.proofs.ColumnFacts.{entries_fit, states_fit, width_fits, rows_area_fits}
use Rattle.scaled_condense.proofs.sizes.fine_rows_size.Goals as goal

pub returns-in_err-entry : goal.returns-in_err-entry
returns-in_err-entry c = rw c.from_residual.ensures (λ h. c.in_err-entry.ensures
    (let p = c.args.parts.now in let d = design_of p in
    rw (c.limit_width.ensures, c.requires.reach)
    (rows_parts (entries d) p.states (rows d) (limit_width d) (fine_reach d p.stages) _ (some_row p c.requires.design) (some_limit p c.requires.design) h).0))

pub returns : goal.returns
returns c =
    let p = c.args.parts.now in let d = design_of p in
    let P : ℕ → Type 0 = λ z. SomeIff c.limited_area.result (z ≤ 2 ^ 126) z in
    let count : (entries d + p.states + 1) * c.limit_count.result ≡ (entries d + p.states + 1) * rows d = rw c.limit_count.ensures refl in
    subst P (sym (rows_value _ ((entries d + p.states + 1) * rows d) c.in_ok-entry.entry (limit_width d) (fine_reach d p.stages) (fine_reach d p.stages)
    count (c.in_ok-entry.ensures.1 ∙ rw (c.limit_width.ensures, c.requires.reach) refl) refl)) c.limited_area.ensures

pub overflow_mul-entries : goal.overflow_mul-entries
overflow_mul-entries c = entries_fit c.args.parts.now c.requires.design

pub overflow_add-count : goal.overflow_add-count
overflow_add-count c = states_fit c.args.parts.now c.requires.design

pub overflow_add-count-2 : goal.overflow_add-count-2
overflow_add-count-2 c = width_fits c.args.parts.now c.requires.design

pub overflow_mul-count : goal.overflow_mul-count
overflow_mul-count c = rows_area_fits c.args.parts.now c.requires.design c.limit_count.result c.limit_count.ensures
