use Rattle.std.proofs.Common.{◌≡◌, ℕ, ◌+◌, ◌*◌, ◌^◌, ◌<◌, ◌≤◌, arith, ◌∙◌, sym, subst, refl}
use Rattle.std.proofs.Math.Nat.{mul-le-mul, one-le-mul}
use Rattle.std.specs.Option.{SomeIff}
use Rattle.qp_model.specs.problem.Design.{entries, rows}
use Rattle.qp_model.specs.problem.Parts.{design_of}
use Rattle.qp_model.specs.form.Quantities.{limit_width, prediction_size}
use Rattle.qp_model.proofs.SizeFacts.{rows_parts, rows_value, some_limit, some_row, counted_rows}
use Rattle.qp_model.proofs.VersionLaws.{design_states_le, design_entries_le}
use Rattle.qp_model.proofs.sizes.rows_size.Goals as goal

pub returns-in_err-prediction_size : goal.returns-in_err-prediction_size
returns-in_err-prediction_size c = rw c.from_residual.ensures (λ h. c.in_err-prediction_size.ensures
    (let p = c.args.parts.now in let d = design_of p in
    (rows_parts (entries d) p.states (rows d) (limit_width d) (prediction_size d) _ (some_row p c.requires) (some_limit p c.requires) h).1))

pub returns-in_err-entry : goal.returns-in_err-entry
returns-in_err-entry c = rw c.from_residual-in_err-entry.ensures (λ h. c.in_err-entry.ensures
    (let p = c.args.parts.now in let d = design_of p in
    rw (c.limit_width.ensures, c.in_ok-prediction_size.ensures.1)
    (rows_parts (entries d) p.states (rows d) (limit_width d) (prediction_size d) _ (some_row p c.requires) (some_limit p c.requires) h).0))

pub returns : goal.returns
returns c =
    let p = c.args.parts.now in let d = design_of p in
    let P : ℕ → Type 0 = λ z. SomeIff c.limited_area.result (z ≤ 2 ^ 126) z in
    let count : (entries d + p.states + 1) * (p.stages * c.rows.result + c.rows-2.result) ≡ (entries d + p.states + 1) * rows d = rw (c.rows.ensures.count, c.rows-2.ensures.count) refl in
    subst P (sym (rows_value _ ((entries d + p.states + 1) * rows d) c.in_ok-entry.entry (limit_width d) (prediction_size d) (prediction_size d)
    count (c.in_ok-entry.ensures.1 ∙ rw (c.limit_width.ensures, c.in_ok-prediction_size.ensures.1) refl) refl)) c.limited_area.ensures

pub overflow_mul-entries : goal.overflow_mul-entries
overflow_mul-entries c = record { fits = omega (arith, design_entries_le c.args.parts.now c.requires) }

pub overflow_mul-rows : goal.overflow_mul-rows
overflow_mul-rows c = record { fits = omega (arith, (counted_rows c.args.parts.now _ _ c.requires c.rows.ensures.count refl).1) }

pub overflow_add-rows : goal.overflow_add-rows
overflow_add-rows c = record { fits = omega (arith, (counted_rows c.args.parts.now _ _ c.requires c.rows.ensures.count c.rows-2.ensures.count).1) }

pub overflow_add-count : goal.overflow_add-count
overflow_add-count c = record { fits = omega (arith, design_entries_le c.args.parts.now c.requires, design_states_le c.args.parts.now c.requires) }

pub overflow_add-count-2 : goal.overflow_add-count-2
overflow_add-count-2 c = record { fits = omega (arith, design_entries_le c.args.parts.now c.requires, design_states_le c.args.parts.now c.requires) }

-- the entries, the states and one more, times the rows
product : (entries states rows : ℕ) → entries ≤ 90 → states ≤ 6 → rows ≤ 372 → (entries + states + 1) * rows < 2 ^ 64
product entries states rows e s r =
    let count : entries + states + 1 ≤ 97 = omega arith in
    let all : (entries + states + 1) * rows ≤ 97 * 372 = mul-le-mul count r in
    omega (arith, all)

pub overflow_mul-count : goal.overflow_mul-count
overflow_mul-count c =
    let p = c.args.parts.now in
    record { fits = product _ p.states _ (design_entries_le p c.requires) (design_states_le p c.requires) (counted_rows p _ _ c.requires c.rows.ensures.count c.rows-2.ensures.count).1 }

pub limited_area-requires : goal.limited_area-requires
limited_area-requires c = one-le-mul (more _ _) (counted_rows c.args.parts.now _ _ c.requires c.rows.ensures.count c.rows-2.ensures.count).0
  where
    more : (entries states : ℕ) → 1 ≤ entries + states + 1
    more entries states = omega arith
