use Rattle.std.proofs.Common.{◌≤◌, ◌<◌, ◌^◌, ℕ, ◌+◌, ◌*◌, arith, ◌∙◌}
use Rattle.std.proofs.Math.Nat.{mul-le-mul}
use Rattle.qp_model.specs.problem.Parts.{design_of}
use Rattle.scaled_run.specs.ScaledForm.{scaled_linear}
use Rattle.qp_model.proofs.VersionLaws.{design_states_le, design_stages_le}
use Rattle.scaled_run.proofs.ListFacts.{one_pushed, all_held}
use Rattle.scaled_condense.proofs.ColumnFacts.{entries_fit}
use Rattle.scaled_condense.proofs.CostFacts.{product_row, product_column, product_at, product_near, linear_entry}
use Rattle.scaled_condense.proofs.hessian.linear_column.Goals as goal

pub doubled-requires-clause-near : goal.doubled-requires-clause-near
doubled-requires-clause-near c =
    let p = c.args.parts.now in
    product_near c.args.over c.args.den p c.args.products.now.mid c.args.products.now.rad c.requires.products c.at.result c.loop-j.j (p.stages * p.inputs + c.args.i)
    (omega (arith, c.loop-j-test.true)) (omega (arith, c.requires.column)) c.at.ensures

pub loop-j-preserved : goal.loop-j-preserved
loop-j-preserved c =
    let p = c.args.parts.now in
    one_pushed c.loop-j.out.items _ c.doubled.result c.loop-j.j (λ j. scaled_linear c.args.over c.args.den (design_of p) j c.args.i) c.in_ok-push.ensures.items
    (linear_entry c.args.over c.args.den (design_of p) c.at.result c.doubled.result c.loop-j.j c.args.i
    (c.at.ensures ∙ product_at c.args.over c.args.den p c.args.products.now.mid c.args.products.now.rad c.requires.products c.loop-j.j (p.stages * p.inputs + c.args.i) (omega (arith, c.loop-j-test.true)) (omega (arith, c.requires.column)))
    c.doubled.ensures.mid c.doubled.ensures.rad) c.loop-j.invariant

-- the column of the products
fits : (stages inputs i states : ℕ) → stages ≤ 30 → inputs ≤ 3 → i < states → states ≤ 6 → stages * inputs + i < 2 ^ 64
fits stages inputs i states s n l m = omega (arith, mul-le-mul s n, l, m)

pub overflow_add-count : goal.overflow_add-count
overflow_add-count c =
    let p = c.args.parts.now in
    let design = c.requires.products.scale.design in
    record { fits = fits p.stages p.inputs c.args.i p.states (design_stages_le p design) design.inputs.1 c.requires.column (design_states_le p design) }

pub at-requires-clause-row_in : goal.at-requires-clause-row_in
at-requires-clause-row_in c = product_row c.args.over c.args.den c.args.parts.now c.args.products.now.mid c.args.products.now.rad c.requires.products c.loop-j.j (omega (arith, c.loop-j-test.true))

pub at-requires-clause-col_in : goal.at-requires-clause-col_in
at-requires-clause-col_in c =
    let p = c.args.parts.now in
    product_column c.args.over c.args.den p c.args.products.now.mid c.args.products.now.rad c.requires.products (p.stages * p.inputs + c.args.i) (omega (arith, c.requires.column))

pub overflow_mul-count : goal.overflow_mul-count
overflow_mul-count c = entries_fit c.args.parts.now c.requires.products.scale.design

pub returns : goal.returns
returns c =
    let p = c.args.parts.now in
    all_held c.loop-j.out.items c.loop-j.j (p.stages * p.inputs) (λ k. k) (λ j. scaled_linear c.args.over c.args.den (design_of p) j c.args.i) c.loop-j.auto.j-end c.loop-j-test.false c.loop-j.invariant
