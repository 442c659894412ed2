use Rattle.std.proofs.Common.{◌≤◌, ◌<◌, ◌^◌, ℕ, rules, ◌+◌, ◌*◌, FitsSigned, unsigned_abs, arith, ◌∙◌}
use Rattle.std.proofs.Math.Nat.{mul-le-mul}
use Rattle.std.specs.Int.{w128}
use Rattle.std.proofs.lemmas.Int.{to_z-of_z}
use Rattle.qp_model.specs.problem.Parts.{design_of}
use Rattle.scaled_run.specs.ScaledForm.{scaled_constant}
use Rattle.qp_model.proofs.VersionLaws.{design_states_le, design_stages_le}
use Rattle.scaled_run.proofs.ListFacts.{one_pushed, all_held}
use Rattle.scaled_condense.proofs.ColumnFacts.{entries_fit}
use Rattle.scaled_condense.proofs.CostFacts.{product_row, product_column, product_at, product_near, constant_entry, negated_fits, negated_is}
use Rattle.scaled_condense.proofs.hessian.constant_numbers.Goals as goal

pub doubled-twice-requires-clause-near : goal.doubled-twice-requires-clause-near
doubled-twice-requires-clause-near c =
    let p = c.args.parts.now in
    product_near c.args.over c.args.den p c.args.products.now.mid c.args.products.now.rad c.requires c.at.result c.loop-j.j (p.stages * p.inputs + p.states) (omega (arith, c.loop-j-test.true)) (omega arith) c.at.ensures

pub overflow_sub-twice : goal.overflow_sub-twice
overflow_sub-twice c =
    let p = c.args.parts.now in
    let f : FitsSigned w128 c.doubled-twice.result.mid = search rules in
    negated_fits c.doubled-twice.result.mid c.at.result.mid (unsigned_abs c.at.result.rad) f c.doubled-twice.ensures.mid
    (product_near c.args.over c.args.den p c.args.products.now.mid c.args.products.now.rad c.requires c.at.result c.loop-j.j (p.stages * p.inputs + p.states) (omega (arith, c.loop-j-test.true)) (omega arith) c.at.ensures)

pub loop-j-preserved : goal.loop-j-preserved
loop-j-preserved c =
    let p = c.args.parts.now in
    let f : FitsSigned w128 c.doubled-twice.result.mid = search rules in
    let g : FitsSigned w128 c.doubled-twice.result.rad = search rules in
    one_pushed c.loop-j.out.items _ _ c.loop-j.j (scaled_constant c.args.over c.args.den (design_of p)) c.in_ok-push.ensures.items
    (constant_entry c.args.over c.args.den (design_of p) c.at.result c.doubled-twice.result _ _ c.loop-j.j
    (c.at.ensures ∙ product_at c.args.over c.args.den p c.args.products.now.mid c.args.products.now.rad c.requires c.loop-j.j (p.stages * p.inputs + p.states) (omega (arith, c.loop-j-test.true)) (omega arith))
    c.doubled-twice.ensures.mid c.doubled-twice.ensures.rad
    (negated_is c.doubled-twice.result.mid c.at.result.mid (unsigned_abs c.at.result.rad) f c.doubled-twice.ensures.mid
    (product_near c.args.over c.args.den p c.args.products.now.mid c.args.products.now.rad c.requires c.at.result c.loop-j.j (p.stages * p.inputs + p.states) (omega (arith, c.loop-j-test.true)) (omega arith) c.at.ensures))
    (to_z-of_z w128 _ g)) c.loop-j.invariant

-- the column of the products
fits : (stages inputs states : ℕ) → stages ≤ 30 → inputs ≤ 3 → states ≤ 6 → stages * inputs + states < 2 ^ 64
fits stages inputs states s n m = omega (arith, mul-le-mul s n, m)

pub overflow_add-count : goal.overflow_add-count
overflow_add-count c =
    let p = c.args.parts.now in
    record { fits = fits p.stages p.inputs p.states (design_stages_le p c.requires.scale.design) c.requires.scale.design.inputs.1 (design_states_le p c.requires.scale.design) }

pub at-requires-clause-row_in : goal.at-requires-clause-row_in
at-requires-clause-row_in c = product_row c.args.over c.args.den c.args.parts.now c.args.products.now.mid c.args.products.now.rad c.requires c.loop-j.j (omega (arith, c.loop-j-test.true))

pub at-requires-clause-col_in : goal.at-requires-clause-col_in
at-requires-clause-col_in c =
    let p = c.args.parts.now in
    product_column c.args.over c.args.den p c.args.products.now.mid c.args.products.now.rad c.requires (p.stages * p.inputs + p.states) (omega arith)

pub overflow_mul-count : goal.overflow_mul-count
overflow_mul-count c = entries_fit c.args.parts.now c.requires.scale.design

pub returns : goal.returns
returns c =
    let p = c.args.parts.now in
    all_held c.loop-j.out.items c.loop-j.j (p.stages * p.inputs) (λ k. k) (scaled_constant c.args.over c.args.den (design_of p)) c.loop-j.auto.j-end c.loop-j-test.false c.loop-j.invariant
