use Rattle.std.proofs.Common.{ℕ, ◌≤◌, ◌<◌, ◌^◌, arith, ◌*◌, ◌∙◌}
use Rattle.std.specs.Int.{w128}
use Rattle.std.proofs.lemmas.Int.{to_z-of_z}
use Rattle.qp_model.specs.problem.Parts.{design_of}
use Rattle.scaled_run.specs.ScaledForm.{scaled_hessian}
use Rattle.scaled_run.proofs.ListFacts.{one_pushed, all_held}
use Rattle.scaled_condense.proofs.ColumnFacts.{entries_fit}
use Rattle.scaled_condense.proofs.CostFacts.{product_row, product_column, product_at, product_near, hessian_entry, small_fits, own_room, over_square}
use Rattle.scaled_condense.proofs.hessian.hessian_column.Goals as goal

pub doubled-requires-clause-near : goal.doubled-requires-clause-near
doubled-requires-clause-near c =
    let p = c.args.parts.now in
    product_near c.args.over c.args.den p c.args.products.now.mid c.args.products.now.rad c.requires.products c.at.result c.loop-i.i c.args.j (omega (arith, c.loop-i-test.true)) (omega (arith, c.requires.column)) c.at.ensures

pub loop-i-preserved : goal.loop-i-preserved
loop-i-preserved c =
    let p = c.args.parts.now in
    let f = small_fits c.own_cost.result c.own_cost.ensures.small in
    one_pushed c.loop-i.out.items _ c.doubled.result c.loop-i.i (λ i. scaled_hessian c.args.over c.args.den (design_of p) i c.args.j) c.in_ok-push.ensures.items
    (hessian_entry c.args.over c.args.den (design_of p) c.at.result c.doubled.result _ c.loop-i.i c.args.j
    (c.at.ensures ∙ product_at c.args.over c.args.den p c.args.products.now.mid c.args.products.now.rad c.requires.products c.loop-i.i c.args.j (omega (arith, c.loop-i-test.true)) (omega (arith, c.requires.column)))
    (to_z-of_z w128 _ f ∙ c.own_cost.ensures.value) c.doubled.ensures.mid c.doubled.ensures.rad) c.loop-i.invariant

pub doubled-requires-clause-small : goal.doubled-requires-clause-small
doubled-requires-clause-small c =
    rw (to_z-of_z w128 _ (small_fits c.own_cost.result c.own_cost.ensures.small)) c.own_cost.ensures.small

pub at-requires-clause-row_in : goal.at-requires-clause-row_in
at-requires-clause-row_in c = product_row c.args.over c.args.den c.args.parts.now c.args.products.now.mid c.args.products.now.rad c.requires.products c.loop-i.i (omega (arith, c.loop-i-test.true))

pub at-requires-clause-col_in : goal.at-requires-clause-col_in
at-requires-clause-col_in c = product_column c.args.over c.args.den c.args.parts.now c.args.products.now.mid c.args.products.now.rad c.requires.products c.args.j (omega (arith, c.requires.column))

pub overflow_mul-i-end : goal.overflow_mul-i-end
overflow_mul-i-end c = entries_fit c.args.parts.now c.requires.products.scale.design

pub returns : goal.returns
returns c =
    let p = c.args.parts.now in
    all_held c.loop-i.out.items c.loop-i.i (p.stages * p.inputs) (λ k. k) (λ i. scaled_hessian c.args.over c.args.den (design_of p) i c.args.j) c.loop-i.auto.i-end c.loop-i-test.false c.loop-i.invariant

pub own_cost-requires-clause-design : goal.own_cost-requires-clause-design
own_cost-requires-clause-design c = c.requires.products.scale.design

pub own_cost-requires-clause-room : goal.own_cost-requires-clause-room
own_cost-requires-clause-room c = own_room c.args.over c.args.den c.args.parts.now c.args.products.now.mid c.args.products.now.rad c.requires.products

pub overflow_mul-scale : goal.overflow_mul-scale
overflow_mul-scale c = record { fits = under (over_square c.args.over c.args.den c.args.parts.now c.args.products.now.mid c.args.products.now.rad c.requires.products) }
  where
    under : {n : ℕ} → n ≤ 2 ^ 124 → n < 2 ^ 128
    under h = omega (arith, h)
