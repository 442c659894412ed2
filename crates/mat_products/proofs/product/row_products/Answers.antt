use Rattle.std.proofs.Common.{length, ◌≡◌, ◌<◌, ◌^◌, ℕ, subst, ◌∙◌, ap, sym, arith, rules, below_more, take, map, List, ℤ}
use Rattle.std.specs.Prelude.{All, IsSome}
use Rattle.std.proofs.Math.Seq.{take-length}
use Rattle.std.proofs.lemmas.Grind.{common_steps}
use Rattle.mat_int.specs.Row.{abs_dot}
use Rattle.mat_int.specs.Matrix.{Matrix, times}
use Rattle.mat_products.proofs.ProductLaws.{products_are, products_fit, product_is_wide}
use Rattle.mat_products.proofs.product.row_products.Goals as goal

pub returns-then-is_none-clause-wide : goal.returns-then-is_none-clause-wide
returns-then-is_none-clause-wide c = λ e.
    product_is_wide c.args.a.now c.args.b.now c.requires c.rows-i-end.ensures.even c.rows.ensures.even c.loop-i.i (omega (arith, c.loop-i-test.true, c.rows-i-end.ensures.count)) (λ h.
    let narrow = subst (λ (x : List ℤ). All (λ row. abs_dot row x < 2 ^ 127) c.args.b.now.rows) (sym c.row.ensures.value) h in
    let some : IsSome c.times_vec.result = c.times_vec.ensures.wide.1 narrow in
    search rules)

pub loop-i-preserved : goal.loop-i-preserved
loop-i-preserved c = record {
  line = grind (arith, common_steps);
  cols = ap (λ (m : Matrix). m.cols) c.in_ok-push_row.ensures.ok ∙ c.loop-i.invariant.cols;
  rows = grind (arith, common_steps);
  narrow = below_more _ _ c.loop-i.invariant.narrow
      (subst (λ (x : List ℤ). All (λ row. abs_dot row x < 2 ^ 127) c.args.b.now.rows) c.row.ensures.value
      (let some : IsSome c.times_vec.result = search rules in c.times_vec.ensures.wide.0 some));
}

pub returns-clause-value : goal.returns-clause-value
returns-clause-value c =
    let end : c.loop-i.i ≡ length c.args.a.now.rows = omega (arith, c.loop-i-test.false, c.loop-i.auto.i-end, c.rows-i-end.ensures.count) in
    products_are c.args.a.now c.args.b.now c.requires c.rows-i-end.ensures.even c.rows.ensures.even c.loop-i.products c.loop-i.invariant.cols
    (c.loop-i.invariant.rows ∙ ap (λ (rows : List (List ℤ)). map (times c.args.b.now) rows)
    (ap (λ (n : ℕ). take n c.args.a.now.rows) end ∙ take-length c.args.a.now.rows))

pub returns-clause-fits : goal.returns-clause-fits
returns-clause-fits c =
    products_fit c.args.a.now c.args.b.now c.requires c.rows-i-end.ensures.even c.rows.ensures.even
    (λ i p. c.loop-i.invariant.narrow i (omega (arith, c.loop-i-test.false, c.rows-i-end.ensures.count)))
