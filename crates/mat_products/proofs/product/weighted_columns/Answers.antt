use Rattle.std.proofs.Common.{rules, length, map, ◌≡◌, ◌+◌, ◌≤◌, ◌^◌, ℕ, ◌<◌, pos, ◌*ℤ◌, unsigned_abs, List, [], ℤ, FitsSigned, arith, ap, ◌∙◌, below_more}
use Rattle.std.specs.List.{Any}
use Rattle.std.specs.Int.{w128}
use Rattle.std.proofs.lemmas.Int.{to_z-of_z}
use Rattle.std.proofs.lemmas.Grind.{common_steps}
use Rattle.std.proofs.lemmas.List.{get_or-map, get_or_default}
use Rattle.integer_algebra.specs.Sums.{at}
use Rattle.mat_int.specs.Matrix.{Matrix, row_of, entry_of, SomeIsWide}
use Rattle.mat_products.proofs.product.weighted_columns.Goals as goal

-- a product of row i and its weight that has no room
wide_row : (g : Matrix) (weights : List ℤ) (i : ℕ) → i < length g.rows → length (row_of g i) ≡ g.cols → Any (λ entry. 2 ^ 127 ≤ unsigned_abs (at weights i *ℤ entry)) (row_of g i) →
    SomeIsWide (length g.rows) g.cols (λ i j. unsigned_abs (at weights i *ℤ entry_of g i j))
wide_row g weights i l even h = record {
  row = i;
  col = h.0;
  row_in = l;
  col_in = omega (arith, even, h.2);
  wide = rw (get_or_default (row_of g i) h.0 (pos 0) h.1 h.2, h.3) h.4;
}

pub returns-then-is_none-clause-wide : goal.returns-then-is_none-clause-wide
returns-then-is_none-clause-wide c = λ e.
    let g = c.args.g.now in
    let weights = c.args.weights.now in
    let i = c.loop-i.i in
    let weight : FitsSigned w128 (at weights i) = search rules in
    let l : i < length g.rows = omega (arith, c.loop-i-test.true, c.rows-i-end.ensures.count) in
    wide_row g weights i l (c.rows-i-end.ensures.even i [] l) (rw (to_z-of_z w128 _ weight, c.row.ensures.value) at (c.weighted_row.ensures.wide (search rules)))

pub loop-i-preserved : goal.loop-i-preserved
loop-i-preserved c =
    let g = c.args.g.now in
    let weights = c.args.weights.now in
    let i = c.loop-i.i in
    let inv = c.loop-i.invariant in
    let weight : FitsSigned w128 (at weights i) = search rules in
    let l : i < length g.rows = omega (arith, c.loop-i-test.true, c.rows-i-end.ensures.count) in
    let made : c.weighted_row.new.out ≡ map (λ entry. at weights i *ℤ entry) c.row.result.now = rw (← to_z-of_z w128 _ weight) (search rules) in
    let out : c.deref.result.now ≡ map (λ entry. at weights i *ℤ entry) (row_of g i) = rw (← c.row.ensures.value, ← made) (grind (arith, common_steps)) in
    let long : length c.deref.result.now ≡ g.cols = grind (arith, common_steps) in
    let even : length (row_of g i) ≡ g.cols = c.rows-i-end.ensures.even i [] l in
    let numbers : (j : ℕ) → j < g.cols → at c.deref.result.now j ≡ at weights i *ℤ entry_of g i j =
    λ j q. ap (λ (xs : List ℤ). at xs j) out ∙ get_or-map (λ entry. at weights i *ℤ entry) (row_of g i) j (pos 0) (pos 0) (omega (arith, even)) in
    record {
      column = grind (arith, common_steps);
      rows = c.set_column.ensures.rows ∙ inv.rows;
      cols = c.set_column.ensures.cols ∙ inv.cols;
      even = grind (arith, common_steps);
      entries = λ j k p q. (let all : (k : ℕ) → k < i + 1 → (j : ℕ) → j < g.cols → entry_of c.set_column.new.self j k ≡ at weights k *ℤ entry_of g k j =
          below_more _ _ (λ k o j r. c.set_column.ensures.others j k (omega arith) ∙ inv.entries j k r o)
          (λ j r. c.set_column.ensures.put j (omega (arith, long)) ∙ numbers j r) in all k q j p);
    }

pub loop-i-init : goal.loop-i-init
loop-i-init c = record {
  column = search rules;
  rows = grind (arith, common_steps);
  cols = search rules;
  even = grind (arith, common_steps);
  entries = search rules;
}
