-- The sums of the hessian's radii in its rows, in enclosures.
use Rattle.std.proofs.Common.{◌≡◌, ℕ, zero, suc, ◌+◌, ◌*◌, ◌^◌, ◌<◌, ◌≤◌, ℤ, pos, ◌+ℤ◌, ◌*ℤ◌, ◌≤ℤ◌, unsigned_abs, lit<, lit≤, arith, subst, ◌∙◌}
use Rattle.std.proofs.lemmas.Int.{ints}
use Rattle.std.proofs.Math.Nat.{mul-le-mul_left}
use Rattle.integer_algebra.specs.Bounds.{absolute}
use Rattle.integer_algebra.specs.Sizes.{amount}
use Rattle.integer_algebra.proofs.DivisionLaws.{ceil_div-le}
use Rattle.integer_algebra.proofs.SizeLaws.{size_same}
use Rattle.mat_int.specs.Matrix.{Matrix, row_of}
use Rattle.mat_int.specs.Row.{abs_sum}
use Rattle.mat_int.proofs.Indices.{row_size}
use Rattle.qp_model.specs.declared.design_parts.DesignParts.{DesignParts}
use Rattle.qp_model.specs.problem.Parts.{design_of}
use Rattle.qp_model.specs.form.FineForm.{fine_products, fine_hessian, hessian_row_radius}
use Rattle.qp_model.specs.form.FineSizes.{fine_reach, fine_response_size}
use Rattle.qp_model.specs.form.Quantities.{greatest, weight_sum}
use Rattle.qp_model.proofs.VersionLaws.{design_stages_le}
use Rattle.scaled_condense.specs.Numbers.{IsFineHessian}
use Rattle.scaled_condense.proofs.CostFacts.{products_reach}
use Rattle.scaled_condense.proofs.FineFacts.{weighed_room}

amount_within : (n : ℕ) (f : ℕ → ℕ) (b : ℕ) → ((i : ℕ) → i < n → f i ≤ b) → amount n f ≤ n * b
amount_within zero f b h = omega arith
amount_within (suc n) f b h = omega (arith, amount_within n f b (λ i l. h i (omega arith)), h n (omega arith))

module _ (p : DesignParts) (mid rad : Matrix) (h : IsFineHessian p mid rad) where
  radius_small : (i j : ℕ) → unsigned_abs (fine_hessian (design_of p) i j).rad ≤ 2 ^ 90
  radius_small i j = last (fine_products (design_of p) i j).mid (fine_products (design_of p) i j).rad (products_reach p (2 ^ 40) (2 ^ 40) (fine_reach (design_of p) p.stages) h.scale (lit≤ tt) i j).radius
      (products_reach p (2 ^ 40) (2 ^ 40) (fine_reach (design_of p) p.stages) h.scale (lit≤ tt) i j).within
      (ceil_div-le (weight_sum (design_of p) * fine_response_size (design_of p) ^ 2) (2 ^ 40) (2 ^ 86) (lit< tt) (room (weight_sum (design_of p) * fine_response_size (design_of p) ^ 2) (weighed_room p h.scale.design h.fits)))
    where
      room : (n : ℕ) → 2 * n ≤ 2 ^ 126 → n ≤ 2 ^ 40 * 2 ^ 86
      room n h = omega arith

      last : (x r : ℤ) {n : ℕ} → pos 0 ≤ℤ r → (absolute x +ℤ r) ≤ℤ pos (n + 3) → n ≤ 2 ^ 86 → unsigned_abs (pos 2 *ℤ (r +ℤ pos 0)) ≤ 2 ^ 90
      last x r h k l = omega (arith, ints, h, k, l)

  pub row_sum_is : (i : ℕ) → i < p.stages * p.inputs → abs_sum (row_of rad i) ≡ hessian_row_radius (design_of p) i
  row_sum_is i l = row_size (p.stages * p.inputs) rad i (h.held.rads.regular i l) ∙ size_same (p.stages * p.inputs) _ _ (λ j m. h.held.rads.is i j l m)

  few : p.stages * p.inputs ≤ 2 ^ 20
  few = both p.stages p.inputs (design_stages_le p h.scale.design) h.scale.design.inputs.1
    where
      both : (a b : ℕ) → a ≤ 30 → b ≤ 3 → a * b ≤ 2 ^ 20
      both a b h k = omega (arith, mul-le-mul_left b h)

  pub row_sum_fits : (i : ℕ) → i < p.stages * p.inputs → abs_sum (row_of rad i) < 2 ^ 127
  row_sum_fits i l = rw (row_sum_is i l) (last (p.stages * p.inputs) (amount_within (p.stages * p.inputs) _ (2 ^ 90) (λ j m. radius_small i j)) few)
    where
      last : (n : ℕ) {a : ℕ} → a ≤ n * 2 ^ 90 → n ≤ 2 ^ 20 → a < 2 ^ 127
      last n h k = omega (arith, h, k)

-- at the end of the loop over the rows
pub all_rows : (most k n : ℕ) (f : ℕ → ℕ) → k ≤ n → n ≤ k → most ≡ greatest k f → most ≡ greatest n f
all_rows most k n f l m h = subst (λ (i : ℕ). most ≡ greatest i f) (same k n l m) h
  where
    same : (k n : ℕ) → k ≤ n → n ≤ k → k ≡ n
    same k n l m = omega arith
