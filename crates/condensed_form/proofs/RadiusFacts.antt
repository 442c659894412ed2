-- The radii of exact numbers are zeros.
use Rattle.std.proofs.Common.{◌≡◌, ℕ, zero, suc, ℤ, pos, ◌≤ℤ◌, List, replicate, length, unsigned_abs, arith, ap, refl}
use Rattle.std.proofs.lemmas.Int.{ints}
use Rattle.std.proofs.lemmas.List.{length-replicate}
use Rattle.std.proofs.lemmas.List.Elements.{All-replicate}
use Rattle.integer_algebra.specs.Sums.{at}
use Rattle.mat_int.specs.Matrix.{Matrix, entry_of, zero_matrix}
use Rattle.qp_model.specs.machine.Controller.{HasShape}
use Rattle.condensed_form.specs.declared.condensed.Condensed.{Condensed}
use Rattle.condensed_form.specs.Form.{HasRadii}
use Rattle.condensed_form.specs.Numbers.{AreNoRadii}
use Rattle.condensed_form.proofs.ColumnFacts.{zeros}

-- ---- zeros
zero_entry : (height width i j : ℕ) → entry_of (zero_matrix height width) i j ≡ pos 0
zero_entry zero width i j = refl
zero_entry (suc height) width zero j = zeros width j
zero_entry (suc height) width (suc i) j = zero_entry height width i j

pub zero_shape : (m : Matrix) (height width : ℕ) → m ≡ zero_matrix height width → HasShape m height width
zero_shape m height width e = rw e (record {
  rows = length-replicate height (replicate width (pos 0));
  cols = refl;
  each = All-replicate (λ (row : List ℤ). length row ≡ width) height (replicate width (pos 0)) (length-replicate width (pos 0));
})

pub zero_length : (xs : List ℤ) (n : ℕ) → xs ≡ replicate n (pos 0) → length xs ≡ n
zero_length xs n e = rw e (length-replicate n (pos 0))

matrix_zero : (m : Matrix) (height width i j : ℕ) → m ≡ zero_matrix height width → entry_of m i j ≡ pos 0
matrix_zero m height width i j e = rw e (zero_entry height width i j)

list_zero : (xs : List ℤ) (n i : ℕ) → xs ≡ replicate n (pos 0) → at xs i ≡ pos 0
list_zero xs n i e = rw e (zeros n i)

-- ---- as radii
some_radius : (z : ℤ) → z ≡ pos 0 → pos 0 ≤ℤ z
some_radius z e = omega (arith, ints)

-- ---- of a form
module _ (c : Condensed) (entries states rows : ℕ) (is : AreNoRadii entries states rows c.hess_rad c.lin_rad c.off_rad.items c.g_rad c.e_rad) where
  pub no_hessian_radius : (i j : ℕ) → unsigned_abs (entry_of c.hess_rad i j) ≡ 0
  no_hessian_radius i j = ap unsigned_abs (matrix_zero c.hess_rad entries entries i j is.hessian)

  pub no_linear_radius : (j i : ℕ) → unsigned_abs (entry_of c.lin_rad j i) ≡ 0
  no_linear_radius j i = ap unsigned_abs (matrix_zero c.lin_rad entries states j i is.linear)

  pub no_constant_radius : (j : ℕ) → unsigned_abs (at c.off_rad.items j) ≡ 0
  no_constant_radius j = ap unsigned_abs (list_zero c.off_rad.items entries j is.constant)

  pub no_plan_radius : (i j : ℕ) → unsigned_abs (entry_of c.g_rad i j) ≡ 0
  no_plan_radius i j = ap unsigned_abs (matrix_zero c.g_rad rows entries i j is.plan)

  pub no_state_radius : (i j : ℕ) → unsigned_abs (entry_of c.e_rad i j) ≡ 0
  no_state_radius i j = ap unsigned_abs (matrix_zero c.e_rad rows states i j is.state)

  pub radii_of : HasRadii c entries states rows
  radii_of = record {
    hess = λ i j k l. some_radius (entry_of c.hess_rad i j) (matrix_zero c.hess_rad entries entries i j is.hessian);
    lin = λ j i k l. some_radius (entry_of c.lin_rad j i) (matrix_zero c.lin_rad entries states j i is.linear);
    off = λ j k. some_radius (at c.off_rad.items j) (list_zero c.off_rad.items entries j is.constant);
    g = λ i j k l. some_radius (entry_of c.g_rad i j) (matrix_zero c.g_rad rows entries i j is.plan);
    e = λ i j k l. some_radius (entry_of c.e_rad i j) (matrix_zero c.e_rad rows states i j is.state);
  }
