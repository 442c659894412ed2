-- What is solved for a condensed form is solved for its design's.
use Rattle.std.proofs.Common.{◌≡◌, ℕ, ◌+◌, ◌*◌, ◌^◌, ◌<◌, ℤ, pos, ◌≤◌, ◌≤ℤ◌, unsigned_abs, arith, refl}
use Rattle.std.proofs.lemmas.Int.{ints}
use Rattle.std.proofs.Math.Nat.{mul-le-mul}
use Rattle.qp_model.specs.declared.design_parts.DesignParts.{DesignParts}
use Rattle.qp_model.specs.problem.Design.{entries, rows}
use Rattle.qp_model.specs.problem.Parts.{IsDesign, design_of}
use Rattle.qp_model.specs.form.Form.{Form, HaveSameNumbers}
use Rattle.qp_model.specs.form.Class.{form_of}
use Rattle.qp_model.specs.form.Columns.{columns, column_bound, descent_size, solve_matrix, solve_column}
use Rattle.qp_model.specs.form.GoodSolution.{IsGood}
use Rattle.qp_model.proofs.VersionLaws.{design_states_le, design_stages_le, design_rows_le}
use Rattle.qp_model.proofs.SystemLaws.{count_same, matrix_same, column_is, column_bound_same, descent_same}
use Rattle.condensed_form.specs.Form.{HasShapes, IsFormOf, held}
use Rattle.condensed_form.specs.declared.condensed.Condensed.{Condensed}
use Rattle.approx_inverse.specs.Condensed.{IsSolvable}
use Rattle.approx_inverse.specs.Inverse.{HasGainSizes, IsInverseOf, SolvesForm, solution_of}
use Rattle.approx_inverse.specs.declared.inverse.Inverse.{Inverse}
use Rattle.approx_inverse.proofs.FormLaws.{good_same}

-- ---- forms that agree
module _ (h k : Form) (same : HaveSameNumbers h k) where
  pub inverse_same : (f : ℕ) (v : Inverse) → SolvesForm h f v → IsInverseOf k f v
  inverse_same f v solves = record {
    sizes = resized v _ _ _ _ _ _ same.entries same.states same.rows solves.sizes;
    good = λ i l. good_same k.entries (solve_matrix h) (solve_matrix k) f (solve_column h i) (solve_column k i) (solution_of v i) (solution_of v i)
        (matrix_same h k same) (λ j m. column_is h k same i j l m) (λ j m. refl)
        (resize _ _ (solve_matrix h) f (solve_column h i) (solution_of v i) same.entries (solves.solved i (omega (arith, count_same h k same, l))).good);
    within = λ i l j m. rw (← (column_bound_same h k same f i l)) ((solves.solved i (omega (arith, count_same h k same, l))).within j (omega (arith, same.entries, m)));
  }
    where
      resize : (n m : ℕ) (h : ℕ → ℕ → ℤ) (f : ℕ) (c x : ℕ → ℤ) → n ≡ m → IsGood n h f c x → IsGood m h f c x
      resize n m h f c x e good = rw e at good

      resized : (v : Inverse) (n k m x y z : ℕ) → x ≡ n → y ≡ k → z ≡ m → HasGainSizes v x y z → HasGainSizes v n k m
      resized v n k m x y z e g h sizes = rw (← e, ← g, ← h) sizes

-- ---- what solving asks
few : (p : DesignParts) → IsDesign p → (entries (design_of p) < 2 ^ 32) × ((design_of p).states < 2 ^ 32) × (rows (design_of p) < 2 ^ 32)
few p h = (
  plain p.stages p.inputs (small p.stages p.inputs 0 30 3 0 (design_stages_le p h) h.inputs.1 (omega arith) (omega arith)),
  omega (arith, design_states_le p h),
  omega (arith, design_rows_le p h),
)
  where
    small : (a b c x y z : ℕ) → a ≤ x → b ≤ y → c ≤ z → x * y + z < 2 ^ 32 → a * b + c < 2 ^ 32
    small a b c x y z h k l m = let g = mul-le-mul h k in omega (arith, g)

    plain : (a b : ℕ) → a * b + 0 < 2 ^ 32 → a * b < 2 ^ 32
    plain a b h = omega arith

pub solvable_from : (p : DesignParts) (c : Condensed) → IsFormOf p c → IsSolvable c
solvable_from p c is = let q = few p is.design in record {
  shapes = reshape c _ _ _ _ _ _ is.shapes.hess.rows is.shapes.lin.cols is.shapes.g.rows is.shapes;
  convex = rw is.shapes.hess.rows is.convex;
  limit_den = rw is.denominators.limit_den (one (design_of p).limit_denominator p.limit_den refl is.design.limit_den.low);
  cost_row_den = rw is.denominators.cost_row_den (one (design_of p).row_denominator p.row_den refl is.design.row_den.low);
  power = is.denominators.power;
  few_entries = rw is.shapes.hess.rows q.0;
  few_states = rw is.shapes.lin.cols q.1;
  few_rows = rw is.shapes.g.rows q.2;
}
  where
    reshape : (c : Condensed) (n k m x y z : ℕ) → x ≡ n → y ≡ k → z ≡ m → HasShapes c n k m → HasShapes c x y z
    reshape c n k m x y z e g h shapes = rw (e, g, h) shapes

    one : (n : ℕ) (z : ℤ) → n ≡ unsigned_abs z → pos 1 ≤ℤ z → pos 1 ≤ℤ pos n
    one n z e h = omega (arith, ints)

-- ---- what solving gives
pub descent_equal : (p : DesignParts) (c : Condensed) (f : ℕ) → IsFormOf p c → descent_size (held c) f ≡ descent_size (form_of (design_of p)) f
descent_equal p c f is = descent_same (held c) (form_of (design_of p)) is.same f

pub inverse_from : (p : DesignParts) (c : Condensed) (f : ℕ) (v : Inverse) → IsFormOf p c → SolvesForm (held c) f v → IsInverseOf (form_of (design_of p)) f v
inverse_from p c f v is solves = inverse_same (held c) (form_of (design_of p)) is.same f v solves

-- a column's bound is the design's
pub bound_equal : (p : DesignParts) (c : Condensed) (f i : ℕ) → IsFormOf p c → i < columns (form_of (design_of p)) →
    column_bound (held c) f i ≡ column_bound (form_of (design_of p)) f i
bound_equal p c f i is l = column_bound_same (held c) (form_of (design_of p)) is.same f i l
