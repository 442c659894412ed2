-- What the sums of a condensed form's numbers, each at its farthest, say of a part of them, of a row and of one.
use Rattle.std.proofs.Common.{ℕ, ◌+◌, ◌*◌, ◌^◌, ◌<◌, ◌≤◌, Bool, ℤ, inl, inr, unsigned_abs, arith}
use Rattle.std.proofs.lemmas.Bool.{cases_lt}
use Rattle.std.proofs.Math.Nat.{mul-le-mul}
use Rattle.integer_algebra.specs.Sums.{at}
use Rattle.integer_algebra.specs.Sizes.{amount}
use Rattle.integer_algebra.proofs.SizeLaws.{amount_term}
use Rattle.integer_algebra.proofs.AmountLaws.{amount_mono}
use Rattle.integer_algebra.proofs.PowerLaws.{pow-two}
use Rattle.mat_int.specs.Matrix.{entry_of}
use Rattle.qp_model.specs.declared.design_parts.DesignParts.{DesignParts}
use Rattle.qp_model.specs.problem.Design.{entries, rows}
use Rattle.qp_model.specs.problem.Parts.{design_of}
use Rattle.qp_model.specs.form.Form.{farthest}
use Rattle.qp_model.specs.form.Class.{hessian_in, rows_in}
use Rattle.condensed_form.specs.declared.condensed.Condensed.{Condensed}
use Rattle.condensed_form.specs.Form.{IsFormIn}
use Rattle.condensed_form.proofs.CostFacts.{square_le}

-- ---- a number of the form, at its farthest
abbrev pub far_hessian : Condensed → ℕ → ℕ → ℕ
far_hessian c i j = farthest (entry_of c.hess i j) (unsigned_abs (entry_of c.hess_rad i j))

abbrev pub far_linear : Condensed → ℕ → ℕ → ℕ
far_linear c j i = farthest (entry_of c.lin j i) (unsigned_abs (entry_of c.lin_rad j i))

abbrev pub far_constant : Condensed → ℕ → ℕ
far_constant c j = farthest (at c.off.items j) (unsigned_abs (at c.off_rad.items j))

abbrev pub far_plan : Condensed → ℕ → ℕ → ℕ
far_plan c i j = farthest (entry_of c.g i j) (unsigned_abs (entry_of c.g_rad i j))

abbrev pub far_state : Condensed → ℕ → ℕ → ℕ
far_state c i j = farthest (entry_of c.e i j) (unsigned_abs (entry_of c.e_rad i j))

-- ---- plain numbers
first : (a b c t : ℕ) → a + b + c ≤ t → a ≤ t
first a b c t h = omega arith

second : (a b c t : ℕ) → a + b + c ≤ t → b ≤ t
second a b c t h = omega arith

third : (a b c t : ℕ) → a + b + c ≤ t → c ≤ t
third a b c t h = omega arith

through : {a b t : ℕ} → a ≤ b → b ≤ t → a ≤ t
through {a} {b} {t} h k = omega (arith, h, k)

nearer : (x : ℤ) (r t : ℕ) → farthest x r ≤ t → unsigned_abs x ≤ t
nearer x r t h = omega (arith, h)

root_small : (x : ℕ) → x ^ 2 ≤ 2 ^ 126 → x ≤ 2 ^ 63
root_small x h = elim (cases_lt (2 ^ 63) x) [
  | inl l ↦ absurd (let g = mul-le-mul (above x l) (above x l) in omega (arith, g, rw (pow-two x) at h))
  | inr l ↦ l
]
  where
    above : (x : ℕ) → 2 ^ 63 < x → 2 ^ 63 + 1 ≤ x
    above x l = omega arith

module _ (fine : Bool) (p : DesignParts) (c : Condensed) (is : IsFormIn fine p c) where
  -- ---- the cost's numbers
  pub hessian_numbers : amount (entries (design_of p)) (λ i. amount (entries (design_of p)) (far_hessian c i)) ≤ hessian_in fine (design_of p)
  hessian_numbers = first _ _ _ _ (rw (is.shapes.hess.rows, is.shapes.lin.cols) at is.sizes.cost)

  pub linear_numbers : amount (entries (design_of p)) (λ j. amount p.states (far_linear c j)) ≤ hessian_in fine (design_of p)
  linear_numbers = second _ _ _ _ (rw (is.shapes.hess.rows, is.shapes.lin.cols) at is.sizes.cost)

  pub constant_numbers : amount (entries (design_of p)) (far_constant c) ≤ hessian_in fine (design_of p)
  constant_numbers = third _ _ _ _ (rw (is.shapes.hess.rows, is.shapes.lin.cols) at is.sizes.cost)

  pub hessian_row : (i : ℕ) → i < entries (design_of p) → amount (entries (design_of p)) (far_hessian c i) ≤ hessian_in fine (design_of p)
  hessian_row i l = through (amount_term i (entries (design_of p)) (λ i. amount (entries (design_of p)) (far_hessian c i)) l) hessian_numbers

  pub diagonal_numbers : amount (entries (design_of p)) (λ j. far_hessian c j j) ≤ hessian_in fine (design_of p)
  diagonal_numbers = through (amount_mono (entries (design_of p)) _ _ (λ j l. amount_term j (entries (design_of p)) (far_hessian c j) l)) hessian_numbers

  -- ---- the limits' numbers
  pub plan_squares : amount (rows (design_of p)) (λ i. amount (entries (design_of p)) (λ j. far_plan c i j ^ 2)) ≤ rows_in fine (design_of p)
  plan_squares = first _ _ _ _ (rw (is.shapes.hess.rows, is.shapes.lin.cols, is.shapes.g.rows) at is.sizes.limits)

  pub state_squares : amount (rows (design_of p)) (λ i. amount p.states (λ j. far_state c i j ^ 2)) ≤ rows_in fine (design_of p)
  state_squares = second _ _ _ _ (rw (is.shapes.hess.rows, is.shapes.lin.cols, is.shapes.g.rows) at is.sizes.limits)

  pub bound_squares : amount (rows (design_of p)) (λ i. unsigned_abs (at c.bound.items i) ^ 2) ≤ rows_in fine (design_of p)
  bound_squares = third _ _ _ _ (rw (is.shapes.hess.rows, is.shapes.lin.cols, is.shapes.g.rows) at is.sizes.limits)

  pub plan_numbers : amount (rows (design_of p)) (λ i. amount (entries (design_of p)) (far_plan c i)) ≤ rows_in fine (design_of p)
  plan_numbers = through (amount_mono (rows (design_of p)) _ _ (λ i l. amount_mono (entries (design_of p)) _ _ (λ j m. square_le (far_plan c i j)))) plan_squares

  pub state_numbers : amount (rows (design_of p)) (λ i. amount p.states (far_state c i)) ≤ rows_in fine (design_of p)
  state_numbers = through (amount_mono (rows (design_of p)) _ _ (λ i l. amount_mono p.states _ _ (λ j m. square_le (far_state c i j)))) state_squares

  pub far_plan_small : (i j : ℕ) → i < rows (design_of p) → j < entries (design_of p) → far_plan c i j ≤ 2 ^ 63
  far_plan_small i j l m = root_small _ (through (amount_term j (entries (design_of p)) (λ j. far_plan c i j ^ 2) m)
      (through (amount_term i (rows (design_of p)) (λ i. amount (entries (design_of p)) (λ j. far_plan c i j ^ 2)) l)
      (through plan_squares is.sizes.limit_room)))

  pub plan_entry : (i j : ℕ) → i < rows (design_of p) → j < entries (design_of p) → unsigned_abs (entry_of c.g i j) ≤ 2 ^ 63
  plan_entry i j l m = nearer (entry_of c.g i j) (unsigned_abs (entry_of c.g_rad i j)) (2 ^ 63) (far_plan_small i j l m)

  pub state_entry : (i j : ℕ) → i < rows (design_of p) → j < p.states → unsigned_abs (entry_of c.e i j) ≤ 2 ^ 63
  state_entry i j l m = nearer (entry_of c.e i j) (unsigned_abs (entry_of c.e_rad i j)) (2 ^ 63) (root_small (far_state c i j) (through (amount_term j p.states (λ j. far_state c i j ^ 2) m)
      (through (amount_term i (rows (design_of p)) (λ i. amount p.states (λ j. far_state c i j ^ 2)) l)
      (through state_squares is.sizes.limit_room))))

  pub bound_entry : (i : ℕ) → i < rows (design_of p) → unsigned_abs (at c.bound.items i) ≤ 2 ^ 63
  bound_entry i l = root_small _ (through (amount_term i (rows (design_of p)) (λ i. unsigned_abs (at c.bound.items i) ^ 2) l)
      (through bound_squares is.sizes.limit_room))

  -- column j of the plan's rows, times all of its columns
  pub products_row : (j : ℕ) → j < entries (design_of p) →
      amount (entries (design_of p)) (λ l. amount (rows (design_of p)) (λ i. far_plan c i j * far_plan c i l)) ≤ rows_in fine (design_of p)
  products_row j l = rw (is.shapes.hess.rows, is.shapes.g.rows) at (is.sizes.products j l)

  -- and times column l alone
  pub products_pair : (j l : ℕ) → j < entries (design_of p) → l < entries (design_of p) →
      amount (rows (design_of p)) (λ i. far_plan c i j * far_plan c i l) ≤ rows_in fine (design_of p)
  products_pair j l h k = through
      (amount_term l (entries (design_of p)) (λ l. amount (rows (design_of p)) (λ i. far_plan c i j * far_plan c i l)) k)
      (products_row j h)
