-- The rows of a form that is held.
use Rattle.std.proofs.Common.{◌≡◌, ◌↔◌, ℕ, ◌^◌, ◌<◌, ◌≤◌, max, inr, unsigned_abs, ◌+◌, ◌++◌, [], ◌∷◌, List, get_or, below_more, Result, Ok, Err, Option, Some, None, IfOk, OnOk, IfErr, IfSome, IsSome, arith, refl, subst, sym, ap, ◌∙◌}
use Rattle.std.proofs.lemmas.Result.{IfOk-weaker}
use Rattle.std.proofs.lemmas.List.{length_push, get_or_push, get_or_append_left}
use Rattle.qp_model.specs.declared.design_parts.DesignParts.{DesignParts}
use Rattle.qp_model.specs.declared.quantity.Quantity.TheVariants.{Excess}
use Rattle.qp_model.specs.problem.Design.{Design, entries}
use Rattle.qp_model.specs.form.Form.{Form}
use Rattle.qp_model.specs.problem.Parts.{design_of}
use Rattle.qp_model.specs.form.Quantities.{greatest}
use Rattle.qp_model.specs.bounds.Excess.{hessian_at, linear_at, constant_at, reach, number_size}
use Rattle.condensed_form.specs.declared.condensed.Condensed.{Condensed}
use Rattle.condensed_form.specs.Form.{held, IsFormOf}
use Rattle.enclosure.specs.declared.types.Enc.{Enc}
use Rattle.enclosure.specs.Values.{pair}
use Rattle.scaled_run.specs.Lists.{HoldsEnclosures}
use Rattle.plan_excess.specs.declared.rows.Row.{Row}
use Rattle.qp_model.specs.declared.size_fault.SizeFault.{SizeFault}
use Rattle.qp_model.specs.declared.size_fault.SizeFault.TheVariants.{TooWide}
use Rattle.plan_excess.specs.Fault.{IsExcessFault}
use Rattle.plan_excess.specs.Rows.{line_at, line_size, IsGradientRow, AreGradientRows}

-- a row of these numbers, where the constant is one
abbrev pub HasParts : (plan state : List Enc) → Option Enc → Row → Type 0
HasParts plan state constant row = (row.plan.items ≡ plan) × (row.state.items ≡ state) × (constant ≡ Some row.constant)

module _ (p : DesignParts) (c : Condensed) (is : IsFormOf p c) (j : ℕ) where
  -- ---- the numbers of a row
  row_is : (plan state : List Enc) (constant : Option Enc) → HoldsEnclosures plan c.hess.cols (line_at (unsigned_abs c.hess_den) c.hess c.hess_rad j) →
      HoldsEnclosures state c.lin.cols (line_at (unsigned_abs c.hess_den) c.lin c.lin_rad j) → IfSome constant (λ e. pair e ≡ constant_at (held c) j) →
      (row : Row) → HasParts plan state constant row → IsGradientRow (design_of p) (held c) j row
  row_is plan state constant h k l row m = record {
    plan = subst (λ (xs : List Enc). HoldsEnclosures xs (entries (design_of p)) (hessian_at (held c) j)) (sym m.0)
        (subst (λ (n : ℕ). HoldsEnclosures plan n (hessian_at (held c) j)) is.shapes.hess.cols h);
    state = subst (λ (xs : List Enc). HoldsEnclosures xs (design_of p).states (linear_at (held c) j)) (sym m.1)
        (subst (λ (n : ℕ). HoldsEnclosures state n (linear_at (held c) j)) is.shapes.lin.cols k);
    constant = subst (λ (o : Option Enc). IfSome o (λ e. pair e ≡ constant_at (held c) j)) m.2 l;
  }

  -- ---- what they reach
  size_is : max (line_size (unsigned_abs c.hess_den) c.hess c.hess_rad j) (max (line_size (unsigned_abs c.hess_den) c.lin c.lin_rad j) (reach (constant_at (held c) j))) ≡
      number_size (design_of p) (held c) j
  size_is t = max (greatest (is.shapes.hess.cols t) (λ i. reach (hessian_at (held c) j i))) (max (greatest (is.shapes.lin.cols t) (λ i. reach (linear_at (held c) j i))) (reach (constant_at (held c) j)))

  pub plan_within : line_size (unsigned_abs c.hess_den) c.hess c.hess_rad j ≤ number_size (design_of p) (held c) j
  plan_within = omega (arith, sym size_is)

  pub state_within : line_size (unsigned_abs c.hess_den) c.lin c.lin_rad j ≤ number_size (design_of p) (held c) j
  state_within = omega (arith, sym size_is)

  -- ---- a row that may be missing
  pub row_given : (r : Result Row SizeFault) (plan state : List Enc) (constant : Option Enc) →
      HoldsEnclosures plan c.hess.cols (line_at (unsigned_abs c.hess_den) c.hess c.hess_rad j) →
      HoldsEnclosures state c.lin.cols (line_at (unsigned_abs c.hess_den) c.lin c.lin_rad j) → IfSome constant (λ e. pair e ≡ constant_at (held c) j) →
      IfOk r (HasParts plan state constant) → IfOk r (IsGradientRow (design_of p) (held c) j)
  row_given r plan state constant h k l m = IfOk-weaker r _ _ (λ row o. row_is plan state constant h k l row o) m

  pub row_room : (r : Result Row SizeFault) (plan state : List Enc) (constant : Option Enc) →
      line_size (unsigned_abs c.hess_den) c.hess c.hess_rad j ≤ 2 ^ 126 → line_size (unsigned_abs c.hess_den) c.lin c.lin_rad j ≤ 2 ^ 126 →
      IsSome constant ↔ (reach (constant_at (held c) j) ≤ 2 ^ 126) → IfOk r (HasParts plan state constant) → OnOk r (number_size (design_of p) (held c) j ≤ 2 ^ 126)
  row_room (Err e) plan state constant h k l m = tt
  row_room (Ok row) plan state constant h k l m = let last = l.0 (subst (λ (o : Option Enc). IsSome o) (sym m.2) refl) in omega (arith, sym size_is, h, k, last)

  pub row_refused : (r : Result Row SizeFault) (constant : Option Enc) → IsSome constant ↔ (reach (constant_at (held c) j) ≤ 2 ^ 126) →
      IfErr r (λ e. (e ≡ TooWide Excess) × (constant ≡ None)) → IfErr r (IsExcessFault (number_size (design_of p) (held c) j))
  row_refused (Ok row) constant l m = tt
  row_refused (Err e) constant l m = inr (m.0, beyond (λ k. missing (subst (λ (o : Option Enc). IsSome o) m.1 (l.1 k))))
    where
      missing : IsSome {T = Enc} None → ⊥
      missing s = cc

      past : (m : ℕ) → (m ≤ 2 ^ 126 → ⊥) → m ≤ number_size (design_of p) (held c) j → 2 ^ 126 < number_size (design_of p) (held c) j
      past m h k = omega (arith, h, k)

      beyond : (reach (constant_at (held c) j) ≤ 2 ^ 126 → ⊥) → 2 ^ 126 < number_size (design_of p) (held c) j
      beyond h = past (reach (constant_at (held c) j)) h (omega (arith, sym size_is))

-- ---- rows, one after another
pub row_pushed : (d : Design) (h : Form) (n : ℕ) (rows new : List Row) (row : Row) → new ≡ rows ++ row ∷ [] → IsGradientRow d h n row → AreGradientRows d h n rows → AreGradientRows d h (n + 1) new
row_pushed d h n rows new row e is are = rw e (record {
  long = length_push rows row ∙ ap (λ (m : ℕ). m + 1) are.long;
  is = λ j other l. below_more (λ k. IsGradientRow d h k (get_or (rows ++ row ∷ []) k other)) n (λ k m. rw (get_or_append_left rows (row ∷ []) other k (rw are.long m)) (are.is k other m))
      (rw (get_or_push rows row other n are.long) is) j l;
})

pub all_rows : (d : Design) (h : Form) (i n : ℕ) (rows : List Row) → i ≤ n → n ≤ i → AreGradientRows d h i rows → AreGradientRows d h n rows
all_rows d h i n rows l m are = subst (λ (k : ℕ). AreGradientRows d h k rows) (same i n l m) are
  where
    same : (i n : ℕ) → i ≤ n → n ≤ i → i ≡ n
    same i n l m = omega (arith, l, m)

pub row_at : (d : Design) (h : Form) (rows : List Row) → AreGradientRows d h (entries d) rows → (j : ℕ) (row : Row) → j < entries d → row ≡ get_or rows j row → IsGradientRow d h j row
row_at d h rows are j row l e = subst (λ (r : Row). IsGradientRow d h j r) (sym e) (are.is j row l)
