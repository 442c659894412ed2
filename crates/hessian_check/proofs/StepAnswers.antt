-- What the answer of the choice among matrices says of a design.
use Rattle.std.proofs.Common.{◌≡◌, ◌⊎◌, inl, inr, ℕ, ◌<◌, ◌≤◌, ◌^◌, Bool, Option, Some, None, length, rules, arith, ap, sym, ◌∙◌, refl}
use Rattle.std.specs.Prelude.{Result, Ok, Err, IfErr, IfOk, IsOk, unwrap_or}
use Rattle.std.proofs.Math.Nat.{mul-le-mul_right, pow-le-pow_right}
use Rattle.qp_model.specs.declared.design_parts.DesignParts.{DesignParts}
use Rattle.qp_model.specs.form.Curvature.{IsExponent}
use Rattle.qp_model.specs.form.Class.{CoversSquares, cost_row_in, curvature_quantity, form_of, product_row_in}
use Rattle.qp_model.specs.form.FineSizes.{is_fine}
use Rattle.qp_model.specs.problem.Design.{Design, entries}
use Rattle.qp_model.specs.problem.Parts.{design_of}
use Rattle.hessian_check.specs.declared.fault.CurvatureFault.{CurvatureFault}
use Rattle.hessian_check.specs.declared.fault.CurvatureFault.TheVariants.{Memory, TooWide, NoStep}
use Rattle.hessian_check.specs.declared.fault.StepExponents.{StepExponents}
use Rattle.hessian_check.specs.declared.matrices.StepMatrices.{StepMatrices}
use Rattle.qp_model.specs.bounds.Least.{IsLeastBelow}
use Rattle.hessian_check.specs.Curvature.{IsChosen}
use Rattle.hessian_check.specs.DesignMatrices.{AreMatricesOf, size_at}
use Rattle.hessian_check.specs.Exponents.{IsEither, IsOutcome}
use Rattle.hessian_check.specs.MatrixRoom.{matrix_at, HasMatrixRoom}
use Rattle.hessian_check.specs.Refusals.{HasExponentCause, IsExponentRefused}
use Rattle.hessian_check.specs.StepLaw.{ExponentLaw}
use Rattle.qp_model.specs.declared.quantity.Quantity.{Quantity}
use Rattle.qp_model.specs.declared.quantity.Quantity.TheVariants.{Curvature}
use Rattle.hessian_check.specs.Steps.{HasNoStep, IsPlainExponent, IsStepExponent, step_matrix}
use Rattle.std.proofs.lemmas.Bool.{cases_lt}
use Rattle.condensed_form.specs.declared.condensed.Condensed.{Condensed}
use Rattle.condensed_form.specs.Form.{IsFormOf}
use Rattle.condensed_form.proofs.LeastLaws.{exponent_is, few}
use Rattle.qp_model.proofs.SoundLaws.{sound}
use Rattle.hessian_check.proofs.ChoiceLaws.{HasLeast, covers_least, first_above, first_made, first_same}
use Rattle.hessian_check.proofs.SameLaws.{chosen_moved, dominant_moved, first_moved}
use Rattle.hessian_check.proofs.PassLaws.{same_back}

-- what is known of a design, its matrices and the number that its squares ask
pub record Chosen (d : Design) (g : StepMatrices) (o : Option ℕ) : Type 0 where
  pub matrices : AreMatricesOf (is_fine d) d (λ l. 1) (product_row_in (is_fine d) d) g
  pub squares : IsLeastBelow 41 (CoversSquares d) o
  pub some : HasLeast (CoversSquares d)

abbrev pub Outcome : StepMatrices → Option ℕ → Result StepExponents CurvatureFault → Type 0
Outcome g o r = IsOutcome (length g.cost.rows) (matrix_at g) o r

-- ---- two exponents
either_of : (d : Design) (g : StepMatrices) (o : Option ℕ) (s1 : ℕ) → Chosen d g o → IsEither (length g.cost.rows) (matrix_at g) o s1 → IsPlainExponent d s1
either_of d g o s1 h e = first_moved (entries d) (matrix_at g) (step_matrix d) (CoversSquares d) s1 h.matrices.same
    (first_made (entries d) (matrix_at g) (CoversSquares d) o s1 h.some h.squares (rw h.matrices.size at e))

pub plain_of : (d : Design) (g : StepMatrices) (o : Option ℕ) (r : Result StepExponents CurvatureFault) → Chosen d g o → Outcome g o r → IfOk r (λ e. IsPlainExponent d e.s1)
plain_of d g o (Ok e) h t = either_of d g o e.s1 h t.0
plain_of d g o (Err f) h t = search rules

pub step_of : (d : Design) (g : StepMatrices) (o : Option ℕ) (r : Result StepExponents CurvatureFault) → Chosen d g o → Outcome g o r → IfOk r (λ e. IsStepExponent d e.s1 e.s)
step_of d g o (Ok e) h t = chosen_moved (entries d) (matrix_at g) (step_matrix d) e.s1 e.s h.matrices.same (rw h.matrices.size at t.1)
step_of d g o (Err f) h t = search rules

pub order_of : (d : Design) (g : StepMatrices) (o : Option ℕ) (r : Result StepExponents CurvatureFault) → Chosen d g o → Outcome g o r → IfOk r (λ e. (e.s ≤ e.s1) × (e.s1 ≤ 40))
order_of d g o (Ok e) h t = (below t.1, elim t.0 [ inl a ↦ omega (arith, a.0, few (CoversSquares d) o h.squares) | inr a ↦ own a.1 h.squares ])
  where
    below : IsChosen (length g.cost.rows) (matrix_at g) e.s1 e.s → e.s ≤ e.s1
    below c = elim c [ inl k ↦ omega (arith, k.holds.0) | inr k ↦ omega (arith, k.1) ]

    own : o ≡ Some e.s1 → IsLeastBelow 41 (CoversSquares d) o → e.s1 ≤ 40
    own q b = let k : IsLeastBelow 41 (CoversSquares d) (Some e.s1) = rw q at b in omega (arith, k.0)
order_of d g o (Err f) h t = search rules

pub exponents_of : (step : ExponentLaw) (p : DesignParts) (c : Condensed) → IsFormOf p c → (r : Result StepExponents CurvatureFault) →
    IfOk r (λ e. IsPlainExponent (design_of p) e.s1) → IfOk r (λ e. IsStepExponent (design_of p) e.s1 e.s) →
    IfOk r (λ e. IsExponent (design_of p) e.s × IsExponent (design_of p) e.s1)
exponents_of step p c f (Ok e) a b = let x = step p f.design f.encloses e.s1 e.s a b in (x.1, x.0)
exponents_of step p c f (Err g) a b = search rules

-- ---- no exponents
-- a number that is chosen is not above 40
flat_clash : (d : Design) (s1 : ℕ) → IsPlainExponent d s1 → s1 ≤ 40 → HasNoStep d → ⊥
flat_clash d s1 h l n = let q = first_same (entries d) (step_matrix d) (CoversSquares d) s1 n.s1 h n.plain in omega (arith, q, l, n.above)

flat_of : (d : Design) (g : StepMatrices) (o : Option ℕ) → Chosen d g o → Outcome g o (Err NoStep) → HasNoStep d
flat_of d g o h k =
    let b : IsLeastBelow 41 (CoversSquares d) None = rw k.1 at h.squares in
    let a = first_above (entries d) (step_matrix d) (CoversSquares d) h.some b
    (λ s l m. k.0 s l (rw h.matrices.size (dominant_moved (entries d) (step_matrix d s) (matrix_at g s) (same_back (entries d) (matrix_at g s) (step_matrix d s) (h.matrices.same s)) m))) in
    record { s1 = h.some.number; plain = a.0; above = a.1 }

-- ---- the answer, where the quantity is within its limit
pub refused_of : (d : Design) (g : StepMatrices) (o : Option ℕ) (r : Result StepExponents CurvatureFault) → Chosen d g o → curvature_quantity d ≤ 2 ^ 126 → Outcome g o r →
    IfErr r (IsExponentRefused d)
refused_of d g o (Ok e) h l t = search rules
refused_of d g o (Err Memory) h l t = inl refl
refused_of d g o (Err (TooWide q)) h l t = absurd t
refused_of d g o (Err NoStep) h l t = inr (l, flat_of d g o h t)

pub every_of : (d : Design) (g : StepMatrices) (o : Option ℕ) (r : Result StepExponents CurvatureFault) → Chosen d g o → curvature_quantity d ≤ 2 ^ 126 → Outcome g o r →
    (e : CurvatureFault) → HasExponentCause d e → (r ≡ Err e) ⊎ (r ≡ Err Memory)
every_of d g o r h l t Memory k = absurd k
every_of d g o r h l t (TooWide q) k = absurd (omega (arith, l, k.1))
every_of d g o (Ok e) h l t NoStep k = absurd (flat_clash d e.s1 (plain_of d g o (Ok e) h t) (order_of d g o (Ok e) h t).1 k.1)
every_of d g o (Err Memory) h l t NoStep k = inr refl
every_of d g o (Err (TooWide q)) h l t NoStep k = absurd t
every_of d g o (Err NoStep) h l t NoStep k = inl refl

pub accepted_of : (d : Design) (g : StepMatrices) (o : Option ℕ) (r : Result StepExponents CurvatureFault) → Chosen d g o → Outcome g o r →
    (s1 : ℕ) → IsPlainExponent d s1 → s1 ≤ 40 → IsOk r ⊎ (r ≡ Err Memory)
accepted_of d g o (Ok e) h t s1 p l = inl (search rules)
accepted_of d g o (Err Memory) h t s1 p l = inr refl
accepted_of d g o (Err (TooWide q)) h t s1 p l = absurd t
accepted_of d g o (Err NoStep) h t s1 p l = absurd (flat_clash d s1 p l (flat_of d g o h t))

-- where it is not
pub wide_refused : (d : Design) → 2 ^ 126 < curvature_quantity d → (r : Result StepExponents CurvatureFault) → r ≡ Err (TooWide Curvature) →
    IfErr r (IsExponentRefused d)
wide_refused d l r e = rw e (inr (refl, l))

pub wide_every : (d : Design) → 2 ^ 126 < curvature_quantity d → (r : Result StepExponents CurvatureFault) → r ≡ Err (TooWide Curvature) →
    (e : CurvatureFault) → HasExponentCause d e → (r ≡ Err e) ⊎ (r ≡ Err Memory)
wide_every d l r f Memory k = absurd k
wide_every d l r f (TooWide q) k = inl (f ∙ ap (λ (z : Quantity). Err (TooWide z)) (sym k.0))
wide_every d l r f NoStep k = absurd (omega (arith, l, k.0))

-- where memory is wanting
pub memory_is : (r : Result StepExponents CurvatureFault) (y : CurvatureFault) → r ≡ Err y → y ≡ Memory → r ≡ Err Memory
memory_is r y e f = e ∙ ap (λ (z : CurvatureFault). Err z) f

pub memory_refused : (d : Design) (r : Result StepExponents CurvatureFault) → r ≡ Err Memory → IfErr r (IsExponentRefused d)
memory_refused d r e = rw e (inl refl)

-- ---- the quantity
pub at-le : (fine : Bool) (d : Design) (most s t : ℕ) → s ≤ t → size_at fine d most s ≤ size_at fine d most t
at-le fine d most s t l =
    let p : 2 ^ s ≤ 2 ^ t = pow-le-pow_right {n = 2} (omega arith) {i = s} {j = t} l in
    let q = mul-le-mul_right (d.limit_denominator ^ 2) p in
    let r = mul-le-mul_right (cost_row_in fine d) q in
    omega (arith, r)

pub room_of : (d : Design) (g : StepMatrices) (o : Option ℕ) → AreMatricesOf (is_fine d) d (λ l. 1) (product_row_in (is_fine d) d) g → IsLeastBelow 41 (CoversSquares d) o →
    curvature_quantity d ≤ 2 ^ 126 → (s : ℕ) → s ≤ unwrap_or o 40 → HasMatrixRoom g s
room_of d g o h b l s k =
    let most = product_row_in (is_fine d) d in
    h.room s (under (at-le (is_fine d) d most s (unwrap_or o 40) k) (ap (λ t. size_at (is_fine d) d most t) (exponent_is d (form_of d) o b)) l)
  where
    under : {a b c e : ℕ} → a ≤ b → c ≡ b → c ≤ e → a ≤ e
    under {a} {b} {c} {e} h g k = omega (arith, h, g, k)

-- what a test of it says
pub wide_of : (d : Design) → ¬ (curvature_quantity d ≤ 2 ^ 126) → 2 ^ 126 < curvature_quantity d
wide_of d k = elim (cases_lt (2 ^ 126) (curvature_quantity d)) [ inl l ↦ l | inr l ↦ absurd (k l) ]

-- all of it, of a condensed form
pub chosen_of : (p : DesignParts) (c : Condensed) → IsFormOf p c → (g : StepMatrices) (o : Option ℕ) →
    AreMatricesOf (is_fine (design_of p)) (design_of p) (λ l. 1) (product_row_in (is_fine (design_of p)) (design_of p)) g → IsLeastBelow 41 (CoversSquares (design_of p)) o → Chosen (design_of p) g o
chosen_of p c f g o m s = record {
  matrices = m;
  squares = s;
  some = covers_least (design_of p) (form_of (design_of p)) (sound p f.design).rho_positive f.encloses.rows_some;
}
