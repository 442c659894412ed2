-- Which class a design is of, by what is known of its exact form.
use Rattle.std.proofs.Common.{◌≡◌, ℕ, ◌^◌, ◌<◌, ◌≤◌, ◌↔◌, max, Bool, true, false, Option, Some, None, nat_lt, arith, ap, sym, subst, refl, Result, Ok, Err}
use Rattle.std.specs.Prelude.{IsTrue, IsSome, IfSome}
use Rattle.std.specs.Bool.{then_some}
use Rattle.std.specs.Result.{IsErrAnd}
use Rattle.std.proofs.lemmas.Bool.{lt-ltb, le-ltb, ltb-false}
use Rattle.qp_model.specs.declared.quantity.Quantity.{Quantity}
use Rattle.qp_model.specs.declared.quantity.Quantity.TheVariants.{Prediction, Hessian, Rows}
use Rattle.qp_model.specs.declared.design_parts.DesignParts.{DesignParts}
use Rattle.qp_model.specs.problem.Design.{Design}
use Rattle.qp_model.specs.problem.Parts.{design_of}
use Rattle.qp_model.specs.form.Quantities.{prediction_size, hessian_size, rows_size}
use Rattle.qp_model.specs.form.FineSizes.{exact_curvature_size, is_fine}
use Rattle.condensed_form.specs.declared.condensed.Condensed.{Condensed}
use Rattle.qp_model.specs.declared.size_fault.SizeFault.{SizeFault}
use Rattle.qp_model.specs.declared.size_fault.SizeFault.TheVariants.{Memory}
use Rattle.condensed_form.specs.Form.{IsFormIn, IsFormOf}
use Rattle.condensed_form.specs.Fault.{IsFirstWideIn, IsFirstWideForm}

-- ---- plain numbers
first_above : (t a b c e : ℕ) → t < a → nat_lt t (max (max a b) (max c e)) ≡ true
first_above t a b c e h = lt-ltb t (max (max a b) (max c e)) (omega arith)

second_above : (t a b c e : ℕ) → t < b → nat_lt t (max (max a b) (max c e)) ≡ true
second_above t a b c e h = lt-ltb t (max (max a b) (max c e)) (omega arith)

third_above : (t a b c e : ℕ) → t < c → nat_lt t (max (max a b) (max c e)) ≡ true
third_above t a b c e h = lt-ltb t (max (max a b) (max c e)) (omega arith)

all_within : (t a b c e : ℕ) → (t < a → ⊥) → b ≤ t → c ≤ t → e ≤ t → nat_lt t (max (max a b) (max c e)) ≡ false
all_within t a b c e h k l m = le-ltb t (max (max a b) (max c e)) (greatest (under h))
  where
    under : (t < a → ⊥) → a ≤ t
    under h = omega (arith, h)

    greatest : a ≤ t → max (max a b) (max c e) ≤ t
    greatest n = omega arith

last_within : (t a b c e : ℕ) → nat_lt t (max (max a b) (max c e)) ≡ false → e ≤ t
last_within t a b c e h = omega (arith, ltb-false t (max (max a b) (max c e)) h)

-- ---- an answer that is given or withheld
apart : {b : Bool} → b ≡ true → b ≡ false → ⊥
apart e f = cc

absent : (o : Option Condensed) → o ≡ None → IsSome o → ⊥
absent (Some x) e s = cc
absent None e s = cc

-- where the test holds, and none elsewhere
pub chosen : (P : Type 0) (limited : Bool) (c : Condensed) (form : Option Condensed) → form ≡ then_some limited c → IsTrue limited ↔ P → IsSome form ↔ P
chosen P true c form is class = ((λ s. class.0 refl), (λ h. rw is refl))
chosen P false c form is class = ((λ s. absurd (absent form is s)), (λ h. absurd (apart (class.1 h) refl)))

pub kept : (P : Condensed → Type 0) (limited : Bool) (c : Condensed) (form : Option Condensed) → form ≡ then_some limited c → P c → IfSome form P
kept P true c form is h = rw is h
kept P false c form is h = rw is tt

-- ---- the class
-- a quantity of the exact form is above the limit
pub wide_class : (d : Design) (q : Quantity) → IsFirstWideIn false d q → is_fine d ≡ true
wide_class d Prediction h = first_above (2 ^ 126) (prediction_size d) (hessian_size d) (rows_size d) (exact_curvature_size d) h
wide_class d Hessian h = second_above (2 ^ 126) (prediction_size d) (hessian_size d) (rows_size d) (exact_curvature_size d) h.1
wide_class d Rows h = third_above (2 ^ 126) (prediction_size d) (hessian_size d) (rows_size d) (exact_curvature_size d) h.1.1
wide_class d q h = absurd h

-- there is an exact form: the class hangs on `curvature` alone
pub limited_class : (p : DesignParts) (c : Condensed) (limited : Bool) → IsFormIn false p c → (2 ^ 126 < prediction_size (design_of p) → ⊥) →
    (IsTrue limited ↔ (exact_curvature_size (design_of p) ≤ 2 ^ 126)) → IsTrue limited ↔ (is_fine (design_of p) ≡ false)
limited_class p c limited is within curved = (
  (λ t. all_within (2 ^ 126) (prediction_size d) (hessian_size d) (rows_size d) (exact_curvature_size d) within is.sizes.cost_room is.sizes.limit_room (curved.0 t)),
  (λ e. curved.1 (last_within (2 ^ 126) (prediction_size d) (hessian_size d) (rows_size d) (exact_curvature_size d) e)),
)
  where
    d : Design
    d = design_of p

-- an exact form is the design's
pub exact_held : (p : DesignParts) (form : Option Condensed) (c : Condensed) → form ≡ Some c → IsSome form ↔ (is_fine (design_of p) ≡ false) →
    IfSome form (λ condensed. IsFormIn false p condensed) → IsFormOf p c
exact_held p form c is class held = subst (λ (b : Bool). IsFormIn b p c) (sym (class.0 (rw is refl))) (rw is at held)

-- ---- what is refused
pub out_of_memory : (r : Result Condensed SizeFault) → IsErrAnd r (λ e. e ≡ Memory) → r ≡ Err Memory
out_of_memory (Ok x) h = absurd h
out_of_memory (Err e) h = ap (λ (fault : SizeFault). Err fault) h

-- no quantity of an exact design's form is above the limit
pub none_wide : (d : Design) (q : Quantity) → is_fine d ≡ false → IsFirstWideForm d q → ⊥
none_wide d q e h = apart (wide_class d q (subst (λ (b : Bool). IsFirstWideIn b d q) e h)) e

-- those of the enclosures are the ones that count, where there is no exact form
module _ (d : Design) (form : Option Condensed) (class : IsSome form ↔ (is_fine d ≡ false)) (none : form ≡ None) where
  pub fine : is_fine d ≡ true
  fine = other (is_fine d) (λ e. absent form none (class.1 e))
    where
      other : (b : Bool) → (b ≡ false → ⊥) → b ≡ true
      other true h = refl
      other false h = absurd (h refl)

  pub fine_wide : (q : Quantity) → IsFirstWideIn true d q → IsFirstWideForm d q
  fine_wide q h = subst (λ (b : Bool). IsFirstWideIn b d q) (sym fine) h

  pub wide_fine : (q : Quantity) → IsFirstWideForm d q → IsFirstWideIn true d q
  wide_fine q h = subst (λ (b : Bool). IsFirstWideIn b d q) fine h
