-- The first quantity that is too wide is one alone.
use Rattle.std.proofs.Common.{◌≡◌, ◌⊎◌, inl, inr, ℕ, ◌<◌, ◌≤◌, ◌^◌, Result, Ok, Err, IfOk, true, max, lt_of_not-le, arith, ap, ap₂, subst, ◌∙◌, refl}
use Rattle.qp_model.specs.declared.quantity.Quantity.{Quantity}
use Rattle.qp_model.specs.declared.quantity.Quantity.TheVariants.{Prediction, Hessian, Rows}
use Rattle.qp_model.specs.form.Class.{prediction_in, hessian_in, rows_in}
use Rattle.qp_model.specs.problem.Design.{Design}
use Rattle.qp_model.specs.declared.size_fault.SizeFault.{SizeFault}
use Rattle.qp_model.specs.declared.size_fault.SizeFault.TheVariants.{Memory, TooWide}
use Rattle.condensed_form.specs.Fault.{IsFirstWideIn}

both : {a t : ℕ} → a ≤ t → t < a → ⊥
both h k = omega (arith, h, k)

first_unique : (d : Design) (q r : Quantity) → IsFirstWideIn true d q → IsFirstWideIn true d r → q ≡ r
first_unique d Prediction Prediction h k = refl
first_unique d Prediction Hessian h k = absurd (both k.0 h)
first_unique d Prediction Rows h k = absurd (both k.0 h)
first_unique d Hessian Prediction h k = absurd (both h.0 k)
first_unique d Hessian Hessian h k = refl
first_unique d Hessian Rows h k = absurd (both k.1.0 h.1)
first_unique d Rows Prediction h k = absurd (both h.0 k)
first_unique d Rows Hessian h k = absurd (both h.1.0 k.1)
first_unique d Rows Rows h k = refl
first_unique d Prediction r h k = absurd k
first_unique d Hessian r h k = absurd k
first_unique d Rows r h k = absurd k
first_unique d q r h k = absurd h

-- what a refusal is, where some quantity is too wide
pub refused : (d : Design) (fault : SizeFault) → ((q : Quantity) → fault ≡ TooWide q → IsFirstWideIn true d q) → (q : Quantity) → IsFirstWideIn true d q →
    (fault ≡ TooWide q) ⊎ (fault ≡ Memory)
refused d Memory h q w = inr refl
refused d (TooWide r) h q w = inl (ap TooWide (first_unique d r q (h r refl) w))

-- and that there is none, where all are within their limit
pub none_wide : (d : Design) → prediction_in true d ≤ 2 ^ 126 → hessian_in true d ≤ 2 ^ 126 → rows_in true d ≤ 2 ^ 126 → (q : Quantity) → IsFirstWideIn true d q → ⊥
none_wide d a b e Prediction h = both a h
none_wide d a b e Hessian h = both b h.1
none_wide d a b e Rows h = both e h.1.1
none_wide d a b e q h = h

-- a result is one fault alone
pub same_fault : {T : Type 0} {r : Result T SizeFault} {x y : SizeFault} → r ≡ Err x → r ≡ Err y → x ≡ y
same_fault h k = cc

-- want of memory is no quantity
pub memory_apart : (q : Quantity) → Memory ≡ TooWide q → ⊥
memory_apart q e = cc

-- and a fault names one quantity
pub same_quantity : {T : Type 0} {q r : Quantity} → ◌≡◌ {A = Result T SizeFault} (Err (TooWide q)) (Err (TooWide r)) → q ≡ r
same_quantity e = cc

-- what is made is no fault, and what is refused is not made
pub made_apart : {T : Type 0} {v : T} {x : SizeFault} → ◌≡◌ {A = Result T SizeFault} (Ok v) (Err x) → ⊥
made_apart e = cc

pub none_made : {T : Type 0} {r : Result T SizeFault} {x : SizeFault} (P : T → Type 0) → r ≡ Err x → IfOk r P
none_made P e = rw e tt

pub fault_of : {T : Type 0} {x y : SizeFault} → ◌≡◌ {A = Result T SizeFault} (Err x) (Err y) → x ≡ y
fault_of e = cc

-- the first quantity that is too wide, where those before it are not
pub first_prediction : {T : Type 0} {q : Quantity} (d : Design) → ◌≡◌ {A = Result T SizeFault} (Err (TooWide Prediction)) (Err (TooWide q)) → 2 ^ 126 < prediction_in true d →
    IsFirstWideIn true d q
first_prediction d e h = subst (λ (r : Quantity). IsFirstWideIn true d r) (same_quantity e) h

pub first_hessian : {q : Quantity} (d : Design) → q ≡ Hessian → prediction_in true d ≤ 2 ^ 126 → 2 ^ 126 < hessian_in true d → IsFirstWideIn true d q
first_hessian d e h k = rw e (h, k)

pub first_rows : {q : Quantity} (d : Design) → q ≡ Rows → prediction_in true d ≤ 2 ^ 126 → hessian_in true d ≤ 2 ^ 126 → 2 ^ 126 < rows_in true d → IsFirstWideIn true d q
first_rows d e h k l = rw e (h, (k, l))

-- ---- the greater of two quantities
pub above_first : (a b : ℕ) {n : ℕ} → (a ≤ n → ⊥) → n < max a b
above_first a b {n} h = over (lt_of_not-le h)
  where
    over : n < a → n < max a b
    over k = omega (arith, k)

pub above_second : (a b : ℕ) {n : ℕ} → (b ≤ n → ⊥) → n < max a b
above_second a b {n} h = over (lt_of_not-le h)
  where
    over : n < b → n < max a b
    over k = omega (arith, k)

pub within_both : (a b : ℕ) {n : ℕ} → a ≤ n → b ≤ n → max a b ≤ n
within_both a b h k = omega (arith, h, k)

pub greater_is : (a b r s t : ℕ) → r ≡ max s t → s ≡ a → t ≡ b → r ≡ max a b
greater_is a b r s t e h k = e ∙ ap₂ max h k
