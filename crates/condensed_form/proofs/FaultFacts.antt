-- The first quantity that is too wide.
use Rattle.std.proofs.Common.{◌≡◌, ◌↔◌, Result, Ok, Err, ℕ, ◌^◌, ◌<◌, ◌≤◌, pos, false, arith, ap, to_z, refl}
use Rattle.std.specs.Int.{w128}
use Rattle.std.proofs.lemmas.Int.{ints}
use Rattle.qp_model.specs.declared.quantity.Quantity.{Quantity}
use Rattle.qp_model.specs.declared.quantity.Quantity.TheVariants.{Prediction, Hessian, Rows}
use Rattle.qp_model.specs.problem.Design.{Design}
use Rattle.qp_model.specs.form.Quantities.{prediction_size, hessian_size, rows_size}
use Rattle.condensed_form.specs.Fault.{IsFirstWideIn, AreEntrySizes}
use Rattle.qp_model.specs.declared.size_fault.SizeFault.{SizeFault}
use Rattle.qp_model.specs.declared.size_fault.SizeFault.TheVariants.{TooWide, Memory}

-- neither a quantity nor a value says that memory ran out
pub wide_has_memory : {T : Type 0} (q : Quantity) → ◌≡◌ {A = Result T SizeFault} (Err (TooWide q)) (Err Memory) → ⊥
wide_has_memory q e = cc

pub value_has_memory : {T : Type 0} (v : T) → ◌≡◌ {A = Result T SizeFault} (Ok v) (Err Memory) → ⊥
value_has_memory v e = cc

over : (a t : ℕ) → (a ≤ t → ⊥) → t < a
over a t h = omega (arith, h)

both : (a t : ℕ) → a ≤ t → t < a → ⊥
both a t h k = omega arith

-- ---- which quantity is the first
pub prediction_first : (d : Design) → (prediction_size d ≤ 2 ^ 126 → ⊥) → (q : Quantity) → Prediction ≡ q → IsFirstWideIn false d q
prediction_first d h Prediction e = over _ _ h
prediction_first d h q e = cc

pub first_prediction : (d : Design) → (prediction_size d ≤ 2 ^ 126 → ⊥) → (q : Quantity) → IsFirstWideIn false d q → Prediction ≡ q
first_prediction d h Prediction w = refl
first_prediction d h Hessian w = absurd (h w.0)
first_prediction d h Rows w = absurd (h w.0)
first_prediction d h q w = absurd w

pub hessian_first : (d : Design) → prediction_size d ≤ 2 ^ 126 → (hessian_size d ≤ 2 ^ 126 → ⊥) → (q : Quantity) → Hessian ≡ q → IsFirstWideIn false d q
hessian_first d h k Hessian e = (h, over _ _ k)
hessian_first d h k q e = cc

pub first_hessian : (d : Design) → prediction_size d ≤ 2 ^ 126 → (hessian_size d ≤ 2 ^ 126 → ⊥) → (q : Quantity) → IsFirstWideIn false d q → Hessian ≡ q
first_hessian d h k Prediction w = absurd (both _ _ h w)
first_hessian d h k Hessian w = refl
first_hessian d h k Rows w = absurd (k w.1.0)
first_hessian d h k q w = absurd w

pub rows_first : (d : Design) → prediction_size d ≤ 2 ^ 126 → hessian_size d ≤ 2 ^ 126 → (rows_size d ≤ 2 ^ 126 → ⊥) → (q : Quantity) → Rows ≡ q → IsFirstWideIn false d q
rows_first d h k l Rows e = (h, (k, over _ _ l))
rows_first d h k l q e = cc

pub first_rows : (d : Design) → prediction_size d ≤ 2 ^ 126 → hessian_size d ≤ 2 ^ 126 → (rows_size d ≤ 2 ^ 126 → ⊥) → (q : Quantity) → IsFirstWideIn false d q → Rows ≡ q
first_rows d h k l Prediction w = absurd (both _ _ h w)
first_rows d h k l Hessian w = absurd (both _ _ k w.1)
first_rows d h k l Rows w = refl
first_rows d h k l q w = absurd w

none_wide : (d : Design) → prediction_size d ≤ 2 ^ 126 → hessian_size d ≤ 2 ^ 126 → rows_size d ≤ 2 ^ 126 → (q : Quantity) → IsFirstWideIn false d q → ⊥
none_wide d h k l Prediction w = both _ _ h w
none_wide d h k l Hessian w = both _ _ k w.1
none_wide d h k l Rows w = both _ _ l w.1.1
none_wide d h k l q w = w

-- a fault that names a quantity is given exactly where that is the first
pub fault_wide : {T : Type 0} (d : Design) (q : Quantity) → ((r : Quantity) → q ≡ r → IsFirstWideIn false d r) → ((r : Quantity) → IsFirstWideIn false d r → q ≡ r) →
    (r : Quantity) → ◌≡◌ {A = Result T SizeFault} (Err (TooWide q)) (Err (TooWide r)) ↔ IsFirstWideIn false d r
fault_wide d q f g r = ((λ e. (let s : q ≡ r = cc in f r s)), (λ w. ap (λ (x : Quantity). Err (TooWide x)) (g r w)))

-- and a value where none is
pub value_wide : {T : Type 0} (d : Design) (v : T) → prediction_size d ≤ 2 ^ 126 → hessian_size d ≤ 2 ^ 126 → rows_size d ≤ 2 ^ 126 →
    (r : Quantity) → ◌≡◌ {A = Result T SizeFault} (Ok v) (Err (TooWide r)) ↔ IsFirstWideIn false d r
value_wide d v h k l r = ((λ e. cc), (λ w. absurd (none_wide d h k l r w)))

-- ---- the quantities
cast : (n size : ℕ) → n ≡ size → size ≤ 2 ^ 126 → to_z w128 n ≡ pos size
cast n size e h = rw e (omega (arith, ints))

pub entry_sizes : (d : Design) (cost limit : ℕ) → (hessian_size d ≤ 2 ^ 126) × (cost ≡ hessian_size d) → (rows_size d ≤ 2 ^ 126) × (limit ≡ rows_size d) →
    AreEntrySizes d (to_z w128 cost) (to_z w128 limit)
entry_sizes d cost limit h k = record { cost_is = cast cost _ h.1 h.0; cost_room = h.0; limit_is = cast limit _ k.1 k.0; limit_room = k.0 }
