-- Refusals.
use Rattle.std.proofs.Common.{◌≡◌, inl, inr, ℕ, Bool, true, false, Result, Ok, Err, IfOk, ◌^◌, ◌<◌, ◌≤◌, arith, ap, subst, ◌∙◌, refl}
use Rattle.std.specs.Prelude.{◌↔◌, IsTrue, OnOk}
use Rattle.std.proofs.lemmas.Bool.{cases_lt}
use Rattle.std.proofs.Math.Nat.{pow-le-pow_right}
use Rattle.frac_scaled.specs.declared.fraction.Frac.{Frac}
use Rattle.qp_model.specs.declared.quantity.Quantity.{Quantity}
use Rattle.qp_model.specs.declared.quantity.Quantity.TheVariants.{Prediction, CornerSlack, CornerCost}
use Rattle.qp_model.specs.problem.Design.{Design}
use Rattle.qp_model.specs.problem.Policy.{Plans}
use Rattle.corner_margin.specs.Corners.{HasCornerRoomIn, IsFirstWideCornerIn}
use Rattle.corner_margin.specs.declared.fault.MarginFault.{MarginFault}
use Rattle.corner_margin.specs.declared.fault.MarginFault.TheVariants.{Memory, TooWide, NoMargin}

-- what two equal refusals say is equal
pub no_margin_same : {T : Type 0} {a b c r : ℕ} {x y : Frac} → ◌≡◌ {A = Result T MarginFault} (Err (NoMargin a b x)) (Err (NoMargin c r y)) → (a ≡ c) × ((b ≡ r) × (x ≡ y))
no_margin_same e = (cc, (cc, cc))

-- an error that was handed on
pub same_error : {T U E : Type 0} {r : Result T E} {o : Result U E} {x y z : E} → r ≡ Err y → r ≡ Err z → o ≡ Err x → y ≡ x → o ≡ Err z
same_error a b h e = cc

-- ---- the places of a corner and of a row
pub corner_few : (number states : ℕ) → number < 2 ^ states → states ≤ 6 → number < 64
corner_few number states h k = let p : 2 ^ states ≤ 2 ^ 6 = pow-le-pow_right {n = 2} (omega arith) {i = states} {j = 6} k in omega (arith, h, p)

-- ---- the first quantity that is too wide is one alone
past : {a t : ℕ} → a ≤ t → t < a → ⊥
past h k = omega (arith, h, k)

first_unique : (fine : Bool) (d : Design) (p : Plans) (q r : Quantity) → IsFirstWideCornerIn fine d p q → IsFirstWideCornerIn fine d p r → q ≡ r
first_unique fine d p Prediction Prediction h k = refl
first_unique fine d p Prediction CornerSlack h k = absurd (past k.0 h)
first_unique fine d p Prediction CornerCost h k = absurd (past k.0 h)
first_unique fine d p CornerSlack Prediction h k = absurd (past h.0 k)
first_unique fine d p CornerSlack CornerSlack h k = refl
first_unique fine d p CornerSlack CornerCost h k = absurd (past k.1.0 h.1)
first_unique fine d p CornerCost Prediction h k = absurd (past h.0 k)
first_unique fine d p CornerCost CornerSlack h k = absurd (past h.1.0 k.1)
first_unique fine d p CornerCost CornerCost h k = refl
first_unique fine d p Prediction r h k = absurd k
first_unique fine d p CornerSlack r h k = absurd k
first_unique fine d p CornerCost r h k = absurd k
first_unique fine d p q r h k = absurd h

-- so a refusal that names it names it alone
pub refused_first : {T : Type 0} {o : Result T MarginFault} (fine : Bool) (d : Design) (p : Plans) (r : Quantity) → o ≡ Err (TooWide r) → IsFirstWideCornerIn fine d p r → (q : Quantity) →
    (o ≡ Err (TooWide q)) ↔ IsFirstWideCornerIn fine d p q
refused_first fine d p r e w q = (
  (λ k. subst (λ (z : Quantity). IsFirstWideCornerIn fine d p z) (same e k) w),
  (λ v. e ∙ ap (λ (z : Quantity). Err (TooWide z)) (first_unique fine d p r q w v)),
)
  where
    same : {T : Type 0} {o : Result T MarginFault} {x y : Quantity} → o ≡ Err (TooWide x) → o ≡ Err (TooWide y) → x ≡ y
    same a b = cc

-- and where all are within their limit, none is named
none_wide : (fine : Bool) (d : Design) (p : Plans) → HasCornerRoomIn fine d p → (q : Quantity) → IsFirstWideCornerIn fine d p q → ⊥
none_wide fine d p h Prediction w = past h.prediction w
none_wide fine d p h CornerSlack w = past h.slack w.1
none_wide fine d p h CornerCost w = past h.cost w.1.1
none_wide fine d p h q w = w

pub none_refused : {T : Type 0} {o : Result T MarginFault} {x : T} (fine : Bool) (d : Design) (p : Plans) → o ≡ Ok x → HasCornerRoomIn fine d p → (q : Quantity) →
    (o ≡ Err (TooWide q)) ↔ IsFirstWideCornerIn fine d p q
none_refused fine d p e h q = (
  (λ k. absurd (apart e k)),
  (λ w. absurd (none_wide fine d p h q w)),
)
  where
    apart : {T : Type 0} {o : Result T MarginFault} {x : T} {y : MarginFault} → o ≡ Ok x → o ≡ Err y → ⊥
    apart a b = cc

-- what the test of a quantity tells
pub outside : (n : ℕ) → (n ≤ 2 ^ 126 → ⊥) → 2 ^ 126 < n
outside n h = elim (cases_lt (2 ^ 126) n) [ inl l ↦ l | inr l ↦ absurd (h l) ]

pub quantity_above : (b : Bool) (n : ℕ) → IsTrue b ↔ (n ≤ 2 ^ 126) → b ≡ false → 2 ^ 126 < n
quantity_above b n h e = outside n (λ l. apart b (h.1 l) e)
  where
    apart : (b : Bool) → b ≡ true → b ≡ false → ⊥
    apart b h e = cc

-- ---- want of memory is no other fault
pub memory_unshort : {T : Type 0} {o : Result T MarginFault} {x : MarginFault} {corner row : ℕ} {slack : Frac} → o ≡ Err x → x ≡ Memory → o ≡ Err (NoMargin corner row slack) → ⊥
memory_unshort a b e = cc

pub memory_unwide : {T : Type 0} {o : Result T MarginFault} {x : MarginFault} {q : Quantity} → o ≡ Err x → x ≡ Memory → o ≡ Err (TooWide q) → ⊥
memory_unwide a b e = cc

-- ---- results
-- what is made is no fault, and what is refused is not made
pub made_apart : {T : Type 0} {v : T} {x : MarginFault} → ◌≡◌ {A = Result T MarginFault} (Ok v) (Err x) → ⊥
made_apart e = cc

pub none_made : {T : Type 0} {r : Result T MarginFault} {x : MarginFault} (P : T → Type 0) → r ≡ Err x → IfOk r P
none_made P e = rw e tt

pub none_on : {T : Type 0} {r : Result T MarginFault} {x : MarginFault} (P : Type 0) → r ≡ Err x → OnOk r P
none_on P e = rw e tt
