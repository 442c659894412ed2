-- Which class the corners are of, by what is known of them in exact numbers; and what a margin, or a fault, tells of them in that class.
use Rattle.std.proofs.Common.{◌≡◌, inl, inr, ℕ, ◌^◌, ◌<◌, ◌≤◌, ◌↔◌, max, Bool, true, false, nat_lt, arith, sym, subst, ◌∙◌, Result, Err}
use Rattle.std.specs.Prelude.{IfOk, OnOk, IsErr}
use Rattle.std.proofs.lemmas.Bool.{cases_lt, lt-ltb, le-ltb}
use Rattle.frac_scaled.specs.declared.fraction.Frac.{Frac}
use Rattle.qp_model.specs.declared.bounds.Margin.{Margin}
use Rattle.qp_model.specs.declared.quantity.Quantity.{Quantity}
use Rattle.qp_model.specs.declared.quantity.Quantity.TheVariants.{Prediction, CornerSlack, CornerCost}
use Rattle.qp_model.specs.problem.Design.{Design}
use Rattle.qp_model.specs.problem.Policy.{Plans}
use Rattle.qp_model.specs.form.Quantities.{prediction_size}
use Rattle.qp_model.specs.bounds.CornerSizes.{corner_slack_size, corner_cost_size}
use Rattle.qp_model.specs.bounds.CornerClass.{has_fine_corners, IsMarginIn}
use Rattle.corner_margin.specs.Corners.{HasCornerRoomIn, IsFirstWideCornerIn, IsFirstShortIn}
use Rattle.corner_margin.specs.declared.fault.MarginFault.{MarginFault}
use Rattle.corner_margin.specs.declared.fault.MarginFault.TheVariants.{TooWide, NoMargin}

-- ---- plain numbers
first_above : (t a b c : ℕ) → t < a → nat_lt t (max a (max b c)) ≡ true
first_above t a b c h = lt-ltb t (max a (max b c)) (omega arith)

second_above : (t a b c : ℕ) → t < b → nat_lt t (max a (max b c)) ≡ true
second_above t a b c h = lt-ltb t (max a (max b c)) (omega arith)

third_above : (t a b c : ℕ) → t < c → nat_lt t (max a (max b c)) ≡ true
third_above t a b c h = lt-ltb t (max a (max b c)) (omega arith)

all_within : (t a b c : ℕ) → a ≤ t → b ≤ t → c ≤ t → nat_lt t (max a (max b c)) ≡ false
all_within t a b c h k l = le-ltb t (max a (max b c)) (omega arith)

within : (limit size : ℕ) → (limit < size → ⊥) → size ≤ limit
within limit size never = elim (cases_lt limit size) [ inl lt ↦ absurd (never lt) | inr le ↦ le ]

-- ---- the class
module _ (d : Design) (p : Plans) where
  -- a quantity of the exact corners is above the limit
  wide_corners : (q : Quantity) → IsFirstWideCornerIn false d p q → has_fine_corners d p ≡ true
  wide_corners Prediction h = first_above (2 ^ 126) (prediction_size d) (corner_slack_size d p) (corner_cost_size d p) h
  wide_corners CornerSlack h = second_above (2 ^ 126) (prediction_size d) (corner_slack_size d p) (corner_cost_size d p) h.1
  wide_corners CornerCost h = third_above (2 ^ 126) (prediction_size d) (corner_slack_size d p) (corner_cost_size d p) h.1.1
  wide_corners q h = absurd h

  -- none is
  exact_corners : ((q : Quantity) → IsFirstWideCornerIn false d p q → ⊥) → has_fine_corners d p ≡ false
  exact_corners none =
      let prediction = within (2 ^ 126) (prediction_size d) (none Prediction) in
      let slack = within (2 ^ 126) (corner_slack_size d p) (λ lt. none CornerSlack (prediction, lt)) in
      let cost = within (2 ^ 126) (corner_cost_size d p) (λ lt. none CornerCost (prediction, (slack, lt))) in
      all_within (2 ^ 126) (prediction_size d) (corner_slack_size d p) (corner_cost_size d p) prediction slack cost

-- ---- what is told of them
pub record IsAnswerIn (fine : Bool) (d : Design) (p : Plans) (r : Result Margin MarginFault) : Type 0 where
  pub room : OnOk r (HasCornerRoomIn fine d p)
  pub margin : IfOk r (λ m. IsMarginIn fine d p m)
  pub wide : (quantity : Quantity) → (r ≡ Err (TooWide quantity)) ↔ IsFirstWideCornerIn fine d p quantity
  pub short : (corner row : ℕ) (slack : Frac) → r ≡ Err (NoMargin corner row slack) → HasCornerRoomIn fine d p × IsFirstShortIn fine d p corner row slack
  pub no_give_up : (corner row : ℕ) (slack : Frac) → IsFirstShortIn fine d p corner row slack → IsErr r

abbrev pub IsAnswer : Design → Plans → Result Margin MarginFault → Type 0
IsAnswer d p r = IsAnswerIn (has_fine_corners d p) d p r

-- in a class that the corners are of
answer_of : (fine : Bool) (d : Design) (p : Plans) (r : Result Margin MarginFault) → has_fine_corners d p ≡ fine → IsAnswerIn fine d p r → IsAnswer d p r
answer_of fine d p r e h = subst (λ (b : Bool). IsAnswerIn b d p r) (sym e) h

-- in exact numbers, where no quantity of them is too wide
pub exact_answer : (d : Design) (p : Plans) (r x : Result Margin MarginFault) → r ≡ x → ((q : Quantity) → x ≡ Err (TooWide q) → ⊥) → IsAnswerIn false d p r → IsAnswer d p x
exact_answer d p r x e never h =
    subst (λ (y : Result Margin MarginFault). IsAnswer d p y) e (answer_of false d p r (exact_corners d p (λ q w. never q (sym e ∙ (h.wide q).1 w))) h)

-- in enclosures, where one is
pub fine_answer : (d : Design) (p : Plans) (r x : Result Margin MarginFault) (q : Quantity) → r ≡ Err (TooWide q) →
    ((o : Quantity) → (r ≡ Err (TooWide o)) ↔ IsFirstWideCornerIn false d p o) → IsAnswerIn true d p x → IsAnswer d p x
fine_answer d p r x q e wide h = answer_of true d p x (wide_corners d p q ((wide q).0 e)) h
