-- Sums of numbers over powers of two, in whole numbers and what is left.
use Rattle.std.proofs.Common.{◌≡◌, ℕ, ◌+◌, ◌-◌, ◌*◌, ◌/◌, ◌%◌, ◌^◌, ◌<◌, ◌≤◌, Bool, List, length, arith, ap, ◌∙◌}
use Rattle.std.proofs.lemmas.Nat.{pow-add}
use Rattle.std.proofs.Math.Nat.{mul-add, mul-le-mul, mul_assoc, mul_comm, lt_of_mul-lt-mul_right}
use Rattle.integer_algebra.specs.Division.{ceil_div}
use Rattle.integer_algebra.specs.Sizes.{amount}
use Rattle.integer_algebra.proofs.DivisionLaws.{ceil_div-le, le-mul-ceil_div, mul-ceil_div-lt}
use Rattle.integer_algebra.proofs.AmountLaws.{amount_mono}
use Rattle.integer_algebra.proofs.SizeLaws.{amount_term}
use Rattle.qp_model.specs.declared.design_parts.DesignParts.{DesignParts}
use Rattle.condensed_form.specs.Form.{IsFormIn, held}
use Rattle.condensed_form.specs.declared.condensed.Condensed.{Condensed}
use Rattle.step_error.specs.ErrorSums.{farthest_entry}
use Rattle.step_error.proofs.SumFacts.{few, power_small, through}
use Rattle.step_error.proofs.DesignSums.{rows_small}

-- ---- one number more
power_split : (s e : ℕ) → e ≤ s → 2 ^ s ≡ 2 ^ (s - e) * 2 ^ e
power_split s e h = let same : s ≡ s - e + e = omega (arith, h) in ap (λ (n : ℕ). 2 ^ n) same ∙ pow-add 2 (s - e) e

split : (p a b w r q m x : ℕ) → p ≡ a * b → x ≡ b * q + m → p * (w + q) + (r + m * a) ≡ p * w + r + a * x
split p a b w r q m x e f =
    let parts : a * x ≡ a * (b * q) + a * m = ap (λ (n : ℕ). a * n) f ∙ mul-add a (b * q) m in
    let whole : p * q ≡ a * (b * q) = ap (λ (n : ℕ). n * q) e ∙ mul_assoc a b q in
    omega (arith, parts, whole, mul-add p w q, mul_comm m a)

pub one_more : (s e w r x : ℕ) → e ≤ s → 2 ^ s * (w + x / 2 ^ e) + (r + x % 2 ^ e * 2 ^ (s - e)) ≡ 2 ^ s * w + r + 2 ^ (s - e) * x
one_more s e w r x h = split (2 ^ s) (2 ^ (s - e)) (2 ^ e) w r (x / 2 ^ e) (x % 2 ^ e) x (power_split s e h) (parts x (2 ^ e))
  where
    parts : (n b : ℕ) → n ≡ b * (n / b) + n % b
    parts n b = omega arith

pub left_small : (s e x : ℕ) → e ≤ s → s ≤ 40 → 1 ≤ 2 ^ e → x % 2 ^ e * 2 ^ (s - e) ≤ 2 ^ 40
left_small s e x h k some =
    let below : x % 2 ^ e ≤ 2 ^ e = omega (arith, some) in
    let power : 2 ^ s ≤ 2 ^ 40 = power_small s 40 k in
    close (mul-le-mul below (power_small (s - e) (s - e) (omega arith))) (power_split s e h) (mul_comm (2 ^ (s - e)) (2 ^ e)) power
  where
    close : {a b c p : ℕ} → a ≤ b → p ≡ c → c ≡ b → p ≤ 2 ^ 40 → a ≤ 2 ^ 40
    close {a} {b} {c} {p} l e f m = omega (arith, l, e, f, m)

-- ---- the quotient, rounded up
pub lowered : (p w r n : ℕ) → 1 ≤ p → p * w + r ≡ n → w + ceil_div r p ≡ ceil_div n p
lowered p w r n some e =
    let parts = mul-add p w (ceil_div r p) in
    let most : ceil_div n p ≤ w + ceil_div r p = ceil_div-le n p (w + ceil_div r p) some (omega (arith, parts, e, le-mul-ceil_div r p some)) in
    let next = mul-add p (ceil_div n p) 1 in
    let under : p * (w + ceil_div r p) < p * (ceil_div n p + 1) = omega (arith, parts, next, e, mul-ceil_div-lt r p some, le-mul-ceil_div n p some) in
    let least : w + ceil_div r p < ceil_div n p + 1 = lt_of_mul-lt-mul_right p (turned (w + ceil_div r p) (ceil_div n p + 1) under) in
    omega (arith, most, least)
  where
    turned : (a b : ℕ) → p * a < p * b → a * p < b * p
    turned a b l = omega (arith, l, mul_comm p a, mul_comm p b)

-- a column's entries come to no more than all entries
pub column_le : (rows columns j : ℕ) (f : ℕ → ℕ → ℕ) → j < columns → amount rows (λ i. f i j) ≤ amount rows (λ i. amount columns (f i))
column_le rows columns j f l = amount_mono rows (λ i. f i j) (λ i. amount columns (f i)) (λ i o. amount_term j columns (f i) l)

-- ---- a column of a form's rows
module _ (fine : Bool) (p : DesignParts) (c : Condensed) (is : IsFormIn fine p c) (exps : List ℕ) (count : length exps ≡ (held c).rows) (j : ℕ) (inside : j < (held c).entries) where
  pub in_columns : j < c.g.cols
  in_columns = omega (arith, inside, is.shapes.hess.rows, is.shapes.g.cols)

  pub few_rows : length exps ≤ 372
  few_rows = omega (arith, count, is.shapes.g.rows, (few p is.design).rows)

  pub column_small : amount (length exps) (λ i. farthest_entry c.g c.g_rad i j) ≤ 2 ^ 126
  column_small = rw count (through (column_le (length c.g.rows) c.g.cols j (farthest_entry c.g c.g_rad) in_columns) (rows_small fine p c is))
