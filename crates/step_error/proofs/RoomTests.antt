-- Whether the greatest product is within its limit.
use Rattle.std.proofs.Common.{◌≡◌, inl, inr, ℕ, zero, suc, ◌+◌, ◌*◌, ◌^◌, ◌<◌, ◌≤◌, max, Bool, true, false, Option, Some, None, is_some, nat_lt, if◌then◌else◌, ℤ, unsigned_abs, arith, refl, sym, ◌∙◌}
use Rattle.std.specs.Option.{SomeIff}
use Rattle.std.proofs.lemmas.Bool.{cases_lt, lt-ltb, le-ltb}
use Rattle.std.proofs.Math.Nat.{mul-le-mul_right}
use Rattle.integer_algebra.specs.Division.{ceil_div}
use Rattle.qp_model.specs.form.Form.{Form}
use Rattle.qp_model.specs.bounds.Errors.{ErrorSums}
use Rattle.qp_model.specs.form.Quantities.{greatest}
use Rattle.qp_model.specs.form.Columns.{solve_matrix}
use Rattle.qp_model.proofs.SizeFacts.{greatest_term}
use Rattle.step_error.specs.Gains.{combined_of, has_room, missed_squares, missed_cost}

-- the greatest of multiples
greatest_times : (n z : ℕ) (f : ℕ → ℕ) → greatest n (λ j. f j * z) ≡ greatest n f * z
greatest_times zero z f = omega arith
greatest_times (suc n) z f = rw (greatest_times n z f) (larger (greatest n f) (f n) z)
  where
    larger : (a b z : ℕ) → max (a * z) (b * z) ≡ max a b * z
    larger a b z = elim (cases_lt a b) [
      | inl l ↦ (let e : max a b ≡ b = omega (arith, l) in let o : a ≤ b = omega (arith, l) in rw e (omega (arith, mul-le-mul_right z o)))
      | inr l ↦ (let e : max a b ≡ a = omega (arith, l) in rw e (omega (arith, mul-le-mul_right z l)))
    ]

-- a number that is given exactly where it is within its limit
pub decided : (o : Option ℕ) (t : ℕ) → SomeIff o (t ≤ 2 ^ 126) t → is_some o ≡ nat_lt t (2 ^ 126 + 1)
decided None t h = sym (le-ltb t (2 ^ 126 + 1) (elim (cases_lt (2 ^ 126) t) [
  | inl l ↦ omega (arith, l)
  | inr l ↦ absurd (h l)
]))
decided (Some x) t h = let l : t ≤ 2 ^ 126 = h.0 in sym (lt-ltb t (2 ^ 126 + 1) (omega (arith, l)))

-- the test of the code
pub room_decided : (h : Form) (o : Option ℕ) (most combined z : ℕ) → most ≡ greatest h.entries (λ j. unsigned_abs (solve_matrix h j j)) → combined ≡ z →
    SomeIff o (most * combined ≤ 2 ^ 126) (most * combined) → is_some o ≡ has_room h z
room_decided h o most combined z e g given = decided o (most * combined) given ∙ (λ i. nat_lt (same i) (2 ^ 126 + 1))
  where
    same : most * combined ≡ greatest h.entries (λ j. unsigned_abs (solve_matrix h j j) * z)
    same = rw (e, g) (sym (greatest_times h.entries z (λ j. unsigned_abs (solve_matrix h j j))))

-- where it holds, each product is within the limit
pub room_each : (h : Form) (z j : ℕ) → has_room h z ≡ true → j < h.entries → unsigned_abs (solve_matrix h j j) * z ≤ 2 ^ 126
room_each h z j e l = elim (cases_lt (2 ^ 126) (greatest h.entries (λ j. unsigned_abs (solve_matrix h j j) * z))) [
  | inl o ↦ absurd (let k = le-ltb (greatest h.entries (λ j. unsigned_abs (solve_matrix h j j) * z)) (2 ^ 126 + 1) (omega (arith, o)) in let g = sym e ∙ k in cc)
  | inr o ↦ omega (arith, o, greatest_term j h.entries (λ j. unsigned_abs (solve_matrix h j j) * z) l)
]

-- ---- what the squares cost, by the test
module _ (h : Form) (f : ℕ) (x : ℕ → ℕ → ℤ) (mean : ℕ → ℕ) (weight times : ℕ) (e : ErrorSums) (state top n : ℕ) where
  pub cost_without : has_room h (combined_of h state top) ≡ false → state ≡ e.state → top ≡ e.top → n ≡ e.first → n ≡ missed_cost h f x mean weight times e
  cost_without none hs ht is =
      let k : has_room h (combined_of h e.state e.top) ≡ false = (λ i. has_room h (combined_of h (sym hs i) (sym ht i))) ∙ none in
      is ∙ sym (chosen (has_room h (combined_of h e.state e.top)) _ _ k)
    where
      chosen : (b : Bool) (m n : ℕ) → b ≡ false → (if b then m else n) ≡ n
      chosen b m n h = rw h refl

  pub cost_with : has_room h (combined_of h state top) ≡ true → state ≡ e.state → top ≡ e.top →
      n ≡ times * ceil_div (weight * missed_squares h f x state top mean) (2 * e.rho) → n ≡ missed_cost h f x mean weight times e
  cost_with some hs ht is =
      let k : has_room h (combined_of h e.state e.top) ≡ true = (λ i. has_room h (combined_of h (sym hs i) (sym ht i))) ∙ some in
      is ∙ (λ i. times * ceil_div (weight * missed_squares h f x (hs i) (ht i) mean) (2 * e.rho)) ∙ sym (chosen (has_room h (combined_of h e.state e.top)) _ _ k)
    where
      chosen : (b : Bool) (m n : ℕ) → b ≡ true → (if b then m else n) ≡ m
      chosen b m n h = rw h refl
