-- By how much a plan exceeds a row, from the row's step exponent.
use Rattle.std.proofs.Common.{◌≡◌, ℕ, ◌+◌, ◌*◌, ◌^◌, ◌<◌, ◌≤◌, arith, ap, ◌∙◌, sym}
use Rattle.std.proofs.lemmas.Nat.{pow-add}
use Rattle.std.proofs.Math.Nat.{add-mul, mul-le-mul_right, pow-le-pow_right}
use Rattle.integer_algebra.specs.Division.{ceil_div}
use Rattle.integer_algebra.proofs.DivisionLaws.{le-mul-ceil_div, ceil_div-le}
use Rattle.qp_model.specs.bounds.Choices.{row_violation_bound, violation_bound}

-- a row's step and the greatest, each times 2^40 r
pub step_sum : (e s r : ℕ) → 2 ^ (e + 40) * r + 2 ^ (s + 40) * r ≡ (2 ^ e + 2 ^ s) * 2 ^ 40 * r
step_sum e s r =
    let p = pow-add 2 e 40 in
    let q = pow-add 2 s 40 in
    sym (add-mul (2 ^ (e + 40)) (2 ^ (s + 40)) r) ∙ ap (λ (n : ℕ). n * r) (omega (arith, p, q))

-- both steps of a row with the greatest exponent
two_steps : (s r : ℕ) → (2 ^ s + 2 ^ s) * 2 ^ 40 * r ≡ 2 ^ (s + 41) * r
two_steps s r = let p = pow-add 2 s 41 in ap (λ (n : ℕ). n * r) (omega (arith, p))

-- the bound of all rows is that of a row with the greatest exponent
pub greatest_row : (s r k eps : ℕ) → row_violation_bound s s r k eps ≡ violation_bound s r k eps
greatest_row s r k eps = ap (λ (n : ℕ). ceil_div n k + ceil_div eps r) (two_steps s r)

-- the quotient rounded up, of more
more_ceil : (a b k : ℕ) → 1 ≤ k → a ≤ b → ceil_div a k ≤ ceil_div b k
more_ceil a b k some h = let e = le-mul-ceil_div b k some in ceil_div-le a k (ceil_div b k) some (omega (arith, e))

-- a row with a smaller exponent is exceeded by no more
pub row_below : (e s r k eps : ℕ) → e ≤ s → 1 ≤ k → row_violation_bound e s r k eps ≤ violation_bound s r k eps
row_below e s r k eps h some =
    let two : 0 < 2 = omega arith in
    let p : 2 ^ e ≤ 2 ^ s = pow-le-pow_right two h in
    let sum : (2 ^ e + 2 ^ s) * 2 ^ 40 ≤ (2 ^ s + 2 ^ s) * 2 ^ 40 = omega (arith, p) in
    let steps = more_ceil ((2 ^ e + 2 ^ s) * 2 ^ 40 * r) ((2 ^ s + 2 ^ s) * 2 ^ 40 * r) k some (mul-le-mul_right r sum) in
    let same = greatest_row s r k eps in
    omega (arith, steps, same)
