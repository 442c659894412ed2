-- A sum of products needs only the span of a row outside of which its numbers are 0.
use Rattle.std.proofs.Common.{◌≡◌, ℕ, zero, suc, ◌+◌, ◌-◌, ◌≤◌, ◌<◌, ℤ, pos, ◌+ℤ◌, ◌*ℤ◌, List, [], ◌∷◌, take, drop, arith, refl, sym, ap, ◌∙◌}
use Rattle.std.specs.Prelude.{slice_range, All}
use Rattle.std.proofs.lemmas.List.Elements.{All-take, All-drop}
use Rattle.std.proofs.lemmas.Int.{ints}
use Rattle.integer_algebra.specs.Sums.{at}
use Rattle.mat_int.specs.Row.{list_dot, abs_dot}
use Rattle.mat_int.proofs.Dots.{abs_dot-take_le}
use Rattle.fixed_kernel.specs.WordForm.{IsHalf}

nil_dot : (xs : List ℤ) → list_dot xs [] ≡ pos 0
nil_dot [] = refl
nil_dot (x ∷ xs) = refl

zero_term : (x y r : ℤ) → x ≡ pos 0 → x *ℤ y +ℤ r ≡ r
zero_term x y r e = rw e (omega (arith, ints))

-- ---- before the span
drop_dot : (a : ℕ) (xs ys : List ℤ) → ((k : ℕ) → k < a → at xs k ≡ pos 0) → list_dot (drop a xs) (drop a ys) ≡ list_dot xs ys
drop_dot zero xs ys h = refl
drop_dot (suc a) [] ys h = refl
drop_dot (suc a) (x ∷ xs) [] h = nil_dot (drop a xs)
drop_dot (suc a) (x ∷ xs) (y ∷ ys) h =
    drop_dot a xs ys (λ k l. h (suc k) (omega (arith, l))) ∙ sym (zero_term x y (list_dot xs ys) (h 0 (omega arith)))

drop_at : (a : ℕ) (xs : List ℤ) (k : ℕ) → at (drop a xs) k ≡ at xs (a + k)
drop_at zero xs k = ap (at xs) (let e : k ≡ 0 + k = omega arith in e)
drop_at (suc a) [] k = refl
drop_at (suc a) (x ∷ xs) k = drop_at a xs k ∙ ap (at (x ∷ xs)) (let e : suc (a + k) ≡ suc a + k = omega arith in e)

drop_le : (a : ℕ) (xs ys : List ℤ) → abs_dot (drop a xs) (drop a ys) ≤ abs_dot xs ys
drop_le zero xs ys = omega arith
drop_le (suc a) [] ys = omega arith
drop_le (suc a) (x ∷ xs) [] = nil_le (drop a xs)
  where
    nil_le : (xs : List ℤ) → abs_dot xs [] ≤ 0
    nil_le [] = omega arith
    nil_le (x ∷ xs) = omega arith
drop_le (suc a) (x ∷ xs) (y ∷ ys) = omega (arith, drop_le a xs ys)

-- ---- behind it
zeros_dot : (xs ys : List ℤ) → ((k : ℕ) → at xs k ≡ pos 0) → list_dot xs ys ≡ pos 0
zeros_dot [] ys h = refl
zeros_dot (x ∷ xs) [] h = refl
zeros_dot (x ∷ xs) (y ∷ ys) h = zero_term x y (list_dot xs ys) (h 0) ∙ zeros_dot xs ys (λ k. h (suc k))

take_dot : (n : ℕ) (xs ys : List ℤ) → ((k : ℕ) → n ≤ k → at xs k ≡ pos 0) → list_dot (take n xs) (take n ys) ≡ list_dot xs ys
take_dot zero xs ys h = sym (zeros_dot xs ys (λ k. h k (omega arith)))
take_dot (suc n) [] ys h = refl
take_dot (suc n) (x ∷ xs) [] h = refl
take_dot (suc n) (x ∷ xs) (y ∷ ys) h = ap (λ (z : ℤ). x *ℤ y +ℤ z) (take_dot n xs ys (λ k l. h (suc k) (omega (arith, l))))

-- ---- the span
pub span_dot_is : (xs ys : List ℤ) (a e : ℕ) → a ≤ e → ((k : ℕ) → k < a → at xs k ≡ pos 0) → ((k : ℕ) → e ≤ k → at xs k ≡ pos 0) → list_dot (slice_range xs a e) (slice_range ys a e) ≡ list_dot xs ys
span_dot_is xs ys a e le before behind =
    take_dot (e - a) (drop a xs) (drop a ys) (λ k l. drop_at a xs k ∙ behind (a + k) (omega (arith, l, le))) ∙ drop_dot a xs ys before

pub span_abs_le : (xs ys : List ℤ) (a e : ℕ) → abs_dot (slice_range xs a e) (slice_range ys a e) ≤ abs_dot xs ys
span_abs_le xs ys a e = omega (arith, abs_dot-take_le (drop a xs) (drop a ys) (e - a), drop_le a xs ys)

-- its numbers
pub span_half : (xs : List ℤ) (a e : ℕ) → All IsHalf xs → All IsHalf (slice_range xs a e)
span_half xs a e h = All-take IsHalf (e - a) (drop a xs) (All-drop IsHalf a xs h)
