-- What holds of each index below a number.
use Rattle.std.proofs.Common.{◌≡◌, ℕ, zero, suc, ◌+◌, ◌*◌, ◌^◌, ◌%◌, ◌<◌, ◌≤◌, min, ltb, Bool, true, false, true≢false, IsTrue, ◌↔◌, List, [], ◌∷◌, length, get_or, All, refl, sym, subst, ◌∙◌, inl, inr, ap, arith, mod-eq_of_lt}
use Rattle.std.proofs.lemmas.Bool.{cases_lt, ltb-true, lt-ltb}
use Rattle.std.proofs.lemmas.Nat.{mul-le}
use Rattle.std.proofs.Math.Pow.{pow_mono}
use Rattle.qp_model.proofs.AbsoluteLaws.{le_times_pow}

pub each_none : (P : ℕ → Type 0) → (k : ℕ) → k < 0 → P k
each_none P k l = absurd (omega (arith, l))

pub each_more : (P : ℕ → Type 0) (n : ℕ) → ((k : ℕ) → k < n → P k) → P n → (k : ℕ) → k < n + 1 → P k
each_more P n h p k l = elim (cases_lt k n) [
  | inl less ↦ h k less
  | inr more ↦ (let e : n ≡ k = omega (arith, l, more) in subst P e p)
]

-- as a test tells that stops at the first that fails
pub each_failed : (P : ℕ → Type 0) (n k : ℕ) (b : Bool) → k < n → (IsTrue b ↔ P k) → b ≡ false → (IsTrue false ↔ ((i : ℕ) → i < n → P i))
each_failed P n k b l h f = ((λ t. absurd (true≢false (sym t))), (λ all. sym f ∙ h.1 (all k l)))

pub each_passed : (P : ℕ → Type 0) (n k : ℕ) → n ≤ k → ((i : ℕ) → i < k → P i) → (IsTrue true ↔ ((i : ℕ) → i < n → P i))
each_passed P n k l h = ((λ t i less. h i (omega (arith, l, less))), (λ all. refl))

-- and of each number of a list, whatever is read outside it
get_any : {X : Type 0} (xs : List X) (k : ℕ) (d e : X) → k < length xs → get_or xs k d ≡ get_or xs k e
get_any [] k d e l = absurd (omega (arith, l))
get_any (x ∷ xs) zero d e l = refl
get_any (x ∷ xs) (suc k) d e l = get_any xs k d e (omega (arith, l))

pub each_all : {X : Type 0} (P : X → Type 0) (xs : List X) (d : X) → ((k : ℕ) → k < length xs → P (get_or xs k d)) → All P xs
each_all P xs d h k e l = subst P (get_any xs k d e l) (h k l)

-- ---- numbers below 2^37
pub short_is : (size k most : ℕ) → most ≡ min size (2 ^ 37) → k ≤ 40 → (IsTrue (ltb ((most * 2 ^ k) % 2 ^ 128) (2 ^ 37)) ↔ (size * 2 ^ k < 2 ^ 37))
short_is size k most e few =
    let power : 2 ^ k ≤ 2 ^ 40 = pow_mono {i = k} {j = 40} few in
    let room : most * 2 ^ k ≤ 2 ^ 37 * 2 ^ 40 = mul-le most (2 ^ k) (2 ^ 37) (2 ^ 40) (omega (arith, e)) power in
    let small : most * 2 ^ k < 2 ^ 128 = omega (arith, room) in
    let whole : (most * 2 ^ k) % 2 ^ 128 ≡ most * 2 ^ k = mod-eq_of_lt small in
    elim (cases_lt size (2 ^ 37)) [
      | inl l ↦ (let same : (most * 2 ^ k) % 2 ^ 128 ≡ size * 2 ^ k = whole ∙ ap (λ (a : ℕ). a * 2 ^ k) (let f : most ≡ size = omega (arith, e, l) in f) in
          ((λ t. omega (arith, same, ltb-true ((most * 2 ^ k) % 2 ^ 128) (2 ^ 37) t)), (λ h. lt-ltb ((most * 2 ^ k) % 2 ^ 128) (2 ^ 37) (omega (arith, same, h)))))
      | inr l ↦ (let f : most ≡ 2 ^ 37 = omega (arith, e, l) in
          ((λ t. absurd (omega (arith, whole, f, le_times_pow most k, ltb-true ((most * 2 ^ k) % 2 ^ 128) (2 ^ 37) t))), (λ h. absurd (omega (arith, h, l, le_times_pow size k)))))
    ]
