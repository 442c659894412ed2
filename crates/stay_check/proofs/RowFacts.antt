-- The first rows, counted and found by a walk along the limits.
use Rattle.std.proofs.Common.{◌≡◌, ◌≢◌, ℕ, zero, suc, ◌+◌, ◌-◌, ◌*◌, ◌<◌, ◌≤◌, ◌^◌, ◌==◌, [], ◌∷◌, ◌++◌, length, get_or, ℤ, pos, ◌+ℤ◌, ◌*ℤ◌, Bool, true, false, unsigned_abs, FitsSigned, arith, ap, ◌∙◌, refl, length-append}
use Rattle.std.specs.Prelude.{filter}
use Rattle.std.specs.List.{range_with_len}
use Rattle.std.specs.Int.{w128}
use Rattle.std.proofs.lemmas.Int.{ints, unsigned_abs-mul, fits_signed_from_abs}
use Rattle.std.proofs.lemmas.List.{get_or-append-add}
use Rattle.std.proofs.lemmas.List.Elements.{filter-append}
use Rattle.std.proofs.lemmas.Nat.{mul-lt}
use Rattle.std.proofs.lemmas.Bool.{ne_eqb, lt-ltb}
use Rattle.mat_int.proofs.Dots.{abs-add_le}
use Rattle.integer_algebra.specs.Sizes.{size}
use Rattle.integer_algebra.proofs.SizeLaws.{at_size}
use Rattle.integer_algebra.specs.Sums.{total}
use Rattle.qp_model.specs.problem.Design.{Design}
use Rattle.qp_model.specs.problem.Range.{IsDenominator}
use Rattle.qp_model.specs.problem.Parts.{design_of, IsDesign}
use Rattle.qp_model.specs.declared.design_parts.DesignParts.{DesignParts}
use Rattle.stay_check.specs.FirstRows.{row_at_start, row_at_next, next_limit, first_row}
use Rattle.stay_check.specs.Columns.{plant_at, limit_coefficient, coefficient}
use Rattle.stay_check.specs.declared.rows.Column.{Column}
use Rattle.stay_check.specs.declared.rows.Column.TheVariants.{State, Input}

-- ---- numbers that pass a test, below n
range_append : (a m n : ℕ) → range_with_len a (m + n) ≡ range_with_len a m ++ range_with_len (a + m) n
range_append a zero n = let e : 0 + n ≡ n = omega arith in let f : a + 0 ≡ a = omega arith in rw (e, f) refl
range_append a (suc m) n =
    let e : suc m + n ≡ suc (m + n) = omega arith in
    let f : a + suc m ≡ a + 1 + m = omega arith in
    rw (e, f) (ap (λ xs. a ∷ xs) (range_append (a + 1) m n))

passing_append : (p : ℕ → Bool) (m n : ℕ) → filter p (range_with_len 0 (m + n)) ≡ filter p (range_with_len 0 m) ++ filter p (range_with_len m n)
passing_append p m n =
    let e : 0 + m ≡ m = omega arith in
    ap (filter p) (range_append 0 m n) ∙ rw e (filter-append p (range_with_len 0 m) (range_with_len m n))

pub passes_more : (p : ℕ → Bool) (i : ℕ) → p i ≡ true → length (filter p (range_with_len 0 (i + 1))) ≡ length (filter p (range_with_len 0 i)) + 1
passes_more p i h = ap length (passing_append p i 1) ∙ length-append (filter p (range_with_len 0 i)) (filter p (i ∷ [])) ∙ rw h refl

pub passes_same : (p : ℕ → Bool) (i : ℕ) → p i ≡ false → length (filter p (range_with_len 0 (i + 1))) ≡ length (filter p (range_with_len 0 i))
passes_same p i h = ap length (passing_append p i 1) ∙ length-append (filter p (range_with_len 0 i)) (filter p (i ∷ [])) ∙ rw h (omega arith)

-- the number that passes after k others
pub passes_at : (p : ℕ → Bool) (i k n : ℕ) → i < n → p i ≡ true → length (filter p (range_with_len 0 i)) ≡ k → get_or (filter p (range_with_len 0 n)) k 0 ≡ i
passes_at p i k n l h e =
    let split : i + suc (n - i - 1) ≡ n = omega arith in
    let at : k ≡ length (filter p (range_with_len 0 i)) + 0 = omega (arith, e) in
    rw (← split, passing_append p i (suc (n - i - 1)), at, get_or-append-add (filter p (range_with_len 0 i)) (filter p (range_with_len i (suc (n - i - 1)))) 0 0, h) refl

-- ---- through the plant
pub through : (d : Design) (i : ℕ) (x : Column) → total d.states (λ k. plant_at d k x *ℤ (next_limit d i).of_state k) ≡ coefficient (row_at_next d i) x
through d i (State j) = refl
through d i (Input l) = refl

-- ---- small products
pub product_small : (x y : ℤ) (a b : ℕ) → unsigned_abs x < a → unsigned_abs y < b → unsigned_abs (x *ℤ y) < a * b
product_small x y a b h k = rw (unsigned_abs-mul x y) (mul-lt (unsigned_abs x) (unsigned_abs y) a b h k)

-- ---- one more small product
pub record Added (most : ℕ) (s x y : ℤ) (k : ℕ) : Type 0 where
  pub product : FitsSigned w128 (x *ℤ y)
  pub sum : FitsSigned w128 (s +ℤ x *ℤ y)
  pub small : unsigned_abs (s +ℤ x *ℤ y) ≤ most * (k + 1)

pub added : (most a b : ℕ) (s x y : ℤ) (k : ℕ) → unsigned_abs s ≤ most * k → unsigned_abs x < a → unsigned_abs y < b → a * b ≤ most → most * (k + 1) < 2 ^ 127 → Added most s x y k
added most a b s x y k h p q l room =
    let small = product_small x y a b p q in
    let whole = abs-add_le s (x *ℤ y) in
    let more : most * (k + 1) ≡ most * k + most = omega arith in
    record {
      product = fits_signed_from_abs w128 _ (omega (arith, small, more));
      sum = fits_signed_from_abs w128 _ (omega (arith, small, more, whole));
      small = omega (arith, small, more, whole);
    }

-- ---- inputs of a limit
pub some_input : (n l : ℕ) (f : ℕ → ℤ) → l < n → f l ≢ pos 0 → (size n f == 0) ≡ false
some_input n l f h k = ne_eqb (size n f) 0 (λ e. k (omega (arith, ints, at_size l n f h, e)))

-- ---- at stage 0
pub record IsScaled (x y : ℤ) : Type 0 where
  pub fits : FitsSigned w128 (x *ℤ y)
  pub small : unsigned_abs (x *ℤ y) < 2 ^ 66

pub scaled_small : (x y : ℤ) → IsDenominator x → unsigned_abs y < 2 ^ 31 → IsScaled x y
scaled_small x y d h =
    let low = d.low in
    let high = d.high in
    let den : unsigned_abs x < 2 ^ 21 = omega (arith, ints, low, high) in
    let small = product_small x y (2 ^ 21) (2 ^ 31) den h in
    record { fits = fits_signed_from_abs w128 _ (omega (arith, small)); small = omega (arith, small) }

pub at_start : (p : DesignParts) (r : ℕ) (x : Column) (y : ℤ) → IsDesign p → r < length p.stage_rows.rows → y ≡ limit_coefficient ((design_of p).stage_limit r) x →
    p.plant_den *ℤ y ≡ coefficient (first_row (design_of p) r) x
at_start p r x y d l e =
    let low = d.plant_den.low in
    let den : pos (unsigned_abs p.plant_den) ≡ p.plant_den = omega (arith, ints, low) in
    rw (lt-ltb r (length p.stage_rows.rows) l, e) (by x den)
  where
    by : (x : Column) → pos (unsigned_abs p.plant_den) ≡ p.plant_den → p.plant_den *ℤ limit_coefficient ((design_of p).stage_limit r) x ≡ coefficient (row_at_start (design_of p) r) x
    by (State j) e = rw e refl
    by (Input l) e = rw e refl
