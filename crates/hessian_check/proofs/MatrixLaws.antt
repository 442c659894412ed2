-- What code computes of a difference.
use Rattle.std.proofs.Common.{◌≡◌, ℕ, zero, suc, ◌+◌, ◌*◌, ◌<◌, ◌≤◌, ◌^◌, [], ◌∷◌, ℤ, pos, ◌-ℤ◌, ◌*ℤ◌, ◌≤ℤ◌, unsigned_abs, length, arith, FitsSigned, refl, ap, ap₂, sym, ◌∙◌}
use Rattle.std.specs.Prelude.{All, Result, Ok, Err, IfOk}
use Rattle.std.proofs.lemmas.List.Elements.{All-get_or, All-from_get_or}
use Rattle.mat_int.specs.Row.{abs_sum}
use Rattle.mat_int.proofs.Indices.{row_size}
use Rattle.std.specs.declared.alloc.AllocError.{AllocError}
use Rattle.mat_int.specs.Matrix.{Matrix, entry_of}
use Rattle.hessian_check.specs.declared.matrices.StepMatrices.{StepMatrices}
use Rattle.hessian_check.specs.Dominance.{AreSame, IsSymmetric}
use Rattle.hessian_check.specs.MatrixRoom.{matrix_at, HasMatrixRoom}
use Rattle.mat_int.specs.Matrix.{HasEntries}
use Rattle.hessian_check.specs.StepMatrices.{mixed}
use Rattle.std.specs.Int.{w128}
use Rattle.std.proofs.lemmas.Int.{ints, unsigned_abs-mul, fits_signed_from_abs}
use Rattle.std.proofs.Math.Nat.{mul-le-mul_left, pow-le-pow_right}
use Rattle.integer_algebra.specs.Sizes.{size}
use Rattle.integer_algebra.proofs.SizeLaws.{at_size, size_same}
use Rattle.integer_algebra.proofs.OrderLaws.{mul-le-mul_right_z, mul_nonneg_z}
use Rattle.integer_algebra.proofs.Quoting.{by_ring, quotes}

abs-sub_le : (a b : ℤ) → unsigned_abs (a -ℤ b) ≤ unsigned_abs a + unsigned_abs b
abs-sub_le a b = grind (arith, ints)

pub mixed_fits : (x a y b : ℤ) → unsigned_abs x * unsigned_abs a + unsigned_abs y * unsigned_abs b < 2 ^ 127 →
    FitsSigned w128 (x *ℤ a) × FitsSigned w128 (y *ℤ b) × FitsSigned w128 (x *ℤ a -ℤ y *ℤ b)
mixed_fits x a y b h =
    let p = unsigned_abs-mul x a in
    let q = unsigned_abs-mul y b in (
      fits_signed_from_abs w128 _ (omega (arith, p, h)),
      fits_signed_from_abs w128 _ (omega (arith, q, h)),
      fits_signed_from_abs w128 _ (omega (arith, abs-sub_le (x *ℤ a) (y *ℤ b), p, q, h)),
    )

-- the factor of the cost at s
pub scaled_fits : (a : ℤ) (s : ℕ) → pos 0 ≤ℤ a → a ≤ℤ pos (2 ^ 40) → s ≤ 40 → FitsSigned w128 (a *ℤ pos (2 ^ s))
scaled_fits a s l h k = numbers a (2 ^ s) l h (pow-le-pow_right {n = 2} (omega arith) {i = s} {j = 40} k)
  where
    numbers : (a : ℤ) (p : ℕ) → pos 0 ≤ℤ a → a ≤ℤ pos (2 ^ 40) → p ≤ 2 ^ 40 → FitsSigned w128 (a *ℤ pos p)
    numbers a p l h k =
        let q = mul-le-mul_right_z (pos p) (omega (arith, ints)) h in
        let o = mul_nonneg_z a (pos p) l (omega (arith, ints)) in
        omega (arith, ints, q, o, k)

-- an entry of a row that leaves room
pub entry_room : (p a b : ℕ) (n : ℕ) (f g : ℕ → ℤ) (x : ℤ) (j : ℕ) → j < n → unsigned_abs x ≡ a * p → p * a * size n f + b * size n g < 2 ^ 127 →
    unsigned_abs x * unsigned_abs (f j) + b * unsigned_abs (g j) < 2 ^ 127
entry_room p a b n f g x j l e h =
    let u = mul-le-mul_left (p * a) (at_size j n f l) in
    let v = mul-le-mul_left b (at_size j n g l) in
    rw e (omega (arith, u, v, h))

pub turned_factor : (p a x y : ℤ) → a *ℤ p *ℤ x -ℤ y ≡ p *ℤ a *ℤ x -ℤ y
turned_factor p a x y = by_ring (p ∷ a ∷ x ∷ y ∷ []) (search quotes depth 60 fits 20000) refl

pub factor_fits : (a : ℤ) → pos 0 ≤ℤ a → a ≤ℤ pos (2 ^ 40) → FitsSigned w128 a
factor_fits a h k = omega (arith, ints)

pub entries_as : (r : Result Matrix AllocError) (n : ℕ) (p a b : ℤ) (f g : ℕ → ℕ → ℤ) → IfOk r (HasEntries n n (mixed (a *ℤ p) f b g)) →
    IfOk r (HasEntries n n (λ i j. p *ℤ a *ℤ f i j -ℤ b *ℤ g i j))
entries_as (Ok m) n p a b f g h = record { rows = h.rows; cols = h.cols; even = h.even; entries = λ i j k l. h.entries i j k l ∙ turned_factor p a (f i j) (b *ℤ g i j) }
entries_as (Err e) n p a b f g h = h

-- the absolute values of a row of a difference
size-mixed_le : (n p q : ℕ) (x y : ℤ) (f g : ℕ → ℤ) → unsigned_abs x ≡ p → unsigned_abs y ≡ q →
    size n (λ j. x *ℤ f j -ℤ y *ℤ g j) ≤ p * size n f + q * size n g
size-mixed_le zero p q x y f g d e = omega arith
size-mixed_le (suc n) p q x y f g d e =
    let a : unsigned_abs (x *ℤ f n) ≡ p * unsigned_abs (f n) = unsigned_abs-mul x (f n) ∙ ap (λ z. z * unsigned_abs (f n)) d in
    let b : unsigned_abs (y *ℤ g n) ≡ q * unsigned_abs (g n) = unsigned_abs-mul y (g n) ∙ ap (λ z. z * unsigned_abs (g n)) e in
    omega (arith, size-mixed_le n p q x y f g d e, abs-sub_le (x *ℤ f n) (y *ℤ g n), a, b)

pub row_room : (n : ℕ) (g : StepMatrices) (s : ℕ) (m : Matrix) → length g.cost.rows ≡ n → AreSame n (entry_of m) (matrix_at g s) → HasMatrixRoom g s → (i : ℕ) → i < n → size n (entry_of m i) < 2 ^ 127
row_room n g s m e h r i k =
    let b = size-mixed_le n (2 ^ s * unsigned_abs g.cost_factor) (unsigned_abs g.row_factor) (pos (2 ^ s) *ℤ g.cost_factor) g.row_factor (entry_of g.cost i) (entry_of g.rows i)
    (unsigned_abs-mul (pos (2 ^ s)) g.cost_factor) refl in
    let o : 2 ^ s * unsigned_abs g.cost_factor * size n (entry_of g.cost i) + unsigned_abs g.row_factor * size n (entry_of g.rows i) < 2 ^ 127 = rw e at (r i (rw e k)) in
    rw (size_same n (entry_of m i) (matrix_at g s i) (λ j l. h.is i j k l)) (omega (arith, b, o))

-- the matrix turns, as its parts do
pub gap_turned : (n : ℕ) (g : StepMatrices) (s : ℕ) (m : Matrix) → length g.cost.rows ≡ n → AreSame n (entry_of m) (matrix_at g s) → IsSymmetric n (entry_of m)
gap_turned n g s m e h i j k l = h.is i j k l ∙
    ap₂ (λ (x : ℤ) (y : ℤ). pos (2 ^ s) *ℤ g.cost_factor *ℤ x -ℤ g.row_factor *ℤ y) (g.sound.cost_turned i j (rw e k) (rw e l)) (g.sound.rows_turned i j (rw e k) (rw e l)) ∙
    sym (h.is j i l k)

-- rows that leave room, as lists
pub all_narrow : (n : ℕ) (f : ℕ → ℕ → ℤ) (m : Matrix) → HasEntries n n f m → ((i : ℕ) → i < n → size n (entry_of m i) < 2 ^ 127) → All (λ row. abs_sum row < 2 ^ 127) m.rows
all_narrow n f m h r = All-from_get_or (λ row. abs_sum row < 2 ^ 127) m.rows [] (λ i l.
    rw (row_size n m i (All-get_or (λ row. length row ≡ n) m.rows i [] l h.even)) (r i (rw (← h.rows) l)))
