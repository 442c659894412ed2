-- The descent: single entries move, the value falls, and the residual follows.
use Rattle.std.specs.Prelude.{◌≡◌, ℕ, ◌^◌, ◌<◌, ◌≤◌, ℤ, pos, ◌+ℤ◌, ◌-ℤ◌, ◌*ℤ◌, ◌≤ℤ◌, List, length, unsigned_abs}
use Rattle.integer_algebra.specs.Sums.{dot, image, at}
use Rattle.integer_algebra.specs.Bounds.{absolute}
use Rattle.mat_int.specs.Matrix.{Matrix, entry_of}
use Rattle.qp_model.specs.form.Convex.{IsConvex}

-- 2^f times a column
abbrev pub aim : ℕ → List ℤ → ℕ → ℤ
aim f c j = pos (2 ^ f) *ℤ at c j

-- h x - b
abbrev pub system_residual : ℕ → (ℕ → ℕ → ℤ) → (b x : ℕ → ℤ) → ℕ → ℤ
system_residual n h b x i = image n h x i -ℤ b i

-- x'h x - 2 b'x
abbrev pub value : ℕ → (ℕ → ℕ → ℤ) → (b x : ℕ → ℤ) → ℤ
value n h b x = dot n x (image n h x) -ℤ pos 2 *ℤ dot n b x

-- no move of one entry lowers the value: twice each residual is at most the diagonal's entry
abbrev pub IsSettled : ℕ → (ℕ → ℕ → ℤ) → (ℕ → ℤ) → Type 0
IsSettled n h r = (j : ℕ) → j < n → (pos 2 *ℤ absolute (r j)) ≤ℤ h j j

-- r is the residual of x, whose value is not above 0
pub record IsDescent (n : ℕ) (h : ℕ → ℕ → ℤ) (b x r : ℕ → ℤ) : Type 0 where
  pub rest : (i : ℕ) → i < n → r i ≡ system_residual n h b x i
  pub low : value n h b x ≤ℤ pos 0

-- numbers of the descent are small: wherever the value is not above 0, and on the diagonal
pub record IsRoomy (n : ℕ) (h : ℕ → ℕ → ℤ) (b : ℕ → ℤ) : Type 0 where
  pub entry : (y : ℕ → ℤ) → value n h b y ≤ℤ pos 0 → (i : ℕ) → i < n → unsigned_abs (y i) ≤ 2 ^ 125
  pub rest : (y : ℕ → ℤ) → value n h b y ≤ℤ pos 0 → (i : ℕ) → i < n → unsigned_abs (system_residual n h b y i) ≤ 2 ^ 125
  pub diagonal : (i : ℕ) → i < n → h i i ≤ℤ pos (2 ^ 125)

-- a system, and numbers of the descent that fit
pub record IsTask (h : Matrix) (c : List ℤ) (floor : ℤ) (f : ℕ) : Type 0 where
  pub rows : length h.rows ≡ length c
  pub cols : h.cols ≡ length c
  pub convex : IsConvex (length c) (entry_of h) floor
  pub roomy : IsRoomy (length c) (entry_of h) (aim f c)

-- q is r / d, rounded to a nearest
pub record IsNearestQuotient (r d q : ℤ) : Type 0 where
  pub low : (pos 2 *ℤ (q *ℤ d)) ≤ℤ (pos 2 *ℤ r +ℤ d)
  pub high : (pos 2 *ℤ r) ≤ℤ (pos 2 *ℤ (q *ℤ d) +ℤ d)
