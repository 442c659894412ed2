-- What a design's rows and weights give its quantities.
use Rattle.std.proofs.Common.{◌≡◌, inl, inr, ℕ, zero, suc, ◌+◌, ◌*◌, ◌^◌, ◌<◌, ◌≤◌, max, ℤ, pos, ◌≤ℤ◌, unsigned_abs, arith, ap, ◌∙◌, add-one, refl, List, [], ◌∷◌, length, take, All}
use Rattle.std.proofs.lemmas.Bool.{cases_lt}
use Rattle.std.proofs.lemmas.Int.{ints}
use Rattle.std.proofs.Math.Nat.{add-suc, mul-le-mul_left, pow-suc, pow-le-pow_right, one-le-mul}
use Rattle.std.proofs.lemmas.List.{get_or-take, length-take-le}
use Rattle.integer_algebra.specs.Sums.{none, at}
use Rattle.integer_algebra.specs.Sizes.{size}
use Rattle.integer_algebra.proofs.SizeLaws.{amount_more, size_same}
use Rattle.integer_algebra.proofs.PowerLaws.{pow-two}
use Rattle.mat_int.specs.Matrix.{Matrix, row_of, entry_of}
use Rattle.qp_model.specs.declared.design_parts.DesignParts.{DesignParts}
use Rattle.qp_model.specs.problem.Design.{entries, rows}
use Rattle.qp_model.specs.problem.Range.{IsNumerator, IsPositive}
use Rattle.qp_model.specs.problem.Parts.{cost_row, limit_row, final_row, design_of, IsDesign}
use Rattle.qp_model.proofs.VersionLaws.{design_rows_le}
use Rattle.qp_model.specs.form.Quantities.{greatest, cost_width, limit_width, weight_sum}

-- one more number
pub greatest_more : (n : ℕ) (f : ℕ → ℕ) → greatest (n + 1) f ≡ max (greatest n f) (f n)
greatest_more n f = rw add-one refl

pub greatest_next : (n : ℕ) (f : ℕ → ℕ) (most next x : ℕ) → most ≡ greatest n f → x ≡ f n → next ≡ max most x → next ≡ greatest (n + 1) f
greatest_next n f most next x h e k = rw (greatest_more n f, k, h, e) refl

pub greatest_same : (n : ℕ) (f g : ℕ → ℕ) → ((i : ℕ) → i < n → f i ≡ g i) → greatest n f ≡ greatest n g
greatest_same zero f g h = refl
greatest_same (suc n) f g h = rw (greatest_same n f g (λ i l. h i (omega arith)), h n (omega arith)) refl

-- one of them
pub greatest_term : (i n : ℕ) (f : ℕ → ℕ) → i < n → f i ≤ greatest n f
greatest_term i zero f l = absurd (omega arith)
greatest_term i (suc n) f l = elim (cases_lt i n) [
  | inl o ↦ omega (arith, greatest_term i n f o)
  | inr o ↦ (let e : i ≡ n = omega arith in rw e (omega arith))
]

-- an absolute sum cut in two
pub size_append : (m n : ℕ) (f : ℕ → ℤ) → size (m + n) f ≡ size m f + size n (λ i. f (m + i))
size_append m zero f = let e : m + 0 ≡ m = omega arith in rw e (omega arith)
size_append m (suc n) f = rw add-suc (omega (arith, size_append m n f))

size_none : (n : ℕ) → size n none ≡ 0
size_none zero = refl
size_none (suc n) = omega (arith, size_none n)

-- ---- rows of numbers
pub cost_widths : (m : Matrix) (n k : ℕ) → greatest k (λ r. size (n + 1) (entry_of m r)) ≡
    greatest k (λ r. size n (cost_row m n r).coefficient + unsigned_abs (cost_row m n r).target)
cost_widths m n k = greatest_same k _ _ (λ r l. amount_more n (λ i. unsigned_abs (entry_of m r i)))

pub limit_widths : (m : Matrix) (n p k : ℕ) → greatest k (λ r. size (n + p + 1) (entry_of m r)) ≡
    greatest k (λ r. size n (limit_row m n p r).of_state + size p (limit_row m n p r).of_input + unsigned_abs (limit_row m n p r).bound)
limit_widths m n p k = greatest_same k _ _ (λ r l. amount_more (n + p) (λ i. unsigned_abs (entry_of m r i)) ∙
    ap (λ x. x + unsigned_abs (entry_of m r (n + p))) (size_append n p (entry_of m r)))

pub final_widths : (m : Matrix) (n p k : ℕ) → greatest k (λ r. size (n + 1) (entry_of m r)) ≡
    greatest k (λ r. size n (final_row m n r).of_state + size p (final_row m n r).of_input + unsigned_abs (final_row m n r).bound)
final_widths m n p k = greatest_same k _ _ (λ r l. amount_more n (λ i. unsigned_abs (entry_of m r i)) ∙
    joined (size n (entry_of m r)) (unsigned_abs (entry_of m r n)) _ (size_none p))
  where
    joined : (a b z : ℕ) → z ≡ 0 → a + b ≡ a + z + b
    joined a b z e = omega arith

-- ---- the first numbers of a list
pub size_taken : (w : ℕ) (xs : List ℤ) → w ≤ length xs → size (length (take w xs)) (at (take w xs)) ≡ size w (at xs)
size_taken w xs h = rw (length-take-le w xs h) (size_same w _ _ (λ i l. get_or-take w xs i (pos 0) l))

-- two rows
pub plant_sum : (n p a b : ℕ) (xs ys : List ℤ) → length xs ≡ n → length ys ≡ p → a ≡ size (length xs) (at xs) → b ≡ size (length ys) (at ys) →
    a + b ≡ size n (at xs) + size p (at ys)
plant_sum n p a b xs ys h k e f = rw (e, f, h, k) refl

-- one more factor
pub power_next : (b k p next : ℕ) → p ≡ b ^ k → next ≡ p * b → next ≡ b ^ (k + 1)
power_next b k p next h e = rw (e, h, add-one, pow-suc) refl

-- ---- what stays below the limit where more does
pub power_under : (b k n p t : ℕ) → 1 ≤ b → k < n → p ≡ b ^ k → b ^ n ≤ t → p * b ≤ t
power_under b k n p t h l e o = rw (e, ← (pow-suc b k)) (last (pow-le-pow_right {n = b} h l))
  where
    last : b ^ suc k ≤ b ^ n → b ^ suc k ≤ t
    last m = omega arith

pub square_under : (k s t : ℕ) → 1 ≤ k → k * s ^ 2 ≤ t → s * s ≤ t
square_under k s t h o = rw (← (pow-two s)) (omega (arith, mul-le-mul_left (s ^ 2) h))

pub side_under : (k s t : ℕ) → 1 ≤ k → k * s ^ 2 ≤ t → s ≤ t
side_under k zero t h o = omega arith
side_under k (suc s) t h o = omega (arith, square_under k (suc s) t h o, mul-le-mul_left (suc s) (one s))
  where
    one : (s : ℕ) → 1 ≤ suc s
    one s = omega arith

pub factor_under : (c b t : ℕ) → 1 ≤ c → c * b ≤ t → b ≤ t
factor_under c b t h o = omega (arith, mul-le-mul_left b h)

-- ---- the two quantities
pub hessian_parts : (e n w c b t : ℕ) → 1 ≤ e → 1 ≤ w → 1 ≤ c → e * (e + n + 1) * (2 * w * (c * b) ^ 2) ≤ t → (c * b ≤ t) × (b ≤ t)
hessian_parts e n w c b t he hw hc h = (side, factor_under c b t hc side)
  where
    turn : (m w x : ℕ) → m * (2 * w * x) ≡ m * (2 * w) * x
    turn m w x = omega arith

    count : (m w : ℕ) → 1 ≤ m → 1 ≤ w → 1 ≤ m * (2 * w)
    count m w h k = one-le-mul h (omega arith)

    grown : (e n : ℕ) → 1 ≤ e + n + 1
    grown e n = omega arith

    side : c * b ≤ t
    side = side_under (e * (e + n + 1) * (2 * w)) (c * b) t (count (e * (e + n + 1)) w (one-le-mul he (grown e n)) hw) (rw (← (turn (e * (e + n + 1)) w ((c * b) ^ 2))) h)

pub rows_parts : (e n m c b t : ℕ) → 1 ≤ m → 1 ≤ c → (e + n + 1) * m * (c * b) ^ 2 ≤ t → (c * b ≤ t) × (b ≤ t)
rows_parts e n m c b t hm hc h = (side, factor_under c b t hc side)
  where
    grown : (e n : ℕ) → 1 ≤ e + n + 1
    grown e n = omega arith

    side : c * b ≤ t
    side = side_under ((e + n + 1) * m) (c * b) t (one-le-mul (grown e n) hm) h

pub hessian_value : (m w v c x b y : ℕ) → v ≡ w → c ≡ x * y → b ≡ y → m * (2 * w * (x * b) ^ 2) ≡ m * 2 * v * c ^ 2
hessian_value m w v c x b y e f g = rw (e, f, g) (turn m w ((x * y) ^ 2))
  where
    turn : (m w x : ℕ) → m * (2 * w * x) ≡ m * 2 * w * x
    turn m w x = omega arith

pub rows_value : (m k c x b y : ℕ) → m ≡ k → c ≡ x * y → b ≡ y → k * (x * b) ^ 2 ≡ m * c ^ 2
rows_value m k c x b y e f g = rw (e, f, g) refl

-- what a design has at least one of
pub positive : (z : ℤ) → pos 1 ≤ℤ z → 1 ≤ unsigned_abs z
positive z h = omega (arith, ints)

pub some_weight : (p : DesignParts) → IsDesign p → 1 ≤ weight_sum (design_of p)
some_weight p h = omega (arith, positive p.cost_den h.cost_den.low)

pub some_cost : (p : DesignParts) → IsDesign p → 1 ≤ cost_width (design_of p)
some_cost p h = omega (arith, positive p.row_den h.row_den.low)

pub some_limit : (p : DesignParts) → IsDesign p → 1 ≤ limit_width (design_of p)
some_limit p h = omega (arith, positive p.limit_den h.limit_den.low)

pub some_entry : (p : DesignParts) → IsDesign p → 1 ≤ entries (design_of p)
some_entry p h = one-le-mul h.stages.0 h.inputs.0

pub some_row : (p : DesignParts) → IsDesign p → 1 ≤ rows (design_of p)
some_row p h = last p.stages (length p.stage_rows.rows) (length p.final_rows.rows) h.stages.0 h.some_row
  where
    last : (a b c : ℕ) → 1 ≤ a → 1 ≤ b + c → 1 ≤ a * b + c
    last a b c h k = omega (arith, mul-le-mul_left b h)

-- as many rows as the code counts
pub counted_rows : (p : DesignParts) (stage final : ℕ) → IsDesign p → stage ≡ length p.stage_rows.rows → final ≡ length p.final_rows.rows →
    (1 ≤ p.stages * stage + final) × (p.stages * stage + final ≤ 372)
counted_rows p stage final h e f = rw (e, f) (some_row p h, design_rows_le p h)

-- numerators, added up
pub numerators_size : (n : ℕ) (f : ℕ → ℤ) → ((i : ℕ) → i < n → unsigned_abs (f i) < 2 ^ 31) → size n f ≤ 2 ^ 31 * n
numerators_size zero f h = omega arith
numerators_size (suc n) f h = omega (arith, numerators_size n f (λ i l. h i (omega arith)), h n (omega arith))

-- ---- numerators
pub numerator_at : (xs : List ℤ) → All IsNumerator xs → (j : ℕ) → unsigned_abs (at xs j) < 2 ^ 31
numerator_at [] h j = omega arith
numerator_at (x ∷ xs) h zero = h 0 (pos 0) (omega arith)
numerator_at (x ∷ xs) h (suc j) = numerator_at xs (λ i d l. h (suc i) d (omega arith)) j

pub numerator_entry : (m : Matrix) → All (All IsNumerator) m.rows → (r j : ℕ) → r < length m.rows → unsigned_abs (entry_of m r j) < 2 ^ 31
numerator_entry m h r j l = numerator_at (row_of m r) (h r [] l) j

pub numerator_row : (m : Matrix) (r : ℕ) (xs : List ℤ) → All (All IsNumerator) m.rows → r < length m.rows → xs ≡ row_of m r →
    (j : ℕ) → j < length xs → unsigned_abs (at xs j) < 2 ^ 31
numerator_row m r xs h l e j k = rw e (numerator_entry m h r j l)

pub positive_row : (xs items : List ℤ) → xs ≡ items → All IsPositive items → (j : ℕ) → j < length xs → unsigned_abs (at xs j) < 2 ^ 31
positive_row xs items e h j k = rw e (under (at items j) (h j (pos 0) (omega (arith, ap length e))))
  where
    under : (z : ℤ) → IsPositive z → unsigned_abs z < 2 ^ 31
    under z positive = omega (arith, ints, positive.low, positive.high)
