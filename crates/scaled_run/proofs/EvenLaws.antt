-- Enclosures with no radius, and divisions that come out even.
use Rattle.std.proofs.Common.{◌≡◌, inl, inr, ℕ, ◌+◌, ◌-◌, ◌*◌, ◌<◌, ◌≤◌, [], ◌∷◌, ℤ, pos, ◌+ℤ◌, ◌*ℤ◌, ◌≤ℤ◌, ◌<ℤ◌, unsigned_abs, lit<, arith, ap, sym, ◌∙◌, refl}
use Rattle.std.proofs.lemmas.Int.{ints, unsigned_abs-mul}
use Rattle.std.proofs.lemmas.Bool.{cases_lt, lt-ltb, le-ltb}
use Rattle.std.proofs.Math.IntN.{*ℤ-zero}
use Rattle.std.proofs.Math.Nat.{mul-mod_left, zero-div}
use Rattle.integer_algebra.specs.Bounds.{absolute}
use Rattle.integer_algebra.specs.Division.{ceil_of, round_of}
use Rattle.integer_algebra.specs.Sums.{total, dot}
use Rattle.integer_algebra.proofs.DivisionLaws.{floor_unique}
use Rattle.integer_algebra.proofs.RingLaws.{add_equations}
use Rattle.integer_algebra.proofs.SumLaws.{total_same, total_zero}
use Rattle.integer_algebra.proofs.VectorLaws.{dot_scale_right}
use Rattle.integer_algebra.proofs.BlockLaws.{total_append}
use Rattle.integer_algebra.proofs.Quoting.{by_ring, quotes}
use Rattle.frac_scaled.specs.Enclosures.{Enclosure, inexact, divided, whole_product}
use Rattle.mat_int.specs.Enclosures.{combination, combined}
use Rattle.qp_model.specs.form.FineForm.{followed}
use Rattle.scaled_run.specs.ScaledForm.{whole}

-- a number with no radius
abbrev pub bare : ℤ → Enclosure
bare z = record { mid = z; rad = pos 0 }

-- ---- even divisions

pub round_even : (d : ℕ) (z : ℤ) → 1 ≤ d → round_of (z *ℤ pos d) d ≡ z
round_even d z h =
    sym (floor_unique (pos 2 *ℤ (z *ℤ pos d) +ℤ pos d) (2 * d) z (twice d h) (record { least = below z (pos d) (pos (2 * d)) refl (some d h); greatest = above z (pos d) (pos (2 * d)) refl (some d h) }))
  where
    twice : (d : ℕ) → 1 ≤ d → 0 < 2 * d
    twice d h = omega arith

    some : (d : ℕ) → 1 ≤ d → pos 1 ≤ℤ pos d
    some d h = omega (arith, ints)

    doubled : (z e : ℤ) → z *ℤ (pos 2 *ℤ e) ≡ pos 2 *ℤ (z *ℤ e)
    doubled z e = by_ring (z ∷ e ∷ []) (search quotes depth 60 fits 20000) refl

    more : (z e : ℤ) → (z +ℤ pos 1) *ℤ (pos 2 *ℤ e) ≡ pos 2 *ℤ (z *ℤ e) +ℤ pos 2 *ℤ e
    more z e = by_ring (z ∷ e ∷ []) (search quotes depth 60 fits 20000) refl

    below : (z e f : ℤ) → f ≡ pos 2 *ℤ e → pos 1 ≤ℤ e → (z *ℤ f) ≤ℤ (pos 2 *ℤ (z *ℤ e) +ℤ e)
    below z e f g h = rw (g, doubled z e) (omega (arith, ints))

    above : (z e f : ℤ) → f ≡ pos 2 *ℤ e → pos 1 ≤ℤ e → (pos 2 *ℤ (z *ℤ e) +ℤ e) <ℤ ((z +ℤ pos 1) *ℤ f)
    above z e f g h = rw (g, more z e) (omega (arith, ints))

pub inexact_even : (d : ℕ) (z : ℤ) → 1 ≤ d → inexact (z *ℤ pos d) d ≡ pos 0
inexact_even d z h = rw (unsigned_abs-mul z (pos d), mul-mod_left (unsigned_abs z) d) refl

-- a multiple of d with no radius, over d
pub divided_even : (d : ℕ) (z : ℤ) → 1 ≤ d → divided (bare (z *ℤ pos d)) d ≡ bare z
divided_even d z h = rw (round_even d z h, inexact_even d z h, nought) refl
  where
    nought : ceil_of (pos 0) d ≡ pos 0
    nought = rw (zero-div d) refl

-- the same of a whole number over a multiple of d
pub divided_whole : (m d : ℕ) (z : ℤ) → 1 ≤ d → divided (whole (m * d) z) d ≡ whole m z
divided_whole m d z h = ap (λ (w : ℤ). divided (bare w) d) (turn (pos m) (pos d) z) ∙ divided_even d (pos m *ℤ z) h
  where
    turn : (m d z : ℤ) → m *ℤ d *ℤ z ≡ m *ℤ z *ℤ d
    turn m d z = by_ring (m ∷ d ∷ z ∷ []) (search quotes depth 60 fits 20000) refl

-- over 1
pub divided_one : (z : ℤ) → divided (bare z) 1 ≡ bare z
divided_one z = ap (λ (w : ℤ). divided (bare w) 1) (once z) ∙ divided_even 1 z (lit< tt)
  where
    once : (z : ℤ) → z ≡ z *ℤ pos 1
    once z = omega (arith, ints)

-- ---- sums
-- multiples of numbers with no radius
pub combination_bare : (n : ℕ) (c : ℕ → ℤ) (x : ℕ → Enclosure) (y : ℕ → ℤ) → ((i : ℕ) → i < n → x i ≡ bare (y i)) →
    combination n c x ≡ bare (total n (λ i. c i *ℤ y i))
combination_bare n c x y h = rw (total_same n _ (λ i. c i *ℤ y i) (λ i l. mids i l), total_same n _ (λ i. pos 0) (λ i l. rads i l) ∙ total_zero n) refl
  where
    mids : (i : ℕ) → i < n → c i *ℤ (x i).mid ≡ c i *ℤ y i
    mids i l = rw (h i l) refl

    rads : (i : ℕ) → i < n → absolute (c i) *ℤ (x i).rad ≡ pos 0
    rads i l = rw (h i l) (*ℤ-zero (absolute (c i)))

-- of whole numbers over one unit
pub combination_whole : (n m : ℕ) (c : ℕ → ℤ) (x : ℕ → Enclosure) (y : ℕ → ℤ) → ((i : ℕ) → i < n → x i ≡ whole m (y i)) →
    combination n c x ≡ whole m (dot n c y)
combination_whole n m c x y h = combination_bare n c x (λ i. pos m *ℤ y i) h ∙ ap bare (dot_scale_right n (pos m) c y)

-- and over 1: nothing is rounded
pub combined_one : (n m : ℕ) (c : ℕ → ℤ) (x : ℕ → Enclosure) (y : ℕ → ℤ) → ((i : ℕ) → i < n → x i ≡ whole m (y i)) →
    combined n c x 1 ≡ whole m (dot n c y)
combined_one n m c x y h = ap (λ (e : Enclosure). divided e 1) (combination_whole n m c x y h) ∙ divided_one (pos m *ℤ dot n c y)

-- ---- products
pub product_bare : (x y : ℤ) → whole_product (bare x) (bare y) ≡ bare (x *ℤ y)
product_bare x y = ap (λ (w : ℤ). record { mid = x *ℤ y; rad = w }) (nought (absolute x) (absolute y))
  where
    nought : (a b : ℤ) → a *ℤ pos 0 +ℤ pos 0 *ℤ b +ℤ pos 0 *ℤ pos 0 ≡ pos 0
    nought a b = by_ring (a ∷ b ∷ []) (search quotes depth 60 fits 20000) refl

-- ---- one list after another
-- whole numbers over one unit in both
pub followed_whole : (n p m : ℕ) (e f : ℕ → Enclosure) (y z : ℕ → ℤ) → ((j : ℕ) → j < n → e j ≡ whole m (y j)) → ((j : ℕ) → j < p → f j ≡ whole m (z j)) →
    (j : ℕ) → j < n + p → followed n e f j ≡ whole m (followed n y z j)
followed_whole n p m e f y z h k j l = elim (cases_lt j n) [
  | inl o ↦ rw (lt-ltb j n o) (h j o)
  | inr o ↦ rw (le-ltb j n o) (k (j - n) (omega arith))
]

-- sums of their products
pub followed_total : (n m : ℕ) (a b p t : ℕ → ℤ) → total (n + m) (λ i. followed n a b i *ℤ followed n p t i) ≡ dot n a p +ℤ dot m b t
followed_total n m a b p t = total_append n m _ ∙ add_equations (total_same n _ _ (λ i l. first i l)) (total_same m _ _ (λ i l. second i))
  where
    first : (i : ℕ) → i < n → followed n a b i *ℤ followed n p t i ≡ a i *ℤ p i
    first i l = rw (lt-ltb i n l) refl

    past : (n i : ℕ) → n + i - n ≡ i
    past n i = omega arith

    second : (i : ℕ) → followed n a b (n + i) *ℤ followed n p t (n + i) ≡ b i *ℤ t i
    second i = rw (le-ltb (n + i) n (omega arith), past n i) refl
