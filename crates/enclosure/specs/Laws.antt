-- What an enclosure made of others encloses. Fractions are numerators over denominators of at least 1, without a limit.
use Rattle.std.specs.Prelude.{◌≡◌, ℕ, ◌<◌, ℤ, pos, ◌+ℤ◌, ◌*ℤ◌, ◌≤ℤ◌}
use Rattle.integer_algebra.specs.Sums.{total}
use Rattle.frac_scaled.specs.Enclosures.{Enclosure, Encloses, enclosed, exactly, sum_of, product_of}
use Rattle.mat_int.specs.Enclosures.{combined, weighted_gram}

-- ---- of any enclosures
-- e encloses p / q + t / u wherever a encloses p / q and b encloses t / u
abbrev pub EnclosesSum : Enclosure → Enclosure → Enclosure → Type 0
EnclosesSum a b e = (p q t u : ℤ) → pos 1 ≤ℤ q → pos 1 ≤ℤ u → Encloses a p q → Encloses b t u → Encloses e (p *ℤ u +ℤ t *ℤ q) (q *ℤ u)

-- and p / q * t / u
abbrev pub EnclosesProduct : Enclosure → Enclosure → Enclosure → Type 0
EnclosesProduct a b e = (p q t u : ℤ) → pos 1 ≤ℤ q → pos 1 ≤ℤ u → Encloses a p q → Encloses b t u → Encloses e (p *ℤ t) (q *ℤ u)

-- e encloses (c_0 p_0 / q + ..) / den wherever each x_i encloses p_i / q: the fractions have one denominator
abbrev pub EnclosesCombination : ℕ → (ℕ → ℤ) → (ℕ → Enclosure) → ℤ → Enclosure → Type 0
EnclosesCombination n c x den e = (p : ℕ → ℤ) (q : ℤ) → pos 1 ≤ℤ q → ((i : ℕ) → i < n → Encloses (x i) (p i) q) →
    Encloses e (total n (λ i. c i *ℤ p i)) (q *ℤ den)

-- e encloses weight_0 * p_0j / q_j * p_0l / q_l + .. wherever each x_ij encloses p_ij / q_j: each column has one denominator
abbrev pub EnclosesGram : ℕ → (ℕ → ℤ) → (ℕ → ℕ → Enclosure) → ℕ → ℕ → Enclosure → Type 0
EnclosesGram n weight x j l e = (p : ℕ → ℕ → ℤ) (q : ℕ → ℤ) → pos 1 ≤ℤ q j → pos 1 ≤ℤ q l →
    ((i : ℕ) → i < n → Encloses (x i j) (p i j) (q j) × Encloses (x i l) (p i l) (q l)) →
    Encloses e (total n (λ i. weight i *ℤ (p i j *ℤ p i l))) (q j *ℤ q l)

-- ---- of the formulas
-- an enclosure of a fraction encloses each that is equal to it
abbrev pub FractionLaw : Type 0
FractionLaw = (e : Enclosure) (p q t u : ℤ) → pos 1 ≤ℤ q → pos 1 ≤ℤ u → p *ℤ u ≡ t *ℤ q → Encloses e p q → Encloses e t u

-- a fraction's own enclosure
abbrev pub EnclosedLaw : Type 0
EnclosedLaw = (num : ℤ) (den : ℕ) → 0 < den → Encloses (enclosed num den) num (pos den)

-- a whole number is enclosed exactly, over any denominator
abbrev pub WholeLaw : Type 0
WholeLaw = (n q : ℤ) → Encloses (exactly n) (n *ℤ q) q

-- sums
abbrev pub SumLaw : Type 0
SumLaw = (a b : Enclosure) → EnclosesSum a b (sum_of a b)

-- products
abbrev pub ProductLaw : Type 0
ProductLaw = (a b : Enclosure) → EnclosesProduct a b (product_of a b)

-- sums of multiples
abbrev pub CombinedLaw : Type 0
CombinedLaw = (n : ℕ) (c : ℕ → ℤ) (x : ℕ → Enclosure) (den : ℕ) → 0 < den → EnclosesCombination n c x (pos den) (combined n c x den)

-- the same, where each p_i / u_i has a denominator of its own, and is t_i / q
abbrev pub BroughtLaw : Type 0
BroughtLaw = (n : ℕ) (c : ℕ → ℤ) (x : ℕ → Enclosure) (den : ℕ) → 0 < den → (p u t : ℕ → ℤ) (q : ℤ) → pos 1 ≤ℤ q →
    ((i : ℕ) → i < n → (pos 1 ≤ℤ u i) × (t i *ℤ u i ≡ p i *ℤ q) × Encloses (x i) (p i) (u i)) →
    Encloses (combined n c x den) (total n (λ i. c i *ℤ t i)) (q *ℤ pos den)

-- products of columns
abbrev pub GramEnclosureLaw : Type 0
GramEnclosureLaw = (n : ℕ) (weight : ℕ → ℤ) (x : ℕ → ℕ → Enclosure) (j l : ℕ) → EnclosesGram n weight x j l (weighted_gram n weight x j l)
