-- What operands enclose, their sums enclose.
use Rattle.std.proofs.Common.{◌≡◌, ℕ, zero, suc, ◌<◌, ◌^◌, ℤ, pos, ◌*ℤ◌, ◌≤ℤ◌, [], ◌∷◌, arith, refl, sym, ◌∙◌}
use Rattle.std.proofs.lemmas.Int.{ints}
use Rattle.integer_algebra.specs.Bounds.{IsWithin}
use Rattle.integer_algebra.specs.Sums.{total}
use Rattle.integer_algebra.proofs.OrderLaws.{mul_pos_z}
use Rattle.integer_algebra.proofs.SumLaws.{total_same, total_scale}
use Rattle.integer_algebra.proofs.Quoting.{by_ring, quotes}
use Rattle.frac_scaled.specs.Enclosures.{Enclosure, Encloses, multiple, whole_product}
use Rattle.frac_scaled.proofs.EnclosureLaws.{within_encloses, common_law, multiple_law, fraction_law, divided_law, whole_product_law, unscaled_law}
use Rattle.mat_int.specs.Enclosures.{combination, combined, gram_sum, weighted_gram}

-- 0 is enclosed by an empty sum
empty_law : (q : ℤ) → Encloses (record { mid = pos 0; rad = pos 0 }) (pos 0) q
empty_law q = within_encloses _ _ _ (none _ _ (by_ring (q ∷ []) (search quotes depth 60 fits 20000) refl) (by_ring (q ∷ []) (search quotes depth 60 fits 20000) refl))
  where
    none : (b x : ℤ) → b ≡ pos 0 → x ≡ pos 0 → IsWithin b x
    none b x e f = rw (e, f) (record { below = omega (arith, ints); above = omega (arith, ints) })

-- a sum of multiples, of numbers over one denominator
pub combination_law : (n : ℕ) (c : ℕ → ℤ) (x : ℕ → Enclosure) (p : ℕ → ℤ) (q : ℤ) → ((i : ℕ) → i < n → Encloses (x i) (p i) q) →
    Encloses (combination n c x) (total n (λ i. c i *ℤ p i)) q
combination_law zero c x p q h = empty_law q
combination_law (suc n) c x p q h =
    common_law (combination n c x) (multiple (c n) (x n)) (total n (λ i. c i *ℤ p i)) (c n *ℤ p n) q
    (combination_law n c x p q (λ i l. h i (omega arith)))
    (multiple_law (c n) (x n) (p n) q (h n (omega arith)))

-- over den
pub combined_law : (n : ℕ) (c : ℕ → ℤ) (x : ℕ → Enclosure) (den : ℕ) → 0 < den → (p : ℕ → ℤ) (q : ℤ) → pos 1 ≤ℤ q →
    ((i : ℕ) → i < n → Encloses (x i) (p i) q) → Encloses (combined n c x den) (total n (λ i. c i *ℤ p i)) (q *ℤ pos den)
combined_law n c x den d p q h k = divided_law (combination n c x) den (total n (λ i. c i *ℤ p i)) q d (omega (arith, ints)) (combination_law n c x p q k)

-- of fractions that are made over one denominator q: t i / q is p i / u i
pub brought_law : (n : ℕ) (c : ℕ → ℤ) (x : ℕ → Enclosure) (den : ℕ) → 0 < den → (p u t : ℕ → ℤ) (q : ℤ) → pos 1 ≤ℤ q →
    ((i : ℕ) → i < n → (pos 1 ≤ℤ u i) × (t i *ℤ u i ≡ p i *ℤ q) × Encloses (x i) (p i) (u i)) →
    Encloses (combined n c x den) (total n (λ i. c i *ℤ t i)) (q *ℤ pos den)
brought_law n c x den d p u t q h k = combined_law n c x den d t q h (λ i l.
    fraction_law (x i) (p i) (u i) (t i) q (k i l).0 h (sym (k i l).1) (k i l).2)

-- the products of two columns, each of numbers over one denominator
pub gram_law : (n : ℕ) (weight : ℕ → ℤ) (x : ℕ → ℕ → Enclosure) (j l : ℕ) (p : ℕ → ℕ → ℤ) (q : ℕ → ℤ) → pos 1 ≤ℤ q j → pos 1 ≤ℤ q l →
    ((i : ℕ) → i < n → Encloses (x i j) (p i j) (q j) × Encloses (x i l) (p i l) (q l)) →
    Encloses (weighted_gram n weight x j l) (total n (λ i. weight i *ℤ (p i j *ℤ p i l))) (q j *ℤ q l)
gram_law n weight x j l p q o r h =
    unscaled_law (gram_sum n weight x j l) (total n (λ i. weight i *ℤ (p i j *ℤ p i l))) (q j *ℤ q l) (at_least (q j) (q l) o r)
    (rw (← scaled) (combination_law n weight (λ i. whole_product (x i j) (x i l)) (λ i. pos (2 ^ 40) *ℤ (p i j *ℤ p i l)) (q j *ℤ q l)
    (λ i s. whole_product_law (x i j) (x i l) (p i j) (q j) (p i l) (q l) (omega (arith, ints)) (omega (arith, ints)) (h i s).0 (h i s).1)))
  where
    at_least : (a b : ℤ) → pos 1 ≤ℤ a → pos 1 ≤ℤ b → pos 1 ≤ℤ (a *ℤ b)
    at_least a b h k = let m = mul_pos_z a b (omega (arith, ints)) (omega (arith, ints)) in omega (arith, ints, m)

    moved : (w z : ℤ) → w *ℤ (pos (2 ^ 40) *ℤ z) ≡ pos (2 ^ 40) *ℤ (w *ℤ z)
    moved w z = by_ring (w ∷ z ∷ []) (search quotes depth 60 fits 20000) refl

    scaled : total n (λ i. weight i *ℤ (pos (2 ^ 40) *ℤ (p i j *ℤ p i l))) ≡ pos (2 ^ 40) *ℤ total n (λ i. weight i *ℤ (p i j *ℤ p i l))
    scaled = total_same n _ _ (λ i s. moved (weight i) (p i j *ℤ p i l)) ∙ total_scale n (pos (2 ^ 40)) (λ i. weight i *ℤ (p i j *ℤ p i l))
