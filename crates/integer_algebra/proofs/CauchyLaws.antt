-- Squares of sums and of scalar products against sums of squares.
use Rattle.std.proofs.Common.{◌≡◌, ℕ, zero, suc, ℤ, pos, negsuc, ◌+ℤ◌, ◌-ℤ◌, ◌*ℤ◌, ◌≤ℤ◌, refl, arith, [], ◌∷◌}
use Rattle.std.proofs.lemmas.Int.{ints}
use Rattle.integer_algebra.specs.Sums.{dot, square}
use Rattle.integer_algebra.proofs.OrderLaws.{le_by, add-le-add_z, square_nonneg_z}
use Rattle.integer_algebra.proofs.SumLaws.{total_add, total_scale, total_nonneg}
use Rattle.integer_algebra.proofs.Quoting.{by_ring, quotes}

-- Lagrange's identity in three coordinates
pub lagrange : (a b c d e f : ℤ) →
    (square a +ℤ square b +ℤ square c) *ℤ (square d +ℤ square e +ℤ square f) ≡
    square (a *ℤ d +ℤ b *ℤ e +ℤ c *ℤ f) +ℤ (square (a *ℤ e -ℤ b *ℤ d) +ℤ square (a *ℤ f -ℤ c *ℤ d) +ℤ square (b *ℤ f -ℤ c *ℤ e))
lagrange a b c d e f = by_ring (a ∷ b ∷ c ∷ d ∷ e ∷ f ∷ []) (search quotes depth 60 fits 20000) refl

-- the square of a scalar product in n coordinates is at most the product of the squares (Cauchy and Schwarz)
pub cauchy : (n : ℕ) (f g : ℕ → ℤ) → square (dot n f g) ≤ℤ (dot n f f *ℤ dot n g g)
cauchy zero f g = omega (arith, ints)
cauchy (suc n) f g =
    le_by (add-le-add_z (cauchy n f g) (apart n f g (f n) (g n))) (assembled (dot n f g) (dot n f f) (dot n g g) (f n) (g n))
  where
    spread : (f g x y : ℤ) → square (y *ℤ f -ℤ x *ℤ g) ≡ square y *ℤ (f *ℤ f) +ℤ (negsuc 1 *ℤ x *ℤ y *ℤ (f *ℤ g) +ℤ square x *ℤ (g *ℤ g))
    spread f g x y = by_ring (f ∷ g ∷ x ∷ y ∷ []) (search quotes depth 60 fits 20000) refl

    -- the squares of the differences y f - x g, added up
    apart : (n : ℕ) (f g : ℕ → ℤ) (x y : ℤ) → pos 0 ≤ℤ (square y *ℤ dot n f f +ℤ (negsuc 1 *ℤ x *ℤ y *ℤ dot n f g +ℤ square x *ℤ dot n g g))
    apart n f g x y = simp (total_add, total_scale) at
        (total_nonneg n (λ i. square y *ℤ (f i *ℤ f i) +ℤ (negsuc 1 *ℤ x *ℤ y *ℤ (f i *ℤ g i) +ℤ square x *ℤ (g i *ℤ g i)))
        (λ i l. rw (← (spread (f i) (g i) x y)) (square_nonneg_z (y *ℤ f i -ℤ x *ℤ g i))))

    assembled : (s a b x y : ℤ) →
        (a +ℤ x *ℤ x) *ℤ (b +ℤ y *ℤ y) +ℤ (square s +ℤ pos 0) ≡
        square (s +ℤ x *ℤ y) +ℤ (a *ℤ b +ℤ (square y *ℤ a +ℤ (negsuc 1 *ℤ x *ℤ y *ℤ s +ℤ square x *ℤ b)))
    assembled s a b x y = by_ring (s ∷ a ∷ b ∷ x ∷ y ∷ []) (search quotes depth 60 fits 20000) refl
