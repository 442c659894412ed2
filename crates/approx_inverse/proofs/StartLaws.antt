-- Tests of a start by upper bits.
use Rattle.std.proofs.Common.{◌≡◌, ℕ, ◌+◌, ◌<◌, [], ◌∷◌, ℤ, pos, negsuc, ◌+ℤ◌, ◌-ℤ◌, ◌*ℤ◌, ◌≤ℤ◌, ◌<ℤ◌, List, arith, refl, ap, sym, ◌∙◌}
use Rattle.std.proofs.lemmas.Int.{ints}
use Rattle.std.specs.Prelude.{Option, None, Some, IfSome}
use Rattle.std.specs.Option.{SomeIff}
use Rattle.integer_algebra.specs.Sums.{total, dot, image, at}
use Rattle.word_region.specs.Words.{RegionWords}
use Rattle.word_region.specs.declared.Span.{Span}
use Rattle.approx_inverse.specs.Descent.{IsDescent, system_residual, value}
use Rattle.approx_inverse.specs.Spans.{ArePlaced, IsSpanWritten, cells}
use Rattle.approx_inverse.proofs.MoveLaws.{residual_same, value_same}
use Rattle.integer_algebra.proofs.RingLaws.{mul-add_z}
use Rattle.integer_algebra.proofs.SumLaws.{total_same, total_add, total_scale, total_more}
use Rattle.integer_algebra.specs.Bounds.{absolute}
use Rattle.integer_algebra.specs.Division.{IsFloor}
use Rattle.integer_algebra.proofs.OrderLaws.{le_by, add-le-add_z, add_nonneg_z, mul_nonneg_z}
use Rattle.integer_algebra.proofs.Quoting.{by_ring, quotes}

-- x s is at most p q (a b + |a| + |b| + 1), where a and b are x / p and s / q rounded down: e and g are what was dropped, u and v absolute values
bounded : (a b e g p q u v : ℤ) → pos 0 ≤ℤ e → pos 0 ≤ℤ g → pos 0 ≤ℤ (p -ℤ e) → pos 0 ≤ℤ (q -ℤ g) → pos 0 ≤ℤ p → pos 0 ≤ℤ q →
    pos 0 ≤ℤ u → pos 0 ≤ℤ v → pos 0 ≤ℤ (u -ℤ a) → pos 0 ≤ℤ (v -ℤ b) →
    ((a *ℤ p +ℤ e) *ℤ (b *ℤ q +ℤ g)) ≤ℤ (p *ℤ q *ℤ (a *ℤ b +ℤ (u +ℤ v +ℤ pos 1)))
bounded a b e g p q u v he hg hpe hqg hp hq hu hv hua hvb =
    let first = add_nonneg_z
    (mul_nonneg_z p (u *ℤ (q -ℤ g)) hp (mul_nonneg_z u (q -ℤ g) hu hqg)) (mul_nonneg_z p ((u -ℤ a) *ℤ g) hp (mul_nonneg_z (u -ℤ a) g hua hg)) in
    let second = add_nonneg_z
    (mul_nonneg_z q (v *ℤ (p -ℤ e)) hq (mul_nonneg_z v (p -ℤ e) hv hpe)) (mul_nonneg_z q ((v -ℤ b) *ℤ e) hq (mul_nonneg_z (v -ℤ b) e hvb he)) in
    let third = add_nonneg_z (mul_nonneg_z p (q -ℤ g) hp hqg) (mul_nonneg_z g (p -ℤ e) hg hpe) in
    le_by (add-le-add_z first (add-le-add_z second third)) (by_ring (a ∷ b ∷ e ∷ g ∷ p ∷ q ∷ u ∷ v ∷ []) (search quotes depth 60 fits 20000) refl)

pub product_bounded : (x s a b : ℤ) (p q : ℕ) → IsFloor x p a → IsFloor s q b →
    (x *ℤ s) ≤ℤ (pos p *ℤ pos q *ℤ (a *ℤ b +ℤ (absolute a +ℤ absolute b +ℤ pos 1)))
product_bounded x s a b p q h k =
    rw (split x (a *ℤ pos p), split s (b *ℤ pos q))
    (bounded a b (x -ℤ a *ℤ pos p) (s -ℤ b *ℤ pos q) (pos p) (pos q) (absolute a) (absolute b)
    (low x (a *ℤ pos p) h.least) (low s (b *ℤ pos q) k.least) (high a x (pos p) h.greatest) (high b s (pos q) k.greatest)
    (omega (arith, ints)) (omega (arith, ints)) (omega (arith, ints)) (omega (arith, ints)) (over a) (over b))
  where
    split : (x m : ℤ) → x ≡ m +ℤ (x -ℤ m)
    split x m = omega (arith, ints)

    low : (x m : ℤ) → m ≤ℤ x → pos 0 ≤ℤ (x -ℤ m)
    low x m h = omega (arith, ints)

    high : (a x p : ℤ) → x <ℤ ((a +ℤ pos 1) *ℤ p) → pos 0 ≤ℤ (p -ℤ (x -ℤ a *ℤ p))
    high a x p h = close x ((a +ℤ pos 1) *ℤ p) (a *ℤ p) p (by_ring (a ∷ p ∷ []) (search quotes depth 60 fits 20000) refl) h
      where
        close : (x m n p : ℤ) → m ≡ n +ℤ p → x <ℤ m → pos 0 ≤ℤ (p -ℤ (x -ℤ n))
        close x m n p e h = omega (arith, ints)

    over : (a : ℤ) → pos 0 ≤ℤ (absolute a -ℤ a)
    over (pos n) = omega (arith, ints)
    over (negsuc n) = omega (arith, ints)

-- the same of a product that may be none
pub option_bounded : (x s a b : ℤ) (p q : ℕ) (r : Option ℤ) → IsFloor x p a → IsFloor s q b → IfSome r (λ m. m ≡ a *ℤ b +ℤ (absolute a +ℤ absolute b +ℤ pos 1)) →
    IfSome r (λ m. (x *ℤ s) ≤ℤ (pos p *ℤ pos q *ℤ m))
option_bounded x s a b p q None h k e = tt
option_bounded x s a b p q (Some m) h k e = rw e (product_bounded x s a b p q h k)

-- one more product
pub sum_more : (i : ℕ) (g : ℕ → ℤ) (u m n t : ℤ) → total i g ≤ℤ (u *ℤ m) → t ≡ g i → t ≤ℤ (u *ℤ n) → total (i + 1) g ≤ℤ (u *ℤ (m +ℤ n))
sum_more i g u m n t h e k = rw (total_more i g, mul-add_z u m n) (close (total i g) (g i) (u *ℤ m) (u *ℤ n) h (rw e at k))
  where
    close : (a b c d : ℤ) → a ≤ℤ c → b ≤ℤ d → (a +ℤ b) ≤ℤ (c +ℤ d)
    close a b c d h k = omega (arith, ints)

-- the value by the residual: x'(r - b), where r = h x - b
pub value_by : (n : ℕ) (h : ℕ → ℕ → ℤ) (b x r : ℕ → ℤ) → ((i : ℕ) → i < n → r i ≡ system_residual n h b x i) → total n (λ i. x i *ℤ (r i -ℤ b i)) ≡ value n h b x
value_by n h b x r e =
    total_same n _ _ (λ i l. term (x i) (r i) (b i) (image n h x i) (e i l)) ∙
    (total_add n (λ i. x i *ℤ image n h x i) (λ i. negsuc 1 *ℤ (b i *ℤ x i)) ∙ ap (λ (z : ℤ). dot n x (image n h x) +ℤ z) (total_scale n (negsuc 1) (λ i. b i *ℤ x i))) ∙
    close (dot n x (image n h x)) (dot n b x)
  where
    term : (x r b m : ℤ) → r ≡ m -ℤ b → x *ℤ (r -ℤ b) ≡ x *ℤ m +ℤ negsuc 1 *ℤ (b *ℤ x)
    term x r b m e = rw e (by_ring (x ∷ b ∷ m ∷ []) (search quotes depth 60 fits 20000) refl)

    close : (p q : ℤ) → p +ℤ negsuc 1 *ℤ q ≡ p -ℤ pos 2 *ℤ q
    close p q = by_ring (p ∷ q ∷ []) (search quotes depth 60 fits 20000) refl

-- a guess and its residual, on the words of a region: w1 has the residual, w2 the guess too
pub started : (n : ℕ) (h : ℕ → ℕ → ℤ) (b : ℕ → ℤ) (g rest : List ℤ) (w0 w1 w2 : RegionWords) (x r : Span) → ArePlaced w0 x r n →
    ((i : ℕ) → i < n → cells w1.words r.start i ≡ system_residual n h b (at g) i) → ((i : ℕ) → i < n → at rest i ≡ cells w1.words r.start i) →
    total n (λ i. at g i *ℤ (at rest i -ℤ b i)) ≤ℤ pos 0 → IsSpanWritten w1 w2 x (at g) →
    IsDescent n h b (cells w2.words x.start) (cells w2.words r.start)
started n h b g rest w0 w1 w2 x r placed at_g same low put =
    let is : (k : ℕ) → k < n → cells w2.words x.start k ≡ at g k = λ k l. put.done k (omega (arith, placed.x_len)) in
    record {
      rest = λ i l. put.above (r.start + i) (omega (arith, placed.x_len, placed.order)) ∙ at_g i l ∙
          residual_same n h b (at g) (cells w2.words x.start) i (λ k m. sym (is k m));
      low = rw (value_same n h b (cells w2.words x.start) (at g) is, ← (value_by n h b (at g) (at rest) (λ i l. same i l ∙ at_g i l))) low;
    }

-- an answer that is there is the number, by another name of it
pub some_is : (r : Option ℤ) (p : Type 0) (v w : ℤ) → SomeIff r p v → v ≡ w → IfSome r (λ new. new ≡ w)
some_is (Some x) p v w h e = h.1 ∙ e
some_is None p v w h e = tt
