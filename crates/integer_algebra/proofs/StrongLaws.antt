-- Where a form is at least a number times the squares, a list whose image is small is small.
use Rattle.std.proofs.Common.{◌≡◌, ℕ, ◌<◌, [], ◌∷◌, ℤ, pos, ◌*ℤ◌, ◌≤ℤ◌, arith, refl}
use Rattle.std.proofs.lemmas.Int.{ints, by_lt_z}
use Rattle.std.proofs.Math.IntN.{*ℤ_comm}
use Rattle.integer_algebra.specs.Sums.{total, dot, image, square}
use Rattle.integer_algebra.specs.Bounds.{absolute, IsWithin}
use Rattle.integer_algebra.proofs.OrderLaws.{le_trans_z, add-le-add_z, le_by, square_nonneg_z, mul-le-mul_left_z, cancel-le_z}
use Rattle.integer_algebra.proofs.SumLaws.{total_scale, total_mono, total_nonneg, Greatest, term-le-total}
use Rattle.integer_algebra.proofs.BoundLaws.{within_nonneg, within_times, absolute_nonneg, absolute_square}
use Rattle.integer_algebra.proofs.Quoting.{by_ring, quotes}

-- the numbers of the greatest entry m: least m^2 ≤ m sum b, so least m ≤ sum b
shrunk : (least m squares form bounds : ℤ) → pos 0 ≤ℤ least → pos 0 ≤ℤ m → pos 0 ≤ℤ bounds → square m ≤ℤ squares → (least *ℤ squares) ≤ℤ form → form ≤ℤ (m *ℤ bounds) →
    (least *ℤ m) ≤ℤ bounds
shrunk c m s q b pc pm pb h k l = by_lt_z (pos 0) m
    (λ o. cancel-le_z m _ _ o (le_by (add-le-add_z (mul-le-mul_left_z c pc h) (add-le-add_z k l))
    (by_ring (c ∷ m ∷ s ∷ q ∷ b ∷ []) (search quotes depth 60 fits 20000) refl)))
    (λ o. (let e : m ≡ pos 0 = omega (arith, ints) in rw e (le_by pb (by_ring (c ∷ b ∷ []) (search quotes depth 60 fits 20000) refl))))

-- where the form of u is at least `least` times its squares, and each entry of its image is within b
pub small_image : (n : ℕ) (h : ℕ → ℕ → ℤ) (least : ℤ) (u b : ℕ → ℤ) → pos 0 ≤ℤ least → (least *ℤ total n (λ j. square (u j))) ≤ℤ dot n u (image n h u) →
    ((j : ℕ) → j < n → IsWithin (b j) (image n h u j)) → Greatest n (λ j. absolute (u j)) → (j : ℕ) → j < n → (least *ℤ absolute (u j)) ≤ℤ total n b
small_image n h least u b p strong within g j l =
    le_trans_z (mul-le-mul_left_z least p (g.top j l))
    (shrunk least (absolute (u g.index)) (total n (λ j. square (u j))) (dot n u (image n h u)) (total n b) p (absolute_nonneg (u g.index))
    (total_nonneg n b (λ i m. within_nonneg (within i m)))
    (rw (absolute_square (u g.index)) (term-le-total n (λ j. square (u j)) (λ i m. square_nonneg_z (u i)) g.index g.inside))
    strong
    (rw (← (total_scale n (absolute (u g.index)) b)) (total_mono n _ _ (λ i m.
    le_trans_z {b = b i *ℤ absolute (u i)}
    (rw (*ℤ_comm (u i) (image n h u i)) (within_times (b i) (image n h u i) (u i) (within i m)).below)
    (rw (*ℤ_comm (absolute (u g.index)) (b i))
    (mul-le-mul_left_z (b i) (within_nonneg (within i m)) (g.top i m)))))))
