-- Floors of sums, taken part by part.
use Rattle.std.proofs.Common.{◌≡◌, ℕ, ◌+◌, ◌*◌, ◌^◌, ◌<◌, ℤ, pos, ◌+ℤ◌, ◌-ℤ◌, ◌*ℤ◌, ◌≤ℤ◌, ◌<ℤ◌, neg_ℤ, [], ◌∷◌, arith, refl, sym, ap, ◌∙◌}
use Rattle.std.proofs.lemmas.Int.{ints}
use Rattle.std.proofs.lemmas.Nat.{pow_pos, pow-add}
use Rattle.integer_algebra.specs.Division.{floor_of}
use Rattle.integer_algebra.proofs.DivisionLaws.{floor_of_is, floor_unique}
use Rattle.integer_algebra.proofs.OrderLaws.{le_by, lt_by, le_trans_z, mul-le-mul_right_z}
use Rattle.integer_algebra.proofs.Quoting.{by_ring, quotes}

-- a multiple of the divisor leaves the floor
pub floor_of_more : (z k : ℤ) (d : ℕ) → 0 < d → floor_of (z +ℤ k *ℤ pos d) d ≡ floor_of z d +ℤ k
floor_of_more z k d h =
    let f = floor_of_is z d h in
    sym (floor_unique (z +ℤ k *ℤ pos d) d (floor_of z d +ℤ k) h (record { least = low z k (floor_of z d) (pos d) f.least; greatest = high z k (floor_of z d) (pos d) f.greatest }))
  where
    low : (z k q e : ℤ) → (q *ℤ e) ≤ℤ z → ((q +ℤ k) *ℤ e) ≤ℤ (z +ℤ k *ℤ e)
    low z k q e l = le_by l (by_ring (z ∷ k ∷ q ∷ e ∷ []) (search quotes depth 60 fits 20000) refl)

    high : (z k q e : ℤ) → z <ℤ ((q +ℤ pos 1) *ℤ e) → (z +ℤ k *ℤ e) <ℤ ((q +ℤ k +ℤ pos 1) *ℤ e)
    high z k q e l = lt_by l (by_ring (z ∷ k ∷ q ∷ e ∷ []) (search quotes depth 60 fits 20000) refl)

-- a floor by a product is one by its first factor and then one by its second
pub floor_by_two : (y z : ℤ) (a b : ℕ) → 0 < a → 0 < b → 0 < b * a → floor_of (y *ℤ pos a +ℤ z) (b * a) ≡ floor_of (y +ℤ floor_of z a) b
floor_by_two y z a b ha hb hc =
    let q = floor_of z a in
    let r = floor_of (y +ℤ q) b in
    let inner = floor_of_is z a ha in
    let outer = floor_of_is (y +ℤ q) b hb in
    let below : ((r *ℤ pos b) *ℤ pos a) ≤ℤ ((y +ℤ q) *ℤ pos a) = mul-le-mul_right_z (pos a) (omega (arith, ints)) outer.least in
    let step : (y +ℤ q +ℤ pos 1) ≤ℤ ((r +ℤ pos 1) *ℤ pos b) = next (y +ℤ q) _ outer.greatest in
    let above : ((y +ℤ q +ℤ pos 1) *ℤ pos a) ≤ℤ (((r +ℤ pos 1) *ℤ pos b) *ℤ pos a) = mul-le-mul_right_z (pos a) (omega (arith, ints)) step in
    sym (floor_unique (y *ℤ pos a +ℤ z) (b * a) r hc
    (record { least = low y z q r (pos a) (pos b) (pos (b * a)) refl inner.least below; greatest = high y z q r (pos a) (pos b) (pos (b * a)) refl inner.greatest above }))
  where
    next : (x t : ℤ) → x <ℤ t → (x +ℤ pos 1) ≤ℤ t
    next x t l = omega (arith, ints)

    spread_low : (y z q a : ℤ) → (q *ℤ a) ≤ℤ z → ((y +ℤ q) *ℤ a) ≤ℤ (y *ℤ a +ℤ z)
    spread_low y z q a l = le_by l (by_ring (y ∷ z ∷ q ∷ a ∷ []) (search quotes depth 60 fits 20000) refl)

    spread_high : (y z q a : ℤ) → z <ℤ ((q +ℤ pos 1) *ℤ a) → (y *ℤ a +ℤ z) <ℤ ((y +ℤ q +ℤ pos 1) *ℤ a)
    spread_high y z q a l = lt_by l (by_ring (y ∷ z ∷ q ∷ a ∷ []) (search quotes depth 60 fits 20000) refl)

    low : (y z q r a b c : ℤ) → c ≡ b *ℤ a → (q *ℤ a) ≤ℤ z → ((r *ℤ b) *ℤ a) ≤ℤ ((y +ℤ q) *ℤ a) → (r *ℤ c) ≤ℤ (y *ℤ a +ℤ z)
    low y z q r a b c e l m =
        let same : r *ℤ c ≡ (r *ℤ b) *ℤ a = ap (λ (x : ℤ). r *ℤ x) e ∙ by_ring (r ∷ a ∷ b ∷ []) (search quotes depth 60 fits 20000) refl in
        rw same (le_trans_z m (spread_low y z q a l))

    after : (x s t : ℤ) → x <ℤ s → s ≤ℤ t → x <ℤ t
    after x s t l m = omega (arith, ints)

    high : (y z q r a b c : ℤ) → c ≡ b *ℤ a → z <ℤ ((q +ℤ pos 1) *ℤ a) → ((y +ℤ q +ℤ pos 1) *ℤ a) ≤ℤ (((r +ℤ pos 1) *ℤ b) *ℤ a) → (y *ℤ a +ℤ z) <ℤ ((r +ℤ pos 1) *ℤ c)
    high y z q r a b c e l m =
        let same : (r +ℤ pos 1) *ℤ c ≡ ((r +ℤ pos 1) *ℤ b) *ℤ a = ap (λ (x : ℤ). (r +ℤ pos 1) *ℤ x) e ∙ by_ring (r ∷ a ∷ b ∷ []) (search quotes depth 60 fits 20000) refl in
        rw same (after _ _ _ (spread_high y z q a l) m)

-- what a plan entry is the floor of
pub entry_floor : (own offset dual : ℤ) (f s : ℕ) → floor_of ((own +ℤ offset *ℤ pos (2 ^ f)) *ℤ pos (2 ^ s) +ℤ dual) (2 ^ (f + s)) ≡ floor_of (own +ℤ floor_of dual (2 ^ s)) (2 ^ f) +ℤ offset
entry_floor own offset dual f s =
    let a = 2 ^ s in
    let b = 2 ^ f in
    let y = own +ℤ offset *ℤ pos b in
    let q = floor_of dual a in
    let turned : y +ℤ q ≡ own +ℤ q +ℤ offset *ℤ pos b = omega (arith, ints) in
    ap (floor_of (y *ℤ pos a +ℤ dual)) (pow-add 2 f s) ∙ floor_by_two y dual a b (pow_pos s) (pow_pos f) (rw (← pow-add 2 f s) (pow_pos (f + s)))
    ∙ ap (λ (z : ℤ). floor_of z b) turned ∙ floor_of_more (own +ℤ q) offset b (pow_pos f)

-- what a multiplier moves by
pub row_floor : (row bound : ℤ) (f : ℕ) → floor_of (row -ℤ bound *ℤ pos (2 ^ f)) (2 ^ f) ≡ floor_of row (2 ^ f) -ℤ bound
row_floor row bound f =
    let turned : row -ℤ bound *ℤ pos (2 ^ f) ≡ row +ℤ neg_ℤ bound *ℤ pos (2 ^ f) = by_ring (row ∷ bound ∷ pos (2 ^ f) ∷ []) (search quotes depth 60 fits 20000) refl in
    ap (λ (z : ℤ). floor_of z (2 ^ f)) turned ∙ floor_of_more row (neg_ℤ bound) (2 ^ f) (pow_pos f)
