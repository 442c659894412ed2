-- Parts of one coordinate: each number of a split interval lies in exactly one.
use Rattle.std.proofs.Common.{◌≡◌, ◌⊎◌, ℕ, zero, suc, ◌<◌, ◌≤◌, ℤ, pos, ◌+ℤ◌, ◌≤ℤ◌, ◌<ℤ◌, ◌-ℤ◌, negsuc, List, [], ◌∷◌, length, refl, arith, inl, inr}
use Rattle.std.proofs.lemmas.Bool.{cases_lt, cases_order}
use Rattle.std.proofs.lemmas.Int.{ints}
use Rattle.std.proofs.lemmas.List.{get_or_past, get_or_default}
use Rattle.integer_algebra.specs.Sums.{at}
use Rattle.cell_split.specs.Cuts.{part_low, part_high, AreCuts}

-- part k has the number x
pub record IsIn (lo hi : ℤ) (cuts : List ℤ) (k : ℕ) (x : ℤ) : Type 0 where
  pub low : part_low lo cuts k ≤ℤ x
  pub high : x ≤ℤ part_high hi cuts k

-- the least number of a part, with a cut more in front
low_behind : (lo t : ℤ) (cuts : List ℤ) (k : ℕ) → part_low lo (t ∷ cuts) (suc k) ≡ part_low (t +ℤ pos 1) cuts k
low_behind lo t cuts zero = refl
low_behind lo t cuts (suc k) = refl

-- the cuts behind the first
cuts_behind : (lo hi t : ℤ) (cuts : List ℤ) → AreCuts lo hi (t ∷ cuts) → AreCuts (t +ℤ pos 1) hi cuts
cuts_behind lo hi t cuts h = λ k l. (
    let c = h (suc k) (omega (arith, l)) in
    record { low = rw (← low_behind lo t cuts k) c.low; high = c.high })

-- some part has it
pub record Found (lo hi : ℤ) (cuts : List ℤ) (x : ℤ) : Type 0 where
  pub part : ℕ
  pub inside : part ≤ length cuts
  pub here : IsIn lo hi cuts part x

cases_le : (a b : ℤ) → (a ≤ℤ b) ⊎ (b <ℤ a)
cases_le a b = by (b -ℤ a) refl
  where
    by : (d : ℤ) → b -ℤ a ≡ d → (a ≤ℤ b) ⊎ (b <ℤ a)
    by (pos n) e = inl (omega (arith, ints, e))
    by (negsuc n) e = inr (omega (arith, ints, e))

pub found : (lo hi : ℤ) (cuts : List ℤ) (x : ℤ) → AreCuts lo hi cuts → lo ≤ℤ x → x ≤ℤ hi → Found lo hi cuts x
found lo hi [] x h l m = record { part = 0; inside = omega arith; here = record { low = l; high = m } }
found lo hi (t ∷ cuts) x h l m = by (cases_le x t) (λ k. found (t +ℤ pos 1) hi cuts x (cuts_behind lo hi t cuts h) (omega (arith, ints, k)) m)
  where
    by : (x ≤ℤ t) ⊎ (t <ℤ x) → (t <ℤ x → Found (t +ℤ pos 1) hi cuts x) → Found lo hi (t ∷ cuts) x
    by (inl k) more = record { part = 0; inside = omega arith; here = record { low = l; high = k } }
    by (inr k) more =
        let f = more k in
        record { part = suc f.part; inside = omega (arith, f.inside); here = record { low = rw (low_behind lo t cuts f.part) f.here.low; high = f.here.high } }

-- ---- parts follow one another
-- those behind a cut are above it
above : (lo hi : ℤ) (cuts : List ℤ) (j k : ℕ) → AreCuts lo hi cuts → j < k → k ≤ length cuts → (at cuts j +ℤ pos 1) ≤ℤ part_low lo cuts k
above lo hi cuts j zero h l m = absurd (omega (arith, l))
above lo hi cuts j (suc k) h l m = by (cases_lt j k) (λ o. above lo hi cuts j k h o (omega (arith, m)))
  where
    by : (j < k) ⊎ (k ≤ j) → (j < k → (at cuts j +ℤ pos 1) ≤ℤ part_low lo cuts k) → (at cuts j +ℤ pos 1) ≤ℤ part_low lo cuts (suc k)
    by (inl o) below = omega (arith, ints, below o, (h k (omega (arith, m))).low)
    by (inr o) below = let e : j ≡ k = omega (arith, o, l) in rw e (omega (arith, ints))

high_inside : (hi : ℤ) (cuts : List ℤ) (k : ℕ) → k < length cuts → part_high hi cuts k ≡ at cuts k
high_inside hi cuts k l = get_or_default cuts k hi (pos 0) l

before_not : (lo hi : ℤ) (cuts : List ℤ) (j k : ℕ) (x : ℤ) → AreCuts lo hi cuts → k ≤ length cuts → IsIn lo hi cuts j x → IsIn lo hi cuts k x → j < k → ⊥
before_not lo hi cuts j k x h m a b l =
    let e = high_inside hi cuts j (omega (arith, l, m)) in
    omega (arith, ints, above lo hi cuts j k h l m, a.high, b.low, e)

-- one part alone
pub same_part : (lo hi : ℤ) (cuts : List ℤ) (j k : ℕ) (x : ℤ) → AreCuts lo hi cuts → j ≤ length cuts → k ≤ length cuts → IsIn lo hi cuts j x → IsIn lo hi cuts k x → j ≡ k
same_part lo hi cuts j k x h l m a b = by (cases_order j k)
  where
    by : (j ≡ k) ⊎ ((j < k) ⊎ (k < j)) → j ≡ k
    by (inl e) = e
    by (inr (inl o)) = absurd (before_not lo hi cuts j k x h m a b o)
    by (inr (inr o)) = absurd (before_not lo hi cuts k j x h l b a o)

-- ---- a part lies between lo and hi, and has a number
pub low_above : (lo hi : ℤ) (cuts : List ℤ) (k : ℕ) → AreCuts lo hi cuts → k ≤ length cuts → lo ≤ℤ part_low lo cuts k
low_above lo hi cuts zero h l = omega (arith, ints)
low_above lo hi cuts (suc k) h l = omega (arith, ints, low_above lo hi cuts k h (omega (arith, l)), (h k (omega (arith, l))).low)

pub high_below : (lo hi : ℤ) (cuts : List ℤ) (k : ℕ) → AreCuts lo hi cuts → part_high hi cuts k ≤ℤ hi
high_below lo hi cuts k h = by (cases_lt k (length cuts))
  where
    by : (k < length cuts) ⊎ (length cuts ≤ k) → part_high hi cuts k ≤ℤ hi
    by (inl l) = omega (arith, ints, high_inside hi cuts k l, (h k l).high)
    by (inr l) = rw (get_or_past cuts k hi l) (omega (arith, ints))

pub some_number : (lo hi : ℤ) (cuts : List ℤ) (k : ℕ) → AreCuts lo hi cuts → lo ≤ℤ hi → k ≤ length cuts → part_low lo cuts k ≤ℤ part_high hi cuts k
some_number lo hi cuts k h b l = by (cases_lt k (length cuts))
  where
    last : (k : ℕ) → k ≡ length cuts → part_low lo cuts k ≤ℤ hi
    last zero e = b
    last (suc k) e = omega (arith, ints, (h k (omega (arith, e))).high)

    by : (k < length cuts) ⊎ (length cuts ≤ k) → part_low lo cuts k ≤ℤ part_high hi cuts k
    by (inl o) = rw (high_inside hi cuts k o) (h k o).low
    by (inr o) = rw (get_or_past cuts k hi o) (last k (omega (arith, l, o)))
