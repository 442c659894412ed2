-- Limits of whole numbers that aren't negative, as code tests them.
use Rattle.std.proofs.Common.{◌≡◌, ◌↔◌, inl, inr, ℕ, ◌+◌, ◌*◌, ◌^◌, ◌<◌, ◌≤◌, max, ℤ, pos, ◌+ℤ◌, ◌*ℤ◌, ◌≤ℤ◌, unsigned_abs, List, length, IsSome, Option, None, Result, Ok, Err, IfErr, arith, subst, sym}
use Rattle.std.specs.Result.{IsErrAnd}
use Rattle.std.proofs.lemmas.Int.{ints}
use Rattle.frac_scaled.specs.Enclosures.{Enclosure, magnitude}
use Rattle.mat_int.specs.Enclosures.{combination_magnitude}
use Rattle.enclosure.specs.declared.types.Enc.{Enc}
use Rattle.enclosure.specs.Values.{pair_at}
use Rattle.enclosure.proofs.RoomLaws.{reach_is}
use Rattle.enclosure.proofs.SumLaws.{combination_reach_is, combination_size, radius_nonneg}
use Rattle.qp_model.specs.form.Quantities.{greatest}
use Rattle.qp_model.proofs.SizeFacts.{greatest_more, greatest_term}
use Rattle.plan_excess.specs.Fault.{IsExcessFault}
use Rattle.qp_model.specs.declared.size_fault.SizeFault.{SizeFault}
use Rattle.qp_model.specs.declared.size_fault.SizeFault.TheVariants.{Memory}

-- none where the size is above the limit
pub none_of : {T : Type 0} (o : Option T) (n : ℕ) → o ≡ None → (n ≤ 2 ^ 126 → ⊥) → IsSome o ↔ (n ≤ 2 ^ 126)
none_of o n e h = rw e (λ s. cc, λ k. absurd (h k))

-- ---- an absolute value, and its number
pub down : (z : ℤ) → unsigned_abs z ≤ 2 ^ 126 → z ≤ℤ pos (2 ^ 126)
down z h = omega (arith, ints, h)

pub up : (z : ℤ) → pos 0 ≤ℤ z → z ≤ℤ pos (2 ^ 126) → unsigned_abs z ≤ 2 ^ 126
up z h k = omega (arith, ints, h, k)

pub sum_nonneg : (a b : Enclosure) → pos 0 ≤ℤ a.rad → pos 0 ≤ℤ b.rad → pos 0 ≤ℤ (magnitude a +ℤ magnitude b)
sum_nonneg a b h k = rw (reach_is a.mid a.rad h, reach_is b.mid b.rad k) (omega (arith, ints))

pub product_nonneg : (a b : Enclosure) → pos 0 ≤ℤ a.rad → pos 0 ≤ℤ b.rad → pos 0 ≤ℤ (magnitude a *ℤ magnitude b)
product_nonneg a b h k = rw (reach_is a.mid a.rad h, reach_is b.mid b.rad k) (natural (unsigned_abs a.mid + unsigned_abs a.rad) (unsigned_abs b.mid + unsigned_abs b.rad))
  where
    natural : (m n : ℕ) → pos 0 ≤ℤ pos (m * n)
    natural m n = omega (arith, ints)

pub terms_nonneg : (xs : List Enc) (c : ℕ → ℤ) → pos 0 ≤ℤ combination_magnitude (length xs) c (pair_at xs)
terms_nonneg xs c = rw (combination_reach_is (length xs) c (pair_at xs) (radius_nonneg xs)) (natural (combination_size (length xs) c (pair_at xs)))
  where
    natural : (m : ℕ) → pos 0 ≤ℤ pos m
    natural m = omega (arith, ints)

-- ---- faults
-- of a part of a size
pub fault_within : (m n : ℕ) (e : SizeFault) → m ≤ n → IsExcessFault m e → IsExcessFault n e
fault_within m n e h (inl f) = inl f
fault_within m n e h (inr f) = inr (f.0, omega (arith, h, f.1))

-- of a call that is handed on
pub fault_passed : {T : Type 0} (r : Result T SizeFault) (x : SizeFault) (m n : ℕ) → IsErrAnd r (λ y. y ≡ x) → m ≤ n → IsExcessFault m x → IfErr r (IsExcessFault n)
fault_passed (Ok v) x m n h l f = tt
fault_passed (Err y) x m n h l f = fault_within m n y l (subst (IsExcessFault m) (sym h) f)

pub memory_passed : {T : Type 0} (r : Result T SizeFault) (n : ℕ) → IsErrAnd r (λ y. y ≡ Memory) → IfErr r (IsExcessFault n)
memory_passed (Ok v) n h = tt
memory_passed (Err y) n h = inl h

-- ---- greatest numbers
pub near_more : (i : ℕ) (f : ℕ → ℕ) → greatest i f ≤ 2 ^ 126 → f i ≤ 2 ^ 126 → greatest (i + 1) f ≤ 2 ^ 126
near_more i f h k = rw (greatest_more i f) (both (greatest i f) (f i) h k)
  where
    both : (a b : ℕ) → a ≤ 2 ^ 126 → b ≤ 2 ^ 126 → max a b ≤ 2 ^ 126
    both a b h k = omega (arith, h, k)

pub near_all : (i n : ℕ) (f : ℕ → ℕ) → i ≤ n → n ≤ i → greatest i f ≤ 2 ^ 126 → greatest n f ≤ 2 ^ 126
near_all i n f h l k = subst (λ (m : ℕ). greatest m f ≤ 2 ^ 126) (same i n h l) k
  where
    same : (i n : ℕ) → i ≤ n → n ≤ i → i ≡ n
    same i n h l = omega (arith, h, l)

pub above_one : (i n : ℕ) (f : ℕ → ℕ) → i < n → (f i ≤ 2 ^ 126 → ⊥) → 2 ^ 126 < greatest n f
above_one i n f l h = last (f i) (greatest n f) (greatest_term i n f l) (past (f i) h)
  where
    past : (m : ℕ) → (m ≤ 2 ^ 126 → ⊥) → 2 ^ 126 < m
    past m h = omega (arith, h)

    last : (m n : ℕ) → m ≤ n → 2 ^ 126 < m → 2 ^ 126 < n
    last m n h k = omega (arith, h, k)

-- a size that is above the limit, by an equal one
pub beyond : (m n : ℕ) → m ≡ n → (m ≤ 2 ^ 126 → ⊥) → 2 ^ 126 < n
beyond m n e h = omega (arith, e, past m h)
  where
    past : (m : ℕ) → (m ≤ 2 ^ 126 → ⊥) → 2 ^ 126 < m
    past m h = omega (arith, h)
