-- Multipliers raised and lowered again.
use Rattle.std.proofs.Common.{◌≡◌, ℕ, ◌*◌, ◌^◌, ◌≤◌, ◌<◌, ℤ, pos, ◌+ℤ◌, ◌-ℤ◌, ◌*ℤ◌, List, length, replicate, unsigned_abs, FitsSigned, arith, ap, sym, refl, ◌∙◌}
use Rattle.std.specs.Int.{w128, int_max, int_min}
use Rattle.std.proofs.lemmas.Int.{ints, fits_signed_from_abs}
use Rattle.std.proofs.lemmas.Nat.{pow_pos}
use Rattle.std.proofs.lemmas.List.{same_lists, get_or_default, get_or-replicate, length-replicate}
use Rattle.std.proofs.lemmas.List.FromFn.{length-map-range_with_len, get_or-map-range_with_len}
use Rattle.integer_algebra.specs.Division.{floor_of}
use Rattle.integer_algebra.specs.Sums.{at}
use Rattle.mat_products.specs.Narrow.{IsNarrow}
use Rattle.qp_model.specs.problem.Limits.{text_version}
use Rattle.qp_model.specs.machine.Controller.{Numbers, IsSized}
use Rattle.qp_model.specs.machine.Machine.{Iterate, lowering_of, raised, top_of, row_sum, next_multiplier, next_multipliers, start_of, step_of}
use Rattle.qp_model.specs.machine.AbsoluteSums.{clamp_magnitudes, IsController}
use Rattle.qp_model.specs.machine.Within.{AreWithin}
use Rattle.qp_model.proofs.AbsoluteLaws.{abs-floor_le}
use Rattle.qp_model.proofs.MagnitudeLaws.{zeros_at, raised_within, tops_kept}
use Rattle.qp_model.proofs.VersionLaws.{first_raised}
use Rattle.fixed_kernel.specs.Factors.{HasNarrowFactors}
use Rattle.fixed_kernel.specs.Raised.{unraised, with_raised, raised_step}
use Rattle.fixed_kernel.proofs.States.{floor-scaled}

-- ---- single multipliers
pub raised_at : (c : Numbers) (multipliers : List ℤ) (i : ℕ) → i < length c.bounds → at (raised c multipliers) i ≡ at multipliers i *ℤ pos (2 ^ lowering_of c i)
raised_at c multipliers i lt = get_or-map-range_with_len (λ j. at multipliers j *ℤ pos (2 ^ lowering_of c j)) 0 (length c.bounds) i i (pos 0) lt (omega arith)

pub unraised_at : (c : Numbers) (multipliers : List ℤ) (i : ℕ) → i < length c.bounds → at (unraised c multipliers) i ≡ floor_of (at multipliers i) (2 ^ lowering_of c i)
unraised_at c multipliers i lt = get_or-map-range_with_len (λ j. floor_of (at multipliers j) (2 ^ lowering_of c j)) 0 (length c.bounds) i i (pos 0) lt (omega arith)

-- lowering undoes raising
pub unraised-raised : (c : Numbers) (multipliers : List ℤ) → length multipliers ≡ length c.bounds → unraised c (raised c multipliers) ≡ multipliers
unraised-raised c multipliers long =
    let count = length c.bounds in
    let size : length (unraised c (raised c multipliers)) ≡ count = length-map-range_with_len (λ i. floor_of (at (raised c multipliers) i) (2 ^ lowering_of c i)) 0 count in
    same_lists (unraised c (raised c multipliers)) multipliers (omega (arith, size, long)) (λ i d l.
    let inside : i < count = omega (arith, l, size) in
    get_or_default (unraised c (raised c multipliers)) i d (pos 0) l ∙ unraised_at c (raised c multipliers) i inside ∙
    ap (λ (z : ℤ). floor_of z (2 ^ lowering_of c i)) (raised_at c multipliers i inside) ∙ floor-scaled (at multipliers i) (2 ^ lowering_of c i) (pow_pos (lowering_of c i)) ∙
    get_or_default multipliers i (pos 0) d (omega (arith, inside, long)))

pub raised_long : (c : Numbers) (multipliers : List ℤ) → length (raised c multipliers) ≡ length c.bounds
raised_long c multipliers = length-map-range_with_len (λ i. at multipliers i *ℤ pos (2 ^ lowering_of c i)) 0 (length c.bounds)

-- in version 1 there is nothing to lower and nothing to raise
first_unraised : (c : Numbers) → IsSized c → c.version ≡ text_version → (multipliers : List ℤ) → length multipliers ≡ length c.bounds → unraised c multipliers ≡ multipliers
first_unraised c sized first multipliers long =
    ap (unraised c) (sym (first_raised c sized first multipliers (long ∙ sized.shaped.bounds))) ∙ unraised-raised c multipliers long

pub first_moved : (c : Numbers) → IsSized c → c.version ≡ text_version → (state plan multipliers : List ℤ) → length multipliers ≡ length c.bounds →
    next_multipliers c state plan multipliers ≡ raised c (next_multipliers c state plan (unraised c multipliers))
first_moved c sized first state plan multipliers long =
    let olds = unraised c multipliers in
    let moved : length (next_multipliers c state plan olds) ≡ length c.bounds = length-map-range_with_len (λ i. next_multiplier c state plan (at olds i) i) 0 (length c.bounds) in
    ap (next_multipliers c state plan) (sym (first_unraised c sized first multipliers long)) ∙ sym (first_raised c sized first (next_multipliers c state plan olds) (moved ∙ sized.shaped.bounds))

-- ---- what the machine has made
raised_zeros : (c : Numbers) → raised c (replicate (length c.bounds) (pos 0)) ≡ replicate (length c.bounds) (pos 0)
raised_zeros c =
    let count = length c.bounds in
    let zeros = replicate count (pos 0) in
    same_lists (raised c zeros) zeros (raised_long c zeros ∙ sym (length-replicate count (pos 0))) (λ i d l.
    let inside : i < count = omega (arith, l, raised_long c zeros) in
    get_or_default (raised c zeros) i d (pos 0) l ∙ raised_at c zeros i inside ∙ nothing (at zeros i) (2 ^ lowering_of c i) (zeros_at count i) ∙ sym (get_or-replicate count i (pos 0) d inside))
  where
    nothing : (z : ℤ) (power : ℕ) → z ≡ pos 0 → z *ℤ pos power ≡ pos 0
    nothing z power e = rw e (ap pos (let h : 0 * power ≡ 0 = omega arith in h))

-- at the start there is nothing to raise
pub start_with_raised : (c : Numbers) → with_raised c (start_of c) ≡ start_of c
start_with_raised c = rw (raised_zeros c) refl

-- a step with raised multipliers is the machine's step
pub step_with_raised : (c : Numbers) (state : List ℤ) (made : Iterate) → length made.multipliers ≡ length c.bounds → raised_step c state (with_raised c made) ≡ with_raised c (step_of c state made)
step_with_raised c state made long = rw (unraised-raised c made.multipliers long) refl

-- ---- within the clamp
pub within_clamp : (c : Numbers) (multipliers : List ℤ) (i : ℕ) → i < length c.bounds → AreWithin multipliers (clamp_magnitudes c) → unsigned_abs (at multipliers i) ≤ unsigned_abs c.clamp
within_clamp c multipliers i lt w = rw get_or-replicate at (w.each i)

clamp_le : (c : Numbers) → IsController c → unsigned_abs c.clamp ≤ 2 ^ 126
clamp_le c s = omega (arith, ints, s.form.sized.clamp_low, s.form.sized.clamp_high)

-- a multiplier that is lowered
pub lowered_within : (c : Numbers) (multiplier : ℤ) (i : ℕ) → unsigned_abs multiplier ≤ unsigned_abs c.clamp → unsigned_abs (floor_of multiplier (2 ^ lowering_of c i)) ≤ unsigned_abs c.clamp
lowered_within c multiplier i le = omega (arith, abs-floor_le multiplier (2 ^ lowering_of c i), le)

-- ---- a multiplier that moved
pub moved_is : (c : Numbers) (state plan : List ℤ) (old top : ℤ) (i : ℕ) → top ≡ top_of c i →
    int_min top (int_max (old +ℤ floor_of (row_sum c state plan i) (2 ^ c.fraction_bits)) (pos 0)) ≡ next_multiplier c state plan old i
moved_is c state plan old top i e = ap (λ (z : ℤ). int_min z (int_max (old +ℤ floor_of (row_sum c state plan i) (2 ^ c.fraction_bits)) (pos 0))) e

-- under other names of the greatest, of the one before and of the row's sum
pub moved_as : (f : ℕ) (top t old o sum s : ℤ) → top ≡ t → old ≡ o → sum ≡ s →
    int_min top (int_max (old +ℤ floor_of sum (2 ^ f)) (pos 0)) ≡ int_min t (int_max (o +ℤ floor_of s (2 ^ f)) (pos 0))
moved_as f top t old o sum s a b c = rw (a, b, c) refl

-- a row's sum, under other names of its products and its bound
pub less_bound_as : (f : ℕ) (row r bound b : ℤ) → row ≡ r → bound ≡ b → row -ℤ bound *ℤ pos (2 ^ f) ≡ r -ℤ b *ℤ pos (2 ^ f)
less_bound_as f row r bound b d e = rw (d, e) refl

-- a multiple of a power, and a floor by one, under other names
pub times_as : (z y : ℤ) (k l : ℕ) → z ≡ y → k ≡ l → z *ℤ pos (2 ^ k) ≡ y *ℤ pos (2 ^ l)
times_as z y k l a b = rw (a, b) refl

pub floor_as : (z y : ℤ) (k l : ℕ) → z ≡ y → k ≡ l → floor_of z (2 ^ k) ≡ floor_of y (2 ^ l)
floor_as z y k l a b = rw (a, b) refl

-- where no bit is lowered, it moves as it is
pub moved_unlowered : (c : Numbers) (state plan : List ℤ) (raised : ℤ) (i : ℕ) → lowering_of c i ≡ 0 →
    int_min c.clamp (int_max (raised +ℤ floor_of (row_sum c state plan i) (2 ^ c.fraction_bits)) (pos 0)) ≡ next_multiplier c state plan (floor_of raised (2 ^ lowering_of c i)) i *ℤ pos (2 ^ lowering_of c i)
moved_unlowered c state plan raised i e = rw (e, floor_of_one, floor_of_one) (sym (times_one _))
  where
    times_one : (z : ℤ) → z *ℤ pos 1 ≡ z
    times_one z = omega (arith, ints)

    floor_of_one : (z : ℤ) → floor_of z 1 ≡ z
    floor_of_one z = ap (λ (y : ℤ). floor_of y 1) (sym (times_one z)) ∙ floor-scaled z 1 (omega arith)

next_at : (c : Numbers) (state plan multipliers : List ℤ) (i : ℕ) → i < length c.bounds → at (next_multipliers c state plan multipliers) i ≡ next_multiplier c state plan (at multipliers i) i
next_at c state plan multipliers i lt = get_or-map-range_with_len (λ j. next_multiplier c state plan (at multipliers j) j) 0 (length c.bounds) i i (pos 0) lt (omega arith)

pub next_unraised_at : (c : Numbers) (state plan multipliers : List ℤ) (i : ℕ) → i < length c.bounds →
    at (next_multipliers c state plan (unraised c multipliers)) i ≡ next_multiplier c state plan (floor_of (at multipliers i) (2 ^ lowering_of c i)) i
next_unraised_at c state plan multipliers i lt = next_at c state plan (unraised c multipliers) i lt ∙ ap (λ (z : ℤ). next_multiplier c state plan z i) (unraised_at c multipliers i lt)

-- raised, it is at most the clamp, as each of a list is
pub moved_raised_within : (c : Numbers) (state plan : List ℤ) (old : ℤ) (i : ℕ) → IsController c → i < length c.bounds →
    unsigned_abs (next_multiplier c state plan old i *ℤ pos (2 ^ lowering_of c i)) ≤ unsigned_abs c.clamp
moved_raised_within c state plan old i s lt =
    let h = s.form.sized.clamp_low in
    let olds = replicate (length c.bounds) old in
    let next = next_multipliers c state plan olds in
    let same : at next i ≡ next_multiplier c state plan old i = next_at c state plan olds i lt ∙ ap (λ (z : ℤ). next_multiplier c state plan z i) (get_or-replicate (length c.bounds) i old (pos 0) lt) in
    let up : at (raised c next) i ≡ next_multiplier c state plan old i *ℤ pos (2 ^ lowering_of c i) = raised_at c next i lt ∙ ap (λ (z : ℤ). z *ℤ pos (2 ^ lowering_of c i)) same in
    rw (← up) (within_clamp c (raised c next) i lt (raised_within c next h (tops_kept c state plan olds h)))

-- so it fits the word, and a word of 64 bits where the clamp does
pub moved_raised_fits : (c : Numbers) (state plan : List ℤ) (old : ℤ) (i : ℕ) → IsController c → i < length c.bounds → FitsSigned w128 (next_multiplier c state plan old i *ℤ pos (2 ^ lowering_of c i))
moved_raised_fits c state plan old i s lt = fits_signed_from_abs w128 _ (omega (arith, moved_raised_within c state plan old i s lt, clamp_le c s))

pub moved_raised_narrow : (c : Numbers) (state plan : List ℤ) (old : ℤ) (i : ℕ) → IsController c → HasNarrowFactors c → i < length c.bounds → IsNarrow (next_multiplier c state plan old i *ℤ pos (2 ^ lowering_of c i))
moved_raised_narrow c state plan old i s n lt = omega (arith, moved_raised_within c state plan old i s lt, n.clamp)
