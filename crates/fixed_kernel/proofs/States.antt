-- A state of the box, loaded and unloaded.
use Rattle.std.proofs.Common.{◌≡◌, ℕ, zero, suc, ◌-◌, ◌*◌, ◌^◌, ◌<◌, ◌≤◌, ◌==◌, ℤ, pos, negsuc, ◌*ℤ◌, ◌≤ℤ◌, neg_ℤ, List, [], ◌∷◌, map, unsigned_abs, FitsSigned, Option, Some, None, arith, refl, ap, subst}
use Rattle.std.specs.Prelude.{IsNone, IfSome, MatchOption, ◌↔◌}
use Rattle.std.specs.Int.{w128}
use Rattle.std.proofs.lemmas.Int.{ints, fits_signed_from_abs}
use Rattle.std.proofs.lemmas.Bool.{cond_both}
use Rattle.std.proofs.lemmas.Nat.{pow_pos, pow_below, mul-lt}
use Rattle.std.proofs.Math.Nat.{mul-div_cancel, div-eq_of_lt-le}
use Rattle.integer_algebra.specs.Division.{floor_of}
use Rattle.integer_algebra.specs.Sums.{at}
use Rattle.qp_model.specs.machine.Controller.{Numbers, IsSized}
use Rattle.qp_model.specs.machine.Machine.{IsAdmissible, loaded}
use Rattle.qp_model.proofs.AbsoluteLaws.{abs-shifted}
use Rattle.fixed_kernel.specs.Outside.{HasBox, IsFirstOutside}
use Rattle.fixed_kernel.specs.Progress.{unloaded}

-- ---- loaded and unloaded
floor-minus : (n a d : ℕ) → 0 < d → n ≡ suc a * d → floor_of (neg_ℤ (pos n)) d ≡ negsuc a
floor-minus zero a d h e = absurd (omega (arith, e, h))
floor-minus (suc b) a d h e = ap negsuc (div-eq_of_lt-le d (omega (arith, e, h)) (omega (arith, e, h)))

pub floor-scaled : (x : ℤ) (d : ℕ) → 0 < d → floor_of (x *ℤ pos d) d ≡ x
floor-scaled (pos a) d h = ap pos (mul-div_cancel a h)
floor-scaled (negsuc a) d h = floor-minus (suc a * d) a d h refl

floors-scaled : (d : ℕ) → 0 < d → (xs : List ℤ) → map (λ x. floor_of x d) (map (λ x. x *ℤ pos d) xs) ≡ xs
floors-scaled d h [] = refl
floors-scaled d h (x ∷ xs) = rw (floor-scaled x d h, floors-scaled d h xs) refl

pub unloaded-loaded : (c : Numbers) (xi : List ℤ) → unloaded c (loaded c xi) ≡ xi
unloaded-loaded c xi = floors-scaled (2 ^ (c.fraction_bits - c.grid_bits)) (pow_pos (c.fraction_bits - c.grid_bits)) xi

-- ---- coordinates
pub sized_box : (c : Numbers) → IsSized c → HasBox c
sized_box c s = record { low = s.shaped.low; high = s.shaped.high; few = omega (arith, s.states, cond_both (c.version == 1) 4 6 (λ (k : ℕ). k ≤ 6) (λ t. omega arith) (λ f. omega arith)) }

pub not_inside : (c : Numbers) (xi : List ℤ) (k : ℕ) → IsFirstOutside c xi k → IsAdmissible c xi → ⊥
not_inside c xi k out inside = out.outside (k - 1) (omega (arith, out.low)) (inside.each (k - 1) (omega (arith, out.low, out.high)))

-- the first coordinate outside a box, of a controller by another name
pub told_outside : (c d : Numbers) (xi : List ℤ) → c ≡ d → (found : Option ℕ) → IsNone found ↔ IsAdmissible c xi → IfSome found (IsFirstOutside c xi) →
    MatchOption found (IsAdmissible d xi) (IsFirstOutside d xi)
told_outside c d xi same None inside first = subst (λ (n : Numbers). IsAdmissible n xi) same (inside.0 refl)
told_outside c d xi same (Some k) inside first = subst (λ (n : Numbers). IsFirstOutside n xi k) same first

below_between : (low x high : ℤ) → low ≤ℤ x → x ≤ℤ high → unsigned_abs low < 2 ^ 31 → unsigned_abs high < 2 ^ 31 → unsigned_abs x < 2 ^ 31
below_between low x high h l p q = omega (arith, ints, h, l, p, q)

coordinate_below : (c : Numbers) (xi : List ℤ) (i : ℕ) → IsSized c → IsAdmissible c xi → i < c.states → unsigned_abs (at xi i) < 2 ^ 31
coordinate_below c xi i s g h =
    below_between (at c.low i) (at xi i) (at c.high i) (g.each i h).low (g.each i h).high (s.low i (pos 0) (omega (arith, s.shaped.low, h))) (s.high i (pos 0) (omega (arith, s.shaped.high, h)))

-- a coordinate over 2^fraction_bits fits the word
pub coordinate_fits : (c : Numbers) (xi : List ℤ) (i : ℕ) → IsSized c → IsAdmissible c xi → i < c.states → FitsSigned w128 (at xi i *ℤ pos (2 ^ (c.fraction_bits - c.grid_bits)))
coordinate_fits c xi i s g h =
    let k = c.fraction_bits - c.grid_bits in
    let small : unsigned_abs (at xi i) * 2 ^ k < 2 ^ 31 * 2 ^ 49 = mul-lt (unsigned_abs (at xi i)) (2 ^ k) (2 ^ 31) (2 ^ 49) (coordinate_below c xi i s g h) (pow_below k 49 (omega (arith, s.fraction_bits))) in
    fits_signed_from_abs w128 _ (omega (arith, abs-shifted (at xi i) k, small))

-- the least state of the box lies in it
pub low_inside : (c : Numbers) → IsSized c → IsAdmissible c c.low
low_inside c s = record { long = s.shaped.low; each = λ i h. record { low = omega (arith, ints); high = s.box i h } }
