-- Averages to the nearest: C defines their expressions, and these have the value of the sums over the steps.
use Rattle.std.proofs.Common.{◌≡◌, ℕ, suc, ◌+◌, ◌-◌, ◌*◌, ◌/◌, ◌^◌, ◌<◌, ◌≤◌, ℤ, pos, negsuc, ◌+ℤ◌, ◌-ℤ◌, ◌*ℤ◌, ◌≤ℤ◌, ◌<ℤ◌, [], ◌∷◌, unsigned_abs, int_div, int_rem, refl, sym, ap, subst, ◌∙◌, arith, le_refl}
use Rattle.std.proofs.lemmas.Int.{ints, quot-rem, rem_below, by_lt_z}
use Rattle.std.proofs.lemmas.Nat.{mul-le, pow-add, pow_pos, div-add-mod'}
use Rattle.std.proofs.Math.Nat.{lt_of_mul-lt-mul_left}
use Rattle.qp_model.specs.machine.ValuesMet.{FitsWidth}
use Rattle.integer_algebra.specs.Division.{floor_of, round_of}
use Rattle.integer_algebra.proofs.DivisionLaws.{floor_of_is, floor_unique}
use Rattle.integer_algebra.proofs.OrderLaws.{le_by, lt_by}
use Rattle.integer_algebra.proofs.Quoting.{by_ring, quotes}
use Rattle.c_language.specs.Syntax.{Expression}
use Rattle.c_language.specs.Syntax.Expression.{Constant, Times, Quotient, Remainder}
use Rattle.c_language.specs.Meaning.{Environment, value}
use Rattle.c_program.specs.Of.{shifted_average, divided_average}
use Rattle.c_program.proofs.Terms.{Makes, fits64, makes_same, makes_constant, makes_plus, makes_minus, makes_shifted, abs-sub_le, sign_up, sign_down}

-- ---- rounding to the nearest
-- a number between the two bounds is the quotient rounded to the nearest
round_unique : (z : ℤ) (d : ℕ) (q : ℤ) → 0 < d → (pos 2 *ℤ (q *ℤ pos d)) ≤ℤ (pos 2 *ℤ z +ℤ pos d) → (pos 2 *ℤ z +ℤ pos d) <ℤ (pos 2 *ℤ (q *ℤ pos d) +ℤ pos 2 *ℤ pos d) →
    q ≡ round_of z d
round_unique z d q p h k =
    let b = gathered (pos 2 *ℤ z +ℤ pos d) q (pos d) (pos (2 * d)) refl h k in
    floor_unique (pos 2 *ℤ z +ℤ pos d) (2 * d) q (omega (arith, p)) (record { least = b.0; greatest = b.1 })
  where
    gathered : (x q e f : ℤ) → f ≡ pos 2 *ℤ e → (pos 2 *ℤ (q *ℤ e)) ≤ℤ x → x <ℤ (pos 2 *ℤ (q *ℤ e) +ℤ pos 2 *ℤ e) → ((q *ℤ f) ≤ℤ x) × (x <ℤ ((q +ℤ pos 1) *ℤ f))
    gathered x q e f g h k = (
      rw g (le_by h (by_ring (x ∷ q ∷ e ∷ []) (search quotes depth 60 fits 20000) refl)),
      rw g (lt_by k (by_ring (x ∷ q ∷ e ∷ []) (search quotes depth 60 fits 20000) refl)),
    )

-- half of the divisor is added, and the quotient rounded down
half_rounds : (z : ℤ) (d : ℕ) → 0 < d → floor_of (z +ℤ pos (d / 2)) d ≡ round_of z d
half_rounds z d p =
    let q = floor_of (z +ℤ pos (d / 2)) d in
    let k = floor_of_is (z +ℤ pos (d / 2)) d p in
    let b = doubled z (q *ℤ pos d) (d / 2) d k.least (subst (λ (y : ℤ). (z +ℤ pos (d / 2)) <ℤ y) (next q (pos d)) k.greatest) (omega arith) (omega arith) in
    round_unique z d q p b.0 b.1
  where
    next : (q e : ℤ) → (q +ℤ pos 1) *ℤ e ≡ q *ℤ e +ℤ e
    next q e = by_ring (q ∷ e ∷ []) (search quotes depth 60 fits 20000) refl

    doubled : (z x : ℤ) (h d : ℕ) → x ≤ℤ (z +ℤ pos h) → (z +ℤ pos h) <ℤ (x +ℤ pos d) → 2 * h ≤ d → d ≤ 2 * h + 1 →
        ((pos 2 *ℤ x) ≤ℤ (pos 2 *ℤ z +ℤ pos d)) × ((pos 2 *ℤ z +ℤ pos d) <ℤ (pos 2 *ℤ x +ℤ pos 2 *ℤ pos d))
    doubled z x h d k l m n = (omega (arith, ints, k, l, m, n), omega (arith, ints, k, l, m, n))

-- the quotient rounded toward 0, moved by t
moved_round : (z : ℤ) (d : ℕ) (q r t : ℤ) → 0 < d → q *ℤ pos d +ℤ r ≡ z → (pos 2 *ℤ (t *ℤ pos d)) ≤ℤ (pos 2 *ℤ r +ℤ pos d) →
    (pos 2 *ℤ r +ℤ pos d) <ℤ (pos 2 *ℤ (t *ℤ pos d) +ℤ pos 2 *ℤ pos d) → q +ℤ t ≡ round_of z d
moved_round z d q r t p e h k = round_unique z d (q +ℤ t) p
    (rw (← e) (le_by h (by_ring (q ∷ r ∷ t ∷ pos d ∷ []) (search quotes depth 60 fits 20000) refl)))
    (rw (← e) (lt_by k (by_ring (q ∷ r ∷ t ∷ pos d ∷ []) (search quotes depth 60 fits 20000) refl)))

abbrev low_sign : ℤ → ℕ → ℤ
low_sign r d = floor_of (pos 2 *ℤ r +ℤ pos d) (2 ^ 63)

abbrev high_sign : ℤ → ℕ → ℤ
high_sign r d = floor_of (pos (d - 1) -ℤ pos 2 *ℤ r) (2 ^ 63)

sums : (q x y a b t : ℤ) → x ≡ a → y ≡ b → a -ℤ b ≡ t → (q +ℤ x) -ℤ y ≡ q +ℤ t
sums q x y a b t h k e = omega (arith, ints, h, k, e)

rest_rounds : (z : ℤ) (d : ℕ) (q r : ℤ) → 0 < d → d < 2 ^ 32 → q *ℤ pos d +ℤ r ≡ z → unsigned_abs r < d → (q +ℤ low_sign r d) -ℤ high_sign r d ≡ round_of z d
rest_rounds z d q r p s e l =
    by_lt_z (pos 2 *ℤ r +ℤ pos d) (pos 0)
    (λ h. moved (negsuc 0) (sign_down _ (2 ^ 63) h (omega (arith, ints, h, s, l))) (sign_up (pos (d - 1) -ℤ pos 2 *ℤ r) (2 ^ 63) (omega (arith, ints, h, p)) (omega (arith, ints, h, s, l)))
    (omega (arith, ints)) (omega (arith, ints, h, l)) (omega (arith, ints, h, l)))
    (λ h. by_lt_z (pos (d - 1) -ℤ pos 2 *ℤ r) (pos 0)
    (λ k. moved (pos 1) (sign_up _ (2 ^ 63) h (omega (arith, ints, s, l))) (sign_down (pos (d - 1) -ℤ pos 2 *ℤ r) (2 ^ 63) k (omega (arith, ints, s, l)))
    (omega (arith, ints)) (omega (arith, ints, k, l, p)) (omega (arith, ints, k, l)))
    (λ k. moved (pos 0) (sign_up _ (2 ^ 63) h (omega (arith, ints, s, l))) (sign_up (pos (d - 1) -ℤ pos 2 *ℤ r) (2 ^ 63) k (omega (arith, ints, s, l)))
    (omega (arith, ints)) (omega (arith, ints, h)) (omega (arith, ints, k, p))))
  where
    moved : {a b : ℤ} (t : ℤ) → low_sign r d ≡ a → high_sign r d ≡ b → a -ℤ b ≡ t → (pos 2 *ℤ (t *ℤ pos d)) ≤ℤ (pos 2 *ℤ r +ℤ pos d) →
        (pos 2 *ℤ r +ℤ pos d) <ℤ (pos 2 *ℤ (t *ℤ pos d) +ℤ pos 2 *ℤ pos d) → (q +ℤ low_sign r d) -ℤ high_sign r d ≡ round_of z d
    moved {a} {b} t h k same low high = sums q (low_sign r d) (high_sign r d) a b t h k same ∙ moved_round z d q r t p e low high

-- ---- expressions
quotient_le : (z : ℤ) (d : ℕ) → 2 ≤ d → unsigned_abs (int_div z (pos d)) * 2 ≤ unsigned_abs z
quotient_le (pos a) d h = omega (arith, div-add-mod' a d, mul-le (a / d) 2 (a / d) d (le_refl (a / d)) h)
quotient_le (negsuc a) d h = omega (arith, ints, div-add-mod' (suc a) d, mul-le (suc a / d) 2 (suc a / d) d (le_refl (suc a / d)) h)

makes_quotient : (e : Environment) (a : Expression) (z : ℤ) (most k : ℕ) → Makes e a z (2 * most) → 2 ≤ k → k < 2 ^ 63 → Makes e (Quotient a k) (int_div z (pos k)) most
makes_quotient e a z most k h low high = record {
  defined = (h.defined, omega (arith, low), high);
  is = ap (λ (y : ℤ). int_div y (pos k)) h.is;
  within = omega (arith, quotient_le z k low, h.within);
}

makes_remainder : (e : Environment) (a : Expression) (z : ℤ) (most k : ℕ) → Makes e a z most → 0 < k → k < 2 ^ 63 → Makes e (Remainder a k) (int_rem z (pos k)) k
makes_remainder e a z most k h low high = record {
  defined = (h.defined, low, high);
  is = ap (λ (y : ℤ). int_rem y (pos k)) h.is;
  within = omega (arith, rem_below z (pos k) low);
}

makes_doubled : (e : Environment) (a : Expression) (z : ℤ) (most : ℕ) → Makes e a z most → 2 * most < 2 ^ 63 → Makes e (Times (Constant (pos 2)) a) (pos 2 *ℤ z) (2 * most)
makes_doubled e a z most h room =
    let is : pos 2 *ℤ value e a ≡ pos 2 *ℤ z = ap (λ (y : ℤ). pos 2 *ℤ y) h.is in
    let within : unsigned_abs (pos 2 *ℤ z) ≤ 2 * most = omega (arith, ints, h.within) in
    record { defined = (omega arith, h.defined, subst (FitsWidth 64) (sym is) (fits64 (pos 2 *ℤ z) (omega (arith, within, room)))); is = is; within = within }

-- a sum of at most steps * top, over steps that are 2^k
pub shifted_made : (e : Environment) (a : Expression) (z : ℤ) (steps top k : ℕ) → Makes e a z (steps * top) → steps * top < 2 ^ 63 → steps ≡ 2 ^ k → k < 63 →
    Makes e (shifted_average a steps k) (round_of z steps) (2 ^ 63)
shifted_made e a z steps top k h room same short =
    let some : 0 < steps = rw same (pow_pos k) in
    let half = makes_plus e a (Constant (pos (steps / 2))) z (pos (steps / 2)) (steps * top) (steps / 2) h
    (makes_constant e (pos (steps / 2)) (steps / 2) (le_refl (steps / 2)) (omega (arith, whole))) (omega (arith, whole, some)) in
    let shifted = makes_shifted e _ (z +ℤ pos (steps / 2)) (steps * top + steps / 2) k half (omega (arith, short)) in
    makes_same e _ _ _ _ _ shifted (ap (floor_of (z +ℤ pos (steps / 2))) (sym same) ∙ half_rounds z steps some) (omega (arith, whole, some))
  where
    -- no multiple of steps lies between 2^63 - steps and 2^63
    whole : steps * top + steps ≤ 2 ^ 63
    whole =
        let rest = 2 ^ (63 - k) in
        let product : steps * rest ≡ 2 ^ 63 = ap (λ (n : ℕ). n * rest) same ∙ sym (pow-add 2 k (63 - k)) ∙ ap (λ (n : ℕ). 2 ^ n) (let e : k + (63 - k) ≡ 63 = omega (arith, short) in e) in
        let less : top < rest = lt_of_mul-lt-mul_left steps (omega (arith, room, product)) in
        omega (arith, product, mul-le steps (top + 1) steps rest (le_refl steps) (omega (arith, less)))

-- a sum over any other number of steps
pub divided_made : (e : Environment) (a : Expression) (z : ℤ) (steps : ℕ) → Makes e a z (2 ^ 63 - 1) → 2 ≤ steps → steps < 2 ^ 32 → Makes e (divided_average a steps) (round_of z steps) (2 ^ 63)
divided_made e a z steps h low high =
    let q = int_div z (pos steps) in
    let r = int_rem z (pos steps) in
    let quotient = makes_quotient e a z (2 ^ 62) steps (makes_same e a z z _ _ h refl (omega arith)) low (omega (arith, high)) in
    let rest = makes_doubled e (Remainder a steps) r steps (makes_remainder e a z _ steps h (omega (arith, low)) (omega (arith, high))) (omega (arith, high)) in
    let count = makes_constant e (pos steps) steps (le_refl steps) (omega (arith, high)) in
    let less = makes_constant e (pos (steps - 1)) steps (omega arith) (omega (arith, high)) in
    let down = makes_shifted e _ (pos 2 *ℤ r +ℤ pos steps) _ 63 (makes_plus e _ _ (pos 2 *ℤ r) (pos steps) _ _ rest count (omega (arith, high))) (omega arith) in
    let up = makes_shifted e _ (pos (steps - 1) -ℤ pos 2 *ℤ r) (3 * steps) 63
    (makes_minus e _ _ (pos (steps - 1)) (pos 2 *ℤ r) _ _ (3 * steps) less rest (omega (arith, abs-sub_le (pos (steps - 1)) (pos 2 *ℤ r), rest.within)) (omega (arith, high))) (omega arith) in
    let sum = makes_plus e _ _ q _ _ _ quotient down (omega (arith, high)) in
    makes_same e _ _ _ _ _ (makes_minus e _ _ _ _ _ _ (2 ^ 62 + 6 * steps) sum up
    (omega (arith, abs-sub_le (q +ℤ floor_of (pos 2 *ℤ r +ℤ pos steps) (2 ^ 63)) (floor_of (pos (steps - 1) -ℤ pos 2 *ℤ r) (2 ^ 63)), sum.within, up.within)) (omega (arith, high)))
    (rest_rounds z steps q r (omega (arith, low)) high (quot-rem z (pos steps)) (rem_below z (pos steps) (omega (arith, low)))) (omega (arith, high))
