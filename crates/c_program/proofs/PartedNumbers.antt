-- A number in two parts, its last 16 bits and what stands before them; and sums of products with numbers that variables hold where they are used.
use Rattle.std.proofs.Common.{◌≡◌, ℕ, zero, suc, ◌+◌, ◌-◌, ◌*◌, ◌^◌, ◌<◌, ◌≤◌, min, ltb, ℤ, pos, negsuc, ◌+ℤ◌, ◌-ℤ◌, ◌*ℤ◌, [], ◌∷◌, unsigned_abs, refl, sym, ap, subst, ◌∙◌, arith, le_refl}
use Rattle.std.proofs.lemmas.Bool.{cond_both, ltb-true, ltb-false}
use Rattle.std.proofs.lemmas.Int.{ints}
use Rattle.std.proofs.lemmas.Nat.{mul-le}
use Rattle.integer_algebra.specs.Division.{floor_of}
use Rattle.integer_algebra.specs.Sums.{total}
use Rattle.integer_algebra.specs.Sizes.{amount}
use Rattle.integer_algebra.proofs.Quoting.{by_ring, quotes}
use Rattle.integer_algebra.proofs.DivisionLaws.{floor_of_is}
use Rattle.qp_model.specs.machine.ValuesMet.{FitsWidth}
use Rattle.qp_model.proofs.AbsoluteLaws.{div-le, abs-floor_le}
use Rattle.overflow_check.proofs.ValuesMet.{fits_width}
use Rattle.c_language.specs.Syntax.{Variable, bits_of, Expression}
use Rattle.c_language.specs.Syntax.Expression.{Constant, Value, Plus, Minus, Times, Shifted}
use Rattle.c_language.specs.Meaning.{Environment, held}
use Rattle.c_program.specs.Of.{kind_for, high_top, plus_product, plus_products}
use Rattle.c_program.specs.InParts.{high_part, low_part, parted_shift}
use Rattle.c_program.proofs.Terms.{Makes, fits64, kind_fits, makes_same, makes_value, makes_plus, makes_shifted, makes_times, zero_abs, short_shift}
use Rattle.c_program.proofs.Lowering.{floor_more, floor_twice, power_split}

-- ---- a number in two parts
-- the greatest low part
abbrev pub low_top : ℕ
low_top = 2 ^ 16 - 1

pub parts_whole : (z : ℤ) → pos (2 ^ 16) *ℤ high_part z +ℤ low_part z ≡ z
parts_whole z = joined z (pos (2 ^ 16) *ℤ high_part z)
  where
    joined : (z y : ℤ) → y +ℤ (z -ℤ y) ≡ z
    joined z y = omega (arith, ints)

pub high_le : (z : ℤ) (top : ℕ) → unsigned_abs z ≤ top → unsigned_abs (high_part z) ≤ high_top top
high_le (pos a) top h = omega (arith, div-le a top (2 ^ 16) (omega arith) h)
high_le (negsuc a) top h = omega (arith, div-le a top (2 ^ 16) (omega arith) (omega (arith, h)))

pub low_le : (z : ℤ) → unsigned_abs (low_part z) ≤ low_top
low_le z = (let k = floor_of_is z (2 ^ 16) (omega arith) in omega (arith, ints, k.least, k.greatest))

pub high_fits : (top : ℕ) (z : ℤ) → unsigned_abs z ≤ top → top < 2 ^ 63 → FitsWidth (bits_of (kind_for (high_top top))) (high_part z)
high_fits top z h room = kind_fits (high_top top) (high_part z) (high_le z top h) (omega (arith, room, div-le top (2 ^ 63) (2 ^ 16) (omega arith) (omega (arith, room))))

pub low_fits : (z : ℤ) → FitsWidth 32 (low_part z)
low_fits z = fits_width 32 (low_part z) (omega (arith, low_le z))

-- the high part's multiple fits 64 bits where the number does
times_high_fits : (z : ℤ) → unsigned_abs z < 2 ^ 63 → FitsWidth 64 (pos (2 ^ 16) *ℤ high_part z)
times_high_fits z h =
    let k = floor_of_is z (2 ^ 16) (omega arith) in
    record { low = omega (arith, ints, h, k.least, k.greatest); high = omega (arith, ints, h, k.least, k.greatest) }

-- as `part_statements` make them
pub high_made : (e : Environment) (whole : Variable) (z : ℤ) (top : ℕ) → held e whole ≡ z → unsigned_abs z ≤ top → top < 2 ^ 63 → Makes e (Shifted (Value whole) 16) (high_part z) (high_top top)
high_made e whole z top is h room =
    let m = makes_shifted e (Value whole) z top 16 (makes_value e whole z top is h room) (omega arith) in
    record { defined = m.defined; is = m.is; within = high_le z top h }

pub low_made : (e : Environment) (whole high : Variable) (z : ℤ) → held e whole ≡ z → held e high ≡ high_part z → unsigned_abs z < 2 ^ 63 →
    Makes e (Minus (Value whole) (Times (Constant (pos (2 ^ 16))) (Value high))) (low_part z) low_top
low_made e whole high z is also room =
    let q = pos (2 ^ 16) in
    let is_low : held e whole -ℤ q *ℤ held e high ≡ low_part z = (λ i. is i -ℤ q *ℤ also i) in
    record {
      defined = (
        subst (FitsWidth 64) (sym is) (fits64 z room),
        (omega arith, subst (FitsWidth 64) (sym also) (fits64 (high_part z) (omega (arith, abs-floor_le z (2 ^ 16), room))), subst (λ (y : ℤ). FitsWidth 64 (q *ℤ y)) (sym also) (times_high_fits z room)),
        subst (FitsWidth 64) (sym is_low) (fits64 (low_part z) (omega (arith, low_le z))),
      );
      is = is_low;
      within = low_le z;
    }

-- a sum over 2^k, rounded down, from its parts
pub floor_of_parts : (high low : ℤ) (k : ℕ) → 16 ≤ k → floor_of (high +ℤ floor_of low (2 ^ 16)) (2 ^ (k - 16)) ≡ floor_of (pos (2 ^ 16) *ℤ high +ℤ low) (2 ^ k)
floor_of_parts high low k h =
    let d = 2 ^ 16 in
    ap (λ (z : ℤ). floor_of z (2 ^ (k - 16))) (turned high (floor_of low d) ∙ floor_more low high d (omega arith) ∙ ap (λ (z : ℤ). floor_of z d) (order high low (pos d))) ∙
    floor_twice (pos d *ℤ high +ℤ low) d (2 ^ (k - 16)) ∙ ap (floor_of (pos d *ℤ high +ℤ low)) (sym (power_split k 16 h))
  where
    turned : (x y : ℤ) → x +ℤ y ≡ y +ℤ x
    turned x y = omega (arith, ints)

    order : (x y q : ℤ) → y +ℤ x *ℤ q ≡ q *ℤ x +ℤ y
    order x y q = by_ring (x ∷ y ∷ q ∷ []) (search quotes depth 60 fits 20000) refl

-- as `parted_shift` makes it
pub parted_shift_made : (e : Environment) (high low : Expression) (x y : ℤ) (m n k : ℕ) → Makes e high x m → Makes e low y n → m + n < 2 ^ 63 → 16 ≤ k →
    Makes e (parted_shift high low k) (floor_of (pos (2 ^ 16) *ℤ x +ℤ y) (2 ^ k)) (m + n)
parted_shift_made e high low x y m n k h l room some =
    let z = x +ℤ floor_of y (2 ^ 16) in
    let sum : Makes e (Plus high (Shifted low 16)) z (m + n) = makes_plus e high (Shifted low 16) x (floor_of y (2 ^ 16)) m n h (makes_shifted e low y n 16 l (omega arith)) room in
    makes_same e _ _ _ _ _ (makes_shifted e _ z (m + n) (min (k - 16) 63) sum (omega arith)) (short_shift z (k - 16) (omega (arith, sum.within, room)) ∙ floor_of_parts x y k some) (omega arith)

-- ---- sums of products with numbers that variables hold where they are used
some_product : (a t b : ℕ) → 0 < a * t → 1 ≤ b → 0 < a * b
some_product zero t b h l = absurd (omega (arith, h))
some_product (suc a) t b h l = omega (arith, mul-le 1 1 (suc a) b (omega arith) l)

makes_used_product : (e : Environment) (a : Expression) (c : ℤ) (top bound : ℕ) (v : Variable) (x z : ℤ) (most : ℕ) → Makes e a z most → 1 ≤ bound → unsigned_abs x ≤ bound →
    (0 < unsigned_abs c * top → held e v ≡ x) → (unsigned_abs c * top ≡ 0 → c *ℤ x ≡ pos 0) → most + unsigned_abs c * bound < 2 ^ 63 →
    Makes e (plus_product a c top v) (z +ℤ c *ℤ x) (most + unsigned_abs c * bound)
makes_used_product e a c top bound v x z most m some small used unused room =
    let weight = unsigned_abs c * bound in
    cond_both (ltb 0 (unsigned_abs c * top)) (Plus a (Times (Constant c) (Value v))) a (λ b. Makes e b (z +ℤ c *ℤ x) (most + weight))
    (λ t.
    let product = ltb-true 0 (unsigned_abs c * top) t in
    let is : held e v ≡ x = used product in
    let within : unsigned_abs (held e v) ≤ bound = subst (λ (y : ℤ). unsigned_abs y ≤ bound) (sym is) small in
    makes_plus e a _ z (c *ℤ x) most weight m
    (makes_same e _ _ _ _ _ (makes_times e c bound v within (omega (arith, room)) (some_product (unsigned_abs c) top bound product some)) (ap (λ (y : ℤ). c *ℤ y) is) (omega arith)) room)
    (λ f. makes_same e a z (z +ℤ c *ℤ x) most (most + weight) m (more z (c *ℤ x) (unused (omega (arith, ltb-false 0 (unsigned_abs c * top) f)))) (omega arith))
  where
    more : (z y : ℤ) → y ≡ pos 0 → z ≡ z +ℤ y
    more z y h = omega (arith, ints, h)

-- what the products need: numbers within bounds, which the variables hold where the products aren't always 0
pub record AreUsed (e : Environment) (c : ℕ → ℤ) (top bound : ℕ → ℕ) (v : ℕ → Variable) (f : ℕ → ℤ) (n : ℕ) : Type 0 where
  pub some : (i : ℕ) → i < n → 1 ≤ bound i
  pub small : (i : ℕ) → i < n → unsigned_abs (f i) ≤ bound i
  pub used : (i : ℕ) → i < n → 0 < unsigned_abs (c i) * top i → held e (v i) ≡ f i
  pub none : (i : ℕ) → i < n → top i ≡ 0 → f i ≡ pos 0

unused_product : (c x : ℤ) (top : ℕ) → (top ≡ 0 → x ≡ pos 0) → unsigned_abs c * top ≡ 0 → c *ℤ x ≡ pos 0
unused_product c x zero none h = ap (λ (y : ℤ). c *ℤ y) (none refl) ∙ mul-zero c
  where
    mul-zero : (c : ℤ) → c *ℤ pos 0 ≡ pos 0
    mul-zero c = omega (arith, ints)
unused_product c x (suc top) none h = ap (λ (y : ℤ). y *ℤ x) (zero_abs c (omega (arith, h, mul-le (unsigned_abs c) 1 (unsigned_abs c) (suc top) (le_refl (unsigned_abs c)) (omega arith)))) ∙ zero-mul x
  where
    zero-mul : (x : ℤ) → pos 0 *ℤ x ≡ pos 0
    zero-mul x = omega (arith, ints)

pub makes_used : (e : Environment) (a : Expression) (c : ℕ → ℤ) (top bound : ℕ → ℕ) (v : ℕ → Variable) (f : ℕ → ℤ) (n : ℕ) (z : ℤ) (most : ℕ) → Makes e a z most → AreUsed e c top bound v f n →
    most + amount n (λ i. unsigned_abs (c i) * bound i) < 2 ^ 63 → Makes e (plus_products a c top v n) (z +ℤ total n (λ i. c i *ℤ f i)) (most + amount n (λ i. unsigned_abs (c i) * bound i))
makes_used e a c top bound v f zero z most m u room = makes_same e a z _ most _ m (omega (arith, ints)) (omega arith)
makes_used e a c top bound v f (suc n) z most m u room =
    let sum = total n (λ i. c i *ℤ f i) in
    let many = amount n (λ i. unsigned_abs (c i) * bound i) in
    let last : n < suc n = omega arith in
    let rest = makes_used e a c top bound v f n z most m (record {
      some = λ i l. u.some i (omega (arith, l));
      small = λ i l. u.small i (omega (arith, l));
      used = λ i l. u.used i (omega (arith, l));
      none = λ i l. u.none i (omega (arith, l));
    }) (omega (arith, room)) in
    makes_same e _ ((z +ℤ sum) +ℤ c n *ℤ f n) (z +ℤ (sum +ℤ c n *ℤ f n)) (most + many + unsigned_abs (c n) * bound n) (most + (many + unsigned_abs (c n) * bound n))
    (makes_used_product e (plus_products a c top v n) (c n) (top n) (bound n) (v n) (f n) (z +ℤ sum) (most + many) rest (u.some n last) (u.small n last) (u.used n last)
    (unused_product (c n) (f n) (top n) (u.none n last)) (omega (arith, room)))
    (omega (arith, ints)) (omega arith)
