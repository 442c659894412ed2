-- Expressions that C defines, with their values and how great these are at most.
use Rattle.std.proofs.Common.{◌≡◌, ℕ, zero, suc, ◌+◌, ◌*◌, ◌/◌, ◌^◌, ◌<◌, ◌≤◌, min, ltb, ℤ, pos, negsuc, ◌+ℤ◌, ◌-ℤ◌, ◌*ℤ◌, ◌≤ℤ◌, ◌<ℤ◌, unsigned_abs, int_div, refl, sym, ap, subst, ◌∙◌, arith, le_refl, inl, inr}
use Rattle.std.proofs.lemmas.Int.{ints, unsigned_abs-mul}
use Rattle.std.proofs.lemmas.Nat.{mul-le, div_below, pow_below}
use Rattle.std.proofs.lemmas.Bool.{cond_both, ltb-true, ltb-false, cases_lt}
use Rattle.integer_algebra.specs.Division.{floor_of}
use Rattle.integer_algebra.specs.Sums.{total}
use Rattle.integer_algebra.specs.Sizes.{amount}
use Rattle.mat_int.proofs.Dots.{abs-add_le}
use Rattle.qp_model.specs.machine.ValuesMet.{FitsWidth}
use Rattle.qp_model.proofs.AbsoluteLaws.{abs-floor_le}
use Rattle.overflow_check.proofs.ValuesMet.{fits_width}
use Rattle.c_language.specs.Syntax.{Variable, bits_of, Expression}
use Rattle.c_language.specs.Syntax.Kind.{Narrow, Wide}
use Rattle.c_language.specs.Syntax.Expression.{Constant, Value, Plus, Minus, Times, Over, Shifted, ShiftedBy}
use Rattle.c_language.specs.Meaning.{Environment, held, value, IsDefined}
use Rattle.c_program.specs.Of.{kind_for, plus_product, plus_products}

pub record Makes (e : Environment) (a : Expression) (z : ℤ) (most : ℕ) : Type 0 where
  pub defined : IsDefined e a
  pub is : value e a ≡ z
  pub within : unsigned_abs z ≤ most

pub fits64 : (z : ℤ) → unsigned_abs z < 2 ^ 63 → FitsWidth 64 z
fits64 z h = fits_width 64 z (omega (arith, h))

-- in the type for numbers of at most this absolute value
pub kind_holds : (top : ℕ) (z : ℤ) → unsigned_abs z ≤ top → unsigned_abs z < 2 ^ 63 → FitsWidth (bits_of (kind_for top)) z
kind_holds top z h room =
    cond_both (ltb top (2 ^ 31)) Narrow Wide (λ kind. FitsWidth (bits_of kind) z)
    (λ e. fits_width 32 z (omega (arith, h, ltb-true top (2 ^ 31) e)))
    (λ e. fits64 z room)

pub kind_fits : (top : ℕ) (z : ℤ) → unsigned_abs z ≤ top → top < 2 ^ 63 → FitsWidth (bits_of (kind_for top)) z
kind_fits top z h room = kind_holds top z h (omega (arith, h, room))

-- the same expression with its value and its bound written otherwise
pub makes_same : (e : Environment) (a : Expression) (z w : ℤ) (m n : ℕ) → Makes e a z m → z ≡ w → m ≤ n → Makes e a w n
makes_same e a z w m n h same le = record { defined = h.defined; is = h.is ∙ same; within = omega (arith, subst (λ (x : ℤ). unsigned_abs x ≤ m) same h.within, le) }

-- ---- one operation
pub makes_constant : (e : Environment) (z : ℤ) (most : ℕ) → unsigned_abs z ≤ most → most < 2 ^ 63 → Makes e (Constant z) z most
makes_constant e z most h room = record { defined = omega (arith, h, room); is = refl; within = h }

pub makes_value : (e : Environment) (v : Variable) (z : ℤ) (most : ℕ) → held e v ≡ z → unsigned_abs z ≤ most → most < 2 ^ 63 → Makes e (Value v) z most
makes_value e v z most is h room = record { defined = subst (FitsWidth 64) (sym is) (fits64 z (omega (arith, h, room))); is = is; within = h }

pub makes_plus : (e : Environment) (a b : Expression) (x y : ℤ) (m n : ℕ) → Makes e a x m → Makes e b y n → m + n < 2 ^ 63 → Makes e (Plus a b) (x +ℤ y) (m + n)
makes_plus e a b x y m n h k room =
    let is : value e a +ℤ value e b ≡ x +ℤ y = rw (h.is, k.is) refl in
    let within : unsigned_abs (x +ℤ y) ≤ m + n = omega (arith, abs-add_le x y, h.within, k.within) in
    record { defined = (h.defined, k.defined, subst (FitsWidth 64) (sym is) (fits64 (x +ℤ y) (omega (arith, within, room)))); is = is; within = within }

pub abs-sub_le : (x y : ℤ) → unsigned_abs (x -ℤ y) ≤ unsigned_abs x + unsigned_abs y
abs-sub_le x y = omega (arith, ints)

pub makes_minus : (e : Environment) (a b : Expression) (x y : ℤ) (m n most : ℕ) → Makes e a x m → Makes e b y n → unsigned_abs (x -ℤ y) ≤ most → most < 2 ^ 63 → Makes e (Minus a b) (x -ℤ y) most
makes_minus e a b x y m n most h k within room =
    let is : value e a -ℤ value e b ≡ x -ℤ y = rw (h.is, k.is) refl in
    record { defined = (h.defined, k.defined, subst (FitsWidth 64) (sym is) (fits64 (x -ℤ y) (omega (arith, within, room)))); is = is; within = within }

pub makes_shifted : (e : Environment) (a : Expression) (z : ℤ) (most k : ℕ) → Makes e a z most → k < 64 → Makes e (Shifted a k) (floor_of z (2 ^ k)) most
makes_shifted e a z most k h l = record {
  defined = (h.defined, l);
  is = ap (λ (x : ℤ). floor_of x (2 ^ k)) h.is;
  within = omega (arith, abs-floor_le z (2 ^ k), h.within);
}

-- by as many bits as a variable holds
pub makes_shifted_by : (e : Environment) (a : Expression) (v : Variable) (z : ℤ) (most k : ℕ) → Makes e a z most → held e v ≡ pos k → k < 64 → Makes e (ShiftedBy a v) (floor_of z (2 ^ k)) most
makes_shifted_by e a v z most k h is l = record {
  defined = (h.defined, subst (λ (y : ℤ). pos 0 ≤ℤ y) (sym is) (omega (arith, ints)), subst (λ (y : ℤ). y <ℤ pos 64) (sym is) (omega (arith, ints, l)));
  is = (λ i. floor_of (h.is i) (2 ^ unsigned_abs (is i)));
  within = omega (arith, abs-floor_le z (2 ^ k), h.within);
}

-- two expressions' product
pub makes_multiplied : (e : Environment) (a b : Expression) (x y : ℤ) (m n most : ℕ) → Makes e a x m → Makes e b y n → unsigned_abs (x *ℤ y) ≤ most → most < 2 ^ 63 → Makes e (Times a b) (x *ℤ y) most
makes_multiplied e a b x y m n most h k within room =
    let is : value e a *ℤ value e b ≡ x *ℤ y = rw (h.is, k.is) refl in
    record { defined = (h.defined, k.defined, subst (FitsWidth 64) (sym is) (fits64 (x *ℤ y) (omega (arith, within, room)))); is = is; within = within }

-- C's quotient of a number from 0 on, by one above 0, is the floor
quotient_floor : (z : ℤ) (d : ℕ) → pos 0 ≤ℤ z → int_div z (pos d) ≡ floor_of z d
quotient_floor (pos a) d h = refl
quotient_floor (negsuc a) d h = absurd (omega (arith, ints, h))

pub makes_over : (e : Environment) (a : Expression) (v : Variable) (z : ℤ) (most d : ℕ) → Makes e a z most → held e v ≡ pos d → 0 < d → d < 2 ^ 63 → pos 0 ≤ℤ z →
    Makes e (Over a v) (floor_of z d) most
makes_over e a v z most d h is low high sign = record {
  defined = (h.defined, subst (FitsWidth 64) (sym is) (fits64 (pos d) (omega (arith, high))), subst (λ (y : ℤ). pos 0 <ℤ y) (sym is) (omega (arith, ints, low)));
  is = (λ i. int_div (h.is i) (is i)) ∙ quotient_floor z d sign;
  within = omega (arith, abs-floor_le z d, h.within);
}

-- ---- sums of products
pub factors_le : (a b : ℕ) → 0 < a * b → (a ≤ a * b) × (b ≤ a * b)
factors_le zero b h = absurd (omega (arith, h))
factors_le (suc a) zero h = absurd (omega (arith, h))
factors_le (suc a) (suc b) h = (
  omega (arith, mul-le (suc a) 1 (suc a) (suc b) (le_refl (suc a)) (omega arith)),
  omega (arith, mul-le 1 (suc b) (suc a) (suc b) (omega arith) (le_refl (suc b))),
)

pub product_le : (c x : ℤ) (top : ℕ) → unsigned_abs x ≤ top → unsigned_abs (c *ℤ x) ≤ unsigned_abs c * top
product_le c x top h = omega (arith, unsigned_abs-mul c x, mul-le (unsigned_abs c) (unsigned_abs x) (unsigned_abs c) top (le_refl (unsigned_abs c)) h)

pub zero_abs : (z : ℤ) → unsigned_abs z ≤ 0 → z ≡ pos 0
zero_abs z h = omega (arith, ints, h)

pub makes_times : (e : Environment) (c : ℤ) (top : ℕ) (v : Variable) → unsigned_abs (held e v) ≤ top → unsigned_abs c * top < 2 ^ 63 → 0 < unsigned_abs c * top →
    Makes e (Times (Constant c) (Value v)) (c *ℤ held e v) (unsigned_abs c * top)
makes_times e c top v h room some =
    let factors = factors_le (unsigned_abs c) top some in
    let within = product_le c (held e v) top h in
    record {
      defined = (omega (arith, factors.0, room), fits64 (held e v) (omega (arith, h, factors.1, room)), fits64 (c *ℤ held e v) (omega (arith, within, room)));
      is = refl;
      within = within;
    }

makes_product : (e : Environment) (a : Expression) (c : ℤ) (top : ℕ) (v : Variable) (z : ℤ) (most : ℕ) → Makes e a z most → unsigned_abs (held e v) ≤ top →
    most + unsigned_abs c * top < 2 ^ 63 → Makes e (plus_product a c top v) (z +ℤ c *ℤ held e v) (most + unsigned_abs c * top)
makes_product e a c top v z most m h room =
    cond_both (ltb 0 (unsigned_abs c * top)) (Plus a (Times (Constant c) (Value v))) a (λ b. Makes e b (z +ℤ c *ℤ held e v) (most + unsigned_abs c * top))
    (λ t. makes_plus e a (Times (Constant c) (Value v)) z (c *ℤ held e v) most (unsigned_abs c * top) m
    (makes_times e c top v h (omega (arith, room)) (ltb-true 0 (unsigned_abs c * top) t)) room)
    (λ t. let none : c *ℤ held e v ≡ pos 0 = zero_abs (c *ℤ held e v) (omega (arith, product_le c (held e v) top h, ltb-false 0 (unsigned_abs c * top) t)) in
    makes_same e a z (z +ℤ c *ℤ held e v) most (most + unsigned_abs c * top) m (omega (arith, ints, none)) (omega arith))

pub makes_products : (e : Environment) (a : Expression) (c : ℕ → ℤ) (top : ℕ → ℕ) (v : ℕ → Variable) (n : ℕ) (z : ℤ) (most : ℕ) → Makes e a z most →
    ((i : ℕ) → i < n → unsigned_abs (held e (v i)) ≤ top i) → most + amount n (λ i. unsigned_abs (c i) * top i) < 2 ^ 63 →
    Makes e (plus_products a c top v n) (z +ℤ total n (λ i. c i *ℤ held e (v i))) (most + amount n (λ i. unsigned_abs (c i) * top i))
makes_products e a c top v zero z most m h room = makes_same e a z _ most _ m (omega (arith, ints)) (omega arith)
makes_products e a c top v (suc n) z most m h room =
    let sum = total n (λ i. c i *ℤ held e (v i)) in
    let many = amount n (λ i. unsigned_abs (c i) * top i) in
    let rest = makes_products e a c top v n z most m (λ i l. h i (omega (arith, l))) (omega (arith, room)) in
    makes_same e _ ((z +ℤ sum) +ℤ c n *ℤ held e (v n)) (z +ℤ (sum +ℤ c n *ℤ held e (v n))) (most + many + unsigned_abs (c n) * top n) (most + (many + unsigned_abs (c n) * top n))
    (makes_product e (plus_products a c top v n) (c n) (top n) (v n) (z +ℤ sum) (most + many) rest (h n (omega arith)) (omega (arith, room)))
    (omega (arith, ints)) (omega arith)

-- ---- a shift by 63 bits or more
pub small_quotient : (a d : ℕ) → a < d → a / d ≡ 0
small_quotient a d l = omega (arith, div_below a d 1 (omega (arith, l)) (omega (arith, l)))

same_sign : (z : ℤ) (d b : ℕ) → unsigned_abs z < d → unsigned_abs z < b → floor_of z d ≡ floor_of z b
same_sign (pos a) d b h k = ap pos (small_quotient a d h ∙ sym (small_quotient a b k))
same_sign (negsuc a) d b h k = ap negsuc (small_quotient a d (omega (arith, h)) ∙ sym (small_quotient a b (omega (arith, k))))

-- shifted by all its bits, a number is 0, or -1 where it is negative
pub sign_up : (x : ℤ) (d : ℕ) → pos 0 ≤ℤ x → unsigned_abs x < d → floor_of x d ≡ pos 0
sign_up (pos a) d h l = ap pos (small_quotient a d l)
sign_up (negsuc a) d h l = absurd (omega (arith, ints, h))

pub sign_down : (x : ℤ) (d : ℕ) → x <ℤ pos 0 → unsigned_abs x ≤ d → floor_of x d ≡ negsuc 0
sign_down (pos a) d h l = absurd (omega (arith, ints, h))
sign_down (negsuc a) d h l = ap negsuc (small_quotient a d (omega (arith, l)))

pub short_shift : (z : ℤ) (k : ℕ) → unsigned_abs z < 2 ^ 63 → floor_of z (2 ^ min k 63) ≡ floor_of z (2 ^ k)
short_shift z k h = elim (cases_lt 63 k) [
  | inl more ↦ (let e : min k 63 ≡ 63 = omega (arith, more) in rw e (same_sign z (2 ^ 63) (2 ^ k) h (omega (arith, h, pow_below 63 k more))))
  | inr less ↦ (let e : min k 63 ≡ k = omega (arith, less) in rw e refl)
]
