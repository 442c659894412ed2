-- Lists that grow number by number, and what the numbers of a controller are at most.
use Rattle.std.proofs.Common.{◌≡◌, ℕ, zero, suc, ◌+◌, ◌*◌, min, ◌<◌, ◌≤◌, ◌%◌, ◌^◌, ◌==◌, Bool, true, false, ◌&&◌, ◌||◌, if◌then◌else◌, ltb, true≢false, IsTrue, ◌↔◌, ℤ, pos, ◌+ℤ◌, List, [], ◌∷◌, ◌++◌, length, take, get_or, unsigned_abs, refl, sym, ap, ◌∙◌, arith, add-one, inl, inr}
use Rattle.std.proofs.lemmas.Bool.{cases_lt, cond-true, cond-false, eq-eqb, ne_eqb, lt-ltb, ltb-true, false_from_ne_true}
use Rattle.std.proofs.lemmas.Int.{ints}
use Rattle.std.proofs.lemmas.List.{take_more}
use Rattle.std.proofs.lemmas.List.FromFn.{get_or-map-range_with_len, length-map-range_with_len}
use Rattle.integer_algebra.specs.Sums.{at}
use Rattle.qp_model.specs.machine.Controller.{Numbers}
use Rattle.qp_model.proofs.AbsoluteLaws.{le_times_pow}
use Rattle.c_language.specs.Syntax.Kind.{Narrow, Wide}
use Rattle.c_program.specs.Of.{kind_for, are_multiples, shared_bits, are_negated, are_opposed, first_opposed, partner, is_first, is_second, any_below}
use Rattle.c_writer.specs.Terms.{partners_of}

pub one_more : {X : Type 0} (xs : List X) (j : ℕ) (d x : X) (old new : List X) → j < length xs → old ≡ take j xs → x ≡ get_or xs j d → new ≡ old ++ x ∷ [] → new ≡ take (j + 1) xs
one_more xs j d x old new l h e k = k ∙ ap (λ ys. ys ++ x ∷ []) h ∙ ap (λ y. take j xs ++ y ∷ []) e ∙ sym (take_more xs j d l)

-- ---- opposite rows
pub length-partners : (c : Numbers) → length (partners_of c) ≡ length c.bounds
length-partners c = length-map-range_with_len (partner c) 0 (length c.bounds)

pub partner_at : (c : Numbers) (i d : ℕ) → i < length c.bounds → get_or (partners_of c) i d ≡ partner c i
partner_at c i d l = get_or-map-range_with_len (partner c) 0 (length c.bounds) i i d l (omega arith)

pub opposed_none : (c : Numbers) (i : ℕ) → 0 ≡ first_opposed c i 0
opposed_none c i = refl

pub opposed_suc : (c : Numbers) (i n k : ℕ) → k ≡ first_opposed c i (suc n) → k ≡ first_opposed c i (n + 1)
opposed_suc c i n k h = h ∙ ap (first_opposed c i) (sym (add-one n))

pub opposed_all : (c : Numbers) (i n k : ℕ) → k ≡ first_opposed c i n → n ≡ length c.bounds → k ≡ partner c i
unfolding partner
opposed_all c i n k h e = h ∙ ap (first_opposed c i) e

pub opposed_before : (c : Numbers) (i n k : ℕ) → k ≡ first_opposed c i n → k < n → k ≡ first_opposed c i (suc n)
opposed_before c i n k h l = h ∙ sym (cond-true (ltb (first_opposed c i n) n) _ _ (lt-ltb (first_opposed c i n) n (omega (arith, h, l))))

pub opposed_here : (c : Numbers) (i n k : ℕ) (b : Bool) → k ≡ first_opposed c i n → (k < n → ⊥) → b ≡ are_opposed c n i → (if b then n else suc n) ≡ first_opposed c i (suc n)
opposed_here c i n k b h l e =
    ap (λ (x : Bool). if x then n else suc n) e ∙ sym (cond-false (ltb (first_opposed c i n) n) _ _ (false_from_ne_true (ltb (first_opposed c i n) n) (λ t. l (omega (arith, h, ltb-true (first_opposed c i n) n t)))))

-- which rows are the first of a pair, and which are the second, as the numbers of their partners tell
pub first_when : (c : Numbers) (i k l : ℕ) (r : Bool) → k ≡ partner c i → l ≡ partner c k → k < length c.bounds → r ≡ (ltb i k && (l == i)) → r ≡ is_first c i
unfolding is_first
first_when c i k l r e f h same =
    let m = length c.bounds in
    same ∙ middle (ltb i k) (ltb k m) (l == i) (lt-ltb k m h) ∙ ap (λ (n : ℕ). ltb i k && ltb k m && (n == i)) f ∙
    ap (λ (n : ℕ). ltb i n && ltb n m && (partner c n == i)) e
  where
    middle : (a b d : Bool) → b ≡ true → (a && d) ≡ (a && b && d)
    middle true true d h = refl
    middle true false d h = absurd (true≢false (sym h))
    middle false b d h = refl

pub first_never : (c : Numbers) (i k : ℕ) → k ≡ partner c i → (k < length c.bounds → ⊥) → false ≡ is_first c i
unfolding is_first
first_never c i k e h =
    let m = length c.bounds in
    none (ltb i k) (ltb k m) (partner c k == i) (false_from_ne_true (ltb k m) (λ t. h (ltb-true k m t))) ∙ ap (λ (n : ℕ). ltb i n && ltb n m && (partner c n == i)) e
  where
    none : (a b d : Bool) → b ≡ false → false ≡ (a && b && d)
    none true true d h = absurd (true≢false h)
    none true false d h = refl
    none false b d h = refl

pub second_when : (c : Numbers) (i k l : ℕ) (r : Bool) → k ≡ partner c i → l ≡ partner c k → k < i → r ≡ (l == i) → r ≡ is_second c i
unfolding is_second
second_when c i k l r e f h same =
    same ∙ ap (λ (b : Bool). b && (l == i)) (sym (lt-ltb k i h)) ∙ ap (λ (n : ℕ). ltb k i && (n == i)) f ∙ ap (λ (n : ℕ). ltb n i && (partner c n == i)) e

pub second_never : (c : Numbers) (i k : ℕ) → k ≡ partner c i → (k < i → ⊥) → false ≡ is_second c i
unfolding is_second
second_never c i k e h =
    ap (λ (b : Bool). b && (partner c k == i)) (sym (false_from_ne_true (ltb k i) (λ t. h (ltb-true k i t)))) ∙ ap (λ (n : ℕ). ltb n i && (partner c n == i)) e

pub negated_more : (f g : ℕ → ℤ) (j : ℕ) (old new b : Bool) → old ≡ are_negated f g j → (IsTrue b ↔ (f j +ℤ g j ≡ pos 0)) → new ≡ (old && b) → new ≡ are_negated f g (j + 1)
negated_more f g j old new b h e k =
    k ∙ ap (λ (x : Bool). x && b) h ∙ ap (λ (y : Bool). are_negated f g j && y) (told b (f j +ℤ g j) e) ∙ ap (are_negated f g) (sym (add-one j))
  where
    told : (b : Bool) (z : ℤ) → (IsTrue b ↔ (z ≡ pos 0)) → b ≡ (unsigned_abs z == 0)
    told true z h = sym (eq-eqb (unsigned_abs z) 0 (ap unsigned_abs (h.0 refl)))
    told false z h = sym (ne_eqb (unsigned_abs z) 0 (λ e. true≢false (sym (h.1 (zero_of z e)))))
      where
        zero_of : (z : ℤ) → unsigned_abs z ≡ 0 → z ≡ pos 0
        zero_of z h = omega (arith, ints, h)

pub negated_same : (xs ys us vs : List ℤ) (n : ℕ) (b : Bool) → xs ≡ us → ys ≡ vs → length xs ≡ n → b ≡ are_negated (at xs) (at ys) (length xs) → b ≡ are_negated (at us) (at vs) n
negated_same xs ys us vs n b e k l h =
    h ∙ ap (λ (m : ℕ). are_negated (at xs) (at ys) m) l ∙ ap (λ (zs : List ℤ). are_negated (at zs) (at ys) n) e ∙ ap (λ (zs : List ℤ). are_negated (at us) (at zs) n) k

pub three : (r s a b d e f g : Bool) → r ≡ (s && d) → s ≡ (a && b) → a ≡ e → b ≡ f → d ≡ g → r ≡ (e && f && g)
three r s a b d e f g h k l m n = h ∙ ap (λ (x : Bool). x && d) (k ∙ ap (λ (x : Bool). x && b) l ∙ ap (λ (x : Bool). e && x) m) ∙ ap (λ (x : Bool). (e && f) && x) n

-- ---- the power of two that a row's factors share
pub multiples_none : (row : List ℤ) (k : ℕ) → true ≡ are_multiples row k 0
unfolding are_multiples
multiples_none row k = refl

pub multiples_more : (row : List ℤ) (k j : ℕ) (old new b : Bool) → old ≡ are_multiples row k j → b ≡ (unsigned_abs (at row j) % 2 ^ k == 0) → new ≡ (old && b) → new ≡ are_multiples row k (j + 1)
unfolding are_multiples
multiples_more row k j old new b h e r =
    r ∙ ap (λ (x : Bool). x && b) h ∙ ap (λ (y : Bool). are_multiples row k j && y) e ∙ ap (are_multiples row k) (sym (add-one j))

pub bits_none : (row : List ℤ) (n : ℕ) → 0 ≡ shared_bits row n 0
unfolding shared_bits
bits_none row n = refl

pub bits_more : (row : List ℤ) (n k old new : ℕ) → old ≡ shared_bits row n k → new ≡ (if are_multiples row (k + 1) n then k + 1 else old) → new ≡ shared_bits row n (k + 1)
unfolding shared_bits
bits_more row n k old new h e =
    e ∙ ap (λ (m : ℕ). if are_multiples row m n then m else old) (add-one k) ∙ ap (λ (b : ℕ). if are_multiples row (suc k) n then suc k else b) h ∙ ap (shared_bits row n) (sym (add-one k))

-- a type for 32 bits holds no number above them, however great
pub kind_capped : (n k : ℕ) → kind_for (min n (2 ^ 31) * 2 ^ k) ≡ kind_for (n * 2 ^ k)
kind_capped n k = elim (cases_lt n (2 ^ 31)) [
  | inl l ↦ (let e : min n (2 ^ 31) ≡ n = omega (arith, l) in ap (λ (m : ℕ). kind_for (m * 2 ^ k)) e)
  | inr l ↦ (let e : min n (2 ^ 31) ≡ 2 ^ 31 = omega (arith, l) in
      wide (min n (2 ^ 31) * 2 ^ k) (omega (arith, ap (λ (m : ℕ). m * 2 ^ k) e, le_times_pow (2 ^ 31) k)) ∙ sym (wide (n * 2 ^ k) (omega (arith, l, le_times_pow n k))))
]
  where
    wide : (m : ℕ) → 2 ^ 31 ≤ m → kind_for m ≡ Wide
    wide m h = cond-false (ltb m (2 ^ 31)) Narrow Wide (false_from_ne_true (ltb m (2 ^ 31)) (λ t. absurd (omega (arith, h, ltb-true m (2 ^ 31) t))))

-- what is read, whatever stands for a number outside the list
pub at_any : (xs : List ℤ) (i : ℕ) (x : ℤ) → i < length xs → x ≡ get_or xs i x → x ≡ at xs i
at_any [] i x l e = absurd (omega (arith, l))
at_any (y ∷ ys) zero x l e = e
at_any (y ∷ ys) (suc i) x l e = at_any ys i x (omega (arith, l)) e

-- ---- one of many
pub any_none : (f : ℕ → Bool) → false ≡ any_below f 0
unfolding any_below
any_none f = refl

pub any_more : (f : ℕ → Bool) (j : ℕ) (old b new : Bool) → old ≡ any_below f j → b ≡ f j → new ≡ (old || b) → new ≡ any_below f (j + 1)
unfolding any_below
any_more f j old b new h e k = k ∙ ap (λ (x : Bool). x || b) h ∙ ap (λ (y : Bool). any_below f j || y) e ∙ ap (any_below f) (sym (add-one j))
