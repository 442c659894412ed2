-- What is not needed can be left out: where the needed statements read only needed variables, the needed part is defined where the whole is, and its variables hold the same.
use Rattle.std.proofs.Common.{◌≡◌, ℕ, zero, suc, ◌<◌, ◌≤◌, ◌^◌, ◌==◌, ◌&&◌, Bool, true, false, if◌then◌else◌, ℤ, pos, ◌+ℤ◌, ◌-ℤ◌, ◌*ℤ◌, ◌≤ℤ◌, ◌<ℤ◌, List, [], ◌∷◌, ◌++◌, map, unsigned_abs, refl, sym, ap, subst, ◌∙◌, arith, inl, inr}
use Rattle.std.specs.Int.{int_max, int_min}
use Rattle.std.specs.Prelude.{int_div, int_rem}
use Rattle.std.proofs.lemmas.Bool.{cases_Bool, and_parts, eqb-true, cond-true, cond-false, cond_both, both_ways}
use Rattle.integer_algebra.specs.Division.{floor_of}
use Rattle.qp_model.specs.machine.ValuesMet.{FitsWidth}
use Rattle.c_language.specs.Syntax.{Family, Variable, letter_of, Kind, bits_of, Expression, Statement, groups, CProgram}
use Rattle.c_language.specs.Syntax.Family.{State, Loaded, EntryBase, RowBase, Multiplier, Difference, Entry, Gradient, RowSum, Moved, Sum, Output, Own, Reached, Weight, Divisor, Shift, Power, Doubling, Reciprocal, Numerator, Head, Rest, MultiplierHigh, MultiplierLow, EntryHigh, EntryLow, EntryBaseHigh, RowBaseHigh, GradientHigh}
use Rattle.c_language.specs.Syntax.Expression.{Constant, Value, Plus, Minus, Times, Quotient, Remainder, Over, Shifted, ShiftedBy}
use Rattle.c_language.specs.Syntax.Statement.{Declare, Assign, AtLeastZero, AtMost}
use Rattle.c_language.specs.Meaning.{Environment, held, with_value, value, IsDefined, new_value, variable_of, done, HasOperands, IsDone, all_done, AreDone, repeated, begun, after_rounds, IsDefinedRun}
use Rattle.c_language.specs.Needed.{left_in, needed_part}
use Rattle.c_language.proofs.Reading.{family_of}
use Rattle.c_language.proofs.Runs.{groups_none, groups_more}

-- ---- variables
-- the needed ones hold the same
abbrev pub Agree : (Variable → Bool) → (e d : Environment) → Type 0
Agree needed e d = (v : Variable) → needed v ≡ true → held e v ≡ held d v

abbrev family_at : ℕ → Family
family_at c = if c == 0 then State else (if c == 1 then Output else family_of c)

family_back : (f : Family) → family_at (letter_of f) ≡ f
family_back State = refl
family_back Loaded = refl
family_back EntryBase = refl
family_back RowBase = refl
family_back Multiplier = refl
family_back Difference = refl
family_back Entry = refl
family_back Gradient = refl
family_back RowSum = refl
family_back Moved = refl
family_back Sum = refl
family_back Output = refl
family_back Own = refl
family_back Reached = refl
family_back Weight = refl
family_back Divisor = refl
family_back Shift = refl
family_back Power = refl
family_back Doubling = refl
family_back Reciprocal = refl
family_back Numerator = refl
family_back Head = refl
family_back Rest = refl
family_back MultiplierHigh = refl
family_back MultiplierLow = refl
family_back EntryHigh = refl
family_back EntryLow = refl
family_back EntryBaseHigh = refl
family_back RowBaseHigh = refl
family_back GradientHigh = refl

one_family : (f g : Family) → letter_of f ≡ letter_of g → f ≡ g
one_family f g e = sym (family_back f) ∙ ap family_at e ∙ family_back g

one_variable : (v w : Variable) → ((letter_of v.family == letter_of w.family) && (v.number == w.number)) ≡ true → v ≡ w
one_variable v w h =
    let parts = and_parts (letter_of v.family == letter_of w.family) (v.number == w.number) h in
    let family = one_family v.family w.family (eqb-true (letter_of v.family) (letter_of w.family) parts.0) in
    let number = eqb-true v.number w.number parts.1 in
    (λ i. record { family = family i; number = number i })

agree_both : (needed : Variable → Bool) (e d : Environment) (v : Variable) (z y : ℤ) → Agree needed e d → z ≡ y → Agree needed (with_value e v z) (with_value d v y)
agree_both needed e d v z y h same w n = (λ i. if (letter_of v.family == letter_of w.family) && (v.number == w.number) then same i else h w n i)

agree_left_out : (needed : Variable → Bool) (e d : Environment) (v : Variable) (z : ℤ) → Agree needed e d → needed v ≡ false → Agree needed (with_value e v z) d
agree_left_out needed e d v z h f w n = elim (cases_Bool ((letter_of v.family == letter_of w.family) && (v.number == w.number))) [
  | inl t ↦ absurd (both_ways (needed w) (subst (λ (u : Variable). needed u ≡ false) (one_variable v w t) f) n)
  | inr g ↦ cond-false ((letter_of v.family == letter_of w.family) && (v.number == w.number)) z (held e w) g ∙ h w n
]

-- ---- expressions
abbrev pub ReadsNeeded : (Variable → Bool) → Expression → Type 0
ReadsNeeded needed (Constant z) = Unit {0}
ReadsNeeded needed (Value v) = needed v ≡ true
ReadsNeeded needed (Plus a b) = ReadsNeeded needed a × ReadsNeeded needed b
ReadsNeeded needed (Minus a b) = ReadsNeeded needed a × ReadsNeeded needed b
ReadsNeeded needed (Times a b) = ReadsNeeded needed a × ReadsNeeded needed b
ReadsNeeded needed (Quotient a k) = ReadsNeeded needed a
ReadsNeeded needed (Remainder a k) = ReadsNeeded needed a
ReadsNeeded needed (Over a v) = ReadsNeeded needed a × (needed v ≡ true)
ReadsNeeded needed (Shifted a k) = ReadsNeeded needed a
ReadsNeeded needed (ShiftedBy a v) = ReadsNeeded needed a × (needed v ≡ true)

same_value : (needed : Variable → Bool) (e d : Environment) → Agree needed e d → (a : Expression) → ReadsNeeded needed a → value e a ≡ value d a
same_value needed e d h (Constant z) n = refl
same_value needed e d h (Value v) n = h v n
same_value needed e d h (Plus a b) n = let f = same_value needed e d h a n.0 in let g = same_value needed e d h b n.1 in (λ i. f i +ℤ g i)
same_value needed e d h (Minus a b) n = let f = same_value needed e d h a n.0 in let g = same_value needed e d h b n.1 in (λ i. f i -ℤ g i)
same_value needed e d h (Times a b) n = let f = same_value needed e d h a n.0 in let g = same_value needed e d h b n.1 in (λ i. f i *ℤ g i)
same_value needed e d h (Quotient a k) n = ap (λ (z : ℤ). int_div z (pos k)) (same_value needed e d h a n)
same_value needed e d h (Remainder a k) n = ap (λ (z : ℤ). int_rem z (pos k)) (same_value needed e d h a n)
same_value needed e d h (Over a v) n = let f = same_value needed e d h a n.0 in let g = h v n.1 in (λ i. int_div (f i) (g i))
same_value needed e d h (Shifted a k) n = ap (λ (z : ℤ). floor_of z (2 ^ k)) (same_value needed e d h a n)
same_value needed e d h (ShiftedBy a v) n = let f = same_value needed e d h a n.0 in let g = h v n.1 in (λ i. floor_of (f i) (2 ^ unsigned_abs (g i)))

same_defined : (needed : Variable → Bool) (e d : Environment) → Agree needed e d → (a : Expression) → ReadsNeeded needed a → IsDefined e a → IsDefined d a
same_defined needed e d h (Constant z) n p = p
same_defined needed e d h (Value v) n p = subst (FitsWidth 64) (h v n) p
same_defined needed e d h (Plus a b) n p =
    (same_defined needed e d h a n.0 p.0, same_defined needed e d h b n.1 p.1, subst (FitsWidth 64) (same_value needed e d h (Plus a b) n) p.2)
same_defined needed e d h (Minus a b) n p =
    (same_defined needed e d h a n.0 p.0, same_defined needed e d h b n.1 p.1, subst (FitsWidth 64) (same_value needed e d h (Minus a b) n) p.2)
same_defined needed e d h (Times a b) n p =
    (same_defined needed e d h a n.0 p.0, same_defined needed e d h b n.1 p.1, subst (FitsWidth 64) (same_value needed e d h (Times a b) n) p.2)
same_defined needed e d h (Quotient a k) n p = (same_defined needed e d h a n p.0, p.1, p.2)
same_defined needed e d h (Remainder a k) n p = (same_defined needed e d h a n p.0, p.1, p.2)
same_defined needed e d h (Over a v) n p = (same_defined needed e d h a n.0 p.0, subst (FitsWidth 64) (h v n.1) p.1, subst (λ (z : ℤ). pos 0 <ℤ z) (h v n.1) p.2)
same_defined needed e d h (Shifted a k) n p = (same_defined needed e d h a n p.0, p.1)
same_defined needed e d h (ShiftedBy a v) n p =
    (same_defined needed e d h a n.0 p.0, subst (λ (z : ℤ). pos 0 ≤ℤ z) (h v n.1) p.1, subst (λ (z : ℤ). z <ℤ pos 64) (h v n.1) p.2)

-- ---- statements
abbrev pub OperandsNeeded : (Variable → Bool) → Statement → Type 0
OperandsNeeded needed (Declare v a) = ReadsNeeded needed a
OperandsNeeded needed (Assign v a) = ReadsNeeded needed a
OperandsNeeded needed (AtLeastZero v) = needed v ≡ true
OperandsNeeded needed (AtMost v top) = needed v ≡ true

same_new : (needed : Variable → Bool) (e d : Environment) → Agree needed e d → (s : Statement) → OperandsNeeded needed s → new_value e s ≡ new_value d s
same_new needed e d h (Declare v a) n = same_value needed e d h a n
same_new needed e d h (Assign v a) n = same_value needed e d h a n
same_new needed e d h (AtLeastZero v) n = ap (λ (z : ℤ). int_max z (pos 0)) (h v n)
same_new needed e d h (AtMost v top) n = ap (λ (z : ℤ). int_min top z) (h v n)

same_operands : (needed : Variable → Bool) (e d : Environment) → Agree needed e d → (s : Statement) → OperandsNeeded needed s → HasOperands e s → HasOperands d s
same_operands needed e d h (Declare v a) n p = same_defined needed e d h a n p
same_operands needed e d h (Assign v a) n p = same_defined needed e d h a n p
same_operands needed e d h (AtLeastZero v) n p = p
same_operands needed e d h (AtMost v top) n p = p

same_done : (kind : Variable → Kind) (needed : Variable → Bool) (e d : Environment) → Agree needed e d → (s : Statement) → OperandsNeeded needed s → IsDone kind e s → IsDone kind d s
same_done kind needed e d h s n p = record {
  operands = same_operands needed e d h s n p.operands;
  fits = subst (FitsWidth (bits_of (kind (variable_of s)))) (same_new needed e d h s n) p.fits;
}

-- ---- many statements
-- those that are needed read only what is
abbrev pub AreClosed : (Variable → Bool) → List Statement → Type 0
AreClosed needed [] = Unit {0}
AreClosed needed (s ∷ ss) = (needed (variable_of s) ≡ true → OperandsNeeded needed s) × AreClosed needed ss

record IsPart (kind : Variable → Kind) (needed : Variable → Bool) (all part : List Statement) (e d : Environment) : Type 0 where
  defined : AreDone kind d part
  agree : Agree needed (all_done e all) (all_done d part)

part_runs : (kind : Variable → Kind) (needed : Variable → Bool) (ss : List Statement) (e d : Environment) → AreClosed needed ss → Agree needed e d → AreDone kind e ss →
    IsPart kind needed ss (left_in needed ss) e d
unfolding all_done AreDone
part_runs kind needed [] e d c h p = record { defined = tt; agree = h }
part_runs kind needed (s ∷ ss) e d c h p =
    cond_both (needed (variable_of s)) (s ∷ left_in needed ss) (left_in needed ss) (λ part. IsPart kind needed (s ∷ ss) part e d)
    (λ t.
    let n = c.0 t in
    let rest = part_runs kind needed ss (done e s) (done d s) c.1 (agree_both needed e d (variable_of s) (new_value e s) (new_value d s) h (same_new needed e d h s n)) p.1 in
    record { defined = (same_done kind needed e d h s n p.0, rest.defined); agree = rest.agree })
    (λ f.
    let rest = part_runs kind needed ss (done e s) d c.1 (agree_left_out needed e d (variable_of s) (new_value e s) h f) p.1 in
    record { defined = rest.defined; agree = rest.agree })

repeated_agree : (kind : Variable → Kind) (needed : Variable → Bool) (body : List Statement) (e d : Environment) (n : ℕ) → AreClosed needed body → Agree needed e d →
    ((k : ℕ) → k < n → AreDone kind (repeated e body k) body) → (k : ℕ) → k ≤ n → Agree needed (repeated e body k) (repeated d (left_in needed body) k)
unfolding repeated
repeated_agree kind needed body e d n c h p zero l = h
repeated_agree kind needed body e d n c h p (suc k) l =
    (part_runs kind needed body (repeated e body k) (repeated d (left_in needed body) k) c (repeated_agree kind needed body e d n c h p k (omega (arith, l))) (p k (omega (arith, l)))).agree

-- ---- programs
pub record IsClosed (needed : Variable → Bool) (p : CProgram) : Type 0 where
  pub before : AreClosed needed p.before
  pub body : AreClosed needed p.body

begun_part : (needed : Variable → Bool) (p : CProgram) (state : List ℤ) → IsClosed needed p → IsDefinedRun p state →
    IsPart p.kind needed p.before (left_in needed p.before) (begun state) (begun state)
begun_part needed p state c r = part_runs p.kind needed p.before (begun state) (begun state) c.before (λ v n. refl) r.before

pub rounds_agree : (needed : Variable → Bool) (p : CProgram) (state : List ℤ) → IsClosed needed p → IsDefinedRun p state → (k : ℕ) → k ≤ p.repetitions →
    Agree needed (after_rounds p state k) (after_rounds (needed_part needed p) state k)
rounds_agree needed p state c r k l =
    repeated_agree p.kind needed p.body (all_done (begun state) p.before) (all_done (begun state) (left_in needed p.before)) p.repetitions c.body (begun_part needed p state c r).agree r.body k l

pub part_defined : (needed : Variable → Bool) (p : CProgram) (state : List ℤ) → IsClosed needed p → IsDefinedRun p state → IsDefinedRun (needed_part needed p) state
part_defined needed p state c r = record {
  before = (begun_part needed p state c r).defined;
  body = λ k l. (part_runs p.kind needed p.body (after_rounds p state k) (after_rounds (needed_part needed p) state k) c.body (rounds_agree needed p state c r k (omega (arith, l))) (r.body k l)).defined;
}

abbrev pub AreNeeded : (Variable → Bool) → List Variable → Type 0
AreNeeded needed [] = Unit {0}
AreNeeded needed (v ∷ vs) = (needed v ≡ true) × AreNeeded needed vs

pub outputs_agree : (needed : Variable → Bool) (e d : Environment) (vs : List Variable) → Agree needed e d → AreNeeded needed vs → map (held e) vs ≡ map (held d) vs
outputs_agree needed e d [] h n = refl
outputs_agree needed e d (v ∷ vs) h n = let first = h v n.0 in let rest = outputs_agree needed e d vs h n.1 in (λ i. first i ∷ rest i)

-- ---- lists and groups
pub closed_append : (needed : Variable → Bool) (xs ys : List Statement) → AreClosed needed xs → AreClosed needed ys → AreClosed needed (xs ++ ys)
closed_append needed [] ys h k = k
closed_append needed (x ∷ xs) ys h k = (h.0, closed_append needed xs ys h.1 k)

pub closed_groups : (needed : Variable → Bool) (f : ℕ → List Statement) (n : ℕ) → ((i : ℕ) → i < n → AreClosed needed (f i)) → AreClosed needed (groups f n)
closed_groups needed f zero h = subst (AreClosed needed) (sym (groups_none f)) tt
closed_groups needed f (suc n) h =
    subst (AreClosed needed) (sym (groups_more f n)) (closed_append needed (groups f n) (f n) (closed_groups needed f n (λ i l. h i (omega (arith, l)))) (h n (omega arith)))

pub left_in_append : (needed : Variable → Bool) (xs ys : List Statement) → left_in needed (xs ++ ys) ≡ left_in needed xs ++ left_in needed ys
left_in_append needed [] ys = refl
left_in_append needed (x ∷ xs) ys =
    cond_both (needed (variable_of x)) (x ∷ left_in needed xs) (left_in needed xs) (λ part. (if needed (variable_of x) then x ∷ left_in needed (xs ++ ys) else left_in needed (xs ++ ys)) ≡ part ++ left_in needed ys)
    (λ t. cond-true (needed (variable_of x)) (x ∷ left_in needed (xs ++ ys)) (left_in needed (xs ++ ys)) t ∙ ap (λ (ss : List Statement). x ∷ ss) (left_in_append needed xs ys))
    (λ f. cond-false (needed (variable_of x)) (x ∷ left_in needed (xs ++ ys)) (left_in needed (xs ++ ys)) f ∙ left_in_append needed xs ys)

-- groups of needed statements are whole
pub whole_groups : (needed : Variable → Bool) (f : ℕ → List Statement) (n : ℕ) → ((i : ℕ) → left_in needed (f i) ≡ f i) → left_in needed (groups f n) ≡ groups f n
whole_groups needed f zero h = ap (left_in needed) (groups_none f) ∙ sym (groups_none f)
whole_groups needed f (suc n) h =
    let first = whole_groups needed f n h in
    let last = h n in
    ap (left_in needed) (groups_more f n) ∙ left_in_append needed (groups f n) (f n) ∙ (λ i. first i ++ last i) ∙ sym (groups_more f n)
