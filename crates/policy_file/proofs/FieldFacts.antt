-- A field's parts, found from its front.
use Rattle.std.proofs.Common.{◌≡◌, ◌≢◌, ℕ, suc, ◌-◌, ◌<◌, ◌≤◌, ◌^◌, Bool, true, false, ℤ, List, [], ◌∷◌, ◌++◌, length, take, drop, get_or, Option, Some, None, if◌then◌else◌, refl, sym, ap, subst, ◌∙◌, arith, inl, inr, length-append}
use Rattle.std.specs.Prelude.{All, IfSome, pos, neg_ℤ}
use Rattle.std.specs.Int.{IsInRange}
use Rattle.std.specs.Option.{SomeIff}
use Rattle.std.specs.Str.{IsUtf8}
use Rattle.std.specs.Str.Parse.{AllDigits, digits_value}
use Rattle.std.proofs.lemmas.Bool.{cases_lt, cases_eq}
use Rattle.std.proofs.lemmas.List.{get_or_append_left, get_or-append-add, get_or_default, get_or-take, length-take, take_at, drop_at, get_or_past, take-append-drop}
use Rattle.std.proofs.lemmas.Str.{IsUtf8-from_ascii, digit_value_digit}
use Rattle.std.proofs.lemmas.Str.Parse.{digit_at}
use Rattle.policy_file.specs.NumberField.{IsSpace, IsDigitsField, IsNumberField}

-- where a part ends whose elements pass, and the next one doesn't, there the first stands that doesn't
pub stops : (P : ℕ → Type 0) (part rest : List ℕ) (i : ℕ) → All P part → (0 < length rest → P (get_or rest 0 0) → ⊥) →
    i ≤ length (part ++ rest) → ((k : ℕ) → k < i → P (get_or (part ++ rest) k 0)) → (i < length (part ++ rest) → P (get_or (part ++ rest) i 0) → ⊥) → i ≡ length part
stops P part rest i all first within before end = elim (cases_lt i (length part)) [
  | inl l ↦ absurd (end (omega (arith, length-append part rest)) (rw (get_or_append_left part rest 0 i l) (all i 0 l)))
  | inr l ↦ elim (cases_eq i (length part)) [
    | inl e ↦ e
    | inr n ↦ absurd (first (omega (arith, length-append part rest)) (passed (omega arith)))
  ]
]
  where
    passed : length part < i → P (get_or rest 0 0)
    passed h = subst P (ap (λ (k : ℕ). get_or (part ++ rest) k 0) (omega arith) ∙ get_or-append-add part rest 0 0) (before (length part) h)

-- digits are text
pub digits_text : (ds : List ℕ) → AllDigits 10 ds → IsUtf8 ds
digits_text ds d = IsUtf8-from_ascii ds (λ i. elim (cases_lt i (length ds)) [
  | inl l ↦ (let r = digit_at ds i d l in omega (arith, r))
  | inr l ↦ rw (get_or_past ds i 0 l) (omega arith)
])

pub all_digits : (bs : List ℕ) → ((k : ℕ) → k < length bs → IsInRange 48 57 (get_or bs k 0)) → AllDigits 10 bs
all_digits [] h = tt
all_digits (c ∷ cs) h = (omega (arith, digit_value_digit c (h 0 (omega arith)), h 0 (omega arith)), all_digits cs (λ k l. h (suc k) (omega arith)))

pub each_digit : (ds : List ℕ) → AllDigits 10 ds → All (IsInRange 48 57) ds
each_digit ds d i e l = rw (get_or_default ds i e 0 l) (digit_at ds i d l)

pub first_digit : (text : List ℕ) (n : ℕ) → IsDigitsField text n → IsInRange 48 57 (get_or text 0 0)
first_digit text n r = rw (r.split, get_or_append_left r.digits r.after 0 0 r.some) (digit_at r.digits 0 r.each r.some)

-- ---- digits, and spaces after them
pub digits_end : (text : List ℕ) (n count : ℕ) (r : IsDigitsField text n) → count ≤ length text →
    ((k : ℕ) → k < count → IsInRange 48 57 (get_or text k 0)) → (count < length text → IsInRange 48 57 (get_or text count 0) → ⊥) → count ≡ length r.digits
digits_end text n count r within before end = stops (IsInRange 48 57) r.digits r.after count (each_digit r.digits r.each) spaces
    (rw (← r.split) within) (rw (← r.split) before) (rw (← r.split) end)
  where
    spaces : 0 < length r.after → IsInRange 48 57 (get_or r.after 0 0) → ⊥
    spaces l h = let s = r.spaces 0 0 l in omega (arith, h, s)

pub digits_cut : (text : List ℕ) (n count : ℕ) (r : IsDigitsField text n) → count ≡ length r.digits → (take count text ≡ r.digits) × (drop count text ≡ r.after)
digits_cut text n count r e = rw (r.split) (take_at r.digits r.after count (sym e), drop_at r.digits r.after count (sym e))

-- spaces have no end but their last
pub spaces_end : (text rest : List ℕ) (n count s : ℕ) (r : IsDigitsField text n) → count ≡ length r.digits → rest ≡ drop count text → (s < length rest → get_or rest s 0 ≢ 32) → length rest ≤ s
spaces_end text rest n count s r e f end = elim (cases_lt s (length rest)) [ inl l ↦ absurd (end l (rw (f ∙ (digits_cut text n count r e).1) (r.spaces s 0 (rw (f ∙ (digits_cut text n count r e).1) at l)))) | inr l ↦ l ]

pub cut_digits : (text : List ℕ) (count : ℕ) → count ≤ length text → ((k : ℕ) → k < count → IsInRange 48 57 (get_or text k 0)) → AllDigits 10 (take count text)
cut_digits text count within digits = all_digits (take count text) (λ k l.
    let m : k < count = omega (arith, length-take count text) in rw (get_or-take count text k 0 m) (digits k m))

-- what was cut is such a field
pub digits_found : (text rest : List ℕ) (count s n : ℕ) → rest ≡ drop count text → count ≤ length text → count ≤ 19 → ((k : ℕ) → k < count → IsInRange 48 57 (get_or text k 0)) →
    length rest ≤ s → ((k : ℕ) → k < s → get_or rest k 0 ≡ 32) →
    1 ≤ length (take count text) → digits_value 10 (take count text) ≤ 2 ^ 63 - 1 → n ≡ digits_value 10 (take count text) → IsDigitsField text n
digits_found text rest count s n f within few digits over spaces some small e = record {
  digits = take count text;
  after = rest;
  split = rw f (sym (take-append-drop count text));
  spaces = λ i d l. rw (get_or_default rest i d 0 l) (spaces i (omega arith));
  some = some;
  few = omega (arith, length-take count text);
  each = cut_digits text count within digits;
  value = e;
  small = omega arith;
}

-- ---- spaces, and a sign before the digits
abbrev pub signed_text : Bool → List ℕ → List ℕ
signed_text minus text = if minus then 45 ∷ text else text

pub no_space : (minus : Bool) (text : List ℕ) (n : ℕ) → IsDigitsField text n → get_or (signed_text minus text) 0 0 ≡ 32 → ⊥
no_space true text n r e = omega arith
no_space false text n r e = omega (arith, first_digit text n r)

pub spaces_stop : (field : List ℕ) (z : ℤ) (start : ℕ) (r : IsNumberField field z) → start ≤ length field →
    ((k : ℕ) → k < start → get_or field k 0 ≡ 32) → (start < length field → get_or field start 0 ≢ 32) → drop start field ≡ signed_text r.minus r.text
spaces_stop field z start r within before end = rw r.split (drop_at r.before (signed_text r.minus r.text) start (sym here))
  where
    here : start ≡ length r.before
    here = stops IsSpace r.before (signed_text r.minus r.text) start r.spaces (λ l. no_space r.minus r.text r.size r.digits)
        (rw (← r.split) within) (rw (← r.split) before) (rw (← r.split) end)

pub same_sign : (m k : Bool) (t u : List ℕ) (n : ℕ) → IsDigitsField t n → signed_text m t ≡ signed_text k u → (k ≡ false → get_or (signed_text m t) 0 0 ≢ 45) → (m ≡ k) × (t ≡ u)
same_sign true true t u n r e plain = (refl, cc)
same_sign true false t u n r e plain = absurd (plain refl refl)
same_sign false true t u n r e plain = absurd (omega (arith, first_digit t n r, ap (λ (x : List ℕ). get_or x 0 0) e))
same_sign false false t u n r e plain = (refl, e)

-- ---- what a value of digits says of the field
pub found_some : (text rest : List ℕ) (count s : ℕ) (o : Option ℕ) → rest ≡ drop count text → count ≤ length text → count ≤ 19 → ((k : ℕ) → k < count → IsInRange 48 57 (get_or text k 0)) →
    length rest ≤ s → ((k : ℕ) → k < s → get_or rest k 0 ≡ 32) →
    SomeIff o ((1 ≤ length (take count text)) × (digits_value 10 (take count text) ≤ 2 ^ 63 - 1)) (digits_value 10 (take count text)) → IfSome o (IsDigitsField text)
found_some text rest count s None f within few digits over spaces v = tt
found_some text rest count s (Some n) f within few digits over spaces v = digits_found text rest count s n f within few digits over spaces v.0.0 v.0.1 v.1

valued : (ds : List ℕ) (n : ℕ) (o : Option ℕ) → 1 ≤ length ds → n ≤ 2 ^ 63 - 1 → n ≡ digits_value 10 ds →
    SomeIff o ((1 ≤ length ds) × (digits_value 10 ds ≤ 2 ^ 63 - 1)) (digits_value 10 ds) → o ≡ Some n
valued ds n None some small e v = absurd (v (some, omega arith))
valued ds n (Some m) some small e v = ap Some (v.1 ∙ sym e)

pub only_some : (text : List ℕ) (n count : ℕ) (o : Option ℕ) (r : IsDigitsField text n) → count ≡ length r.digits →
    SomeIff o ((1 ≤ length (take count text)) × (digits_value 10 (take count text) ≤ 2 ^ 63 - 1)) (digits_value 10 (take count text)) → o ≡ Some n
only_some text n count o r e v = valued r.digits n o r.some r.small r.value (rw ((digits_cut text n count r e).0) at v)

-- ---- the whole field
pub number_found : (field text : List ℕ) (start size : ℕ) (minus : Bool) (z : ℤ) → start ≤ length field → ((k : ℕ) → k < start → get_or field k 0 ≡ 32) →
    drop start field ≡ signed_text minus text → IsDigitsField text size → z ≡ (if minus then neg_ℤ (pos size) else pos size) → IsNumberField field z
number_found field text start size minus z within spaces split digits e = record {
  before = take start field;
  minus = minus;
  text = text;
  size = size;
  split = rw (← split) (sym (take-append-drop start field));
  spaces = λ i d l. (let m : i < start = omega (arith, length-take start field) in rw (get_or_default (take start field) i d 0 l, get_or-take start field i 0 m) (spaces i m));
  digits = digits;
  value = e;
}

-- what stands behind the sign that was found is the field's digits
pub number_part : (field rest text : List ℕ) (start : ℕ) (minus : Bool) (z : ℤ) (r : IsNumberField field z) → rest ≡ drop start field → start ≤ length field →
    ((k : ℕ) → k < start → get_or field k 0 ≡ 32) → (start < length field → get_or field start 0 ≢ 32) → rest ≡ signed_text minus text →
    (minus ≡ false → get_or rest 0 0 ≢ 45) → (r.minus ≡ minus) × (r.text ≡ text)
number_part field rest text start minus z r f within before end split plain =
    let here = spaces_stop field z start r within before end in
    same_sign r.minus minus r.text text r.size r.digits (sym here ∙ sym f ∙ split) (rw (← here, ← f) plain)
