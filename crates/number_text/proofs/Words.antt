-- Each number of 128 bits has one spelling.
use Rattle.std.proofs.Common.{◌≡◌, ◌≢◌, ℕ, zero, suc, ◌+◌, ◌*◌, ◌/◌, ◌%◌, ◌^◌, ◌≤◌, ◌<◌, inl, inr, true, ℤ, pos, negsuc, neg_ℤ, List, [], ◌∷◌, ◌++◌, length, get_or, take, Result, Ok, Err, map, refl}
use Rattle.std.proofs.Common.{sym, ap, subst, ◌∙◌, arith, append_assoc, FitsSigned, length-append}
use Rattle.std.specs.List.{join_with_byte}
use Rattle.std.specs.Int.{w128}
use Rattle.std.specs.Char.{digit_value}
use Rattle.std.specs.Fmt.{decimal, signed_decimal}
use Rattle.std.specs.Str.{IsAscii, IsUtf8}
use Rattle.std.specs.Str.Parse.{AllDigits, digits_value_after, digits_value, ParsesSigned}
use Rattle.std.specs.Prelude.{All, IfSome}
use Rattle.std.specs.Result.{OkIff, result_ok}
use Rattle.std.proofs.lemmas.Bool.{cases_eq, cases_lt}
use Rattle.std.proofs.lemmas.Bool.Decides.{nat_tests}
use Rattle.std.proofs.lemmas.Result.{Ok-from_Ok_iff}
use Rattle.std.proofs.lemmas.Str.{digit_value_digit, IsUtf8-from_ascii}
use Rattle.std.proofs.lemmas.Str.Parse.{numerals_by_value, tells_digits, digit_from_value, parse_signed_minus, parse_signed_plain, parse_signed_digits}
use Rattle.std.proofs.lemmas.Fmt.{decimal_digit, decimal_step_wide, decimal_by_steps_wide, decimal_is_IsNumeral_wide, IsAscii-decimal_wide}
use Rattle.std.proofs.lemmas.List.{append-nil, get_or_append_left, length-map, get_or-map, take_more, map-append, length-take}
use Rattle.std.proofs.lemmas.List.Elements.{All-append}
use Rattle.number_text.specs.Lines.{line_of}
use Rattle.number_text.specs.Spelling.{is_plain}

-- ---- the spelling of a value

le_value_after : (n : ℕ) (ds : List ℕ) → n ≤ digits_value_after 10 n ds
le_value_after n [] = omega arith
le_value_after n (c ∷ cs) = omega (arith, le_value_after (n * 10 + digit_value c) cs)

decimal_value_after : (n : ℕ) (ds : List ℕ) → 0 < n → AllDigits 10 ds → digits_value_after 10 n ds < 10 ^ 64 → decimal (digits_value_after 10 n ds) ≡ decimal n ++ ds
decimal_value_after n [] some d small = sym (append-nil (decimal n))
decimal_value_after n (c ∷ cs) some d small =
    let m : ℕ = n * 10 + digit_value c in
    let k = digit_value_digit c (digit_from_value c d.0) in
    let front : m / 10 ≡ n = omega (arith, d.0) in
    let end : 48 + m % 10 ≡ c = omega (arith, d.0) in
    decimal_value_after m cs (omega arith) d.1 small
    ∙ ap (λ x. x ++ cs) (decimal_step_wide m (omega arith) (omega (arith, le_value_after m cs)) ∙ (λ i. decimal (front i) ++ (end i ∷ [])))
    ∙ append_assoc (decimal n) (c ∷ []) cs

pub decimal_of_value : (ds : List ℕ) → AllDigits 10 ds → 0 < length ds → (get_or ds 0 0 ≡ 48 → length ds ≡ 1) → digits_value 10 ds < 10 ^ 64 → decimal (digits_value 10 ds) ≡ ds
decimal_of_value [] d some lead small = absurd (omega arith)
decimal_of_value (c ∷ []) d some lead small =
    let k = digit_value_digit c (digit_from_value c d.0) in
    decimal_digit (0 * 10 + digit_value c) (omega (arith, d.0)) ∙ ap (λ x. x ∷ []) (omega arith)
decimal_of_value (c ∷ e ∷ cs) d some lead small =
    let k = digit_value_digit c (digit_from_value c d.0) in
    let no : c ≡ 48 → ⊥ = λ z. omega (arith, lead z) in
    let is : 48 + (0 * 10 + digit_value c) ≡ c = omega arith in
    decimal_value_after (0 * 10 + digit_value c) (e ∷ cs) (omega arith) d.1 small
    ∙ ap (λ x. x ++ (e ∷ cs)) (decimal_digit (0 * 10 + digit_value c) (omega (arith, d.0)) ∙ ap (λ x. x ∷ []) is)

positive_value : (c : ℕ) (cs : List ℕ) → 49 ≤ c → AllDigits 10 (c ∷ cs) → 0 < digits_value 10 (c ∷ cs)
positive_value c cs h d =
    let k = digit_value_digit c (digit_from_value c d.0) in
    omega (arith, le_value_after (0 * 10 + digit_value c) cs)

-- ---- what is read is spelled so

minus_then : (c d : ℕ) (rest : List ℕ) → is_plain (c ∷ d ∷ rest) ≡ true → c ≡ 45 → 49 ≤ d
minus_then c d rest plain e = grind (arith, nat_tests)

digit_then : (c d : ℕ) (rest : List ℕ) → is_plain (c ∷ d ∷ rest) ≡ true → c ≢ 45 → 49 ≤ c
digit_then c d rest plain e = grind (arith, nat_tests)

spelled_negative : (n : ℕ) → 0 < n → signed_decimal (neg_ℤ (pos n)) ≡ 45 ∷ decimal n
spelled_negative zero some = absurd (omega arith)
spelled_negative (suc n) some = refl

read_at_ok : {E : Type 0} (r : Result ℤ E) (z v : ℤ) (P : Type 0) → r ≡ Ok z → OkIff r P v → P × (z ≡ v)
read_at_ok {E} r z v P e o = subst (λ (x : Result ℤ E). OkIff x P v) e o

pub found : {E : Type 0} (bs : List ℕ) (r : Result ℤ E) (z : ℤ) → is_plain bs ≡ true → ParsesSigned w128 10 bs r → r ≡ Ok z → bs ≡ signed_decimal z
found [] r z plain h e = absurd cc
found (c ∷ []) r z plain h e =
    let low : 48 ≤ c = grind (arith, nat_tests) in
    let o = read_at_ok r z _ _ e (parse_signed_plain (numerals_by_value _ tells_digits) w128 (c ∷ []) r h (omega arith) (omega arith)) in
    sym (ap signed_decimal o.1 ∙ decimal_of_value (c ∷ []) o.0.0 (omega arith) (λ _. refl) (omega (arith, o.0.2)))
found (c ∷ d ∷ rest) r z plain h e =
    elim (cases_eq c 45) [
      | inl minus ↦
          let o = read_at_ok r z _ _ e (parse_signed_minus (numerals_by_value _ tells_digits) w128 (c ∷ d ∷ rest) r h minus) in
          let first = minus_then c d rest plain minus in
          sym (ap signed_decimal o.1 ∙ spelled_negative (digits_value 10 (d ∷ rest)) (positive_value d rest first o.0.0)
          ∙ ap (λ x. 45 ∷ x) (decimal_of_value (d ∷ rest) o.0.0 (omega arith) (λ z. absurd (omega arith)) (omega (arith, o.0.2))) ∙ ap (λ x. x ∷ d ∷ rest) (sym minus))
      | inr other ↦
          let first = digit_then c d rest plain other in
          let o = read_at_ok r z _ _ e (parse_signed_plain (numerals_by_value _ tells_digits) w128 (c ∷ d ∷ rest) r h (omega arith) other) in
          sym (ap signed_decimal o.1 ∙ decimal_of_value (c ∷ d ∷ rest) o.0.0 (omega arith) (λ z. absurd (omega arith)) (omega (arith, o.0.2)))
    ]

pub found_ok : {E : Type 0} (bs : List ℕ) (r : Result ℤ E) → is_plain bs ≡ true → ParsesSigned w128 10 bs r → IfSome (result_ok r) (λ z. bs ≡ signed_decimal z)
found_ok {E} bs (Ok z) plain h = let r : Result ℤ E = Ok z in found {E = E} bs r z plain h refl
found_ok bs (Err e) plain h = tt

-- ---- what is spelled so is read

pub record IsLed (n : ℕ) (ds : List ℕ) : Type 0 where
  pub some : 0 < length ds
  pub low : 48 ≤ get_or ds 0 0
  pub high : get_or ds 0 0 ≤ 57
  pub lead : 0 < n → 48 < get_or ds 0 0
  pub lone : n < 10 → length ds ≡ 1

is_led : (n : ℕ) → n < 10 ^ 64 → IsLed n (decimal n)
is_led n small =
    decimal_by_steps_wide IsLed
    (λ m l. record { some = omega arith; low = omega arith; high = omega arith; lead = λ h. omega arith; lone = λ h. refl })
    (λ m ds l h.
    let same : get_or (ds ++ ((48 + m % 10) ∷ [])) 0 0 ≡ get_or ds 0 0 = get_or_append_left ds ((48 + m % 10) ∷ []) 0 0 h.some in
    record { some = omega (arith, length-append ds ((48 + m % 10) ∷ [])); low = omega (arith, same, h.low); high = omega (arith, same, h.high); lead = λ a. omega (arith, same, h.lead (omega arith)); lone = λ a. absurd (omega arith) })
    n small

plain_led : (n : ℕ) (ds : List ℕ) → IsLed n ds → is_plain ds ≡ true
plain_led n [] h = absurd (omega (arith, h.some))
plain_led n (c ∷ []) h = let low = h.low in let high = h.high in grind (arith, nat_tests)
plain_led n (c ∷ d ∷ rest) h =
    let big : 10 ≤ n = elim (cases_lt n 10) [ inl lt ↦ absurd (omega (arith, h.lone lt)) | inr le ↦ le ] in
    let low : 49 ≤ c = omega (arith, h.lead (omega arith)) in
    let high : c ≤ 57 = h.high in
    grind (arith, nat_tests)

plain_minus : (n : ℕ) (ds : List ℕ) → 0 < n → IsLed n ds → is_plain (45 ∷ ds) ≡ true
plain_minus n [] some h = absurd (omega (arith, h.some))
plain_minus n (d ∷ rest) some h =
    let low : 49 ≤ d = omega (arith, h.lead some) in
    let high : d ≤ 57 = h.high in
    grind (arith, nat_tests)

pub plain_signed : (z : ℤ) → FitsSigned w128 z → is_plain (signed_decimal z) ≡ true
plain_signed (pos n) fits = plain_led n (decimal n) (is_led n (omega (arith, fits.sfits)))
plain_signed (negsuc n) fits = plain_minus (suc n) (decimal (suc n)) (omega arith) (is_led (suc n) (omega (arith, fits.sfits)))

pub utf8_signed : (z : ℤ) → FitsSigned w128 z → IsUtf8 (signed_decimal z)
utf8_signed (pos n) fits = IsUtf8-from_ascii (decimal n) (IsAscii-decimal_wide n (omega (arith, fits.sfits)))
utf8_signed (negsuc n) fits = IsUtf8-from_ascii (45 ∷ decimal (suc n)) (λ i. ascii_minus n (omega (arith, fits.sfits)) i)
  where
    ascii_minus : (n : ℕ) → suc n < 10 ^ 64 → IsAscii (45 ∷ decimal (suc n))
    ascii_minus n small zero = omega arith
    ascii_minus n small (suc i) = IsAscii-decimal_wide (suc n) small i

pub read_signed : {E : Type 0} (z : ℤ) (bs : List ℕ) (r : Result ℤ E) → FitsSigned w128 z → bs ≡ signed_decimal z → ParsesSigned w128 10 bs r → r ≡ Ok z
read_signed (pos n) bs r fits is h =
    let k = decimal_is_IsNumeral_wide n (omega (arith, fits.sfits)) in
    let read = parse_signed_digits (numerals_by_value _ tells_digits) w128 (decimal n) r (subst (λ l. ParsesSigned w128 10 l r) is h) k.0.1 in
    Ok-from_Ok_iff r _ _ read (k.0.0, omega (arith, k.1, fits.sfits)) ∙ ap (λ m. Ok (pos m)) k.1
read_signed (negsuc n) bs r fits is h =
    let k = decimal_is_IsNumeral_wide (suc n) (omega (arith, fits.sfits)) in
    let read = parse_signed_minus (numerals_by_value _ tells_digits) w128 (45 ∷ decimal (suc n)) r (subst (λ l. ParsesSigned w128 10 l r) is h) refl in
    Ok-from_Ok_iff r _ _ read (k.0.1, k.0.0, omega (arith, k.1, fits.sfits)) ∙ ap (λ m. Ok (neg_ℤ (pos m))) k.1

-- ---- words that spell numbers, one by one

pub same_at : (ws : List (List ℕ)) (zs : List ℤ) (i : ℕ) → ws ≡ map signed_decimal zs → i < length ws → (i < length zs) × (get_or ws i [] ≡ signed_decimal (get_or zs i (pos 0)))
same_at ws zs i e lt =
    let len : length ws ≡ length zs = ap length e ∙ length-map zs signed_decimal in
    (omega (arith, len), ap (λ (l : List (List ℕ)). get_or l i []) e ∙ get_or-map signed_decimal zs i (pos 0) [] (omega (arith, len)))

-- ---- one more piece at the end of a line

pub join_with_byte-push : (c : ℕ) (xs : List (List ℕ)) (y : List ℕ) → 0 < length xs → join_with_byte c (xs ++ y ∷ []) ≡ join_with_byte c xs ++ c ∷ y
join_with_byte-push c [] y h = absurd (omega arith)
join_with_byte-push c (x ∷ []) y h = refl
join_with_byte-push c (x ∷ z ∷ xs) y h =
    ap (λ (l : List ℕ). x ++ (c ∷ l)) (join_with_byte-push c (z ∷ xs) y (omega arith)) ∙ sym (append_assoc x (c ∷ join_with_byte c (z ∷ xs)) (c ∷ y))

pub spelled_more : (zs : List ℤ) (i : ℕ) → i < length zs → map signed_decimal (take (i + 1) zs) ≡ map signed_decimal (take i zs) ++ signed_decimal (get_or zs i (pos 0)) ∷ []
spelled_more zs i h = rw (take_more zs i (pos 0) h, map-append signed_decimal (take i zs) (get_or zs i (pos 0) ∷ [])) refl

-- the line of the first i + 1 numbers
pub line_more : (zs : List ℤ) (i : ℕ) → 0 < i → i < length zs → join_with_byte 32 (map signed_decimal (take (i + 1) zs)) ≡ join_with_byte 32 (map signed_decimal (take i zs)) ++ 32 ∷ signed_decimal (get_or zs i (pos 0))
line_more zs i some h =
    rw (spelled_more zs i h) (join_with_byte-push 32 (map signed_decimal (take i zs)) (signed_decimal (get_or zs i (pos 0))) (omega (arith, length-map (take i zs) signed_decimal, length-take i zs)))

pub line_first : (zs : List ℤ) → 0 < length zs → join_with_byte 32 (map signed_decimal (take 1 zs)) ≡ signed_decimal (get_or zs 0 (pos 0))
line_first [] h = absurd (omega arith)
line_first (z ∷ zs) h = refl

-- the line of a word and the first i + 1 numbers
pub line_of_more : (key : List ℕ) (zs : List ℤ) (i : ℕ) → i < length zs → line_of key (take (i + 1) zs) ≡ (line_of key (take i zs) ++ 32 ∷ []) ++ signed_decimal (get_or zs i (pos 0))
line_of_more key zs i h =
    let word : List ℕ = signed_decimal (get_or zs i (pos 0)) in
    let push = join_with_byte-push 32 (key ∷ map signed_decimal (take i zs)) word (omega arith) in
    ap (λ (ws : List (List ℕ)). join_with_byte 32 (key ∷ ws)) (spelled_more zs i h) ∙ push ∙ sym (append_assoc (line_of key (take i zs)) (32 ∷ []) word)

-- of no numbers all fit
pub fits_none : All (FitsSigned w128) []
fits_none k d l = absurd (omega arith)

-- one number more fits
pub fits_more : (zs : List ℤ) (i : ℕ) → i < length zs → All (FitsSigned w128) (take i zs) → FitsSigned w128 (get_or zs i (pos 0)) → All (FitsSigned w128) (take (i + 1) zs)
fits_more zs i lt all one = rw (take_more zs i (pos 0) lt) (All-append (FitsSigned w128) (take i zs) (get_or zs i (pos 0) ∷ []) all (single (get_or zs i (pos 0)) one))
  where
    single : (z : ℤ) → FitsSigned w128 z → All (FitsSigned w128) (z ∷ [])
    single z one zero d lt = one
    single z one (suc k) d lt = absurd (omega arith)
