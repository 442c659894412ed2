-- A report's JSON, byte by byte.
use Rattle.std.proofs.Common.{◌≡◌, ℕ, zero, suc, ◌+◌, ◌/◌, ◌%◌, ◌<◌, ◌==◌, ℤ, pos, negsuc, List, [], ◌∷◌, ◌++◌, Bool, true, false, cond, map, codes, refl, sym, ap, ap₂, ◌∙◌, ◌≤◌, if◌then◌else◌, arith, append_assoc, lt-ltb}
use Rattle.std.specs.List.{join_with_byte}
use Rattle.std.specs.Fmt.{decimal, signed_decimal, digits, digits_onto, digit_glyph}
use Rattle.json.specs.Print.{escape, escape_byte, quoted}
use Rattle.json.proofs.Printed.Strings.{escape_byte_plain}
use Rattle.serde_json.specs.Data.{depth, items_depth, members_depth}
use Rattle.serde_json.specs.Read.{max_depth}
use Rattle.serde_json.specs.Written.{compact_text, items_text, members_text, has_float, items_have_float}
use Rattle.qp_model.specs.bounds.Printed.{Printed}
use Rattle.bound_report.specs.Report.{Figure, One, Each, json_members, number_string, figure_text, member, report_json}
use Rattle.bound_report.specs.Document.{strings_of, value_of, members_of, object_of}
use Rattle.bound_report.proofs.KeyLaws.{plain_by}

-- these bytes stand in a JSON string as they are
abbrev IsPlain : List ℕ → Type 0
IsPlain s = escape s ≡ s

-- ---- a number in decimal is plain

plain_cons : (x : ℕ) (xs : List ℕ) → escape_byte x ≡ x ∷ [] → IsPlain xs → IsPlain (x ∷ xs)
plain_cons x xs first rest = ap₂ (λ (a b : List ℕ). a ++ b) first rest

plain_glyph : (d : ℕ) → d < 10 → escape_byte (digit_glyph false d) ≡ digit_glyph false d ∷ []
plain_glyph d small = rw (lt-ltb d 10 small) (escape_byte_plain (48 + d) (λ e. omega arith) (λ e. omega arith) (omega arith))

plain_either : (b : Bool) (xs ys : List ℕ) → IsPlain xs → IsPlain ys → IsPlain (cond b xs ys)
plain_either true xs ys x y = x
plain_either false xs ys x y = y

plain_onto : (k n : ℕ) (acc : List ℕ) → IsPlain acc → IsPlain (digits_onto k 10 false n acc)
plain_onto zero n acc plain = plain
plain_onto (suc k) n acc plain =
    let more = plain_cons (digit_glyph false (n % 10)) acc (plain_glyph (n % 10) (omega arith)) plain in
    plain_either (n / 10 == 0) _ _ more (plain_onto k (n / 10) _ more)

plain_decimal : (n : ℕ) → IsPlain (decimal n)
unfolding digits
plain_decimal n = plain_onto 64 n [] refl

plain_number : (z : ℤ) → IsPlain (signed_decimal z)
unfolding escape_byte
plain_number (pos n) = plain_decimal n
plain_number (negsuc n) = plain_cons 45 (decimal (suc n)) refl (plain_decimal (suc n))

-- ---- figures

number_is : (z : ℤ) → number_string z ≡ quoted (signed_decimal z)
number_is z = ap (λ (t : List ℕ). 34 ∷ (t ++ 34 ∷ [])) (sym (plain_number z))

numbers_are : (zs : List ℤ) → join_with_byte 44 (map number_string zs) ++ 93 ∷ [] ≡ items_text false (strings_of zs)
numbers_are [] = refl
numbers_are (z ∷ []) = ap (λ (t : List ℕ). t ++ 93 ∷ []) (number_is z)
numbers_are (z ∷ y ∷ ys) =
    append_assoc (number_string z) _ (93 ∷ [])
    ∙ ap₂ (λ (t rest : List ℕ). t ++ 44 ∷ rest) (number_is z) (numbers_are (y ∷ ys))

figure_is : (f : Figure) → figure_text f ≡ compact_text (value_of f)
figure_is (One z) = number_is z
figure_is (Each zs) = ap (λ (t : List ℕ). 91 ∷ t) (numbers_are zs)

-- ---- members

abbrev HavePlainKeys : List (List ℕ × Figure) → Type 0
HavePlainKeys ms = map (λ m. escape m.0) ms ≡ map (λ m. m.0) ms

regroup : (key figure rest : List ℕ) → ((key ++ codes "\":") ++ figure) ++ rest ≡ (key ++ 34 ∷ []) ++ 58 ∷ (figure ++ rest)
regroup key figure rest = simp append_assoc

one_member : (key : List ℕ) (f : Figure) (rest : List ℕ) → IsPlain key → member key f ++ rest ≡ quoted key ++ 58 ∷ (compact_text (value_of f) ++ rest)
one_member key f rest plain = rw (plain, ← figure_is f) (ap (λ (t : List ℕ). 34 ∷ t) (regroup key (figure_text f) rest))

joined : (ms : List (List ℕ × Figure)) → HavePlainKeys ms → join_with_byte 44 (map (λ m. member m.0 m.1) ms) ++ 125 ∷ [] ≡ members_text false (members_of ms)
joined [] plain = refl
joined (m ∷ []) plain = one_member m.0 m.1 (125 ∷ []) (cc plain)
joined (m ∷ n ∷ ns) plain =
    append_assoc (member m.0 m.1) _ (125 ∷ [])
    ∙ ap (λ (rest : List ℕ). member m.0 m.1 ++ 44 ∷ rest) (joined (n ∷ ns) (cc plain))
    ∙ one_member m.0 m.1 (44 ∷ members_text false (members_of (n ∷ ns))) (cc plain)

-- the report is the object as it is written, and a line feed
pub compact_report : (b : Printed) → report_json b ≡ compact_text (object_of (json_members b)) ++ 10 ∷ []
compact_report b =
    let members : List ℕ = join_with_byte 44 (map (λ m. member m.0 m.1) (json_members b)) in
    let written = joined (json_members b) (plain_by b.lean (b.version == 1) b b.row_violations) in
    ap (λ (t : List ℕ). 123 ∷ t) (sym (append_assoc members (125 ∷ []) (10 ∷ [])) ∙ ap (λ (t : List ℕ). t ++ 10 ∷ []) written)

-- ---- what every object of figures is

no_float_item : (zs : List ℤ) → items_have_float (strings_of zs) ≡ false
no_float_item [] = refl
no_float_item (z ∷ zs) = no_float_item zs

-- no figure is a float
pub no_float : (ms : List (List ℕ × Figure)) → has_float (object_of ms) ≡ false
no_float [] = refl
no_float ((k, One z) ∷ ms) = no_float ms
no_float ((k, Each zs) ∷ ms) = rw (no_float_item zs) (no_float ms)

flat_items : (zs : List ℤ) → items_depth (strings_of zs) ≤ 0
flat_items [] = omega arith
flat_items (z ∷ zs) = omega (arith, flat_items zs)

flat_members : (ms : List (List ℕ × Figure)) → members_depth (members_of ms) ≤ 1
flat_members [] = omega arith
flat_members ((k, One z) ∷ ms) = omega (arith, flat_members ms)
flat_members ((k, Each zs) ∷ ms) = omega (arith, flat_items zs, flat_members ms)

-- a reader's limit is far
pub shallow : (ms : List (List ℕ × Figure)) → depth (object_of ms) ≤ max_depth
shallow ms = omega (arith, flat_members ms)
