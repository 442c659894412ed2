-- The texts of means by a reciprocal, and where they are needed.
use Rattle.std.proofs.Common.{◌≡◌, ℕ, zero, suc, ◌^◌, Bool, true, false, true≢false, ◌&&◌, ◌||◌, if◌then◌else◌, List, [], ◌∷◌, ◌++◌, length, unsigned_abs, ltb, refl, sym, ap, ◌∙◌, append_assoc}
use Rattle.std.proofs.lemmas.Bool.{cond_both}
use Rattle.std.specs.Prelude.{codes, decimal}
use Rattle.std.specs.Fmt.{digits}
use Rattle.qp_model.specs.machine.Controller.{Numbers}
use Rattle.overflow_check.specs.FastMachine.{fast_top}
use Rattle.c_language.specs.Syntax.{Family, Variable, variable, Statement}
use Rattle.c_language.specs.Syntax.Family.{Multiplier}
use Rattle.c_language.specs.Syntax.Statement.{Assign}
use Rattle.c_program.specs.Of.{any_below, is_row_needed, has_short_divisor, is_quick, is_twice_quick, is_any_quick, is_needed}
use Rattle.c_program.specs.FastOf.{first_scale_lines, first_scale, scale_lines, scale_statements, mean_expression, near_statements, exact_statements, quick_mean_statements, first_round_statements, second_round_statements, rounds_statements, twice_mean_statements, mean_statements}
use Rattle.c_language.specs.Text.{variable_text, kind_text}
use Rattle.c_language.specs.Needed.{left_in}
use Rattle.c_writer.specs.declared.measured.Measured.{Measured}
use Rattle.c_writer.specs.Measured.{kinds_in}
use Rattle.c_writer.specs.Terms.{block_text}
use Rattle.c_program.proofs.ProgramNeeds.{constant_part}

-- ---- the scale
pub first_scale_text : (m : Measured) →
    codes "    int32_t e0 = (int32_t)(INT64_C(1));\n" ++ (codes "    int64_t p0 = (int64_t)(INT64_C(8589934592));\n" ++ []) ≡
    block_text (kinds_in m) (codes "    ") first_scale_lines
unfolding digits
first_scale_text m = refl

pub scale_text : (m : Measured) →
    codes "        int32_t c0 = (int32_t)(INT64_C(1) + ((((int64_t)b0 * INT64_C(1073741824)) - (int64_t)p0) >> 63));\n"
    ++ (codes "        e0 = (int32_t)((int64_t)e0 + (int64_t)c0);\n" ++ (codes "        p0 = (int64_t)((int64_t)p0 + ((int64_t)c0 * (int64_t)p0));\n"
    ++ (codes "        int32_t q0 = (int32_t)((((int64_t)p0 - INT64_C(1)) / (int64_t)b0));\n" ++ []))) ≡
    block_text (kinds_in m) (codes "        ") scale_lines
unfolding digits
scale_text m = refl

-- ---- a mean
near_pieces : (i w sp vn eq p o c vv pl k0 tm vm e nl nr vh sh e0 vl k q0 sr t32 n : List ℕ) →
    (i ++ w ++ sp ++ vn) ++ (n ++ ((eq ++ w ++ p ++ o ++ c ++ vv) ++ (n ++ ((pl ++ o ++ k0 ++ tm ++ c ++ vm) ++ (n ++ ((p ++ p ++ e ++ nl ++ i ++ nr ++ sp ++ vh)
    ++ (n ++ ((eq ++ nr ++ p ++ o ++ o ++ o ++ c ++ vn) ++ (n ++ ((p ++ sh ++ e0 ++ p ++ p ++ e ++ nl ++ i ++ vl) ++ (n ++ (eq ++ (k ++ ((p ++ o ++ o ++ o ++ o ++ c ++ vh)
    ++ (n ++ ((tm ++ q0 ++ p ++ p ++ sr ++ t32 ++ p ++ p ++ e ++ nl) ++ [])))))))))))))))) ≡
    (i ++ (w ++ sp ++ (vn ++ n) ++ (eq ++ w ++ p ++ (o ++ ((c ++ (vv ++ n)) ++ pl ++ (o ++ (k0 ++ tm ++ (c ++ (vm ++ n))) ++ p)) ++ p) ++ e))) ++ nl
    ++ ((i ++ (nr ++ sp ++ (vh ++ n) ++ (eq ++ nr ++ p ++ (o ++ (o ++ ((o ++ (c ++ (vn ++ n)) ++ p) ++ sh ++ e0) ++ p) ++ p) ++ e))) ++ nl
    ++ ((i ++ ((vl ++ n) ++ (eq ++ k ++ p ++ (o ++ (o ++ ((o ++ (o ++ ((c ++ (vh ++ n)) ++ tm ++ q0) ++ p) ++ p) ++ sr ++ t32) ++ p) ++ p) ++ e))) ++ nl ++ []))
near_pieces i w sp vn eq p o c vv pl k0 tm vm e nl nr vh sh e0 vl k q0 sr t32 n = simp append_assoc refl

pub near_text : (m : Measured) (i : ℕ) →
    codes "        int64_t n" ++ (decimal i ++ (codes " = (int64_t)((int64_t)v" ++ (decimal i ++ (codes " + ((int64_t)k0 * (int64_t)m" ++ (decimal i ++ (codes "));\n        int32_t h"
    ++ (decimal i ++ (codes " = (int32_t)((((int64_t)n" ++ (decimal i ++ (codes ") >> (int64_t)e0));\n        l" ++ (decimal i ++ (codes " = (" ++ (kind_text (kinds_in m (variable Multiplier i)) ++ (codes ")(((((int64_t)h"
    ++ (decimal i ++ (codes " * (int64_t)q0)) >> 32));\n" ++ [])))))))))))))))) ≡ block_text (kinds_in m) (codes "        ") (near_statements i)
unfolding digits
near_text m i =
    near_pieces (codes "        ") (codes "int64_t") (codes " ") (codes "n") (codes " = (") (codes ")") (codes "(") (codes "(int64_t)") (codes "v") (codes " + ") (codes "(int64_t)k0") (codes " * ") (codes "m")
    (codes ";") (10 ∷ []) (codes "int32_t") (codes "h") (codes " >> (int64_t)") (codes "e0") (codes "l") (kind_text (kinds_in m (variable Multiplier i))) (codes "(int64_t)q0") (codes " >> ") (codes "32") (decimal i)

exact_pieces : (i nr sp vz eq p o c vn mi vl tm b0 e nl k pl one sr t31 n : List ℕ) →
    (i ++ nr ++ sp ++ vz) ++ (n ++ ((eq ++ nr ++ p ++ o ++ c ++ vn) ++ (n ++ ((mi ++ o ++ c) ++ (vl ++ (n ++ ((tm ++ b0 ++ p ++ mi ++ b0 ++ p ++ e ++ nl ++ i) ++ (vl ++ (n ++ (eq ++ (k ++ ((p ++ o ++ c) ++ (vl
    ++ (n ++ ((pl ++ one ++ pl ++ o ++ o ++ c ++ vz) ++ (n ++ ((p ++ sr ++ t31 ++ p ++ p ++ e ++ nl) ++ []))))))))))))))))) ≡
    (i ++ (nr ++ sp ++ (vz ++ n) ++ (eq ++ nr ++ p ++ (o ++ (((c ++ (vn ++ n)) ++ mi ++ (o ++ ((c ++ (vl ++ n)) ++ tm ++ b0) ++ p)) ++ mi ++ b0) ++ p) ++ e))) ++ nl
    ++ ((i ++ ((vl ++ n) ++ (eq ++ k ++ p ++ (o ++ (((c ++ (vl ++ n)) ++ pl ++ one) ++ pl ++ (o ++ ((o ++ (c ++ (vz ++ n)) ++ p) ++ sr ++ t31) ++ p)) ++ p) ++ e))) ++ nl ++ [])
exact_pieces i nr sp vz eq p o c vn mi vl tm b0 e nl k pl one sr t31 n = simp append_assoc refl

-- from the number, the type of what is made exact, and its name
abbrev exact_lines : (n k name : List ℕ) → List ℕ
exact_lines n k name =
    (codes "        " ++ (codes "int32_t" ++ codes " " ++ (codes "z" ++ n) ++ (codes " = (" ++ codes "int32_t" ++ codes ")"
    ++ (codes "(" ++ (((codes "(int64_t)" ++ (codes "n" ++ n)) ++ codes " - " ++ (codes "(" ++ ((codes "(int64_t)" ++ name) ++ codes " * " ++ codes "(int64_t)b0") ++ codes ")")) ++ codes " - " ++ codes "(int64_t)b0") ++ codes ")")
    ++ codes ";"))) ++ 10 ∷ []
    ++ ((codes "        " ++ (name ++ (codes " = (" ++ k ++ codes ")"
    ++ (codes "(" ++ (((codes "(int64_t)" ++ name) ++ codes " + " ++ codes "INT64_C(1)") ++ codes " + " ++ (codes "(" ++ ((codes "(" ++ (codes "(int64_t)" ++ (codes "z" ++ n)) ++ codes ")") ++ codes " >> " ++ codes "31") ++ codes ")")) ++ codes ")")
    ++ codes ";"))) ++ 10 ∷ [] ++ [])

exact_read : (m : Measured) (f : Family) (i : ℕ) →
    exact_lines (decimal i) (kind_text (kinds_in m (variable f i))) (variable_text (variable f i)) ≡ block_text (kinds_in m) (codes "        ") (exact_statements f i)
unfolding digits
exact_read m f i = refl

pub exact_text : (m : Measured) (f : Family) (i : ℕ) (letter : List ℕ) → letter ++ decimal i ≡ variable_text (variable f i) →
    codes "        int32_t z" ++ (decimal i ++ (codes " = (int32_t)((int64_t)n" ++ (decimal i ++ (codes " - ((int64_t)" ++ (letter ++ (decimal i ++ (codes " * (int64_t)b0) - (int64_t)b0);\n        "
    ++ (letter ++ (decimal i ++ (codes " = (" ++ (kind_text (kinds_in m (variable f i)) ++ (codes ")((int64_t)" ++ (letter ++ (decimal i ++ (codes " + INT64_C(1) + (((int64_t)z"
    ++ (decimal i ++ (codes ") >> 31));\n" ++ []))))))))))))))))) ≡ block_text (kinds_in m) (codes "        ") (exact_statements f i)
exact_text m f i letter e =
    let k = kind_text (kinds_in m (variable f i)) in
    exact_pieces (codes "        ") (codes "int32_t") (codes " ") (codes "z") (codes " = (") (codes ")") (codes "(") (codes "(int64_t)") (codes "n") (codes " - ") letter (codes " * ") (codes "(int64_t)b0")
    (codes ";") (10 ∷ []) k (codes " + ") (codes "INT64_C(1)") (codes " >> ") (codes "31") (decimal i) ∙
    ap (exact_lines (decimal i) k) e ∙ exact_read m f i

-- ---- in two rounds
first_pieces : (i w sp vn eq p o c vv pl k0 tm vm e nl nr vh sr t26 sh e0 vl k q0 t32 m26 mi b0 n : List ℕ) →
    (i ++ w ++ sp ++ vn) ++ (n ++ ((eq ++ w ++ p ++ o ++ c ++ vv) ++ (n ++ ((pl ++ o ++ k0 ++ tm ++ c ++ vm) ++ (n ++ ((p ++ p ++ e ++ nl ++ i ++ nr ++ sp ++ vh) ++ (n ++ ((eq ++ nr ++ p ++ o ++ o ++ o ++ o ++ o ++ c ++ vn)
    ++ (n ++ ((p ++ sr ++ t26 ++ p ++ p ++ sh ++ e0 ++ p ++ p ++ e ++ nl ++ i ++ vl) ++ (n ++ (eq ++ (k ++ ((p ++ o ++ o ++ o ++ o ++ o ++ c ++ vh)
    ++ (n ++ ((tm ++ q0 ++ p ++ p ++ sr ++ t32 ++ p ++ tm ++ m26 ++ p ++ p ++ e ++ nl ++ i ++ vn) ++ (n ++ ((eq ++ w ++ p ++ o ++ c ++ vn)
    ++ (n ++ ((mi ++ o ++ c ++ vl) ++ (n ++ ((tm ++ b0 ++ p ++ p ++ e ++ nl) ++ [])))))))))))))))))))))) ≡
    (i ++ (w ++ sp ++ (vn ++ n) ++ (eq ++ w ++ p ++ (o ++ ((c ++ (vv ++ n)) ++ pl ++ (o ++ (k0 ++ tm ++ (c ++ (vm ++ n))) ++ p)) ++ p) ++ e))) ++ nl
    ++ ((i ++ (nr ++ sp ++ (vh ++ n) ++ (eq ++ nr ++ p ++ (o ++ (o ++ ((o ++ (o ++ ((o ++ (c ++ (vn ++ n)) ++ p) ++ sr ++ t26) ++ p) ++ p) ++ sh ++ e0) ++ p) ++ p) ++ e))) ++ nl
    ++ ((i ++ ((vl ++ n) ++ (eq ++ k ++ p ++ (o ++ (o ++ ((o ++ ((o ++ (o ++ ((c ++ (vh ++ n)) ++ tm ++ q0) ++ p) ++ p) ++ sr ++ t32) ++ p) ++ tm ++ m26) ++ p) ++ p) ++ e))) ++ nl
    ++ ((i ++ ((vn ++ n) ++ (eq ++ w ++ p ++ (o ++ ((c ++ (vn ++ n)) ++ mi ++ (o ++ ((c ++ (vl ++ n)) ++ tm ++ b0) ++ p)) ++ p) ++ e))) ++ nl ++ [])))
first_pieces i w sp vn eq p o c vv pl k0 tm vm e nl nr vh sr t26 sh e0 vl k q0 t32 m26 mi b0 n = simp append_assoc refl

pub first_text : (m : Measured) (i : ℕ) →
    codes "        int64_t n" ++ (decimal i ++ (codes " = (int64_t)((int64_t)v" ++ (decimal i ++ (codes " + ((int64_t)k0 * (int64_t)m" ++ (decimal i ++ (codes "));\n        int32_t h"
    ++ (decimal i ++ (codes " = (int32_t)((((((int64_t)n" ++ (decimal i ++ (codes ") >> 26)) >> (int64_t)e0));\n        l" ++ (decimal i ++ (codes " = (" ++ (kind_text (kinds_in m (variable Multiplier i))
    ++ (codes ")((((((int64_t)h" ++ (decimal i ++ (codes " * (int64_t)q0)) >> 32) * INT64_C(67108864)));\n        n" ++ (decimal i ++ (codes " = (int64_t)((int64_t)n" ++ (decimal i ++ (codes " - ((int64_t)l"
    ++ (decimal i ++ (codes " * (int64_t)b0));\n" ++ [])))))))))))))))))))))) ≡ block_text (kinds_in m) (codes "        ") (first_round_statements i)
unfolding digits
first_text m i =
    first_pieces (codes "        ") (codes "int64_t") (codes " ") (codes "n") (codes " = (") (codes ")") (codes "(") (codes "(int64_t)") (codes "v") (codes " + ") (codes "(int64_t)k0") (codes " * ") (codes "m")
    (codes ";") (10 ∷ []) (codes "int32_t") (codes "h") (codes " >> ") (codes "26") (codes " >> (int64_t)") (codes "e0") (codes "l") (kind_text (kinds_in m (variable Multiplier i))) (codes "(int64_t)q0") (codes "32")
    (codes "INT64_C(67108864)") (codes " - ") (codes "(int64_t)b0") (decimal i)

second_pieces : (i vh n eq nr p o c vn sh e0 e nl tm q0 sr t32 : List ℕ) →
    (i ++ vh) ++ (n ++ ((eq ++ nr ++ p ++ o ++ o ++ o ++ c ++ vn) ++ (n ++ ((p ++ sh ++ e0 ++ p ++ p ++ e ++ nl ++ i ++ vh) ++ (n ++ ((eq ++ nr ++ p ++ o ++ o ++ o ++ o ++ c ++ vh)
    ++ (n ++ ((tm ++ q0 ++ p ++ p ++ sr ++ t32 ++ p ++ p ++ e ++ nl) ++ [])))))))) ≡
    (i ++ ((vh ++ n) ++ (eq ++ nr ++ p ++ (o ++ (o ++ ((o ++ (c ++ (vn ++ n)) ++ p) ++ sh ++ e0) ++ p) ++ p) ++ e))) ++ nl
    ++ ((i ++ ((vh ++ n) ++ (eq ++ nr ++ p ++ (o ++ (o ++ ((o ++ (o ++ ((c ++ (vh ++ n)) ++ tm ++ q0) ++ p) ++ p) ++ sr ++ t32) ++ p) ++ p) ++ e))) ++ nl ++ [])
second_pieces i vh n eq nr p o c vn sh e0 e nl tm q0 sr t32 = simp append_assoc refl

pub second_text : (m : Measured) (i : ℕ) →
    codes "        h" ++ (decimal i ++ (codes " = (int32_t)((((int64_t)n" ++ (decimal i ++ (codes ") >> (int64_t)e0));\n        h" ++ (decimal i ++ (codes " = (int32_t)(((((int64_t)h"
    ++ (decimal i ++ (codes " * (int64_t)q0)) >> 32));\n" ++ [])))))))) ≡ block_text (kinds_in m) (codes "        ") (second_round_statements i)
unfolding digits
second_text m i =
    second_pieces (codes "        ") (codes "h") (decimal i) (codes " = (") (codes "int32_t") (codes ")") (codes "(") (codes "(int64_t)") (codes "n") (codes " >> (int64_t)") (codes "e0") (codes ";") (10 ∷ [])
    (codes " * ") (codes "(int64_t)q0") (codes " >> ") (codes "32")

rounds_pieces : (i vl n eq k p o c pl vh e nl : List ℕ) →
    (i ++ vl) ++ (n ++ (eq ++ (k ++ ((p ++ o ++ c ++ vl) ++ (n ++ ((pl ++ c ++ vh) ++ (n ++ ((p ++ e ++ nl) ++ [])))))))) ≡
    (i ++ ((vl ++ n) ++ (eq ++ k ++ p ++ (o ++ ((c ++ (vl ++ n)) ++ pl ++ (c ++ (vh ++ n))) ++ p) ++ e))) ++ nl ++ []
rounds_pieces i vl n eq k p o c pl vh e nl = simp append_assoc refl

pub rounds_text : (m : Measured) (i : ℕ) →
    codes "        l" ++ (decimal i ++ (codes " = (" ++ (kind_text (kinds_in m (variable Multiplier i)) ++ (codes ")((int64_t)l" ++ (decimal i ++ (codes " + (int64_t)h" ++ (decimal i ++ (codes ");\n" ++ [])))))))) ≡
    block_text (kinds_in m) (codes "        ") (rounds_statements i)
rounds_text m i =
    rounds_pieces (codes "        ") (codes "l") (decimal i) (codes " = (") (kind_text (kinds_in m (variable Multiplier i))) (codes ")") (codes "(") (codes "(int64_t)") (codes " + ") (codes "h") (codes ";") (10 ∷ [])

-- ---- what is needed
any_short : (f g : ℕ → Bool) (b : Bool) (n : ℕ) → any_below (λ i. f i && (b && g i)) n ≡ true → b ≡ true
unfolding any_below
any_short f g true n h = refl
any_short f g false zero h = h
any_short f g false (suc n) h = any_short f g false n (before (any_below (λ i. f i && (false && g i)) n) (f n) h)
  where
    before : (a b : Bool) → (a || (b && false)) ≡ true → a ≡ true
    before true b h = refl
    before false true h = h
    before false false h = h

pub any_quick : (c : Numbers) (k : ℕ) (found : Bool) → found ≡ any_below (λ i. is_row_needed c i && is_twice_quick c i) k → k ≡ length c.bounds → found ≡ is_any_quick c
unfolding is_any_quick
any_quick c k found h e = h ∙ ap (any_below (λ i. is_row_needed c i && is_twice_quick c i)) e

pub quick_is_short : (c : Numbers) → is_any_quick c ≡ true → has_short_divisor c ≡ true
unfolding is_any_quick
quick_is_short c h = any_short (is_row_needed c) (λ i. ltb (unsigned_abs (fast_top c i)) (2 ^ 56)) (has_short_divisor c) (length c.bounds) h

pub mean_part : (c : Numbers) (i : ℕ) → left_in (is_needed c) (mean_statements c i) ≡ (if is_row_needed c i then mean_statements c i else [])
mean_part c i =
    let P = λ (ss : List Statement). left_in (is_needed c) ss ≡ (if is_row_needed c i then ss else []) in
    let all = constant_part (is_row_needed c i) in
    cond_both (is_quick c i) (quick_mean_statements i) _ P (λ t. all (quick_mean_statements i))
    (λ f. cond_both (is_twice_quick c i) (twice_mean_statements i) (Assign (variable Multiplier i) (mean_expression i) ∷ []) P (λ t. all (twice_mean_statements i)) (λ g. refl))

-- the scale is where a row is quick
left_where : (b d : Bool) (needed : Variable → Bool) (ss : List Statement) → left_in needed ss ≡ (if d then ss else []) → (d ≡ true → b ≡ true) → left_in needed (if b then ss else []) ≡ (if d then ss else [])
left_where true d needed ss e h = e
left_where false true needed ss e h = absurd (true≢false (sym (h refl)))
left_where false false needed ss e h = refl

pub first_scale_part : (c : Numbers) → left_in (is_needed c) (first_scale c) ≡ (if is_any_quick c then first_scale_lines else [])
first_scale_part c =
    left_where (has_short_divisor c) (is_any_quick c) (is_needed c) first_scale_lines (constant_part (is_any_quick c) first_scale_lines) (quick_is_short c)

pub scale_part : (c : Numbers) → left_in (is_needed c) (scale_statements c) ≡ (if is_any_quick c then scale_lines else [])
scale_part c = left_where (has_short_divisor c) (is_any_quick c) (is_needed c) scale_lines (constant_part (is_any_quick c) scale_lines) (quick_is_short c)
