-- Texts that grow piece by piece.
use Rattle.std.proofs.Common.{◌≡◌, ℕ, zero, suc, ◌+◌, ◌*◌, ◌^◌, ◌<◌, ◌==◌, Bool, cond, if◌then◌else◌, true, false, ltb, ℤ, pos, ◌*ℤ◌, List, [], ◌∷◌, ◌++◌, length, map, take, get_or, unsigned_abs, refl, sym, ap, ◌∙◌, append_assoc, append-nil, add-one, arith}
use Rattle.std.proofs.lemmas.List.{map_more}
use Rattle.std.proofs.lemmas.Int.{ints}
use Rattle.std.proofs.lemmas.Bool.{cond-true, cond-false, cond_both}
use Rattle.std.specs.Prelude.{codes, decimal}
use Rattle.std.specs.Fmt.{digits}
use Rattle.integer_algebra.specs.Division.{floor_of}
use Rattle.integer_algebra.specs.Sums.{at}
use Rattle.number_text.specs.Lines.{text_of}
use Rattle.c_language.specs.Syntax.{Variable, variable, Kind, Expression, Statement, groups}
use Rattle.c_language.specs.Syntax.Family.{Multiplier, RowSum, Reached, Weight, Divisor}
use Rattle.c_language.specs.Syntax.Kind.{Narrow}
use Rattle.c_language.specs.Syntax.Statement.{Declare, Assign}
use Rattle.c_language.specs.Syntax.Expression.{Constant, Value, Plus, Times, Shifted}
use Rattle.c_program.specs.Of.{plus_products, lowered_value}
use Rattle.overflow_check.specs.declared.machine.Machine.{Machine}
use Rattle.overflow_check.specs.declared.machine.Machine.TheVariants.{Plain, Accelerated}
use Rattle.c_program.specs.FastOf.{first_weight, divisor_statement, mean_expression, reached_expression, next_weight}
use Rattle.c_program.specs.ByMachine.{moved_family, weighted_for}
use Rattle.c_language.specs.Text.{variable_text, kind_text, constant_text, enclosed, closed, expression_text, statement_text, numbered_lines}
use Rattle.c_language.specs.Needed.{left_in}
use Rattle.c_language.proofs.Runs.{groups_none}
use Rattle.c_language.proofs.LeftIn.{left_in_append}
use Rattle.c_writer.specs.Terms.{joined, lowered_text, term_text, product_text, products_text, declared_text, given_end, block_text, weight_open, weight_end}

-- ---- sums of products
pub products_none : (c : ℕ → ℤ) (top : ℕ → ℕ) (name : ℕ → List ℕ) (old : List ℕ) → old ≡ old ++ products_text c top name 0
unfolding products_text
products_none c top name old = sym (append-nil old)

products_suc : (c : ℕ → ℤ) (top : ℕ → ℕ) (name : ℕ → List ℕ) (n : ℕ) → products_text c top name (n + 1) ≡ products_text c top name n ++ product_text (c n) (top n) (name n)
unfolding products_text
products_suc c top name n = rw add-one refl

pub products_more : (c : ℕ → ℤ) (top : ℕ → ℕ) (name : ℕ → List ℕ) (n : ℕ) (old now new : List ℕ) → now ≡ old ++ products_text c top name n →
    new ≡ now ++ product_text (c n) (top n) (name n) → new ≡ old ++ products_text c top name (n + 1)
products_more c top name n old now new h e =
    e ∙ ap (λ (t : List ℕ). t ++ product_text (c n) (top n) (name n)) h ∙ append_assoc old (products_text c top name n) (product_text (c n) (top n) (name n)) ∙
    ap (λ (t : List ℕ). old ++ t) (sym (products_suc c top name n))

pub times_one : (z : ℤ) → z *ℤ pos (2 ^ 0) ≡ z
times_one z = omega (arith, ints)

-- that of an expression with products behind it
product_read : (b : Bool) (a : Expression) (c : ℤ) (v : Variable) →
    expression_text (cond b (Plus a (Times (Constant c) (Value v))) a) ≡ expression_text a ++ cond b (term_text c (variable_text v)) []
product_read true a c v = simp append_assoc refl
product_read false a c v = sym (append-nil (expression_text a))

pub products_read : (a : Expression) (c : ℕ → ℤ) (top : ℕ → ℕ) (v : ℕ → Variable) (n : ℕ) →
    expression_text (plus_products a c top v n) ≡ expression_text a ++ products_text c top (λ i. variable_text (v i)) n
unfolding products_text
products_read a c top v zero = sym (append-nil (expression_text a))
products_read a c top v (suc n) =
    product_read (ltb 0 (unsigned_abs (c n) * top n)) (plus_products a c top v n) (c n) (v n) ∙
    ap (λ (t : List ℕ). t ++ product_text (c n) (top n) (variable_text (v n))) (products_read a c top v n) ∙
    append_assoc (expression_text a) (products_text c top (λ i. variable_text (v i)) n) (product_text (c n) (top n) (variable_text (v n)))

-- ---- lines of statements
declared_pieces : (t0 i k sp n eq p o e q s nl : List ℕ) →
    (t0 ++ (i ++ k ++ sp ++ (n ++ eq ++ k ++ (p ++ o)))) ++ e ++ (q ++ s ++ nl) ≡ t0 ++ (i ++ (k ++ sp ++ n ++ (eq ++ k ++ p ++ (o ++ e ++ q) ++ s)) ++ nl ++ [])
declared_pieces t0 i k sp n eq p o e q s nl = simp (append_assoc, append-nil) refl

load_pieces : (t0 o c m j s n b q : List ℕ) → t0 ++ o ++ c ++ (m ++ (j ++ s)) ++ n ++ (b ++ q) ≡ t0 ++ (o ++ (c ++ m ++ (j ++ (s ++ n ++ b))) ++ q)
load_pieces t0 o c m j s n b q = simp append_assoc refl

-- a number of the state times a constant
pub load_text : (c n t0 t1 t2 t3 t4 t5 : List ℕ) → t1 ≡ t0 ++ codes "(" → t2 ≡ t1 ++ c → t3 ≡ t2 ++ codes " * (int64_t)state[" → t4 ≡ t3 ++ n → t5 ≡ t4 ++ codes "])" →
    t5 ≡ t0 ++ (codes "(" ++ (c ++ codes " * " ++ (codes "(int64_t)" ++ (codes "state[" ++ n ++ codes "]"))) ++ codes ")")
load_text c n t0 t1 t2 t3 t4 t5 e1 e2 e3 e4 e5 =
    let before : t3 ≡ t0 ++ codes "(" ++ c ++ codes " * (int64_t)state[" = e3 ∙ ap (λ (t : List ℕ). t ++ codes " * (int64_t)state[") (e2 ∙ ap (λ (t : List ℕ). t ++ c) e1) in
    e5 ∙ ap (λ (t : List ℕ). t ++ codes "])") (e4 ∙ ap (λ (t : List ℕ). t ++ n) before) ∙
    load_pieces t0 (codes "(") c (codes " * ") (codes "(int64_t)") (codes "state[") n (codes "]") (codes ")")

-- a declared variable
pub declared_line : (types : Variable → Kind) (v : Variable) (a : Expression) (indent kind t0 t1 t2 t3 : List ℕ) → kind ≡ kind_text (types v) →
    t1 ≡ t0 ++ declared_text indent kind (variable_text v) → t2 ≡ t1 ++ expression_text a → t3 ≡ t2 ++ given_end → t3 ≡ t0 ++ block_text types indent (Declare v a ∷ [])
declared_line types v a indent kind t0 t1 t2 t3 k e1 e2 e3 =
    let end = λ (k : List ℕ). (t0 ++ declared_text indent k (variable_text v)) ++ expression_text a ++ given_end in
    let start : t3 ≡ end kind = e3 ∙ ap (λ (t : List ℕ). t ++ given_end) (e2 ∙ ap (λ (t : List ℕ). t ++ expression_text a) e1) in
    start ∙ ap end k ∙
    declared_pieces t0 indent (kind_text (types v)) (codes " ") (variable_text v) (codes " = (") (codes ")") (codes "(") (expression_text a) (codes ")") (codes ";") (10 ∷ [])

pub zero_text : codes "INT64_C(0)" ≡ expression_text (Constant (pos 0))
unfolding digits
zero_text = refl

-- the same of a sum of products
pub sum_line : (types : Variable → Kind) (v : Variable) (a : Expression) (k : ℕ → ℤ) (top : ℕ → ℕ) (u : ℕ → Variable) (n : ℕ) (indent kind t0 t1 t2 t3 t4 : List ℕ) → kind ≡ kind_text (types v) →
    t1 ≡ t0 ++ declared_text indent kind (variable_text v) → t2 ≡ t1 ++ expression_text a → t3 ≡ t2 ++ products_text k top (λ i. variable_text (u i)) n → t4 ≡ t3 ++ given_end →
    t4 ≡ t0 ++ block_text types indent (Declare v (plus_products a k top u n) ∷ [])
sum_line types v a k top u n indent kind t0 t1 t2 t3 t4 e e1 e2 e3 e4 =
    let products = products_text k top (λ i. variable_text (u i)) n in
    declared_line types v (plus_products a k top u n) indent kind t0 t1 t3 t4 e e1
    (e3 ∙ ap (λ (t : List ℕ). t ++ products) e2 ∙ append_assoc t1 (expression_text a) products ∙ ap (λ (t : List ℕ). t1 ++ t) (sym (products_read a k top u n))) e4

-- a row of the text as the definition has it
pub row_same : (f : ℤ → ℤ) (row xs : List ℤ) (tops ys : List ℕ) (name : ℕ → List ℕ) (m : ℕ) → row ≡ xs → tops ≡ ys → length row ≡ m →
    products_text (λ k. f (at row k)) (λ k. get_or tops k 0) name (length row) ≡ products_text (λ k. f (at xs k)) (λ k. get_or ys k 0) name m
row_same f row xs tops ys name m e k l =
    ap (λ (n : ℕ). products_text (λ k. f (at row k)) (λ k. get_or tops k 0) name n) l ∙ ap (λ (zs : List ℤ). products_text (λ k. f (at zs k)) (λ k. get_or tops k 0) name m) e ∙
    ap (λ (zs : List ℕ). products_text (λ k. f (at xs k)) (λ k. get_or zs k 0) name m) k

pub lowered_same : (row xs : List ℤ) (k q : ℕ) (tops ys : List ℕ) (name : ℕ → List ℕ) (m : ℕ) → row ≡ xs → k ≡ q → tops ≡ ys → length row ≡ m →
    products_text (λ j. floor_of (at row j) (2 ^ k)) (λ j. get_or tops j 0) name (length row) ≡ products_text (λ j. floor_of (at xs j) (2 ^ q)) (λ j. get_or ys j 0) name m
lowered_same row xs k q tops ys name m e b l h =
    ap (λ (n : ℕ). products_text (λ j. floor_of (at row j) (2 ^ k)) (λ j. get_or tops j 0) name n) h ∙
    ap (λ (zs : List ℤ). products_text (λ j. floor_of (at zs j) (2 ^ k)) (λ j. get_or tops j 0) name m) e ∙
    ap (λ (n : ℕ). products_text (λ j. floor_of (at xs j) (2 ^ n)) (λ j. get_or tops j 0) name m) b ∙
    ap (λ (zs : List ℕ). products_text (λ j. floor_of (at xs j) (2 ^ q)) (λ j. get_or zs j 0) name m) l

-- lines after lines
block_append : (types : Variable → Kind) (indent : List ℕ) (xs ys : List Statement) → block_text types indent (xs ++ ys) ≡ block_text types indent xs ++ block_text types indent ys
block_append types indent [] ys = refl
block_append types indent (x ∷ xs) ys =
    let line = indent ++ statement_text types x ++ 10 ∷ [] in
    ap (λ (t : List ℕ). line ++ t) (block_append types indent xs ys) ∙ sym (append_assoc line (block_text types indent xs) (block_text types indent ys))

pub block_none : (types : Variable → Kind) (indent : List ℕ) (f : ℕ → List Statement) (old : List ℕ) → old ≡ old ++ block_text types indent (groups f 0)
unfolding groups
block_none types indent f old = sym (append-nil old)

groups_suc : (f : ℕ → List Statement) (n : ℕ) → groups f (n + 1) ≡ groups f n ++ f n
unfolding groups
groups_suc f n = rw add-one refl

pub block_more : (types : Variable → Kind) (indent : List ℕ) (f : ℕ → List Statement) (n : ℕ) (old now new : List ℕ) → now ≡ old ++ block_text types indent (groups f n) →
    new ≡ now ++ block_text types indent (f n) → new ≡ old ++ block_text types indent (groups f (n + 1))
block_more types indent f n old now new h e =
    e ∙ ap (λ (t : List ℕ). t ++ block_text types indent (f n)) h ∙ append_assoc old (block_text types indent (groups f n)) (block_text types indent (f n)) ∙
    ap (λ (t : List ℕ). old ++ t) (sym (ap (block_text types indent) (groups_suc f n) ∙ block_append types indent (groups f n) (f n)))

-- ---- pieces
joined_append : (xs ys : List (List ℕ)) → joined (xs ++ ys) ≡ joined xs ++ joined ys
joined_append [] ys = refl
joined_append (x ∷ xs) ys = ap (λ (t : List ℕ). x ++ t) (joined_append xs ys) ∙ sym (append_assoc x (joined xs) (joined ys))

pub piece_more : {X : Type 0} (f : X → List ℕ) (xs : List X) (i : ℕ) (d : X) (old now new : List ℕ) → i < length xs → now ≡ old ++ joined (map f (take i xs)) →
    new ≡ now ++ f (get_or xs i d) → new ≡ old ++ joined (map f (take (i + 1) xs))
piece_more f xs i d old now new l h e =
    let piece = f (get_or xs i d) in
    let more : joined (map f (take (i + 1) xs)) ≡ joined (map f (take i xs)) ++ (piece ++ []) = ap joined (map_more f xs i d l) ∙ joined_append (map f (take i xs)) (piece ∷ []) in
    e ∙ ap (λ (t : List ℕ). t ++ piece) h ∙ append_assoc old (joined (map f (take i xs))) piece ∙
    ap (λ (t : List ℕ). old ++ (joined (map f (take i xs)) ++ t)) (sym (append-nil piece)) ∙ ap (λ (t : List ℕ). old ++ t) (sym more)

-- ---- numbered lines
pub lines_none : (line : ℕ → List ℕ) (old : List ℕ) → old ≡ old ++ text_of (numbered_lines line 0)
lines_none line old = sym (append-nil old)

text_append : (xs ys : List (List ℕ)) → text_of (xs ++ ys) ≡ text_of xs ++ text_of ys
text_append [] ys = refl
text_append (x ∷ xs) ys = ap (λ (t : List ℕ). x ++ 10 ∷ [] ++ t) (text_append xs ys) ∙ sym (append_assoc (x ++ 10 ∷ []) (text_of xs) (text_of ys))

lines_suc : (line : ℕ → List ℕ) (n : ℕ) → numbered_lines line (n + 1) ≡ numbered_lines line n ++ line n ∷ []
lines_suc line n = rw add-one refl

pub lines_more : (line : ℕ → List ℕ) (n : ℕ) (old now new : List ℕ) → now ≡ old ++ text_of (numbered_lines line n) → new ≡ now ++ text_of (line n ∷ []) →
    new ≡ old ++ text_of (numbered_lines line (n + 1))
lines_more line n old now new h e =
    e ∙ ap (λ (t : List ℕ). t ++ text_of (line n ∷ [])) h ∙ append_assoc old (text_of (numbered_lines line n)) (text_of (line n ∷ [])) ∙
    ap (λ (t : List ℕ). old ++ t) (sym (ap text_of (lines_suc line n) ∙ text_append (numbered_lines line n) (line n ∷ [])))

-- ---- single lines, piece by piece
pub sum_pieces : (i s n eq k p o c pl w u z q e l : List ℕ) →
    i ++ (s ++ (n ++ (eq ++ (k ++ (p ++ (o ++ (c ++ (s ++ (n ++ (pl ++ (w ++ (c ++ (u ++ (n ++ (z ++ (q ++ (e ++ (l ++ [])))))))))))))))))) ≡
    (i ++ (s ++ n ++ (eq ++ k ++ p ++ (o ++ (c ++ (s ++ n) ++ pl ++ (w ++ (c ++ (u ++ n)) ++ z)) ++ q) ++ e))) ++ l ++ []
sum_pieces i s n eq k p o c pl w u z q e l = simp append_assoc refl

pub comparison_pieces : (or s n b gt high : List ℕ) → or ++ (s ++ (n ++ (b ++ (gt ++ (high ++ []))))) ≡ or ++ (s ++ n ++ b) ++ gt ++ high
comparison_pieces or s n b gt high = simp (append_assoc, append-nil) refl

pub refusal_pieces : (i s n b lt low above r next e l : List ℕ) →
    i ++ (s ++ (n ++ (b ++ (lt ++ (low ++ (above ++ (r ++ (next ++ (e ++ (l ++ [])))))))))) ≡ (i ++ (s ++ n ++ b) ++ lt ++ low ++ above ++ r ++ next ++ e) ++ l ++ []
refusal_pieces i s n b lt low above r next e l = simp append_assoc refl

-- ---- three pieces
pub three_more : (t0 t1 t2 t3 a b d : List ℕ) → t1 ≡ t0 ++ a → t2 ≡ t1 ++ b → t3 ≡ t2 ++ d → t3 ≡ t0 ++ (a ++ b ++ d)
three_more t0 t1 t2 t3 a b d e1 e2 e3 =
    e3 ∙ ap (λ (t : List ℕ). t ++ d) (e2 ∙ ap (λ (t : List ℕ). t ++ b) e1 ∙ append_assoc t0 a b) ∙ append_assoc t0 (a ++ b) d

-- ---- a plan entry
entry_pieces : (t0 z m o v p w k : List ℕ) →
    ((((t0 ++ (z ++ m ++ o ++ o)) ++ v) ++ (p ++ w)) ++ k) ++ p ≡ t0 ++ (z ++ m ++ (o ++ ((o ++ v ++ p) ++ w ++ k) ++ p))
entry_pieces t0 z m o v p w k = simp append_assoc refl

pub entry_text : (v k t0 t1 t2 t3 t4 t5 : List ℕ) → t1 ≡ t0 ++ codes "INT64_C(0) - ((" → t2 ≡ t1 ++ v → t3 ≡ t2 ++ codes ") >> " → t4 ≡ t3 ++ k → t5 ≡ t4 ++ codes ")" →
    t5 ≡ t0 ++ (expression_text (Constant (pos 0)) ++ codes " - " ++ enclosed (enclosed v ++ codes " >> " ++ k))
entry_text v k t0 t1 t2 t3 t4 t5 e1 e2 e3 e4 e5 =
    let o = codes "INT64_C(0) - ((" in
    let before : t2 ≡ (t0 ++ o) ++ v = e2 ∙ ap (λ (t : List ℕ). t ++ v) e1 in
    let later : t4 ≡ (((t0 ++ o) ++ v) ++ codes ") >> ") ++ k = e4 ∙ ap (λ (t : List ℕ). t ++ k) (e3 ∙ ap (λ (t : List ℕ). t ++ codes ") >> ") before) in
    e5 ∙ ap (λ (t : List ℕ). t ++ codes ")") later ∙ entry_pieces t0 (codes "INT64_C(0)") (codes " - ") (codes "(") v (codes ")") (codes " >> ") k ∙
    ap (λ (z : List ℕ). t0 ++ (z ++ codes " - " ++ enclosed (enclosed v ++ codes " >> " ++ k))) zero_text

-- ---- a sum from its parts
sixteen_text : codes "16" ≡ decimal 16
unfolding digits
sixteen_text = refl

both_pieces : (t0 h pl o l p sh k : List ℕ) → (((t0 ++ h) ++ (pl ++ o ++ o)) ++ l) ++ (p ++ sh ++ k ++ p) ≡ t0 ++ (h ++ pl ++ (o ++ ((o ++ l ++ p) ++ sh ++ k) ++ p))
both_pieces t0 h pl o l p sh k = simp append_assoc refl

pub both_text : (h l : Expression) (t0 t1 t2 t3 t4 : List ℕ) → t1 ≡ t0 ++ expression_text h → t2 ≡ t1 ++ codes " + ((" → t3 ≡ t2 ++ expression_text l → t4 ≡ t3 ++ codes ") >> 16)" →
    t4 ≡ t0 ++ expression_text (Plus h (Shifted l 16))
both_text h l t0 t1 t2 t3 t4 e1 e2 e3 e4 =
    let text = λ (k : List ℕ). t0 ++ (expression_text h ++ codes " + " ++ enclosed (enclosed (expression_text l) ++ codes " >> " ++ k)) in
    let before : t3 ≡ ((t0 ++ expression_text h) ++ codes " + ((") ++ expression_text l =
    e3 ∙ ap (λ (t : List ℕ). t ++ expression_text l) (e2 ∙ ap (λ (t : List ℕ). t ++ codes " + ((") e1) in
    e4 ∙ ap (λ (t : List ℕ). t ++ codes ") >> 16)") before ∙
    both_pieces t0 (expression_text h) (codes " + ") (codes "(") (expression_text l) (codes ")") (codes " >> ") (codes "16") ∙ ap text sixteen_text

whole_pieces : (t0 o h pl l p sh s k : List ℕ) →
    ((((((t0 ++ (o ++ o)) ++ h) ++ (pl ++ o ++ o)) ++ l) ++ (p ++ sh ++ s ++ p ++ p ++ sh)) ++ k) ++ p ≡ t0 ++ (o ++ ((o ++ (h ++ pl ++ (o ++ ((o ++ l ++ p) ++ sh ++ s) ++ p)) ++ p) ++ sh ++ k) ++ p)
whole_pieces t0 o h pl l p sh s k = simp append_assoc refl

pub parted_text : (h l : Expression) (k : ℕ) (t0 t1 t2 t3 t4 t5 t6 t7 : List ℕ) → t1 ≡ t0 ++ codes "((" → t2 ≡ t1 ++ expression_text h → t3 ≡ t2 ++ codes " + ((" → t4 ≡ t3 ++ expression_text l →
    t5 ≡ t4 ++ codes ") >> 16)) >> " → t6 ≡ t5 ++ decimal k → t7 ≡ t6 ++ codes ")" → t7 ≡ t0 ++ expression_text (Shifted (Plus h (Shifted l 16)) k)
parted_text h l k t0 t1 t2 t3 t4 t5 t6 t7 e1 e2 e3 e4 e5 e6 e7 =
    let text = λ (s : List ℕ). t0 ++ enclosed (enclosed (expression_text h ++ codes " + " ++ enclosed (enclosed (expression_text l) ++ codes " >> " ++ s)) ++ codes " >> " ++ decimal k) in
    let first : t2 ≡ (t0 ++ codes "((") ++ expression_text h = e2 ∙ ap (λ (t : List ℕ). t ++ expression_text h) e1 in
    let second : t4 ≡ (((t0 ++ codes "((") ++ expression_text h) ++ codes " + ((") ++ expression_text l =
    e4 ∙ ap (λ (t : List ℕ). t ++ expression_text l) (e3 ∙ ap (λ (t : List ℕ). t ++ codes " + ((") first) in
    let third = e6 ∙ ap (λ (t : List ℕ). t ++ decimal k) (e5 ∙ ap (λ (t : List ℕ). t ++ codes ") >> 16)) >> ") second) in
    e7 ∙ ap (λ (t : List ℕ). t ++ codes ")") third ∙
    whole_pieces t0 (codes "(") (expression_text h) (codes " + ") (expression_text l) (codes ")") (codes " >> ") (codes "16") (decimal k) ∙ ap text sixteen_text

-- ---- a variable's value over a power of two
lowered_pieces : (t0 o v w k p : List ℕ) → ((((t0 ++ o) ++ v) ++ w) ++ k) ++ p ≡ t0 ++ (o ++ v ++ w ++ k ++ p)
lowered_pieces t0 o v w k p = simp append_assoc refl

pub lowered_more : (v k t0 t1 t2 t3 t4 t5 : List ℕ) → t1 ≡ t0 ++ codes "((" → t2 ≡ t1 ++ v → t3 ≡ t2 ++ codes ") >> " → t4 ≡ t3 ++ k → t5 ≡ t4 ++ codes ")" →
    t5 ≡ t0 ++ (codes "((" ++ v ++ codes ") >> " ++ k ++ codes ")")
lowered_more v k t0 t1 t2 t3 t4 t5 e1 e2 e3 e4 e5 =
    let before : t3 ≡ ((t0 ++ codes "((") ++ v) ++ codes ") >> " = e3 ∙ ap (λ (t : List ℕ). t ++ codes ") >> ") (e2 ∙ ap (λ (t : List ℕ). t ++ v) e1) in
    e5 ∙ ap (λ (t : List ℕ). t ++ codes ")") (e4 ∙ ap (λ (t : List ℕ). t ++ k) before) ∙ lowered_pieces t0 (codes "((") v (codes ") >> ") k (codes ")")

-- as an expression
shifted_read : (o v p s k : List ℕ) → o ++ ((o ++ v ++ p) ++ s ++ k) ++ p ≡ (o ++ o) ++ v ++ (p ++ s) ++ k ++ p
shifted_read o v p s k = simp append_assoc refl

pub lowered_read : (v : Variable) (k : ℕ) → expression_text (lowered_value v k) ≡ lowered_text (variable_text v) k
lowered_read v k = each (k == 0)
  where
    each : (b : Bool) → expression_text (cond b (Value v) (Shifted (Value v) k)) ≡
        cond b (codes "(int64_t)" ++ variable_text v) (codes "((" ++ (codes "(int64_t)" ++ variable_text v) ++ codes ") >> " ++ decimal k ++ codes ")")
    each true = refl
    each false = shifted_read (codes "(") (codes "(int64_t)" ++ variable_text v) (codes ")") (codes " >> ") (decimal k)

closed_lowered : (v : Variable) (k : ℕ) (text : List ℕ) → closed (lowered_value v k) text ≡ text
closed_lowered v k text = cond_both (k == 0) (Value v) (Shifted (Value v) k) (λ a. closed a text ≡ text) (λ t. refl) (λ f. refl)

-- ---- a step's weight
weight_text : codes "(int64_t)k0" ≡ expression_text (Value (variable Weight 0))
unfolding digits
weight_text = refl

weighted_pieces : (o w x t e : List ℕ) → o ++ (w ++ x ++ t) ++ e ≡ (o ++ (w ++ x)) ++ t ++ e
weighted_pieces o w x t e = simp append_assoc refl

-- what is added by it, where it stands without parentheses of its own
pub weighted_read : (m : Machine) (a : Expression) → ((t : List ℕ) → closed a t ≡ t) →
    closed (weighted_for m a) (expression_text (weighted_for m a)) ≡ weight_open m ++ expression_text a ++ weight_end m
weighted_read Plain a h = h (expression_text a) ∙ sym (append-nil (expression_text a))
weighted_read Accelerated a h =
    ap (λ (t : List ℕ). enclosed (expression_text (Value (variable Weight 0)) ++ codes " * " ++ t)) (h (expression_text a)) ∙
    ap (λ (k : List ℕ). enclosed (k ++ codes " * " ++ expression_text a)) (sym weight_text) ∙
    weighted_pieces (codes "(") (codes "(int64_t)k0") (codes " * ") (expression_text a) (codes ")")

-- ---- a multiplier that is moved
pub moved_read : (m : Machine) (k i : ℕ) →
    expression_text (Plus (Value (variable (moved_family m) i)) (weighted_for m (lowered_value (variable RowSum i) k))) ≡ (codes "(int64_t)" ++ variable_text (variable (moved_family m) i)) ++ codes " + "
    ++ (weight_open m ++ lowered_text (codes "y" ++ decimal i) k ++ weight_end m)
moved_read m k i =
    let v = variable RowSum i in
    let start = (codes "(int64_t)" ++ variable_text (variable (moved_family m) i)) ++ codes " + " in
    ap (λ (t : List ℕ). start ++ t) (weighted_read m (lowered_value v k) (closed_lowered v k) ∙ ap (λ (t : List ℕ). weight_open m ++ t ++ weight_end m) (lowered_read v k))

five_pieces : (t0 a b o d e : List ℕ) → ((((t0 ++ a) ++ b) ++ o) ++ d) ++ e ≡ t0 ++ (a ++ b ++ (o ++ d ++ e))
five_pieces t0 a b o d e = simp append_assoc refl

pub five_more : (t0 t1 t2 t3 t4 t5 a b o d e : List ℕ) → t1 ≡ t0 ++ a → t2 ≡ t1 ++ b → t3 ≡ t2 ++ o → t4 ≡ t3 ++ d → t5 ≡ t4 ++ e → t5 ≡ t0 ++ (a ++ b ++ (o ++ d ++ e))
five_more t0 t1 t2 t3 t4 t5 a b o d e e1 e2 e3 e4 e5 =
    let before : t3 ≡ ((t0 ++ a) ++ b) ++ o = e3 ∙ ap (λ (t : List ℕ). t ++ o) (e2 ∙ ap (λ (t : List ℕ). t ++ b) e1) in
    e5 ∙ ap (λ (t : List ℕ). t ++ e) (e4 ∙ ap (λ (t : List ℕ). t ++ d) before) ∙ five_pieces t0 a b o d e

-- ---- what only the accelerated machine has
pub first_weight_text : codes "    int32_t k0 = (int32_t)(INT64_C(2));\n" ≡ block_text (λ v. Narrow) (codes "    ") (first_weight ∷ [])
unfolding digits
first_weight_text = refl

pub next_weight_text : codes "        k0 = (int32_t)((int64_t)k0 + INT64_C(1));\n" ≡ block_text (λ v. Narrow) (codes "        ") (next_weight ∷ [])
unfolding digits
next_weight_text = refl

divisor_pieces : (i k b rest : List ℕ) → i ++ (k ++ (b ++ (k ++ (rest ++ [])))) ≡ i ++ k ++ b ++ k ++ rest
divisor_pieces i k b rest = simp (append_assoc, append-nil) refl

divisor_line : (i k s n eq p v q nl : List ℕ) → i ++ k ++ (s ++ n ++ eq) ++ k ++ (p ++ v ++ q ++ nl) ≡ (i ++ (k ++ s ++ n ++ (eq ++ k ++ p ++ v ++ q))) ++ nl ++ []
divisor_line i k s n eq p v q nl = simp (append_assoc, append-nil) refl

pub divisor_text : (types : Variable → Kind) → let k = kind_text (types (variable Divisor 0)) in
    codes "        " ++ (k ++ (codes " b0 = (" ++ (k ++ (codes ")((((int64_t)k0 - INT64_C(1)) * ((int64_t)k0 + INT64_C(2))));\n" ++ [])))) ≡ block_text types (codes "        ") (divisor_statement ∷ [])
unfolding digits
divisor_text types =
    let k = kind_text (types (variable Divisor 0)) in
    divisor_pieces (codes "        ") k (codes " b0 = (") (codes ")((((int64_t)k0 - INT64_C(1)) * ((int64_t)k0 + INT64_C(2))));\n") ∙
    divisor_line (codes "        ") k (codes " ") (codes "b0") (codes " = (") (codes ")") (codes "((((int64_t)k0 - INT64_C(1)) * ((int64_t)k0 + INT64_C(2))))") (codes ";") (10 ∷ [])

divisor_name : codes "b0" ≡ variable_text (variable Divisor 0)
unfolding digits
divisor_name = refl

mean_pieces : (i l n eq k p o c v pl w m s d b e nl : List ℕ) →
    i ++ (l ++ (n ++ (eq ++ (k ++ (p ++ (o ++ (o ++ (o ++ (c ++ (v ++ (n ++ (pl ++ ((o ++ (w ++ s)) ++ (c ++ (m ++ (n ++ (p ++ (p ++ ((d ++ b) ++ (p ++ (p ++ (e ++ (nl ++ []))))))))))))))))))))))) ≡
    (i ++ (l ++ n ++ (eq ++ k ++ p ++ (o ++ (o ++ (o ++ (c ++ (v ++ n) ++ pl ++ (o ++ (w ++ s ++ (c ++ (m ++ n))) ++ p)) ++ p ++ d ++ b) ++ p) ++ p) ++ e))) ++ nl ++ []
mean_pieces i l n eq k p o c v pl w m s d b e nl = simp append_assoc refl

-- the line of a mean, from its number, its type, the weight and the divisor
mean_line : (n k w b : List ℕ) → List ℕ
mean_line n k w b =
    (codes "        " ++ (codes "l" ++ n ++ (codes " = (" ++ k ++ codes ")" ++ (codes "(" ++ (codes "(" ++ (codes "(" ++ (codes "(int64_t)" ++ (codes "v" ++ n) ++ codes " + "
    ++ (codes "(" ++ (w ++ codes " * " ++ (codes "(int64_t)" ++ (codes "m" ++ n))) ++ codes ")")) ++ codes ")" ++ codes " / (int64_t)" ++ b) ++ codes ")") ++ codes ")") ++ codes ";"))) ++ 10 ∷ [] ++ []

written_mean : (n k : List ℕ) →
    codes "        " ++ (codes "l" ++ (n ++ (codes " = (" ++ (k ++ (codes ")" ++ (codes "(" ++ (codes "(" ++ (codes "(" ++ (codes "(int64_t)" ++ (codes "v" ++ (n ++ (codes " + "
    ++ (codes "((int64_t)k0 * " ++ (codes "(int64_t)" ++ (codes "m" ++ (n ++ (codes ")" ++ (codes ")" ++ (codes " / (int64_t)b0" ++ (codes ")" ++ (codes ")" ++ (codes ";" ++ (10 ∷ [] ++ []))))))))))))))))))))))) ≡
    mean_line n k (codes "(int64_t)k0") (codes "b0")
unfolding mean_line
written_mean n k =
    mean_pieces (codes "        ") (codes "l") n (codes " = (") k (codes ")") (codes "(") (codes "(int64_t)") (codes "v") (codes " + ")
    (codes "(int64_t)k0") (codes "m") (codes " * ") (codes " / (int64_t)") (codes "b0") (codes ";") (10 ∷ [])

read_mean : (types : Variable → Kind) (i : ℕ) →
    mean_line (decimal i) (kind_text (types (variable Multiplier i))) (expression_text (Value (variable Weight 0))) (variable_text (variable Divisor 0)) ≡ block_text types (codes "        ") (Assign (variable Multiplier i) (mean_expression i) ∷ [])
unfolding mean_line
read_mean types i = refl

pub mean_text : (types : Variable → Kind) (i : ℕ) →
    codes "        " ++ (codes "l" ++ (decimal i ++ (codes " = (" ++ (kind_text (types (variable Multiplier i)) ++ (codes ")" ++ (codes "(" ++ (codes "(" ++ (codes "(" ++ (codes "(int64_t)" ++ (codes "v" ++ (decimal i ++ (codes " + "
    ++ (codes "((int64_t)k0 * " ++ (codes "(int64_t)" ++ (codes "m" ++ (decimal i ++ (codes ")" ++ (codes ")" ++ (codes " / (int64_t)b0" ++ (codes ")" ++ (codes ")" ++ (codes ";" ++ (10 ∷ [] ++ [])))))))))))))))))))))))
    ≡ block_text types (codes "        ") (Assign (variable Multiplier i) (mean_expression i) ∷ [])
mean_text types i =
    let k = kind_text (types (variable Multiplier i)) in
    written_mean (decimal i) k ∙ ap (λ (w : List ℕ). mean_line (decimal i) k w (codes "b0")) weight_text ∙
    ap (mean_line (decimal i) k (expression_text (Value (variable Weight 0)))) divisor_name ∙ read_mean types i

reached_pieces : (i l n eq k p o c pl w m s e nl : List ℕ) →
    i ++ (l ++ (n ++ (eq ++ (k ++ (p ++ (o ++ (c ++ (l ++ (n ++ (pl ++ ((o ++ (w ++ s)) ++ (c ++ (m ++ (n ++ (p ++ (p ++ (e ++ (nl ++ [])))))))))))))))))) ≡
    (i ++ (l ++ n ++ (eq ++ k ++ p ++ (o ++ (c ++ (l ++ n) ++ pl ++ (o ++ (w ++ s ++ (c ++ (m ++ n))) ++ p)) ++ p) ++ e))) ++ nl ++ []
reached_pieces i l n eq k p o c pl w m s e nl = simp append_assoc refl

pub reached_text : (types : Variable → Kind) (i : ℕ) →
    codes "        " ++ (codes "v" ++ (decimal i ++ (codes " = (" ++ (kind_text (types (variable Reached i)) ++ (codes ")" ++ (codes "(" ++ (codes "(int64_t)" ++ (codes "v" ++ (decimal i ++ (codes " + "
    ++ (codes "((int64_t)k0 * " ++ (codes "(int64_t)" ++ (codes "m" ++ (decimal i ++ (codes ")" ++ (codes ")" ++ (codes ";" ++ ((10 ∷ []) ++ [])))))))))))))))))) ≡
    block_text types (codes "        ") (Assign (variable Reached i) (reached_expression i) ∷ [])
unfolding digits
reached_text types i =
    reached_pieces (codes "        ") (codes "v") (decimal i) (codes " = (") (kind_text (types (variable Reached i))) (codes ")") (codes "(") (codes "(int64_t)") (codes " + ")
    (codes "(int64_t)k0") (codes "m") (codes " * ") (codes ";") (10 ∷ [])

pub two_more : (t0 t1 t2 a b : List ℕ) → t1 ≡ t0 ++ a → t2 ≡ t1 ++ b → t2 ≡ t0 ++ (a ++ b)
two_more t0 t1 t2 a b e1 e2 = e2 ∙ ap (λ (t : List ℕ). t ++ b) e1 ∙ append_assoc t0 a b

-- an expression of three, behind one text
pub split_read : (b d : Bool) (v : List ℕ) (x y z : Expression) (p q r : List ℕ) → expression_text x ≡ v ++ p → expression_text y ≡ v ++ q → expression_text z ≡ v ++ r →
    expression_text (cond b x (cond d y z)) ≡ v ++ cond b p (cond d q r)
split_read true d v x y z p q r h k l = h
split_read false true v x y z p q r h k l = k
split_read false false v x y z p q r h k l = l

-- ---- the lines that clamp
pub floor_pieces : (i o t n l z e : List ℕ) →
    i ++ (o ++ (t ++ (n ++ (l ++ (t ++ (n ++ (z ++ (e ++ [])))))))) ≡ (i ++ (o ++ (t ++ n) ++ l ++ (t ++ n) ++ z)) ++ e ++ []
floor_pieces i o t n l z e = simp append_assoc refl

pub ceiling_pieces : (i o t n g top b eq k p q r s z e : List ℕ) →
    i ++ (o ++ (t ++ (n ++ (g ++ (top ++ (b ++ (t ++ (n ++ (eq ++ (k ++ (p ++ (q ++ (top ++ (r ++ (s ++ (z ++ (e ++ []))))))))))))))))) ≡
    (i ++ (o ++ (t ++ n) ++ g ++ top ++ b ++ (t ++ n) ++ (eq ++ k ++ p ++ (q ++ top ++ r) ++ s) ++ z)) ++ e ++ []
ceiling_pieces i o t n g top b eq k p q r s z e = simp append_assoc refl

pub back_pieces : (i l n eq k p q w t r s e : List ℕ) →
    i ++ (l ++ (n ++ (eq ++ (k ++ (p ++ (q ++ (w ++ (t ++ (n ++ (r ++ (s ++ (e ++ [])))))))))))) ≡
    (i ++ ((l ++ n) ++ (eq ++ k ++ p ++ (q ++ (w ++ (t ++ n)) ++ r) ++ s))) ++ e ++ []
back_pieces i l n eq k p q w t r s e = simp append_assoc refl

-- lines of four statements, and of those of two lists
pub blocks_more : (types : Variable → Kind) (indent : List ℕ) (xs ys : List Statement) (t0 t1 t2 : List ℕ) → t1 ≡ t0 ++ block_text types indent xs → t2 ≡ t1 ++ block_text types indent ys →
    t2 ≡ t0 ++ block_text types indent (xs ++ ys)
blocks_more types indent xs ys t0 t1 t2 e1 e2 =
    two_more t0 t1 t2 (block_text types indent xs) (block_text types indent ys) e1 e2 ∙ ap (λ (t : List ℕ). t0 ++ t) (sym (block_append types indent xs ys))

-- ---- the whole
pub lines_then : (xs ys : List (List ℕ)) (t0 t1 t2 : List ℕ) → t1 ≡ t0 ++ text_of xs → t2 ≡ t1 ++ text_of ys → t2 ≡ t0 ++ text_of (xs ++ ys)
lines_then xs ys t0 t1 t2 e1 e2 = two_more t0 t1 t2 (text_of xs) (text_of ys) e1 e2 ∙ ap (λ (t : List ℕ). t0 ++ t) (sym (text_append xs ys))

pub lines_same : (f g : ℕ → List ℕ) (n : ℕ) → ((k : ℕ) → k < n → f k ≡ g k) → numbered_lines f n ≡ numbered_lines g n
lines_same f g zero h = refl
lines_same f g (suc n) h =
    ap (λ (ls : List (List ℕ)). ls ++ f n ∷ []) (lines_same f g n (λ k l. h k (omega (arith, l)))) ∙ ap (λ (l : List ℕ). numbered_lines g n ++ l ∷ []) (h n (omega arith))

pub head_pieces : (i name s n m k e : List ℕ) → i ++ (name ++ (s ++ (n ++ (m ++ (k ++ (e ++ [])))))) ≡ i ++ name ++ s ++ n ++ m ++ k ++ e
head_pieces i name s n m k e = simp (append_assoc, append-nil) refl

pub shift_pieces : (i name h nl ty p : List ℕ) →
    i ++ (name ++ (h ++ (nl ++ (nl ++ (ty ++ (name ++ (p ++ (nl ++ (nl ++ []))))))))) ≡ (i ++ name ++ h) ++ nl ++ ([] ++ nl ++ ((ty ++ name ++ p) ++ nl ++ ([] ++ nl ++ [])))
shift_pieces i name h nl ty p = simp (append_assoc, append-nil) refl

-- a head and what opens its body
pub opened : (h t0 t1 t2 : List ℕ) → t1 ≡ t0 ++ h → t2 ≡ t1 ++ (10 ∷ [] ++ codes "{" ++ 10 ∷ []) → t2 ≡ t0 ++ text_of (h ∷ codes "{" ∷ [])
opened h t0 t1 t2 e1 e2 = e2 ∙ ap (λ (t : List ℕ). t ++ (10 ∷ [] ++ codes "{" ++ 10 ∷ [])) e1 ∙ opened_pieces t0 h (10 ∷ []) (codes "{")
  where
    opened_pieces : (t0 h nl b : List ℕ) → (t0 ++ h) ++ (nl ++ b ++ nl) ≡ t0 ++ (h ++ nl ++ (b ++ nl ++ []))
    opened_pieces t0 h nl b = simp (append_assoc, append-nil) refl

pub loop_pieces : (a n b nl : List ℕ) → a ++ (n ++ (b ++ (nl ++ []))) ≡ (a ++ n ++ b) ++ nl ++ []
loop_pieces a n b nl = simp append_assoc refl

-- ---- the averages
pub constant_pieces : (a n b : List ℕ) → a ++ (n ++ (b ++ [])) ≡ a ++ n ++ b
constant_pieces a n b = simp (append_assoc, append-nil) refl

pub output_pieces : (c s n e : List ℕ) → c ++ (s ++ (n ++ (e ++ []))) ≡ c ++ (s ++ n ++ e)
output_pieces c s n e = simp (append_assoc, append-nil) refl

rest_pieces : (o two t s m k p : List ℕ) → o ++ (two ++ (t ++ (o ++ (s ++ (m ++ (k ++ (p ++ (p ++ [])))))))) ≡ o ++ (two ++ t ++ (o ++ (s ++ m ++ k) ++ p)) ++ p
rest_pieces o two t s m k p = simp (append_assoc, append-nil) refl

two_text : codes "INT64_C(2)" ≡ constant_text (pos 2)
unfolding digits
two_text = refl

pub rest_text : (s k : List ℕ) →
    codes "(" ++ (codes "INT64_C(2)" ++ (codes " * " ++ (codes "(" ++ (s ++ (codes " % " ++ (k ++ (codes ")" ++ (codes ")" ++ [])))))))) ≡
    enclosed (constant_text (pos 2) ++ codes " * " ++ enclosed (s ++ codes " % " ++ k))
rest_text s k =
    rest_pieces (codes "(") (codes "INT64_C(2)") (codes " * ") s (codes " % ") k (codes ")") ∙
    ap (λ (two : List ℕ). enclosed (two ++ codes " * " ++ enclosed (s ++ codes " % " ++ k))) two_text

pub shifted_pieces : (i n b o s pl h p sh k q l : List ℕ) →
    i ++ (n ++ (b ++ (o ++ (o ++ (s ++ (pl ++ (h ++ (p ++ (sh ++ (k ++ (p ++ (q ++ (l ++ []))))))))))))) ≡
    (i ++ n ++ b ++ (o ++ ((o ++ (s ++ pl ++ h) ++ p) ++ sh ++ k) ++ p) ++ q) ++ l ++ []
shifted_pieces i n b o s pl h p sh k q l = simp append_assoc refl

divided_pieces : (i n b o s d k p pl r sh w mi less q l : List ℕ) →
    i ++ (n ++ (b ++ (o ++ (s ++ (d ++ (k ++ (p ++ (pl ++ (o ++ (o ++ (r ++ (pl ++ (k ++ (p ++ (sh ++ (w ++ (p ++ (mi ++ (o ++ (o ++ (less ++ (mi ++ (r ++ (p ++ (sh ++ (w ++ (p ++ (q ++ (l ++ []))))))))))))))))))))))))))))) ≡
    (i ++ n ++ b ++ ((o ++ (s ++ d ++ k) ++ p) ++ pl ++ (o ++ ((o ++ (r ++ pl ++ k) ++ p) ++ sh ++ w) ++ p) ++ mi ++ (o ++ ((o ++ (less ++ mi ++ r) ++ p) ++ sh ++ w) ++ p)) ++ q) ++ l ++ []
divided_pieces i n b o s d k p pl r sh w mi less q l = simp append_assoc refl

width_text : codes "63" ≡ decimal 63
unfolding digits
width_text = refl

-- the line of an average by division, from the texts of the sum, the steps, twice the rest, and one step less
pub divided_text : (n s k r less : List ℕ) →
    joined (codes "    inputs[" ∷ n ∷ codes "] = " ∷ codes "(" ∷ s ∷ codes " / " ∷ k ∷ codes ")" ∷ codes " + " ∷ codes "(" ∷ codes "(" ∷ r ∷ codes " + " ∷ k ∷ codes ")" ∷ codes " >> "
    ∷ codes "63" ∷ codes ")" ∷ codes " - " ∷ codes "(" ∷ codes "(" ∷ less ∷ codes " - " ∷ r ∷ codes ")" ∷ codes " >> " ∷ codes "63" ∷ codes ")" ∷ codes ";" ∷ (10 ∷ []) ∷ []) ≡
    text_of ((codes "    inputs[" ++ n ++ codes "] = " ++ (enclosed (s ++ codes " / " ++ k) ++ codes " + " ++ enclosed (enclosed (r ++ codes " + " ++ k) ++ codes " >> " ++ decimal 63) ++ codes " - "
    ++ enclosed (enclosed (less ++ codes " - " ++ r) ++ codes " >> " ++ decimal 63)) ++ codes ";") ∷ [])
divided_text n s k r less =
    divided_pieces (codes "    inputs[") n (codes "] = ") (codes "(") s (codes " / ") k (codes ")") (codes " + ") r (codes " >> ") (codes "63") (codes " - ") less (codes ";") (10 ∷ []) ∙
    ap (λ (w : List ℕ). text_of ((codes "    inputs[" ++ n ++ codes "] = " ++ (enclosed (s ++ codes " / " ++ k) ++ codes " + " ++ enclosed (enclosed (r ++ codes " + " ++ k) ++ codes " >> " ++ w) ++ codes " - "
    ++ enclosed (enclosed (less ++ codes " - " ++ r) ++ codes " >> " ++ w)) ++ codes ";") ∷ [])) width_text

-- ---- the header
pub guard_pieces : (a name h nl d rest : List ℕ) →
    a ++ (name ++ (h ++ (nl ++ (d ++ (name ++ (h ++ (nl ++ (rest ++ [])))))))) ≡ (a ++ name ++ h) ++ nl ++ ((d ++ name ++ h) ++ nl ++ rest)
guard_pieces a name h nl d rest = simp (append_assoc, append-nil) refl

pub size_pieces : (a name word b n l : List ℕ) → a ++ (name ++ (word ++ (b ++ (n ++ (l ++ []))))) ≡ (a ++ name ++ word ++ b ++ n) ++ l ++ []
size_pieces a name word b n l = simp append_assoc refl

-- a declaration and the lines behind it
pub ended : (h : List ℕ) (ls : List (List ℕ)) (t0 t1 t2 : List ℕ) → t1 ≡ t0 ++ h → t2 ≡ t1 ++ (codes ";" ++ 10 ∷ [] ++ text_of ls) → t2 ≡ t0 ++ text_of ((h ++ codes ";") ∷ ls)
ended h ls t0 t1 t2 e1 e2 =
    e2 ∙ ap (λ (t : List ℕ). t ++ (codes ";" ++ 10 ∷ [] ++ text_of ls)) e1 ∙ ended_pieces t0 h (codes ";") (10 ∷ []) (text_of ls)
  where
    ended_pieces : (t0 h s nl r : List ℕ) → (t0 ++ h) ++ (s ++ nl ++ r) ≡ t0 ++ (h ++ s ++ nl ++ r)
    ended_pieces t0 h s nl r = simp append_assoc refl

-- ---- what is needed
-- groups of which some are left out
pub needed_none : (types : Variable → Kind) (indent : List ℕ) (needed : Variable → Bool) (f : ℕ → List Statement) (old : List ℕ) → old ≡ old ++ block_text types indent (left_in needed (groups f 0))
needed_none types indent needed f old = sym (ap (λ (ss : List Statement). old ++ block_text types indent (left_in needed ss)) (groups_none f) ∙ append-nil old)

pub left_more : (types : Variable → Kind) (indent : List ℕ) (needed : Variable → Bool) (f : ℕ → List Statement) (n : ℕ) (old now new : List ℕ) →
    now ≡ old ++ block_text types indent (left_in needed (groups f n)) → new ≡ now ++ block_text types indent (left_in needed (f n)) →
    new ≡ old ++ block_text types indent (left_in needed (groups f (n + 1)))
left_more types indent needed f n old now new h e =
    blocks_more types indent (left_in needed (groups f n)) (left_in needed (f n)) old now new h e ∙
    ap (λ (ss : List Statement). old ++ block_text types indent ss) (sym (ap (left_in needed) (groups_suc f n) ∙ left_in_append needed (groups f n) (f n)))

pub needed_more : (types : Variable → Kind) (indent : List ℕ) (needed : Variable → Bool) (f : ℕ → List Statement) (b : Bool) (n : ℕ) (old now new : List ℕ) →
    left_in needed (f n) ≡ (if b then f n else []) → now ≡ old ++ block_text types indent (left_in needed (groups f n)) → new ≡ now ++ (if b then block_text types indent (f n) else []) →
    new ≡ old ++ block_text types indent (left_in needed (groups f (n + 1)))
needed_more types indent needed f b n old now new part h e =
    let text : (if b then block_text types indent (f n) else []) ≡ block_text types indent (left_in needed (f n)) =
    cond_both b (f n) [] (λ ss. (if b then block_text types indent (f n) else []) ≡ block_text types indent ss) (λ t. cond-true b _ _ t) (λ t. cond-false b _ _ t) ∙ ap (block_text types indent) (sym part) in
    left_more types indent needed f n old now new h (e ∙ ap (λ (t : List ℕ). now ++ t) text)

-- the needed ones of two lists
pub needed_blocks : (types : Variable → Kind) (indent : List ℕ) (needed : Variable → Bool) (xs ys : List Statement) (t0 t1 t2 : List ℕ) → t1 ≡ t0 ++ block_text types indent (left_in needed xs) →
    t2 ≡ t1 ++ block_text types indent (left_in needed ys) → t2 ≡ t0 ++ block_text types indent (left_in needed (xs ++ ys))
needed_blocks types indent needed xs ys t0 t1 t2 e1 e2 =
    blocks_more types indent (left_in needed xs) (left_in needed ys) t0 t1 t2 e1 e2 ∙ ap (λ (ss : List Statement). t0 ++ block_text types indent ss) (sym (left_in_append needed xs ys))
