-- A reader of statements, byte by byte: from the text of one it makes the statement, and the type that is given to its variable. So two statements never have one text.
use Rattle.std.proofs.Common.{◌≡◌, ℕ, zero, suc, ◌+◌, ◌*◌, ◌^◌, ◌<◌, ◌==◌, Bool, false, if◌then◌else◌, ℤ, pos, negsuc, List, [], ◌∷◌, ◌++◌, unsigned_abs, refl, sym, ap, subst, ◌∙◌, arith}
use Rattle.std.specs.Prelude.{codes, decimal}
use Rattle.std.specs.Char.{digit_value}
use Rattle.std.specs.Str.Parse.{AllDigits, digits_value_after}
use Rattle.std.proofs.lemmas.Fmt.{decimal_is_IsNumeral}
use Rattle.std.proofs.lemmas.Bool.{ne_eqb}
use Rattle.c_language.specs.Syntax.{Family, Variable, variable, letter_of, Kind, Expression, Statement}
use Rattle.c_language.specs.Syntax.Family.{State, Loaded, EntryBase, RowBase, Multiplier, Difference, Entry, Gradient, RowSum, Moved, Sum, Output, Own, Reached, Weight, Divisor, Shift, Power, Doubling, Reciprocal, Numerator, Head, Rest, MultiplierHigh, MultiplierLow, EntryHigh, EntryLow, EntryBaseHigh, RowBaseHigh, GradientHigh}
use Rattle.c_language.specs.Syntax.Kind.{Narrow, Wide}
use Rattle.c_language.specs.Syntax.Expression.{Constant, Value}
use Rattle.c_language.specs.Syntax.Statement.{Declare, Assign, AtLeastZero, AtMost}
use Rattle.c_language.specs.Text.{name_of, variable_text, kind_text, constant_text, enclosed, expression_text, cast_text, statement_text}
use Rattle.c_language.specs.Laws.{HasShortOperands, HasShortNumbers, kind_given, StatementTextLaw}
use Rattle.c_language.proofs.Reading.{Frame, Mode, Reader, at_mode, next, read, Counts, named_counts, indexed_counts, closed_sum, base_open, reads}
use Rattle.c_language.proofs.Reading.Mode.{Letter, Named, Indexed, Done, Space, Ready}
use Rattle.c_language.proofs.Reading.Frame.{Open, Left}

-- ---- the reader
-- what a name belongs to: a declaration of a type, an assignment, a test, or what is given after a test
data Form : Type 0 where
  Declaring : Kind → Form
  Assigning : Form
  Testing : Form
  Topping : Form

-- what comes next: the first byte; what follows an `i`; so many bytes of a word, and one more, that say nothing; a digit that tells a type; the bytes of a name; the digit of a cast's type;
-- an operator behind a name that is tested; a brace; the expression; nothing that tells more
data Phase : Type 0 where
  Start : Phase
  Word : Phase
  Pass : ℕ → Phase → Phase
  Typed : Phase
  Naming : Form → Mode → Phase
  Casting : Form → Variable → Phase
  Choosing : Variable → Phase
  Seeking : Phase
  Valued : Form → Kind → Variable → Reader → Phase
  Least : Variable → Phase

abbrev variable_in : Mode → Variable
variable_in (Named f n) = variable f n
variable_in (Done (Value v)) = v
variable_in other = variable State 0

-- behind a name and a space
abbrev named : Form → Variable → Phase
named (Declaring q) v = Pass 10 (Valued (Declaring q) q v (at_mode [] Ready))
named Assigning v = Pass 5 (Casting Assigning v)
named Testing v = Choosing v
named Topping v = Pass 5 (Casting Topping v)

abbrev enter : Form → Mode → ℕ → Phase
enter form m c = if c == 32 then named form (variable_in m) else Naming form (next m [] c).mode

abbrev step : Phase → ℕ → Phase
step Start c = if c == 105 then Word else enter Assigning Letter c
step Word c = if c == 102 then Pass 1 (Naming Testing Letter) else Pass 0 Typed
step (Pass zero p) c = p
step (Pass (suc n) p) c = Pass n p
step Typed c = Pass 3 (Naming (Declaring (if c == 51 then Narrow else Wide)) Letter)
step (Naming form m) c = enter form m c
step (Casting form v) c = Pass 3 (Valued form (if c == 51 then Narrow else Wide) v (at_mode [] Ready))
step (Choosing v) c = if c == 60 then Least v else Seeking
step Seeking c = if c == 123 then Pass 0 (Naming Topping Letter) else Seeking
step (Valued form q v r) c = Valued form q v (next r.mode r.stack c)
step (Least v) c = Least v

abbrev scan : Phase → List ℕ → Phase
scan p [] = p
scan p (c ∷ cs) = scan (step p c) cs

scan_append : (p : Phase) (xs ys : List ℕ) → scan p (xs ++ ys) ≡ scan (scan p xs) ys
scan_append p [] ys = refl
scan_append p (x ∷ xs) ys = scan_append (step p x) xs ys

-- ---- what was read
abbrev constant_in : Expression → ℤ
constant_in (Constant z) = z
constant_in other = pos 0

abbrev stated : Form → Variable → Expression → Statement
stated (Declaring q) v e = Declare v e
stated Assigning v e = Assign v e
stated Testing v e = AtLeastZero v
stated Topping v e = AtMost v (constant_in e)

abbrev value_at : List Frame → Mode → Expression
value_at (Left o e ∷ st) m = e
value_at [] (Space e) = e
value_at st m = Constant (pos 0)

abbrev value_in : Reader → Expression
value_in r = value_at r.stack r.mode

abbrev statement_in : Phase → Statement
statement_in (Valued form q v r) = stated form v (value_in r)
statement_in (Least v) = AtLeastZero v
statement_in other = AtLeastZero (variable State 0)

abbrev kind_in : Phase → Kind
kind_in (Valued form q v r) = q
kind_in other = Wide

-- ---- names
pub not_digit : (c d : ℕ) → digit_value c < 10 → (digit_value d < 10 → ⊥) → (c == d) ≡ false
not_digit c d h k = ne_eqb c d (λ e. k (subst (λ (n : ℕ). digit_value n < 10) e h))

space_value : digit_value 32 < 10 → ⊥
space_value h = let l : 36 < 10 = h in absurd (omega (arith, l))

brace_value : digit_value 123 < 10 → ⊥
brace_value h = let l : 36 < 10 = h in absurd (omega (arith, l))

digits_scan : (form : Form) (m : ℕ → Mode) → Counts m [] → (n : ℕ) (ds : List ℕ) → AllDigits 10 ds → scan (Naming form (m n)) ds ≡ Naming form (m (digits_value_after 10 n ds))
digits_scan form m h n [] d = refl
digits_scan form m h n (c ∷ cs) d =
    ap (λ (b : Bool). scan (if b then named form (variable_in (m n)) else Naming form (next (m n) [] c).mode) cs) (not_digit c 32 d.0 space_value) ∙
    ap (λ (r : Reader). scan (Naming form r.mode) cs) (h n c d.0) ∙ digits_scan form m h (n * 10 + digit_value c) cs d.1

number_scan : (form : Form) (m : ℕ → Mode) → Counts m [] → (k : ℕ) → k < 2 ^ 64 → scan (Naming form (m 0)) (decimal k) ≡ Naming form (m k)
number_scan form m h k small = let d = decimal_is_IsNumeral k small in digits_scan form m h 0 (decimal k) d.0.1 ∙ ap (λ (n : ℕ). Naming form (m n)) d.1

record Names (p : Phase) (form : Form) (xs : List ℕ) (v : Variable) : Type 0 where
  mode : Mode
  is : scan p xs ≡ Naming form mode
  last : variable_in mode ≡ v

-- a phase in which a name begins
abbrev Begins : Phase → Form → Type 0
Begins p form = (c : ℕ) → (c == 105) ≡ false → step p c ≡ enter form Letter c

begins_there : (form : Form) → Begins (Naming form Letter) form
begins_there form c h = refl

begins_first : Begins Start Assigning
begins_first c h = rw h refl

letter_scan : (p : Phase) (form : Form) (f : Family) (k : ℕ) → Begins p form → name_of f k ≡ letter_of f ∷ decimal k → (letter_of f == 105) ≡ false →
    enter form Letter (letter_of f) ≡ Naming form (Named f 0) → k < 2 ^ 64 → Names p form (name_of f k) (variable f k)
letter_scan p form f k begins name first same small = record {
  mode = Named f k;
  is = ap (scan p) name ∙ ap (λ (q : Phase). scan q (decimal k)) (begins (letter_of f) first ∙ same) ∙ number_scan form (Named f) (named_counts f []) k small;
  last = refl;
}

word_scan : (p : Phase) (form : Form) (f : Family) (k : ℕ) (word : List ℕ) → name_of f k ≡ word ++ decimal k ++ codes "]" → scan p word ≡ Naming form (Indexed f 0) → k < 2 ^ 64 → Names p form (name_of f k) (variable f k)
word_scan p form f k word name first small = record {
  mode = Done (Value (variable f k));
  is = ap (scan p) name ∙ scan_append p (word ++ decimal k) (codes "]") ∙ ap (λ (q : Phase). scan q (codes "]")) (scan_append p word (decimal k) ∙
      ap (λ (q : Phase). scan q (decimal k)) first ∙ number_scan form (Indexed f) (indexed_counts f []) k small);
  last = refl;
}

name_scan : (p : Phase) (form : Form) → Begins p form → (f : Family) (k : ℕ) → k < 2 ^ 64 → Names p form (name_of f k) (variable f k)
name_scan p form b State k h = word_scan p form State k (codes "state[") refl (ap (λ (q : Phase). scan q (codes "tate[")) (b 115 refl)) h
name_scan p form b Output k h = word_scan p form Output k (codes "sums[") refl (ap (λ (q : Phase). scan q (codes "ums[")) (b 115 refl)) h
name_scan p form b Loaded k h = letter_scan p form Loaded k b refl refl refl h
name_scan p form b EntryBase k h = letter_scan p form EntryBase k b refl refl refl h
name_scan p form b RowBase k h = letter_scan p form RowBase k b refl refl refl h
name_scan p form b Multiplier k h = letter_scan p form Multiplier k b refl refl refl h
name_scan p form b Difference k h = letter_scan p form Difference k b refl refl refl h
name_scan p form b Entry k h = letter_scan p form Entry k b refl refl refl h
name_scan p form b Gradient k h = letter_scan p form Gradient k b refl refl refl h
name_scan p form b RowSum k h = letter_scan p form RowSum k b refl refl refl h
name_scan p form b Moved k h = letter_scan p form Moved k b refl refl refl h
name_scan p form b Sum k h = letter_scan p form Sum k b refl refl refl h
name_scan p form b Own k h = letter_scan p form Own k b refl refl refl h
name_scan p form b Reached k h = letter_scan p form Reached k b refl refl refl h
name_scan p form b Weight k h = letter_scan p form Weight k b refl refl refl h
name_scan p form b Divisor k h = letter_scan p form Divisor k b refl refl refl h
name_scan p form b Shift k h = letter_scan p form Shift k b refl refl refl h
name_scan p form b Power k h = letter_scan p form Power k b refl refl refl h
name_scan p form b Doubling k h = letter_scan p form Doubling k b refl refl refl h
name_scan p form b Reciprocal k h = letter_scan p form Reciprocal k b refl refl refl h
name_scan p form b Numerator k h = letter_scan p form Numerator k b refl refl refl h
name_scan p form b Head k h = letter_scan p form Head k b refl refl refl h
name_scan p form b Rest k h = letter_scan p form Rest k b refl refl refl h
name_scan p form b MultiplierHigh k h = letter_scan p form MultiplierHigh k b refl refl refl h
name_scan p form b MultiplierLow k h = letter_scan p form MultiplierLow k b refl refl refl h
name_scan p form b EntryHigh k h = letter_scan p form EntryHigh k b refl refl refl h
name_scan p form b EntryLow k h = letter_scan p form EntryLow k b refl refl refl h
name_scan p form b EntryBaseHigh k h = letter_scan p form EntryBaseHigh k b refl refl refl h
name_scan p form b RowBaseHigh k h = letter_scan p form RowBaseHigh k b refl refl refl h
name_scan p form b GradientHigh k h = letter_scan p form GradientHigh k b refl refl refl h

-- a name, and what is behind it
behind_name : (p : Phase) (form : Form) (xs rest : List ℕ) (v : Variable) → Names p form xs v → scan (scan p xs) (32 ∷ rest) ≡ scan (named form v) rest
behind_name p form xs rest v n = ap (λ (q : Phase). scan q (32 ∷ rest)) n.is ∙ ap (λ (u : Variable). scan (named form u) rest) n.last

after_name : (p : Phase) (form : Form) (xs rest : List ℕ) (v : Variable) → Names p form xs v → scan p (xs ++ 32 ∷ rest) ≡ scan (named form v) rest
after_name p form xs rest v n = scan_append p xs (32 ∷ rest) ∙ behind_name p form xs rest v n

-- ---- what a variable is given
valued_scan : (form : Form) (q : Kind) (v : Variable) (r : Reader) (xs : List ℕ) → scan (Valued form q v r) xs ≡ Valued form q v (read r xs)
valued_scan form q v r [] = refl
valued_scan form q v r (x ∷ xs) = valued_scan form q v (next r.mode r.stack x) xs

given_scan : (form : Form) (q : Kind) (v : Variable) (a : Expression) (rest : List ℕ) → HasShortNumbers a →
    scan (Valued form q v (at_mode [] Ready)) (enclosed (expression_text a) ++ rest) ≡ Valued form q v (read (at_mode [] (Done a)) rest)
given_scan form q v a rest h =
    scan_append (Valued form q v (at_mode [] Ready)) (enclosed (expression_text a)) rest ∙
    ap (λ (p : Phase). scan p rest) (valued_scan form q v (at_mode [] Ready) (enclosed (expression_text a)) ∙
    ap (Valued form q v) (closed_sum [] (expression_text a) a ((reads a h).plain (Open ∷ []) (base_open [])))) ∙
    valued_scan form q v (at_mode [] (Done a)) rest

-- ---- statements
-- after its text a reader has the statement and the type
record IsStated (k : Variable → Kind) (s : Statement) : Type 0 where
  statement : statement_in (scan Start (statement_text k s)) ≡ s
  kind : kind_in (scan Start (statement_text k s)) ≡ kind_given k s

abbrev behind : List ℕ
behind = codes ";"

declared_scan : (q : Kind) (v : Variable) (a : Expression) → v.number < 2 ^ 64 → HasShortNumbers a →
    scan Start (kind_text q ++ codes " " ++ variable_text v ++ cast_text q a) ≡ Valued (Declaring q) q v (at_mode [] (Space a))
declared_scan Narrow v a h l =
    after_name (Naming (Declaring Narrow) Letter) (Declaring Narrow) (variable_text v) (codes "= (int32_t)" ++ (enclosed (expression_text a) ++ codes ";")) v
    (name_scan (Naming (Declaring Narrow) Letter) (Declaring Narrow) (begins_there (Declaring Narrow)) v.family v.number h) ∙ given_scan (Declaring Narrow) Narrow v a (codes ";") l
declared_scan Wide v a h l =
    after_name (Naming (Declaring Wide) Letter) (Declaring Wide) (variable_text v) (codes "= (int64_t)" ++ (enclosed (expression_text a) ++ codes ";")) v
    (name_scan (Naming (Declaring Wide) Letter) (Declaring Wide) (begins_there (Declaring Wide)) v.family v.number h) ∙ given_scan (Declaring Wide) Wide v a (codes ";") l

-- what is given to a name that was read
cast_scan : (form : Form) (q : Kind) (v : Variable) (a : Expression) → HasShortNumbers a → named form v ≡ Pass 5 (Casting form v) → (p : Phase) → Names p form (variable_text v) v →
    scan (scan p (variable_text v)) (cast_text q a) ≡ Valued form q v (at_mode [] (Space a))
cast_scan form Narrow v a l same p n =
    behind_name p form (variable_text v) (codes "= (int32_t)" ++ (enclosed (expression_text a) ++ codes ";")) v n ∙
    ap (λ (q : Phase). scan q (codes "= (int32_t)" ++ (enclosed (expression_text a) ++ codes ";"))) same ∙ given_scan form Narrow v a (codes ";") l
cast_scan form Wide v a l same p n =
    behind_name p form (variable_text v) (codes "= (int64_t)" ++ (enclosed (expression_text a) ++ codes ";")) v n ∙
    ap (λ (q : Phase). scan q (codes "= (int64_t)" ++ (enclosed (expression_text a) ++ codes ";"))) same ∙ given_scan form Wide v a (codes ";") l

least_scan : (v : Variable) (xs : List ℕ) → scan (Least v) xs ≡ Least v
least_scan v [] = refl
least_scan v (x ∷ xs) = least_scan v xs

seek_digits : (ds : List ℕ) → AllDigits 10 ds → scan Seeking ds ≡ Seeking
seek_digits [] d = refl
seek_digits (c ∷ cs) d =
    ap (λ (b : Bool). scan (if b then Pass 0 (Naming Topping Letter) else Seeking) cs) (not_digit c 123 d.0 brace_value) ∙ seek_digits cs d.1

seek_constant : (z : ℤ) → unsigned_abs z < 2 ^ 64 → scan Seeking (constant_text z) ≡ Seeking
seek_constant (pos n) h = scan_append Seeking (decimal n) (codes ")") ∙ ap (λ (p : Phase). scan p (codes ")")) (seek_digits (decimal n) (decimal_is_IsNumeral n h).0.1)
seek_constant (negsuc n) h =
    scan_append Seeking (decimal (suc n)) (codes "))") ∙ ap (λ (p : Phase). scan p (codes "))")) (seek_digits (decimal (suc n)) (decimal_is_IsNumeral (suc n) (omega (arith, h))).0.1)

least_stated : (v : Variable) → v.number < 2 ^ 64 →
    scan Start (codes "if (" ++ variable_text v ++ codes " < 0) { " ++ variable_text v ++ codes " = 0; }") ≡ Least v
least_stated v h =
    let p = Naming Testing Letter in
    let name = variable_text v in
    scan_append p (name ++ codes " < 0) { " ++ name) (codes " = 0; }") ∙
    ap (λ (q : Phase). scan q (codes " = 0; }")) (scan_append p (name ++ codes " < 0) { ") name ∙
    ap (λ (q : Phase). scan q name) (after_name p Testing name (codes "< 0) { ") v (name_scan p Testing (begins_there Testing) v.family v.number h)) ∙ least_scan v name) ∙
    least_scan v (codes " = 0; }")

most_stated : (q : Kind) (v : Variable) (top : ℤ) → v.number < 2 ^ 64 → unsigned_abs top < 2 ^ 64 →
    scan Start (codes "if (" ++ variable_text v ++ codes " > " ++ constant_text top ++ codes ") { " ++ variable_text v ++ cast_text q (Constant top) ++ codes " }") ≡
    scan (Valued Topping q v (at_mode [] (Space (Constant top)))) (codes " }")
most_stated q v top h l =
    let p = Naming Testing Letter in
    let t = Naming Topping Letter in
    let name = variable_text v in
    let number = constant_text top in
    let cast = cast_text q (Constant top) in
    let first : scan p (name ++ codes " > ") ≡ Seeking = after_name p Testing name (codes "> ") v (name_scan p Testing (begins_there Testing) v.family v.number h) in
    let second : scan p (name ++ codes " > " ++ number) ≡ Seeking =
    scan_append p (name ++ codes " > ") number ∙ ap (λ (r : Phase). scan r number) first ∙ seek_constant top l in
    let third : scan p (name ++ codes " > " ++ number ++ codes ") { ") ≡ t =
    scan_append p (name ++ codes " > " ++ number) (codes ") { ") ∙ ap (λ (r : Phase). scan r (codes ") { ")) second in
    let fourth : scan p (name ++ codes " > " ++ number ++ codes ") { " ++ name) ≡ scan t name =
    scan_append p (name ++ codes " > " ++ number ++ codes ") { ") name ∙ ap (λ (r : Phase). scan r name) third in
    let fifth : scan p (name ++ codes " > " ++ number ++ codes ") { " ++ name ++ cast) ≡ Valued Topping q v (at_mode [] (Space (Constant top))) =
    scan_append p (name ++ codes " > " ++ number ++ codes ") { " ++ name) cast ∙ ap (λ (r : Phase). scan r cast) fourth ∙
    cast_scan Topping q v (Constant top) l refl t (name_scan t Topping (begins_there Topping) v.family v.number h) in
    scan_append p (name ++ codes " > " ++ number ++ codes ") { " ++ name ++ cast) (codes " }") ∙ ap (λ (r : Phase). scan r (codes " }")) fifth

is_stated : (k : Variable → Kind) (s : Statement) → HasShortOperands s → IsStated k s
is_stated k (Declare v a) h =
    let e = declared_scan (k v) v a h.0 h.1 in record { statement = ap statement_in e; kind = ap kind_in e }
is_stated k (Assign v a) h =
    let e = scan_append Start (variable_text v) (cast_text (k v) a) ∙ cast_scan Assigning (k v) v a h.1 refl Start (name_scan Start Assigning begins_first v.family v.number h.0) in
    record { statement = ap statement_in e; kind = ap kind_in e }
is_stated k (AtLeastZero v) h = let e = least_stated v h in record { statement = ap statement_in e; kind = ap kind_in e }
is_stated k (AtMost v top) h = let e = most_stated (k v) v top h.0 h.1 in record { statement = ap statement_in e; kind = ap kind_in e }

pub statement_text_law : StatementTextLaw
statement_text_law k l s t h m same =
    let a = is_stated k s h in
    let b = is_stated l t m in
    (sym a.statement ∙ ap (λ (xs : List ℕ). statement_in (scan Start xs)) same ∙ b.statement, sym a.kind ∙ ap (λ (xs : List ℕ). kind_in (scan Start xs)) same ∙ b.kind)
