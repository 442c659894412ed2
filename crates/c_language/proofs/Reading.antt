-- A reader of expressions, byte by byte: from the text of one it makes that expression. So two expressions never have one text.
use Rattle.std.proofs.Common.{◌≡◌, ℕ, zero, suc, ◌+◌, ◌*◌, ◌^◌, ◌<◌, ◌==◌, Bool, true, false, if◌then◌else◌, ltb, ℤ, pos, negsuc, neg_ℤ, List, [], ◌∷◌, ◌++◌, unsigned_abs, refl, sym, ap, ◌∙◌, append_assoc, arith}
use Rattle.std.specs.Prelude.{codes, decimal}
use Rattle.std.specs.Char.{digit_value}
use Rattle.std.specs.Str.Parse.{AllDigits, digits_value_after}
use Rattle.std.proofs.lemmas.Fmt.{decimal_is_IsNumeral}
use Rattle.std.proofs.lemmas.Bool.{lt-ltb}
use Rattle.c_language.specs.Syntax.{Family, Variable, variable, letter_of, Expression}
use Rattle.c_language.specs.Syntax.Family.{State, Loaded, EntryBase, RowBase, Multiplier, Difference, Entry, Gradient, RowSum, Moved, Sum, Output, Own, Reached, Weight, Divisor, Shift, Power, Doubling, Reciprocal, Numerator, Head, Rest, MultiplierHigh, MultiplierLow, EntryHigh, EntryLow, EntryBaseHigh, RowBaseHigh, GradientHigh}
use Rattle.c_language.specs.Syntax.Expression.{Constant, Value, Plus, Minus, Times, Quotient, Remainder, Over, Shifted, ShiftedBy}
use Rattle.c_language.specs.Text.{variable_text, name_of, constant_text, enclosed, closed, expression_text}
use Rattle.c_language.specs.Laws.{HasShortNumbers, ExpressionTextLaw}

-- ---- the reader
pub data Operator : Type 0 where
  Add : Operator
  Subtract : Operator
  Multiply : Operator
  Divide : Operator
  Modulo : Operator
  Lower : Operator

-- what is still open: a parenthesis, or an operator behind its first operand
pub data Frame : Type 0 where
  Open : Frame
  Left : Operator → Expression → Frame

-- what comes next: an operand; so many bytes of a word, and one more, that say nothing; the digits of a literal; the letter of a variable; the digits of its number, in brackets or not;
-- a delimiter behind an operand; an operator; the space behind one; the digits of a shift, or the variable that it is by
pub data Mode : Type 0 where
  Ready : Mode
  Skip : ℕ → Mode → Mode
  Number : Bool → ℕ → Mode
  Letter : Mode
  Named : Family → ℕ → Mode
  Indexed : Family → ℕ → Mode
  Done : Expression → Mode
  Space : Expression → Mode
  Gap : Mode
  Shifting : Expression → ℕ → Mode

pub record Reader : Type 0 where
  pub stack : List Frame
  pub mode : Mode

abbrev pub at_mode : List Frame → Mode → Reader
at_mode st m = record { stack = st; mode = m }

abbrev pub signed : Bool → ℕ → ℤ
signed false n = pos n
signed true n = neg_ℤ (pos n)

abbrev pub size_of : Expression → ℕ
size_of (Constant z) = unsigned_abs z
size_of other = 0

abbrev pub divided : Expression → Expression → Expression
divided a (Value v) = Over a v
divided a other = Quotient a (size_of other)

abbrev pub lowered : Expression → Expression → Expression
lowered a (Value v) = ShiftedBy a v
lowered a other = a

abbrev pub made : Operator → Expression → Expression → Expression
made Add a e = Plus a e
made Subtract a e = Minus a e
made Multiply a e = Times a e
made Divide a e = divided a e
made Modulo a e = Remainder a (size_of e)
made Lower a e = lowered a e

abbrev pub operator_of : ℕ → Operator
operator_of c = if c == 43 then Add else (if c == 45 then Subtract else (if c == 42 then Multiply else (if c == 47 then Divide else Modulo)))

abbrev pub family_of : ℕ → Family
family_of c =
    if c == 120 then Loaded else (if c == 97 then EntryBase else (if c == 114 then RowBase else (if c == 108 then Multiplier else (if c == 100 then Difference else
    (if c == 117 then Entry else (if c == 103 then Gradient else (if c == 121 then RowSum else (if c == 116 then Moved else (if c == 109 then Own else (if c == 118 then Reached else
    (if c == 107 then Weight else (if c == 98 then Divisor else (if c == 101 then Shift else (if c == 112 then Power else (if c == 99 then Doubling else
    (if c == 113 then Reciprocal else (if c == 110 then Numerator else (if c == 104 then Head else (if c == 122 then Rest else
    (if c == 76 then MultiplierHigh else (if c == 106 then MultiplierLow else (if c == 85 then EntryHigh else
    (if c == 119 then EntryLow else (if c == 65 then EntryBaseHigh else (if c == 82 then RowBaseHigh else (if c == 71 then GradientHigh else Sum))))))))))))))))))))))))))

-- an operand with the operator before it
abbrev pub below : List Frame → List Frame
below [] = []
below (Open ∷ st) = Open ∷ st
below (Left o a ∷ st) = st

abbrev pub whole : List Frame → Expression → Expression
whole [] e = e
whole (Open ∷ st) e = e
whole (Left o a ∷ st) e = made o a e

abbrev pub popped : List Frame → List Frame
popped [] = []
popped (f ∷ st) = st

-- behind an operand stands a parenthesis or a space
abbrev pub delimited : List Frame → Expression → ℕ → Reader
delimited st e c = if c == 41 then at_mode (popped st) (Done e) else at_mode st (Space e)

abbrev pub ended : List Frame → Expression → ℕ → Reader
ended st e c = delimited (below st) (whole st e) c

abbrev pub next : Mode → List Frame → ℕ → Reader
next Ready st c =
    if c == 40 then at_mode (Open ∷ st) Ready else (if c == 73 then at_mode st (Skip 6 (Number false 0)) else
    (if c == 45 then at_mode st (Skip 7 (Number true 0)) else at_mode (popped st) (Skip 6 Letter)))
next (Skip zero m) st c = at_mode st m
next (Skip (suc n) m) st c = at_mode st (Skip n m)
next (Number b n) st c = if ltb (digit_value c) 10 then at_mode st (Number b (n * 10 + digit_value c)) else at_mode st (Done (Constant (signed b n)))
next Letter st c = at_mode st (Named (family_of c) 0)
next (Named f n) st c =
    if ltb (digit_value c) 10 then at_mode st (Named f (n * 10 + digit_value c)) else
    (if c == 116 then at_mode st (Skip 3 (Indexed State 0)) else (if c == 117 then at_mode st (Skip 2 (Indexed Output 0)) else ended st (Value (variable f n)) c))
next (Indexed f n) st c = if ltb (digit_value c) 10 then at_mode st (Indexed f (n * 10 + digit_value c)) else at_mode st (Done (Value (variable f n)))
next (Done e) st c = ended st e c
next (Space e) st c = if c == 62 then at_mode st (Skip 1 (Shifting e 0)) else at_mode (Left (operator_of c) e ∷ st) Gap
next Gap st c = at_mode st Ready
next (Shifting e n) st c =
    if ltb (digit_value c) 10 then at_mode st (Shifting e (n * 10 + digit_value c)) else
    (if c == 40 then at_mode (Open ∷ Left Lower e ∷ st) Ready else at_mode (popped st) (Done (Shifted e n)))

abbrev pub read : Reader → List ℕ → Reader
read r [] = r
read r (c ∷ cs) = read (next r.mode r.stack c) cs

abbrev pub operand : Mode → Expression
operand (Done e) = e
operand (Named f n) = Value (variable f n)
operand other = Constant (pos 0)

abbrev pub finished : Reader → Expression
finished r = whole r.stack (operand r.mode)

read_append : (r : Reader) (xs ys : List ℕ) → read r (xs ++ ys) ≡ read (read r xs) ys
read_append r [] ys = refl
read_append r (x ∷ xs) ys = read_append (next r.mode r.stack x) xs ys

-- ---- numbers
-- a mode reads digits
abbrev pub Counts : (ℕ → Mode) → List Frame → Type 0
Counts m st = (n c : ℕ) → digit_value c < 10 → next (m n) st c ≡ at_mode st (m (n * 10 + digit_value c))

digits_read : (m : ℕ → Mode) (st : List Frame) → Counts m st → (n : ℕ) (ds : List ℕ) → AllDigits 10 ds → read (at_mode st (m n)) ds ≡ at_mode st (m (digits_value_after 10 n ds))
digits_read m st h n [] d = refl
digits_read m st h n (c ∷ cs) d = ap (λ (r : Reader). read r cs) (h n c d.0) ∙ digits_read m st h (n * 10 + digit_value c) cs d.1

number_read : (m : ℕ → Mode) (st : List Frame) → Counts m st → (k : ℕ) → k < 2 ^ 64 → read (at_mode st (m 0)) (decimal k) ≡ at_mode st (m k)
number_read m st h k small = let d = decimal_is_IsNumeral k small in digits_read m st h 0 (decimal k) d.0.1 ∙ ap (λ (n : ℕ). at_mode st (m n)) d.1

number_counts : (b : Bool) (st : List Frame) → Counts (Number b) st
number_counts b st n c h = rw (lt-ltb (digit_value c) 10 h) refl

pub named_counts : (f : Family) (st : List Frame) → Counts (Named f) st
named_counts f st n c h = rw (lt-ltb (digit_value c) 10 h) refl

pub indexed_counts : (f : Family) (st : List Frame) → Counts (Indexed f) st
indexed_counts f st n c h = rw (lt-ltb (digit_value c) 10 h) refl

shift_counts : (e : Expression) (st : List Frame) → Counts (Shifting e) st
shift_counts e st n c h = rw (lt-ltb (digit_value c) 10 h) refl

-- ---- operands
-- after a text stands an operand, and what is behind it ends it
pub record Reads (st : List Frame) (xs : List ℕ) (to : List Frame) (e : Expression) : Type 0 where
  mode : Mode
  is : read (at_mode st Ready) xs ≡ at_mode to mode
  space : next mode to 32 ≡ ended to e 32
  close : next mode to 41 ≡ ended to e 41
  last : operand mode ≡ e

reads_done : (st : List Frame) (xs : List ℕ) (e : Expression) → read (at_mode st Ready) xs ≡ at_mode st (Done e) → Reads st xs st e
reads_done st xs e h = record { mode = Done e; is = h; space = refl; close = refl; last = refl }

-- a sum, whose last operand may still have its operator before it
pub record Sums (st : List Frame) (xs : List ℕ) (e : Expression) : Type 0 where
  to : List Frame
  operand : Expression
  reads : Reads st xs to operand
  stack : below to ≡ st
  value : whole to operand ≡ e

-- no operator is pending
pub record IsBase (st : List Frame) : Type 0 where
  stack : below st ≡ st
  value : (e : Expression) → whole st e ≡ e

pub base_open : (st : List Frame) → IsBase (Open ∷ st)
base_open st = record { stack = refl; value = λ e. refl }

sum_of : (st : List Frame) (xs : List ℕ) (e : Expression) → IsBase st → Reads st xs st e → Sums st xs e
sum_of st xs e b r = record { to = st; operand = e; reads = r; stack = b.stack; value = b.value e }

pub closed_sum : (st : List Frame) (xs : List ℕ) (e : Expression) → Sums (Open ∷ st) xs e → read (at_mode st Ready) (enclosed xs) ≡ at_mode st (Done e)
closed_sum st xs e s =
    read_append (at_mode (Open ∷ st) Ready) xs (41 ∷ []) ∙ ap (λ (r : Reader). read r (41 ∷ [])) s.reads.is ∙ s.reads.close ∙
    ap (λ (to : List Frame). at_mode (popped to) (Done (whole s.to s.operand))) s.stack ∙ ap (λ (x : Expression). at_mode st (Done x)) s.value

-- an operator behind a sum, and an operand behind that
operated : (o : Operator) (c : ℕ) (st : List Frame) (xs ys : List ℕ) (a b : Expression) → ((x : Expression) → next (Space x) st c ≡ at_mode (Left o x ∷ st) Gap) → Sums st xs a →
    Reads (Left o a ∷ st) ys (Left o a ∷ st) b → Sums st (xs ++ (32 ∷ c ∷ 32 ∷ []) ++ ys) (made o a b)
operated o c st xs ys a b h s r =
    let first : read (at_mode st Ready) (xs ++ (32 ∷ c ∷ 32 ∷ [])) ≡ at_mode (Left o a ∷ st) Ready =
    read_append (at_mode st Ready) xs (32 ∷ c ∷ 32 ∷ []) ∙ ap (λ (r : Reader). read r (32 ∷ c ∷ 32 ∷ [])) s.reads.is ∙ ap (λ (r : Reader). read r (c ∷ 32 ∷ [])) s.reads.space ∙
    ap (λ (to : List Frame). read (next (Space (whole s.to s.operand)) to c) (32 ∷ [])) s.stack ∙ ap (λ (x : Expression). read (next (Space x) st c) (32 ∷ [])) s.value ∙
    ap (λ (r : Reader). read r (32 ∷ [])) (h a) in
    record {
      to = Left o a ∷ st;
      operand = b;
      reads = record {
        mode = r.mode;
        is = read_append (at_mode st Ready) (xs ++ (32 ∷ c ∷ 32 ∷ [])) ys ∙ ap (λ (q : Reader). read q ys) first ∙ r.is;
        space = r.space;
        close = r.close;
        last = r.last;
      };
      stack = refl;
      value = refl;
    }

-- ---- literals and variables
constant_read : (z : ℤ) (st : List Frame) → unsigned_abs z < 2 ^ 64 → Reads st (constant_text z) st (Constant z)
constant_read (pos n) st h = reads_done st _ _
    (read_append (at_mode st (Number false 0)) (decimal n) (41 ∷ []) ∙ ap (λ (r : Reader). read r (41 ∷ [])) (number_read (Number false) st (number_counts false st) n h))
constant_read (negsuc n) st h = reads_done st _ _
    (read_append (at_mode (Open ∷ st) (Number true 0)) (decimal (suc n)) (41 ∷ 41 ∷ []) ∙
    ap (λ (r : Reader). read r (41 ∷ 41 ∷ [])) (number_read (Number true) (Open ∷ st) (number_counts true (Open ∷ st)) (suc n) (omega (arith, h))))

named_read : (f : Family) (k : ℕ) (st : List Frame) → name_of f k ≡ letter_of f ∷ decimal k → family_of (letter_of f) ≡ f → k < 2 ^ 64 →
    Reads st (expression_text (Value (variable f k))) st (Value (variable f k))
named_read f k st name family small = record {
  mode = Named f k;
  is = ap (λ (t : List ℕ). read (at_mode st Letter) t) name ∙ ap (λ (g : Family). read (at_mode st (Named g 0)) (decimal k)) family ∙ number_read (Named f) st (named_counts f st) k small;
  space = refl;
  close = refl;
  last = refl;
}

variable_read : (f : Family) (k : ℕ) (st : List Frame) → k < 2 ^ 64 → Reads st (expression_text (Value (variable f k))) st (Value (variable f k))
variable_read State k st h = reads_done st _ _
    (read_append (at_mode st (Indexed State 0)) (decimal k) (93 ∷ []) ∙ ap (λ (r : Reader). read r (93 ∷ [])) (number_read (Indexed State) st (indexed_counts State st) k h))
variable_read Output k st h = reads_done st _ _
    (read_append (at_mode st (Indexed Output 0)) (decimal k) (93 ∷ []) ∙ ap (λ (r : Reader). read r (93 ∷ [])) (number_read (Indexed Output) st (indexed_counts Output st) k h))
variable_read Loaded k st h = named_read Loaded k st refl refl h
variable_read EntryBase k st h = named_read EntryBase k st refl refl h
variable_read RowBase k st h = named_read RowBase k st refl refl h
variable_read Multiplier k st h = named_read Multiplier k st refl refl h
variable_read Difference k st h = named_read Difference k st refl refl h
variable_read Entry k st h = named_read Entry k st refl refl h
variable_read Gradient k st h = named_read Gradient k st refl refl h
variable_read RowSum k st h = named_read RowSum k st refl refl h
variable_read Moved k st h = named_read Moved k st refl refl h
variable_read Sum k st h = named_read Sum k st refl refl h
variable_read Own k st h = named_read Own k st refl refl h
variable_read Reached k st h = named_read Reached k st refl refl h
variable_read Weight k st h = named_read Weight k st refl refl h
variable_read Divisor k st h = named_read Divisor k st refl refl h
variable_read Shift k st h = named_read Shift k st refl refl h
variable_read Power k st h = named_read Power k st refl refl h
variable_read Doubling k st h = named_read Doubling k st refl refl h
variable_read Reciprocal k st h = named_read Reciprocal k st refl refl h
variable_read Numerator k st h = named_read Numerator k st refl refl h
variable_read Head k st h = named_read Head k st refl refl h
variable_read Rest k st h = named_read Rest k st refl refl h
variable_read MultiplierHigh k st h = named_read MultiplierHigh k st refl refl h
variable_read MultiplierLow k st h = named_read MultiplierLow k st refl refl h
variable_read EntryHigh k st h = named_read EntryHigh k st refl refl h
variable_read EntryLow k st h = named_read EntryLow k st refl refl h
variable_read EntryBaseHigh k st h = named_read EntryBaseHigh k st refl refl h
variable_read RowBaseHigh k st h = named_read RowBaseHigh k st refl refl h
variable_read GradientHigh k st h = named_read GradientHigh k st refl refl h

-- ---- expressions
-- as a sum, and as an operand
pub record IsRead (e : Expression) : Type 0 where
  pub plain : (st : List Frame) → IsBase st → Sums st (expression_text e) e
  pub apart : (st : List Frame) → Reads st (closed e (expression_text e)) st e

-- one that stands in parentheses or is one value is its own operand
read_one : (e : Expression) → ((xs : List ℕ) → closed e xs ≡ xs) → ((st : List Frame) → Reads st (expression_text e) st e) → IsRead e
read_one e same r = record {
  plain = λ st b. sum_of st (expression_text e) e b (r st);
  apart = λ st. let h = r st in record { mode = h.mode; is = ap (λ (t : List ℕ). read (at_mode st Ready) t) (same (expression_text e)) ∙ h.is; space = h.space; close = h.close; last = h.last };
}

read_sum : (e : Expression) → ((xs : List ℕ) → closed e xs ≡ enclosed xs) → ((st : List Frame) → IsBase st → Sums st (expression_text e) e) → IsRead e
read_sum e same s = record {
  plain = s;
  apart = λ st. reads_done st _ e (ap (λ (t : List ℕ). read (at_mode st Ready) t) (same (expression_text e)) ∙ closed_sum st (expression_text e) e (s (Open ∷ st) (base_open st)));
}

-- two operands in parentheses
product_read : (o : Operator) (c : ℕ) (st : List Frame) (a b : Expression) (xs ys : List ℕ) → ((to : List Frame) (x : Expression) → next (Space x) to c ≡ at_mode (Left o x ∷ to) Gap) →
    Reads (Open ∷ st) xs (Open ∷ st) a → Reads (Left o a ∷ Open ∷ st) ys (Left o a ∷ Open ∷ st) b → Reads st (enclosed (xs ++ (32 ∷ c ∷ 32 ∷ []) ++ ys)) st (made o a b)
product_read o c st a b xs ys h r s =
    reads_done st _ _ (closed_sum st (xs ++ (32 ∷ c ∷ 32 ∷ []) ++ ys) (made o a b) (operated o c (Open ∷ st) xs ys a b (h (Open ∷ st)) (sum_of (Open ∷ st) xs a (base_open st) r) s))

-- a sum in parentheses, and the shift behind it
lowered_read : (st : List Frame) (a : Expression) → Sums (Open ∷ Open ∷ st) (expression_text a) a →
    read (at_mode (Open ∷ st) Ready) (enclosed (expression_text a) ++ (32 ∷ 62 ∷ 62 ∷ 32 ∷ [])) ≡ at_mode (Open ∷ st) (Shifting a 0)
lowered_read st a s =
    read_append (at_mode (Open ∷ st) Ready) (enclosed (expression_text a)) (32 ∷ 62 ∷ 62 ∷ 32 ∷ []) ∙
    ap (λ (r : Reader). read r (32 ∷ 62 ∷ 62 ∷ 32 ∷ [])) (closed_sum (Open ∷ st) (expression_text a) a s)

shifted_read : (st : List Frame) (a : Expression) (k : ℕ) → Sums (Open ∷ Open ∷ st) (expression_text a) a → k < 2 ^ 64 → Reads st (expression_text (Shifted a k)) st (Shifted a k)
shifted_read st a k s h =
    let text = enclosed (expression_text a) ++ (32 ∷ 62 ∷ 62 ∷ 32 ∷ []) in
    let number : read (at_mode (Open ∷ st) Ready) (text ++ decimal k) ≡ at_mode (Open ∷ st) (Shifting a k) =
    read_append (at_mode (Open ∷ st) Ready) text (decimal k) ∙ ap (λ (r : Reader). read r (decimal k)) (lowered_read st a s) ∙
    number_read (Shifting a) (Open ∷ st) (shift_counts a (Open ∷ st)) k h in
    reads_done st _ _ (read_append (at_mode (Open ∷ st) Ready) (text ++ decimal k) (41 ∷ []) ∙ ap (λ (r : Reader). read r (41 ∷ [])) number)

variable_shift_text : (xs vs : List ℕ) → xs ++ codes " >> (int64_t)" ++ vs ≡ xs ++ codes " >> " ++ (codes "(int64_t)" ++ vs)
variable_shift_text xs vs = append_assoc xs (codes " >> (int64_t)") vs ∙ sym (append_assoc xs (codes " >> ") (codes "(int64_t)" ++ vs))

shifted_by_read : (st : List Frame) (a : Expression) (v : Variable) → Sums (Open ∷ Open ∷ st) (expression_text a) a → v.number < 2 ^ 64 →
    Reads st (expression_text (ShiftedBy a v)) st (ShiftedBy a v)
shifted_by_read st a v s h =
    let text = enclosed (expression_text a) ++ codes " >> " in
    let by = codes "(int64_t)" ++ variable_text v in
    let r = variable_read v.family v.number (Left Lower a ∷ Open ∷ st) h in
    let shift : read (at_mode (Open ∷ st) Ready) (text ++ by) ≡ at_mode (Left Lower a ∷ Open ∷ st) r.mode =
    read_append (at_mode (Open ∷ st) Ready) text by ∙ ap (λ (q : Reader). read q by) (lowered_read st a s) ∙ r.is in
    reads_done st _ _ (ap (λ (t : List ℕ). read (at_mode st Ready) (enclosed t)) (variable_shift_text (enclosed (expression_text a)) (variable_text v)) ∙
    read_append (at_mode (Open ∷ st) Ready) (text ++ by) (41 ∷ []) ∙ ap (λ (q : Reader). read q (41 ∷ [])) shift ∙ r.close)

over_text : (xs vs : List ℕ) → xs ++ codes " / (int64_t)" ++ vs ≡ xs ++ codes " / " ++ (codes "(int64_t)" ++ vs)
over_text xs vs = append_assoc xs (codes " / (int64_t)") vs ∙ sym (append_assoc xs (codes " / ") (codes "(int64_t)" ++ vs))

over_read : (st : List Frame) (a : Expression) (v : Variable) → Reads (Open ∷ st) (closed a (expression_text a)) (Open ∷ st) a → v.number < 2 ^ 64 → Reads st (expression_text (Over a v)) st (Over a v)
over_read st a v r h =
    let p = product_read Divide 47 st a (Value v) _ _ (λ to x. refl) r (variable_read v.family v.number (Left Divide a ∷ Open ∷ st) h) in
    record {
      mode = p.mode;
      is = ap (λ (t : List ℕ). read (at_mode st Ready) (enclosed t)) (over_text (closed a (expression_text a)) (variable_text v)) ∙ p.is;
      space = p.space;
      close = p.close;
      last = p.last;
    }

pub reads : (e : Expression) → HasShortNumbers e → IsRead e
reads (Constant z) h = read_one (Constant z) (λ xs. refl) (λ st. constant_read z st h)
reads (Value v) h = read_one (Value v) (λ xs. refl) (λ st. variable_read v.family v.number st h)
reads (Plus a b) h =
    let f = reads a h.0 in
    let g = reads b h.1 in
    read_sum (Plus a b) (λ xs. refl) (λ st base. operated Add 43 st _ _ a b (λ x. refl) (f.plain st base) (g.apart (Left Add a ∷ st)))
reads (Minus a b) h =
    let f = reads a h.0 in
    let g = reads b h.1 in
    read_sum (Minus a b) (λ xs. refl) (λ st base. operated Subtract 45 st _ _ a b (λ x. refl) (f.plain st base) (g.apart (Left Subtract a ∷ st)))
reads (Times a b) h =
    let f = reads a h.0 in
    let g = reads b h.1 in
    read_one (Times a b) (λ xs. refl) (λ st. product_read Multiply 42 st a b _ _ (λ to x. refl) (f.apart (Open ∷ st)) (g.apart (Left Multiply a ∷ Open ∷ st)))
reads (Quotient a k) h =
    let f = reads a h.0 in
    read_one (Quotient a k) (λ xs. refl) (λ st. product_read Divide 47 st a (Constant (pos k)) _ _ (λ to x. refl) (f.apart (Open ∷ st)) (constant_read (pos k) (Left Divide a ∷ Open ∷ st) h.1))
reads (Remainder a k) h =
    let f = reads a h.0 in
    read_one (Remainder a k) (λ xs. refl) (λ st. product_read Modulo 37 st a (Constant (pos k)) _ _ (λ to x. refl) (f.apart (Open ∷ st)) (constant_read (pos k) (Left Modulo a ∷ Open ∷ st) h.1))
reads (Over a v) h =
    let f = reads a h.0 in
    read_one (Over a v) (λ xs. refl) (λ st. over_read st a v (f.apart (Open ∷ st)) h.1)
reads (Shifted a k) h =
    let f = reads a h.0 in
    read_one (Shifted a k) (λ xs. refl) (λ st. shifted_read st a k (f.plain (Open ∷ Open ∷ st) (base_open (Open ∷ st))) h.1)
reads (ShiftedBy a v) h =
    let f = reads a h.0 in
    read_one (ShiftedBy a v) (λ xs. refl) (λ st. shifted_by_read st a v (f.plain (Open ∷ Open ∷ st) (base_open (Open ∷ st))) h.1)

-- ---- the law
read_back : (e : Expression) → HasShortNumbers e → finished (read (at_mode [] Ready) (expression_text e)) ≡ e
read_back e h =
    let s = (reads e h).plain [] (record { stack = refl; value = λ x. refl }) in
    ap finished s.reads.is ∙ ap (λ (x : Expression). whole s.to x) s.reads.last ∙ s.value

pub expression_text_law : ExpressionTextLaw
expression_text_law a b h k same = sym (read_back a h) ∙ ap (λ (t : List ℕ). finished (read (at_mode [] Ready) t)) same ∙ read_back b k
