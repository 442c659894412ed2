-- A whole program never has another's text: no line has a line feed in it, so the text is cut into lines in one way, and each line tells what it is of.
use Rattle.std.proofs.Common.{◌≡◌, ℕ, zero, suc, ◌^◌, ◌<◌, Bool, true, false, true≢false, cond, if◌then◌else◌, eqb, ℤ, pos, negsuc, List, [], ◌∷◌, ◌++◌, length, map, get_or, drop, unsigned_abs, refl, sym, ap, subst, ◌∙◌, append_assoc, arith, inl, inr}
use Rattle.std.specs.Prelude.{All, codes, decimal}
use Rattle.std.specs.Char.{digit_value}
use Rattle.std.specs.Ordering.{int_eq}
use Rattle.std.specs.List.{slice_split}
use Rattle.std.specs.Str.Parse.{AllDigits}
use Rattle.std.proofs.lemmas.Bool.{cases_eq, ne_eqb, cond_both}
use Rattle.std.proofs.lemmas.Bool.Decides.{Decides-int_eq}
use Rattle.std.proofs.lemmas.Fmt.{decimal_is_IsNumeral, decimal_injective}
use Rattle.std.proofs.lemmas.List.{append_cancel_left, append_cancel_right, same_from_push, same_lists, get_or_default}
use Rattle.std.proofs.lemmas.List.Elements.{All-append}
use Rattle.integer_algebra.specs.Sums.{at}
use Rattle.number_text.specs.Lines.{text_of}
use Rattle.number_text.proofs.Pieces.{IsPiece, ArePieces, split_text}
use Rattle.c_language.specs.Syntax.{Family, Variable, variable, letter_of, Kind, Expression, Statement, CProgram}
use Rattle.c_language.specs.Syntax.Family.{State, Loaded, EntryBase, RowBase, Multiplier, Difference, Entry, Gradient, RowSum, Moved, Sum, Output, Own, Reached, Weight, Divisor, Shift, Power, Doubling, Reciprocal, Numerator, Head, Rest, MultiplierHigh, MultiplierLow, EntryHigh, EntryLow, EntryBaseHigh, RowBaseHigh, GradientHigh}
use Rattle.c_language.specs.Syntax.Kind.{Narrow, Wide}
use Rattle.c_language.specs.Syntax.Expression.{Constant, Value, Plus, Minus, Times, Quotient, Remainder, Over, Shifted, ShiftedBy}
use Rattle.c_language.specs.Syntax.Statement.{Declare, Assign, AtLeastZero, AtMost}
use Rattle.c_language.specs.Text.{name_of, variable_text, kind_text, constant_text, enclosed, closed, expression_text, cast_text, statement_text, statement_lines, numbered_lines, comparison_text, above_text, refusal_text, refusal_line, output_line, head_text, average_line, average_head_text, shift_line, second_lines, program_lines, HasNoLineFeed, opening_lines, repetition_line}
use Rattle.c_language.specs.Laws.{HasShortNumbers, HasShortOperands, kind_given, HasShortText, AreOneProgram, ProgramTextLaw}
use Rattle.c_language.proofs.Reading.{expression_text_law}
use Rattle.c_language.proofs.Statements.{not_digit, statement_text_law}

-- ---- texts without a line feed
record Plain (xs : List ℕ) : Type 0 where
  piece : IsPiece 10 xs

join : (xs ys : List ℕ) → Plain xs → Plain ys → Plain (xs ++ ys)
join xs ys h k = record { piece = All-append (λ b. eqb b 10 ≡ false) xs ys h.piece k.piece }

-- pieces behind a first one
abbrev glued : List ℕ → List (List ℕ) → List ℕ
glued xs [] = xs
glued xs (y ∷ ys) = glued (xs ++ y) ys

abbrev ArePlain : List (List ℕ) → Type 0
ArePlain [] = Unit {0}
ArePlain (y ∷ ys) = Plain y × ArePlain ys

glue : (xs : List ℕ) (ys : List (List ℕ)) → Plain xs → ArePlain ys → Plain (glued xs ys)
glue xs [] h k = h
glue xs (y ∷ ys) h k = glue (xs ++ y) ys (join xs y h k.0) k.1

-- a word, whose bytes are looked through
abbrev has_none : List ℕ → Bool
has_none [] = true
has_none (c ∷ cs) = if eqb c 10 then false else has_none cs

other_first : (b r : Bool) → (if b then false else r) ≡ true → b ≡ false
other_first true r h = absurd (true≢false (sym h))
other_first false r h = refl

others : (b r : Bool) → (if b then false else r) ≡ true → r ≡ true
others true r h = absurd (true≢false (sym h))
others false r h = h

word_piece : (xs : List ℕ) → has_none xs ≡ true → IsPiece 10 xs
word_piece [] h k e lt = absurd (omega (arith, lt))
word_piece (c ∷ cs) h zero e lt = other_first (eqb c 10) (has_none cs) h
word_piece (c ∷ cs) h (suc k) e lt = word_piece cs (others (eqb c 10) (has_none cs) h) k e (omega (arith, lt))

word : (xs : List ℕ) → has_none xs ≡ true → Plain xs
word xs h = record { piece = word_piece xs h }

feed_value : digit_value 10 < 10 → ⊥
feed_value h = let l : 36 < 10 = h in absurd (omega (arith, l))

digits_piece : (ds : List ℕ) → AllDigits 10 ds → IsPiece 10 ds
digits_piece [] d k e lt = absurd (omega (arith, lt))
digits_piece (c ∷ cs) d zero e lt = not_digit c 10 d.0 feed_value
digits_piece (c ∷ cs) d (suc k) e lt = digits_piece cs d.1 k e (omega (arith, lt))

decimal_plain : (n : ℕ) → n < 2 ^ 64 → Plain (decimal n)
decimal_plain n h = record { piece = digits_piece (decimal n) (decimal_is_IsNumeral n h).0.1 }

own_name_plain : (name : List ℕ) → HasNoLineFeed name → Plain name
own_name_plain name h = record { piece = λ k e lt. ne_eqb (get_or name k e) 10 (h k e lt) }

-- ---- expressions and statements
constant_plain : (z : ℤ) → unsigned_abs z < 2 ^ 64 → Plain (constant_text z)
constant_plain (pos n) h = glue (codes "INT64_C(") (decimal n ∷ codes ")" ∷ []) (word _ refl) (decimal_plain n h, (word _ refl, tt))
constant_plain (negsuc n) h = glue (codes "(-INT64_C(") (decimal (suc n) ∷ codes "))" ∷ []) (word _ refl) (decimal_plain (suc n) (omega (arith, h)), (word _ refl, tt))

name_plain : (f : Family) (k : ℕ) → k < 2 ^ 64 → Plain (name_of f k)
name_plain State k h = glue (codes "state[") (decimal k ∷ codes "]" ∷ []) (word _ refl) (decimal_plain k h, (word _ refl, tt))
name_plain Output k h = glue (codes "sums[") (decimal k ∷ codes "]" ∷ []) (word _ refl) (decimal_plain k h, (word _ refl, tt))
name_plain Loaded k h = join (letter_of Loaded ∷ []) (decimal k) (word (letter_of Loaded ∷ []) refl) (decimal_plain k h)
name_plain EntryBase k h = join (letter_of EntryBase ∷ []) (decimal k) (word (letter_of EntryBase ∷ []) refl) (decimal_plain k h)
name_plain RowBase k h = join (letter_of RowBase ∷ []) (decimal k) (word (letter_of RowBase ∷ []) refl) (decimal_plain k h)
name_plain Multiplier k h = join (letter_of Multiplier ∷ []) (decimal k) (word (letter_of Multiplier ∷ []) refl) (decimal_plain k h)
name_plain Difference k h = join (letter_of Difference ∷ []) (decimal k) (word (letter_of Difference ∷ []) refl) (decimal_plain k h)
name_plain Entry k h = join (letter_of Entry ∷ []) (decimal k) (word (letter_of Entry ∷ []) refl) (decimal_plain k h)
name_plain Gradient k h = join (letter_of Gradient ∷ []) (decimal k) (word (letter_of Gradient ∷ []) refl) (decimal_plain k h)
name_plain RowSum k h = join (letter_of RowSum ∷ []) (decimal k) (word (letter_of RowSum ∷ []) refl) (decimal_plain k h)
name_plain Moved k h = join (letter_of Moved ∷ []) (decimal k) (word (letter_of Moved ∷ []) refl) (decimal_plain k h)
name_plain Sum k h = join (letter_of Sum ∷ []) (decimal k) (word (letter_of Sum ∷ []) refl) (decimal_plain k h)
name_plain Own k h = join (letter_of Own ∷ []) (decimal k) (word (letter_of Own ∷ []) refl) (decimal_plain k h)
name_plain Reached k h = join (letter_of Reached ∷ []) (decimal k) (word (letter_of Reached ∷ []) refl) (decimal_plain k h)
name_plain Weight k h = join (letter_of Weight ∷ []) (decimal k) (word (letter_of Weight ∷ []) refl) (decimal_plain k h)
name_plain Divisor k h = join (letter_of Divisor ∷ []) (decimal k) (word (letter_of Divisor ∷ []) refl) (decimal_plain k h)
name_plain Shift k h = join (letter_of Shift ∷ []) (decimal k) (word (letter_of Shift ∷ []) refl) (decimal_plain k h)
name_plain Power k h = join (letter_of Power ∷ []) (decimal k) (word (letter_of Power ∷ []) refl) (decimal_plain k h)
name_plain Doubling k h = join (letter_of Doubling ∷ []) (decimal k) (word (letter_of Doubling ∷ []) refl) (decimal_plain k h)
name_plain Reciprocal k h = join (letter_of Reciprocal ∷ []) (decimal k) (word (letter_of Reciprocal ∷ []) refl) (decimal_plain k h)
name_plain Numerator k h = join (letter_of Numerator ∷ []) (decimal k) (word (letter_of Numerator ∷ []) refl) (decimal_plain k h)
name_plain Head k h = join (letter_of Head ∷ []) (decimal k) (word (letter_of Head ∷ []) refl) (decimal_plain k h)
name_plain Rest k h = join (letter_of Rest ∷ []) (decimal k) (word (letter_of Rest ∷ []) refl) (decimal_plain k h)
name_plain MultiplierHigh k h = join (letter_of MultiplierHigh ∷ []) (decimal k) (word (letter_of MultiplierHigh ∷ []) refl) (decimal_plain k h)
name_plain MultiplierLow k h = join (letter_of MultiplierLow ∷ []) (decimal k) (word (letter_of MultiplierLow ∷ []) refl) (decimal_plain k h)
name_plain EntryHigh k h = join (letter_of EntryHigh ∷ []) (decimal k) (word (letter_of EntryHigh ∷ []) refl) (decimal_plain k h)
name_plain EntryLow k h = join (letter_of EntryLow ∷ []) (decimal k) (word (letter_of EntryLow ∷ []) refl) (decimal_plain k h)
name_plain EntryBaseHigh k h = join (letter_of EntryBaseHigh ∷ []) (decimal k) (word (letter_of EntryBaseHigh ∷ []) refl) (decimal_plain k h)
name_plain RowBaseHigh k h = join (letter_of RowBaseHigh ∷ []) (decimal k) (word (letter_of RowBaseHigh ∷ []) refl) (decimal_plain k h)
name_plain GradientHigh k h = join (letter_of GradientHigh ∷ []) (decimal k) (word (letter_of GradientHigh ∷ []) refl) (decimal_plain k h)

enclosed_plain : (xs : List ℕ) → Plain xs → Plain (enclosed xs)
enclosed_plain xs h = glue (codes "(") (xs ∷ codes ")" ∷ []) (word _ refl) (h, (word _ refl, tt))

closed_plain : (e : Expression) (xs : List ℕ) → Plain xs → Plain (closed e xs)
closed_plain (Constant z) xs h = h
closed_plain (Value v) xs h = h
closed_plain (Times a b) xs h = h
closed_plain (Quotient a k) xs h = h
closed_plain (Remainder a k) xs h = h
closed_plain (Over a v) xs h = h
closed_plain (Shifted a k) xs h = h
closed_plain (ShiftedBy a v) xs h = h
closed_plain (Plus a b) xs h = enclosed_plain xs h
closed_plain (Minus a b) xs h = enclosed_plain xs h

operand_plain : (e : Expression) → Plain (expression_text e) → Plain (closed e (expression_text e))
operand_plain e h = closed_plain e (expression_text e) h

-- two texts with an operator between them
operated_plain : (xs o ys : List ℕ) → Plain xs → Plain o → Plain ys → Plain (xs ++ o ++ ys)
operated_plain xs o ys h k l = join (xs ++ o) ys (join xs o h k) l

product_plain : (xs o ys : List ℕ) → Plain xs → Plain o → Plain ys → Plain (enclosed (xs ++ o ++ ys))
product_plain xs o ys h k l = enclosed_plain (xs ++ o ++ ys) (operated_plain xs o ys h k l)

expression_plain : (e : Expression) → HasShortNumbers e → Plain (expression_text e)
expression_plain (Constant z) h = constant_plain z h
expression_plain (Value v) h = glue (codes "(int64_t)") (variable_text v ∷ []) (word _ refl) (name_plain v.family v.number h, tt)
expression_plain (Plus a b) h = operated_plain (expression_text a) (codes " + ") (closed b (expression_text b)) (expression_plain a h.0) (word _ refl) (operand_plain b (expression_plain b h.1))
expression_plain (Minus a b) h = operated_plain (expression_text a) (codes " - ") (closed b (expression_text b)) (expression_plain a h.0) (word _ refl) (operand_plain b (expression_plain b h.1))
expression_plain (Times a b) h =
    product_plain (closed a (expression_text a)) (codes " * ") (closed b (expression_text b)) (operand_plain a (expression_plain a h.0)) (word _ refl) (operand_plain b (expression_plain b h.1))
expression_plain (Quotient a k) h = product_plain (closed a (expression_text a)) (codes " / ") (constant_text (pos k)) (operand_plain a (expression_plain a h.0)) (word _ refl) (constant_plain (pos k) h.1)
expression_plain (Remainder a k) h = product_plain (closed a (expression_text a)) (codes " % ") (constant_text (pos k)) (operand_plain a (expression_plain a h.0)) (word _ refl) (constant_plain (pos k) h.1)
expression_plain (Over a v) h =
    enclosed_plain (closed a (expression_text a) ++ codes " / (int64_t)" ++ variable_text v)
    (operated_plain (closed a (expression_text a)) (codes " / (int64_t)") (variable_text v) (operand_plain a (expression_plain a h.0)) (word _ refl) (name_plain v.family v.number h.1))
expression_plain (Shifted a k) h =
    product_plain (enclosed (expression_text a)) (codes " >> ") (decimal k) (enclosed_plain (expression_text a) (expression_plain a h.0)) (word _ refl) (decimal_plain k h.1)
expression_plain (ShiftedBy a v) h =
    product_plain (enclosed (expression_text a)) (codes " >> (int64_t)") (variable_text v) (enclosed_plain (expression_text a) (expression_plain a h.0)) (word _ refl) (name_plain v.family v.number h.1)

kind_plain : (q : Kind) → Plain (kind_text q)
kind_plain Narrow = word (codes "int32_t") refl
kind_plain Wide = word (codes "int64_t") refl

cast_plain : (q : Kind) (a : Expression) → HasShortNumbers a → Plain (cast_text q a)
cast_plain q a h = glue (codes " = (") (kind_text q ∷ codes ")" ∷ enclosed (expression_text a) ∷ codes ";" ∷ []) (word _ refl) (kind_plain q, (word _ refl, (enclosed_plain (expression_text a) (expression_plain a h), (word _ refl, tt))))

variable_plain : (v : Variable) → v.number < 2 ^ 64 → Plain (variable_text v)
variable_plain v h = name_plain v.family v.number h

statement_plain : (kind : Variable → Kind) (s : Statement) → HasShortOperands s → Plain (statement_text kind s)
statement_plain kind (Declare v a) h = glue (kind_text (kind v)) (codes " " ∷ variable_text v ∷ cast_text (kind v) a ∷ []) (kind_plain (kind v)) (word _ refl, (variable_plain v h.0, (cast_plain (kind v) a h.1, tt)))
statement_plain kind (Assign v a) h = glue (variable_text v) (cast_text (kind v) a ∷ []) (variable_plain v h.0) (cast_plain (kind v) a h.1, tt)
statement_plain kind (AtLeastZero v) h = glue (codes "if (") (variable_text v ∷ codes " < 0) { " ∷ variable_text v ∷ codes " = 0; }" ∷ []) (word _ refl) (variable_plain v h, (word _ refl, (variable_plain v h, (word _ refl, tt))))
statement_plain kind (AtMost v top) h =
    glue (codes "if (") (variable_text v ∷ codes " > " ∷ constant_text top ∷ codes ") { " ∷ variable_text v ∷ cast_text (kind v) (Constant top) ∷ codes " }" ∷ [])
    (word _ refl) (variable_plain v h.0, (word _ refl, (constant_plain top h.1, (word _ refl, (variable_plain v h.0, (cast_plain (kind v) (Constant top) h.1, (word _ refl, tt)))))))

-- ---- lines
lines_append : (xs ys : List (List ℕ)) → ArePieces 10 xs → ArePieces 10 ys → ArePieces 10 (xs ++ ys)
lines_append [] ys h k = k
lines_append (x ∷ xs) ys h k = (h.0, lines_append xs ys h.1 k)

one_line : (x : List ℕ) → Plain x → ArePieces 10 (x ∷ [])
one_line x h = (h.piece, tt)

numbered_plain : (line : ℕ → List ℕ) (n : ℕ) → ((i : ℕ) → i < n → Plain (line i)) → ArePieces 10 (numbered_lines line n)
numbered_plain line zero h = tt
numbered_plain line (suc n) h = lines_append (numbered_lines line n) (line n ∷ []) (numbered_plain line n (λ i l. h i (omega (arith, l)))) (one_line (line n) (h n (omega arith)))

statements_plain : (kind : Variable → Kind) (indent : List ℕ) (ss : List Statement) → Plain indent → All HasShortOperands ss → ArePieces 10 (statement_lines kind indent ss)
statements_plain kind indent [] p h = tt
statements_plain kind indent (s ∷ ss) p h =
    let first = join indent (statement_text kind s) p (statement_plain kind s (h 0 s (omega arith))) in
    (first.piece, statements_plain kind indent ss p (λ k e lt. h (suc k) e (omega (arith, lt))))

above_plain : (h : ℤ) (i : ℕ) → unsigned_abs h < 2 ^ 64 → i < 2 ^ 64 → Plain (above_text h i)
above_plain h i small few =
    let comparison = glue (codes " || ") (name_of State i ∷ codes " > " ∷ constant_text h ∷ []) (word _ refl) (name_plain State i few, (word _ refl, (constant_plain h small, tt))) in
    cond_both (int_eq h (pos 2147483647)) [] (comparison_text h i) Plain (λ t. word [] refl) (λ f. comparison)

refusal_plain : (p : CProgram) → HasShortText p → (i : ℕ) → i < length p.low → Plain (refusal_line p i)
refusal_plain p h i l =
    let small : i < 2 ^ 64 = omega (arith, h.states, l) in
    let above = above_plain (at p.high i) i (h.high i l) small in
    glue (codes "    if (") (name_of State i ∷ codes " < " ∷ constant_text (at p.low i) ∷ above_text (at p.high i) i ∷ codes ") { return " ∷ decimal (suc i) ∷ codes "; }" ∷ [])
    (word _ refl) (
      name_plain State i small,
      (
        word _ refl,
        (
          constant_plain (at p.low i) (h.low i l),
          (above, (word _ refl, (decimal_plain (suc i) (omega (arith, h.states, l)), (word _ refl, tt)))),
        ),
      ),
    )

output_plain : (j : ℕ) (v : Variable) → j < 2 ^ 64 → v.number < 2 ^ 64 → Plain (output_line j v)
output_plain j v h l = glue (codes "    sums[") (decimal j ∷ codes "] = " ∷ expression_text (Value v) ∷ codes ";" ∷ []) (word _ refl) (decimal_plain j h, (word _ refl, (expression_plain (Value v) l, (word _ refl, tt))))

average_plain : (j : ℕ) (a : Expression) → j < 2 ^ 64 → HasShortNumbers a → Plain (average_line j a)
average_plain j a h l = glue (codes "    inputs[") (decimal j ∷ codes "] = " ∷ expression_text a ∷ codes ";" ∷ []) (word _ refl) (decimal_plain j h, (word _ refl, (expression_plain a l, (word _ refl, tt))))

shift_plain : (name : List ℕ) → Plain name → Plain (shift_line name)
shift_plain name h = glue (codes "typedef char ") (name ∷ codes "_shifts_round_down[((-INT64_C(3)) >> 1) == (-INT64_C(2)) ? 1 : -1];" ∷ []) (word _ refl) (h, (word _ refl, tt))

head_plain : (name : List ℕ) (p : CProgram) → Plain name → HasShortText p → Plain (head_text name p)
head_plain name p h s =
    glue (codes "int ") (name ∷ codes "_solve(const int32_t state[" ∷ decimal (length p.low) ∷ codes "], int64_t sums[" ∷ decimal (length p.outputs) ∷ codes "])" ∷ [])
    (word _ refl) (h, (word _ refl, (decimal_plain (length p.low) s.states, (word _ refl, (decimal_plain (length p.outputs) s.sums, (word _ refl, tt))))))

average_head_plain : (name : List ℕ) (p : CProgram) → Plain name → HasShortText p → Plain (average_head_text name p)
average_head_plain name p h s =
    glue (codes "void ") (name ∷ codes "_first_inputs(const int64_t sums[" ∷ decimal (length p.outputs) ∷ codes "], int64_t inputs[" ∷ decimal (length p.averages) ∷ codes "])" ∷ [])
    (word _ refl) (h, (word _ refl, (decimal_plain (length p.outputs) s.sums, (word _ refl, (decimal_plain (length p.averages) s.inputs, (word _ refl, tt))))))

opening_plain : (name : List ℕ) (p : CProgram) → Plain name → HasShortText p → ArePieces 10 (opening_lines name p)
opening_plain name p h s =
    let include = glue (codes "#include \"") (name ∷ codes ".h\"" ∷ []) (word _ refl) (h, (word _ refl, tt)) in
    (include.piece, ((word [] refl).piece, ((shift_plain name h).piece, ((word [] refl).piece, ((head_plain name p h s).piece, ((word (codes "{") refl).piece, tt))))))

loop_plain : (p : CProgram) → HasShortText p → Plain (repetition_line p)
loop_plain p s = glue (codes "    for (int32_t step = 0; step < ") (decimal p.repetitions ∷ codes "; step++) {" ∷ []) (word _ refl) (decimal_plain p.repetitions s.repetitions, (word _ refl, tt))

-- the lines of the outputs, and of the averages
abbrev outputs_of : CProgram → List (List ℕ)
outputs_of p = numbered_lines (λ j. output_line j (get_or p.outputs j (variable State 0))) (length p.outputs)

abbrev averages_lines : CProgram → List (List ℕ)
averages_lines p = numbered_lines (λ j. average_line j (get_or p.averages j (Constant (pos 0)))) (length p.averages)

outputs_plain : (p : CProgram) → HasShortText p → ArePieces 10 (outputs_of p)
outputs_plain p s = numbered_plain _ (length p.outputs) (λ j l. output_plain j (get_or p.outputs j (variable State 0)) (omega (arith, l, s.sums)) (s.outputs j (variable State 0) l))

averages_plain : (p : CProgram) → HasShortText p → ArePieces 10 (averages_lines p)
averages_plain p s = numbered_plain _ (length p.averages) (λ j l. average_plain j (get_or p.averages j (Constant (pos 0))) (omega (arith, l, s.inputs)) (s.averages j (Constant (pos 0)) l))

abbrev last_lines : List (List ℕ)
last_lines = codes "    return 0;" ∷ codes "}" ∷ [] ∷ []

last_plain : ArePieces 10 last_lines
last_plain = ((word (codes "    return 0;") refl).piece, ((word (codes "}") refl).piece, ((word [] refl).piece, tt)))

second_plain : (name : List ℕ) (p : CProgram) → Plain name → HasShortText p → ArePieces 10 (second_lines name p)
second_plain name p h s =
    let front : ArePieces 10 (average_head_text name p ∷ codes "{" ∷ []) = ((average_head_plain name p h s).piece, ((word (codes "{") refl).piece, tt)) in
    let back : ArePieces 10 (codes "}" ∷ []) = ((word (codes "}") refl).piece, tt) in
    lines_append ((average_head_text name p ∷ codes "{" ∷ []) ++ averages_lines p) (codes "}" ∷ [])
    (lines_append (average_head_text name p ∷ codes "{" ∷ []) (averages_lines p) front (averages_plain p s)) back

program_plain : (name : List ℕ) (p : CProgram) → HasNoLineFeed name → HasShortText p → ArePieces 10 (program_lines name p)
program_plain name p n s =
    let h = own_name_plain name n in
    let a = opening_lines name p in
    let b = numbered_lines (refusal_line p) (length p.low) in
    let d = statement_lines p.kind (codes "    ") p.before in
    let e = repetition_line p ∷ [] in
    let f = statement_lines p.kind (codes "        ") p.body in
    let g = codes "    }" ∷ [] in
    let o = outputs_of p in
    lines_append (a ++ b ++ d ++ e ++ f ++ g ++ o ++ last_lines) (second_lines name p)
    (lines_append (a ++ b ++ d ++ e ++ f ++ g ++ o) last_lines
    (lines_append (a ++ b ++ d ++ e ++ f ++ g) o
    (lines_append (a ++ b ++ d ++ e ++ f) g
    (lines_append (a ++ b ++ d ++ e) f
    (lines_append (a ++ b ++ d) e
    (lines_append (a ++ b) d
    (lines_append a b (opening_plain name p h s) (numbered_plain (refusal_line p) (length p.low) (refusal_plain p s)))
    (statements_plain p.kind (codes "    ") p.before (word (codes "    ") refl) s.before))
    (one_line (repetition_line p) (loop_plain p s)))
    (statements_plain p.kind (codes "        ") p.body (word (codes "        ") refl) s.body))
    (one_line (codes "    }") (word (codes "    }") refl)))
    (outputs_plain p s))
    last_plain)
    (second_plain name p h s)

-- one text has one list of lines
lines_alike : (xs ys : List (List ℕ)) → ArePieces 10 xs → ArePieces 10 ys → text_of xs ≡ text_of ys → xs ≡ ys
lines_alike xs ys h k e = (same_from_push xs ys [] [] (sym (split_text xs h) ∙ ap (slice_split (λ b. eqb b 10)) e ∙ split_text ys k)).0

-- ---- numbers with something behind them
digits_then : (ds es : List ℕ) (c : ℕ) (xs ys : List ℕ) → (digit_value c < 10 → ⊥) → AllDigits 10 ds → AllDigits 10 es → ds ++ c ∷ xs ≡ es ++ c ∷ ys → (ds ≡ es) × (xs ≡ ys)
digits_then [] [] c xs ys n h k e = (refl, ap (drop 1) e)
digits_then [] (b ∷ es) c xs ys n h k e = absurd (n (subst (λ (x : ℕ). digit_value x < 10) (sym (ap (λ (l : List ℕ). get_or l 0 0) e)) k.0))
digits_then (a ∷ ds) [] c xs ys n h k e = absurd (n (subst (λ (x : ℕ). digit_value x < 10) (ap (λ (l : List ℕ). get_or l 0 0) e) h.0))
digits_then (a ∷ ds) (b ∷ es) c xs ys n h k e =
    let first : a ≡ b = ap (λ (l : List ℕ). get_or l 0 0) e in
    let rest = digits_then ds es c xs ys n h.1 k.1 (ap (drop 1) e) in
    ((λ i. first i ∷ rest.0 i), rest.1)

number_then : (m n c : ℕ) (xs ys : List ℕ) → m < 2 ^ 64 → n < 2 ^ 64 → (digit_value c < 10 → ⊥) → decimal m ++ c ∷ xs ≡ decimal n ++ c ∷ ys → (m ≡ n) × (xs ≡ ys)
number_then m n c xs ys h k d e =
    let both = digits_then (decimal m) (decimal n) c xs ys d (decimal_is_IsNumeral m h).0.1 (decimal_is_IsNumeral n k).0.1 e in
    (decimal_injective m n h k both.0, both.1)

bracket_value : digit_value 93 < 10 → ⊥
bracket_value h = let l : 36 < 10 = h in absurd (omega (arith, l))

parenthesis_value : digit_value 41 < 10 → ⊥
parenthesis_value h = let l : 36 < 10 = h in absurd (omega (arith, l))

between : (a d b xs : List ℕ) → a ++ d ++ b ++ xs ≡ a ++ (d ++ (b ++ xs))
between a d b xs = simp append_assoc refl

-- a literal with something behind it
constant_then : (y z : ℤ) (xs ys : List ℕ) → unsigned_abs y < 2 ^ 64 → unsigned_abs z < 2 ^ 64 → constant_text y ++ xs ≡ constant_text z ++ ys → (y ≡ z) × (xs ≡ ys)
constant_then (pos m) (pos n) xs ys h k e =
    let cut = append_cancel_left (codes "INT64_C(") (decimal m ++ (41 ∷ xs)) (decimal n ++ (41 ∷ ys))
    (sym (between (codes "INT64_C(") (decimal m) (codes ")") xs) ∙ e ∙ between (codes "INT64_C(") (decimal n) (codes ")") ys) in
    let both = number_then m n 41 xs ys h k parenthesis_value cut in
    (ap pos both.0, both.1)
constant_then (pos m) (negsuc n) xs ys h k e = let c : 73 ≡ 40 = ap (λ (l : List ℕ). get_or l 0 0) e in absurd (omega (arith, c))
constant_then (negsuc m) (pos n) xs ys h k e = let c : 40 ≡ 73 = ap (λ (l : List ℕ). get_or l 0 0) e in absurd (omega (arith, c))
constant_then (negsuc m) (negsuc n) xs ys h k e =
    let cut = append_cancel_left (codes "(-INT64_C(") (decimal (suc m) ++ (41 ∷ 41 ∷ xs)) (decimal (suc n) ++ (41 ∷ 41 ∷ ys))
    (sym (between (codes "(-INT64_C(") (decimal (suc m)) (codes "))") xs) ∙ e ∙ between (codes "(-INT64_C(") (decimal (suc n)) (codes "))") ys) in
    let both = number_then (suc m) (suc n) 41 (41 ∷ xs) (41 ∷ ys) (omega (arith, h)) (omega (arith, k)) parenthesis_value cut in
    (ap negsuc (omega (arith, both.0)), ap (drop 1) both.1)

-- ---- the lines of one number, alike
line_of_two : (p n c m d : List ℕ) → p ++ n ++ c ++ m ++ d ≡ p ++ (n ++ (c ++ (m ++ d)))
line_of_two p n c m d = simp append_assoc refl

-- a line with two numbers, each before a bracket
two_numbers : (front more end : List ℕ) (m n k l : ℕ) → m < 2 ^ 64 → n < 2 ^ 64 → k < 2 ^ 64 → l < 2 ^ 64 →
    front ++ decimal m ++ (93 ∷ more) ++ decimal n ++ (93 ∷ end) ≡ front ++ decimal k ++ (93 ∷ more) ++ decimal l ++ (93 ∷ end) → (m ≡ k) × (n ≡ l)
two_numbers front more end m n k l a b c d e =
    let cut = append_cancel_left front (decimal m ++ ((93 ∷ more) ++ (decimal n ++ (93 ∷ end)))) (decimal k ++ ((93 ∷ more) ++ (decimal l ++ (93 ∷ end))))
    (sym (line_of_two front (decimal m) (93 ∷ more) (decimal n) (93 ∷ end)) ∙ e ∙ line_of_two front (decimal k) (93 ∷ more) (decimal l) (93 ∷ end)) in
    let first = number_then m k 93 (more ++ (decimal n ++ (93 ∷ end))) (more ++ (decimal l ++ (93 ∷ end))) a c bracket_value cut in
    let second = number_then n l 93 end end b d bracket_value (append_cancel_left more (decimal n ++ (93 ∷ end)) (decimal l ++ (93 ∷ end)) first.1) in
    (first.0, second.0)

-- a line with or without an upper bound tells it
comparisons_alike : (h k : ℤ) (i : ℕ) (r : List ℕ) → unsigned_abs h < 2 ^ 64 → unsigned_abs k < 2 ^ 64 → comparison_text h i ++ r ≡ comparison_text k i ++ r → h ≡ k
comparisons_alike h k i r sh sk e =
    let b = codes " || " ++ name_of State i ++ codes " > " in
    (constant_then h k r r sh sk (append_cancel_left b (constant_text h ++ r) (constant_text k ++ r) (sym (append_assoc b (constant_text h) r) ∙ e ∙ append_assoc b (constant_text k) r))).0

bounds_alike : (b d : Bool) (h k : ℤ) (i : ℕ) (r : List ℕ) → (b ≡ true → h ≡ pos 2147483647) → (d ≡ true → k ≡ pos 2147483647) → unsigned_abs h < 2 ^ 64 → unsigned_abs k < 2 ^ 64 →
    cond b [] (comparison_text h i) ++ 41 ∷ r ≡ cond d [] (comparison_text k i) ++ 41 ∷ r → h ≡ k
bounds_alike true true h k i r f g sh sk e = f refl ∙ sym (g refl)
bounds_alike true false h k i r f g sh sk e = let c : 41 ≡ 32 = ap (λ (l : List ℕ). get_or l 0 0) e in absurd (omega (arith, c))
bounds_alike false true h k i r f g sh sk e = let c : 32 ≡ 41 = ap (λ (l : List ℕ). get_or l 0 0) e in absurd (omega (arith, c))
bounds_alike false false h k i r f g sh sk e = comparisons_alike h k i (41 ∷ r) sh sk e

refusal_nested : (p l a x d z : List ℕ) → p ++ l ++ a ++ x ++ d ++ z ≡ p ++ (l ++ (a ++ (x ++ (d ++ z))))
refusal_nested p l a x d z = simp append_assoc refl

refusals_alike : (l h m k : ℤ) (i : ℕ) → unsigned_abs l < 2 ^ 64 → unsigned_abs h < 2 ^ 64 → unsigned_abs m < 2 ^ 64 → unsigned_abs k < 2 ^ 64 →
    refusal_text l h i ≡ refusal_text m k i → (l ≡ m) × (h ≡ k)
refusals_alike l h m k i sl sh sm sk e =
    let p = codes "    if (" ++ name_of State i ++ codes " < " in
    let d = decimal (suc i) in
    let z = codes "; }" in
    let r = codes ") { return " ++ (d ++ z) in
    let cut = append_cancel_left p (constant_text l ++ (above_text h i ++ r)) (constant_text m ++ (above_text k i ++ r))
    (sym (refusal_nested p (constant_text l) (above_text h i) (codes ") { return ") d z) ∙ e ∙ refusal_nested p (constant_text m) (above_text k i) (codes ") { return ") d z) in
    let first = constant_then l m (above_text h i ++ r) (above_text k i ++ r) sl sm cut in
    let top = pos 2147483647 in
    (first.0, bounds_alike (int_eq h top) (int_eq k top) h k i (drop 1 r) (Decides-int_eq h top).0 (Decides-int_eq k top).0 sh sk first.1)

abbrev variable_given : Expression → Variable
variable_given (Value v) = v
variable_given other = variable State 0

outputs_alike : (j : ℕ) (v w : Variable) → v.number < 2 ^ 64 → w.number < 2 ^ 64 → output_line j v ≡ output_line j w → v ≡ w
outputs_alike j v w h k e =
    let front = codes "    sums[" ++ decimal j ++ codes "] = " in
    ap variable_given (expression_text_law (Value v) (Value w) h k
    (append_cancel_left front (expression_text (Value v)) (expression_text (Value w)) (append_cancel_right (front ++ expression_text (Value v)) (front ++ expression_text (Value w)) (codes ";") e)))

averages_alike : (j : ℕ) (a b : Expression) → HasShortNumbers a → HasShortNumbers b → average_line j a ≡ average_line j b → a ≡ b
averages_alike j a b h k e =
    let front = codes "    inputs[" ++ decimal j ++ codes "] = " in
    expression_text_law a b h k (append_cancel_left front (expression_text a) (expression_text b) (append_cancel_right (front ++ expression_text a) (front ++ expression_text b) (codes ";") e))

repetitions_alike : (p q : CProgram) → HasShortText p → HasShortText q → repetition_line p ≡ repetition_line q → p.repetitions ≡ q.repetitions
repetitions_alike p q h k e =
    let front = codes "    for (int32_t step = 0; step < " in
    decimal_injective p.repetitions q.repetitions h.repetitions k.repetitions
    (append_cancel_left front (decimal p.repetitions) (decimal q.repetitions) (append_cancel_right (front ++ decimal p.repetitions) (front ++ decimal q.repetitions) (codes "; step++) {") e))

-- ---- where one kind of line ends
abbrev AreNot : (List ℕ → Bool) → List (List ℕ) → Type 0
AreNot P [] = Unit {0}
AreNot P (x ∷ xs) = (P x ≡ false) × AreNot P xs

not_both : (b : Bool) → b ≡ true → b ≡ false → ⊥
not_both true h k = true≢false k
not_both false h k = true≢false (sym h)

-- both lists end before their first line of a sort
cut_at : (P : List ℕ → Bool) (xs ys : List (List ℕ)) (m n : List ℕ) (r s : List (List ℕ)) → AreNot P xs → AreNot P ys → P m ≡ true → P n ≡ true → xs ++ m ∷ r ≡ ys ++ n ∷ s →
    (xs ≡ ys) × ((m ≡ n) × (r ≡ s))
cut_at P [] [] m n r s h k a b e = (refl, (ap (λ (l : List (List ℕ)). get_or l 0 []) e, ap (drop 1) e))
cut_at P [] (y ∷ ys) m n r s h k a b e = absurd (not_both (P m) a (ap (λ (l : List (List ℕ)). P (get_or l 0 [])) e ∙ k.0))
cut_at P (x ∷ xs) [] m n r s h k a b e = absurd (not_both (P n) b (sym (ap (λ (l : List (List ℕ)). P (get_or l 0 [])) e) ∙ h.0))
cut_at P (x ∷ xs) (y ∷ ys) m n r s h k a b e =
    let first : x ≡ y = ap (λ (l : List (List ℕ)). get_or l 0 []) e in
    let rest = cut_at P xs ys m n r s h.1 k.1 a b (ap (drop 1) e) in
    ((λ i. first i ∷ rest.0 i), rest.1)

-- equally many numbered lines
numbered_cut : (f g : ℕ → List ℕ) (n : ℕ) (r s : List (List ℕ)) → numbered_lines f n ++ r ≡ numbered_lines g n ++ s → ((i : ℕ) → i < n → f i ≡ g i) × (r ≡ s)
numbered_cut f g zero r s e = ((λ i l. absurd (omega (arith, l))), e)
numbered_cut f g (suc n) r s e =
    let inner = numbered_cut f g n (f n ∷ r) (g n ∷ s) (sym (append_assoc (numbered_lines f n) (f n ∷ []) r) ∙ e ∙ append_assoc (numbered_lines g n) (g n ∷ []) s) in
    let last : f n ≡ g n = ap (λ (l : List (List ℕ)). get_or l 0 []) inner.1 in
    ((λ i l. from_last f g n i last inner.0 l), ap (drop 1) inner.1)
  where
    from_last : (f g : ℕ → List ℕ) (n i : ℕ) → f n ≡ g n → ((k : ℕ) → k < n → f k ≡ g k) → i < suc n → f i ≡ g i
    from_last f g n i last h l = elim (cases_eq n i) [
      | inl e ↦ subst (λ (k : ℕ). f k ≡ g k) e last
      | inr e ↦ h i (omega (arith, l, e))
    ]

-- ---- statements, alike
-- the fifth byte of a line
abbrev is_fifth : ℕ → List ℕ → Bool
is_fifth c line = eqb (get_or line 4 0) c

-- no name begins with the letter of the loop's word
name_no_loop : (f : Family) (k : ℕ) (rest : List ℕ) → is_fifth 102 (codes "    " ++ (name_of f k ++ rest)) ≡ false
name_no_loop State k rest = refl
name_no_loop Output k rest = refl
name_no_loop Loaded k rest = refl
name_no_loop EntryBase k rest = refl
name_no_loop RowBase k rest = refl
name_no_loop Multiplier k rest = refl
name_no_loop Difference k rest = refl
name_no_loop Entry k rest = refl
name_no_loop Gradient k rest = refl
name_no_loop RowSum k rest = refl
name_no_loop Moved k rest = refl
name_no_loop Sum k rest = refl
name_no_loop Own k rest = refl
name_no_loop Reached k rest = refl
name_no_loop Weight k rest = refl
name_no_loop Divisor k rest = refl
name_no_loop Shift k rest = refl
name_no_loop Power k rest = refl
name_no_loop Doubling k rest = refl
name_no_loop Reciprocal k rest = refl
name_no_loop Numerator k rest = refl
name_no_loop Head k rest = refl
name_no_loop Rest k rest = refl
name_no_loop MultiplierHigh k rest = refl
name_no_loop MultiplierLow k rest = refl
name_no_loop EntryHigh k rest = refl
name_no_loop EntryLow k rest = refl
name_no_loop EntryBaseHigh k rest = refl
name_no_loop RowBaseHigh k rest = refl
name_no_loop GradientHigh k rest = refl

kind_no_loop : (q : Kind) (rest : List ℕ) → is_fifth 102 (codes "    " ++ (kind_text q ++ rest)) ≡ false
kind_no_loop Narrow rest = refl
kind_no_loop Wide rest = refl

declared_nested : (i k s n c : List ℕ) → i ++ (k ++ s ++ n ++ c) ≡ i ++ (k ++ (s ++ (n ++ c)))
declared_nested i k s n c = simp append_assoc refl

statement_no_loop : (kind : Variable → Kind) (s : Statement) → is_fifth 102 (codes "    " ++ statement_text kind s) ≡ false
statement_no_loop kind (Declare v a) =
    ap (is_fifth 102) (declared_nested (codes "    ") (kind_text (kind v)) (codes " ") (variable_text v) (cast_text (kind v) a)) ∙
    kind_no_loop (kind v) (codes " " ++ (variable_text v ++ cast_text (kind v) a))
statement_no_loop kind (Assign v a) = name_no_loop v.family v.number (cast_text (kind v) a)
statement_no_loop kind (AtLeastZero v) = refl
statement_no_loop kind (AtMost v top) = refl

statements_no_loop : (kind : Variable → Kind) (ss : List Statement) → AreNot (is_fifth 102) (statement_lines kind (codes "    ") ss)
statements_no_loop kind [] = tt
statements_no_loop kind (s ∷ ss) = (statement_no_loop kind s, statements_no_loop kind ss)

statements_no_close : (kind : Variable → Kind) (ss : List Statement) → AreNot (is_fifth 125) (statement_lines kind (codes "        ") ss)
statements_no_close kind [] = tt
statements_no_close kind (s ∷ ss) = (refl, statements_no_close kind ss)

statements_alike : (k l : Variable → Kind) (indent : List ℕ) (ss ts : List Statement) → All HasShortOperands ss → All HasShortOperands ts → statement_lines k indent ss ≡ statement_lines l indent ts →
    (ss ≡ ts) × (map (kind_given k) ss ≡ map (kind_given l) ts)
statements_alike k l indent [] [] f g e = (refl, refl)
statements_alike k l indent [] (t ∷ ts) f g e = absurd cc
statements_alike k l indent (s ∷ ss) [] f g e = absurd cc
statements_alike k l indent (s ∷ ss) (t ∷ ts) f g e =
    let line : indent ++ statement_text k s ≡ indent ++ statement_text l t = ap (λ (x : List (List ℕ)). get_or x 0 []) e in
    let first = statement_text_law k l s t (f 0 s (omega arith)) (g 0 t (omega arith)) (append_cancel_left indent (statement_text k s) (statement_text l t) line) in
    let rest = statements_alike k l indent ss ts (λ j d lt. f (suc j) d (omega (arith, lt))) (λ j d lt. g (suc j) d (omega (arith, lt))) (ap (drop 1) e) in
    ((λ i. first.0 i ∷ rest.0 i), (λ i. first.1 i ∷ rest.1 i))

-- ---- programs, alike
lines_nested : (a b d e f g o l s : List (List ℕ)) → a ++ b ++ d ++ e ++ f ++ g ++ o ++ l ++ s ≡ a ++ (b ++ (d ++ (e ++ (f ++ (g ++ (o ++ (l ++ s)))))))
lines_nested a b d e f g o l s = simp append_assoc refl

-- the lines behind the loop, those from the loop on, and those of the first function's body
abbrev after_loop : List ℕ → CProgram → List (List ℕ)
after_loop name p = outputs_of p ++ (last_lines ++ second_lines name p)

abbrev from_loop : List ℕ → CProgram → List (List ℕ)
from_loop name p = statement_lines p.kind (codes "        ") p.body ++ codes "    }" ∷ after_loop name p

abbrev in_function : List ℕ → CProgram → List (List ℕ)
in_function name p = numbered_lines (refusal_line p) (length p.low) ++ (statement_lines p.kind (codes "    ") p.before ++ repetition_line p ∷ from_loop name p)

program_nested : (name : List ℕ) (p : CProgram) → program_lines name p ≡ opening_lines name p ++ in_function name p
program_nested name p =
    lines_nested (opening_lines name p) (numbered_lines (refusal_line p) (length p.low)) (statement_lines p.kind (codes "    ") p.before) (repetition_line p ∷ [])
    (statement_lines p.kind (codes "        ") p.body) (codes "    }" ∷ []) (outputs_of p) last_lines (second_lines name p)

same_at : {A : Type 0} (xs ys : List A) (d : A) → length xs ≡ length ys → ((i : ℕ) → i < length xs → get_or xs i d ≡ get_or ys i d) → xs ≡ ys
same_at xs ys d long h = same_lists xs ys long (λ i e l. get_or_default xs i e d l ∙ h i l ∙ get_or_default ys i d e (subst (λ (n : ℕ). i < n) long l))

-- the sizes in the heads
heads_alike : (name : List ℕ) (p q : CProgram) → HasShortText p → HasShortText q → head_text name p ≡ head_text name q → (length p.low ≡ length q.low) × (length p.outputs ≡ length q.outputs)
heads_alike name p q h k e =
    two_numbers (codes "int " ++ name ++ codes "_solve(const int32_t state[") (codes ", int64_t sums[") (codes ")") (length p.low) (length p.outputs) (length q.low) (length q.outputs)
    h.states h.sums k.states k.sums e

average_heads_alike : (name : List ℕ) (p q : CProgram) → HasShortText p → HasShortText q → average_head_text name p ≡ average_head_text name q → length p.averages ≡ length q.averages
average_heads_alike name p q h k e =
    (two_numbers (codes "void " ++ name ++ codes "_first_inputs(const int64_t sums[") (codes ", int64_t inputs[") (codes ")") (length p.outputs) (length p.averages) (length q.outputs) (length q.averages)
    h.sums h.inputs k.sums k.inputs e).1

second_nested : (name : List ℕ) (p : CProgram) → second_lines name p ≡ (average_head_text name p ∷ codes "{" ∷ []) ++ (averages_lines p ++ codes "}" ∷ [])
second_nested name p = append_assoc (average_head_text name p ∷ codes "{" ∷ []) (averages_lines p) (codes "}" ∷ [])

-- the second functions
seconds_alike : (name : List ℕ) (p q : CProgram) → HasShortText p → HasShortText q → second_lines name p ≡ second_lines name q → p.averages ≡ q.averages
seconds_alike name p q h k e =
    let none = Constant (pos 0) in
    let line = λ (r : CProgram) (j : ℕ). average_line j (get_or r.averages j none) in
    let end : List (List ℕ) = codes "}" ∷ [] in
    let same = sym (second_nested name p) ∙ e ∙ second_nested name q in
    let long = average_heads_alike name p q h k (ap (λ (ls : List (List ℕ)). get_or ls 0 []) same) in
    let body : averages_lines p ++ end ≡ averages_lines q ++ end = ap (drop 2) same in
    let each = (numbered_cut (line p) (line q) (length p.averages) end end (body ∙ ap (λ (n : ℕ). numbered_lines (line q) n ++ end) (sym long))).0 in
    same_at p.averages q.averages none long (λ i l. averages_alike i (get_or p.averages i none) (get_or q.averages i none) (h.averages i none l) (k.averages i none (subst (λ (n : ℕ). i < n) long l)) (each i l))

-- what stands behind the loop
afters_alike : (name : List ℕ) (p q : CProgram) → HasShortText p → HasShortText q → length p.outputs ≡ length q.outputs → after_loop name p ≡ after_loop name q → (p.outputs ≡ q.outputs) × (p.averages ≡ q.averages)
afters_alike name p q h k long e =
    let none = variable State 0 in
    let line = λ (r : CProgram) (j : ℕ). output_line j (get_or r.outputs j none) in
    let rest = λ (r : CProgram). last_lines ++ second_lines name r in
    let both = numbered_cut (line p) (line q) (length p.outputs) (rest p) (rest q) (e ∙ ap (λ (n : ℕ). numbered_lines (line q) n ++ rest q) (sym long)) in (
      same_at p.outputs q.outputs none long (λ i l. outputs_alike i (get_or p.outputs i none) (get_or q.outputs i none) (h.outputs i none l) (k.outputs i none (subst (λ (n : ℕ). i < n) long l)) (both.0 i l)),
      seconds_alike name p q h k (ap (drop 3) both.1),
    )

-- the bodies of the first functions
functions_alike : (name : List ℕ) (p q : CProgram) → HasShortText p → HasShortText q → length p.low ≡ length q.low → length p.outputs ≡ length q.outputs → in_function name p ≡ in_function name q → AreOneProgram p q
functions_alike name p q h k long many e =
    let rest = λ (r : CProgram). statement_lines r.kind (codes "    ") r.before ++ repetition_line r ∷ from_loop name r in
    let boxes = numbered_cut (refusal_line p) (refusal_line q) (length p.low) (rest p) (rest q) (e ∙ ap (λ (n : ℕ). numbered_lines (refusal_line q) n ++ rest q) (sym long)) in
    let inside = λ (i : ℕ) (l : i < length p.low). subst (λ (n : ℕ). i < n) long l in
    let each = λ (i : ℕ) (l : i < length p.low).
    refusals_alike (at p.low i) (at p.high i) (at q.low i) (at q.high i) i (h.low i l) (h.high i l) (k.low i (inside i l)) (k.high i (inside i l)) (boxes.0 i l) in
    let start = cut_at (is_fifth 102) (statement_lines p.kind (codes "    ") p.before) (statement_lines q.kind (codes "    ") q.before) (repetition_line p) (repetition_line q) (from_loop name p) (from_loop name q)
    (statements_no_loop p.kind p.before) (statements_no_loop q.kind q.before) refl refl boxes.1 in
    let before = statements_alike p.kind q.kind (codes "    ") p.before q.before h.before k.before start.0 in
    let loop = cut_at (is_fifth 125) (statement_lines p.kind (codes "        ") p.body) (statement_lines q.kind (codes "        ") q.body) (codes "    }") (codes "    }") (after_loop name p) (after_loop name q)
    (statements_no_close p.kind p.body) (statements_no_close q.kind q.body) refl refl start.1.1 in
    let body = statements_alike p.kind q.kind (codes "        ") p.body q.body h.body k.body loop.0 in
    let after = afters_alike name p q h k many loop.1.1 in
    record {
      low = same_at p.low q.low (pos 0) long (λ i l. (each i l).0);
      high = λ i l. (each i l).1;
      before = before.0;
      types_before = before.1;
      repetitions = repetitions_alike p q h k start.1.0;
      body = body.0;
      types_in_body = body.1;
      outputs = after.0;
      averages = after.1;
    }

names_alike : (name other : List ℕ) → codes "#include \"" ++ name ++ codes ".h\"" ≡ codes "#include \"" ++ other ++ codes ".h\"" → name ≡ other
names_alike name other e =
    append_cancel_left (codes "#include \"") name other (append_cancel_right (codes "#include \"" ++ name) (codes "#include \"" ++ other) (codes ".h\"") e)

pub program_text_law : ProgramTextLaw
program_text_law name other p q n m h k e =
    let lines = sym (program_nested name p) ∙ lines_alike (program_lines name p) (program_lines other q) (program_plain name p n h) (program_plain other q m k) e ∙ program_nested other q in
    let one = names_alike name other (ap (λ (ls : List (List ℕ)). get_or ls 0 []) lines) in
    let named : opening_lines name p ++ in_function name p ≡ opening_lines name q ++ in_function name q = lines ∙ ap (λ (x : List ℕ). opening_lines x q ++ in_function x q) (sym one) in
    let sizes = heads_alike name p q h k (ap (λ (ls : List (List ℕ)). get_or ls 4 []) named) in
    (one, functions_alike name p q h k sizes.0 sizes.1 (ap (drop 6) named))
