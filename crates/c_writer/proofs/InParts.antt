-- The statements of a program in parts, and those of one that isn't, in one form.
use Rattle.std.proofs.Common.{◌≡◌, ℕ, zero, suc, ◌*◌, ◌^◌, ◌&&◌, Bool, if◌then◌else◌, true, false, ℤ, pos, List, [], ◌∷◌, ◌++◌, length, get_or, refl, sym, ap, ◌∙◌, append_assoc, append-nil, arith}
use Rattle.std.proofs.lemmas.Bool.{cond_both}
use Rattle.std.specs.Prelude.{codes, decimal}
use Rattle.std.specs.Fmt.{digits}
use Rattle.integer_algebra.specs.Division.{floor_of}
use Rattle.integer_algebra.specs.Sums.{at}
use Rattle.mat_int.specs.Matrix.{row_of}
use Rattle.number_text.specs.Lines.{text_of}
use Rattle.qp_model.specs.machine.Controller.{Numbers}
use Rattle.qp_model.specs.machine.AbsoluteSums.{next_magnitude}
use Rattle.overflow_check.specs.declared.machine.Machine.{Machine}
use Rattle.overflow_check.specs.declared.machine.Machine.TheVariants.{Plain, Accelerated}
use Rattle.c_language.specs.Syntax.{Family, Variable, variable, Kind, Statement, groups, CProgram}
use Rattle.c_language.specs.Syntax.Family.{State, Loaded, EntryBase, RowBase, Multiplier, Difference, Entry, Gradient, RowSum, Moved, Sum, Output, Own, Reached, Weight, Divisor, Shift, Power, Doubling, Reciprocal, Numerator, Head, Rest, MultiplierHigh, MultiplierLow, EntryHigh, EntryLow, EntryBaseHigh, RowBaseHigh, GradientHigh}
use Rattle.c_language.specs.Syntax.Expression.{Constant, Value, Minus, Times, Shifted}
use Rattle.c_language.specs.Syntax.Statement.{Declare, Assign, AtLeastZero, AtMost}
use Rattle.c_language.specs.Text.{variable_text, kind_text, constant_text, enclosed, expression_text, cast_text, statement_text, statement_lines, numbered_lines, refusal_line, output_line, shift_line, head_text, second_lines, program_text}
use Rattle.c_language.specs.Needed.{left_in}
use Rattle.c_language.proofs.LeftIn.{left_in_append}
use Rattle.c_program.specs.Of.{Sizes, kind_by, kind_for, difference_statements, entry_statements, gain_variable, partner, is_first, is_second, entry_top, lowered_value, any_below, is_product, is_row_needed, is_entry_needed, is_needed}
use Rattle.c_program.specs.ByMachine.{sizes_for, means_for, sum_for, row_for, kinds_for, step_for, next_for, before_for, body_for, program_for}
use Rattle.c_program.specs.InParts.{part_statements, gain_parts, parted_kind, parted_kinds, parted_before, parted_body, parted_program}
use Rattle.c_program.proofs.Lowering.{floor_one}
use Rattle.c_program.proofs.ProgramNeeds.{constant_part, none_part, both_parts, before_is, body_is}
use Rattle.c_writer.specs.declared.measured.Part.{Part}
use Rattle.c_writer.specs.declared.measured.Part.TheVariants.{Whole, High, Low}
use Rattle.c_writer.specs.Terms.{products_text, product_text, lowered_text, declared_text, given_end, block_text, high_line, low_line, entry_base_family, row_base_family, gradient_family, entry_family, entry_base_in, row_base_in, factor_bits, row_factor, row_rest, row_by, gradients_by, gradients_in, row_in}
use Rattle.c_writer.specs.Measured.{kind_in, program_by, move_by, row_lines_by, before_by, step_by, body_by}
use Rattle.c_writer.proofs.Texts.{products_read, lowered_read, declared_line, blocks_more, split_read}

-- ---- sums of products
pub products_alike : (f g : ℕ → ℤ) (top : ℕ → ℕ) (name other : ℕ → List ℕ) (n : ℕ) → ((k : ℕ) → f k ≡ g k) → ((k : ℕ) → name k ≡ other k) → products_text f top name n ≡ products_text g top other n
unfolding products_text
products_alike f g top name other zero h e = refl
products_alike f g top name other (suc n) h e =
    ap (λ (t : List ℕ). t ++ product_text (f n) (top n) (name n)) (products_alike f g top name other n h e) ∙
    ap (λ (z : ℤ). products_text g top other n ++ product_text z (top n) (name n)) (h n) ∙
    ap (λ (t : List ℕ). products_text g top other n ++ product_text (g n) (top n) t) (e n)

-- a row's factors of the plan
pub row_factor_is : (c : Numbers) (part : Part) (i j : ℕ) → floor_of (at (row_of c.plan_rows i) j) (2 ^ factor_bits c part i) ≡ row_factor c part i j
row_factor_is c Whole i j = refl
row_factor_is c High i j = floor_one (at (row_of c.plan_rows i) j)
row_factor_is c Low i j = floor_one (at (row_of c.plan_rows i) j)

-- a part of the sum of a row
pub row_read : (c : Numbers) (part : Part) (i : ℕ) → expression_text (row_by c part i) ≡ lowered_text (variable_text (variable (row_base_family part) i)) (factor_bits c part i) ++ row_rest c part i
row_read c part i =
    let v = variable (row_base_family part) i in
    let k = factor_bits c part i in
    let base = expression_text (lowered_value v k) in
    split_read (is_first c i) (is_second c i) base _ _ _ _ _ _ (append_assoc base (codes " + ") (expression_text (Value (variable (gradient_family part) i))))
    (append_assoc base (codes " - ") (expression_text (Value (variable (gradient_family part) (partner c i)))))
    (products_read (lowered_value v k) (row_factor c part i) (entry_top c) (variable (entry_family part)) (length c.offsets)) ∙
    ap (λ (t : List ℕ). t ++ row_rest c part i) (lowered_read v k)

-- ---- types
pub entry_base_wide : (parted : Bool) (c : Numbers) (z : Sizes) (part : Part) (j : ℕ) → codes "int64_t" ≡ kind_text (kind_in parted c z (entry_base_family part) j)
entry_base_wide parted c z Whole j = refl
entry_base_wide parted c z High j = refl
entry_base_wide parted c z Low j = refl

pub row_base_wide : (parted : Bool) (c : Numbers) (z : Sizes) (part : Part) (i : ℕ) → codes "int64_t" ≡ kind_text (kind_in parted c z (row_base_family part) i)
row_base_wide parted c z Whole i = refl
row_base_wide parted c z High i = refl
row_base_wide parted c z Low i = refl

pub gradient_wide : (parted : Bool) (c : Numbers) (z : Sizes) (part : Part) (i : ℕ) → codes "int64_t" ≡ kind_text (kind_in parted c z (gradient_family part) i)
gradient_wide parted c z Whole i = refl
gradient_wide parted c z High i = refl
gradient_wide parted c z Low i = refl

-- ---- the lines of a variable's parts
part_text : codes "INT64_C(65536)" ≡ expression_text (Constant (pos (2 ^ 16)))
unfolding digits
part_text = refl

low_pieces : (v m o c t h p : List ℕ) → v ++ (m ++ o ++ c ++ t) ++ h ++ p ≡ v ++ m ++ (o ++ (c ++ t ++ h) ++ p)
low_pieces v m o c t h p = simp append_assoc refl

low_read : (v w : Variable) →
    (codes "(int64_t)" ++ variable_text v) ++ codes " - (INT64_C(65536) * " ++ (codes "(int64_t)" ++ variable_text w) ++ codes ")" ≡
    expression_text (Minus (Value v) (Times (Constant (pos (2 ^ 16))) (Value w)))
low_read v w =
    low_pieces (codes "(int64_t)" ++ variable_text v) (codes " - ") (codes "(") (codes "INT64_C(65536)") (codes " * ") (codes "(int64_t)" ++ variable_text w) (codes ")") ∙
    ap (λ (c : List ℕ). (codes "(int64_t)" ++ variable_text v) ++ codes " - " ++ enclosed (c ++ codes " * " ++ (codes "(int64_t)" ++ variable_text w))) part_text

pub parts_read : (types : Variable → Kind) (v h l : Variable) (kind t0 t1 : List ℕ) → kind ≡ kind_text (types h) → codes "int32_t" ≡ kind_text (types l) →
    t1 ≡ t0 ++ (high_line kind (variable_text v) (variable_text h) ++ low_line (variable_text v) (variable_text h) (variable_text l)) →
    t1 ≡ t0 ++ block_text types (codes "        ") (part_statements v h l)
parts_read types v h l kind t0 t1 k n e =
    let i = codes "        " in
    let high = declared_text i kind (variable_text h) in
    let shifted = lowered_text (variable_text v) 16 in
    let low = declared_text i (codes "int32_t") (variable_text l) in
    let rest = (codes "(int64_t)" ++ variable_text v) ++ codes " - (INT64_C(65536) * " ++ (codes "(int64_t)" ++ variable_text h) ++ codes ")" in
    let ta = ((t0 ++ high) ++ shifted) ++ given_end in
    let one : ta ≡ t0 ++ block_text types i (Declare h (Shifted (Value v) 16) ∷ []) =
    declared_line types h (Shifted (Value v) 16) i kind t0 (t0 ++ high) ((t0 ++ high) ++ shifted) ta k refl (ap (λ (t : List ℕ). (t0 ++ high) ++ t) (sym (lowered_read v 16))) refl in
    let tb = ((ta ++ low) ++ rest) ++ given_end in
    let two : tb ≡ ta ++ block_text types i (Declare l (Minus (Value v) (Times (Constant (pos (2 ^ 16))) (Value h))) ∷ []) =
    declared_line types l (Minus (Value v) (Times (Constant (pos (2 ^ 16))) (Value h))) i (codes "int32_t") ta (ta ++ low) ((ta ++ low) ++ rest) tb n refl (ap (λ (t : List ℕ). (ta ++ low) ++ t) (low_read v h)) refl in
    e ∙ lines_pieces t0 high shifted given_end low rest ∙
    blocks_more types i (Declare h (Shifted (Value v) 16) ∷ []) (Declare l (Minus (Value v) (Times (Constant (pos (2 ^ 16))) (Value h))) ∷ []) t0 ta tb one two
  where
    lines_pieces : (t0 a b e d f : List ℕ) → t0 ++ ((a ++ b ++ e) ++ (d ++ f ++ e)) ≡ ((((((t0 ++ a) ++ b) ++ e) ++ d) ++ f) ++ e)
    lines_pieces t0 a b e d f = simp append_assoc refl

low_line_pieces : (t0 d v m h p e : List ℕ) → (((((t0 ++ d) ++ v) ++ m) ++ h) ++ p) ++ e ≡ t0 ++ (d ++ (v ++ m ++ h ++ p) ++ e)
low_line_pieces t0 d v m h p e = simp append_assoc refl

pub low_more : (t0 t1 t2 t3 t4 t5 t6 d v m h p e : List ℕ) → t1 ≡ t0 ++ d → t2 ≡ t1 ++ v → t3 ≡ t2 ++ m → t4 ≡ t3 ++ h → t5 ≡ t4 ++ p → t6 ≡ t5 ++ e → t6 ≡ t0 ++ (d ++ (v ++ m ++ h ++ p) ++ e)
low_more t0 t1 t2 t3 t4 t5 t6 d v m h p e e1 e2 e3 e4 e5 e6 =
    let before : t3 ≡ ((t0 ++ d) ++ v) ++ m = e3 ∙ ap (λ (t : List ℕ). t ++ m) (e2 ∙ ap (λ (t : List ℕ). t ++ v) e1) in
    let later : t5 ≡ ((((t0 ++ d) ++ v) ++ m) ++ h) ++ p = e5 ∙ ap (λ (t : List ℕ). t ++ p) (e4 ∙ ap (λ (t : List ℕ). t ++ h) before) in
    e6 ∙ ap (λ (t : List ℕ). t ++ e) later ∙ low_line_pieces t0 d v m h p e

-- ---- what is left in
pub gains_part : (c : Numbers) (i : ℕ) → left_in (is_needed c) (gain_parts c i) ≡ (if is_row_needed c i then gain_parts c i else [])
gains_part c i =
    let parts = part_statements (gain_variable c i) (variable MultiplierHigh i) (variable MultiplierLow i) in
    cond_both (is_second c i) [] parts (λ ss. left_in (is_needed c) ss ≡ (if is_row_needed c i then ss else []))
    (λ t. none_part (is_row_needed c i) [] refl) (λ f. constant_part (is_row_needed c i) parts)

pub row_base_part : (parted : Bool) (c : Numbers) (i : ℕ) → left_in (is_needed c) (row_base_in parted c i) ≡ (if is_row_needed c i then row_base_in parted c i else [])
row_base_part true c i = constant_part (is_row_needed c i) (row_base_in true c i)
row_base_part false c i = constant_part (is_row_needed c i) (row_base_in false c i)

pub entry_base_part : (parted : Bool) (c : Numbers) (j : ℕ) → left_in (is_needed c) (entry_base_in parted c j) ≡ entry_base_in parted c j
entry_base_part true c j = refl
entry_base_part false c j = refl

pub entry_part : (c : Numbers) (j : ℕ) → let parts = part_statements (variable Entry j) (variable EntryHigh j) (variable EntryLow j) in
    left_in (is_needed c) parts ≡ (if is_entry_needed c j then parts else [])
entry_part c j = constant_part (is_entry_needed c j) (part_statements (variable Entry j) (variable EntryHigh j) (variable EntryLow j))

gradients_part : (parted : Bool) (c : Numbers) (i : ℕ) → left_in (is_needed c) (gradients_in parted c i) ≡ (if is_row_needed c i then gradients_in parted c i else [])
gradients_part true c i =
    cond_both (is_first c i) (gradients_by true c i) [] (λ ss. left_in (is_needed c) ss ≡ (if is_row_needed c i then ss else []))
    (λ t. constant_part (is_row_needed c i) (gradients_by true c i)) (λ f. none_part (is_row_needed c i) [] refl)
gradients_part false c i =
    cond_both (is_first c i) (gradients_by false c i) [] (λ ss. left_in (is_needed c) ss ≡ (if is_row_needed c i then ss else []))
    (λ t. constant_part (is_row_needed c i) (gradients_by false c i)) (λ f. none_part (is_row_needed c i) [] refl)

moves_part : (parted : Bool) (m : Machine) (c : Numbers) (i : ℕ) → let rest = (Declare (variable RowSum i) (row_in parted c i) ∷ []) ++ move_by parted m c i in
    left_in (is_needed c) rest ≡ (if is_row_needed c i then rest else [])
moves_part parted Plain c i = constant_part (is_row_needed c i) ((Declare (variable RowSum i) (row_in parted c i) ∷ []) ++ move_by parted Plain c i)
moves_part parted Accelerated c i = constant_part (is_row_needed c i) ((Declare (variable RowSum i) (row_in parted c i) ∷ []) ++ move_by parted Accelerated c i)

pub row_lines_part : (parted : Bool) (m : Machine) (c : Numbers) (i : ℕ) → left_in (is_needed c) (row_lines_by parted m c i) ≡ (if is_row_needed c i then row_lines_by parted m c i else [])
row_lines_part parted m c i =
    let b = is_needed c in
    let g = gradients_in parted c i in
    let y = Declare (variable RowSum i) (row_in parted c i) ∷ [] in
    let t = move_by parted m c i in
    let gradient = gradients_part parted c i in
    let rest = moves_part parted m c i in
    ap (left_in b) (append_assoc g y t) ∙ left_in_append b g (y ++ t) ∙ (λ k. gradient k ++ rest k) ∙ both_parts (is_row_needed c i) g (y ++ t) ∙
    ap (λ (ss : List Statement). if is_row_needed c i then ss else []) (sym (append_assoc g y t))

pub sum_part : (m : Machine) (c : Numbers) (j : ℕ) → left_in (is_needed c) (sum_for m j) ≡ sum_for m j
sum_part Plain c j = refl
sum_part Accelerated c j = refl

-- which entries are needed
pub entry_needed : (c : Numbers) (j : ℕ) →
    is_entry_needed c j ≡ any_below (λ i. is_row_needed c i && is_product (at (row_of c.plan_rows i) j) (entry_top c j)) (length c.bounds)
unfolding is_entry_needed
entry_needed c j = refl

-- ---- the whole
-- its variables' types
parted_kind_is : (c : Numbers) (z : Sizes) (f : Family) (k : ℕ) → parted_kind c z f k ≡ kind_in true c z f k
parted_kind_is c z RowSum k = ap kind_for (let e : next_magnitude c k ≡ next_magnitude c k * 2 ^ 0 = omega arith in e)
parted_kind_is c z State k = refl
parted_kind_is c z Loaded k = refl
parted_kind_is c z EntryBase k = refl
parted_kind_is c z RowBase k = refl
parted_kind_is c z Multiplier k = refl
parted_kind_is c z Difference k = refl
parted_kind_is c z Entry k = refl
parted_kind_is c z Gradient k = refl
parted_kind_is c z Moved k = refl
parted_kind_is c z Sum k = refl
parted_kind_is c z Output k = refl
parted_kind_is c z Own k = refl
parted_kind_is c z Reached k = refl
parted_kind_is c z Weight k = refl
parted_kind_is c z Divisor k = refl
parted_kind_is c z Shift k = refl
parted_kind_is c z Power k = refl
parted_kind_is c z Doubling k = refl
parted_kind_is c z Reciprocal k = refl
parted_kind_is c z Numerator k = refl
parted_kind_is c z Head k = refl
parted_kind_is c z Rest k = refl
parted_kind_is c z MultiplierHigh k = refl
parted_kind_is c z MultiplierLow k = refl
parted_kind_is c z EntryHigh k = refl
parted_kind_is c z EntryLow k = refl
parted_kind_is c z EntryBaseHigh k = refl
parted_kind_is c z RowBaseHigh k = refl
parted_kind_is c z GradientHigh k = refl

whole_kind_is : (c : Numbers) (z : Sizes) (f : Family) (k : ℕ) → kind_by c z f k ≡ kind_in false c z f k
whole_kind_is c z RowSum k = refl
whole_kind_is c z State k = refl
whole_kind_is c z Loaded k = refl
whole_kind_is c z EntryBase k = refl
whole_kind_is c z RowBase k = refl
whole_kind_is c z Multiplier k = refl
whole_kind_is c z Difference k = refl
whole_kind_is c z Entry k = refl
whole_kind_is c z Gradient k = refl
whole_kind_is c z Moved k = refl
whole_kind_is c z Sum k = refl
whole_kind_is c z Output k = refl
whole_kind_is c z Own k = refl
whole_kind_is c z Reached k = refl
whole_kind_is c z Weight k = refl
whole_kind_is c z Divisor k = refl
whole_kind_is c z Shift k = refl
whole_kind_is c z Power k = refl
whole_kind_is c z Doubling k = refl
whole_kind_is c z Reciprocal k = refl
whole_kind_is c z Numerator k = refl
whole_kind_is c z Head k = refl
whole_kind_is c z Rest k = refl
whole_kind_is c z MultiplierHigh k = refl
whole_kind_is c z MultiplierLow k = refl
whole_kind_is c z EntryHigh k = refl
whole_kind_is c z EntryLow k = refl
whole_kind_is c z EntryBaseHigh k = refl
whole_kind_is c z RowBaseHigh k = refl
whole_kind_is c z GradientHigh k = refl

statement_same : (f g : Variable → Kind) (s : Statement) → ((v : Variable) → f v ≡ g v) → statement_text f s ≡ statement_text g s
statement_same f g (Declare v a) h = ap (λ (k : Kind). kind_text k ++ codes " " ++ variable_text v ++ cast_text k a) (h v)
statement_same f g (Assign v a) h = ap (λ (k : Kind). variable_text v ++ cast_text k a) (h v)
statement_same f g (AtLeastZero v) h = refl
statement_same f g (AtMost v top) h =
    ap (λ (k : Kind). codes "if (" ++ variable_text v ++ codes " > " ++ constant_text top ++ codes ") { " ++ variable_text v ++ cast_text k (Constant top) ++ codes " }") (h v)

lines_same_kinds : (f g : Variable → Kind) (indent : List ℕ) (ss : List Statement) → ((v : Variable) → f v ≡ g v) → statement_lines f indent ss ≡ statement_lines g indent ss
lines_same_kinds f g indent [] h = refl
lines_same_kinds f g indent (s ∷ ss) h =
    ap (λ (t : List ℕ). (indent ++ t) ∷ statement_lines f indent ss) (statement_same f g s h) ∙
    ap (λ (ls : List (List ℕ)). (indent ++ statement_text g s) ∷ ls) (lines_same_kinds f g indent ss h)

-- its statements
step_same : (m : Machine) (c : Numbers) → step_by false m c ≡ step_for m c
step_same m c =
    let start = means_for m c ++ groups (difference_statements c) (length c.bounds) in
    ap (λ (ss : List Statement). ss ++ groups (entry_statements c) (length c.offsets) ++ groups (sum_for m) (length c.offsets) ++ groups (row_for m c) (length c.bounds)) (append-nil start)

body_same : (m : Machine) (c : Numbers) → body_by false m c ≡ body_for m c
body_same m c = ap (λ (ss : List Statement). ss ++ next_for m) (step_same m c) ∙ sym (body_is m c)

-- statements by other types that are the same
lines_is : (f g : Variable → Kind) (needed : Variable → Bool) (indent : List ℕ) (xs ys : List Statement) → ((v : Variable) → f v ≡ g v) → xs ≡ ys →
    statement_lines f indent (left_in needed xs) ≡ statement_lines g indent (left_in needed ys)
lines_is f g needed indent xs ys h e = lines_same_kinds f g indent (left_in needed xs) h ∙ ap (λ (ss : List Statement). statement_lines g indent (left_in needed ss)) e

-- a program's text from the lines of its statements
program_with : (name : List ℕ) (p : CProgram) (before body : List (List ℕ)) → List ℕ
program_with name p before body = text_of (
    (codes "#include \"" ++ name ++ codes ".h\"") ∷ [] ∷ shift_line name ∷ [] ∷ head_text name p ∷ codes "{" ∷ []
    ++ numbered_lines (refusal_line p) (length p.low)
    ++ before
    ++ (codes "    for (int32_t step = 0; step < " ++ decimal p.repetitions ++ codes "; step++) {") ∷ []
    ++ body
    ++ codes "    }" ∷ []
    ++ numbered_lines (λ j. output_line j (get_or p.outputs j (variable State 0))) (length p.outputs)
    ++ codes "    return 0;" ∷ codes "}" ∷ [] ∷ []
    ++ second_lines name p)

surrounded : (name : List ℕ) (p : CProgram) (before body : List (List ℕ)) → statement_lines p.kind (codes "    ") p.before ≡ before → statement_lines p.kind (codes "        ") p.body ≡ body →
    program_text name p ≡ program_with name p before body
unfolding program_with
surrounded name p before body e h =
    ap (λ (b : List (List ℕ)). program_with name p b (statement_lines p.kind (codes "        ") p.body)) e ∙ ap (program_with name p before) h

pub text_same : (parted : Bool) (m : Machine) (c : Numbers) (name : List ℕ) → program_text name (program_by parted m c) ≡ program_text name (if parted then parted_program m c else program_for m c)
unfolding program_with
text_same true m c name =
    let f = λ (v : Variable). kind_in true c (sizes_for m c) v.family v.number in
    let same = λ (v : Variable). sym (parted_kind_is c (sizes_for m c) v.family v.number) in
    surrounded name (program_by true m c) (statement_lines (parted_kinds m c) (codes "    ") (left_in (is_needed c) (parted_before m c))) _
    (lines_is f (parted_kinds m c) (is_needed c) (codes "    ") (before_by true m c) (parted_before m c) same refl)
    (lines_is f (parted_kinds m c) (is_needed c) (codes "        ") (body_by true m c) (parted_body m c) same refl)
text_same false m c name =
    let f = λ (v : Variable). kind_in false c (sizes_for m c) v.family v.number in
    let same = λ (v : Variable). sym (whole_kind_is c (sizes_for m c) v.family v.number) in
    surrounded name (program_by false m c) (statement_lines (kinds_for m c) (codes "    ") (left_in (is_needed c) (before_for m c))) _
    (lines_is f (kinds_for m c) (is_needed c) (codes "    ") (before_by false m c) (before_for m c) same (sym (before_is m c)))
    (lines_is f (kinds_for m c) (is_needed c) (codes "        ") (body_by false m c) (body_for m c) same (body_same m c))
