-- Each number that the text of a controller's program shows is below 2^64.
use Rattle.std.proofs.Common.{◌≡◌, ℕ, zero, suc, ◌-◌, ◌^◌, ◌<◌, ◌==◌, ltb, Bool, true, if◌then◌else◌, get_or, ℤ, pos, ◌*ℤ◌, List, [], ◌∷◌, ◌++◌, length, map, sym, subst, refl, arith}
use Rattle.std.specs.Prelude.{All}
use Rattle.std.specs.List.{range_with_len}
use Rattle.std.specs.Int.{w32, trailing_zeros}
use Rattle.std.proofs.lemmas.Int.{ints}
use Rattle.std.proofs.lemmas.Bool.{cond_both, ltb-true, lt-ltb}
use Rattle.std.proofs.lemmas.Nat.{mul-le}
use Rattle.std.proofs.lemmas.List.Elements.{All-nil, All-cons, All-head, All-tail, All-append, All-map, All-get_or, All-from_get_or}
use Rattle.std.proofs.lemmas.List.FromFn.{length-range_with_len, get_or-range_with_len, length-map-range_with_len, get_or-map-range_with_len}
use Rattle.integer_algebra.specs.Sums.{at}
use Rattle.mat_int.specs.Matrix.{row_of}
use Rattle.qp_model.specs.problem.Range.{IsNumerator}
use Rattle.qp_model.specs.machine.Controller.{Numbers, IsSized}
use Rattle.qp_model.specs.machine.Machine.{IsAdmissible, top_of}
use Rattle.overflow_check.specs.FastMachine.{all_weights, fast_top}
use Rattle.overflow_check.specs.FastController.{with_last_version}
use Rattle.overflow_check.specs.declared.machine.Machine.TheVariants.{Plain}
use Rattle.overflow_check.proofs.Machines.{shared}
use Rattle.c_language.specs.Syntax.{Family, Variable, variable, Kind, Expression, Statement, groups, CProgram}
use Rattle.c_language.specs.Syntax.Family.{Loaded, RowBase, Multiplier, Entry, RowSum, Moved, Sum, Output, Own, Reached}
use Rattle.c_language.specs.Syntax.Expression.{Constant, Value, Plus, Minus, Times, Quotient, Remainder, Over, Shifted, ShiftedBy}
use Rattle.c_language.specs.Syntax.Statement.{Declare, Assign, AtLeastZero, AtMost}
use Rattle.c_language.specs.Meaning.{Environment, IsDefined, variable_of, done, IsDone, AreDone, handed}
use Rattle.c_language.specs.Needed.{left_in, needed_part}
use Rattle.c_program.specs.Of.{state_top, multiplier_top, entry_top, row_bits, plan_factor, lowered_base, plus_plan, partner, is_first, is_second, loaded_statements, entry_base_statements, row_base_statements, zero_statements, before_of, difference_statements, gain_of, gain_variable, entry_statements, sum_statements, gradient_statements, row_expression, row_sum_statements, moved_expression, move_statements, row_statements, repetition_body, average_of, shifted_average, divided_average, has_short_divisor, is_quick, is_twice_quick, is_needed}
use Rattle.c_program.specs.FastOf.{first_weight, first_scale_lines, first_scale, fast_before_of, divisor_statement, scale_lines, scale_statements, mean_expression, quick_mean_statements, twice_mean_statements, mean_statements, weighted_sum_statements, fast_moved_expression, reached_expression, fast_move_statements, fast_row_statements, next_weight, fast_body}
use Rattle.c_language.specs.Laws.{HasShortNumbers, HasShortOperands, HasShortText}
use Rattle.c_program.specs.Laws.{SolvesTo, ShortTextLaw, FastShortTextLaw, ProgramLaw, FastProgramLaw}
use Rattle.c_language.proofs.Runs.{groups_none, groups_more}
use Rattle.c_program.proofs.Pairs.{pair_there, later_there}
use Rattle.c_language.proofs.LeftIn.{ReadsNeeded}
use Rattle.c_program.proofs.ProgramNeeds.{products_need, lowered_needs}

-- ---- what C defines has short constants
abbrev pub small : Variable → Bool
small v = ltb v.number (2 ^ 64)

pub small_at : (n k : ℕ) → k < n → n < 2 ^ 64 → ltb k (2 ^ 64) ≡ true
small_at n k l h = lt-ltb k (2 ^ 64) (omega (arith, l, h))

defined_short : (e : Environment) (a : Expression) → IsDefined e a → ReadsNeeded small a → HasShortNumbers a
defined_short e (Constant z) d r = omega (arith, d)
defined_short e (Value v) d r = ltb-true v.number (2 ^ 64) r
defined_short e (Plus a b) d r = (defined_short e a d.0 r.0, defined_short e b d.1 r.1)
defined_short e (Minus a b) d r = (defined_short e a d.0 r.0, defined_short e b d.1 r.1)
defined_short e (Times a b) d r = (defined_short e a d.0 r.0, defined_short e b d.1 r.1)
defined_short e (Quotient a k) d r = (defined_short e a d.0 r, omega (arith, d.2))
defined_short e (Remainder a k) d r = (defined_short e a d.0 r, omega (arith, d.2))
defined_short e (Over a v) d r = (defined_short e a d.0 r.0, ltb-true v.number (2 ^ 64) r.1)
defined_short e (Shifted a k) d r = (defined_short e a d.0 r, omega (arith, d.1))
defined_short e (ShiftedBy a v) d r = (defined_short e a d.0 r.0, ltb-true v.number (2 ^ 64) r.1)

abbrev pub IsSmall : Statement → Type 0
IsSmall (Declare v a) = (v.number < 2 ^ 64) × ReadsNeeded small a
IsSmall (Assign v a) = (v.number < 2 ^ 64) × ReadsNeeded small a
IsSmall (AtLeastZero v) = v.number < 2 ^ 64
IsSmall (AtMost v top) = v.number < 2 ^ 64

short_statement : (kind : Variable → Kind) (e : Environment) (s : Statement) → IsDone kind e s → IsSmall s → HasShortOperands s
short_statement kind e (Declare v a) d r = (r.0, defined_short e a d.operands r.1)
short_statement kind e (Assign v a) d r = (r.0, defined_short e a d.operands r.1)
short_statement kind e (AtLeastZero v) d r = r
short_statement kind e (AtMost v top) d r = (r, omega (arith, d.operands))

short_done : (kind : Variable → Kind) (e : Environment) (ss : List Statement) → AreDone kind e ss → All IsSmall ss → All HasShortOperands ss
unfolding AreDone
short_done kind e [] d r = All-nil HasShortOperands
short_done kind e (s ∷ ss) d r =
    All-cons HasShortOperands s ss (short_statement kind e s d.0 (All-head IsSmall s ss r)) (short_done kind (done e s) ss d.1 (All-tail IsSmall s ss r))

-- ---- lists of statements
pub one : (s : Statement) → IsSmall s → All IsSmall (s ∷ [])
one s h = All-cons IsSmall s [] h (All-nil IsSmall)

where_first : (b : Bool) (s : Statement) → (b ≡ true → IsSmall s) → All IsSmall (if b then s ∷ [] else [])
where_first b s h = cond_both b (s ∷ []) [] (All IsSmall) (λ t. one s (h t)) (λ f. All-nil IsSmall)

pub in_groups : (f : ℕ → List Statement) (n : ℕ) → ((i : ℕ) → i < n → All IsSmall (f i)) → All IsSmall (groups f n)
in_groups f zero h = subst (All IsSmall) (sym (groups_none f)) (All-nil IsSmall)
in_groups f (suc n) h =
    subst (All IsSmall) (sym (groups_more f n)) (All-append IsSmall (groups f n) (f n) (in_groups f n (λ i l. h i (omega (arith, l)))) (h n (omega arith)))

in_part : (needed : Variable → Bool) (ss : List Statement) → All IsSmall ss → All IsSmall (left_in needed ss)
in_part needed [] h = h
in_part needed (s ∷ ss) h =
    let rest = in_part needed ss (All-tail IsSmall s ss h) in
    cond_both (needed (variable_of s)) (s ∷ left_in needed ss) (left_in needed ss) (All IsSmall) (λ t. All-cons IsSmall s (left_in needed ss) (All-head IsSmall s ss h) rest) (λ f. rest)

-- ---- a controller's statements
pub record AreFew (c : Numbers) : Type 0 where
  pub states : c.states < 2 ^ 64
  pub entries : length c.offsets < 2 ^ 64
  pub rows : length c.bounds < 2 ^ 64

pub before_small : (c : Numbers) → AreFew c → All IsSmall (before_of c)
before_small c w =
    let n = groups (loaded_statements c) c.states in
    let a = groups (entry_base_statements c) (length c.offsets) in
    let r = groups (row_base_statements c) (length c.bounds) in
    let l = groups (zero_statements Multiplier) (length c.bounds) in
    let s = groups (zero_statements Sum) (length c.offsets) in
    let A = λ (xs ys : List Statement). All-append IsSmall xs ys in
    A (n ++ a ++ r ++ l) s
    (A (n ++ a ++ r) l
    (A (n ++ a) r
    (A n a (in_groups (loaded_statements c) c.states (λ k m. one _ (omega (arith, m, w.states), (tt, small_at c.states k m w.states))))
    (in_groups (entry_base_statements c) (length c.offsets) (λ j m. one _ (
      omega (arith, m, w.entries),
      products_need small (Constant _) (λ k. at (row_of c.state_gains j) k *ℤ pos (2 ^ c.step_exponent)) (state_top c) (variable Loaded) c.states tt (λ k h some. small_at c.states k h w.states),
    ))))
    (in_groups (row_base_statements c) (length c.bounds) (λ i m. one _ (
      omega (arith, m, w.rows),
      products_need small (Constant _) (at (row_of c.state_rows i)) (state_top c) (variable Loaded) c.states tt (λ k h some. small_at c.states k h w.states),
    ))))
    (in_groups (zero_statements Multiplier) (length c.bounds) (λ i m. one _ (omega (arith, m, w.rows), tt))))
    (in_groups (zero_statements Sum) (length c.offsets) (λ j m. one _ (omega (arith, m, w.entries), tt)))

plan_small : (c : Numbers) (i : ℕ) (a : Expression) → AreFew c → ReadsNeeded small a → ReadsNeeded small (plus_plan c i a)
plan_small c i a w r = products_need small a (plan_factor c i) (entry_top c) (variable Entry) (length c.offsets) r (λ j h some. small_at (length c.offsets) j h w.entries)

pub difference_small : (c : Numbers) (i : ℕ) → AreFew c → i < length c.bounds → All IsSmall (difference_statements c i)
difference_small c i w l =
    where_first (is_first c i) _ (λ t. (omega (arith, l, w.rows), (small_at (length c.bounds) i l w.rows, small_at (length c.bounds) (partner c i) (pair_there c i t).inside w.rows)))

row_expression_small : (c : Numbers) (i : ℕ) → AreFew c → i < length c.bounds → ReadsNeeded small (row_expression c i)
row_expression_small c i w l =
    let R = λ (a : Expression). ReadsNeeded small a in
    let own = small_at (length c.bounds) i l w.rows in
    let base = lowered_needs small (variable RowBase i) (row_bits c i) own in
    cond_both (is_first c i) _ _ R (λ t. (base, own)) (λ f. cond_both (is_second c i) _ _ R
    (λ t. (base, small_at (length c.bounds) (partner c i) (omega (arith, (later_there c i l t).pair.order, l)) w.rows)) (λ g. plan_small c i (lowered_base c i) w base))

-- a row's statements, however its multiplier is moved
row_small_by : (c : Numbers) (i : ℕ) (move : List Statement) → AreFew c → i < length c.bounds → All IsSmall move → All IsSmall (gradient_statements c i ++ row_sum_statements c i ++ move)
row_small_by c i move w l h =
    let number : i < 2 ^ 64 = omega (arith, l, w.rows) in
    All-append IsSmall (gradient_statements c i ++ row_sum_statements c i) move
    (All-append IsSmall (gradient_statements c i) (row_sum_statements c i)
    (where_first (is_first c i) _ (λ t. (number, plan_small c i (Constant (pos 0)) w tt)))
    (one _ (number, row_expression_small c i w l))) h

-- what is moved is declared, clamped, and put back
pub clamped_small : (v : Variable) (e : Expression) (top : ℤ) (i : ℕ) (rest : List Statement) → i < 2 ^ 64 → v.number < 2 ^ 64 → ReadsNeeded small e → All IsSmall rest →
    All IsSmall (Declare (variable Moved i) e ∷ AtLeastZero (variable Moved i) ∷ AtMost (variable Moved i) top ∷ Assign v (Value (variable Moved i)) ∷ rest)
clamped_small v e top i rest number there r h =
    let t = variable Moved i in
    let back = Assign v (Value t) ∷ rest in
    let most = AtMost t top ∷ back in
    let least = AtLeastZero t ∷ most in
    All-cons IsSmall (Declare t e) least (number, r)
    (All-cons IsSmall (AtLeastZero t) most number (All-cons IsSmall (AtMost t top) back number (All-cons IsSmall (Assign v (Value t)) rest (there, lt-ltb i (2 ^ 64) number) h)))

row_small : (c : Numbers) (i : ℕ) → AreFew c → i < length c.bounds → All IsSmall (row_statements c i)
row_small c i w l =
    let own = small_at (length c.bounds) i l w.rows in
    let number : i < 2 ^ 64 = omega (arith, l, w.rows) in
    row_small_by c i (move_statements c i) w l
    (clamped_small (variable Multiplier i) (moved_expression c i) (top_of c i) i [] number number (own, lowered_needs small (variable RowSum i) (c.fraction_bits - row_bits c i) own) (All-nil IsSmall))

pub differences_small : (c : Numbers) → AreFew c → All IsSmall (groups (difference_statements c) (length c.bounds))
differences_small c w = in_groups (difference_statements c) (length c.bounds) (λ i l. difference_small c i w l)

entries_small : (c : Numbers) → AreFew c → All IsSmall (groups (entry_statements c) (length c.offsets))
entries_small c w = in_groups (entry_statements c) (length c.offsets) (λ j l. one _ (
  omega (arith, l, w.entries),
  (
    tt,
    products_need small _ (gain_of c j) (multiplier_top c) (gain_variable c) (length c.bounds) (small_at (length c.offsets) j l w.entries) (λ i h some. small_at (length c.bounds) i h w.rows),
  ),
))

body_small : (c : Numbers) → AreFew c → All IsSmall (repetition_body c)
body_small c w =
    let d = groups (difference_statements c) (length c.bounds) in
    let u = groups (entry_statements c) (length c.offsets) in
    let s = groups sum_statements (length c.offsets) in
    let r = groups (row_statements c) (length c.bounds) in
    All-append IsSmall (d ++ u ++ s) r
    (All-append IsSmall (d ++ u) s
    (All-append IsSmall d u (differences_small c w) (entries_small c w))
    (in_groups sum_statements (length c.offsets) (λ j l. let own = small_at (length c.offsets) j l w.entries in one _ (omega (arith, l, w.entries), (own, own)))))
    (in_groups (row_statements c) (length c.bounds) (λ i l. row_small c i w l))

-- ---- those of the accelerated machine
abbrev pub AreSmall : List Statement → Type 0
AreSmall [] = Unit {0}
AreSmall (s ∷ ss) = IsSmall s × AreSmall ss

pub listed : (ss : List Statement) → AreSmall ss → All IsSmall ss
listed [] h = All-nil IsSmall
listed (s ∷ ss) h = All-cons IsSmall s ss h.0 (listed ss h.1)

pub where_short : (c : Numbers) (ss : List Statement) → AreSmall ss → All IsSmall (if has_short_divisor c then ss else [])
where_short c ss h = cond_both (has_short_divisor c) ss [] (All IsSmall) (λ t. listed ss h) (λ f. All-nil IsSmall)

pub zeros_small : (c : Numbers) (f : Family) → AreFew c → All IsSmall (groups (zero_statements f) (length c.bounds))
zeros_small c f w = in_groups (zero_statements f) (length c.bounds) (λ i m. one _ (omega (arith, m, w.rows), tt))

fast_before_small : (c : Numbers) → AreFew c → All IsSmall (fast_before_of c)
fast_before_small c w =
    let m = groups (zero_statements Own) (length c.bounds) in
    let v = groups (zero_statements Reached) (length c.bounds) in
    All-append IsSmall (before_of c ++ m ++ v ++ (first_weight ∷ [])) (first_scale c)
    (All-append IsSmall (before_of c ++ m ++ v) (first_weight ∷ [])
    (All-append IsSmall (before_of c ++ m) v (All-append IsSmall (before_of c) m (before_small c w) (zeros_small c Own w)) (zeros_small c Reached w))
    (one first_weight (omega arith, tt)))
    (where_short c first_scale_lines ((omega arith, tt), ((omega arith, tt), tt)))

pub scale_small : (c : Numbers) → All IsSmall (scale_statements c)
scale_small c =
    where_short c scale_lines
    ((omega arith, (tt, ((refl, tt), refl))), ((omega arith, (refl, refl)), ((omega arith, (refl, (refl, refl))), ((omega arith, ((refl, tt), refl)), tt))))

pub mean_small : (c : Numbers) (i : ℕ) → AreFew c → i < length c.bounds → All IsSmall (mean_statements c i)
mean_small c i w l =
    let own = small_at (length c.bounds) i l w.rows in
    let number : i < 2 ^ 64 = omega (arith, l, w.rows) in
    let divided = Assign (variable Multiplier i) (mean_expression i) ∷ [] in
    cond_both (is_quick c i) (quick_mean_statements i) (if is_twice_quick c i then twice_mean_statements i else divided) (All IsSmall)
    (λ t. listed (quick_mean_statements i)
    ((number, (own, (refl, own))), ((number, (own, refl)), ((number, (own, refl)), ((number, ((own, (own, refl)), refl)), ((number, ((own, tt), own)), tt))))))
    (λ f. cond_both (is_twice_quick c i) (twice_mean_statements i) divided (All IsSmall)
    (λ t. listed (twice_mean_statements i) (
      (number, (own, (refl, own))),
      (
        (number, (own, refl)),
        (
          (number, ((own, refl), tt)),
          (
            (number, (own, (own, refl))),
            ((number, (own, refl)), ((number, (own, refl)), ((number, ((own, (own, refl)), refl)), ((number, ((own, tt), own)), ((number, (own, own)), tt))))),
          ),
        ),
      ),
    ))
    (λ g. listed divided ((number, ((own, (refl, own)), refl)), tt)))

fast_row_small : (c : Numbers) (i : ℕ) → AreFew c → i < length c.bounds → All IsSmall (fast_row_statements c i)
fast_row_small c i w l =
    let own = small_at (length c.bounds) i l w.rows in
    let number : i < 2 ^ 64 = omega (arith, l, w.rows) in
    row_small_by c i (fast_move_statements c i) w l
    (clamped_small (variable Own i) (fast_moved_expression c i) (fast_top c i) i (Assign (variable Reached i) (reached_expression i) ∷ []) number number
    (own, (refl, lowered_needs small (variable RowSum i) (c.fraction_bits - row_bits c i) own)) (one _ (number, (own, (refl, own)))))

fast_body_small : (c : Numbers) → AreFew c → All IsSmall (fast_body c)
fast_body_small c w =
    let e = divisor_statement ∷ [] in
    let q = scale_statements c in
    let l = groups (mean_statements c) (length c.bounds) in
    let d = groups (difference_statements c) (length c.bounds) in
    let u = groups (entry_statements c) (length c.offsets) in
    let s = groups weighted_sum_statements (length c.offsets) in
    let r = groups (fast_row_statements c) (length c.bounds) in
    All-append IsSmall (e ++ q ++ l ++ d ++ u ++ s ++ r) (next_weight ∷ [])
    (All-append IsSmall (e ++ q ++ l ++ d ++ u ++ s) r
    (All-append IsSmall (e ++ q ++ l ++ d ++ u) s
    (All-append IsSmall (e ++ q ++ l ++ d) u
    (All-append IsSmall (e ++ q ++ l) d
    (All-append IsSmall (e ++ q) l
    (All-append IsSmall e q (one divisor_statement (omega arith, ((refl, tt), (refl, tt)))) (scale_small c))
    (in_groups (mean_statements c) (length c.bounds) (λ i h. mean_small c i w h)))
    (differences_small c w))
    (entries_small c w))
    (in_groups weighted_sum_statements (length c.offsets) (λ j h. let own = small_at (length c.offsets) j h w.entries in one _ (omega (arith, h, w.entries), (own, (refl, own))))))
    (in_groups (fast_row_statements c) (length c.bounds) (λ i h. fast_row_small c i w h)))
    (one next_weight (omega arith, (refl, tt)))

-- ---- the whole
pub few : (c : Numbers) → IsSized (with_last_version c) → AreFew c
few c sized = record {
  states = omega (arith, sized.states.1);
  entries = omega (arith, sized.shaped.offsets, mul-le c.inputs c.stages 3 30 sized.inputs.1 sized.stages.1);
  rows = omega (arith, sized.shaped.bounds, sized.rows.1);
}

-- a state of the box
pub low_corner : (c : Numbers) → IsSized (with_last_version c) → IsAdmissible c c.low
low_corner c sized = record {
  long = sized.shaped.low;
  each = λ i l. record { low = omega (arith, ints); high = sized.box i l };
}

average_small : (plans j : ℕ) → j < 2 ^ 64 → ReadsNeeded small (average_of plans j)
average_small plans j l =
    let own : ltb j (2 ^ 64) ≡ true = lt-ltb j (2 ^ 64) l in
    let sum = Value (variable Output j) in
    let k = trailing_zeros w32 plans in
    cond_both (plans == 2 ^ k) (shifted_average sum plans k) (divided_average sum plans) (ReadsNeeded small) (λ t. (own, tt)) (λ f. ((own, ((tt, own), tt)), (tt, (tt, own))))

-- the needed part of these statements before the loop and in it, with the averages of so many plans
abbrev pub program_by : Numbers → (types : Variable → Kind) → (before body : List Statement) → (plans : ℕ) → CProgram
program_by c types before body plans = needed_part (is_needed c) (record {
  low = c.low;
  high = c.high;
  kind = types;
  before = before;
  body = body;
  repetitions = c.steps;
  outputs = map (variable Sum) (range_with_len 0 (length c.offsets));
  averages = map (average_of plans) (range_with_len 0 c.inputs);
})

averages_short : (n plans : ℕ) (sums : List ℤ) → n < 2 ^ 64 → All (IsDefined (handed sums)) (map (average_of plans) (range_with_len 0 n)) → All HasShortNumbers (map (average_of plans) (range_with_len 0 n))
averages_short n plans sums w d =
    let new = average_of plans in
    let es = map new (range_with_len 0 n) in
    All-from_get_or HasShortNumbers es (new 0) (λ j l.
    let inside : j < n = omega (arith, l, length-map-range_with_len new 0 n) in
    let same = get_or-map-range_with_len new 0 n j j (new 0) inside (omega arith) in
    subst HasShortNumbers (sym same)
    (defined_short (handed sums) (new j) (subst (IsDefined (handed sums)) same (All-get_or (IsDefined (handed sums)) es j (new 0) l d)) (average_small plans j (omega (arith, inside, w)))))

outputs_short : (js : List ℕ) → All (λ (j : ℕ). j < 2 ^ 64) js → All (λ (v : Variable). v.number < 2 ^ 64) (map (variable Sum) js)
outputs_short js h = All-map (λ (v : Variable). v.number < 2 ^ 64) (variable Sum) js h

-- a program with a run from the lowest state of the box
pub short_text : (c : Numbers) (types : Variable → Kind) (before body : List Statement) (plans : ℕ) (sums inputs : List ℤ) → IsSized (with_last_version c) → All IsSmall before → All IsSmall body →
    SolvesTo (program_by c types before body plans) c.low sums inputs → HasShortText (program_by c types before body plans)
short_text c types before body plans sums inputs sized first each s =
    let w = few c sized in
    let p = length c.offsets in
    let many : c.inputs < 2 ^ 64 = omega (arith, sized.inputs.1) in
    let range : All (λ (j : ℕ). j < 2 ^ 64) (range_with_len 0 p) =
    All-from_get_or (λ (j : ℕ). j < 2 ^ 64) (range_with_len 0 p) 0 (λ j l. range_small p j l w.entries) in
    record {
      states = omega (arith, sized.shaped.low, w.states);
      low = λ i l. omega (arith, All-get_or IsNumerator c.low i (pos 0) l sized.low);
      high = λ i l. omega (arith, All-get_or IsNumerator c.high i (pos 0) (omega (arith, l, sized.shaped.low, sized.shaped.high)) sized.high);
      before = short_done _ _ (left_in (is_needed c) before) s.run.before (in_part (is_needed c) before first);
      repetitions = omega (arith, sized.steps.1);
      body = short_done _ _ (left_in (is_needed c) body) (s.run.body 0 (omega (arith, sized.steps.0))) (in_part (is_needed c) body each);
      sums = omega (arith, length-map-range_with_len (variable Sum) 0 p, w.entries);
      outputs = outputs_short (range_with_len 0 p) range;
      inputs = omega (arith, length-map-range_with_len (average_of plans) 0 c.inputs, many);
      averages = averages_short c.inputs plans sums many s.averaged;
    }
  where
    range_small : (p j : ℕ) → j < length (range_with_len 0 p) → p < 2 ^ 64 → get_or (range_with_len 0 p) j 0 < 2 ^ 64
    range_small p j l h = let inside : j < p = omega (arith, l, length-range_with_len 0 p) in omega (arith, get_or-range_with_len 0 p j 0 inside, inside, h)

-- ---- the laws, of the programs whose runs are known
pub short_text_law : ProgramLaw → ShortTextLaw
short_text_law law c sound narrow =
    let sized = shared Plain c sound.form.sized in
    let w = few c sized in
    short_text c _ (before_of c) (repetition_body c) c.steps _ _ sized (before_small c w) (body_small c w) ((law c sound narrow).inside c.low (low_corner c sized))

pub fast_short_text_law : FastProgramLaw → FastShortTextLaw
fast_short_text_law law c sound narrow =
    let sized = sound.form.sized.rest in
    let w = few c sized in
    short_text c _ (fast_before_of c) (fast_body c) (all_weights c.steps) _ _ sized (fast_before_small c w) (fast_body_small c w) ((law c sound narrow).inside c.low (low_corner c sized))
