-- The needed statements of a controller's program read only needed variables.
use Rattle.std.proofs.Common.{◌≡◌, ℕ, zero, suc, ◌-◌, ◌*◌, ◌^◌, ◌<◌, ◌==◌, Bool, true, false, true≢false, ◌&&◌, ◌||◌, if◌then◌else◌, ltb, ℤ, pos, ◌*ℤ◌, neg_ℤ, List, [], ◌∷◌, ◌++◌, length, map, unsigned_abs, refl, sym, ap, subst, ◌∙◌, arith, mul-pos, inl, inr, append_assoc, append-nil}
use Rattle.std.proofs.lemmas.Bool.{cond_both, and_parts, cases_lt, ltb-true, lt-ltb}
use Rattle.integer_algebra.specs.Sums.{at}
use Rattle.mat_int.specs.Matrix.{row_of}
use Rattle.qp_model.specs.machine.Controller.{Numbers}
use Rattle.qp_model.specs.machine.Machine.{lowering_of}
use Rattle.qp_model.proofs.AbsoluteLaws.{abs-neg, abs-shifted}
use Rattle.c_language.specs.Syntax.{Variable, variable, Expression, Statement, groups}
use Rattle.c_language.specs.Syntax.Family.{Loaded, EntryBase, RowBase, Multiplier, Difference, Entry, Gradient, RowSum, Sum, Own, Reached}
use Rattle.c_language.specs.Syntax.Expression.{Constant, Value, Plus, Minus, Times, Shifted}
use Rattle.c_language.specs.Syntax.Statement.{Declare, Assign}
use Rattle.c_language.specs.Meaning.{variable_of}
use Rattle.c_language.specs.Needed.{left_in}
use Rattle.c_program.specs.Of.{state_top, multiplier_top, entry_top, plus_products, partner, is_first, is_second, loaded_statements, entry_base_statements, row_base_statements, zero_statements, before_of, difference_statements, gain_of, gain_variable, entry_statements, sum_statements, row_bits, plan_factor, lowered_value, lowered_base, plus_plan, gradient_statements, row_expression, row_sum_statements, move_statements, row_statements, repetition_body, any_below, is_product, is_row_needed, is_coordinate_needed, has_short_divisor, is_quick, is_twice_quick, is_any_quick, is_needed, whole_program}
use Rattle.c_program.specs.FastOf.{first_weight, first_scale_lines, first_scale, fast_before_of, divisor_statement, scale_lines, scale_statements, mean_expression, quick_mean_statements, twice_mean_statements, mean_statements, weighted_sum_statements, fast_move_statements, fast_row_statements, next_weight, fast_body, whole_fast_program}
use Rattle.overflow_check.specs.FastMachine.{fast_top}
use Rattle.overflow_check.specs.declared.machine.Machine.{Machine}
use Rattle.overflow_check.specs.declared.machine.Machine.TheVariants.{Plain, Accelerated}
use Rattle.c_program.specs.ByMachine.{sum_for, row_for, start_for, means_for, step_for, next_for, before_for, body_for}
use Rattle.c_program.proofs.Pairs.{IsPair, pair_there, later_there, same_top}
use Rattle.c_language.proofs.LeftIn.{ReadsNeeded, AreClosed, IsClosed, AreNeeded, closed_append, closed_groups, left_in_append, whole_groups}

-- ---- one of many
or_first : (a b : Bool) → a ≡ true → (a || b) ≡ true
or_first true b h = refl
or_first false b h = absurd (true≢false (sym h))

or_second : (a b : Bool) → b ≡ true → (a || b) ≡ true
or_second true b h = refl
or_second false b h = h

pub and_both : (a b : Bool) → a ≡ true → b ≡ true → (a && b) ≡ true
and_both true b h k = k
and_both false b h k = absurd (true≢false (sym h))

pub any_there : (f : ℕ → Bool) (n i : ℕ) → i < n → f i ≡ true → any_below f n ≡ true
unfolding any_below
any_there f zero i l h = absurd (omega (arith, l))
any_there f (suc n) i l h = elim (cases_lt i n) [
  | inl less ↦ or_first (any_below f n) (f n) (any_there f n i less h)
  | inr more ↦ (let e : i ≡ n = omega (arith, l, more) in or_second (any_below f n) (f n) (subst (λ (k : ℕ). f k ≡ true) e h))
]

-- one of both is one of the first
any_first : (f g : ℕ → Bool) (n : ℕ) → any_below (λ i. f i && g i) n ≡ true → any_below f n ≡ true
unfolding any_below
any_first f g zero h = h
any_first f g (suc n) h = either (any_below (λ i. f i && g i) n) (f n && g n) (any_below f n) (f n) (any_first f g n) (λ t. (and_parts (f n) (g n) t).0) h
  where
    either : (a b d e : Bool) → (a ≡ true → d ≡ true) → (b ≡ true → e ≡ true) → (a || b) ≡ true → (d || e) ≡ true
    either true b d e h k t = or_first d e (h refl)
    either false b d e h k t = or_second d e (k t)

any_same : (f g : ℕ → Bool) (n : ℕ) → ((i : ℕ) → i < n → f i ≡ g i) → any_below f n ≡ any_below g n
unfolding any_below
any_same f g zero h = refl
any_same f g (suc n) h =
    let rest = any_same f g n (λ i l. h i (omega (arith, l))) in
    let last = h n (omega arith) in
    (λ i. rest i || last i)

-- ---- what is needed
pub row_needed : (c : Numbers) (i : ℕ) → is_row_needed c i ≡ any_below (λ j. is_product (at (row_of c.dual_gains j) i) (multiplier_top c i)) (length c.offsets)
unfolding is_row_needed
row_needed c i = refl

pub coordinate_needed : (c : Numbers) (k : ℕ) → is_coordinate_needed c k ≡
    (any_below (λ j. is_product (at (row_of c.state_gains j) k) (state_top c k)) (length c.offsets)
    || any_below (λ i. is_row_needed c i && is_product (at (row_of c.state_rows i) k) (state_top c k)) (length c.bounds))
unfolding is_coordinate_needed
coordinate_needed c k = refl

-- a pair's rows both are
pub pair_needed : (c : Numbers) (i k : ℕ) → IsPair c i k → is_row_needed c i ≡ is_row_needed c k
pair_needed c i k p =
    row_needed c i ∙ any_same (λ j. is_product (at (row_of c.dual_gains j) i) (multiplier_top c i)) (λ j. is_product (at (row_of c.dual_gains j) k) (multiplier_top c k)) (length c.offsets) (λ j l.
    let size : unsigned_abs (at (row_of c.dual_gains j) i) ≡ unsigned_abs (at (row_of c.dual_gains j) k) =
    sym (abs-neg (at (row_of c.dual_gains j) i)) ∙ ap unsigned_abs (sym (p.gains j l)) in
    let top : multiplier_top c i ≡ multiplier_top c k = ap unsigned_abs (sym (same_top c i k p)) in
    (λ n. ltb 0 (size n * top n))) ∙ sym (row_needed c k)

-- a product stays one without its power of two
positive_product : (a p t : ℕ) → 0 < a * p * t → 0 < a * t
positive_product zero p t h = absurd (omega (arith, h))
positive_product (suc a) p zero h = absurd (omega (arith, h))
positive_product (suc a) p (suc t) h = let x : 0 < suc a = omega arith in let y : 0 < suc t = omega arith in mul-pos x y

pub product_shifted : (x : ℤ) (s top : ℕ) → ltb 0 (unsigned_abs (x *ℤ pos (2 ^ s)) * top) ≡ true → is_product x top ≡ true
product_shifted x s top h =
    let some : 0 < unsigned_abs x * 2 ^ s * top = subst (λ (a : ℕ). 0 < a * top) (abs-shifted x s) (ltb-true 0 (unsigned_abs (x *ℤ pos (2 ^ s)) * top) h) in
    lt-ltb 0 (unsigned_abs x * top) (positive_product (unsigned_abs x) (2 ^ s) top some)

pub gain_needed : (c : Numbers) (i j : ℕ) → j < length c.offsets → is_product (at (row_of c.dual_gains j) i) (multiplier_top c i) ≡ true → is_row_needed c i ≡ true
gain_needed c i j l h = row_needed c i ∙ any_there (λ m. is_product (at (row_of c.dual_gains m) i) (multiplier_top c i)) (length c.offsets) j l h

-- what a coordinate reaches
in_entries : Numbers → ℕ → Bool
in_entries c k = any_below (λ j. is_product (at (row_of c.state_gains j) k) (state_top c k)) (length c.offsets)

in_rows : Numbers → ℕ → Bool
in_rows c k = any_below (λ i. is_row_needed c i && is_product (at (row_of c.state_rows i) k) (state_top c k)) (length c.bounds)

pub entry_needs : (c : Numbers) (j k : ℕ) → j < length c.offsets → is_product (at (row_of c.state_gains j) k) (state_top c k) ≡ true → is_coordinate_needed c k ≡ true
unfolding in_entries in_rows
entry_needs c j k l h =
    coordinate_needed c k ∙ or_first (in_entries c k) (in_rows c k) (any_there (λ m. is_product (at (row_of c.state_gains m) k) (state_top c k)) (length c.offsets) j l h)

pub row_needs : (c : Numbers) (i k : ℕ) → i < length c.bounds → is_row_needed c i ≡ true → is_product (at (row_of c.state_rows i) k) (state_top c k) ≡ true → is_coordinate_needed c k ≡ true
unfolding in_entries in_rows
row_needs c i k l n h =
    coordinate_needed c k ∙
    or_second (in_entries c k) (in_rows c k) (any_there (λ m. is_row_needed c m && is_product (at (row_of c.state_rows m) k) (state_top c k)) (length c.bounds) i l
    (and_both (is_row_needed c i) (is_product (at (row_of c.state_rows i) k) (state_top c k)) n h))

-- ---- sums of products
pub products_need : (needed : Variable → Bool) (a : Expression) (c : ℕ → ℤ) (top : ℕ → ℕ) (v : ℕ → Variable) (n : ℕ) → ReadsNeeded needed a →
    ((i : ℕ) → i < n → ltb 0 (unsigned_abs (c i) * top i) ≡ true → needed (v i) ≡ true) → ReadsNeeded needed (plus_products a c top v n)
products_need needed a c top v zero r h = r
products_need needed a c top v (suc n) r h =
    let rest = products_need needed a c top v n r (λ i l. h i (omega (arith, l))) in
    cond_both (ltb 0 (unsigned_abs (c n) * top n)) (Plus (plus_products a c top v n) (Times (Constant (c n)) (Value (v n)))) (plus_products a c top v n) (ReadsNeeded needed)
    (λ t. (rest, (tt, h n (omega arith) t))) (λ f. rest)

-- ---- before the loop
entry_base_needs : (c : Numbers) (j : ℕ) → j < length c.offsets → AreClosed (is_needed c) (entry_base_statements c j)
entry_base_needs c j l = (
  (λ t. products_need (is_needed c) (Constant (at c.offsets j *ℤ pos (2 ^ c.fraction_bits) *ℤ pos (2 ^ c.step_exponent))) (λ k. at (row_of c.state_gains j) k *ℤ pos (2 ^ c.step_exponent)) (state_top c) (variable Loaded) c.states tt
      (λ k m some. entry_needs c j k l (product_shifted (at (row_of c.state_gains j) k) c.step_exponent (state_top c k) some))),
  tt,
)

row_base_needs : (c : Numbers) (i : ℕ) → i < length c.bounds → AreClosed (is_needed c) (row_base_statements c i)
row_base_needs c i l =
    ((λ t. products_need (is_needed c) (Constant (neg_ℤ (at c.bounds i *ℤ pos (2 ^ c.fraction_bits)))) (at (row_of c.state_rows i)) (state_top c) (variable Loaded) c.states tt (λ k m some. row_needs c i k l t some)), tt)

before_needs : (c : Numbers) → AreClosed (is_needed c) (before_of c)
before_needs c =
    let b = is_needed c in
    let n = groups (loaded_statements c) c.states in
    let a = groups (entry_base_statements c) (length c.offsets) in
    let r = groups (row_base_statements c) (length c.bounds) in
    let l = groups (zero_statements Multiplier) (length c.bounds) in
    let s = groups (zero_statements Sum) (length c.offsets) in
    closed_append b (n ++ a ++ r ++ l) s
    (closed_append b (n ++ a ++ r) l
    (closed_append b (n ++ a) r
    (closed_append b n a (closed_groups b (loaded_statements c) c.states (λ k m. ((λ t. (tt, refl)), tt))) (closed_groups b (entry_base_statements c) (length c.offsets) (entry_base_needs c)))
    (closed_groups b (row_base_statements c) (length c.bounds) (row_base_needs c)))
    (closed_groups b (zero_statements Multiplier) (length c.bounds) (λ i m. ((λ t. tt), tt))))
    (closed_groups b (zero_statements Sum) (length c.offsets) (λ j m. ((λ t. tt), tt)))

-- ---- one step
pub difference_needs : (c : Numbers) (i : ℕ) → AreClosed (is_needed c) (difference_statements c i)
difference_needs c i =
    cond_both (is_first c i) (Declare (variable Difference i) (Minus (Value (variable Multiplier i)) (Value (variable Multiplier (partner c i)))) ∷ []) [] (AreClosed (is_needed c))
    (λ t. ((λ n. (n, sym (pair_needed c i (partner c i) (pair_there c i t)) ∙ n)), tt)) (λ f. tt)

pub gain_variable_needed : (c : Numbers) (i : ℕ) → is_row_needed c i ≡ true → is_needed c (gain_variable c i) ≡ true
gain_variable_needed c i h = cond_both (is_first c i) Difference Multiplier (λ f. is_needed c (variable f i) ≡ true) (λ t. h) (λ f. h)

-- a gain that is left in
pub gain_left : (b : Bool) (x : ℤ) (s top : ℕ) → ltb 0 (unsigned_abs (if b then pos 0 else x *ℤ pos (2 ^ s)) * top) ≡ true → is_product x top ≡ true
gain_left true x s top h = absurd (omega (arith, ltb-true 0 (0 * top) h))
gain_left false x s top h = product_shifted x s top h

entry_closed : (c : Numbers) (j : ℕ) → j < length c.offsets → AreClosed (is_needed c) (entry_statements c j)
entry_closed c j l = (
  (λ t. (
    tt,
    products_need (is_needed c) (Value (variable EntryBase j)) (gain_of c j) (multiplier_top c) (gain_variable c) (length c.bounds) refl
        (λ i m some. gain_variable_needed c i (gain_needed c i j l (gain_left (is_second c i) (at (row_of c.dual_gains j) i) (lowering_of c i) (multiplier_top c i) some))),
  )),
  tt,
)

plan_needs : (c : Numbers) (i : ℕ) (a : Expression) → ReadsNeeded (is_needed c) a → ReadsNeeded (is_needed c) (plus_plan c i a)
plan_needs c i a r = products_need (is_needed c) a (plan_factor c i) (entry_top c) (variable Entry) (length c.offsets) r (λ j m some. refl)

pub gradient_needs : (c : Numbers) (i : ℕ) → AreClosed (is_needed c) (gradient_statements c i)
gradient_needs c i =
    cond_both (is_first c i) (Declare (variable Gradient i) (plus_plan c i (Constant (pos 0))) ∷ []) [] (AreClosed (is_needed c))
    (λ t. ((λ n. plan_needs c i (Constant (pos 0)) tt), tt)) (λ f. tt)

pub lowered_needs : (needed : Variable → Bool) (v : Variable) (k : ℕ) → needed v ≡ true → ReadsNeeded needed (lowered_value v k)
lowered_needs needed v k h = cond_both (k == 0) (Value v) (Shifted (Value v) k) (ReadsNeeded needed) (λ t. h) (λ f. h)

row_expression_needs : (c : Numbers) (i : ℕ) → i < length c.bounds → is_row_needed c i ≡ true → ReadsNeeded (is_needed c) (row_expression c i)
row_expression_needs c i l n =
    let R = λ (a : Expression). ReadsNeeded (is_needed c) a in
    let base = lowered_needs (is_needed c) (variable RowBase i) (row_bits c i) n in
    cond_both (is_first c i) _ _ R (λ t. (base, n)) (λ f. cond_both (is_second c i) _ _ R
    (λ t. (base, pair_needed c (partner c i) i (later_there c i l t).pair ∙ n)) (λ g. plan_needs c i (lowered_base c i) base))

row_sum_needs : (c : Numbers) (i : ℕ) → i < length c.bounds → AreClosed (is_needed c) (row_sum_statements c i)
row_sum_needs c i l = ((λ n. row_expression_needs c i l n), tt)

move_needs : (c : Numbers) (i : ℕ) → AreClosed (is_needed c) (move_statements c i)
move_needs c i = ((λ n. (n, lowered_needs (is_needed c) (variable RowSum i) (c.fraction_bits - row_bits c i) n)), ((λ n. n), ((λ n. n), ((λ n. n), tt))))

-- a row's statements, however its multiplier is moved
row_needs_by : (c : Numbers) (i : ℕ) (move : List Statement) → i < length c.bounds → AreClosed (is_needed c) move →
    AreClosed (is_needed c) (gradient_statements c i ++ row_sum_statements c i ++ move)
row_needs_by c i move l h =
    let b = is_needed c in
    closed_append b (gradient_statements c i ++ row_sum_statements c i) move
    (closed_append b (gradient_statements c i) (row_sum_statements c i) (gradient_needs c i) (row_sum_needs c i l)) h

pub differences_need : (c : Numbers) → AreClosed (is_needed c) (groups (difference_statements c) (length c.bounds))
differences_need c = closed_groups (is_needed c) (difference_statements c) (length c.bounds) (λ i m. difference_needs c i)

entries_need : (c : Numbers) → AreClosed (is_needed c) (groups (entry_statements c) (length c.offsets))
entries_need c = closed_groups (is_needed c) (entry_statements c) (length c.offsets) (entry_closed c)

body_needs : (c : Numbers) → AreClosed (is_needed c) (repetition_body c)
body_needs c =
    let b = is_needed c in
    let d = groups (difference_statements c) (length c.bounds) in
    let u = groups (entry_statements c) (length c.offsets) in
    let s = groups sum_statements (length c.offsets) in
    let r = groups (row_statements c) (length c.bounds) in
    closed_append b (d ++ u ++ s) r
    (closed_append b (d ++ u) s
    (closed_append b d u (differences_need c) (entries_need c))
    (closed_groups b sum_statements (length c.offsets) (λ j m. ((λ t. (refl, refl)), tt))))
    (closed_groups b (row_statements c) (length c.bounds) (λ i m. row_needs_by c i (move_statements c i) m (move_needs c i)))

pub program_closed : (c : Numbers) → IsClosed (is_needed c) (whole_program c)
program_closed c = record { before = before_needs c; body = body_needs c }

-- ---- of the accelerated machine
pub before_is : (m : Machine) (c : Numbers) → before_for m c ≡ before_of c ++ start_for m c
before_is Plain c = sym (append-nil (before_of c))
before_is Accelerated c =
    let m = groups (zero_statements Own) (length c.bounds) in
    let v = groups (zero_statements Reached) (length c.bounds) in
    let w = first_weight ∷ [] in
    ap (λ (ss : List Statement). ss ++ first_scale c)
    (ap (λ (ss : List Statement). ss ++ w) (append_assoc (before_of c) m v) ∙ append_assoc (before_of c) (m ++ v) w) ∙ append_assoc (before_of c) (m ++ v ++ w) (first_scale c)

-- the scale, where the mean of a needed row is made by it
scale_needed : (c : Numbers) (i : ℕ) → i < length c.bounds → is_twice_quick c i ≡ true → is_row_needed c i ≡ true → is_any_quick c ≡ true
unfolding is_any_quick
scale_needed c i l q n = any_there (λ m. is_row_needed c m && is_twice_quick c m) (length c.bounds) i l (and_both (is_row_needed c i) (is_twice_quick c i) n q)

-- a row of one round could take two
quick_twice : (c : Numbers) (i : ℕ) → is_quick c i ≡ true → is_twice_quick c i ≡ true
quick_twice c i q =
    let t = unsigned_abs (fast_top c i) in
    let parts = and_parts (has_short_divisor c) (ltb t (2 ^ 30)) q in
    and_both (has_short_divisor c) (ltb t (2 ^ 56)) parts.0 (lt-ltb t (2 ^ 56) (omega (arith, ltb-true t (2 ^ 30) parts.1)))

scale_divisor : (c : Numbers) → is_any_quick c ≡ true → any_below (is_row_needed c) (length c.bounds) ≡ true
unfolding is_any_quick
scale_divisor c h = any_first (is_row_needed c) (is_twice_quick c) (length c.bounds) h

scale_needs : (c : Numbers) → AreClosed (is_needed c) (scale_statements c)
scale_needs c =
    cond_both (has_short_divisor c) scale_lines [] (AreClosed (is_needed c))
    (λ t. ((λ n. (tt, ((scale_divisor c n, tt), n))), ((λ n. (n, n)), ((λ n. (n, (n, n))), ((λ n. ((n, tt), scale_divisor c n)), tt))))) (λ f. tt)

pub start_needs : (m : Machine) (c : Numbers) → AreClosed (is_needed c) (start_for m c)
start_needs Plain c = tt
start_needs Accelerated c =
    let b = is_needed c in
    let m = groups (zero_statements Own) (length c.bounds) in
    let v = groups (zero_statements Reached) (length c.bounds) in
    closed_append b (m ++ v ++ (first_weight ∷ [])) (first_scale c)
    (closed_append b (m ++ v) (first_weight ∷ [])
    (closed_append b m v (closed_groups b (zero_statements Own) (length c.bounds) (λ i l. ((λ t. tt), tt)))
    (closed_groups b (zero_statements Reached) (length c.bounds) (λ i l. ((λ t. tt), tt))))
    ((λ t. tt), tt))
    (cond_both (has_short_divisor c) first_scale_lines [] (AreClosed b) (λ t. ((λ n. tt), ((λ n. tt), tt))) (λ f. tt))

mean_needs : (c : Numbers) (i : ℕ) → i < length c.bounds → AreClosed (is_needed c) (mean_statements c i)
mean_needs c i l =
    let divisor : is_row_needed c i ≡ true → any_below (is_row_needed c) (length c.bounds) ≡ true = λ n. any_there (is_row_needed c) (length c.bounds) i l n in
    let divided = Assign (variable Multiplier i) (mean_expression i) ∷ [] in
    let scale : is_twice_quick c i ≡ true → is_row_needed c i ≡ true → is_any_quick c ≡ true = λ q n. scale_needed c i l q n in
    cond_both (is_quick c i) (quick_mean_statements i) (if is_twice_quick c i then twice_mean_statements i else divided) (AreClosed (is_needed c))
    (λ q.
    let by : is_row_needed c i ≡ true → is_any_quick c ≡ true = scale (quick_twice c i q) in
    ((λ n. (n, (refl, n))), ((λ n. (n, by n)), ((λ n. (n, by n)), ((λ n. ((n, (n, divisor n)), divisor n)), ((λ n. ((n, tt), n)), tt))))))
    (λ f. cond_both (is_twice_quick c i) (twice_mean_statements i) divided (AreClosed (is_needed c))
    (λ q.
    let by = scale q in (
      (λ n. (n, (refl, n))),
      (
        (λ n. (n, by n)),
        (
          (λ n. ((n, by n), tt)),
          (
            (λ n. (n, (n, divisor n))),
            ((λ n. (n, by n)), ((λ n. (n, by n)), ((λ n. ((n, (n, divisor n)), divisor n)), ((λ n. ((n, tt), n)), ((λ n. (n, n)), tt))))),
          ),
        ),
      ),
    ))
    (λ g. ((λ n. ((n, (refl, n)), divisor n)), tt)))

fast_move_needs : (c : Numbers) (i : ℕ) → AreClosed (is_needed c) (fast_move_statements c i)
fast_move_needs c i =
    ((λ n. (n, (refl, lowered_needs (is_needed c) (variable RowSum i) (c.fraction_bits - row_bits c i) n))), ((λ n. n), ((λ n. n), ((λ n. n), ((λ n. (n, (refl, n))), tt)))))

pub means_need : (m : Machine) (c : Numbers) → AreClosed (is_needed c) (means_for m c)
means_need Plain c = tt
means_need Accelerated c =
    let b = is_needed c in
    let e = divisor_statement ∷ [] in
    let q = scale_statements c in
    closed_append b (e ++ q) (groups (mean_statements c) (length c.bounds))
    (closed_append b e q ((λ t. ((refl, tt), (refl, tt))), tt) (scale_needs c))
    (closed_groups b (mean_statements c) (length c.bounds) (mean_needs c))

pub sums_need : (m : Machine) (c : Numbers) → AreClosed (is_needed c) (groups (sum_for m) (length c.offsets))
sums_need Plain c = closed_groups (is_needed c) (sum_for Plain) (length c.offsets) (λ j m. ((λ t. (refl, refl)), tt))
sums_need Accelerated c = closed_groups (is_needed c) (sum_for Accelerated) (length c.offsets) (λ j m. ((λ t. (refl, (refl, refl))), tt))

pub next_needs : (m : Machine) (c : Numbers) → AreClosed (is_needed c) (next_for m)
next_needs Plain c = tt
next_needs Accelerated c = ((λ t. (refl, tt)), tt)

fast_body_needs : (c : Numbers) → AreClosed (is_needed c) (fast_body c)
fast_body_needs c =
    let b = is_needed c in
    let l = means_for Accelerated c in
    let d = groups (difference_statements c) (length c.bounds) in
    let u = groups (entry_statements c) (length c.offsets) in
    let s = groups weighted_sum_statements (length c.offsets) in
    let r = groups (fast_row_statements c) (length c.bounds) in
    closed_append b (l ++ d ++ u ++ s ++ r) (next_weight ∷ [])
    (closed_append b (l ++ d ++ u ++ s) r
    (closed_append b (l ++ d ++ u) s
    (closed_append b (l ++ d) u
    (closed_append b l d (means_need Accelerated c) (differences_need c))
    (entries_need c))
    (sums_need Accelerated c))
    (closed_groups b (fast_row_statements c) (length c.bounds) (λ i m. row_needs_by c i (fast_move_statements c i) m (fast_move_needs c i))))
    (next_needs Accelerated c)

fast_before_needs : (c : Numbers) → AreClosed (is_needed c) (fast_before_of c)
fast_before_needs c = subst (AreClosed (is_needed c)) (sym (before_is Accelerated c)) (closed_append (is_needed c) (before_of c) (start_for Accelerated c) (before_needs c) (start_needs Accelerated c))

pub fast_program_closed : (c : Numbers) → IsClosed (is_needed c) (whole_fast_program c)
fast_program_closed c = record { before = fast_before_needs c; body = fast_body_needs c }

pub outputs_needed : (c : Numbers) (js : List ℕ) → AreNeeded (is_needed c) (map (variable Sum) js)
outputs_needed c [] = tt
outputs_needed c (j ∷ js) = (refl, outputs_needed c js)

-- ---- what is left in
pub constant_part : (b : Bool) (ss : List Statement) → left_in (λ v. b) ss ≡ (if b then ss else [])
constant_part true [] = refl
constant_part true (s ∷ ss) = ap (λ (ts : List Statement). s ∷ ts) (constant_part true ss)
constant_part false [] = refl
constant_part false (s ∷ ss) = constant_part false ss

pub none_part : (b : Bool) (ss : List Statement) → ss ≡ [] → ss ≡ (if b then ss else [])
none_part true ss e = refl
none_part false ss e = e

pub both_parts : (b : Bool) (xs ys : List Statement) → (if b then xs else []) ++ (if b then ys else []) ≡ (if b then xs ++ ys else [])
both_parts true xs ys = refl
both_parts false xs ys = refl

-- statements of a pair's first row alone
first_part : (c : Numbers) (i : ℕ) (needed : Variable → Bool) (s : Statement) → needed (variable_of s) ≡ is_row_needed c i →
    left_in needed (if is_first c i then s ∷ [] else []) ≡ (if is_row_needed c i then (if is_first c i then s ∷ [] else []) else [])
first_part c i needed s e =
    cond_both (is_first c i) (s ∷ []) [] (λ ss. left_in needed ss ≡ (if is_row_needed c i then ss else []))
    (λ t. ap (λ (b : Bool). if b then s ∷ [] else []) e) (λ f. none_part (is_row_needed c i) [] refl)

pub difference_part : (c : Numbers) (i : ℕ) → left_in (is_needed c) (difference_statements c i) ≡ (if is_row_needed c i then difference_statements c i else [])
difference_part c i = first_part c i (is_needed c) (Declare (variable Difference i) (Minus (Value (variable Multiplier i)) (Value (variable Multiplier (partner c i))))) refl

row_part_by : (c : Numbers) (i : ℕ) (move : List Statement) →
    left_in (is_needed c) (row_sum_statements c i ++ move) ≡ (if is_row_needed c i then row_sum_statements c i ++ move else []) →
    left_in (is_needed c) (gradient_statements c i ++ row_sum_statements c i ++ move) ≡ (if is_row_needed c i then gradient_statements c i ++ row_sum_statements c i ++ move else [])
row_part_by c i move h =
    let gradient = first_part c i (is_needed c) (Declare (variable Gradient i) (plus_plan c i (Constant (pos 0)))) refl in
    let rest = row_sum_statements c i ++ move in
    ap (left_in (is_needed c)) (append_assoc (gradient_statements c i) (row_sum_statements c i) move) ∙
    left_in_append (is_needed c) (gradient_statements c i) rest ∙ (λ k. gradient k ++ h k) ∙ both_parts (is_row_needed c i) (gradient_statements c i) rest ∙
    ap (λ (ss : List Statement). if is_row_needed c i then ss else []) (sym (append_assoc (gradient_statements c i) (row_sum_statements c i) move))

pub row_part : (m : Machine) (c : Numbers) (i : ℕ) → left_in (is_needed c) (row_for m c i) ≡ (if is_row_needed c i then row_for m c i else [])
row_part Plain c i = row_part_by c i (move_statements c i) (constant_part (is_row_needed c i) (row_sum_statements c i ++ move_statements c i))
row_part Accelerated c i = row_part_by c i (fast_move_statements c i) (constant_part (is_row_needed c i) (row_sum_statements c i ++ fast_move_statements c i))

pub before_part : (c : Numbers) → left_in (is_needed c) (before_of c) ≡
    left_in (is_needed c) (groups (loaded_statements c) c.states) ++ groups (entry_base_statements c) (length c.offsets) ++ left_in (is_needed c) (groups (row_base_statements c) (length c.bounds))
    ++ left_in (is_needed c) (groups (zero_statements Multiplier) (length c.bounds)) ++ groups (zero_statements Sum) (length c.offsets)
before_part c =
    let b = is_needed c in
    let n = groups (loaded_statements c) c.states in
    let a = groups (entry_base_statements c) (length c.offsets) in
    let r = groups (row_base_statements c) (length c.bounds) in
    let l = groups (zero_statements Multiplier) (length c.bounds) in
    let s = groups (zero_statements Sum) (length c.offsets) in
    let one = left_in_append b n a ∙ ap (λ (ss : List Statement). left_in b n ++ ss) (whole_groups b (entry_base_statements c) (length c.offsets) (λ j. refl)) in
    let two = left_in_append b (n ++ a) r ∙ ap (λ (ss : List Statement). ss ++ left_in b r) one in
    let three = left_in_append b (n ++ a ++ r) l ∙ ap (λ (ss : List Statement). ss ++ left_in b l) two in
    let last = whole_groups b (zero_statements Sum) (length c.offsets) (λ j. refl) in
    left_in_append b (n ++ a ++ r ++ l) s ∙ (λ k. three k ++ last k)

pub step_part : (m : Machine) (c : Numbers) → left_in (is_needed c) (step_for m c) ≡
    left_in (is_needed c) (means_for m c) ++ left_in (is_needed c) (groups (difference_statements c) (length c.bounds)) ++ groups (entry_statements c) (length c.offsets)
    ++ groups (sum_for m) (length c.offsets) ++ left_in (is_needed c) (groups (row_for m c) (length c.bounds))
step_part m c =
    let b = is_needed c in
    let e = means_for m c in
    let d = groups (difference_statements c) (length c.bounds) in
    let u = groups (entry_statements c) (length c.offsets) in
    let s = groups (sum_for m) (length c.offsets) in
    let r = groups (row_for m c) (length c.bounds) in
    let first = left_in_append b e d in
    let entries = whole_groups b (entry_statements c) (length c.offsets) (λ j. refl) in
    let one = left_in_append b (e ++ d) u ∙ (λ k. first k ++ entries k) in
    let sums = whole_groups b (sum_for m) (length c.offsets) (λ j. refl) in
    let two = left_in_append b (e ++ d ++ u) s ∙ (λ k. one k ++ sums k) in
    left_in_append b (e ++ d ++ u ++ s) r ∙ ap (λ (ss : List Statement). ss ++ left_in b r) two

-- ---- the whole of each machine, in the parts that both have and those of its own
pub body_is : (m : Machine) (c : Numbers) → body_for m c ≡ step_for m c ++ next_for m
body_is Plain c = sym (append-nil (repetition_body c))
body_is Accelerated c = refl
