-- The needed statements of a program in parts read only needed variables.
use Rattle.std.proofs.Common.{◌≡◌, ℕ, zero, suc, ◌*◌, ◌^◌, ◌<◌, Bool, true, ◌&&◌, ltb, ℤ, pos, negsuc, ◌*ℤ◌, [], ◌∷◌, ◌++◌, length, unsigned_abs, refl, ap, ◌∙◌, arith, mul-pos}
use Rattle.std.proofs.lemmas.Bool.{cond_both, ltb-true, lt-ltb}
use Rattle.integer_algebra.specs.Sums.{at}
use Rattle.mat_int.specs.Matrix.{row_of}
use Rattle.qp_model.specs.machine.Controller.{Numbers}
use Rattle.qp_model.specs.machine.Machine.{lowering_of}
use Rattle.overflow_check.specs.declared.machine.Machine.{Machine}
use Rattle.overflow_check.specs.declared.machine.Machine.TheVariants.{Plain, Accelerated}
use Rattle.c_language.specs.Syntax.{Family, Variable, variable, Expression, groups}
use Rattle.c_language.specs.Syntax.Family.{Loaded, EntryBase, RowBase, Multiplier, Entry, Gradient, RowSum, Sum, MultiplierHigh, MultiplierLow, EntryHigh, EntryLow, EntryBaseHigh, RowBaseHigh, GradientHigh}
use Rattle.c_language.specs.Syntax.Expression.{Constant, Value}
use Rattle.c_language.specs.Syntax.Statement.{Declare}
use Rattle.c_language.proofs.LeftIn.{ReadsNeeded, AreClosed, IsClosed, closed_append, closed_groups}
use Rattle.c_program.specs.Of.{state_top, multiplier_top, entry_top, partner, is_first, is_second, loaded_statements, zero_statements, difference_statements, gain_of, gain_variable, is_product, is_row_needed, is_entry_needed, is_needed}
use Rattle.c_program.specs.ByMachine.{start_for, means_for, sum_for, next_for}
use Rattle.c_program.specs.InParts.{high_part, low_part, part_statements, base_statements, parted_entry_base, parted_offset, parted_row_base, parted_bound, parted_before, gain_parts, plus_gains, parted_entry_statements, plus_entries, parted_gradient, row_part, parted_row, parted_move, parted_row_statements, parted_body, whole_parted}
use Rattle.c_program.proofs.Pairs.{later_there}
use Rattle.c_program.proofs.ProgramNeeds.{and_both, any_there, pair_needed, product_shifted, gain_needed, entry_needs, row_needs, products_need, differences_need, gain_variable_needed, gain_left, start_needs, means_need, sums_need, next_needs}

-- ---- a part that isn't 0 is one of a number that isn't
some_factors : (a top : ℕ) → 0 < a * top → 0 < top
some_factors a zero h = absurd (omega (arith, h))
some_factors a (suc top) h = omega arith

no_factor : (a top : ℕ) → a ≡ 0 → 0 < a * top → ⊥
no_factor zero top e h = absurd (omega (arith, h))
no_factor (suc a) top e h = absurd (omega (arith, e))

of_whole : (f : ℤ → ℤ) → f (pos 0) ≡ pos 0 → (x : ℤ) (top : ℕ) → ltb 0 (unsigned_abs (f x) * top) ≡ true → ltb 0 (unsigned_abs x * top) ≡ true
of_whole f none (pos zero) top h = absurd (no_factor (unsigned_abs (f (pos 0))) top (ap unsigned_abs none) (ltb-true 0 (unsigned_abs (f (pos 0)) * top) h))
of_whole f none (pos (suc n)) top h =
    let x : 0 < suc n = omega arith in
    lt-ltb 0 (suc n * top) (mul-pos x (some_factors (unsigned_abs (f (pos (suc n)))) top (ltb-true 0 (unsigned_abs (f (pos (suc n))) * top) h)))
of_whole f none (negsuc n) top h =
    let x : 0 < suc n = omega arith in
    lt-ltb 0 (suc n * top) (mul-pos x (some_factors (unsigned_abs (f (negsuc n))) top (ltb-true 0 (unsigned_abs (f (negsuc n)) * top) h)))

high_product : (x : ℤ) (top : ℕ) → ltb 0 (unsigned_abs (high_part x) * top) ≡ true → is_product x top ≡ true
high_product x top h = of_whole high_part refl x top h

low_product : (x : ℤ) (top : ℕ) → ltb 0 (unsigned_abs (low_part x) * top) ≡ true → is_product x top ≡ true
low_product x top h = of_whole low_part refl x top h

-- ---- a number in two parts
parts_closed : (needed : Variable → Bool) (whole high low : Variable) → (needed high ≡ true → needed whole ≡ true) → (needed low ≡ true → (needed whole ≡ true) × (needed high ≡ true)) →
    AreClosed needed (part_statements whole high low)
parts_closed needed whole high low first second = ((λ t. first t), ((λ t. let both = second t in (both.0, (tt, both.1))), tt))

-- ---- before the loop
base_closed : (needed : Variable → Bool) (c : Numbers) (high low : Variable) (z : ℤ) (coefficient : ℕ → ℤ) → (needed low ≡ true → needed high ≡ true) →
    (needed high ≡ true → (k : ℕ) → k < c.states → is_product (coefficient k) (state_top c k) ≡ true → needed (variable Loaded k) ≡ true) →
    (needed low ≡ true → (k : ℕ) → k < c.states → is_product (coefficient k) (state_top c k) ≡ true → needed (variable Loaded k) ≡ true) →
    AreClosed needed (base_statements c high low z coefficient)
base_closed needed c high low z coefficient both first second = (
  (λ t. products_need needed (Constant (high_part z)) (λ k. high_part (coefficient k)) (state_top c) (variable Loaded) c.states tt (λ k l some. first t k l (high_product (coefficient k) (state_top c k) some))),
  (
    (λ t. products_need needed (Constant (low_part z)) (λ k. low_part (coefficient k)) (state_top c) (variable Loaded) c.states tt (λ k l some. second t k l (low_product (coefficient k) (state_top c k) some))),
    tt,
  ),
)

entry_base_closed : (c : Numbers) (j : ℕ) → j < length c.offsets → AreClosed (is_needed c) (parted_entry_base c j)
entry_base_closed c j l =
    let reads = λ (k : ℕ) (some : is_product (at (row_of c.state_gains j) k *ℤ pos (2 ^ c.step_exponent)) (state_top c k) ≡ true).
    entry_needs c j k l (product_shifted (at (row_of c.state_gains j) k) c.step_exponent (state_top c k) some) in
    base_closed (is_needed c) c (variable EntryBaseHigh j) (variable EntryBase j) (parted_offset c j) (λ k. at (row_of c.state_gains j) k *ℤ pos (2 ^ c.step_exponent)) (λ t. refl)
    (λ t k m some. reads k some) (λ t k m some. reads k some)

row_base_closed : (c : Numbers) (i : ℕ) → i < length c.bounds → AreClosed (is_needed c) (parted_row_base c i)
row_base_closed c i l =
    base_closed (is_needed c) c (variable RowBaseHigh i) (variable RowBase i) (parted_bound c i) (at (row_of c.state_rows i)) (λ t. t)
    (λ t k m some. row_needs c i k l t some) (λ t k m some. row_needs c i k l t some)

before_closed : (m : Machine) (c : Numbers) → AreClosed (is_needed c) (parted_before m c)
before_closed machine c =
    let b = is_needed c in
    let n = groups (loaded_statements c) c.states in
    let a = groups (parted_entry_base c) (length c.offsets) in
    let r = groups (parted_row_base c) (length c.bounds) in
    let l = groups (zero_statements Multiplier) (length c.bounds) in
    let s = groups (zero_statements Sum) (length c.offsets) in
    closed_append b (n ++ a ++ r ++ l ++ s) (start_for machine c)
    (closed_append b (n ++ a ++ r ++ l) s
    (closed_append b (n ++ a ++ r) l
    (closed_append b (n ++ a) r
    (closed_append b n a (closed_groups b (loaded_statements c) c.states (λ k m. ((λ t. (tt, refl)), tt))) (closed_groups b (parted_entry_base c) (length c.offsets) (entry_base_closed c)))
    (closed_groups b (parted_row_base c) (length c.bounds) (row_base_closed c)))
    (closed_groups b (zero_statements Multiplier) (length c.bounds) (λ i m. ((λ t. tt), tt))))
    (closed_groups b (zero_statements Sum) (length c.offsets) (λ j m. ((λ t. tt), tt))))
    (start_needs machine c)

-- ---- one step
gain_parts_closed : (c : Numbers) (i : ℕ) → AreClosed (is_needed c) (gain_parts c i)
gain_parts_closed c i =
    cond_both (is_second c i) [] (part_statements (gain_variable c i) (variable MultiplierHigh i) (variable MultiplierLow i)) (AreClosed (is_needed c)) (λ t. tt)
    (λ f. parts_closed (is_needed c) (gain_variable c i) (variable MultiplierHigh i) (variable MultiplierLow i) (λ n. gain_variable_needed c i n) (λ n. (gain_variable_needed c i n, n)))

-- one part of the multipliers
gains_read : (c : Numbers) (j : ℕ) (part : Family) (a : Expression) → j < length c.offsets → ((i : ℕ) → is_row_needed c i ≡ true → is_needed c (variable part i) ≡ true) → ReadsNeeded (is_needed c) a →
    ReadsNeeded (is_needed c) (plus_gains c j part a)
gains_read c j part a l has r =
    products_need (is_needed c) a (gain_of c j) (multiplier_top c) (variable part) (length c.bounds) r
    (λ i m some. has i (gain_needed c i j l (gain_left (is_second c i) (at (row_of c.dual_gains j) i) (lowering_of c i) (multiplier_top c i) some)))

entry_parts_closed : (c : Numbers) (j : ℕ) → j < length c.offsets → AreClosed (is_needed c) (parted_entry_statements c j)
entry_parts_closed c j l = (
  (λ t. (tt, (gains_read c j MultiplierHigh (Value (variable EntryBaseHigh j)) l (λ i n. n) refl, gains_read c j MultiplierLow (Value (variable EntryBase j)) l (λ i n. n) refl))),
  parts_closed (is_needed c) (variable Entry j) (variable EntryHigh j) (variable EntryLow j) (λ n. refl) (λ n. (refl, n)),
)

entry_needed : (c : Numbers) (i j : ℕ) → i < length c.bounds → is_row_needed c i ≡ true → is_product (at (row_of c.plan_rows i) j) (entry_top c j) ≡ true → is_entry_needed c j ≡ true
unfolding is_entry_needed
entry_needed c i j l n h =
    any_there (λ m. is_row_needed c m && is_product (at (row_of c.plan_rows m) j) (entry_top c j)) (length c.bounds) i l
    (and_both (is_row_needed c i) (is_product (at (row_of c.plan_rows i) j) (entry_top c j)) n h)

-- one part of the plan
entries_read : (c : Numbers) (i : ℕ) (part : Family) (a : Expression) → i < length c.bounds → is_row_needed c i ≡ true → ((j : ℕ) → is_entry_needed c j ≡ true → is_needed c (variable part j) ≡ true) →
    ReadsNeeded (is_needed c) a → ReadsNeeded (is_needed c) (plus_entries c i part a)
entries_read c i part a l n has r =
    products_need (is_needed c) a (at (row_of c.plan_rows i)) (entry_top c) (variable part) (length c.offsets) r (λ j m some. has j (entry_needed c i j l n some))

gradient_closed : (c : Numbers) (i : ℕ) → i < length c.bounds → AreClosed (is_needed c) (parted_gradient c i)
gradient_closed c i l =
    let high = Declare (variable GradientHigh i) (plus_entries c i EntryHigh (Constant (pos 0))) in
    let low = Declare (variable Gradient i) (plus_entries c i EntryLow (Constant (pos 0))) in
    cond_both (is_first c i) (high ∷ low ∷ []) [] (AreClosed (is_needed c))
    (λ t. ((λ n. entries_read c i EntryHigh (Constant (pos 0)) l n (λ j m. m) tt), ((λ n. entries_read c i EntryLow (Constant (pos 0)) l n (λ j m. m) tt), tt))) (λ f. tt)

row_part_read : (c : Numbers) (base shared entry : Family) (i : ℕ) → i < length c.bounds → is_row_needed c i ≡ true →
    ((k : ℕ) → is_row_needed c k ≡ true → (is_needed c (variable base k) ≡ true) × (is_needed c (variable shared k) ≡ true)) →
    ((j : ℕ) → is_entry_needed c j ≡ true → is_needed c (variable entry j) ≡ true) → ReadsNeeded (is_needed c) (row_part c base shared entry i)
row_part_read c base shared entry i l n rows entries =
    let R = λ (a : Expression). ReadsNeeded (is_needed c) a in
    let own = rows i n in
    cond_both (is_first c i) _ _ R (λ t. own) (λ f. cond_both (is_second c i) _ _ R
    (λ t. (own.0, (rows (partner c i) (pair_needed c (partner c i) i (later_there c i l t).pair ∙ n)).1))
    (λ g. entries_read c i entry (Value (variable base i)) l n entries own.0))

row_closed : (c : Numbers) (i : ℕ) → i < length c.bounds → AreClosed (is_needed c) (Declare (variable RowSum i) (parted_row c i) ∷ [])
row_closed c i l = ((λ n. (row_part_read c RowBaseHigh GradientHigh EntryHigh i l n (λ k m. (m, m)) (λ j m. m), row_part_read c RowBase Gradient EntryLow i l n (λ k m. (m, m)) (λ j m. m))), tt)

move_closed : (m : Machine) (c : Numbers) (i : ℕ) → AreClosed (is_needed c) (parted_move m c i)
move_closed Plain c i = ((λ n. (n, n)), ((λ n. n), ((λ n. n), ((λ n. n), tt))))
move_closed Accelerated c i = ((λ n. (n, (refl, n))), ((λ n. n), ((λ n. n), ((λ n. n), ((λ n. (n, (refl, n))), tt)))))

row_parts_closed : (m : Machine) (c : Numbers) (i : ℕ) → i < length c.bounds → AreClosed (is_needed c) (parted_row_statements m c i)
row_parts_closed machine c i l =
    let b = is_needed c in
    let sum = Declare (variable RowSum i) (parted_row c i) ∷ [] in
    closed_append b (parted_gradient c i ++ sum) (parted_move machine c i) (closed_append b (parted_gradient c i) sum (gradient_closed c i l) (row_closed c i l)) (move_closed machine c i)

body_closed : (m : Machine) (c : Numbers) → AreClosed (is_needed c) (parted_body m c)
body_closed machine c =
    let b = is_needed c in
    let e = means_for machine c in
    let d = groups (difference_statements c) (length c.bounds) in
    let g = groups (gain_parts c) (length c.bounds) in
    let u = groups (parted_entry_statements c) (length c.offsets) in
    let s = groups (sum_for machine) (length c.offsets) in
    let r = groups (parted_row_statements machine c) (length c.bounds) in
    closed_append b (e ++ d ++ g ++ u ++ s ++ r) (next_for machine)
    (closed_append b (e ++ d ++ g ++ u ++ s) r
    (closed_append b (e ++ d ++ g ++ u) s
    (closed_append b (e ++ d ++ g) u
    (closed_append b (e ++ d) g
    (closed_append b e d (means_need machine c) (differences_need c))
    (closed_groups b (gain_parts c) (length c.bounds) (λ i m. gain_parts_closed c i)))
    (closed_groups b (parted_entry_statements c) (length c.offsets) (entry_parts_closed c)))
    (sums_need machine c))
    (closed_groups b (parted_row_statements machine c) (length c.bounds) (row_parts_closed machine c)))
    (next_needs machine c)

pub parted_closed : (m : Machine) (c : Numbers) → IsClosed (is_needed c) (whole_parted m c)
parted_closed m c = record { before = before_closed m c; body = body_closed m c }
