-- Each number that the text of a controller's program in two parts shows is below 2^64, and so that of any controller's program.
use Rattle.std.proofs.Common.{◌≡◌, ℕ, ◌^◌, ◌<◌, ◌≤◌, ltb, true, inl, inr, ℤ, pos, ◌*ℤ◌, List, [], ◌∷◌, ◌++◌, length, refl, arith}
use Rattle.std.specs.Prelude.{All}
use Rattle.std.proofs.lemmas.Bool.{cond_both, ltb-true, ltb-false}
use Rattle.std.proofs.lemmas.List.Elements.{All-nil, All-append}
use Rattle.integer_algebra.specs.Sums.{at}
use Rattle.mat_int.specs.Matrix.{row_of}
use Rattle.qp_model.specs.machine.Controller.{Numbers}
use Rattle.overflow_check.specs.Machines.{IsControllerFor}
use Rattle.overflow_check.specs.declared.machine.Machine.{Machine}
use Rattle.overflow_check.specs.declared.machine.Machine.TheVariants.{Plain, Accelerated}
use Rattle.overflow_check.proofs.Machines.{as_last}
use Rattle.c_language.specs.Syntax.{Family, Variable, variable, Expression, Statement, groups}
use Rattle.c_language.specs.Syntax.Family.{Loaded, EntryBase, RowBase, Multiplier, Entry, Gradient, RowSum, Sum, Own, Reached, MultiplierHigh, MultiplierLow, EntryHigh, EntryLow, EntryBaseHigh, RowBaseHigh, GradientHigh}
use Rattle.c_language.specs.Syntax.Expression.{Constant, Value, Plus}
use Rattle.c_language.specs.Syntax.Statement.{Declare, Assign}
use Rattle.c_language.specs.Laws.{HasShortText}
use Rattle.c_language.proofs.LeftIn.{ReadsNeeded}
use Rattle.c_program.specs.Of.{state_top, multiplier_top, entry_top, partner, is_first, is_second, loaded_statements, zero_statements, difference_statements, gain_of, gain_variable}
use Rattle.c_program.specs.FastOf.{first_weight, first_scale_lines, first_scale, divisor_statement, scale_statements, mean_statements, reached_expression, next_weight}
use Rattle.c_program.specs.ByMachine.{top_for, plans_for, weighted_for, sum_for, start_for, means_for, next_for, program_for}
use Rattle.c_program.specs.InParts.{high_part, low_part, part_statements, base_statements, parted_entry_base, parted_row_base, parted_offset, parted_bound, parted_before, gain_parts, plus_gains, parted_entry, parted_entry_statements, plus_entries, parted_gradient, row_part, parted_row, parted_move, parted_row_statements, parted_body, parted_kinds, parted_program, is_parted}
use Rattle.c_program.specs.Laws.{ShortTextLaw, FastShortTextLaw, PartedProgramLaw, PartedShortTextLaw, WrittenTextLaw}
use Rattle.c_program.proofs.Pairs.{later_there}
use Rattle.c_program.proofs.ProgramNeeds.{products_need}
use Rattle.c_program.proofs.ShortTexts.{small, small_at, IsSmall, one, in_groups, AreFew, clamped_small, differences_small, listed, where_short, zeros_small, scale_small, mean_small, few, low_corner, short_text}

-- ---- before the loop
base_small : (c : Numbers) (high low : Variable) (z : ℤ) (coefficient : ℕ → ℤ) → AreFew c → high.number < 2 ^ 64 → low.number < 2 ^ 64 → All IsSmall (base_statements c high low z coefficient)
base_small c high low z coefficient w h l =
    let read = λ (k : ℕ) (m : k < c.states). small_at c.states k m w.states in
    listed (base_statements c high low z coefficient) (
      (h, products_need small (Constant (high_part z)) (λ k. high_part (coefficient k)) (state_top c) (variable Loaded) c.states tt (λ k m some. read k m)),
      ((l, products_need small (Constant (low_part z)) (λ k. low_part (coefficient k)) (state_top c) (variable Loaded) c.states tt (λ k m some. read k m)), tt),
    )

start_small : (m : Machine) (c : Numbers) → AreFew c → All IsSmall (start_for m c)
start_small Plain c w = All-nil IsSmall
start_small Accelerated c w =
    let o = groups (zero_statements Own) (length c.bounds) in
    let v = groups (zero_statements Reached) (length c.bounds) in
    All-append IsSmall (o ++ v ++ (first_weight ∷ [])) (first_scale c)
    (All-append IsSmall (o ++ v) (first_weight ∷ []) (All-append IsSmall o v (zeros_small c Own w) (zeros_small c Reached w)) (one first_weight (omega arith, tt)))
    (where_short c first_scale_lines ((omega arith, tt), ((omega arith, tt), tt)))

parted_before_small : (m : Machine) (c : Numbers) → AreFew c → All IsSmall (parted_before m c)
parted_before_small m c w =
    let n = groups (loaded_statements c) c.states in
    let a = groups (parted_entry_base c) (length c.offsets) in
    let r = groups (parted_row_base c) (length c.bounds) in
    let l = groups (zero_statements Multiplier) (length c.bounds) in
    let s = groups (zero_statements Sum) (length c.offsets) in
    let A = λ (xs ys : List Statement). All-append IsSmall xs ys in
    A (n ++ a ++ r ++ l ++ s) (start_for m c)
    (A (n ++ a ++ r ++ l) s
    (A (n ++ a ++ r) l
    (A (n ++ a) r
    (A n a (in_groups (loaded_statements c) c.states (λ k h. one _ (omega (arith, h, w.states), (tt, small_at c.states k h w.states))))
    (in_groups (parted_entry_base c) (length c.offsets)
    (λ j h. base_small c (variable EntryBaseHigh j) (variable EntryBase j) (parted_offset c j) (λ k. at (row_of c.state_gains j) k *ℤ pos (2 ^ c.step_exponent)) w
    (omega (arith, h, w.entries)) (omega (arith, h, w.entries)))))
    (in_groups (parted_row_base c) (length c.bounds)
    (λ i h. base_small c (variable RowBaseHigh i) (variable RowBase i) (parted_bound c i) (at (row_of c.state_rows i)) w (omega (arith, h, w.rows)) (omega (arith, h, w.rows)))))
    (zeros_small c Multiplier w))
    (in_groups (zero_statements Sum) (length c.offsets) (λ j h. one _ (omega (arith, h, w.entries), tt))))
    (start_small m c w)

-- ---- one step
parts_small : (whole high low : Variable) → ltb whole.number (2 ^ 64) ≡ true → ltb high.number (2 ^ 64) ≡ true → low.number < 2 ^ 64 → All IsSmall (part_statements whole high low)
parts_small whole high low v h l = listed (part_statements whole high low) ((ltb-true high.number (2 ^ 64) h, v), ((l, (v, (tt, h))), tt))

gain_parts_small : (c : Numbers) (i : ℕ) → AreFew c → i < length c.bounds → All IsSmall (gain_parts c i)
gain_parts_small c i w l =
    let own = small_at (length c.bounds) i l w.rows in
    cond_both (is_second c i) [] (part_statements (gain_variable c i) (variable MultiplierHigh i) (variable MultiplierLow i)) (All IsSmall) (λ t. All-nil IsSmall)
    (λ f. parts_small (gain_variable c i) (variable MultiplierHigh i) (variable MultiplierLow i) own own (omega (arith, l, w.rows)))

gains_small : (c : Numbers) (j : ℕ) (part : Family) (a : Expression) → AreFew c → ReadsNeeded small a → ReadsNeeded small (plus_gains c j part a)
gains_small c j part a w r = products_need small a (gain_of c j) (multiplier_top c) (variable part) (length c.bounds) r (λ i h some. small_at (length c.bounds) i h w.rows)

parted_entry_small : (c : Numbers) (j : ℕ) → AreFew c → j < length c.offsets → All IsSmall (parted_entry_statements c j)
parted_entry_small c j w l =
    let own = small_at (length c.offsets) j l w.entries in
    let number : j < 2 ^ 64 = omega (arith, l, w.entries) in
    let read : ReadsNeeded small (parted_entry c j) =
    (tt, (gains_small c j MultiplierHigh (Value (variable EntryBaseHigh j)) w own, gains_small c j MultiplierLow (Value (variable EntryBase j)) w own)) in
    All-append IsSmall (Declare (variable Entry j) (parted_entry c j) ∷ []) (part_statements (variable Entry j) (variable EntryHigh j) (variable EntryLow j)) (one _ (number, read))
    (parts_small (variable Entry j) (variable EntryHigh j) (variable EntryLow j) own own number)

sum_small : (m : Machine) (c : Numbers) (j : ℕ) → AreFew c → j < length c.offsets → All IsSmall (sum_for m j)
sum_small Plain c j w l = let own = small_at (length c.offsets) j l w.entries in one _ (omega (arith, l, w.entries), (own, own))
sum_small Accelerated c j w l = let own = small_at (length c.offsets) j l w.entries in one _ (omega (arith, l, w.entries), (own, (refl, own)))

entries_read : (c : Numbers) (i : ℕ) (part : Family) (a : Expression) → AreFew c → ReadsNeeded small a → ReadsNeeded small (plus_entries c i part a)
entries_read c i part a w r =
    products_need small a (at (row_of c.plan_rows i)) (entry_top c) (variable part) (length c.offsets) r (λ j h some. small_at (length c.offsets) j h w.entries)

parted_gradient_small : (c : Numbers) (i : ℕ) → AreFew c → i < length c.bounds → All IsSmall (parted_gradient c i)
parted_gradient_small c i w l =
    let number : i < 2 ^ 64 = omega (arith, l, w.rows) in
    let one = Declare (variable GradientHigh i) (plus_entries c i EntryHigh (Constant (pos 0))) in
    let other = Declare (variable Gradient i) (plus_entries c i EntryLow (Constant (pos 0))) in
    cond_both (is_first c i) (one ∷ other ∷ []) [] (All IsSmall)
    (λ t. listed (one ∷ other ∷ []) ((number, entries_read c i EntryHigh (Constant (pos 0)) w tt), ((number, entries_read c i EntryLow (Constant (pos 0)) w tt), tt)))
    (λ f. All-nil IsSmall)

row_part_small : (c : Numbers) (base shared part : Family) (i : ℕ) → AreFew c → i < length c.bounds → ReadsNeeded small (row_part c base shared part i)
row_part_small c base shared part i w l =
    let R = λ (a : Expression). ReadsNeeded small a in
    let own = small_at (length c.bounds) i l w.rows in
    cond_both (is_first c i) _ _ R (λ t. (own, own)) (λ f. cond_both (is_second c i) _ _ R
    (λ t. (own, small_at (length c.bounds) (partner c i) (omega (arith, (later_there c i l t).pair.order, l)) w.rows)) (λ g. entries_read c i part (Value (variable base i)) w own))

parted_move_small : (m : Machine) (c : Numbers) (i : ℕ) → AreFew c → i < length c.bounds → All IsSmall (parted_move m c i)
parted_move_small Plain c i w l =
    let own = small_at (length c.bounds) i l w.rows in
    let number : i < 2 ^ 64 = omega (arith, l, w.rows) in
    clamped_small (variable Multiplier i) (Plus (Value (variable Multiplier i)) (Value (variable RowSum i))) (top_for Plain c i) i [] number number (own, own) (All-nil IsSmall)
parted_move_small Accelerated c i w l =
    let own = small_at (length c.bounds) i l w.rows in
    let number : i < 2 ^ 64 = omega (arith, l, w.rows) in
    clamped_small (variable Own i) (Plus (Value (variable Own i)) (weighted_for Accelerated (Value (variable RowSum i)))) (top_for Accelerated c i) i
    (Assign (variable Reached i) (reached_expression i) ∷ []) number number (own, (refl, own)) (one _ (number, (own, (refl, own))))

parted_row_small : (m : Machine) (c : Numbers) (i : ℕ) → AreFew c → i < length c.bounds → All IsSmall (parted_row_statements m c i)
parted_row_small m c i w l =
    let sum = Declare (variable RowSum i) (parted_row c i) ∷ [] in
    All-append IsSmall (parted_gradient c i ++ sum) (parted_move m c i)
    (All-append IsSmall (parted_gradient c i) sum (parted_gradient_small c i w l)
    (one _ (omega (arith, l, w.rows), (row_part_small c RowBaseHigh GradientHigh EntryHigh i w l, row_part_small c RowBase Gradient EntryLow i w l))))
    (parted_move_small m c i w l)

means_small : (m : Machine) (c : Numbers) → AreFew c → All IsSmall (means_for m c)
means_small Plain c w = All-nil IsSmall
means_small Accelerated c w =
    let e = divisor_statement ∷ [] in
    let q = scale_statements c in
    All-append IsSmall (e ++ q) (groups (mean_statements c) (length c.bounds))
    (All-append IsSmall e q (one divisor_statement (omega arith, ((refl, tt), (refl, tt)))) (scale_small c))
    (in_groups (mean_statements c) (length c.bounds) (λ i h. mean_small c i w h))

next_small : (m : Machine) → All IsSmall (next_for m)
next_small Plain = All-nil IsSmall
next_small Accelerated = one next_weight (omega arith, (refl, tt))

parted_body_small : (m : Machine) (c : Numbers) → AreFew c → All IsSmall (parted_body m c)
parted_body_small m c w =
    let e = means_for m c in
    let d = groups (difference_statements c) (length c.bounds) in
    let g = groups (gain_parts c) (length c.bounds) in
    let u = groups (parted_entry_statements c) (length c.offsets) in
    let s = groups (sum_for m) (length c.offsets) in
    let r = groups (parted_row_statements m c) (length c.bounds) in
    let A = λ (xs ys : List Statement). All-append IsSmall xs ys in
    A (e ++ d ++ g ++ u ++ s ++ r) (next_for m)
    (A (e ++ d ++ g ++ u ++ s) r
    (A (e ++ d ++ g ++ u) s
    (A (e ++ d ++ g) u
    (A (e ++ d) g
    (A e d (means_small m c w) (differences_small c w))
    (in_groups (gain_parts c) (length c.bounds) (λ i l. gain_parts_small c i w l)))
    (in_groups (parted_entry_statements c) (length c.offsets) (λ j l. parted_entry_small c j w l)))
    (in_groups (sum_for m) (length c.offsets) (λ j l. sum_small m c j w l)))
    (in_groups (parted_row_statements m c) (length c.bounds) (λ i l. parted_row_small m c i w l)))
    (next_small m)

-- ---- the laws, of the programs whose runs are known
pub parted_short_text_law : PartedProgramLaw → PartedShortTextLaw
parted_short_text_law law m c sound parts =
    let sized = (as_last m c sound).form.sized in
    let w = few c sized in
    short_text c (parted_kinds m c) (parted_before m c) (parted_body m c) (plans_for m c) _ _ sized (parted_before_small m c w) (parted_body_small m c w)
    ((law m c sound parts).inside c.low (low_corner c sized))

-- of at most 64 bits
narrow_text : ShortTextLaw → FastShortTextLaw → (m : Machine) (c : Numbers) → IsControllerFor m c → c.width ≤ 64 → HasShortText (program_for m c)
narrow_text law fast Plain c sound narrow = law c sound narrow
narrow_text law fast Accelerated c sound narrow = fast c sound narrow

pub written_text_law : ShortTextLaw → FastShortTextLaw → PartedShortTextLaw → WrittenTextLaw
written_text_law law fast parted m c sound has =
    cond_both (is_parted c) (parted_program m c) (program_for m c) HasShortText
    (λ t. elim has [
      | inl narrow ↦ absurd (omega (arith, narrow, ltb-true 64 c.width t))
      | inr parts ↦ parted m c sound parts
    ])
    (λ f. narrow_text law fast m c sound (omega (arith, ltb-false 64 c.width f)))
