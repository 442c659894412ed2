-- The expressions of a controller's program: C defines them, and they have the values of the controller's machine.
use Rattle.std.proofs.Common.{◌≡◌, ℕ, ◌+◌, ◌-◌, ◌*◌, ◌%◌, ◌^◌, ◌<◌, ◌≤◌, min, suc, true, ℤ, pos, ◌+ℤ◌, ◌-ℤ◌, ◌*ℤ◌, neg_ℤ, ◌≤ℤ◌, List, [], ◌∷◌, length, unsigned_abs, refl, sym, ap, ◌∙◌, arith, le_refl, mul_comm, mul_assoc}
use Rattle.std.proofs.lemmas.Bool.{cond_both}
use Rattle.std.proofs.lemmas.Int.{ints}
use Rattle.std.proofs.lemmas.Nat.{pow_pos, mul-le}
use Rattle.std.proofs.lemmas.List.FromFn.{get_or-map-range_with_len}
use Rattle.integer_algebra.specs.Division.{floor_of, ceil_div}
use Rattle.integer_algebra.specs.Sums.{total, at}
use Rattle.integer_algebra.specs.Sizes.{amount}
use Rattle.integer_algebra.proofs.Quoting.{by_ring, quotes}
use Rattle.integer_algebra.proofs.SumLaws.{total_same, total_neg, total_scale_right}
use Rattle.integer_algebra.proofs.AmountLaws.{amount_mono}
use Rattle.integer_algebra.proofs.RingLaws.{neg-mul_z}
use Rattle.integer_algebra.proofs.DivisionLaws.{le-mul-ceil_div, ceil_div-le}
use Rattle.mat_int.proofs.Indices.{dot_is}
use Rattle.mat_int.specs.Row.{list_dot}
use Rattle.mat_int.specs.Matrix.{Matrix, row_of}
use Rattle.qp_model.specs.machine.Controller.{Numbers, plan_length, HasShape, IsShaped}
use Rattle.qp_model.specs.machine.Machine.{raised, plan_entry, row_sum, entry_sum}
use Rattle.qp_model.specs.machine.AbsoluteSums.{weighted_abs_sum, state_magnitudes, plan_magnitudes, entry_absolute_sum, row_absolute_sum, next_magnitude}
use Rattle.qp_model.specs.machine.Within.{AreWithin}
use Rattle.qp_model.proofs.AbsoluteLaws.{abs-shifted, abs-neg, abs-row_le, abs-floor_le, abs-floor_le_ceil, ceil_div_mono}
use Rattle.qp_model.proofs.MagnitudeLaws.{AreUpToTops, top_le_clamp, raised_within, plan_within}
use Rattle.overflow_check.proofs.SumLaws.{SumsFit, row_le}
use Rattle.overflow_check.proofs.Sizes.{length-plan_reach}
use Rattle.c_language.specs.Syntax.{variable, Expression}
use Rattle.c_language.specs.Syntax.Family.{Loaded, EntryBase, RowBase, Multiplier, Entry, Gradient, RowSum}
use Rattle.c_language.specs.Syntax.Expression.{Constant, Value, Plus, Minus}
use Rattle.c_language.specs.Meaning.{Environment}
use Rattle.c_program.specs.Of.{state_top, multiplier_top, entry_top, plus_products, partner, is_first, is_second, gain_of, gain_variable, row_bits, plan_factor, row_top, lowered_value, lowered_base, plus_plan, row_expression, entry_expression, moved_expression}
use Rattle.c_program.proofs.Terms.{Makes, makes_same, makes_constant, makes_value, makes_plus, makes_minus, abs-sub_le, makes_shifted, makes_products, short_shift}
use Rattle.c_program.proofs.Amounts.{weighted_is, plain_total, scaled_total, scaled_amount}
use Rattle.c_program.proofs.Lowering.{bits_le, bits_divide, same_bits, whole_floor, negated_floor, floor_more, floor_twice, power_split, lowered_made}
use Rattle.c_program.proofs.Pairs.{IsPair, AreMultipliers, Stand, later_there, gains_are, gains_amount, gain_variable_le}

-- ---- what the lemmas need of a controller and a state over 2^fraction_bits
pub record Ready (c : Numbers) (state : List ℤ) : Type 0 where
  pub shaped : IsShaped c
  pub fit : SumsFit c (2 ^ 63 - 1)
  pub nonneg : pos 0 ≤ℤ c.clamp
  pub short : c.fraction_bits ≤ 48
  pub within : AreWithin state (state_magnitudes c)
  pub long : length state ≡ c.states

tops_long : (c : Numbers) (state : List ℤ) → Ready c state → length (state_magnitudes c) ≡ c.states
tops_long c state r = sym r.within.long ∙ r.long

pub row_long : (a : Matrix) (height breadth i : ℕ) → HasShape a height breadth → i < height → length (row_of a i) ≡ breadth
row_long a height breadth i h l = h.each i [] (omega (arith, h.rows, l))

-- ---- what is added up before the loop
abbrev pub entry_base : Numbers → List ℤ → ℕ → ℤ
entry_base c state j = (list_dot (row_of c.state_gains j) state +ℤ at c.offsets j *ℤ pos (2 ^ c.fraction_bits)) *ℤ pos (2 ^ c.step_exponent)

abbrev pub entry_base_top : Numbers → ℕ → ℕ
entry_base_top c j = (weighted_abs_sum (row_of c.state_gains j) (state_magnitudes c) + unsigned_abs (at c.offsets j) * 2 ^ c.fraction_bits) * 2 ^ c.step_exponent

pub entry_base_made : (c : Numbers) (state : List ℤ) (e : Environment) (j : ℕ) → Ready c state → j < length c.offsets → ((k : ℕ) → k < c.states → e Loaded k ≡ at state k) →
    Makes e (plus_products (Constant (at c.offsets j *ℤ pos (2 ^ c.fraction_bits) *ℤ pos (2 ^ c.step_exponent)))
    (λ k. at (row_of c.state_gains j) k *ℤ pos (2 ^ c.step_exponent)) (state_top c) (variable Loaded) c.states) (entry_base c state j) (entry_base_top c j)
entry_base_made c state e j r l loaded =
    let row = row_of c.state_gains j in
    let long = row_long c.state_gains (plan_length c) c.states j r.shaped.state_gains (omega (arith, l, r.shaped.offsets)) in
    let f = c.fraction_bits in
    let s = c.step_exponent in
    let offset = at c.offsets j *ℤ pos (2 ^ f) in
    let size = unsigned_abs (at c.offsets j) * 2 ^ f in
    let own = weighted_abs_sum row (state_magnitudes c) in
    let constant : unsigned_abs (offset *ℤ pos (2 ^ s)) ≡ size * 2 ^ s = abs-shifted offset s ∙ ap (λ (a : ℕ). a * 2 ^ s) (abs-shifted (at c.offsets j) f) in
    let products = scaled_amount c.states row (state_magnitudes c) s long (tops_long c state r) in
    let most : size * 2 ^ s + own * 2 ^ s ≡ (own + size) * 2 ^ s = omega arith in
    let room : (own + size) * 2 ^ s ≤ entry_absolute_sum c j = omega arith in
    makes_same e _ _ _ _ _
    (makes_products e (Constant (offset *ℤ pos (2 ^ s))) (λ k. at row k *ℤ pos (2 ^ s)) (state_top c) (variable Loaded) c.states (offset *ℤ pos (2 ^ s)) (size * 2 ^ s)
    (makes_constant e (offset *ℤ pos (2 ^ s)) (size * 2 ^ s) (omega (arith, constant)) (omega (arith, most, room, r.fit.entries j l)))
    (λ k m. rw (loaded k m) (r.within.each k))
    (omega (arith, products, most, room, r.fit.entries j l)))
    (ap (λ (z : ℤ). offset *ℤ pos (2 ^ s) +ℤ z) (scaled_total c.states row state (pos (2 ^ s)) (e Loaded) long r.long loaded) ∙ joined (list_dot row state) offset (pos (2 ^ s)))
    (omega (arith, products, most))
  where
    joined : (own offset q : ℤ) → offset *ℤ q +ℤ own *ℤ q ≡ (own +ℤ offset) *ℤ q
    joined own offset q = by_ring (own ∷ offset ∷ q ∷ []) (search quotes depth 60 fits 20000) refl

abbrev pub row_base : Numbers → List ℤ → ℕ → ℤ
row_base c state i = neg_ℤ (at c.bounds i *ℤ pos (2 ^ c.fraction_bits)) +ℤ list_dot (row_of c.state_rows i) state

abbrev pub row_base_top : Numbers → ℕ → ℕ
row_base_top c i = unsigned_abs (at c.bounds i) * 2 ^ c.fraction_bits + weighted_abs_sum (row_of c.state_rows i) (state_magnitudes c)

pub row_base_made : (c : Numbers) (state : List ℤ) (e : Environment) (i : ℕ) → Ready c state → i < length c.bounds → ((k : ℕ) → k < c.states → e Loaded k ≡ at state k) →
    Makes e (plus_products (Constant (neg_ℤ (at c.bounds i *ℤ pos (2 ^ c.fraction_bits)))) (at (row_of c.state_rows i)) (state_top c) (variable Loaded) c.states)
    (row_base c state i) (row_base_top c i)
row_base_made c state e i r l loaded =
    let row = row_of c.state_rows i in
    let long = row_long c.state_rows c.rows c.states i r.shaped.state_rows (omega (arith, l, r.shaped.bounds)) in
    let bound = at c.bounds i *ℤ pos (2 ^ c.fraction_bits) in
    let size = unsigned_abs (at c.bounds i) * 2 ^ c.fraction_bits in
    let products = weighted_is c.states row (state_magnitudes c) long (tops_long c state r) in
    let constant : unsigned_abs (neg_ℤ bound) ≡ size = abs-neg bound ∙ abs-shifted (at c.bounds i) c.fraction_bits in
    makes_same e _ _ _ _ _
    (makes_products e (Constant (neg_ℤ bound)) (at row) (state_top c) (variable Loaded) c.states (neg_ℤ bound) size
    (makes_constant e (neg_ℤ bound) size (omega (arith, constant)) (omega (arith, r.fit.rows i l)))
    (λ k m. rw (loaded k m) (r.within.each k))
    (omega (arith, products, r.fit.rows i l)))
    (ap (λ (z : ℤ). neg_ℤ bound +ℤ z) (plain_total c.states row state (e Loaded) long r.long loaded))
    (omega (arith, products))

-- ---- a plan entry
-- the variables of the state, as if all families held it
pub held_state : List ℤ → Environment
held_state state family k = at state k

pub held_loaded : (state : List ℤ) (k : ℕ) → held_state state Loaded k ≡ at state k
unfolding held_state
held_loaded state k = refl

entry_base_le : (c : Numbers) (state : List ℤ) (j : ℕ) → Ready c state → j < length c.offsets → unsigned_abs (entry_base c state j) ≤ entry_base_top c j
unfolding held_state
entry_base_le c state j r l = (entry_base_made c state (held_state state) j r l (λ k m. refl)).within

row_base_le : (c : Numbers) (state : List ℤ) (i : ℕ) → Ready c state → i < length c.bounds → unsigned_abs (row_base c state i) ≤ row_base_top c i
unfolding held_state
row_base_le c state i r l = (row_base_made c state (held_state state) i r l (λ k m. refl)).within

pub entry_made : (c : Numbers) (state multipliers : List ℤ) (e : Environment) (j : ℕ) → Ready c state → j < length c.offsets → AreMultipliers c multipliers →
    e EntryBase j ≡ entry_base c state j → Stand c multipliers e → Makes e (entry_expression c j) (plan_entry c state (raised c multipliers) j) (entry_absolute_sum c j)
entry_made c state multipliers e j r l ranges base stand =
    let long = row_long c.dual_gains (plan_length c) c.rows j r.shaped.dual_gains (omega (arith, l, r.shaped.offsets)) ∙ sym r.shaped.bounds in
    let k = c.fraction_bits + c.step_exponent in
    let z = entry_sum c state (raised c multipliers) j in
    let amounts = gains_amount c j r.nonneg long in
    let sum : Makes e _ z (entry_absolute_sum c j) = makes_same e _ _ _ _ _
    (makes_products e (Value (variable EntryBase j)) (gain_of c j) (multiplier_top c) (gain_variable c) (length c.bounds) (entry_base c state j) (entry_base_top c j)
    (makes_value e (variable EntryBase j) (entry_base c state j) (entry_base_top c j) base (entry_base_le c state j r l) (omega (arith, r.fit.entries j l)))
    (λ i m. gain_variable_le c multipliers e i m ranges stand)
    (omega (arith, amounts, r.fit.entries j l)))
    (ap (λ (y : ℤ). entry_base c state j +ℤ y) (gains_are c multipliers e j l long stand))
    (omega (arith, amounts)) in
    let whole : entry_absolute_sum c j < 2 ^ 63 = omega (arith, r.fit.entries j l) in
    let shifted = makes_shifted e _ z (entry_absolute_sum c j) (min k 63) sum (omega arith) in
    makes_same e _ _ _ _ _
    (makes_minus e _ _ (pos 0) (floor_of z (2 ^ min k 63)) 0 _ (entry_absolute_sum c j) (makes_constant e (pos 0) 0 (omega arith) (omega arith)) shifted
    (omega (arith, ints, shifted.within)) whole)
    (from_zero _ _ (short_shift z k (omega (arith, sum.within, whole)))) (omega arith)
  where
    from_zero : (x y : ℤ) → x ≡ y → pos 0 -ℤ x ≡ neg_ℤ y
    from_zero x y h = omega (arith, ints, h)

-- it is at most its magnitude
pub entry_le : (c : Numbers) (state multipliers : List ℤ) (j : ℕ) → AreWithin state (state_magnitudes c) → pos 0 ≤ℤ c.clamp → j < length c.offsets → AreUpToTops c multipliers →
    unsigned_abs (plan_entry c state (raised c multipliers) j) ≤ entry_top c j
entry_le c state multipliers j within nonneg l tops =
    rw (get_or-map-range_with_len (plan_entry c state (raised c multipliers)) 0 (length c.offsets) j j (pos 0) l (omega arith)) at
    ((plan_within c state (raised c multipliers) within (raised_within c multipliers nonneg tops)).each j)

-- ---- the sum of a row
-- what it is made from
pub record IsPlanned (c : Numbers) (state plan : List ℤ) (e : Environment) : Type 0 where
  pub bases : (i : ℕ) → i < length c.bounds → e RowBase i ≡ row_base c state i
  pub within : AreWithin plan (plan_magnitudes c)
  pub entries : (j : ℕ) → j < length c.offsets → e Entry j ≡ at plan j

plan_row_long : (c : Numbers) (state : List ℤ) (i : ℕ) → Ready c state → i < length c.bounds → length (row_of c.plan_rows i) ≡ length c.offsets
plan_row_long c state i r l = row_long c.plan_rows c.rows (plan_length c) i r.shaped.plan_rows (omega (arith, l, r.shaped.bounds)) ∙ sym r.shaped.offsets

-- its products with the plan, without the power of two that its factors share
abbrev pub lowered_dot : Numbers → List ℤ → ℕ → ℤ
lowered_dot c plan i = total (length c.offsets) (λ j. plan_factor c i j *ℤ at plan j)

bits_of_row : (c : Numbers) (i j : ℕ) → j < length c.offsets → unsigned_abs (at (row_of c.plan_rows i) j) % 2 ^ row_bits c i ≡ 0
bits_of_row c i j l = bits_divide (row_of c.plan_rows i) (length c.offsets) c.fraction_bits j l

pub row_bits_le : (c : Numbers) (i : ℕ) → row_bits c i ≤ c.fraction_bits
row_bits_le c i = bits_le (row_of c.plan_rows i) (length c.offsets) c.fraction_bits

dot_lowered : (c : Numbers) (plan : List ℤ) (i : ℕ) → length (row_of c.plan_rows i) ≡ length c.offsets → length plan ≡ length c.offsets →
    lowered_dot c plan i *ℤ pos (2 ^ row_bits c i) ≡ list_dot (row_of c.plan_rows i) plan
dot_lowered c plan i h l =
    let n = length c.offsets in
    let row = row_of c.plan_rows i in
    let p = 2 ^ row_bits c i in
    sym (total_scale_right n (pos p) (λ j. plan_factor c i j *ℤ at plan j)) ∙
    total_same n (λ j. plan_factor c i j *ℤ at plan j *ℤ pos p) (λ j. at row j *ℤ at plan j)
    (λ j m. turned (plan_factor c i j) (at plan j) (pos p) ∙ ap (λ (x : ℤ). x *ℤ at plan j) (sym (whole_floor (at row j) p (pow_pos (row_bits c i)) (bits_of_row c i j m)))) ∙
    sym (dot_is n row plan h l)
  where
    turned : (x y q : ℤ) → x *ℤ y *ℤ q ≡ x *ℤ q *ℤ y
    turned x y q = by_ring (x ∷ y ∷ q ∷ []) (search quotes depth 60 fits 20000) refl

-- a row's products with the plan, added to an expression
plan_made : (c : Numbers) (state plan : List ℤ) (e : Environment) (i : ℕ) (a : Expression) (z : ℤ) (most : ℕ) → Ready c state → i < length c.bounds → IsPlanned c state plan e → Makes e a z most →
    most + weighted_abs_sum (row_of c.plan_rows i) (plan_magnitudes c) < 2 ^ 63 →
    Makes e (plus_plan c i a) (z +ℤ lowered_dot c plan i) (most + weighted_abs_sum (row_of c.plan_rows i) (plan_magnitudes c))
plan_made c state plan e i a z most r l p m room =
    let row = row_of c.plan_rows i in
    let n = length c.offsets in
    let size = λ (j : ℕ). unsigned_abs (plan_factor c i j) * entry_top c j in
    let amounts : amount n size ≤ weighted_abs_sum row (plan_magnitudes c) = omega (
      arith,
      weighted_is n row (plan_magnitudes c) (plan_row_long c state i r l) (length-plan_reach c),
      amount_mono n size (λ j. unsigned_abs (at row j) * entry_top c j) (λ j k. mul-le _ _ _ _ (abs-floor_le (at row j) (2 ^ row_bits c i)) (le_refl (entry_top c j))),
    ) in
    makes_same e _ _ _ _ _
    (makes_products e a (plan_factor c i) (entry_top c) (variable Entry) n z most m (λ j k. rw (p.entries j k) (p.within.each j)) (omega (arith, amounts, room)))
    (ap (λ (y : ℤ). z +ℤ y) (total_same n (λ j. plan_factor c i j *ℤ e Entry j) (λ j. plan_factor c i j *ℤ at plan j) (λ j k. ap (λ (y : ℤ). plan_factor c i j *ℤ y) (p.entries j k))))
    (omega (arith, amounts))

pub gradient_made : (c : Numbers) (state plan : List ℤ) (e : Environment) (i : ℕ) → Ready c state → i < length c.bounds → IsPlanned c state plan e →
    Makes e (plus_plan c i (Constant (pos 0))) (lowered_dot c plan i) (weighted_abs_sum (row_of c.plan_rows i) (plan_magnitudes c))
gradient_made c state plan e i r l p =
    makes_same e _ _ _ _ _ (plan_made c state plan e i (Constant (pos 0)) (pos 0) 0 r l p (makes_constant e (pos 0) 0 (omega arith) (omega arith)) (omega (arith, r.fit.rows i l)))
    (omega (arith, ints)) (omega arith)

base_made : (c : Numbers) (state plan : List ℤ) (e : Environment) (i : ℕ) → Ready c state → i < length c.bounds → IsPlanned c state plan e →
    Makes e (lowered_base c i) (floor_of (row_base c state i) (2 ^ row_bits c i)) (row_base_top c i)
base_made c state plan e i r l p =
    lowered_made e (variable RowBase i) (row_base c state i) (row_base_top c i) (row_bits c i)
    (makes_value e (variable RowBase i) (row_base c state i) (row_base_top c i) (p.bases i l) (row_base_le c state i r l) (omega (arith, r.fit.rows i l)))
    (omega (arith, row_bits_le c i, r.short))

pub row_order : (c : Numbers) (state plan : List ℤ) (i : ℕ) → row_base c state i +ℤ list_dot (row_of c.plan_rows i) plan ≡ row_sum c state plan i
row_order c state plan i = order (at c.bounds i *ℤ pos (2 ^ c.fraction_bits)) (list_dot (row_of c.state_rows i) state) (list_dot (row_of c.plan_rows i) plan)
  where
    order : (bound own planned : ℤ) → (neg_ℤ bound +ℤ own) +ℤ planned ≡ planned +ℤ own -ℤ bound
    order bound own planned = omega (arith, ints)

-- the row's sum without that power of two
abbrev pub lowered_sum : Numbers → (state plan : List ℤ) → ℕ → ℤ
lowered_sum c state plan i = floor_of (row_sum c state plan i) (2 ^ row_bits c i)

sum_lowered : (c : Numbers) (state plan : List ℤ) (e : Environment) (i : ℕ) → Ready c state → i < length c.bounds → IsPlanned c state plan e →
    floor_of (row_base c state i) (2 ^ row_bits c i) +ℤ lowered_dot c plan i ≡ lowered_sum c state plan i
sum_lowered c state plan e i r l p =
    floor_more (row_base c state i) (lowered_dot c plan i) (2 ^ row_bits c i) (pow_pos (row_bits c i)) ∙
    ap (λ (z : ℤ). floor_of z (2 ^ row_bits c i))
    (ap (λ (y : ℤ). row_base c state i +ℤ y) (dot_lowered c plan i (plan_row_long c state i r l) (p.within.long ∙ length-plan_reach c)) ∙ row_order c state plan i)

-- of the first row of a pair, of the second and of any other
first_made : (c : Numbers) (state plan : List ℤ) (e : Environment) (i : ℕ) → Ready c state → i < length c.bounds → IsPlanned c state plan e →
    e Gradient i ≡ lowered_dot c plan i → Makes e (Plus (lowered_base c i) (Value (variable Gradient i))) (lowered_sum c state plan i) (row_absolute_sum c i)
first_made c state plan e i r l p shared =
    let weight = weighted_abs_sum (row_of c.plan_rows i) (plan_magnitudes c) in
    makes_same e _ _ _ _ _
    (makes_plus e _ _ _ _ (row_base_top c i) weight (base_made c state plan e i r l p)
    (makes_value e (variable Gradient i) (lowered_dot c plan i) weight shared (gradient_made c state plan e i r l p).within (omega (arith, r.fit.rows i l)))
    (omega (arith, r.fit.rows i l)))
    (sum_lowered c state plan e i r l p) (omega arith)

-- a pair's rows share their power of two, and their factors without it are negated, too
factor_turned : (c : Numbers) (i k j : ℕ) → IsPair c i k → j < length c.offsets → plan_factor c k j ≡ neg_ℤ (plan_factor c i j)
factor_turned c i k j pair l =
    let one = row_of c.plan_rows i in
    let other = row_of c.plan_rows k in
    let same : row_bits c k ≡ row_bits c i = same_bits other one (length c.offsets) c.fraction_bits (λ m h. ap unsigned_abs (pair.row m h) ∙ abs-neg (at one m)) in
    ap (λ (n : ℕ). floor_of (at other j) (2 ^ n)) same ∙ ap (λ (x : ℤ). floor_of x (2 ^ row_bits c i)) (pair.row j l) ∙
    negated_floor (at one j) (2 ^ row_bits c i) (pow_pos (row_bits c i)) (bits_of_row c i j l)

dot_turned : (c : Numbers) (plan : List ℤ) (i k : ℕ) → IsPair c i k → lowered_dot c plan k ≡ neg_ℤ (lowered_dot c plan i)
dot_turned c plan i k pair =
    let n = length c.offsets in
    total_same n (λ j. plan_factor c k j *ℤ at plan j) (λ j. neg_ℤ (plan_factor c i j *ℤ at plan j))
    (λ j l. ap (λ (x : ℤ). x *ℤ at plan j) (factor_turned c i k j pair l) ∙ neg-mul_z (plan_factor c i j) (at plan j)) ∙
    total_neg n (λ j. plan_factor c i j *ℤ at plan j)

second_made : (c : Numbers) (state plan : List ℤ) (e : Environment) (i k : ℕ) → Ready c state → IsPlanned c state plan e → IsPair c i k →
    e Gradient i ≡ lowered_dot c plan i → Makes e (Minus (lowered_base c k) (Value (variable Gradient i))) (lowered_sum c state plan k) (row_absolute_sum c k)
second_made c state plan e i k r p pair shared =
    let l = pair.inside in
    let weight = weighted_abs_sum (row_of c.plan_rows k) (plan_magnitudes c) in
    let g = lowered_dot c plan i in
    let turned = dot_turned c plan i k pair in
    let size : unsigned_abs g ≤ weight = omega (arith, ap unsigned_abs turned, abs-neg g, (gradient_made c state plan e k r l p).within) in
    let base = base_made c state plan e k r l p in
    let low = floor_of (row_base c state k) (2 ^ row_bits c k) in
    makes_same e _ _ _ _ _
    (makes_minus e _ _ _ _ (row_base_top c k) weight (row_absolute_sum c k) base
    (makes_value e (variable Gradient i) g weight shared size (omega (arith, r.fit.rows k l)))
    (omega (arith, abs-sub_le low g, size, base.within)) (omega (arith, r.fit.rows k l)))
    (less low g (lowered_dot c plan k) turned ∙ sum_lowered c state plan e k r l p) (omega arith)
  where
    less : (x g h : ℤ) → h ≡ neg_ℤ g → x -ℤ g ≡ x +ℤ h
    less x g h e = omega (arith, ints, e)

alone_made : (c : Numbers) (state plan : List ℤ) (e : Environment) (i : ℕ) → Ready c state → i < length c.bounds → IsPlanned c state plan e →
    Makes e (plus_plan c i (lowered_base c i)) (lowered_sum c state plan i) (row_absolute_sum c i)
alone_made c state plan e i r l p =
    makes_same e _ _ _ _ _ (plan_made c state plan e i _ _ (row_base_top c i) r l p (base_made c state plan e i r l p) (omega (arith, r.fit.rows i l)))
    (sum_lowered c state plan e i r l p) (omega arith)

-- the products that a pair shares, in the first rows so far
abbrev pub AreShared : Numbers → List ℤ → Environment → ℕ → Type 0
AreShared c plan e n = (k : ℕ) → k < n → is_first c k ≡ true → e Gradient k ≡ lowered_dot c plan k

later_made : (c : Numbers) (state plan : List ℤ) (e : Environment) (i : ℕ) → Ready c state → i < length c.bounds → IsPlanned c state plan e → AreShared c plan e (suc i) → is_second c i ≡ true →
    Makes e (Minus (lowered_base c i) (Value (variable Gradient (partner c i)))) (lowered_sum c state plan i) (row_absolute_sum c i)
later_made c state plan e i r l p shared t =
    let later = later_there c i l t in second_made c state plan e (partner c i) i r p later.pair (shared (partner c i) (omega (arith, later.pair.order)) later.first)

pub row_made : (c : Numbers) (state plan : List ℤ) (e : Environment) (i : ℕ) → Ready c state → i < length c.bounds → IsPlanned c state plan e → AreShared c plan e (suc i) →
    Makes e (row_expression c i) (lowered_sum c state plan i) (row_absolute_sum c i)
row_made c state plan e i r l p shared =
    let M = λ (a : Expression). Makes e a (lowered_sum c state plan i) (row_absolute_sum c i) in
    cond_both (is_first c i) _ _ M (λ t. first_made c state plan e i r l p (shared i (omega arith) t))
    (λ f. cond_both (is_second c i) _ _ M (λ t. later_made c state plan e i r l p shared t) (λ g. alone_made c state plan e i r l p))

-- it fits the type that its variable has
pub row_sum_le : (c : Numbers) (state plan : List ℤ) (i : ℕ) → AreWithin state (state_magnitudes c) → AreWithin plan (plan_magnitudes c) →
    unsigned_abs (row_sum c state plan i) ≤ row_absolute_sum c i
row_sum_le c state plan i within w =
    omega (arith, abs-row_le (list_dot (row_of c.plan_rows i) plan) (list_dot (row_of c.state_rows i) state) (at c.bounds i) c.fraction_bits, row_le c state plan i within w)

pub row_within : (c : Numbers) (state plan : List ℤ) (i : ℕ) → Ready c state → AreWithin plan (plan_magnitudes c) → unsigned_abs (lowered_sum c state plan i) ≤ row_top c i
row_within c state plan i r w =
    let f = c.fraction_bits in
    let q = row_bits c i in
    let z = row_sum c state plan i in
    let most = ceil_div (row_absolute_sum c i) (2 ^ f) in
    let split : 2 ^ f ≡ 2 ^ q * 2 ^ (f - q) = power_split f q (row_bits_le c i) in
    let room : unsigned_abs z ≤ 2 ^ q * (2 ^ (f - q) * most) =
    omega (arith, row_sum_le c state plan i r.within w, le-mul-ceil_div (row_absolute_sum c i) (2 ^ f) (pow_pos f), ap (λ (n : ℕ). n * most) split, mul_assoc (2 ^ q) (2 ^ (f - q)) most) in
    omega (
      arith,
      abs-floor_le_ceil z (2 ^ q) (pow_pos q),
      ceil_div-le (unsigned_abs z) (2 ^ q) (2 ^ (f - q) * most) (pow_pos q) room,
      mul-le (2 ^ (f - q)) most (2 ^ (f - q)) (next_magnitude c i) (le_refl (2 ^ (f - q))) (omega arith),
      mul_comm (2 ^ (f - q)) (next_magnitude c i),
    )

-- ---- a multiplier before it is clamped
-- what it is moved by
pub residual_made : (c : Numbers) (state plan : List ℤ) (e : Environment) (i : ℕ) → Ready c state → i < length c.bounds → AreWithin plan (plan_magnitudes c) →
    unsigned_abs (lowered_sum c state plan i) ≤ row_absolute_sum c i → e RowSum i ≡ lowered_sum c state plan i →
    Makes e (lowered_value (variable RowSum i) (c.fraction_bits - row_bits c i)) (floor_of (row_sum c state plan i) (2 ^ c.fraction_bits)) (ceil_div (row_absolute_sum c i) (2 ^ c.fraction_bits))
residual_made c state plan e i r l w small sum =
    let f = c.fraction_bits in
    let q = row_bits c i in
    let z = row_sum c state plan i in
    let shifted = lowered_made e (variable RowSum i) (lowered_sum c state plan i) (row_absolute_sum c i) (f - q)
    (makes_value e (variable RowSum i) (lowered_sum c state plan i) (row_absolute_sum c i) sum small (omega (arith, r.fit.rows i l))) (omega (arith, r.short)) in
    let twice : floor_of (lowered_sum c state plan i) (2 ^ (f - q)) ≡ floor_of z (2 ^ f) =
    floor_twice z (2 ^ q) (2 ^ (f - q)) ∙ ap (floor_of z) (sym (power_split f q (row_bits_le c i))) in
    let lowered : unsigned_abs (floor_of z (2 ^ f)) ≤ ceil_div (row_absolute_sum c i) (2 ^ f) =
    omega (arith, abs-floor_le_ceil z (2 ^ f) (pow_pos f), ceil_div_mono (unsigned_abs z) (row_absolute_sum c i) (2 ^ f) (pow_pos f) (row_sum_le c state plan i r.within w)) in
    record { defined = shifted.defined; is = shifted.is ∙ twice; within = lowered }

pub moved_made : (c : Numbers) (state plan multipliers : List ℤ) (e : Environment) (i : ℕ) → Ready c state → i < length c.bounds → AreUpToTops c multipliers → AreWithin plan (plan_magnitudes c) →
    unsigned_abs (lowered_sum c state plan i) ≤ row_absolute_sum c i → e RowSum i ≡ lowered_sum c state plan i → e Multiplier i ≡ at multipliers i →
    Makes e (moved_expression c i) (at multipliers i +ℤ floor_of (row_sum c state plan i) (2 ^ c.fraction_bits)) (next_magnitude c i)
moved_made c state plan multipliers e i r l tops w small sum old =
    let clamp = unsigned_abs c.clamp in
    makes_plus e _ _ _ _ clamp (ceil_div (row_absolute_sum c i) (2 ^ c.fraction_bits))
    (makes_value e (variable Multiplier i) (at multipliers i) clamp old (omega (arith, tops.each i, top_le_clamp c i)) (omega (arith, r.fit.next i l)))
    (residual_made c state plan e i r l w small sum) (omega (arith, r.fit.next i l))
