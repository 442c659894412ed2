-- The means of a step of the accelerated machine, by the reciprocal of their divisor where both are short.
use Rattle.std.proofs.Common.{◌≡◌, ℕ, zero, suc, ◌+◌, ◌-◌, ◌*◌, ◌/◌, ◌^◌, ◌<◌, ◌≤◌, if◌then◌else◌, true, ltb, ℤ, pos, ◌+ℤ◌, ◌-ℤ◌, ◌*ℤ◌, ◌≤ℤ◌, List, [], ◌∷◌, length, map, unsigned_abs, refl, sym, ap, subst, ◌∙◌, arith, le_refl, mul-pos, inl, inr}
use Rattle.std.specs.List.{range_with_len}
use Rattle.std.proofs.Math.Nat.{pow-succ'}
use Rattle.std.proofs.Math.Pow.{pow_mono}
use Rattle.std.proofs.lemmas.Int.{ints, unsigned_abs-mul}
use Rattle.std.proofs.lemmas.Nat.{mul-le, pow_pos}
use Rattle.std.proofs.lemmas.Bool.{cases_lt, cond_both, both_ways, and_parts, ltb-true}
use Rattle.integer_algebra.specs.Division.{floor_of}
use Rattle.integer_algebra.specs.Sums.{at}
use Rattle.qp_model.specs.machine.Controller.{Numbers}
use Rattle.qp_model.specs.machine.ValuesMet.{FitsWidth}
use Rattle.qp_model.proofs.MagnitudeLaws.{top_le_clamp}
use Rattle.overflow_check.specs.FastMachine.{FastIterate, step_weight, all_weights, mean_divisor, fast_top, mean_at}
use Rattle.overflow_check.specs.FastController.{moved_magnitude, reached_magnitude, fast_sum_magnitude}
use Rattle.overflow_check.proofs.ValuesMet.{fits_width}
use Rattle.fast_machine.specs.FastReady.{IsFastReady}
use Rattle.fast_machine.proofs.WeightSums.{more_weights, weight_sum_law}
use Rattle.fast_machine.proofs.FastRuns.{top_le, mean_up, mean_le}
use Rattle.fast_machine.proofs.FastSums.{weights_with, tops_within}
use Rattle.c_language.specs.Syntax.{Family, variable, bits_of, Expression, Statement}
use Rattle.c_language.specs.Syntax.Family.{Multiplier, Sum, Own, Reached, Weight, Divisor, Shift, Power, Doubling, Reciprocal, Numerator, Head, Rest}
use Rattle.c_language.specs.Syntax.Expression.{Constant, Value, Plus, Minus, Times, Shifted}
use Rattle.c_language.specs.Syntax.Statement.{Assign}
use Rattle.c_language.specs.Meaning.{Environment, with_value}
use Rattle.c_program.specs.Of.{multiplier_top, kind_for, has_short_divisor, is_quick, is_twice_quick}
use Rattle.c_program.specs.FastOf.{fast_sizes, weight_value, weighted, divisor_statement, doubling_expression, scale_lines, scale_statements, numerator_expression, mean_expression, near_expression, rest_expression, quick_mean_statements, twice_mean_statements, mean_statements}
use Rattle.c_language.proofs.Runs.{Runs, runs_none, held_new}
use Rattle.c_program.proofs.Terms.{Makes, fits64, kind_fits, makes_same, makes_constant, makes_value, makes_plus, makes_minus, makes_multiplied, makes_over, makes_shifted, makes_shifted_by, sign_up, sign_down}
use Rattle.c_program.proofs.Reciprocal.{quotient_is, at_most_quotient, short_reciprocal, IsNear, near_is, left_over, little_left, nearest, first_round, with_rest, rest_small}
use Rattle.c_program.proofs.Before.{OfBases, held_bases, kinds, runs_next, runs_one, put, before_kept}
use Rattle.c_program.proofs.Planning.{made_at}

-- ---- what a step needs beside its plan's and its rows' sums
pub record FastStepFits (c : Numbers) (k : ℕ) (made : FastIterate) : Type 0 where
  pub nonneg : pos 0 ≤ℤ c.clamp
  pub moved : (i : ℕ) → i < length c.bounds → moved_magnitude c i < 2 ^ 63
  pub sums : (j : ℕ) → j < length c.offsets → fast_sum_magnitude c j < 2 ^ 63
  pub reached : reached_magnitude c < 2 ^ 63
  pub inside : k < c.steps
  pub few : c.steps < 2 ^ 16
  pub before : IsFastReady c k made

-- the shift that lowers a divisor to two bits, or a divisor of at most so many times its power of two, with what the program holds of both
pub record IsScale (b most : ℕ) (shift power : ℤ) : Type 0 where
  pub bits : ℕ
  pub shifts : shift ≡ pos bits
  pub powers : power ≡ pos (2 ^ 32 * 2 ^ bits)
  pub low : 2 * 2 ^ bits ≤ b
  pub high : b < most * 2 ^ bits

abbrev pub ScaledTo : Numbers → (b most : ℕ) → Environment → Type 0
ScaledTo c b most e = has_short_divisor c ≡ true → IsScale b most (e Shift 0) (e Power 0)

-- what the state adds, and what the machine has made before step k
pub record FastHolds (c : Numbers) (B : OfBases) (k : ℕ) (made : FastIterate) (e : Environment) : Type 0 where
  pub bases : held_bases B e
  pub own : (i : ℕ) → i < length c.bounds → e Own i ≡ at made.multipliers i
  pub reached : (i : ℕ) → i < length c.bounds → e Reached i ≡ at made.reached i
  pub sums : (j : ℕ) → j < length c.offsets → e Sum j ≡ at made.sums j
  pub weight : e Weight 0 ≡ pos (step_weight k)
  pub scale : ScaledTo c (mean_divisor k) 8 e

-- ---- numbers times the step's weight
pub weight_made : (e : Environment) (k : ℕ) → k < 2 ^ 16 → e Weight 0 ≡ pos (step_weight k) → Makes e weight_value (pos (step_weight k)) (step_weight k)
weight_made e k l is = makes_value e (variable Weight 0) (pos (step_weight k)) (step_weight k) is (le_refl (step_weight k)) (omega (arith, l))

pub weighted_made : (e : Environment) (k : ℕ) (a : Expression) (z : ℤ) (m most : ℕ) → k < 2 ^ 16 → e Weight 0 ≡ pos (step_weight k) → Makes e a z m → step_weight k * m ≤ most → most < 2 ^ 63 →
    Makes e (weighted a) (pos (step_weight k) *ℤ z) most
weighted_made e k a z m most l is h le room =
    makes_multiplied e weight_value a (pos (step_weight k)) z (step_weight k) m most (weight_made e k l is) h
    (omega (arith, unsigned_abs-mul (pos (step_weight k)) z, mul-le (step_weight k) (unsigned_abs z) (step_weight k) m (le_refl (step_weight k)) h.within, le)) room

-- ---- the means
abbrev pub used_of : Numbers → ℕ → FastIterate → List ℤ
used_of c k made = map (mean_at k made.multipliers made.reached) (range_with_len 0 (length c.bounds))

pub used_at : (c : Numbers) (k : ℕ) (made : FastIterate) (i : ℕ) → i < length c.bounds → mean_at k made.multipliers made.reached i ≡ at (used_of c k made) i
used_at c k made i l = made_at (mean_at k made.multipliers made.reached) (length c.bounds) i l

pub parts_sum : (u a b t : ℕ) → u ≡ a + b → a * t + b * t ≡ u * t
parts_sum u a b t e = rw e (omega arith)

-- what is reached with so many times a number added
pub reached_le : (c : Numbers) (k i : ℕ) → k < c.steps → all_weights k * unsigned_abs (fast_top c i) + step_weight k * unsigned_abs (fast_top c i) ≤ reached_magnitude c
reached_le c k i l = omega (arith, parts_sum (all_weights (suc k)) (all_weights k) (step_weight k) (unsigned_abs (fast_top c i)) (more_weights k), tops_within c (all_weights (suc k)) i (weights_with k c.steps l))

-- so many means are new, with what the program holds of the divisor's scale
pub record Means (c : Numbers) (B : OfBases) (k : ℕ) (made : FastIterate) (S : Environment → Type 0) (d : ℕ) (e : Environment) : Type 0 where
  pub bases : held_bases B e
  pub own : (i : ℕ) → i < length c.bounds → e Own i ≡ at made.multipliers i
  pub reached : (i : ℕ) → i < length c.bounds → e Reached i ≡ at made.reached i
  pub sums : (j : ℕ) → j < length c.offsets → e Sum j ≡ at made.sums j
  pub weight : e Weight 0 ≡ pos (step_weight k)
  pub divisor : e Divisor 0 ≡ pos (mean_divisor k)
  pub scale : S e
  pub means : (i : ℕ) → i < d → e Multiplier i ≡ at (used_of c k made) i

divisor_small : (n : ℕ) → n < 2 ^ 16 → mean_divisor n < 2 ^ 63
divisor_small n h = omega (arith, mul-le (n + 1) (n + 4) (2 ^ 16) (2 ^ 17) (omega (arith, h)) (omega (arith, h)))

divisor_le : (k n : ℕ) → k ≤ n → mean_divisor k ≤ mean_divisor n
divisor_le k n h = mul-le (k + 1) (k + 4) (n + 1) (n + 4) (omega (arith, h)) (omega (arith, h))

some_divisor : (k : ℕ) → 0 < mean_divisor k
some_divisor k = mul-pos (let a : 0 < k + 1 = omega arith in a) (let b : 0 < k + 4 = omega arith in b)

divisor_made : (e : Environment) (k : ℕ) → k < 2 ^ 16 → e Weight 0 ≡ pos (step_weight k) → Makes e (Times (Minus weight_value (Constant (pos 1))) (Plus weight_value (Constant (pos 2)))) (pos (mean_divisor k)) (mean_divisor k)
divisor_made e k l is =
    let w = weight_made e k l is in
    let less = makes_minus e weight_value (Constant (pos 1)) (pos (k + 2)) (pos 1) (k + 2) 1 (k + 1) w (makes_constant e (pos 1) 1 (omega arith) (omega arith)) (omega (arith, ints)) (omega (arith, l)) in
    let more = makes_plus e weight_value (Constant (pos 2)) (pos (k + 2)) (pos 2) (k + 2) 2 w (makes_constant e (pos 2) 2 (omega arith) (omega arith)) (omega (arith, l)) in
    makes_multiplied e _ _ (pos (k + 1)) (pos (k + 4)) (k + 1) (k + 4) (mean_divisor k)
    (makes_same e _ _ _ (k + 1) (k + 1) less (omega (arith, ints)) (omega arith)) (makes_same e _ _ _ (k + 2 + 2) (k + 4) more (omega (arith, ints)) (omega arith))
    (le_refl (mean_divisor k)) (divisor_small k l)

pub divisor_runs : (c : Numbers) (B : OfBases) (k : ℕ) (made : FastIterate) (e : Environment) → FastStepFits c k made → FastHolds c B k made e →
    Runs (kinds c (fast_sizes c)) e (divisor_statement ∷ []) (Means c B k made (ScaledTo c (mean_divisor k) 8) 0)
divisor_runs c B k made e r h =
    let m = divisor_made e k (omega (arith, r.inside, r.few)) h.weight in
    runs_one (kinds c (fast_sizes c)) e divisor_statement (pos (mean_divisor k)) (Means c B k made (ScaledTo c (mean_divisor k) 8) 0) m.defined m.is
    (kind_fits (mean_divisor c.steps) (pos (mean_divisor k)) (divisor_le k c.steps (omega (arith, r.inside))) (divisor_small c.steps r.few))
    (record {
      bases = h.bases;
      own = h.own;
      reached = h.reached;
      sums = h.sums;
      weight = h.weight;
      divisor = refl;
      scale = h.scale;
      means = λ i l. absurd (omega (arith, l));
    })

-- ---- the divisor's scale
-- with its reciprocal
abbrev pub Reciprocated : Numbers → ℕ → Environment → Type 0
Reciprocated c b e = has_short_divisor c ≡ true → IsScale b 4 (e Shift 0) (e Power 0) × (e Reciprocal 0 ≡ floor_of (e Power 0 -ℤ pos 1) b)

reciprocal_is : (b x : ℕ) → 0 < x → floor_of (pos (2 ^ 32 * x) -ℤ pos 1) b ≡ pos ((2 ^ 32 * x - 1) / b)
reciprocal_is b x some = ap (λ (z : ℤ). floor_of z b) (let e : pos (2 ^ 32 * x) -ℤ pos 1 ≡ pos (2 ^ 32 * x - 1) = omega (arith, ints, some) in e)

reciprocal_small : (b x : ℕ) → 0 < x → 2 * x ≤ b → unsigned_abs (floor_of (pos (2 ^ 32 * x) -ℤ pos 1) b) < 2 ^ 31
reciprocal_small b x some low =
    subst (λ (z : ℤ). unsigned_abs z < 2 ^ 31) (sym (reciprocal_is b x some))
    (short_reciprocal b x ((2 ^ 32 * x - 1) / b) low (omega (arith, some, (quotient_is (2 ^ 32 * x - 1) b (omega (arith, some, low))).low)))

-- 1 where the divisor reached the next power of two, and else 0
doubling_made : (e : Environment) (b x : ℕ) → b < 2 ^ 31 → 2 * x ≤ b → e Divisor 0 ≡ pos b → e Power 0 ≡ pos (2 ^ 32 * x) →
    Makes e doubling_expression (pos 1 +ℤ floor_of (pos b *ℤ pos (2 ^ 30) -ℤ pos (2 ^ 32 * x)) (2 ^ 63)) (1 + 2 ^ 62)
doubling_made e b x short low divisor power =
    let scaled = makes_multiplied e _ _ (pos b) (pos (2 ^ 30)) b (2 ^ 30) (2 ^ 62) (makes_value e (variable Divisor 0) (pos b) b divisor (le_refl b) (omega (arith, short)))
    (makes_constant e (pos (2 ^ 30)) (2 ^ 30) (le_refl (2 ^ 30)) (omega arith)) (omega (arith, short)) (omega arith) in
    let old = makes_value e (variable Power 0) (pos (2 ^ 32 * x)) (2 ^ 62) power (omega (arith, short, low)) (omega arith) in
    makes_plus e _ _ (pos 1) _ 1 (2 ^ 62) (makes_constant e (pos 1) 1 (omega arith) (omega arith))
    (makes_shifted e _ _ (2 ^ 62) 63 (makes_minus e _ _ (pos b *ℤ pos (2 ^ 30)) (pos (2 ^ 32 * x)) (2 ^ 62) (2 ^ 62) (2 ^ 62) scaled old (omega (arith, ints, short, low)) (omega arith)) (omega arith)) (omega arith)

not_doubled : (b x : ℕ) → b < 2 ^ 31 → 2 * x ≤ b → b < 4 * x → pos 1 +ℤ floor_of (pos b *ℤ pos (2 ^ 30) -ℤ pos (2 ^ 32 * x)) (2 ^ 63) ≡ pos 0
not_doubled b x short low less = ap (λ (y : ℤ). pos 1 +ℤ y) (sign_down (pos b *ℤ pos (2 ^ 30) -ℤ pos (2 ^ 32 * x)) (2 ^ 63) (omega (arith, ints, less)) (omega (arith, ints, short, low)))

doubled : (b x : ℕ) → b < 2 ^ 31 → 4 * x ≤ b → pos 1 +ℤ floor_of (pos b *ℤ pos (2 ^ 30) -ℤ pos (2 ^ 32 * x)) (2 ^ 63) ≡ pos 1
doubled b x short more = ap (λ (y : ℤ). pos 1 +ℤ y) (sign_up (pos b *ℤ pos (2 ^ 30) -ℤ pos (2 ^ 32 * x)) (2 ^ 63) (omega (arith, ints, more)) (omega (arith, ints, short)))

few_bits : (bits : ℕ) → 2 ^ bits < 2 ^ 30 → bits < 30
few_bits bits h = elim (cases_lt bits 30) [
  | inl less ↦ less
  | inr more ↦ (let p : 2 ^ 30 ≤ 2 ^ bits = pow_mono {i = 30} {j = bits} more in absurd (omega (arith, h, p)))
]

-- the shift and the power, so many times doubled
scale_by : (c : Numbers) (B : OfBases) (k : ℕ) (made : FastIterate) (e : Environment) (bits d next : ℕ) → Means c B k made (ScaledTo c (mean_divisor k) 8) 0 e → mean_divisor k < 2 ^ 31 →
    e Shift 0 ≡ pos bits → e Power 0 ≡ pos (2 ^ 32 * 2 ^ bits) → 2 * 2 ^ bits ≤ mean_divisor k → d ≤ 1 →
    pos 1 +ℤ floor_of (pos (mean_divisor k) *ℤ pos (2 ^ 30) -ℤ pos (2 ^ 32 * 2 ^ bits)) (2 ^ 63) ≡ pos d → bits + d ≡ next → 2 ^ 32 * 2 ^ bits + d * (2 ^ 32 * 2 ^ bits) ≡ 2 ^ 32 * 2 ^ next →
    2 * 2 ^ next ≤ mean_divisor k → mean_divisor k < 4 * 2 ^ next → Runs (kinds c (fast_sizes c)) e scale_lines (Means c B k made (Reciprocated c (mean_divisor k)) 0)
scale_by c B k made e bits d next s short shift power least few is same twice low high =
    let b = mean_divisor k in
    let p = 2 ^ 32 * 2 ^ bits in
    let n = 2 ^ 32 * 2 ^ next in
    let some : 0 < 2 ^ next = pow_pos next in
    let kind = kinds c (fast_sizes c) in
    let P = Means c B k made (Reciprocated c b) 0 in
    let more : d * p ≤ p = omega (arith, mul-le d p 1 p few (le_refl p)) in
    let small : bits < 30 = few_bits bits (omega (arith, least, short)) in
    let m1 = doubling_made e b (2 ^ bits) short least s.divisor power in
    let e1 = with_value e (variable Doubling 0) (pos d) in
    let m2 = makes_plus e1 (Value (variable Shift 0)) (Value (variable Doubling 0)) (pos bits) (pos d) bits d
    (makes_value e1 (variable Shift 0) (pos bits) bits shift (le_refl bits) (omega (arith, small))) (makes_value e1 (variable Doubling 0) (pos d) d refl (le_refl d) (omega (arith, few))) (omega (arith, small, few)) in
    let e2 = with_value e1 (variable Shift 0) (pos next) in
    let old = makes_value e2 (variable Power 0) (pos p) p power (le_refl p) (omega (arith, least, short)) in
    let m3 = makes_plus e2 _ _ (pos p) (pos d *ℤ pos p) p p old
    (makes_multiplied e2 (Value (variable Doubling 0)) _ (pos d) (pos p) d p p (makes_value e2 (variable Doubling 0) (pos d) d refl (le_refl d) (omega (arith, few))) old more (omega (arith, least, short))) (omega (arith, least, short)) in
    let e3 = with_value e2 (variable Power 0) (pos n) in
    let less = makes_minus e3 _ _ (pos n) (pos 1) n 1 n (makes_value e3 (variable Power 0) (pos n) n refl (le_refl n) (omega (arith, low, short))) (makes_constant e3 (pos 1) 1 (omega arith) (omega arith))
    (omega (arith, ints, some)) (omega (arith, low, short)) in
    let m4 = makes_over e3 _ (variable Divisor 0) (pos n -ℤ pos 1) n b less s.divisor (some_divisor k) (omega (arith, short)) (omega (arith, ints, some)) in
    runs_next kind e _ _ (pos d) P m1.defined (m1.is ∙ is) (fits_width 32 (pos d) (omega (arith, few)))
    (runs_next kind e1 _ _ (pos next) P m2.defined (m2.is ∙ ap pos same) (fits_width 32 (pos next) (omega (arith, small, few, same)))
    (runs_next kind e2 _ _ (pos n) P m3.defined (m3.is ∙ ap pos twice) (fits64 (pos n) (omega (arith, low, short)))
    (runs_one kind e3 _ (floor_of (pos n -ℤ pos 1) b) P m4.defined m4.is (fits_width 32 _ (omega (arith, reciprocal_small b (2 ^ next) some low)))
    (record {
      bases = s.bases;
      own = s.own;
      reached = s.reached;
      sums = s.sums;
      weight = s.weight;
      divisor = s.divisor;
      scale = λ t. (record { bits = next; shifts = refl; powers = refl; low = low; high = high }, refl);
      means = λ i l. absurd (omega (arith, l));
    }))))

pub scale_runs : (c : Numbers) (B : OfBases) (k : ℕ) (made : FastIterate) (e : Environment) → FastStepFits c k made → Means c B k made (ScaledTo c (mean_divisor k) 8) 0 e →
    Runs (kinds c (fast_sizes c)) e (scale_statements c) (Means c B k made (Reciprocated c (mean_divisor k)) 0)
scale_runs c B k made e r s =
    let kind = kinds c (fast_sizes c) in
    let b = mean_divisor k in
    let P = Means c B k made (Reciprocated c b) 0 in
    cond_both (has_short_divisor c) scale_lines [] (λ ss. Runs kind e ss P)
    (λ t.
    let g = s.scale t in
    let x = 2 ^ g.bits in
    let short : b < 2 ^ 31 = omega (arith, divisor_le k c.steps (omega (arith, r.inside)), ltb-true (mean_divisor c.steps) (2 ^ 31) t) in
    elim (cases_lt b (4 * x)) [
      | inl less ↦ scale_by c B k made e g.bits 0 g.bits s short g.shifts g.powers g.low (omega arith) (not_doubled b x short g.low less) (omega arith) (omega arith) g.low less
      | inr more ↦ (let double = pow-succ' 2 g.bits in
          scale_by c B k made e g.bits 1 (suc g.bits) s short g.shifts g.powers g.low (omega arith) (doubled b x short more) (omega arith) (omega (arith, double)) (omega (arith, double, more)) (omega (arith, double, g.high)))
    ])
    (λ f. runs_none kind e P (record {
      bases = s.bases;
      own = s.own;
      reached = s.reached;
      sums = s.sums;
      weight = s.weight;
      divisor = s.divisor;
      scale = λ t. absurd (both_ways (has_short_divisor c) f t);
      means = λ i l. absurd (omega (arith, l));
    }))

-- what lowers a divisor lowers the next one to three bits at most
pub next_scale : (k : ℕ) (shift power : ℤ) → IsScale (mean_divisor k) 4 shift power → IsScale (mean_divisor (suc k)) 8 shift power
next_scale k shift power g = record {
  bits = g.bits;
  shifts = g.shifts;
  powers = g.powers;
  low = omega (arith, g.low, divisor_le k (suc k) (omega arith));
  high = grows k (2 ^ g.bits) g.high;
}
  where
    grows : (k x : ℕ) → mean_divisor k < 4 * x → mean_divisor (suc k) < 8 * x
    grows zero x h = omega (arith, h)
    grows (suc k) x h = omega (arith, h)

-- ---- one mean
abbrev mean_sum : ℕ → FastIterate → ℕ → ℤ
mean_sum k made i = at made.reached i +ℤ pos (step_weight k) *ℤ at made.multipliers i

mean_fits : (c : Numbers) (B : OfBases) (k : ℕ) (made : FastIterate) (i : ℕ) → FastStepFits c k made → i < length c.bounds → (z : ℤ) → unsigned_abs z ≤ multiplier_top c i →
    FitsWidth (bits_of (kind_for (multiplier_top c i))) z
mean_fits c B k made i r l z h = kind_fits (multiplier_top c i) z h (omega (arith, top_le_clamp c i, r.moved i l))

-- what is divided for it
numerator_made : (c : Numbers) (B : OfBases) (k : ℕ) (made : FastIterate) (i : ℕ) (e : Environment) → FastStepFits c k made → i < length c.bounds →
    Means c B k made (Reciprocated c (mean_divisor k)) i e → Makes e (numerator_expression i) (mean_sum k made i) (all_weights k * unsigned_abs (fast_top c i) + step_weight k * unsigned_abs (fast_top c i))
numerator_made c B k made i e r l s =
    let t = unsigned_abs (fast_top c i) in
    let rows = r.before.rows in
    let room : all_weights k * t + step_weight k * t < 2 ^ 63 = omega (arith, reached_le c k i r.inside, r.reached) in
    let old = makes_value e (variable Reached i) (at made.reached i) (all_weights k * t) (s.reached i l) (rows.summed i l).high (omega (arith, room)) in
    let own = makes_value e (variable Own i) (at made.multipliers i) t (s.own i l) (rows.own i l).high (omega (arith, top_le c i, r.moved i l)) in
    makes_plus e _ _ _ _ (all_weights k * t) (step_weight k * t) old
    (weighted_made e k _ _ t (step_weight k * t) (omega (arith, r.inside, r.few)) s.weight own (le_refl (step_weight k * t)) (omega (arith, room))) room

divided_runs : (c : Numbers) (B : OfBases) (k : ℕ) (made : FastIterate) (i : ℕ) (e : Environment) → FastStepFits c k made → i < length c.bounds →
    Means c B k made (Reciprocated c (mean_divisor k)) i e → Runs (kinds c (fast_sizes c)) e (Assign (variable Multiplier i) (mean_expression i) ∷ []) (Means c B k made (Reciprocated c (mean_divisor k)) (suc i))
divided_runs c B k made i e r l s =
    let rows = r.before.rows in
    let m = makes_over e _ (variable Divisor 0) _ _ (mean_divisor k) (numerator_made c B k made i e r l s) s.divisor (some_divisor k) (divisor_small k (omega (arith, r.inside, r.few)))
    (mean_up c k made.multipliers made.reached i rows l).low in
    runs_one (kinds c (fast_sizes c)) e _ (mean_at k made.multipliers made.reached i) (Means c B k made (Reciprocated c (mean_divisor k)) (suc i)) m.defined m.is
    (mean_fits c B k made i r l (mean_at k made.multipliers made.reached i) (mean_le c k made.multipliers made.reached i r.nonneg rows l))
    (record {
      bases = s.bases;
      own = s.own;
      reached = s.reached;
      sums = s.sums;
      weight = s.weight;
      divisor = s.divisor;
      scale = s.scale;
      means = put (e Multiplier) (at (used_of c k made)) i _ (used_at c k made i l) s.means;
    })

-- less than so many times the divisor, where each multiplier is less than twice as many
below : (n a t b w : ℕ) → b ≡ 2 * a → 0 < b → n ≤ a * t → t < 2 * w → n < w * b
below n a t b w e some h few = rw e (omega (arith, rw e at some, h, mul-le a (t + 1) a (2 * w) (le_refl a) (omega (arith, few))))

nonneg_is : (z : ℤ) → pos 0 ≤ℤ z → z ≡ pos (unsigned_abs z)
nonneg_is z h = omega (arith, ints, h)

-- by the reciprocal it is the quotient or one less
near_made : (e : Environment) (i n b h q : ℕ) → IsNear n b h q (h * q / 2 ^ 32) → e Head i ≡ pos h → e Reciprocal 0 ≡ pos q → Makes e (near_expression i) (pos (h * q / 2 ^ 32)) (2 ^ 30)
near_made e i n b h q near head reciprocal =
    let product : h * q ≤ 2 ^ 62 = omega (arith, mul-le h q (2 ^ 31) (2 ^ 31) (omega (arith, near.head)) (omega (arith, near.reciprocal))) in
    let m = makes_shifted e _ (pos h *ℤ pos q) (2 ^ 62) 32
    (makes_multiplied e (Value (variable Head i)) (Value (variable Reciprocal 0)) (pos h) (pos q) h q (2 ^ 62) (makes_value e (variable Head i) (pos h) h head (le_refl h) (omega (arith, near.head)))
    (makes_value e (variable Reciprocal 0) (pos q) q reciprocal (le_refl q) (omega (arith, near.reciprocal))) product (omega arith)) (omega arith) in
    record { defined = m.defined; is = m.is; within = near.small }

-- which of the two, what is left over tells
rest_made : (e : Environment) (f : Family) (i n b h q w : ℕ) → IsNear n b h q w → n < 2 ^ 63 → b < 2 ^ 31 → e Numerator i ≡ pos n → e f i ≡ pos w → e Divisor 0 ≡ pos b → Makes e (rest_expression f i) (left_over n b w) b
rest_made e f i n b h q w near large short numerator held divisor =
    let over = makes_value e (variable Divisor 0) (pos b) b divisor (le_refl b) (omega (arith, short)) in
    makes_minus e _ _ (pos n -ℤ pos w *ℤ pos b) (pos b) n b b
    (makes_minus e (Value (variable Numerator i)) _ (pos n) (pos w *ℤ pos b) n n n (makes_value e (variable Numerator i) (pos n) n numerator (le_refl n) large)
    (makes_multiplied e (Value (variable f i)) (Value (variable Divisor 0)) (pos w) (pos b) w b n (makes_value e (variable f i) (pos w) w held (le_refl w) (omega (arith, near.small))) over near.low large)
    (omega (arith, ints, near.low)) large) over (little_left n b w near.low near.high) (omega (arith, short))

exact_made : (e : Environment) (f : Family) (i n b h q w : ℕ) → IsNear n b h q w → 0 < b → b < 2 ^ 31 → e f i ≡ pos w → e Rest i ≡ left_over n b w →
    Makes e (Plus (Plus (Value (variable f i)) (Constant (pos 1))) (Shifted (Value (variable Rest i)) 31)) (floor_of (pos n) b) (w + 1 + b)
exact_made e f i n b h q w near some short held left =
    let m = makes_plus e _ _ (pos w +ℤ pos 1) (floor_of (left_over n b w) (2 ^ 31)) (w + 1) b
    (makes_plus e (Value (variable f i)) (Constant (pos 1)) (pos w) (pos 1) w 1 (makes_value e (variable f i) (pos w) w held (le_refl w) (omega (arith, near.small)))
    (makes_constant e (pos 1) 1 (omega arith) (omega arith)) (omega (arith, near.small)))
    (makes_shifted e (Value (variable Rest i)) (left_over n b w) b 31 (makes_value e (variable Rest i) (left_over n b w) b left (little_left n b w near.low near.high) (omega (arith, short))) (omega arith))
    (omega (arith, near.small, short)) in
    makes_same e _ _ (floor_of (pos n) b) (w + 1 + b) (w + 1 + b) m (nearest n b w some (omega (arith, short)) near.low near.high) (le_refl (w + 1 + b))

-- the numbers of a row that is quick within so many bits
record QuickRow (c : Numbers) (k : ℕ) (made : FastIterate) (i most : ℕ) (e : Environment) : Type 0 where
  n : ℕ
  q : ℕ
  scale : IsScale (mean_divisor k) 4 (e Shift 0) (e Power 0)
  short : mean_divisor k < 2 ^ 31
  bits : scale.bits < 64
  reciprocal : e Reciprocal 0 ≡ pos q
  is_reciprocal : q ≡ (2 ^ 32 * 2 ^ scale.bits - 1) / mean_divisor k
  numerator : mean_sum k made i ≡ pos n
  below : n < most * mean_divisor k
  large : n < 2 ^ 63
  mean : floor_of (pos n) (mean_divisor k) ≡ mean_at k made.multipliers made.reached i
  top : unsigned_abs (mean_at k made.multipliers made.reached i) ≤ multiplier_top c i

quick_row : (c : Numbers) (B : OfBases) (k : ℕ) (made : FastIterate) (i most : ℕ) (e : Environment) → FastStepFits c k made → i < length c.bounds → has_short_divisor c ≡ true →
    unsigned_abs (fast_top c i) < 2 * most → Means c B k made (Reciprocated c (mean_divisor k)) i e → QuickRow c k made i most e
quick_row c B k made i most e r l short few s =
    let t = unsigned_abs (fast_top c i) in
    let b = mean_divisor k in
    let rows = r.before.rows in
    let up = mean_up c k made.multipliers made.reached i rows l in
    let both = s.scale short in
    let g = both.0 in
    let n = unsigned_abs (mean_sum k made i) in
    let is : mean_sum k made i ≡ pos n = nonneg_is (mean_sum k made i) up.low in
    let bound : b < 2 ^ 31 = omega (arith, divisor_le k c.steps (omega (arith, r.inside)), ltb-true (mean_divisor c.steps) (2 ^ 31) short) in
    record {
      n = n;
      q = (2 ^ 32 * 2 ^ g.bits - 1) / b;
      scale = g;
      short = bound;
      bits = omega (arith, few_bits g.bits (omega (arith, g.low, bound)));
      reciprocal = both.1 ∙ ap (λ (y : ℤ). floor_of (y -ℤ pos 1) b) g.powers ∙ reciprocal_is b (2 ^ g.bits) (pow_pos g.bits);
      is_reciprocal = refl;
      numerator = is;
      below = below n (all_weights (suc k)) t b most (weight_sum_law.divisor k) (some_divisor k) up.high few;
      large = omega (arith, (numerator_made c B k made i e r l s).within, reached_le c k i r.inside, r.reached);
      mean = ap (λ (y : ℤ). floor_of y b) (sym is);
      top = mean_le c k made.multipliers made.reached i r.nonneg rows l;
    }

near_row : (c : Numbers) (k : ℕ) (made : FastIterate) (i most : ℕ) (e : Environment) (g : QuickRow c k made i most e) (m : ℕ) → m < 2 ^ 29 * mean_divisor k →
    IsNear m (mean_divisor k) (m / 2 ^ g.scale.bits) g.q ((m / 2 ^ g.scale.bits) * g.q / 2 ^ 32)
near_row c k made i most e g m h =
    subst (λ (q : ℕ). IsNear m (mean_divisor k) (m / 2 ^ g.scale.bits) q ((m / 2 ^ g.scale.bits) * q / 2 ^ 32)) (sym g.is_reciprocal)
    (near_is m (mean_divisor k) (2 ^ g.scale.bits) (pow_pos g.scale.bits) g.scale.low g.scale.high h)

-- no more than the mean
below_mean : (c : Numbers) (k : ℕ) (made : FastIterate) (i most : ℕ) (e : Environment) (g : QuickRow c k made i most e) (w : ℕ) → w * mean_divisor k ≤ g.n → w ≤ multiplier_top c i
below_mean c k made i most e g w h =
    omega (arith, g.top, subst (λ (y : ℤ). w ≤ unsigned_abs y) g.mean (at_most_quotient g.n (mean_divisor k) w (some_divisor k) h))

quick_runs : (c : Numbers) (B : OfBases) (k : ℕ) (made : FastIterate) (i : ℕ) (e : Environment) → FastStepFits c k made → i < length c.bounds →
    Means c B k made (Reciprocated c (mean_divisor k)) i e → QuickRow c k made i (2 ^ 29) e →
    Runs (kinds c (fast_sizes c)) e (quick_mean_statements i) (Means c B k made (Reciprocated c (mean_divisor k)) (suc i))
quick_runs c B k made i e r l s g =
    let kind = kinds c (fast_sizes c) in
    let b = mean_divisor k in
    let z = mean_at k made.multipliers made.reached i in
    let P = Means c B k made (Reciprocated c b) (suc i) in
    let n = g.n in
    let h = n / 2 ^ g.scale.bits in
    let w = h * g.q / 2 ^ 32 in
    let near = near_row c k made i (2 ^ 29) e g n g.below in
    let sum = numerator_made c B k made i e r l s in
    let numerator = held_new e (variable Numerator i) (pos n) in
    let e1 = with_value e (variable Numerator i) (pos n) in
    let m2 = makes_shifted_by e1 _ (variable Shift 0) (pos n) n g.scale.bits (makes_value e1 (variable Numerator i) (pos n) n numerator (le_refl n) g.large) g.scale.shifts g.bits in
    let e2 = with_value e1 (variable Head i) (pos h) in
    let m3 = near_made e2 i n b h g.q near (held_new e1 (variable Head i) (pos h)) g.reciprocal in
    let e3 = with_value e2 (variable Multiplier i) (pos w) in
    let mean = held_new e2 (variable Multiplier i) (pos w) in
    let left = left_over n b w in
    let m4 = rest_made e3 Multiplier i n b h g.q w near g.large g.short numerator mean s.divisor in
    let e4 = with_value e3 (variable Rest i) left in
    let m5 = exact_made e4 Multiplier i n b h g.q w near (some_divisor k) g.short mean (held_new e3 (variable Rest i) left) in
    runs_next kind e _ _ (pos n) P sum.defined (sum.is ∙ g.numerator) (fits64 (pos n) g.large)
    (runs_next kind e1 _ _ (pos h) P m2.defined m2.is (fits_width 32 (pos h) (omega (arith, near.head)))
    (runs_next kind e2 _ _ (pos w) P m3.defined m3.is (mean_fits c B k made i r l (pos w) (below_mean c k made i (2 ^ 29) e g w near.low))
    (runs_next kind e3 _ _ left P m4.defined m4.is (fits_width 32 left (omega (arith, m4.within, g.short)))
    (runs_one kind e4 _ z P m5.defined (m5.is ∙ g.mean) (mean_fits c B k made i r l z g.top)
    (record {
      bases = s.bases;
      own = s.own;
      reached = s.reached;
      sums = s.sums;
      weight = s.weight;
      divisor = s.divisor;
      scale = s.scale;
      means = put (e4 Multiplier) (at (used_of c k made)) i z (used_at c k made i l) (λ j m. before_kept (e Multiplier) (at (used_of c k made)) i (pos w) s.means j m);
    })))))

twice_runs : (c : Numbers) (B : OfBases) (k : ℕ) (made : FastIterate) (i : ℕ) (e : Environment) → FastStepFits c k made → i < length c.bounds →
    Means c B k made (Reciprocated c (mean_divisor k)) i e → QuickRow c k made i (2 ^ 55) e →
    Runs (kinds c (fast_sizes c)) e (twice_mean_statements i) (Means c B k made (Reciprocated c (mean_divisor k)) (suc i))
twice_runs c B k made i e r l s g =
    let kind = kinds c (fast_sizes c) in
    let b = mean_divisor k in
    let z = mean_at k made.multipliers made.reached i in
    let P = Means c B k made (Reciprocated c b) (suc i) in
    let x = 2 ^ g.scale.bits in
    let n = g.n in
    let high = n / 2 ^ 26 in
    let h = high / x in
    let w = h * g.q / 2 ^ 32 in
    let cut = quotient_is n (2 ^ 26) (omega arith) in
    let near = near_row c k made i (2 ^ 55) e g high (omega (arith, cut.low, g.below)) in
    let first = first_round n high b h g.q w cut.low cut.high near in
    let u = w * 2 ^ 26 in
    let m = n - u * b in
    let h2 = m / x in
    let w2 = h2 * g.q / 2 ^ 32 in
    let near2 = near_row c k made i (2 ^ 55) e g m (omega (arith, first.high, some_divisor k)) in
    let large : m < 2 ^ 63 = omega (arith, g.large) in
    let f = m / b in
    let small : f < 2 ^ 27 = rest_small m b (some_divisor k) first.high in
    let sum = numerator_made c B k made i e r l s in
    let e1 = with_value e (variable Numerator i) (pos n) in
    let whole = held_new e (variable Numerator i) (pos n) in
    let m2 = makes_shifted_by e1 _ (variable Shift 0) (pos high) n g.scale.bits
    (makes_shifted e1 (Value (variable Numerator i)) (pos n) n 26 (makes_value e1 (variable Numerator i) (pos n) n whole (le_refl n) g.large) (omega arith)) g.scale.shifts g.bits in
    let e2 = with_value e1 (variable Head i) (pos h) in
    let m3 = makes_multiplied e2 (near_expression i) (Constant (pos (2 ^ 26))) (pos w) (pos (2 ^ 26)) (2 ^ 30) (2 ^ 26) (2 ^ 56) (near_made e2 i high b h g.q near (held_new e1 (variable Head i) (pos h)) g.reciprocal)
    (makes_constant e2 (pos (2 ^ 26)) (2 ^ 26) (le_refl (2 ^ 26)) (omega arith)) (omega (arith, near.small)) (omega arith) in
    let e3 = with_value e2 (variable Multiplier i) (pos u) in
    let mean = held_new e2 (variable Multiplier i) (pos u) in
    let m4 = makes_minus e3 (Value (variable Numerator i)) _ (pos n) (pos u *ℤ pos b) n n n (makes_value e3 (variable Numerator i) (pos n) n whole (le_refl n) g.large)
    (makes_multiplied e3 (Value (variable Multiplier i)) (Value (variable Divisor 0)) (pos u) (pos b) u b n (makes_value e3 (variable Multiplier i) (pos u) u mean (le_refl u) (omega (arith, near.small)))
    (makes_value e3 (variable Divisor 0) (pos b) b s.divisor (le_refl b) (omega (arith, g.short))) first.low g.large) (omega (arith, ints, first.low)) g.large in
    let left_is : pos n -ℤ pos u *ℤ pos b ≡ pos m = omega (arith, ints, first.low) in
    let e4 = with_value e3 (variable Numerator i) (pos m) in
    let part = held_new e3 (variable Numerator i) (pos m) in
    let m5 = makes_shifted_by e4 _ (variable Shift 0) (pos m) m g.scale.bits (makes_value e4 (variable Numerator i) (pos m) m part (le_refl m) large) g.scale.shifts g.bits in
    let e5 = with_value e4 (variable Head i) (pos h2) in
    let m6 = near_made e5 i m b h2 g.q near2 (held_new e4 (variable Head i) (pos h2)) g.reciprocal in
    let e6 = with_value e5 (variable Head i) (pos w2) in
    let head = held_new e5 (variable Head i) (pos w2) in
    let left = left_over m b w2 in
    let m7 = rest_made e6 Head i m b h2 g.q w2 near2 large g.short part head s.divisor in
    let e7 = with_value e6 (variable Rest i) left in
    let m8 = exact_made e7 Head i m b h2 g.q w2 near2 (some_divisor k) g.short head (held_new e6 (variable Rest i) left) in
    let e8 = with_value e7 (variable Head i) (pos f) in
    let m9 = makes_plus e8 (Value (variable Multiplier i)) (Value (variable Head i)) (pos u) (pos f) u f (makes_value e8 (variable Multiplier i) (pos u) u mean (le_refl u) (omega (arith, near.small)))
    (makes_value e8 (variable Head i) (pos f) f (held_new e7 (variable Head i) (pos f)) (le_refl f) (omega (arith, small))) (omega (arith, near.small, small)) in
    runs_next kind e _ _ (pos n) P sum.defined (sum.is ∙ g.numerator) (fits64 (pos n) g.large)
    (runs_next kind e1 _ _ (pos h) P m2.defined m2.is (fits_width 32 (pos h) (omega (arith, near.head)))
    (runs_next kind e2 _ _ (pos u) P m3.defined m3.is (mean_fits c B k made i r l (pos u) (below_mean c k made i (2 ^ 55) e g u first.low))
    (runs_next kind e3 _ _ (pos m) P m4.defined (m4.is ∙ left_is) (fits64 (pos m) large)
    (runs_next kind e4 _ _ (pos h2) P m5.defined m5.is (fits_width 32 (pos h2) (omega (arith, near2.head)))
    (runs_next kind e5 _ _ (pos w2) P m6.defined m6.is (fits_width 32 (pos w2) (omega (arith, near2.small)))
    (runs_next kind e6 _ _ left P m7.defined m7.is (fits_width 32 left (omega (arith, m7.within, g.short)))
    (runs_next kind e7 _ _ (pos f) P m8.defined m8.is (fits_width 32 (pos f) (omega (arith, small)))
    (runs_one kind e8 _ z P m9.defined (m9.is ∙ with_rest n b u (some_divisor k) first.low ∙ g.mean) (mean_fits c B k made i r l z g.top)
    (record {
      bases = s.bases;
      own = s.own;
      reached = s.reached;
      sums = s.sums;
      weight = s.weight;
      divisor = s.divisor;
      scale = s.scale;
      means = put (e8 Multiplier) (at (used_of c k made)) i z (used_at c k made i l) (λ j m. before_kept (e Multiplier) (at (used_of c k made)) i (pos u) s.means j m);
    })))))))))

pub mean_runs : (c : Numbers) (B : OfBases) (k : ℕ) (made : FastIterate) (i : ℕ) (e : Environment) → FastStepFits c k made → i < length c.bounds →
    Means c B k made (Reciprocated c (mean_divisor k)) i e → Runs (kinds c (fast_sizes c)) e (mean_statements c i) (Means c B k made (Reciprocated c (mean_divisor k)) (suc i))
mean_runs c B k made i e r l s =
    let R = λ (ss : List Statement). Runs (kinds c (fast_sizes c)) e ss (Means c B k made (Reciprocated c (mean_divisor k)) (suc i)) in
    let size = unsigned_abs (fast_top c i) in
    let divided = Assign (variable Multiplier i) (mean_expression i) ∷ [] in
    cond_both (is_quick c i) (quick_mean_statements i) (if is_twice_quick c i then twice_mean_statements i else divided) R
    (λ t. let parts = and_parts (has_short_divisor c) (ltb size (2 ^ 30)) t in
    quick_runs c B k made i e r l s (quick_row c B k made i (2 ^ 29) e r l parts.0 (omega (arith, ltb-true size (2 ^ 30) parts.1)) s))
    (λ f. cond_both (is_twice_quick c i) (twice_mean_statements i) divided R
    (λ t. let parts = and_parts (has_short_divisor c) (ltb size (2 ^ 56)) t in
    twice_runs c B k made i e r l s (quick_row c B k made i (2 ^ 55) e r l parts.0 (omega (arith, ltb-true size (2 ^ 56) parts.1)) s))
    (λ g. divided_runs c B k made i e r l s))
