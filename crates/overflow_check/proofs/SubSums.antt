-- The sum of any of a plan entry's or a row's terms is at most its absolute sum.
use Rattle.std.proofs.Common.{◌≡◌, Bool, true, false, ℕ, suc, ◌+◌, ◌-◌, ◌*◌, ◌^◌, ◌≤◌, ℤ, pos, ◌+ℤ◌, ◌*ℤ◌, neg_ℤ, List, [], ◌∷◌, ◌++◌, map, unsigned_abs, if◌then◌else◌, le_refl, arith}
use Rattle.std.proofs.lemmas.Int.{unsigned_abs-mul}
use Rattle.std.proofs.lemmas.Nat.{mul-le}
use Rattle.integer_algebra.specs.Sums.{at}
use Rattle.mat_int.specs.Row.{abs_dot, abs_sum}
use Rattle.mat_int.specs.Matrix.{row_of}
use Rattle.mat_int.proofs.Dots.{abs-add_le}
use Rattle.qp_model.specs.machine.Controller.{Numbers}
use Rattle.qp_model.specs.machine.Machine.{loaded, raised, plan_of, after}
use Rattle.qp_model.specs.machine.AbsoluteSums.{state_magnitudes, clamp_magnitudes, plan_magnitudes, entry_absolute_sum, row_absolute_sum, weighted_abs_sum}
use Rattle.qp_model.specs.machine.ValuesMet.{products}
use Rattle.qp_model.specs.machine.Within.{AreWithin}
use Rattle.qp_model.proofs.AbsoluteLaws.{le_times_pow, abs-neg, abs-shifted}
use Rattle.qp_model.proofs.MagnitudeLaws.{abs_dot-magnitudes, plan_within, state_within, after_multipliers}
use Rattle.overflow_check.specs.SubSums.{sub_sum, unscaled_terms, entry_terms, row_terms, SubSumsStay, SubSumsLaw}
use Rattle.overflow_check.proofs.SumLaws.{sums_fit}
use Rattle.overflow_check.proofs.ValuesMet.{fits_width}

-- ---- any terms
-- a term that is chosen or not, and the rest
one_more : (b : Bool) (term rest : ℤ) (most : ℕ) → unsigned_abs rest ≤ most → unsigned_abs ((if b then term else pos 0) +ℤ rest) ≤ unsigned_abs term + most
one_more true term rest most h = omega (arith, abs-add_le term rest, h)
one_more false term rest most h = omega (arith, abs-add_le (pos 0) rest, h)

sub_sum_le : (chosen : ℕ → Bool) (terms : List ℤ) → unsigned_abs (sub_sum chosen terms) ≤ abs_sum terms
sub_sum_le chosen [] = omega arith
sub_sum_le chosen (term ∷ terms) =
    let rest : ℕ → Bool = λ k. chosen (suc k) in
    one_more (chosen 0) term (sub_sum rest terms) (abs_sum terms) (sub_sum_le rest terms)

-- ---- the absolute values of the terms
abs_sum-append : (xs ys : List ℤ) → abs_sum (xs ++ ys) ≡ abs_sum xs + abs_sum ys
abs_sum-append [] ys = omega arith
abs_sum-append (x ∷ xs) ys = omega (arith, abs_sum-append xs ys)

abs_sum-products : (xs ys : List ℤ) → abs_sum (products xs ys) ≡ abs_dot xs ys
abs_sum-products [] ys = omega arith
abs_sum-products (x ∷ xs) [] = omega arith
abs_sum-products (x ∷ xs) (y ∷ ys) = omega (arith, unsigned_abs-mul x y, abs_sum-products xs ys)

abs_sum-scaled : (n : ℕ) (xs : List ℤ) → abs_sum (map (λ x. x *ℤ pos n) xs) ≡ abs_sum xs * n
abs_sum-scaled n [] = omega arith
abs_sum-scaled n (x ∷ xs) = grind (arith, unsigned_abs-mul x (pos n), abs_sum-scaled n xs)

-- ---- a plan entry's and a row's
unscaled_le : (c : Numbers) (state : List ℤ) (j : ℕ) → AreWithin state (state_magnitudes c) →
    abs_sum (unscaled_terms c state j) ≤ weighted_abs_sum (row_of c.state_gains j) (state_magnitudes c) + unsigned_abs (at c.offsets j) * 2 ^ c.fraction_bits
unscaled_le c state j w = omega (
  arith,
  abs_sum-append (products (row_of c.state_gains j) state) ((at c.offsets j *ℤ pos (2 ^ c.fraction_bits)) ∷ []),
  abs_sum-products (row_of c.state_gains j) state,
  abs_dot-magnitudes (row_of c.state_gains j) state (state_magnitudes c) w,
  abs-shifted (at c.offsets j) c.fraction_bits,
)

entry_terms_le : (c : Numbers) (state multipliers : List ℤ) (j : ℕ) → AreWithin state (state_magnitudes c) → AreWithin multipliers (clamp_magnitudes c) →
    abs_sum (entry_terms c state multipliers j) ≤ entry_absolute_sum c j
entry_terms_le c state multipliers j w v =
    let n = 2 ^ c.step_exponent in
    let own = weighted_abs_sum (row_of c.state_gains j) (state_magnitudes c) + unsigned_abs (at c.offsets j) * 2 ^ c.fraction_bits in
    omega (
      arith,
      abs_sum-append (map (λ x. x *ℤ pos n) (unscaled_terms c state j)) (products (row_of c.dual_gains j) multipliers),
      abs_sum-scaled n (unscaled_terms c state j),
      mul-le (abs_sum (unscaled_terms c state j)) n own n (unscaled_le c state j w) (le_refl n),
      abs_sum-products (row_of c.dual_gains j) multipliers,
      abs_dot-magnitudes (row_of c.dual_gains j) multipliers (clamp_magnitudes c) v,
    )

row_terms_le : (c : Numbers) (state plan : List ℤ) (i : ℕ) → AreWithin state (state_magnitudes c) → AreWithin plan (plan_magnitudes c) →
    abs_sum (row_terms c state plan i) ≤ row_absolute_sum c i
row_terms_le c state plan i w v =
    let bound = at c.bounds i *ℤ pos (2 ^ c.fraction_bits) in
    omega (
      arith,
      abs_sum-append (products (row_of c.plan_rows i) plan ++ products (row_of c.state_rows i) state) (neg_ℤ bound ∷ []),
      abs_sum-append (products (row_of c.plan_rows i) plan) (products (row_of c.state_rows i) state),
      abs_sum-products (row_of c.plan_rows i) plan,
      abs_sum-products (row_of c.state_rows i) state,
      abs_dot-magnitudes (row_of c.plan_rows i) plan (plan_magnitudes c) v,
      abs_dot-magnitudes (row_of c.state_rows i) state (state_magnitudes c) w,
      abs-neg bound,
      abs-shifted (at c.bounds i) c.fraction_bits,
    )

-- ---- a run
stay : (w most : ℕ) (terms : List ℤ) → abs_sum terms ≤ most → most ≤ 2 ^ (w - 1) - 1 → SubSumsStay w most terms
stay w most terms le room = record {
  bounded = λ chosen. omega (arith, sub_sum_le chosen terms, le);
  fits = λ chosen. fits_width w (sub_sum chosen terms) (omega (arith, sub_sum_le chosen terms, le, room));
}

pub sub_sums_law : SubSumsLaw
sub_sums_law c xi sound grid k l =
    let fit = sums_fit c (2 ^ (c.width - 1) - 1) sound.fit in
    let shaped = sound.form.sized.shaped in
    let state = loaded c xi in
    let w = state_within c xi shaped.low shaped.high grid in
    let made = after c state k in
    let v = after_multipliers c state k sound.form.sized.clamp_low in
    let plan = plan_of c state (raised c made.multipliers) in
    record {
      unscaled = λ j h. stay c.width (entry_absolute_sum c j) (unscaled_terms c state j)
          (omega (arith, unscaled_le c state j w, le_times_pow (weighted_abs_sum (row_of c.state_gains j) (state_magnitudes c) + unsigned_abs (at c.offsets j) * 2 ^ c.fraction_bits) c.step_exponent))
          (fit.entries j h);
      entries = λ j h. stay c.width (entry_absolute_sum c j) (entry_terms c state (raised c made.multipliers) j)
          (entry_terms_le c state (raised c made.multipliers) j w v) (fit.entries j h);
      rows = λ i h. stay c.width (row_absolute_sum c i) (row_terms c state plan i) (row_terms_le c state plan i w (plan_within c state (raised c made.multipliers) w v)) (fit.rows i h);
    }
