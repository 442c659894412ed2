-- How far the states and the multipliers of a run reach.
use Rattle.std.proofs.Common.{◌≡◌, ℕ, zero, suc, ◌+◌, ◌-◌, ◌*◌, ◌^◌, ◌<◌, ◌≤◌, max, ℤ, pos, ◌+ℤ◌, ◌*ℤ◌, ◌≤ℤ◌, List, length, unsigned_abs, arith, ap, sym, ◌∙◌}
use Rattle.std.specs.Int.{int_max, int_min}
use Rattle.std.proofs.lemmas.Int.{ints, clamps, unsigned_abs-mul}
use Rattle.std.proofs.lemmas.Nat.{pow-add}
use Rattle.std.proofs.lemmas.List.{length-map, get_or-map, get_or-replicate}
use Rattle.std.proofs.lemmas.List.FromFn.{length-map-range_with_len}
use Rattle.std.proofs.Math.Nat.{mul-le-mul_right}
use Rattle.integer_algebra.specs.Sums.{at}
use Rattle.integer_algebra.specs.Division.{floor_of}
use Rattle.integer_algebra.proofs.DivisionLaws.{le-mul-ceil_div}
use Rattle.integer_algebra.proofs.OrderLaws.{mul_nonneg_z}
use Rattle.integer_algebra.proofs.PowerLaws.{pow_positive}
use Rattle.qp_model.specs.method.Dual.{InBox}
use Rattle.qp_model.specs.problem.Design.{Design, rows}
use Rattle.qp_model.specs.problem.Box.{IsGridState}
use Rattle.qp_model.specs.form.Form.{Form}
use Rattle.qp_model.specs.form.Quantities.{greatest}
use Rattle.qp_model.specs.machine.Controller.{Numbers, IsSized}
use Rattle.qp_model.specs.machine.Machine.{IsAdmissible, loaded, lowering_of, raised, top_of, plan_of, row_sum, after}
use Rattle.qp_model.specs.bounds.Built.{IsDerivedFrom}
use Rattle.qp_model.specs.bounds.Errors.{state_bound}
use Rattle.qp_model.proofs.MagnitudeLaws.{top_nonneg, after_multipliers}
use Rattle.qp_model.proofs.SizeFacts.{greatest_term}
use Rattle.step_error.proofs.Gradients.{AreReached}
use Rattle.step_error.proofs.MachineSums.{raised_is, multiplier_after}

-- ---- the state
-- a coordinate over 2^fraction_bits
pub loaded_at : (c : Numbers) (xi : List ℤ) (i : ℕ) → i < length xi → at (loaded c xi) i ≡ at xi i *ℤ pos (2 ^ (c.fraction_bits - c.grid_bits))
loaded_at c xi i h = get_or-map (λ x. x *ℤ pos (2 ^ (c.fraction_bits - c.grid_bits))) xi i (pos 0) (pos 0) h

-- a coordinate of a state of the box
box_reach : (d : Design) (xi : ℕ → ℤ) (i : ℕ) → IsGridState d xi → i < d.states → unsigned_abs (xi i) ≤ 2 ^ d.grid * state_bound d
box_reach d xi i inside h =
    let most = greatest_term i d.states (λ i. max (unsigned_abs (d.low i)) (unsigned_abs (d.high i))) h in
    let up = le-mul-ceil_div (greatest d.states (λ i. max (unsigned_abs (d.low i)) (unsigned_abs (d.high i)))) (2 ^ d.grid)
    (pow_positive 2 d.grid (omega arith)) in
    omega (arith, between (d.low i) (xi i) (d.high i) (inside i h).0 (inside i h).1, most, up)
  where
    between : (low x high : ℤ) → low ≤ℤ x → x ≤ℤ high → unsigned_abs x ≤ max (unsigned_abs low) (unsigned_abs high)
    between low x high h l = omega (arith, ints, h, l)

-- the same over 2^fraction_bits
pub state_reach : (d : Design) (f : ℕ) (xi : ℕ → ℤ) (i : ℕ) → d.grid ≤ f → IsGridState d xi → i < d.states →
    unsigned_abs (xi i *ℤ pos (2 ^ (f - d.grid))) ≤ state_bound d * 2 ^ f
state_reach d f xi i le inside h =
    let split : 2 ^ f ≡ 2 ^ d.grid * 2 ^ (f - d.grid) =
    (let e : f ≡ d.grid + (f - d.grid) = omega arith in ap (λ (n : ℕ). 2 ^ n) e ∙ pow-add 2 d.grid (f - d.grid)) in
    rw (unsigned_abs-mul (xi i) (pos (2 ^ (f - d.grid))), split) (omega (arith, mul-le-mul_right (2 ^ (f - d.grid)) (box_reach d xi i inside h)))

-- ---- the multipliers
-- after any number of steps none is below 0
multiplier_nonneg : (c : Numbers) (state : List ℤ) (k i : ℕ) → pos 0 ≤ℤ c.clamp → i < length c.bounds → pos 0 ≤ℤ at (after c state k).multipliers i
unfolding after
multiplier_nonneg c state zero i h l = rw (get_or-replicate (length c.bounds) i (pos 0) (pos 0) l) (omega (arith, ints))
multiplier_nonneg c state (suc k) i h l =
    rw (multiplier_after c state k i l)
    (low_of (top_of c i) (at (after c state k).multipliers i +ℤ floor_of (row_sum c state (plan_of c state (raised c (after c state k).multipliers)) i) (2 ^ c.fraction_bits))
    (top_nonneg c i h))
  where
    low_of : (top z : ℤ) → pos 0 ≤ℤ top → pos 0 ≤ℤ int_min top (int_max z (pos 0))
    low_of top z h = omega (arith, ints, clamps)

-- over 2^(fraction_bits + step_exponent) each lies in 0 .. clamp
multipliers_in : (c : Numbers) (state : List ℤ) (k : ℕ) → pos 0 ≤ℤ c.clamp → InBox (length c.bounds) c.clamp (at (raised c (after c state k).multipliers))
multipliers_in c state k h = record {
  low = λ i l. rw (raised_is c (after c state k).multipliers i l)
      (mul_nonneg_z (pos (2 ^ lowering_of c i)) (at (after c state k).multipliers i) (omega (arith, ints)) (multiplier_nonneg c state k i h l));
  high = λ i l. high_of (at (raised c (after c state k).multipliers) i) c.clamp h
      (rw (get_or-replicate (length c.bounds) i (unsigned_abs c.clamp) 0 l) at ((after_multipliers c state k h).each i));
}
  where
    high_of : (z top : ℤ) → pos 0 ≤ℤ top → unsigned_abs z ≤ unsigned_abs top → z ≤ℤ top
    high_of z top h l = omega (arith, ints, h, l)

raised_length : (c : Numbers) (multipliers : List ℤ) → length (raised c multipliers) ≡ length c.bounds
raised_length c multipliers = length-map-range_with_len (λ i. at multipliers i *ℤ pos (2 ^ lowering_of c i)) 0 (length c.bounds)

-- ---- both
module _ (d : Design) (h : Form) (r : ℕ) (c : Numbers) (xi : List ℤ) (made : IsDerivedFrom d h r c) (sized : IsSized c)
    (long : length xi ≡ d.states) (inside : IsGridState d (at xi)) where
  pub grid_first : d.grid ≤ c.fraction_bits
  grid_first = omega (arith, made.sizes.grid, sized.fraction_bits.0)

  pub loaded_is : (i : ℕ) → i < c.states → at (loaded c xi) i ≡ at xi i *ℤ pos (2 ^ (c.fraction_bits - c.grid_bits))
  loaded_is i h = loaded_at c xi i (omega (arith, h, made.sizes.states, long))

  -- the machine takes each grid state of the design's box
  pub admissible : IsAdmissible c xi
  admissible = record {
    long = long ∙ sym made.sizes.states;
    each = λ i l. (let m : i < d.states = omega (arith, l, made.sizes.states) in record {
      low = rw (made.sizes.low i m) (inside i m).0;
      high = rw (made.sizes.high i m) (inside i m).1;
    });
  }

  pub multipliers_box : (k : ℕ) → InBox (rows d) (pos (2 * r) *ℤ pos (2 ^ (c.fraction_bits + c.step_exponent))) (at (raised c (after c (loaded c xi) k).multipliers))
  multipliers_box k = let all = multipliers_in c (loaded c xi) k sized.clamp_low in record {
    low = λ i h. all.low i (row_in i h);
    high = λ i h. rw (← made.clamp) (all.high i (row_in i h));
  }
    where
      row_in : (i : ℕ) → i < rows d → i < length c.bounds
      row_in i h = omega (arith, h, sized.shaped.bounds, made.sizes.rows)

  pub reached : (k : ℕ) → AreReached d r c (loaded c xi) (raised c (after c (loaded c xi) k).multipliers)
  reached k = record {
    state_length = length-map xi _ ∙ long ∙ sym made.sizes.states;
    multiplier_length = raised_length c (after c (loaded c xi) k).multipliers ∙ sized.shaped.bounds;
    state = λ i h. rw (loaded_is i h, made.sizes.grid) (state_reach d c.fraction_bits (at xi) i grid_first inside (omega (arith, h, made.sizes.states)));
    multipliers = λ i h. (let box = multipliers_box k in let w : i < rows d = omega (arith, h, made.sizes.rows) in
        size_of (at (raised c (after c (loaded c xi) k).multipliers) i) (2 * r * 2 ^ (c.fraction_bits + c.step_exponent)) (box.low i w) (box.high i w));
  }
    where
      size_of : (z : ℤ) (n : ℕ) → pos 0 ≤ℤ z → z ≤ℤ pos n → unsigned_abs z ≤ n
      size_of z n h l = omega (arith, ints, h, l)
