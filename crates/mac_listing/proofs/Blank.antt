-- A listing of one instruction for each width, number of states and shift.
use Rattle.std.proofs.Common.{ℕ, ◌≤◌, ℤ, pos, ◌≤ℤ◌, [], ◌∷◌, replicate, arith}
use Rattle.std.specs.Prelude.{All}
use Rattle.std.proofs.lemmas.Int.{ints}
use Rattle.std.proofs.lemmas.List.{length-replicate}
use Rattle.std.proofs.lemmas.List.Elements.{All-replicate}
use Rattle.integer_algebra.specs.Sums.{at}
use Rattle.qp_model.specs.problem.Range.{LiesIn, IsNumerator}
use Rattle.mac_listing.specs.declared.instruction.Op.TheVariants.{Clear}
use Rattle.mac_listing.specs.Listing.{Instructions, IsOp, IsListing}

pub same_le : (z : ℤ) → z ≤ℤ z
same_le z = omega (arith, ints)

-- zeros in each list, and the least of each range
abbrev pub blank : (width states shift : ℕ) → Instructions
blank width states shift = record {
  width = width;
  states = states;
  shift = shift;
  low = replicate states (pos 0);
  high = replicate states (pos 0);
  words = states;
  first = 0;
  outputs = 1;
  denominator = pos 1;
  repetitions = 1;
  body = Clear ∷ [];
}

pub one_clear : (words : ℕ) → All (IsOp words) (Clear ∷ [])
one_clear words = All-replicate (IsOp words) 1 Clear tt

pub blank_is : (width states shift : ℕ) → LiesIn 2 128 width → LiesIn 1 6 states → shift ≤ 48 → IsListing (blank width states shift)
blank_is width states shift hw hn hs = record {
  width = hw;
  states = hn;
  shift = hs;
  low_long = length-replicate states (pos 0);
  high_long = length-replicate states (pos 0);
  low = All-replicate (λ z. IsNumerator z) states (pos 0) (omega arith);
  high = All-replicate (λ z. IsNumerator z) states (pos 0) (omega arith);
  box = λ i lt. same_le (at (replicate states (pos 0)) i);
  words = (omega arith, omega (arith, hn.1));
  outputs = omega arith;
  inside = omega (arith, hn.0);
  denominator_low = omega (arith, ints);
  denominator_high = omega (arith, ints);
  repetitions = (omega arith, omega arith);
  instructions = (omega arith, omega arith);
  ops = one_clear states;
}
