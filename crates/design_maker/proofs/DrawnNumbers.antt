-- The ranges of the drawn numbers.
use Rattle.std.proofs.Common.{ℕ, ◌<◌, ◌/◌, ℤ, pos, neg_ℤ, ◌+ℤ◌, ◌≤ℤ◌, arith, lit<}
use Rattle.std.proofs.lemmas.Int.{ints}
use Rattle.std.proofs.lemmas.Nat.{mod_below}
use Rattle.design_maker.specs.declared.draws.Drawn.{Drawn}
use Rattle.design_maker.specs.Draws.{chosen, drawn, sequence}
use Rattle.design_maker.proofs.WrittenValues.{Small}
use Rattle.design_maker.proofs.MadeDocument.{AreSmall}

abbrev pub Between : ℤ → ℤ → Type 0
Between low z = (low ≤ℤ z) × (z ≤ℤ pos 4)

chosen_within : (z : ℕ) (least : ℤ) (count : ℕ) → 0 < count → (least +ℤ pos count) ≤ℤ pos 5 → Between least (chosen least count z)
chosen_within z least count some high = let h = mod_below (z / 65536) count some in (omega (arith, ints, h), omega (arith, ints, h, high))

pub record InRange (d : Drawn) : Type 0 where
  pub a11 : Between (pos 1) d.a11
  pub a12 : Between (neg_ℤ (pos 1)) d.a12
  pub a21 : Between (neg_ℤ (pos 1)) d.a21
  pub a22 : Between (pos 1) d.a22
  pub first_input : Between (pos 1) d.first_input
  pub second_input : Between (pos 1) d.second_input
  pub first_target : Between (pos 0) d.first_target
  pub first_weight : Between (pos 1) d.first_weight
  pub second_target : Between (pos 0) d.second_target
  pub second_weight : Between (pos 1) d.second_weight

pub in_range : (seed : ℕ) → InRange (drawn seed)
in_range seed = record {
  a11 = chosen_within (sequence seed 1) (pos 1) 3 (lit< tt) (omega arith);
  a12 = chosen_within (sequence seed 2) (neg_ℤ (pos 1)) 3 (lit< tt) (omega arith);
  a21 = chosen_within (sequence seed 3) (neg_ℤ (pos 1)) 3 (lit< tt) (omega arith);
  a22 = chosen_within (sequence seed 4) (pos 1) 3 (lit< tt) (omega arith);
  first_input = chosen_within (sequence seed 5) (pos 1) 4 (lit< tt) (omega arith);
  second_input = chosen_within (sequence seed 6) (pos 1) 4 (lit< tt) (omega arith);
  first_target = chosen_within (sequence seed 7) (pos 0) 3 (lit< tt) (omega arith);
  first_weight = chosen_within (sequence seed 8) (pos 1) 4 (lit< tt) (omega arith);
  second_target = chosen_within (sequence seed 9) (pos 0) 3 (lit< tt) (omega arith);
  second_weight = chosen_within (sequence seed 10) (pos 1) 4 (lit< tt) (omega arith);
}

small : (z low : ℤ) → Between low z → neg_ℤ (pos 1) ≤ℤ low → Small z
small z low h k = omega (arith, ints, h.0, h.1, k)

pub are_small : (d : Drawn) → InRange d → AreSmall d
are_small d r = record {
  plant = ((small d.a11 (pos 1) r.a11 (omega arith), (small d.a12 (neg_ℤ (pos 1)) r.a12 (omega arith), tt)), ((small d.a21 (neg_ℤ (pos 1)) r.a21 (omega arith), (small d.a22 (pos 1) r.a22 (omega arith), tt)), tt));
  input = (small d.first_input (pos 1) r.first_input (omega arith), (small d.second_input (pos 1) r.second_input (omega arith), tt));
  cost = (
    (omega arith, (omega arith, (small d.first_target (pos 0) r.first_target (omega arith), (small d.first_weight (pos 1) r.first_weight (omega arith), tt)))),
    ((omega arith, (omega arith, (small d.second_target (pos 0) r.second_target (omega arith), (small d.second_weight (pos 1) r.second_weight (omega arith), tt)))), tt),
  );
}
