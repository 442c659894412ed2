-- The numbers that a made design draws.
use Rattle.std.specs.Prelude.{ℕ, zero, suc, ◌+◌, ◌*◌, ◌/◌, ◌%◌, ◌^◌, ℤ, pos, neg_ℤ, ◌+ℤ◌}
use Rattle.design_maker.specs.declared.draws.Drawn.{Drawn}

-- the number after another, of 31 bits
abbrev pub following : ℕ → ℕ
following z = (1103515245 * z + 12345) % 2 ^ 31

-- the numbers from a seed on, one after another
abbrev pub sequence : ℕ → ℕ → ℕ
sequence seed zero = seed % 2 ^ 31
sequence seed (suc i) = following (sequence seed i)

-- one of `count` numbers from `least` on, by the high bits of a number
abbrev pub chosen : ℤ → ℕ → ℕ → ℤ
chosen least count z = least +ℤ pos (z / 65536 % count)

-- the same by number i of the sequence
abbrev pub draw : ℕ → ℕ → ℤ → ℕ → ℤ
draw seed i least count = chosen least count (sequence seed i)

-- the ten draws
abbrev pub drawn : ℕ → Drawn
drawn seed = record {
  a11 = draw seed 1 (pos 1) 3;
  a12 = draw seed 2 (neg_ℤ (pos 1)) 3;
  a21 = draw seed 3 (neg_ℤ (pos 1)) 3;
  a22 = draw seed 4 (pos 1) 3;
  first_input = draw seed 5 (pos 1) 4;
  second_input = draw seed 6 (pos 1) 4;
  first_target = draw seed 7 (pos 0) 3;
  first_weight = draw seed 8 (pos 1) 4;
  second_target = draw seed 9 (pos 0) 3;
  second_weight = draw seed 10 (pos 1) 4;
}
