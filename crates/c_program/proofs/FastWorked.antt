-- The worked program of the accelerated machine, as the definitions compute it.
use Rattle.std.proofs.Common.{◌≡◌, pos, negsuc, [], ◌∷◌, refl}
use Rattle.std.specs.Fmt.{digits}
use Rattle.std.specs.Int.Count.{count_trailing_zeros}
use Rattle.overflow_check.specs.FastMachine.{all_weights}
use Rattle.c_language.specs.Syntax.{groups}
use Rattle.c_language.specs.Meaning.{all_done, repeated, outcome_of, averages_of}
use Rattle.c_language.specs.Meaning.Outcome.{Refused, Solved}
use Rattle.c_program.specs.FastOf.{fast_program_of}
use Rattle.c_program.specs.Of.{are_multiples, shared_bits, partner, is_first, is_second, any_below, is_row_needed, is_coordinate_needed, is_any_quick}
use Rattle.c_program.specs.FastWorked.{fast, FastWorkedLines}

pub fast_worked_lines : FastWorkedLines
unfolding groups are_multiples shared_bits partner is_first is_second any_below is_row_needed is_coordinate_needed is_any_quick digits count_trailing_zeros all_weights
fast_worked_lines = refl

-- ---- what it does
-- from the state 1, which is run as by hand; and 2 lies outside the box
solved : outcome_of (fast_program_of fast) (pos 1 ∷ []) ≡ Solved (negsuc 2479 ∷ [])
unfolding groups are_multiples shared_bits partner is_first is_second any_below is_row_needed is_coordinate_needed is_any_quick all_done repeated
solved = refl

refused : outcome_of (fast_program_of fast) (pos 2 ∷ []) ≡ Refused 1
refused = refl

-- of -2480 / 9 the nearest is -276
averaged : averages_of (fast_program_of fast) (negsuc 2479 ∷ []) ≡ negsuc 275 ∷ []
unfolding count_trailing_zeros all_weights
averaged = refl
