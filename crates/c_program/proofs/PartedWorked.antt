-- The worked program in parts, as the definitions compute it.
use Rattle.std.proofs.Common.{◌≡◌, pos, negsuc, [], ◌∷◌, refl}
use Rattle.std.specs.Fmt.{digits}
use Rattle.std.specs.Int.Count.{count_trailing_zeros}
use Rattle.overflow_check.specs.FastMachine.{all_weights}
use Rattle.overflow_check.specs.declared.machine.Machine.TheVariants.{Accelerated}
use Rattle.c_language.specs.Syntax.{groups}
use Rattle.c_language.specs.Meaning.{all_done, repeated, outcome_of, averages_of}
use Rattle.c_language.specs.Meaning.Outcome.{Refused, Solved}
use Rattle.c_program.specs.InParts.{parted_program}
use Rattle.c_program.specs.Of.{partner, is_first, is_second, any_below, is_row_needed, is_coordinate_needed, is_entry_needed, is_any_quick}
use Rattle.c_program.specs.PartedWorked.{parted, PartedWorkedLines}

pub parted_worked_lines : PartedWorkedLines
unfolding groups partner is_first is_second any_below is_row_needed is_coordinate_needed is_entry_needed is_any_quick digits count_trailing_zeros all_weights
parted_worked_lines = refl

-- ---- what it does
-- from the state 1, which the machine runs from to the same sum; and 2 lies outside the box
solved : outcome_of (parted_program Accelerated parted) (pos 1 ∷ []) ≡ Solved (negsuc 75878585 ∷ [])
unfolding groups partner is_first is_second any_below is_row_needed is_coordinate_needed is_entry_needed is_any_quick all_done repeated
solved = refl

refused : outcome_of (parted_program Accelerated parted) (pos 2 ∷ []) ≡ Refused 1
refused = refl

-- of -75878586 / 9 the nearest is -8430954
averaged : averages_of (parted_program Accelerated parted) (negsuc 75878585 ∷ []) ≡ negsuc 8430953 ∷ []
unfolding count_trailing_zeros all_weights
averaged = refl
