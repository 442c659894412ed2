-- The worked program, as the definitions compute it.
use Rattle.std.proofs.Common.{refl}
use Rattle.std.specs.Fmt.{digits}
use Rattle.std.specs.Int.Count.{count_trailing_zeros}
use Rattle.c_language.specs.Syntax.{groups}
use Rattle.c_program.specs.Of.{are_multiples, shared_bits, partner, is_first, is_second, any_below, is_row_needed, is_coordinate_needed}
use Rattle.c_program.specs.Worked.{WorkedLines}

pub worked_lines : WorkedLines
unfolding groups are_multiples shared_bits partner is_first is_second any_below is_row_needed is_coordinate_needed digits count_trailing_zeros
worked_lines = refl
