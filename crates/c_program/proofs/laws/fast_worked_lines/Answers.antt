use Rattle.c_program.proofs.FastWorked as worked
use Rattle.c_program.proofs.laws.fast_worked_lines.Goals as goal

pub returns : goal.returns
returns c = worked.fast_worked_lines
