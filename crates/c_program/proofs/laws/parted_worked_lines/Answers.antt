use Rattle.c_program.proofs.PartedWorked as worked
use Rattle.c_program.proofs.laws.parted_worked_lines.Goals as goal

pub returns : goal.returns
returns c = worked.parted_worked_lines
