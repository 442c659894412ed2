use Rattle.c_program.proofs.Worked as worked
use Rattle.c_program.proofs.laws.worked_lines.Goals as goal

pub returns : goal.returns
returns c = worked.worked_lines
