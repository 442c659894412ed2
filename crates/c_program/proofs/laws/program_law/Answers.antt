use Rattle.c_program.proofs.ProgramLaw as law
use Rattle.c_program.proofs.laws.program_law.Goals as goal

pub returns : goal.returns
returns c = law.program_law
