use Rattle.c_program.proofs.FastProgramLaw as law
use Rattle.c_program.proofs.laws.fast_program_law.Goals as goal

pub returns : goal.returns
returns c = law.fast_program_law
