use Rattle.c_program.proofs.FastProgramLaw as fast
use Rattle.c_program.proofs.PartedLaw as parted
use Rattle.c_program.proofs.ProgramLaw as law
use Rattle.c_program.proofs.laws.written_program_law.Goals as goal

pub returns : goal.returns
returns c = parted.written_program_law law.program_law fast.fast_program_law parted.parted_program_law
