use Rattle.c_program.proofs.PartedLaw as law
use Rattle.c_program.proofs.laws.parted_program_law.Goals as goal

pub returns : goal.returns
returns c = law.parted_program_law
