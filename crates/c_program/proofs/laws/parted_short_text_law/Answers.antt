use Rattle.c_program.proofs.PartedLaw as law
use Rattle.c_program.proofs.PartedTexts as texts
use Rattle.c_program.proofs.laws.parted_short_text_law.Goals as goal

pub returns : goal.returns
returns c = texts.parted_short_text_law law.parted_program_law
