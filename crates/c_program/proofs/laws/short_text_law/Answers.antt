use Rattle.c_program.proofs.ProgramLaw as law
use Rattle.c_program.proofs.ShortTexts as texts
use Rattle.c_program.proofs.laws.short_text_law.Goals as goal

pub returns : goal.returns
returns c = texts.short_text_law law.program_law
