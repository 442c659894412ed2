use Rattle.c_program.proofs.FastProgramLaw as law
use Rattle.c_program.proofs.ShortTexts as texts
use Rattle.c_program.proofs.laws.fast_short_text_law.Goals as goal

pub returns : goal.returns
returns c = texts.fast_short_text_law law.fast_program_law
