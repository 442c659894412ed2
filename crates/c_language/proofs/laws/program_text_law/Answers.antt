use Rattle.c_language.proofs.ProgramTexts as texts
use Rattle.c_language.proofs.laws.program_text_law.Goals as goal

pub returns : goal.returns
returns c = texts.program_text_law
