use Rattle.c_program.proofs.ProgramLaw as plain
use Rattle.c_program.proofs.FastProgramLaw as fast
use Rattle.c_program.proofs.PartedLaw as law
use Rattle.c_program.proofs.ShortTexts as short
use Rattle.c_program.proofs.PartedTexts as texts
use Rattle.c_program.proofs.laws.written_text_law.Goals as goal

pub returns : goal.returns
returns c =
    texts.written_text_law (short.short_text_law plain.program_law) (short.fast_short_text_law fast.fast_program_law) (texts.parted_short_text_law law.parted_program_law)
