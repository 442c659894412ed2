use Rattle.c_language.proofs.Reading as reading
use Rattle.c_language.proofs.laws.expression_text_law.Goals as goal

pub returns : goal.returns
returns c = reading.expression_text_law
