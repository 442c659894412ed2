use Rattle.c_language.proofs.Statements as statements
use Rattle.c_language.proofs.laws.statement_text_law.Goals as goal

pub returns : goal.returns
returns c = statements.statement_text_law
