use Rattle.std.proofs.Common.{rules}
use Rattle.controller_text.proofs.writer.push_exponents.Goals as goal

pub returns-clause-text : goal.returns-clause-text
returns-clause-text c = search rules

pub returns-clause-word : goal.returns-clause-word
returns-clause-word c = search rules
