use Rattle.std.proofs.Common.{rules}
use Rattle.number_text.proofs.number.is_plain.Goals as goal

pub returns-in-len1 : goal.returns-in-len1
returns-in-len1 c = search rules
