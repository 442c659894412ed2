use Rattle.mac_listing.proofs.Texts.{are_lines}
use Rattle.mac_listing.proofs.laws.grammar_law.Goals as goal

pub returns : goal.returns
returns c = are_lines
