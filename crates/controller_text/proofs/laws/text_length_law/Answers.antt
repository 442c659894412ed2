use Rattle.controller_text.proofs.Lengths.{any_length_law}
use Rattle.controller_text.proofs.laws.text_length_law.Goals as goal

pub returns : goal.returns
returns c = any_length_law
