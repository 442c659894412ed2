use Rattle.controller_text.proofs.Forms.{text_form_law}
use Rattle.controller_text.proofs.laws.text_form_law.Goals as goal

pub returns : goal.returns
returns c = text_form_law
