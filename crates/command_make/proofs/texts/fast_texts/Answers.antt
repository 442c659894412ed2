use Rattle.qp_model.specs.bounds.Printed.{printed}
use Rattle.command_line.proofs.Results.{err_same}
use Rattle.command_generate.proofs.Making.{texts_of_made, none_made}
use Rattle.command_make.proofs.texts.fast_texts.Goals as goal

pub returns-in_err-made : goal.returns-in_err-made
returns-in_err-made c = rw (err_same _ _ c.from_residual.ensures.1) (none_made c.in_err-made.ensures.made.unmade)

pub returns : goal.returns
returns c =
    let is = c.in_ok-made.ensures.made in
    texts_of_made c.in_ok-made.made.controller (printed c.in_ok-made.made.bounds) c.texts_of_fast.result is.called is.made c.texts_of_fast.ensures.texts c.texts_of_fast.ensures.memory
