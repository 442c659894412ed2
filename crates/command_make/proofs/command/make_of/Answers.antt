use Rattle.command_line.proofs.Following.{acted}
use Rattle.command_line.proofs.TwoTexts.{two_done}
use Rattle.command_make.proofs.command.make_of.Goals as goal

pub returns-in-Err : goal.returns-in-Err
returns-in-Err g c = c.in-Err.ensures.along.ended

pub returns-in-Ok : goal.returns-in-Ok
returns-in-Ok g c =
    let made = rw c.at.ensures at c.texts_of-made.ensures in
    let wrote = c.write_texts.ensures in
    c.in-Ok.ensures.along.went _ _
    (acted (two_done (λ file one. one) c.texts_of-made.result (λ t. t.first.items) (λ t. t.second.items) made.made made.called made.unmade wrote.written wrote.unmade))
