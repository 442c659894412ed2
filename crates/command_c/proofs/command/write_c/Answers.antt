use Rattle.std.proofs.Common.{arith}
use Rattle.command_line.proofs.Following.{stopped, went_on, acted, follows}
use Rattle.command_line.proofs.TwoTexts.{two_done}
use Rattle.command_c.specs.Compiled.{compile_work}
use Rattle.command_c.proofs.Written.{compile_sound}
use Rattle.command_c.proofs.command.write_c.Goals as goal

pub write_texts-requires : goal.write_texts-requires
write_texts-requires g c = record { first = omega (arith, c.requires.count); second = omega (arith, c.requires.count); apart = c.requires.header_source }

pub returns-in-Err : goal.returns-in-Err
returns-in-Err g c =
    let is = rw c.at.ensures at c.in-Err.ensures in
    follows compile_work compile_sound (stopped is.passes is.ends)

pub returns-in-Ok : goal.returns-in-Ok
returns-in-Ok g c =
    let is = rw c.at.ensures at c.in-Ok.ensures in
    let made = rw c.at-in-Ok.ensures at c.program_texts-made.ensures in
    follows compile_work compile_sound
    (went_on is.passes is.right
    (acted (two_done (λ file one. one) c.program_texts-made.result (λ t. t.first.items) (λ t. t.second.items) made.texts made.called made.unmade c.write_texts.ensures.written c.write_texts.ensures.unmade)))
