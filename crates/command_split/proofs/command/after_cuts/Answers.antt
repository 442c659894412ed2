use Rattle.std.proofs.Common.{arith, sym}
use Rattle.command_line.proofs.Following.{stopped, went_on, acted}
use Rattle.command_line.proofs.TwoTexts.{two_done}
use Rattle.command_split.proofs.command.after_cuts.Goals as goal

pub write_texts-requires : goal.write_texts-requires
write_texts-requires g c =
    let is = c.requires.words in
    record {
      first = omega (arith, is.count);
      second = omega (arith, is.count);
      apart = λ e. is.report 4 (omega arith) (omega (arith, is.count)) (λ k. omega (arith, k)) (sym e);
    }

pub returns-in-Err : goal.returns-in-Err
returns-in-Err g c =
    let is = rw (c.at.ensures, c.cells-cells.ensures.value) at c.in-Err.ensures.read in
    stopped is.passes is.ends

pub returns-in-Ok : goal.returns-in-Ok
returns-in-Ok g c =
    let is = rw (c.at.ensures, c.cells-cells.ensures.value) at c.in-Ok.ensures.read in
    let made = rw c.deref.ensures.value at c.texts_of-made.ensures in
    went_on is.passes is.right
    (acted (two_done (λ file one. one) c.texts_of-made.result (λ t. t.first.items) (λ t. t.second.items) made.made made.called made.unmade c.write_texts.ensures.written c.write_texts.ensures.unmade))
