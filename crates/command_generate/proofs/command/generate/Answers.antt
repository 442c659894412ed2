use Rattle.std.proofs.Common.{arith, sym}
use Rattle.command_line.specs.Does.{DoesInStore}
use Rattle.command_line.proofs.Following.{stopped, went_on, acted, follows}
use Rattle.command_line.proofs.TwoTexts.{two_done}
use Rattle.command_generate.specs.Generate.{plain_work, plain_deeds}
use Rattle.command_generate.proofs.Written.{generate_sound, generated}
use Rattle.command_generate.proofs.command.generate.Goals as goal

-- the design's file ends it
pub returns-in-Err : goal.returns-in-Err
returns-in-Err g c =
    let words = c.args.words.now in
    let is = rw c.at.ensures at c.in-Err.ensures in
    let does : DoesInStore g.S.Store words plain_deeds c.args.store.now c.read_design_file.new.store c.in-Err.ended =
    follows plain_work generate_sound (stopped is.passes is.ends) in
    record { generated = λ done. generated words _ _ _ done does.leaves; does = does }

-- the policy's does
pub returns : goal.returns
returns g c =
    let words = c.args.words.now in
    let first = rw c.at.ensures at c.in-Ok.ensures in
    let is = rw c.at-2.ensures at c.in-Err-read_policy_file.ensures.read in
    let does : DoesInStore g.S.Store words plain_deeds c.args.store.now c.read_policy_file.new.store c.in-Err-read_policy_file.status =
    follows plain_work generate_sound
    (went_on first.passes first.right (stopped is.passes is.ends)) in
    record { generated = λ done. generated words _ _ _ done does.leaves; does = does }

-- both are right
pub returns-in-Ok-read_policy_file : goal.returns-in-Ok-read_policy_file
returns-in-Ok-read_policy_file g c =
    let words = c.args.words.now in
    let first = rw c.at.ensures at c.in-Ok.ensures in
    let is = rw c.at-2.ensures at c.in-Ok-read_policy_file.ensures.read in
    let made = rw c.at-in-Ok-read_policy_file.ensures at c.texts_of-made.ensures in
    let does : DoesInStore g.S.Store words plain_deeds c.args.store.now c.write_texts.new.store c.write_texts.result =
    follows plain_work generate_sound
    (went_on first.passes first.right
    (went_on is.passes is.right
    (acted (two_done (λ file one. one) c.texts_of-made.result (λ t. t.first.items) (λ t. t.second.items) made.made made.called made.unmade c.write_texts.ensures.written c.write_texts.ensures.unmade)))) in
    record { generated = λ done. generated words _ _ _ done does.leaves; does = does }

pub write_texts-requires : goal.write_texts-requires
write_texts-requires g c = record { first = omega (arith, c.requires.count); second = omega (arith, c.requires.count); apart = λ e. c.requires.report 3 (omega arith) (omega (arith, c.requires.count)) (λ k. omega (arith, k)) (sym e) }
