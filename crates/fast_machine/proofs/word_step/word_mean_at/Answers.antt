use Rattle.std.proofs.Common.{pos, get_or, rules, arith, FitsSigned}
use Rattle.std.specs.Int.{w64}
use Rattle.std.proofs.lemmas.Int.{to_z-of_z}
use Rattle.qp_model.specs.machine.Controller.{numbers}
use Rattle.fast_machine.proofs.FastWordRooms.{mean_word_room, raised_narrow}
use Rattle.fast_machine.proofs.word_step.word_mean_at.Goals as goal

pub word_mean-mean-requires : goal.word_mean-mean-requires
word_mean-mean-requires c =
    let r = c.requires.ready in
    let v : FitsSigned w64 (get_or c.args.multipliers.now c.args.i (pos 0)) = search rules in
    let s : FitsSigned w64 (get_or c.args.reached.now c.args.i (pos 0)) = search rules in
    record {
      step = omega (arith, c.requires.step, c.requires.sound.form.sized.steps);
      room = rw (to_z-of_z w64 _ v, to_z-of_z w64 _ s)
          (mean_word_room (numbers c.args.c.now) c.args.multipliers.now c.args.reached.now c.args.k c.args.i c.requires.sound c.requires.words c.requires.step c.requires.in_range r);
    }

pub word_raised-requires : goal.word_raised-requires
word_raised-requires c =
    let r = c.requires.ready in
    let v : FitsSigned w64 (get_or c.args.multipliers.now c.args.i (pos 0)) = search rules in
    let s : FitsSigned w64 (get_or c.args.reached.now c.args.i (pos 0)) = search rules in
    let mean : FitsSigned w64 c.word_mean-mean.result = search rules in
    record {
      bits = omega (arith, c.lowering_at.ensures.bits);
      room = rw (c.lowering_at.ensures.value, to_z-of_z w64 _ mean, c.word_mean-mean.ensures, to_z-of_z w64 _ v, to_z-of_z w64 _ s)
          (raised_narrow (numbers c.args.c.now) c.args.multipliers.now c.args.reached.now c.args.k c.args.i c.requires.sound c.requires.words c.requires.in_range r);
    }
