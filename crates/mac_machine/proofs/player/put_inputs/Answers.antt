use Rattle.std.proofs.Common.{◌<◌, ◌≤◌, ◌^◌, ◌∙◌, ℤ, pos, ◌*ℤ◌, length, ap, subst, arith, rules, below_more, FitsSigned}
use Rattle.std.specs.Int.{w128}
use Rattle.std.proofs.lemmas.Int.{to_z-of_z}
use Rattle.std.proofs.lemmas.List.{length-set}
use Rattle.std.proofs.lemmas.List.Edits.{fill_by_more}
use Rattle.integer_algebra.specs.Sums.{at}
use Rattle.qp_model.specs.machine.ValuesMet.{FitsWidth}
use Rattle.mac_listing.specs.Listing.{instructions}
use Rattle.mac_machine.proofs.Inputs.{begun_there, inputs_fit, number_fits}
use Rattle.mac_machine.proofs.player.put_inputs.Goals as goal

pub returns-in-None-clause-room : goal.returns-in-None-clause-room
returns-in-None-clause-room c =
    let number : FitsSigned w128 c.number_at.result = search rules in
    let read = to_z-of_z w128 _ number ∙ c.number_at.ensures in
    let none = subst (λ (z : ℤ). ¬ FitsWidth c.args.l.now.word (z *ℤ pos (2 ^ c.args.l.now.shift))) read c.in-None.ensures in
    (λ e. cc, λ all. absurd (none (number_fits (instructions c.args.l.now) c.args.state.now c.loop-i.i all)))

pub loop-i-preserved : goal.loop-i-preserved
loop-i-preserved c =
    let i = c.loop-i.i in
    let xi = c.args.state.now in
    let shift = c.args.l.now.shift in
    let number : FitsSigned w128 c.number_at.result = search rules in
    let word : FitsSigned w128 c.in-Some.word = search rules in
    let read = to_z-of_z w128 _ number ∙ c.number_at.ensures in
    let lt : i < length c.loop-i.words = omega arith in
    let made = to_z-of_z w128 _ word ∙ c.in-Some.ensures.1 ∙ ap (λ (z : ℤ). z *ℤ pos (2 ^ shift)) read in
    record {
      words = rw made (fill_by_more (λ k. at xi k *ℤ pos (2 ^ shift)) c.loop-i.words i (pos 0) lt c.loop-i.invariant.words);
      room = below_more (λ k. FitsWidth c.args.l.now.word (at xi k *ℤ pos (2 ^ shift))) i c.loop-i.invariant.room
          (subst (λ (z : ℤ). FitsWidth c.args.l.now.word (z *ℤ pos (2 ^ shift))) read c.in-Some.ensures.0);
      long = length-set c.loop-i.words i _ ∙ c.loop-i.invariant.long;
    }

pub returns-clause-room : goal.returns-clause-room
returns-clause-room c =
    let past : c.args.l.now.words ≤ c.loop-i.i = omega (arith, c.loop-i.invariant.long, c.requires.long) in
    (λ e. inputs_fit (instructions c.args.l.now) c.args.state.now c.loop-i.i c.requires.sound c.requires.state past c.loop-i.invariant.room, λ all. cc)

pub returns-clause-words : goal.returns-clause-words
returns-clause-words c =
    let past : c.args.l.now.words ≤ c.loop-i.i = omega (arith, c.loop-i.invariant.long, c.requires.long) in
    λ e. begun_there (instructions c.args.l.now) c.args.state.now c.loop-i.words c.loop-i.i c.requires.sound c.requires.state (c.loop-i.invariant.long ∙ c.requires.long) past c.loop-i.invariant.words
