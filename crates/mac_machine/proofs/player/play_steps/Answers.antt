use Rattle.std.proofs.Common.{◌≡◌, pos, ap, refl, sym, subst, ◌∙◌, arith, FitsSigned, to_z, rules, below_more}
use Rattle.std.specs.Int.{w128}
use Rattle.std.proofs.lemmas.Int.{to_z-of_z}
use Rattle.mac_machine.specs.Machine.{Held, holding, played, OpsFit, repeated}
use Rattle.mac_machine.proofs.Repeats.{held_same, repeated_more}
use Rattle.mac_machine.proofs.player.play_steps.Goals as goal

pub loop-step-init : goal.loop-step-init
unfolding repeated
loop-step-init c = record { room = λ k l. absurd (omega (arith, l)); ends = refl; long = refl }

pub loop-step-preserved : goal.loop-step-preserved
loop-step-preserved c =
    let w = c.args.l.now.word in
    let body = c.args.l.now.body.items in
    let start = holding (pos 0) c.args.words.now in
    let step = c.loop-step.step in
    let t = holding (to_z w128 c.loop-step.acc-bits) c.loop-step.words in
    let come : repeated body step start ≡ t = c.loop-step.invariant.ends in
    let room : OpsFit w body t = rw c.deref.ensures.value at c.in-Ok.ensures.room in
    let next : FitsSigned w128 c.in-Ok.next = search rules in
    let ends : played body t ≡ holding c.in-Ok.next c.play_body.new.words = rw c.deref.ensures.value at c.in-Ok.ensures.ends in
    record {
      room = below_more (λ k. OpsFit w body (repeated body k start)) step c.loop-step.invariant.room (subst (λ (h : Held). OpsFit w body h) (sym come) room);
      ends = repeated_more body step start ∙ ap (played body) come ∙ ends ∙ held_same _ _ c.play_body.new.words _ (sym (to_z-of_z w128 _ next)) refl;
      long = c.in-Ok.ensures.long ∙ c.loop-step.invariant.long;
    }
