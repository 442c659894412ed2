use Rattle.std.proofs.Common.{◌≡◌, ◌+◌, ◌-◌, ℤ, List, length, ap, refl, sym, subst, ◌∙◌, arith, FitsSigned, to_z, rules}
use Rattle.std.specs.Int.{w128}
use Rattle.std.proofs.lemmas.Int.{to_z-of_z}
use Rattle.mac_machine.specs.Machine.{holding, played, OpsFit}
use Rattle.mac_machine.specs.Traps.{TrapsAt}
use Rattle.mac_machine.proofs.Repeats.{come_more, come_trap, come_from, from_again, held_same, words_after_long}
use Rattle.mac_machine.proofs.player.play_body.Goals as goal

pub loop-op-init : goal.loop-op-init
unfolding played OpsFit
loop-op-init c = record { place = refl; room = tt; ends = refl; long = refl }

pub returns-in_default-clause-traps : goal.returns-in_default-clause-traps
returns-in_default-clause-traps c =
    let i = c.loop-op.op-index in
    let start = holding c.args.acc c.args.words.now in
    let t = holding (to_z w128 c.loop-op.sum-bits) c.loop-op.words in
    let come = come_from c.args.w c.args.body.now c.args.acc _ c.args.words.now i t (to_z-of_z w128 _ c.ranges.acc) c.loop-op.invariant.room c.loop-op.invariant.ends in
    let here : i ≡ c.loop-op.place - 1 = omega (arith, c.loop-op.invariant.place) in
    subst (TrapsAt c.args.w c.args.body.now start) here (come_trap c.args.w c.args.body.now start i t _ c.loop-op-test.true come c.in_default.ensures.result)

pub loop-op-preserved : goal.loop-op-preserved
loop-op-preserved c =
    let i = c.loop-op.op-index in
    let start = holding c.args.acc c.args.words.now in
    let t = holding (to_z w128 c.loop-op.sum-bits) c.loop-op.words in
    let come = come_from c.args.w c.args.body.now c.args.acc _ c.args.words.now i t (to_z-of_z w128 _ c.ranges.acc) c.loop-op.invariant.room c.loop-op.invariant.ends in
    let more = come_more c.args.w c.args.body.now start i t _ c.loop-op-test.true come c.in-Some.ensures.result.0 in
    let next : FitsSigned w128 c.in-Some.next = search rules in
    let again = from_again c.args.w c.args.body.now c.args.acc _ c.args.words.now (i + 1) _ _ (to_z-of_z w128 _ c.ranges.acc)
    (sym (held_same _ _ _ _ (to_z-of_z w128 _ next ∙ c.in-Some.ensures.result.1) c.in-Some.ensures.words)) more in
    record {
      place = omega (arith, c.loop-op.invariant.place);
      room = again.room;
      ends = again.ends;
      long = ap (λ (ws : List ℤ). length ws) c.in-Some.ensures.words ∙ words_after_long _ t ∙ c.loop-op.invariant.long;
    }
