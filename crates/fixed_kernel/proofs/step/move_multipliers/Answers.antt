use Rattle.fixed_kernel.proofs.Raised.{within_clamp}
use Rattle.std.proofs.Common.{◌≡◌, ◌≢◌, ◌<◌, length, pos, get_or, get_or-set_other, rules, arith, FitsSigned, sym, ◌∙◌}
use Rattle.std.specs.Int.{w128}
use Rattle.std.proofs.lemmas.Int.{to_z-of_z}
use Rattle.std.proofs.lemmas.List.Edits.{fill_by_more}
use Rattle.std.proofs.lemmas.List.FromFn.{fill_by_all}
use Rattle.qp_model.specs.machine.Controller.{numbers}
use Rattle.qp_model.specs.machine.Machine.{next_multiplier}
use Rattle.qp_model.proofs.VersionLaws.{first_top}
use Rattle.overflow_check.proofs.Sizes.{length-clamp_reach}
use Rattle.fixed_kernel.proofs.Raised.{moved_is}
use Rattle.fixed_kernel.proofs.step.move_multipliers.Goals as goal

pub loop-i-preserved : goal.loop-i-preserved
loop-i-preserved c =
    let n = numbers c.args.c.now in
    let sized = c.requires.setting.sound.form.sized in
    let i = c.loop-i.i in
    let made : FitsSigned w128 c.multiplier_at.result = search rules in
    let old : FitsSigned w128 (get_or c.loop-i.multipliers i (pos 0)) = search rules in
    let clamp : FitsSigned w128 n.clamp = search rules in
    let lt : i < length c.loop-i.multipliers = omega arith in
    let row : i < n.rows = omega (arith, c.requires.multipliers.long, length-clamp_reach n, sized.shaped.bounds) in
    let same = c.loop-i.invariant.others i (omega arith) in
    let moved : c.multiplier_at.result ≡ next_multiplier n c.args.state.now c.args.plan.now (get_or c.args.multipliers.now i (pos 0)) i =
    rw (to_z-of_z w128 _ clamp, to_z-of_z w128 _ old, same) at c.multiplier_at.ensures
    ∙ moved_is n c.args.state.now c.args.plan.now (get_or c.args.multipliers.now i (pos 0)) n.clamp i (sym (first_top n sized c.requires.first i row)) in
    record {
      moved = rw (to_z-of_z w128 _ made, moved)
          (fill_by_more (λ k. next_multiplier n c.args.state.now c.args.plan.now (get_or c.args.multipliers.now k (pos 0)) k) c.loop-i.multipliers i (pos 0) lt c.loop-i.invariant.moved);
      others = λ k h. let ne : k ≢ i = omega arith in rw get_or-set_other (c.loop-i.invariant.others k (omega arith));
    }

pub returns : goal.returns
returns c =
    fill_by_all (λ k. next_multiplier (numbers c.args.c.now) c.args.state.now c.args.plan.now (get_or c.args.multipliers.now k (pos 0)) k) c.loop-i.multipliers
    (length c.args.c.now.bound.items) (pos 0) (omega (arith, c.requires.multipliers.long, length-clamp_reach (numbers c.args.c.now)))
    (λ k h. c.loop-i.invariant.moved k (omega (arith, c.requires.multipliers.long, length-clamp_reach (numbers c.args.c.now))))

pub multiplier_at-requires : goal.multiplier_at-requires
multiplier_at-requires c =
    let n = numbers c.args.c.now in
    let i = c.loop-i.i in
    let old : FitsSigned w128 (get_or c.loop-i.multipliers i (pos 0)) = search rules in
    let row : i < length n.bounds = omega (arith, c.requires.multipliers.long, length-clamp_reach n) in
    let same = c.loop-i.invariant.others i (omega arith) in
    record { setting = c.requires.setting; plan = c.requires.plan; old = rw (to_z-of_z w128 _ old, same) (within_clamp n c.args.multipliers.now i row c.requires.multipliers); in_range = row }
