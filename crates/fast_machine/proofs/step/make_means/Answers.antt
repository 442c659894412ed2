use Rattle.std.proofs.Common.{◌≡◌, ◌^◌, ◌*ℤ◌, ℤ, List, pos, arith, FitsSigned, sym, subst, ◌∙◌}
use Rattle.std.specs.Int.{w128}
use Rattle.std.proofs.lemmas.Int.{to_z-of_z}
use Rattle.std.proofs.lemmas.List.{ext_get_or}
use Rattle.std.proofs.lemmas.List.Edits.{fill_by_more}
use Rattle.qp_model.specs.machine.Controller.{numbers}
use Rattle.qp_model.specs.machine.Machine.{lowering_of}
use Rattle.qp_model.specs.machine.AbsoluteSums.{clamp_magnitudes}
use Rattle.qp_model.specs.machine.Within.{AreWithin}
use Rattle.overflow_check.specs.FastMachine.{mean_at, means_of}
use Rattle.fast_machine.proofs.FastRuns.{means_long, mean_item, means_within}
use Rattle.fast_machine.proofs.step.make_means.Goals as goal

pub loop-i-preserved : goal.loop-i-preserved
loop-i-preserved c =
    let n = numbers c.args.c.now in
    let mean : FitsSigned w128 c.raised_mean_at.result = record { sfits = c.raised_mean_at.type_inv } in
    let is = to_z-of_z w128 _ mean ∙ c.raised_mean_at.ensures in
    rw is (fill_by_more (λ j. mean_at c.args.k c.args.multipliers.now c.args.reached.now j *ℤ pos (2 ^ lowering_of n j)) c.loop-i.means c.loop-i.i (pos 0) (omega arith) c.loop-i.invariant)

all_made : (c : goal.After-loop-i) → c.loop-i.means ≡ means_of (numbers c.args.c.now) c.args.k c.args.multipliers.now c.args.reached.now
all_made c =
    let n = numbers c.args.c.now in
    let long = means_long n c.args.k c.args.multipliers.now c.args.reached.now in
    ext_get_or (pos 0) c.loop-i.means (means_of n c.args.k c.args.multipliers.now c.args.reached.now) (omega (arith, long, c.requires.long))
    (λ j h. c.loop-i.invariant j (omega (arith, h, c.requires.long)) ∙ sym (mean_item n c.args.k c.args.multipliers.now c.args.reached.now j (omega (arith, h, c.requires.long))))

pub returns-clause-value : goal.returns-clause-value
returns-clause-value c = all_made c

pub returns-clause-within : goal.returns-clause-within
returns-clause-within c =
    let n = numbers c.args.c.now in
    subst (λ (xs : List ℤ). AreWithin xs (clamp_magnitudes n)) (sym (all_made c)) (means_within n c.args.k c.args.multipliers.now c.args.reached.now c.requires.sound.form.sized.rest.clamp_low c.requires.ready)
