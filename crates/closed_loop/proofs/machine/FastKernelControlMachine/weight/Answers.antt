use Rattle.std.proofs.Common.{◌∙◌, ◌*◌, ◌^◌, ap, subst, pos, arith, rules, FitsSigned}
use Rattle.std.specs.Int.{w128}
use Rattle.std.proofs.lemmas.Int.{to_z-of_z}
use Rattle.std.proofs.lemmas.Nat.{pow_pos}
use Rattle.std.proofs.Math.Nat.{mul-div_cancel}
use Rattle.integer_algebra.specs.Division.{floor_of}
use Rattle.qp_model.specs.machine.Controller.{Numbers}
use Rattle.overflow_check.specs.FastMachine.{all_weights}
use Rattle.closed_loop.specs.Looping.{IsLooping, looping_of_fast}
use Rattle.closed_loop.proofs.Sound.{fast_sound}
use Rattle.closed_loop.proofs.machine.FastKernelControlMachine.weight.Goals as goal

-- the denominator without its power of two
pub returns-clause-value : goal.returns-clause-value
returns-clause-value c =
    let n = c.args.self.now.controller in
    let all = all_weights n.steps in
    let denominator : FitsSigned w128 c.fast_denominator.result = search rules in
    let whole : FitsSigned w128 c.floor_shift.result = search rules in
    rw (to_z-of_z w128 _ whole, c.floor_shift.ensures.value, to_z-of_z w128 _ denominator, c.fast_denominator.ensures)
    (ap (λ (m : Numbers). floor_of (pos (all * 2 ^ n.fraction_bits)) (2 ^ m.fraction_bits)) c.parts.ensures.value ∙ ap pos (mul-div_cancel all (omega (arith, pow_pos n.fraction_bits))))

pub returns-clause-sound : goal.returns-clause-sound
returns-clause-sound c = subst (λ (n : Numbers). IsLooping (looping_of_fast n)) c.parts.ensures.value (fast_sound _ c.parts.ensures.sound)
