use Rattle.std.proofs.Common.{◌≡◌, ◌^◌, ◌∙◌, ℤ, ℕ, FitsSigned, ap, rules, arith}
use Rattle.std.specs.Int.{w128}
use Rattle.std.proofs.lemmas.Int.{ints, to_z-of_z}
use Rattle.integer_algebra.specs.Division.{floor_of}
use Rattle.qp_model.specs.machine.Controller.{numbers}
use Rattle.qp_model.specs.machine.Machine.{top_of}
use Rattle.qp_model.proofs.MagnitudeLaws.{top_le_clamp}
use Rattle.c_writer.proofs.tops.top_at.Goals as goal

pub returns-clause-small : goal.returns-clause-small
returns-clause-small c =
    let n = numbers c.args.c.now in
    let f : FitsSigned w128 c.floor_shift.result = search rules in
    let x : FitsSigned w128 c.args.c.now.clamp = search rules in
    let v : c.floor_shift.result ≡ top_of n c.args.i =
    c.floor_shift.ensures.value ∙ ap (λ (z : ℤ). floor_of z (2 ^ c.lowering_at.result)) (to_z-of_z w128 _ x) ∙ ap (λ (k : ℕ). floor_of n.clamp (2 ^ k)) c.lowering_at.ensures.value in
    rw (to_z-of_z w128 _ f, v) (omega (arith, ints, top_le_clamp n c.args.i, c.requires.sound.form.sized.clamp_low, c.requires.sound.form.sized.clamp_high))
