use Rattle.std.proofs.Common.{◌^◌, ◌∙◌, ℕ, ℤ, pos, ◌*ℤ◌, FitsSigned, to_z, of_z, ap, rules, arith}
use Rattle.std.specs.Int.{w128}
use Rattle.std.proofs.lemmas.Int.{to_z-of_z, fits_signed_from_abs}
use Rattle.integer_algebra.specs.Division.{floor_of}
use Rattle.qp_model.specs.machine.Controller.{Numbers, numbers}
use Rattle.overflow_check.specs.FastController.{IsFastController}
use Rattle.fast_machine.proofs.FastRuns.{twice_abs, top_le}
use Rattle.c_writer.proofs.Held.{twice_clamp_room}
use Rattle.c_writer.proofs.tops.fast_top_at.Goals as goal

twice_fits : (n : Numbers) → IsFastController n → FitsSigned w128 (pos 2 *ℤ n.clamp)
twice_fits n sound = fits_signed_from_abs w128 _ (omega (arith, twice_abs n.clamp, twice_clamp_room n sound))

pub overflow_mul-from : goal.overflow_mul-from
overflow_mul-from c =
    let n = numbers c.args.from.now.c.now in
    let x : FitsSigned w128 c.args.from.now.c.now.clamp = search rules in
    rw (to_z-of_z w128 _ x) (twice_fits n (c.args.from.now.fast c.requires.machine))

pub returns-clause-value : goal.returns-clause-value
returns-clause-value c =
    let n = numbers c.args.from.now.c.now in
    let x : FitsSigned w128 c.args.from.now.c.now.clamp = search rules in
    let f : FitsSigned w128 c.floor_shift.result = search rules in
    let power = 2 ^ c.lowering_at.result in
    to_z-of_z w128 _ f ∙ c.floor_shift.ensures.value ∙
    ap (λ (z : ℤ). floor_of (to_z w128 (of_z w128 (pos 2 *ℤ z))) power) (to_z-of_z w128 _ x) ∙
    ap (λ (z : ℤ). floor_of z power) (to_z-of_z w128 _ (twice_fits n (c.args.from.now.fast c.requires.machine))) ∙
    ap (λ (k : ℕ). floor_of (pos 2 *ℤ n.clamp) (2 ^ k)) c.lowering_at.ensures.value

pub returns-clause-small : goal.returns-clause-small
returns-clause-small c =
    let n = numbers c.args.from.now.c.now in
    rw (returns-clause-value c) (omega (arith, top_le n c.args.i, twice_clamp_room n (c.args.from.now.fast c.requires.machine)))
