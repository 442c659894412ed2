use Rattle.std.proofs.Common.{◌<◌, length, pos, arith, rules, FitsSigned, ap, subst, sym, ◌∙◌}
use Rattle.std.specs.Int.{w128}
use Rattle.std.proofs.lemmas.Int.{to_z-of_z}
use Rattle.std.proofs.lemmas.List.{get_or_read}
use Rattle.integer_algebra.specs.Sums.{at}
use Rattle.overflow_check.specs.FastMachine.{FastIterate}
use Rattle.fast_machine.specs.FastProgress.{FastProgress, fast_made_of}
use Rattle.fast_machine.proofs.FastHeld.{ready}
use Rattle.fast_machine.proofs.kernel.FastKernel.multiplier.Goals as goal

pub index-requires : goal.index-requires
index-requires c =
    let k = c.self.inside in
    let r = c.self.invariant in
    let lt = subst (λ (p : FastProgress). c.args.i < p.controller.rows) (sym c.self.view_is) c.requires in
    omega (arith, lt, (ready k r).rows.multipliers_long, r.sound.form.sized.rest.shaped.bounds, k.multipliers.ok.0)

pub returns : goal.returns
returns c =
    let k = c.self.inside in
    let r = c.self.invariant in
    let fits : FitsSigned w128 c.index.result.now = search rules in
    let lt = subst (λ (p : FastProgress). c.args.i < p.controller.rows) (sym c.self.view_is) c.requires in
    let inside : c.args.i < length k.multipliers.items = omega (arith, lt, (ready k r).rows.multipliers_long, r.sound.form.sized.rest.shaped.bounds) in
    to_z-of_z w128 _ fits ∙ get_or_read k.multipliers.items c.args.i c.index.result.now inside c.index.ensures (pos 0)
    ∙ ap (λ (m : FastIterate). at m.multipliers c.args.i) r.held ∙ ap (λ (p : FastProgress). at (fast_made_of p).multipliers c.args.i) c.self.view_is
