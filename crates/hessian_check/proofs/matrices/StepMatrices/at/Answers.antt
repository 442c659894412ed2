use Rattle.std.proofs.Common.{◌≡◌, ◌^◌, ◌*ℤ◌, pos, length, ap, rules, unsigned_abs, FitsSigned, ◌∙◌}
use Rattle.std.specs.Int.{w128}
use Rattle.std.proofs.lemmas.Int.{to_z-of_z, unsigned_abs-mul}
use Rattle.mat_int.specs.Matrix.{entry_of}
use Rattle.hessian_check.proofs.MatrixLaws.{scaled_fits, factor_fits, entry_room, entries_as}
use Rattle.hessian_check.proofs.matrices.StepMatrices.at.Goals as goal

pub scaled-requires-clause-fits : goal.scaled-requires-clause-fits
scaled-requires-clause-fits c =
    let g = c.args.self.now in
    rw (to_z-of_z w128 _ (factor_fits g.cost_factor g.sound.cost_low g.sound.cost_high))
    (scaled_fits g.cost_factor c.args.s g.sound.cost_low g.sound.cost_high c.requires.small)

pub mix-requires-clause-room : goal.mix-requires-clause-room
mix-requires-clause-room c =
    let g = c.args.self.now in
    let n = length g.cost.rows in
    let a = factor_fits g.cost_factor g.sound.cost_low g.sound.cost_high in
    let b : FitsSigned w128 g.row_factor = search rules in
    let x : FitsSigned w128 c.scaled.result = search rules in
    let e : c.scaled.result ≡ g.cost_factor *ℤ pos (2 ^ c.args.s) = rw (to_z-of_z w128 _ a) at c.scaled.ensures in
    rw (to_z-of_z w128 _ x, to_z-of_z w128 _ b) (λ i j k l.
    entry_room (2 ^ c.args.s) (unsigned_abs g.cost_factor) (unsigned_abs g.row_factor) n (entry_of g.cost i) (entry_of g.rows i) c.scaled.result j l
    (ap unsigned_abs e ∙ unsigned_abs-mul g.cost_factor (pos (2 ^ c.args.s))) (c.requires.room i k))

pub returns : goal.returns
returns c =
    let g = c.args.self.now in
    let a = factor_fits g.cost_factor g.sound.cost_low g.sound.cost_high in
    let b : FitsSigned w128 g.row_factor = search rules in
    let x : FitsSigned w128 c.scaled.result = search rules in
    let e : c.scaled.result ≡ g.cost_factor *ℤ pos (2 ^ c.args.s) = rw (to_z-of_z w128 _ a) at c.scaled.ensures in
    entries_as c.mix.result (length g.cost.rows) (pos (2 ^ c.args.s)) g.cost_factor g.row_factor (entry_of g.cost) (entry_of g.rows)
    (rw (to_z-of_z w128 _ x, to_z-of_z w128 _ b, e) at c.mix.ensures)
