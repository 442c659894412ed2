use Rattle.std.specs.Int.{w128}
use Rattle.std.proofs.lemmas.Int.{to_z-of_z}
use Rattle.controller_maker.proofs.Roundings.{scaled_fits}
use Rattle.std.proofs.Common.{rules, FitsSigned, ◌^◌, ℤ, pos, ap, unsigned_abs}
use Rattle.std.proofs.Math.IntN.{*ℤ_comm}
use Rattle.integer_algebra.specs.Division.{round_of}
use Rattle.controller_maker.proofs.rounding.round_entry.Goals as goal

pub scaled-requires-clause-fits : goal.scaled-requires-clause-fits
scaled-requires-clause-fits c = rw (to_z-of_z w128 _ c.ranges.x) (scaled_fits c.args.x c.args.f c.requires.small c.requires.bits)

pub round_div-requires : goal.round_div-requires
round_div-requires c = rw (to_z-of_z w128 _ c.ranges.den) c.requires.den

pub returns : goal.returns
returns c =
    let s : FitsSigned w128 c.scaled.result = search rules in
    let r : FitsSigned w128 c.round_div.result = search rules in
    rw (to_z-of_z w128 _ r, c.round_div.ensures, to_z-of_z w128 _ s, c.scaled.ensures, to_z-of_z w128 _ c.ranges.x, to_z-of_z w128 _ c.ranges.den)
    (ap (λ (z : ℤ). round_of z (unsigned_abs c.args.den)) (*ℤ_comm c.args.x (pos (2 ^ c.args.f))))
