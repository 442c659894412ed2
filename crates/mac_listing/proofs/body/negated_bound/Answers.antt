use Rattle.std.proofs.Common.{◌≡◌, ◌≤◌, ◌^◌, ℤ, pos, ◌-ℤ◌, neg_ℤ, FitsSigned, unsigned_abs, arith, rules}
use Rattle.std.specs.Int.{w128}
use Rattle.std.proofs.lemmas.Int.{ints, to_z-of_z, fits_signed_from_abs}
use Rattle.std.proofs.lemmas.List.{get_or_read}
use Rattle.integer_algebra.specs.Sums.{at}
use Rattle.qp_model.specs.machine.Controller.{numbers}
use Rattle.mac_listing.proofs.Ranges.{bound_below}
use Rattle.mac_listing.proofs.body.negated_bound.Goals as goal

-- what is read is the bound, and with the other sign it fits
negated_fits : (x bound : ℤ) → x ≡ bound → unsigned_abs bound ≤ 2 ^ 126 → FitsSigned w128 (pos 0 -ℤ x)
negated_fits x bound e h = fits_signed_from_abs w128 _ (omega (arith, ints, e, h))

negated_is : (x bound : ℤ) → x ≡ bound → pos 0 -ℤ x ≡ neg_ℤ bound
negated_is x bound e = omega (arith, ints, e)

pub overflow_sub-result : goal.overflow_sub-result
overflow_sub-result c =
    let x : FitsSigned w128 c.index.result.now = search rules in
    let read = get_or_read c.args.c.now.bound.items c.args.i c.index.result.now c.requires.in_range c.index.ensures (pos 0) in
    rw (to_z-of_z w128 _ x) (negated_fits c.index.result.now (at c.args.c.now.bound.items c.args.i) read (bound_below (numbers c.args.c.now) c.args.i c.requires.sound c.requires.in_range))

pub returns : goal.returns
returns c =
    let x : FitsSigned w128 c.index.result.now = search rules in
    let read = get_or_read c.args.c.now.bound.items c.args.i c.index.result.now c.requires.in_range c.index.ensures (pos 0) in
    let fits = negated_fits c.index.result.now (at c.args.c.now.bound.items c.args.i) read (bound_below (numbers c.args.c.now) c.args.i c.requires.sound c.requires.in_range) in
    rw (to_z-of_z w128 _ x, to_z-of_z w128 _ fits) (negated_is c.index.result.now (at c.args.c.now.bound.items c.args.i) read)
