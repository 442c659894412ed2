use Rattle.std.proofs.Common.{◌≡◌, ◌≤◌, ◌^◌, ◌∙◌, ℕ, ℤ, pos, ◌*ℤ◌, FitsSigned, ap, sym, subst, arith, rules}
use Rattle.std.specs.Int.{w128}
use Rattle.std.proofs.lemmas.Int.{to_z-of_z, fits_signed_from_abs}
use Rattle.qp_model.proofs.AbsoluteLaws.{abs-shifted}
use Rattle.mac_listing.proofs.Ranges.{denominator_le}
use Rattle.mac_listing.proofs.listing.denominator_of.Goals as goal

denominator_fits : (x : ℤ) (k f : ℕ) → x ≡ pos k → k ≤ 4194304 → f ≤ 48 → FitsSigned w128 (x *ℤ pos (2 ^ f))
denominator_fits x k f e a b =
    subst (λ (z : ℤ). FitsSigned w128 (z *ℤ pos (2 ^ f))) (sym e) (fits_signed_from_abs w128 _ (omega (arith, abs-shifted (pos k) f, denominator_le k f a b)))

pub scaled-requires-clause-fits : goal.scaled-requires-clause-fits
scaled-requires-clause-fits c =
    let s = c.requires.form.sized in
    let x : FitsSigned w128 c.from.result = search rules in
    rw (to_z-of_z w128 _ x) (denominator_fits c.from.result c.args.c.now.steps c.args.c.now.f c.from.ensures s.steps.1 s.fraction_bits.1)

pub returns : goal.returns
returns c =
    let x : FitsSigned w128 c.from.result = search rules in
    let made : FitsSigned w128 c.scaled.result = search rules in
    rw (to_z-of_z w128 _ made) (c.scaled.ensures ∙ ap (λ (z : ℤ). z *ℤ pos (2 ^ c.args.c.now.f)) (to_z-of_z w128 _ x ∙ c.from.ensures))
