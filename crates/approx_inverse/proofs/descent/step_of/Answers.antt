use Rattle.std.proofs.Common.{◌^◌, ◌≤◌, ℤ, pos, ◌*ℤ◌, ◌+ℤ◌, ◌≤ℤ◌, unsigned_abs, FitsSigned, arith, rules}
use Rattle.std.specs.Int.{w128}
use Rattle.std.proofs.lemmas.Int.{ints, to_z-of_z}
use Rattle.approx_inverse.specs.Spans.{cells}
use Rattle.approx_inverse.proofs.descent.step_of.Goals as goal

pub nearest-requires : goal.nearest-requires
nearest-requires c =
    let x : FitsSigned w128 c.word-rest.result = search rules in
    let y : FitsSigned w128 c.at-diagonal.result = search rules in
    let r = cells c.args.region.now.words c.args.r.now.start c.args.j in
    record {
      positive = rw (to_z-of_z w128 _ y, c.at-diagonal.ensures) c.requires.positive;
      doubled = rw (to_z-of_z w128 _ y, c.at-diagonal.ensures) (doubled _ c.requires.positive c.requires.diagonal);
      sum = rw (to_z-of_z w128 _ x, to_z-of_z w128 _ y, c.at-diagonal.ensures, c.word-rest.ensures) (sum r _ c.requires.small c.requires.positive c.requires.diagonal);
      twice = rw (to_z-of_z w128 _ x, c.word-rest.ensures) (twice r c.requires.small);
    }
  where
    doubled : (d : ℤ) → pos 1 ≤ℤ d → d ≤ℤ pos (2 ^ 125) → FitsSigned w128 (pos 2 *ℤ d)
    doubled d h k = omega (arith, ints, h, k)

    sum : (r d : ℤ) → unsigned_abs r ≤ 2 ^ 125 → pos 1 ≤ℤ d → d ≤ℤ pos (2 ^ 125) → FitsSigned w128 (pos 2 *ℤ r +ℤ d)
    sum r d f h k = omega (arith, ints, f, h, k)

    twice : (r : ℤ) → unsigned_abs r ≤ 2 ^ 125 → FitsSigned w128 (pos 2 *ℤ r)
    twice r f = omega (arith, ints, f)

pub returns : goal.returns
returns c =
    let x : FitsSigned w128 c.word-rest.result = search rules in
    let y : FitsSigned w128 c.at-diagonal.result = search rules in
    let q : FitsSigned w128 c.nearest.result = search rules in
    rw (to_z-of_z w128 _ q) (rw (to_z-of_z w128 _ x, to_z-of_z w128 _ y, c.at-diagonal.ensures, c.word-rest.ensures) at c.nearest.ensures)
