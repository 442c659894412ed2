use Rattle.std.proofs.Common.{rules, ◌+◌, ◌^◌, arith}
use Rattle.std.specs.Int.{w128}
use Rattle.std.proofs.lemmas.Int.{to_z-of_z}
use Rattle.std.proofs.Math.Nat.{one-le-mul}
use mir.Val.{SFits}
use Rattle.dual_bounds.proofs.NumberFacts.{shifted}
use Rattle.design_engine.proofs.bounds.plain_run.Goals as goal

pub returns-clause-within : goal.returns-clause-within
returns-clause-within c =
    let x = c.args.run in
    let r : SFits w128 x.r = search rules in
    let e : SFits w128 x.eps = search rules in
    rw (to_z-of_z w128 _ r, to_z-of_z w128 _ e) (record {
      exponent = omega (arith, c.requires.exponent);
      some = c.requires.some;
      narrow = shifted (x.s + 2) 42 (2 ^ 42) x.r (omega (arith, c.requires.exponent)) c.requires.some c.requires.narrow;
      steps = one-le-mul c.requires.steps (omega arith);
      errors = c.requires.errors;
      small = c.requires.small;
      target = c.requires.target;
    })
