use Rattle.std.proofs.Common.{◌<◌, [], All, arith, refl}
use Rattle.std.proofs.lemmas.List.Elements.{All-from_get_or}
use Rattle.qp_model.specs.problem.Range.{IsNumerator}
use Rattle.qp_model.proofs.range.has_numerators.Goals as goal

pub returns : goal.returns
returns c =
    (λ _. All-from_get_or (All IsNumerator) c.args.m.now.rows [] (λ r h. let met : r < c.loop-i.i = omega arith in c.loop-i.invariant r met), λ _. refl)
