use Rattle.std.proofs.Common.{◌≡◌, length, ◌∙◌}
use Rattle.std.specs.Int.{w128}
use Rattle.std.proofs.lemmas.Int.{to_z-of_z}
use Rattle.std.proofs.lemmas.Result.{IfOk-from_err}
use Rattle.approx_inverse.proofs.WordLaws.{filled}
use Rattle.controller_maker.proofs.rounding.rounded_list.Goals as goal

pub returns-in_err-out : goal.returns-in_err-out
returns-in_err-out c = IfOk-from_err c.from_residual.result _ c.from_residual.ensures.0

pub returns : goal.returns
returns c =
    let n = length c.args.xs.now in
    let made : c.in_ok-out.out.len ≡ n = c.in_ok-out.ensures.len in
    rw (filled c.in_ok-out.out.len c.round_line.new.out c.in_ok-out.out.items (c.round_line.auto.out ∙ c.deref_mut.ensures.len)) (record {
      long = c.round_line.auto.out ∙ c.deref_mut.ensures.len ∙ made;
      is = rw (to_z-of_z w128 _ c.ranges.den) at c.round_line.ensures;
    })
