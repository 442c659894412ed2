use Rattle.std.proofs.Common.{length, replicate, pos, arith, sym, ◌∙◌}
use Rattle.std.proofs.lemmas.List.{ext_get_or, get_or-replicate, length-replicate}
use Rattle.fast_machine.proofs.step.clear.Goals as goal

pub returns : goal.returns
returns c =
    let n = length c.args.numbers.now in
    ext_get_or (pos 0) c.loop-x.numbers (replicate n (pos 0)) (omega (arith, length-replicate n (pos 0)))
    (λ i h. c.loop-x.invariant i (omega (arith, h)) ∙ sym (get_or-replicate n i (pos 0) (pos 0) (omega (arith, h))))
