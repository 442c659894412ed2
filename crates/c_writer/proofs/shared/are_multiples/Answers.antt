use Rattle.std.proofs.Common.{◌∙◌, ◌%◌, ◌^◌, ◌==◌, ℤ, FitsSigned, ap, rules, unsigned_abs}
use Rattle.std.specs.Int.{w128}
use Rattle.std.proofs.lemmas.Int.{to_z-of_z}
use Rattle.integer_algebra.specs.Sums.{at}
use Rattle.c_writer.proofs.Lists.{multiples_none, multiples_more}
use Rattle.c_writer.proofs.shared.are_multiples.Goals as goal

pub loop-j-init : goal.loop-j-init
loop-j-init c = multiples_none c.args.row.now c.args.k

pub loop-j-preserved : goal.loop-j-preserved
loop-j-preserved c =
    let j = c.loop-j.j in
    let x : FitsSigned w128 (at c.args.row.now j) = search rules in
    multiples_more c.args.row.now c.args.k j c.loop-j.multiples c.both-multiples.result c.is_multiple-next.result c.loop-j.invariant
    (c.is_multiple-next.ensures ∙ ap (λ (z : ℤ). unsigned_abs z % 2 ^ c.args.k == 0) (to_z-of_z w128 _ x)) c.both-multiples.ensures
