use Rattle.std.proofs.Common.{[], subst, sym, arith, refl, ◌∙◌}
use Rattle.std.specs.Prelude.{All}
use Rattle.std.proofs.lemmas.List.{take_all}
use Rattle.std.proofs.lemmas.List.Elements.{All-more}
use Rattle.fixed_kernel.specs.WordForm.{IsHalf}
use Rattle.fixed_kernel.proofs.half.is_half_matrix.Goals as goal

pub returns-then-not-are_half : goal.returns-then-not-are_half
returns-then-not-are_half c =
    (λ t. cc, λ all. sym c.if-not-are_half.true ∙ c.are_half.ensures.1 (subst (All IsHalf) (sym c.row.ensures.value) (all c.loop-i.i [] (omega arith))))

pub loop-i-preserved : goal.loop-i-preserved
loop-i-preserved c =
    All-more (All IsHalf) c.args.a.now.rows c.loop-i.i [] (omega arith) c.loop-i.invariant (subst (All IsHalf) c.row.ensures.value (c.are_half.ensures.0 c.if-not-are_half.false))

pub returns : goal.returns
returns c = (λ t. subst (All (All IsHalf)) (take_all c.loop-i.i c.args.a.now.rows (omega arith)) c.loop-i.invariant, λ all. refl)
