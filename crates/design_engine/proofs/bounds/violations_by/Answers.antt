use Rattle.std.specs.Int.{w128}
use Rattle.std.proofs.lemmas.Int.{to_z-of_z}
use mir.Val.{SFits}
use Rattle.design_engine.proofs.AnswerLaws.{absent_of_error}
use Rattle.std.proofs.Common.{arith, pos, get_or-set_same, get_or-set_other, below_more, rules, ◌∙◌}
use Rattle.design_engine.proofs.bounds.violations_by.Goals as goal

pub row_bound-requires-clause-row : goal.row_bound-requires-clause-row
row_bound-requires-clause-row c = c.requires.rows c.loop-i.i (omega arith)

pub returns-in_err-out : goal.returns-in_err-out
returns-in_err-out c = absent_of_error c.from_residual.result _ c.from_residual.ensures.0

pub loop-i-init : goal.loop-i-init
loop-i-init c = record { long = c.in_ok-out.ensures.len; each = λ k below. absurd (omega arith) }

pub bounds-exps-i : goal.bounds-exps-i
bounds-exps-i c = omega arith

pub index_mut-requires : goal.index_mut-requires
index_mut-requires c = omega (arith, c.loop-i.invariant.long)

pub loop-i-preserved : goal.loop-i-preserved
loop-i-preserved c =
    let i = c.loop-i.i in
    let v : SFits w128 c.row_bound.result = search rules in
    record {
      long = c.loop-i.invariant.long;
      each = below_more _ _
          (λ k l. get_or-set_other c.loop-i.out.items i k _ (pos 0) (omega arith) ∙ c.loop-i.invariant.each k l)
          (get_or-set_same c.loop-i.out.items i _ (pos 0) (omega (arith, c.loop-i.invariant.long, c.loop-i.out.ok.0)) ∙ to_z-of_z w128 _ v ∙ c.row_bound.ensures);
    }

pub returns : goal.returns
returns c = record { long = omega (arith, c.loop-i.invariant.long, c.loop-i.out.ok.0); is = λ i l. c.loop-i.invariant.each i (omega arith) }
