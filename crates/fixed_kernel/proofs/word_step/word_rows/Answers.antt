use Rattle.std.proofs.Common.{◌<◌, length, rules, arith, ◌∙◌, FitsSigned}
use Rattle.std.specs.Int.{w64}
use Rattle.std.proofs.lemmas.Int.{to_z-of_z}
use Rattle.qp_model.specs.machine.Controller.{numbers}
use Rattle.fixed_kernel.proofs.RowMoves.{row_moved, row_within, rows_long, all_moved}
use Rattle.fixed_kernel.proofs.word_step.word_rows.Goals as goal

pub exponents_of-exps-requires : goal.exponents_of-exps-requires
exponents_of-exps-requires c = record { sound = c.requires.setting.sound; rows = rows_long (numbers c.args.c.now) _ c.requires.multipliers }

pub word_multiplier_at-requires : goal.word_multiplier_at-requires
word_multiplier_at-requires c =
    let n = numbers c.args.c.now in
    let row : c.loop-i.i < length n.bounds = omega (arith, rows_long n _ c.requires.multipliers) in
    let raised = row_within n _ _ _ _ _ _ (to_z-of_z w64 _ (search rules)) c.loop-i.invariant row c.requires.multipliers in
    record { setting = c.requires.setting; half = c.requires.half; bases = c.requires.bases; plan = c.requires.plan; raised = raised; exps = c.exponents_of-exps.ensures; in_range = row }

pub loop-i-preserved : goal.loop-i-preserved
loop-i-preserved c =
    let made : FitsSigned w64 c.word_multiplier_at.result = record { sfits = c.word_multiplier_at.type_inv } in
    row_moved _ _ _ _ _ c.loop-i.i _ _ (omega arith) c.loop-i.invariant (to_z-of_z w64 _ (search rules)) (to_z-of_z w64 _ made ∙ c.word_multiplier_at.ensures)

pub returns : goal.returns
returns c = all_moved _ _ _ _ _ _ c.loop-i.invariant c.requires.multipliers (omega arith) (omega arith)
