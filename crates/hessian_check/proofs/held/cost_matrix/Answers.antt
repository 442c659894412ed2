use Rattle.hessian_check.proofs.FormMatrices.{cost_movable, is_cost}
use Rattle.hessian_check.proofs.held.cost_matrix.Goals as goal

pub move_diagonal-requires : goal.move_diagonal-requires
move_diagonal-requires c =
    cost_movable c.requires.fine c.requires.parts c.args.c.now c.requires.form c.in_ok-cost.cost c.in_ok-radii.radii c.in_ok-cost.ensures c.in_ok-radii.ensures

pub returns : goal.returns
returns c = λ fine p f.
    is_cost fine p c.args.c.now f c.in_ok-cost.cost c.in_ok-radii.radii c.in_ok-cost.ensures c.in_ok-radii.ensures c.move_diagonal.new.mat c.move_diagonal.ensures
