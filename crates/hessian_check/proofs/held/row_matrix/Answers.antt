use Rattle.hessian_check.proofs.RowMatrices.{sums_movable, sums_raised}
use Rattle.hessian_check.proofs.held.row_matrix.Goals as goal

pub move_diagonal-requires : goal.move_diagonal-requires
move_diagonal-requires c =
    let s = c.args.sums.now in
    sums_movable s.mid s.rad s.sound c.requires.square c.requires.room c.in_ok-made.made.mid c.in_ok-made.made.rad c.in_ok-made.ensures

pub returns : goal.returns
returns c =
    let s = c.args.sums.now in
    rw c.if-not-fine.false
    (sums_raised s.mid s.rad s.sound c.requires.square c.requires.room c.in_ok-made.made.mid c.in_ok-made.made.rad c.move_diagonal.new.mat c.in_ok-made.ensures c.move_diagonal.ensures)
