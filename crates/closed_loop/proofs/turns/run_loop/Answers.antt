use Rattle.std.proofs.Common.{◌^◌, refl, le_refl}
use Rattle.qp_model.specs.problem.Parts.{design_of}
use Rattle.closed_loop.specs.Looping.{turn_size_by}
use Rattle.closed_loop.proofs.Showing.{ends_wide, ends_so, none_wide, some_narrow}
use Rattle.closed_loop.proofs.turns.run_loop.Goals as goal

pub returns-then-is_none : goal.returns-then-is_none
returns-then-is_none g c =
    let d = design_of c.args.design.now in
    let n = g.M.ControlMachine.looping c.args.machine.now in
    let size = c.turn_size.ensures in
    record {
      ends = ends_wide _ _ _ _ _ _ _ _ _ _ (none_wide c.turn_size.result c.is_none.result (2 ^ 126) (turn_size_by d n) c.is_none.ensures c.if-is_none.true size) refl;
      no_fewer = le_refl (g.O.Sink.faults c.args.out.now);
      same = refl;
    }

pub returns : goal.returns
returns g c =
    let d = design_of c.args.design.now in
    let n = g.M.ControlMachine.looping c.args.machine.now in
    let size = c.turn_size.ensures in
    let narrow = some_narrow c.turn_size.result c.is_none.result (2 ^ 126) (turn_size_by d n) c.is_none.ensures c.if-is_none.false size in
    let ran = c.run_unshifted.ensures in
    record { ends = ends_so _ _ _ _ _ _ _ _ _ _ _ narrow ran.inside ran.put ran.refused ran.quiet; no_fewer = ran.no_fewer; same = ran.same }
