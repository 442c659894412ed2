use Rattle.qp_model.specs.problem.Policy.{plans_of}
use Rattle.cell_maker.specs.Made.{IsCellDesign}
use Rattle.cell_maker.proofs.CellDesigns.{policy_fits, generates_cell}
use Rattle.cell_maker.proofs.cell.make_cell.Goals as goal

pub made_by-made-requires : goal.made_by-made-requires
made_by-made-requires c = policy_fits c.args.design.now c.in_ok-part.part (plans_of c.args.policy.now) c.in_ok-part.ensures.numbers c.requires.policy

pub returns : goal.returns
returns c =
    let is : IsCellDesign c.args.design.now c.args.cuts.now c.args.cell c.in_ok-part.part = record { numbers = c.in_ok-part.ensures.numbers; low = c.in_ok-part.ensures.low; high = c.in_ok-part.ensures.high } in
    generates_cell c.args.design.now c.args.fast c.args.cuts.now c.args.cell (plans_of c.args.policy.now) c.in_ok-part.part is c.made_by-made.result c.made_by-made.ensures
