use Rattle.command_laws.proofs.Solving.{lean_solve_law, fast_solve_law}
use Rattle.command_laws.proofs.lean_solve_law.Goals as goal

pub returns : goal.returns
returns c = record { plain = lean_solve_law; fast = fast_solve_law }
