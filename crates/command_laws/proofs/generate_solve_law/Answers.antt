use Rattle.command_laws.proofs.Solving.{generate_solve_law, fast_generate_solve_law}
use Rattle.command_laws.proofs.generate_solve_law.Goals as goal

pub returns : goal.returns
returns c = record { plain = generate_solve_law; fast = fast_generate_solve_law }
