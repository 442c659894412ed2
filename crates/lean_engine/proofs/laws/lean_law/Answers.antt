use Rattle.lean_engine.proofs.LeanLaws.{lean_law}
use Rattle.lean_engine.proofs.laws.lean_law.Goals as goal

pub returns : goal.returns
returns c = lean_law
