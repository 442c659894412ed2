-- What the absolute sums promise of a run.
use Rattle.std.specs.Prelude.{ℤ, List}
use Rattle.qp_model.specs.machine.Controller.{Numbers}
use Rattle.qp_model.specs.machine.Machine.{IsAdmissible}
use Rattle.qp_model.specs.machine.AbsoluteSums.{IsController}
use Rattle.qp_model.specs.machine.ValuesMet.{RunFits}

-- no value that a controller's machine meets in a run from a state of its box leaves its width
abbrev pub ValuesLaw : Type 0
ValuesLaw = (c : Numbers) (xi : List ℤ) → IsController c → IsAdmissible c xi → RunFits c.width c xi
