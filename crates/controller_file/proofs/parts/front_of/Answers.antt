use Rattle.std.proofs.Common.{◌∙◌, ◌*◌, refl}
use Rattle.std.specs.Prelude.{codes}
use Rattle.controller_file.proofs.Again.{matrix_is}
use Rattle.controller_file.proofs.parts.front_of.Goals as goal

pub returns : goal.returns
returns c = λ d form e.
    record {
      exponents = c.in_ok-exponents_of.ensures d form e;
      low = c.in_ok-list_of.ensures d form e;
      high = c.in_ok-list_of-2.ensures d form e;
      state_gains = c.in_ok-matrix_of.ensures d form e ∙ matrix_is (codes "P") d.state_gains (d.inputs * d.stages) d.states d.states form.sized.shaped.state_gains refl;
      offsets = c.in_ok-list_of-3.ensures d form e;
    }
