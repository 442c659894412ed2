use Rattle.std.proofs.Common.{◌∙◌, ◌*◌, refl}
use Rattle.std.specs.Prelude.{codes}
use Rattle.controller_file.proofs.Again.{matrix_is}
use Rattle.controller_file.proofs.parts.back_of.Goals as goal

pub returns : goal.returns
returns c = λ d form e.
    let shaped = form.sized.shaped in
    let nu = d.inputs * d.stages in
    record {
      dual_gains = c.in_ok-matrix_of.ensures d form e ∙ matrix_is (codes "W") d.dual_gains nu d.rows d.rows shaped.dual_gains refl;
      plan_rows = c.in_ok-matrix_of-2.ensures d form e ∙ matrix_is (codes "G") d.plan_rows d.rows nu nu shaped.plan_rows refl;
      state_rows = c.in_ok-matrix_of-3.ensures d form e ∙ matrix_is (codes "E") d.state_rows d.rows d.states d.states shaped.state_rows refl;
      bounds = c.in_ok-list_of.ensures d form e;
    }
