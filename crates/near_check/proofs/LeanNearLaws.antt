-- A lean controller is certified, and so its plans are near the law's.
use Rattle.std.proofs.Common.{pos, unsigned_abs, arith}
use Rattle.std.proofs.lemmas.Int.{ints}
use Rattle.qp_model.specs.problem.Parts.{design_of}
use Rattle.qp_model.specs.form.Class.{form_of}
use Rattle.qp_model.specs.bounds.Excess.{excess_of}
use Rattle.qp_model.proofs.SoundLaws.{sound}
use Rattle.qp_model.proofs.ExcessLaws.{excess_law}
use Rattle.design_engine.specs.Targets.{targets_of}
use Rattle.design_engine.proofs.FormLaws.{form_law}
use Rattle.lean_engine.proofs.LeanFacts.{bound_some}
use Rattle.lean_engine.proofs.LeanLaws.{lean_law}
use Rattle.near_check.specs.LeanNear.{lean_bound, LeanNearLaw}
use Rattle.near_check.proofs.NearLaws.{certified_near_law}

pub lean_near_law : LeanNearLaw
lean_near_law p plans references c b others shown_by beta h =
    let d = design_of p in
    let made = h.built.made in
    certified_near_law p (form_of d) (lean_bound p b) c b others (pos 0) (excess_of d (form_of d) others shown_by) beta (record {
      design = made.design;
      bound = bound_some (targets_of p) (unsigned_abs b.margin) (unsigned_abs b.cost);
      form = form_law p made.design made.narrow;
      controller = made.controller;
      made = made.made;
      certified = (lean_law p plans references c b h.built).certified;
      policy = h.policy;
      feasible = omega (arith, ints);
      corners = record { slacks = h.feasible; excesses = excess_law d (form_of d) others shown_by (sound p made.design) (form_law p made.design made.narrow) h.policy h.reference };
      far = h.far;
    })
