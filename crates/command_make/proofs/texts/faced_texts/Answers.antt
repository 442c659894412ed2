use Rattle.std.proofs.Common.{inr}
use Rattle.qp_model.specs.problem.Parts.{design_of}
use Rattle.qp_model.specs.problem.Policy.{plans_of}
use Rattle.stay_check.specs.FaceForms.{faces_of}
use Rattle.command_line.proofs.Results.{err_same}
use Rattle.command_generate.specs.Engine.Targets.{targets_of}
use Rattle.command_generate.proofs.Making.{none_made}
use Rattle.command_make.specs.Made.{reference_of}
use Rattle.command_make.specs.Make.{Under}
use Rattle.command_make.proofs.Calling.{unmade_under, kept_calls, caught_calls}
use Rattle.command_make.proofs.texts.faced_texts.Goals as goal

pub returns-in_err-priced : goal.returns-in_err-priced
returns-in_err-priced c =
    let i = c.args.inputs.now in
    let p = i.design in
    let u : Under = record { faces = faces_of c.args.faces.now; range = c.args.range.now } in
    rw (err_same _ _ c.from_residual.ensures.1)
    (none_made (unmade_under (design_of p) (targets_of p) (plans_of i.policy) (reference_of i.reference) i.fast u _ c.in_err-priced.ensures.unmade))

pub check_under-requires : goal.check_under-requires
check_under-requires c = record { faces = c.requires.faces; range = c.requires.range; excess = rw c.deref.ensures.value c.in_ok-priced.ensures.made.long }

pub returns-in_err-check_under : goal.returns-in_err-check_under
returns-in_err-check_under c =
    let i = c.args.inputs.now in
    let p = i.design in
    let u : Under = record { faces = faces_of c.args.faces.now; range = c.args.range.now } in
    let is = c.in_ok-priced.ensures in
    let caught = rw c.deref.ensures.value at c.in_err-check_under.ensures.caught in
    rw (err_same c.from_residual-in_err-check_under.result _ c.from_residual-in_err-check_under.ensures.1)
    (none_made (caught_calls (design_of p) (targets_of p) (plans_of i.policy) (reference_of i.reference) i.fast u c.in_ok-priced.priced.excess.items is.made.stated is.made.one is.called _ (inr caught)))

pub returns : goal.returns
returns c =
    let i = c.args.inputs.now in
    let p = i.design in
    let u : Under = record { faces = faces_of c.args.faces.now; range = c.args.range.now } in
    let is = c.in_ok-priced.ensures in
    let kept = rw c.deref.ensures.value at c.in_ok-check_under.ensures.kept in
    let are = is.made.texts in
    record {
      made = record { controller = are.controller; bounds = are.bounds; made = (are.made.0, are.made.1 u.faces u.range kept); is_text = are.is_text; is_report = are.is_report };
      called = kept_calls (design_of p) (targets_of p) (plans_of i.policy) (reference_of i.reference) i.fast u c.in_ok-priced.priced.excess.items is.made.stated is.made.one is.called kept;
      unmade = tt;
    }
