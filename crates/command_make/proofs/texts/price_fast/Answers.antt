use Rattle.std.proofs.Common.{true, refl}
use Rattle.qp_model.specs.problem.Policy.{plans_of}
use Rattle.qp_model.specs.bounds.Printed.{printed}
use Rattle.command_line.proofs.Results.{err_same}
use Rattle.command_line.proofs.TwoTexts.{unmade_memory}
use Rattle.command_generate.proofs.Making.{none_made}
use Rattle.command_make.specs.Made.{reference_of}
use Rattle.command_make.proofs.Excesses.{small, narrow, priced}
use Rattle.command_make.proofs.texts.price_fast.Goals as goal

pub returns-in_err-made : goal.returns-in_err-made
returns-in_err-made c = rw (err_same _ _ c.from_residual.ensures.1) (none_made c.in_err-made.ensures.made.unmade)

pub fast_excess-requires : goal.fast_excess-requires
fast_excess-requires c =
    let m = c.in_ok-made.made in
    let is = c.in_ok-made.ensures in
    let p = c.args.inputs.now.design in
    let plans = plans_of c.args.inputs.now.policy in
    let reference = reference_of c.args.inputs.now.reference in
    record {
      small = small p plans reference true m.controller (printed m.bounds) is.made.made m.eps is.errors is.made.called;
      narrow = narrow p plans reference true m.controller (printed m.bounds) is.made.made m.eps is.errors is.made.called;
    }

pub returns-in_err-excess : goal.returns-in_err-excess
returns-in_err-excess c = rw (err_same c.from_residual-in_err-excess.result _ c.from_residual-in_err-excess.ensures.1) (none_made (unmade_memory _ _ refl))

pub returns-in_err-texts : goal.returns-in_err-texts
returns-in_err-texts c = rw (err_same c.from_residual-in_err-texts.result _ c.from_residual-in_err-texts.ensures.1) (none_made (unmade_memory _ _ c.in_err-texts.ensures.memory))

pub returns : goal.returns
returns c =
    let m = c.in_ok-made.made in
    let is = c.in_ok-made.ensures in
    record {
      made = priced c.args.inputs.now.design (plans_of c.args.inputs.now.policy) (reference_of c.args.inputs.now.reference) true m.controller (printed m.bounds) is.made.made m.eps is.errors is.made.called
          (record { texts = c.in_ok-texts.texts; excess = c.in_ok-excess.excess }) c.in_ok-excess.ensures c.args.report_name.now c.in_ok-texts.ensures.texts;
      called = is.made.called;
      unmade = tt;
    }
