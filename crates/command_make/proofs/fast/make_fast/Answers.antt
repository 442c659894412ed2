use Rattle.qp_model.specs.problem.Policy.{plans_of}
use Rattle.std.proofs.Common.{Some, None}
use Rattle.command_line.proofs.TwoTexts.{both_ok}
use Rattle.command_make.proofs.FastPassing.{made_fast, told_made, by_printed}
use Rattle.command_make.proofs.fast.make_fast.Goals as goal

pub generate_fast-requires : goal.generate_fast-requires
generate_fast-requires c = record { plans = c.requires.plans; references = rw c.in-Some.is at c.requires.references }

pub returns-in-Some : goal.returns-in-Some
returns-in-Some c =
    let p = c.args.design.now in
    let is = c.generate_fast.ensures in
    rw c.in-Some.is (record {
      made = made_fast p (plans_of c.args.policy.now) (Some (plans_of c.in-Some.reference)) c.generate_fast.result c.told_fast.result c.told_fast.ensures
          (record { built = is.built; certified = is.certified; targets = is.targets; passes = is.passes; refused = is.refused; every_refusal = is.every_refusal; accepted = is.accepted });
      errors = told_made _ c.generate_fast.result c.told_fast.result c.told_fast.ensures is.errors;
    })

pub returns-in-None : goal.returns-in-None
returns-in-None c =
    let p = c.args.design.now in
    let plans = plans_of c.args.policy.now in
    let a = c.generate_fast_by_margin.result in
    let is = c.generate_fast_by_margin.ensures in
    rw c.in-None.is (record {
      made = made_fast p plans None a c.told_fast-in-None.result c.told_fast-in-None.ensures
          (record { built = is.built; certified = is.certified; targets = is.targets; passes = is.passes; refused = is.refused; every_refusal = is.every_refusal; accepted = is.accepted });
      errors = told_made _ a c.told_fast-in-None.result c.told_fast-in-None.ensures (both_ok a is.built is.errors (by_printed p plans));
    })
