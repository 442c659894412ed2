use Rattle.std.proofs.lemmas.Result.{IfOk-weaker, IfErr-weaker}
use Rattle.command_line.proofs.Results.{err_same}
use Rattle.command_line.proofs.Following.{stopped, went_on}
use Rattle.command_make.proofs.inputs.read_inputs.Goals as goal

pub returns-in_err-policy : goal.returns-in_err-policy
returns-in_err-policy g c =
    let did = rw c.at.ensures at c.in_err-policy.ensures.read in
    rw (err_same c.from_residual.result _ c.from_residual.ensures.1) (record { along = record { went = tt; ended = stopped did.passes did.ends }; inputs = tt })

pub returns : goal.returns
returns g c =
    let did = rw c.at.ensures at c.in_ok-policy.ensures.read in
    let others = c.read_others.ensures in
    record {
      along = record {
        went = IfOk-weaker c.read_others.result _ _ (λ i went now s rest. went_on did.passes did.right (went now s rest)) others.along.went;
        ended = IfErr-weaker c.read_others.result _ _ (λ s end. went_on did.passes did.right end) others.along.ended;
      };
      inputs = others.inputs;
    }
