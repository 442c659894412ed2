use Rattle.dual_bounds.proofs.MixLaws.{excess_box_law, threshold_law}
use Rattle.qp_model.proofs.ExcessLaws.{excess_law}
use Rattle.dual_bounds.proofs.threshold_law.Goals as goal

pub returns : goal.returns
returns c = record {
  shown = λ d h p r units s f g k slacks. record { slacks = slacks; excesses = excess_law d h p r s f g k };
  box_excess = excess_box_law;
  repair = threshold_law;
}
