use Rattle.std.proofs.Common.{◌≡◌, sym, string_bytes}
use Rattle.std.proofs.lemmas.Result.{IfOk-weaker}
use Rattle.design_maker.specs.Texts.{policy_text, policy_line}
use Rattle.design_maker.proofs.PolicyLines.{four_written}
use Rattle.design_maker.proofs.texts.policy_of.Goals as goal

pub returns : goal.returns
unfolding policy_text
returns c = IfOk-weaker c.format.result _ (λ text. string_bytes text ≡ policy_text c.args.stages) (λ text e. rw e (rw c.in_ok-line.ensures (sym (four_written (policy_line c.args.stages))))) c.format.ensures.ok
