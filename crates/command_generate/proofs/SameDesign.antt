-- A design is known by its numbers.
use Rattle.std.proofs.Common.{◌≡◌, ap, subst, unsigned_abs}
use Rattle.qp_model.specs.problem.Design.{Design}
use Rattle.qp_model.specs.problem.Policy.{Plans}
use Rattle.qp_model.specs.problem.Parts.{DesignNumbers, design_numbers, design_of}
use Rattle.qp_model.specs.declared.design_parts.DesignParts.{DesignParts}
use Rattle.design_engine.specs.Targets.{Targets, targets_of}
use Rattle.design_engine.specs.Refusals.{HasCause, PassesAll}
use Rattle.command_design_files.proofs.Designs.{same_design}
use Rattle.command_generate.specs.Made.{CallsFor, MakingCalls}
use Rattle.command_line.specs.declared.status.Status.{Status}

abbrev targets_from : DesignNumbers → Targets
targets_from p = record { denominator = unsigned_abs p.target_den; violation = unsigned_abs p.violation; gap = unsigned_abs p.gap }

same_targets : (p q : DesignParts) → design_numbers p ≡ design_numbers q → targets_of p ≡ targets_of q
same_targets p q e = ap targets_from e

pub along : (F : Design → Targets → Type 0) (p q : DesignParts) → design_numbers p ≡ design_numbers q → F (design_of p) (targets_of p) → F (design_of q) (targets_of q)
along F p q e h = subst (λ (t : Targets). F (design_of q) t) (same_targets p q e) (subst (λ (d : Design). F d (targets_of p)) (same_design p q e) h)

pub making_same : (p q : DesignParts) → design_numbers p ≡ design_numbers q → (plans : Plans) (s : Status) → MakingCalls p plans s → MakingCalls q plans s
making_same p q e plans s = along (λ d t. CallsFor (HasCause d t plans) (PassesAll d t plans) s) p q e
