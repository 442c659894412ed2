-- A design with a policy that is refused for no reason passes every test.
use Rattle.std.proofs.Common.{ℕ, ◌≤◌, subst}
use Rattle.qp_model.specs.problem.Parts.{design_of}
use Rattle.qp_model.specs.problem.Policy.{Plans}
use Rattle.qp_model.specs.machine.Controller.{Numbers}
use Rattle.qp_model.specs.declared.design_parts.DesignParts.{DesignParts}
use Rattle.qp_model.specs.bounds.Printed.{Printed}
use Rattle.qp_model.specs.declared.quantity.Quantity.TheVariants.{Multiplier}
use Rattle.design_engine.specs.Targets.{targets_of}
use Rattle.design_engine.specs.Aims.{aim_of, steps_of}
use Rattle.design_engine.specs.Bounds.{margin_of}
use Rattle.design_engine.specs.Built.{IsBuilt}
use Rattle.design_engine.specs.Stages.{OfForm}
use Rattle.design_engine.specs.Tests.{HasAimCause}
use Rattle.design_engine.specs.Refusals.{AfterMargin, HasCause, PassesAll}
use Rattle.qp_model.specs.declared.refusal.Refusal.{Refusal}
use Rattle.command_generate.specs.Made.{PassesWith}
use Rattle.design_engine.proofs.TestLaws.{sized_clear}
use Rattle.design_engine.proofs.StageLaws.{aim_clear, form_clear, corners_clear}

-- it passes with its own margin, step exponent and bits
pub own_passes : (p : DesignParts) (plans : Plans) (c : Numbers) (b : Printed) → ((r : Refusal) → HasCause (design_of p) (targets_of p) plans r → ⊥) → IsBuilt p plans c b →
    PassesAll (design_of p) (targets_of p) plans (margin_of b) c.step_exponent c.fraction_bits
own_passes p plans c b none built =
    let d = design_of p in
    let t = targets_of p in
    let m = margin_of b in
    let made = built.made in
    let few : steps_of (aim_of t m) c.step_exponent ≤ 4194304 = subst (λ (k : ℕ). k ≤ 4194304) made.steps made.controller.form.sized.steps.1 in
    let corners = corners_clear d plans (AfterMargin d t) m built.margin built.slack none in
    let multiplier = sized_clear Multiplier _ (OfForm d (HasAimCause d (aim_of t m))) corners.1 in
    let form = form_clear d (HasAimCause d (aim_of t m)) multiplier.1 in
    record {
      before = record {
        before = record {
          before = record { room = corners.0; margin = built.margin; slack = built.slack };
          multiplier = multiplier.0;
          form = form.0;
        };
        exponent = made.exponent;
      };
      aim = aim_clear d (aim_of t m) c.step_exponent c.fraction_bits (form.1 c.step_exponent made.exponent) few made.bits;
    }

pub built_passes : (p : DesignParts) (plans : Plans) (c : Numbers) (b : Printed) → ((r : Refusal) → HasCause (design_of p) (targets_of p) plans r → ⊥) → IsBuilt p plans c b →
    PassesWith (PassesAll (design_of p) (targets_of p) plans)
built_passes p plans c b none built = record { margin = margin_of b; exponent = c.step_exponent; bits = c.fraction_bits; all = own_passes p plans c b none built }
