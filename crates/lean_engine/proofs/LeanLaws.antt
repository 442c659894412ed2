-- Why a controller that is made leanly keeps the whole promise of its bounds.
use Rattle.std.proofs.Common.{◌≡◌, ℕ, ◌<◌, ◌≤◌, ◌^◌, ℤ, pos, ◌≤ℤ◌, unsigned_abs, arith, ap, sym, subst}
use Rattle.std.proofs.lemmas.Int.{ints}
use Rattle.qp_model.specs.form.Class.{form_of, hessian_quantity}
use Rattle.qp_model.specs.form.Quantities.{input_floor}
use Rattle.qp_model.specs.problem.Design.{Design, rows}
use Rattle.qp_model.specs.problem.Parts.{IsDesign, design_of}
use Rattle.qp_model.specs.problem.Policy.{Plans, IsPolicyFor}
use Rattle.qp_model.specs.bounds.CornerClass.{IsMargin, shown}
use Rattle.qp_model.specs.bounds.Excess.{excess_of}
use Rattle.qp_model.specs.bounds.Margin.{simulated, HasSlack, BoundsCorners}
use Rattle.qp_model.specs.bounds.RealErrors.{real_errors}
use Rattle.qp_model.specs.machine.Controller.{Numbers}
use Rattle.qp_model.specs.declared.design_parts.DesignParts.{DesignParts}
use Rattle.qp_model.specs.bounds.Printed.{Printed}
use Rattle.qp_model.proofs.SoundLaws.{sound}
use Rattle.qp_model.proofs.ExcessLaws.{excess_law}
use Rattle.dual_bounds.specs.Corners.{KeepsExcess}
use Rattle.design_engine.proofs.FormLaws.{form_law}
use Rattle.design_engine.proofs.CornerLaws.{shown_law}
use Rattle.step_error.proofs.MachineRuns.{machine_run}
use Rattle.design_engine.specs.Targets.{targets_of}
use Rattle.design_engine.specs.declared.aimed.Aim.{Aim}
use Rattle.design_engine.proofs.AnswerLaws.{carried_with}
use Rattle.design_engine.proofs.BuiltFacts.{cost_limited}
use Rattle.design_engine.proofs.PromiseLaws.{made_above_from}
use Rattle.design_engine.proofs.TargetLaws.{some_of}
use Rattle.lean_engine.specs.Lean.{bound_of, lean_aim, IsLeanBuilt, LeanLaw}
use Rattle.lean_engine.proofs.LeanFacts.{bound_some}

-- what the printed slack and excess say of the corners
module _ (p : DesignParts) (plans references : Plans) (b : Printed) (cost : ℤ) (design : IsDesign p) (narrow : hessian_quantity (design_of p) ≤ 2 ^ 126)
    (policy : IsPolicyFor (design_of p) plans) (reference : IsPolicyFor (design_of p) references) (margin : IsMargin (design_of p) plans (record { units = b.margin; cost = cost }))
    (slack : pos 1 ≤ℤ b.margin) (shown_excess : b.cost ≡ pos (excess_of (design_of p) (form_of (design_of p)) plans references)) where
  abbrev d : Design
  d = design_of p

  abbrev units : ℕ
  units = unsigned_abs b.margin

  abbrev excess : ℕ
  excess = unsigned_abs b.cost

  whole : (z : ℤ) → pos 1 ≤ℤ z → z ≡ pos (unsigned_abs z)
  whole z l = omega (arith, ints, l)

  -- the corners truly have the slack that is printed, since what is shown of them is no more than they have
  slacks : (k i : ℕ) → 1 ≤ k → k ≤ 2 ^ d.states → i < rows d → HasSlack (simulated d plans) b.margin k i
  slacks k i first last inside = shows.slacks b.margin k i first last inside (margin.slacks k i first last inside)
    where
      shows : BoundsCorners d plans (shown d plans)
      shows = shown_law d (input_floor d) plans (sound p design) policy

  pub corners : KeepsExcess d plans (pos units) (pos excess)
  corners = subst (λ (u : ℤ). KeepsExcess d plans u (pos excess)) (whole b.margin slack)
      (subst (λ (x : ℤ). KeepsExcess d plans b.margin x) (ap (λ (z : ℤ). pos (unsigned_abs z)) (sym shown_excess))
      (record {
        slacks = slacks;
        excesses = excess_law d (form_of d) plans references (sound p design) (form_law p design narrow) policy reference;
      }))

pub lean_law : LeanLaw
lean_law p plans references c b h =
    made_above_from machine_run p plans (unsigned_abs b.margin) (unsigned_abs b.cost) (form_of (design_of p))
    (real_errors (design_of p) (form_of (design_of p)) (bound_of (targets_of p) (unsigned_abs b.margin) (unsigned_abs b.cost)) c) c b (record {
      design = h.made.design;
      policy = h.policy;
      corners = corners p plans references b h.greatest_cost h.made.design h.made.narrow h.policy h.reference h.margin h.slack h.excess;
      slack = some_of b.margin h.slack;
      form = form_law p h.made.design h.made.narrow;
      controller = h.made.controller;
      made = h.made.made;
      errors = carried_with p aim c bound h.made;
      aimed = record {
        design = h.made.design;
        some = bound;
        steps = h.made.steps;
        errors = cost_limited p aim c h.made;
        bounds = h.bounds;
      };
    })
  where
    aim : Aim
    aim = lean_aim (targets_of p) (unsigned_abs b.margin) (unsigned_abs b.cost)

    bound : 1 ≤ bound_of (targets_of p) (unsigned_abs b.margin) (unsigned_abs b.cost)
    bound = bound_some (targets_of p) (unsigned_abs b.margin) (unsigned_abs b.cost)
