use Rattle.std.proofs.Common.{ℕ, pos, unsigned_abs, ap, sym, ◌∙◌}
use Rattle.qp_model.specs.problem.Parts.{design_of}
use Rattle.qp_model.specs.problem.Policy.{plans_of}
use Rattle.command_line.proofs.TwoTexts.{both_ok}
use Rattle.command_generate.specs.Engine.Bounds.{stated_cost}
use Rattle.command_make.proofs.made.make.Goals as goal

pub make_lean-requires : goal.make_lean-requires
make_lean-requires c = record { plans = c.requires.plans; references = rw c.in-Some.is at c.requires.references }

pub returns-in-Some : goal.returns-in-Some
returns-in-Some c = rw c.in-Some.is c.make_lean.ensures

pub returns-in-None : goal.returns-in-None
returns-in-None c =
    let did = c.make_controller.ensures in
    rw c.in-None.is (record {
      made = did.made;
      -- by R that is printed, or by that of the controller
      errors = both_ok c.make_controller.result did.made.made did.errors
          (λ m made is. is ∙ ap (λ (n : ℕ). pos (stated_cost (design_of c.args.design.now) n m.controller.fraction_bits)) (sym (ap unsigned_abs made.built.bounds.multiplier)));
    })
