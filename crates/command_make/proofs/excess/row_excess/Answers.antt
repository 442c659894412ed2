use Rattle.std.proofs.Common.{ℕ, ◌<◌, ◌≤◌, pos, length, unsigned_abs, rules, refl, ap, sym, subst, ◌∙◌}
use Rattle.std.specs.Int.{w128}
use Rattle.std.proofs.lemmas.Int.{to_z-of_z}
use Rattle.std.proofs.lemmas.Result.{IfOk-weaker}
use mir.Val.{SFits}
use Rattle.qp_model.specs.machine.Controller.{Numbers}
use Rattle.qp_model.specs.machine.Machine.{exponent_of}
use Rattle.qp_model.specs.machine.AbsoluteSums.{IsController}
use Rattle.command_generate.specs.Engine.RowExponents.{exponent_in}
use Rattle.command_generate.specs.Engine.Targets.{targets_of}
use Rattle.command_generate.specs.Engine.Terms.{row_bound, IsTarget}
use Rattle.command_generate.proofs.Engine.PrintedFacts.{below, listed, run_within}
use Rattle.command_make.specs.Made.{reference_of}
use Rattle.command_make.proofs.Excesses.{is_target}
use Rattle.command_make.proofs.excess.row_excess.Goals as goal

pub violations_after-requires-clause-run : goal.violations_after-requires-clause-run
violations_after-requires-clause-run c =
    let n = c.args.made.now.controller in
    let sound : IsController n = search rules in
    let r : SFits w128 c.args.made.now.bounds.multiplier = search rules in
    let e : SFits w128 c.args.made.now.eps = search rules in
    let parts = c.parts-c.ensures.value in
    let exponent : c.parts-c.result.now.s ≤ 40 = rw (ap (λ (x : Numbers). x.step_exponent) parts) sound.form.sized.step_exponent in
    let steps : 1 ≤ c.parts-c.result.now.steps = rw (ap (λ (x : Numbers). x.steps) parts) sound.form.sized.steps.0 in
    rw (to_z-of_z w128 _ r, to_z-of_z w128 _ e)
    (run_within _ exponent c.requires.some c.requires.narrow steps c.requires.errors_low c.requires.errors_high
    (subst IsTarget (sym c.known_target.ensures) (is_target (targets_of c.args.design.now) (reference_of c.args.reference.now))))

pub violations_after-requires-clause-rows : goal.violations_after-requires-clause-rows
violations_after-requires-clause-rows c =
    let n = c.args.made.now.controller in
    let sound : IsController n = search rules in
    subst (λ (s : ℕ). (i : ℕ) → i < length c.deref.result.now → exponent_in c.deref.result.now i ≤ s) (ap (λ (x : Numbers). x.step_exponent) (sym c.parts-c.ensures.value))
    (below n _ sound (c.deref.ensures.value ∙ ap (λ (x : Numbers). x.exponents) c.parts-c.ensures.value))

pub returns : goal.returns
returns c =
    let n = c.args.made.now.controller in
    let sound : IsController n = search rules in
    let r : SFits w128 c.args.made.now.bounds.multiplier = search rules in
    let e : SFits w128 c.args.made.now.eps = search rules in
    let parts = c.parts-c.ensures.value in
    let target = c.known_target.ensures in
    IfOk-weaker c.violations_after.result _ _
    (λ out holds.
    let rows = listed n out.items c.deref.result.now
    (λ (s : ℕ). pos (row_bound c.known_target.result s c.parts-c.result.now.s (unsigned_abs c.args.made.now.bounds.multiplier) c.parts-c.result.now.steps (unsigned_abs c.args.made.now.eps)))
    sound (c.deref.ensures.value ∙ ap (λ (x : Numbers). x.exponents) parts) holds in
    record {
      long = rows.long;
      is = λ i l. rows.is i l ∙
          (λ j. pos (row_bound (target j) (exponent_of n i) (parts j).step_exponent (unsigned_abs c.args.made.now.bounds.multiplier) (parts j).steps (unsigned_abs c.args.made.now.eps)));
    })
    (rw (to_z-of_z w128 _ r, to_z-of_z w128 _ e) at c.violations_after.ensures)
