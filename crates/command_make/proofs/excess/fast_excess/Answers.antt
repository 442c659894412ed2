use Rattle.std.proofs.Common.{ℕ, ◌+◌, ◌<◌, ◌≤◌, pos, length, unsigned_abs, rules, ap, refl, sym, subst, ◌∙◌}
use Rattle.std.specs.Int.{w128}
use Rattle.std.proofs.lemmas.Int.{to_z-of_z}
use Rattle.std.proofs.lemmas.Result.{IfOk-weaker}
use mir.Val.{SFits}
use Rattle.qp_model.specs.machine.Controller.{Numbers}
use Rattle.qp_model.specs.machine.Machine.{exponent_of}
use Rattle.dual_bounds.specs.FastSteps.{quarter_steps}
use Rattle.overflow_check.specs.FastController.{IsFastController}
use Rattle.command_generate.specs.Engine.RowExponents.{exponent_in}
use Rattle.command_generate.specs.Engine.Targets.{targets_of}
use Rattle.command_generate.specs.Engine.Terms.{row_bound, IsTarget}
use Rattle.fast_bounds.proofs.FastPrinted.{below, listed, run_of}
use Rattle.command_make.specs.Made.{reference_of}
use Rattle.command_make.proofs.Excesses.{is_target}
use Rattle.command_make.proofs.excess.fast_excess.Goals as goal

pub fast_violations_after-requires-clause-run : goal.fast_violations_after-requires-clause-run
fast_violations_after-requires-clause-run c =
    let n = c.args.made.now.controller in
    let sound : IsFastController n = search rules in
    let r : SFits w128 c.args.made.now.bounds.multiplier = search rules in
    let e : SFits w128 c.args.made.now.eps = search rules in
    rw (to_z-of_z w128 _ r, to_z-of_z w128 _ e)
    (run_of n _ _ sound c.parts-c.ensures.value refl refl c.requires.small.some c.requires.narrow c.requires.small.errors_low c.requires.small.errors_high
    (subst IsTarget (sym c.known_target.ensures) (is_target (targets_of c.args.design.now) (reference_of c.args.reference.now))))

pub fast_violations_after-requires-clause-rows : goal.fast_violations_after-requires-clause-rows
fast_violations_after-requires-clause-rows c =
    let n = c.args.made.now.controller in
    let sound : IsFastController n = search rules in
    subst (λ (s : ℕ). (i : ℕ) → i < length c.deref.result.now → exponent_in c.deref.result.now i ≤ s) (ap (λ (x : Numbers). x.step_exponent) (sym c.parts-c.ensures.value))
    (below n _ sound (c.deref.ensures.value ∙ ap (λ (x : Numbers). x.exponents) c.parts-c.ensures.value))

pub returns : goal.returns
returns c =
    let n = c.args.made.now.controller in
    let sound : IsFastController n = search rules in
    let r : SFits w128 c.args.made.now.bounds.multiplier = search rules in
    let e : SFits w128 c.args.made.now.eps = search rules in
    let parts = c.parts-c.ensures.value in
    let target = c.known_target.ensures in
    IfOk-weaker c.fast_violations_after.result _ _
    (λ out holds.
    let rows = listed n out.items c.deref.result.now
    (λ (s : ℕ). pos (row_bound c.known_target.result (s + 2) (c.parts-c.result.now.s + 2) (unsigned_abs c.args.made.now.bounds.multiplier) (quarter_steps c.parts-c.result.now.steps) (unsigned_abs c.args.made.now.eps)))
    sound (c.deref.ensures.value ∙ ap (λ (x : Numbers). x.exponents) parts) holds in
    record {
      long = rows.long;
      is = λ i l. rows.is i l ∙
          (λ j. pos (row_bound (target j) (exponent_of n i + 2) ((parts j).step_exponent + 2) (unsigned_abs c.args.made.now.bounds.multiplier) (quarter_steps (parts j).steps) (unsigned_abs c.args.made.now.eps)));
    })
    (rw (to_z-of_z w128 _ r, to_z-of_z w128 _ e) at c.fast_violations_after.ensures)
