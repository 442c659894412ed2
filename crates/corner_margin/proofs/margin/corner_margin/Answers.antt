use Rattle.std.proofs.Common.{◌≡◌, ◌+◌, ℕ, rules, Err, sym, subst, ◌∙◌}
use Rattle.std.specs.Int.{w128}
use mir.Val.{SFits}
use Rattle.std.proofs.lemmas.Int.{to_z-of_z}
use Rattle.std.proofs.lemmas.Result.{err_from_is_err_and}
use Rattle.qp_model.specs.declared.bounds.Margin.{Margin}
use Rattle.qp_model.specs.problem.Design.{rows}
use Rattle.qp_model.specs.problem.Parts.{design_of}
use Rattle.qp_model.specs.problem.Policy.{plans_of}
use Rattle.corner_margin.specs.declared.fault.MarginFault.TheVariants.{NoMargin}
use Rattle.corner_margin.specs.Corner.{IsCornerScale, shown_over}
use Rattle.corner_margin.specs.Simulation.{IsCornerMargin, IsShortRow}
use Rattle.corner_margin.proofs.ClassFacts.{scale_of, shows_same, margin_moved, short_moved}
use Rattle.corner_margin.proofs.FaultFacts.{same_error}
use Rattle.corner_margin.proofs.MarginFacts.{carried}
use Rattle.corner_margin.proofs.margin.corner_margin.Goals as goal

pub new-requires : goal.new-requires
new-requires c =
    let s = plans_of c.args.policy.now in
    subst (λ (n : ℕ). IsCornerScale c.args.parts.now s n c.args.reach c.args.c) (sym c.unit_of-unit.ensures)
    (scale_of c.args.fine c.args.parts.now s c.args.reach c.args.c c.requires.setting c.requires.corner)

pub returns-in_err-units-clause-short : goal.returns-in_err-units-clause-short
returns-in_err-units-clause-short c = λ corner row slack e.
    let p = c.args.parts.now in
    let s = plans_of c.args.policy.now in
    let y = err_from_is_err_and c.from_residual-in_err-units.result c.from_residual-in_err-units.ensures.1 in
    let back : c.units.result ≡ Err (NoMargin corner row slack) = same_error y.1 e c.in_err-units.was y.2 in
    let made = c.in_ok-corner.ensures in
    let short = carried (λ p s u n. (corner ≡ n + 1) × IsShortRow (shown_over u (design_of p) (plans_of s)) (rows (design_of p)) (n + 1) row slack) made.0 made.1 (made.2 ∙ c.unit_of-unit.ensures) made.3
    (c.units.ensures.short corner row slack back) in
    (short.0, short_moved (rows (design_of p)) (c.args.c + 1) (shows_same c.args.fine p s c.args.c c.requires.setting.design c.requires.setting.policy c.requires.corner) row slack short.1)

pub returns-clause-margin : goal.returns-clause-margin
returns-clause-margin c =
    let p = c.args.parts.now in
    let s = plans_of c.args.policy.now in
    let fu : SFits w128 c.in_ok-units.units = search rules in
    let fc : SFits w128 c.in_ok-cost.cost = search rules in
    let made = c.in_ok-corner.ensures in
    let margin : Margin = record { units = c.in_ok-units.units; cost = c.in_ok-cost.cost } in
    rw (to_z-of_z w128 _ fu, to_z-of_z w128 _ fc)
    (margin_moved (rows (design_of p)) (c.args.c + 1) (shows_same c.args.fine p s c.args.c c.requires.setting.design c.requires.setting.policy c.requires.corner) margin
    (carried (λ p s u n. IsCornerMargin (shown_over u (design_of p) (plans_of s)) (rows (design_of p)) (n + 1) margin) made.0 made.1 (made.2 ∙ c.unit_of-unit.ensures) made.3
    (record { units = c.in_ok-units.ensures.units; cost = c.in_ok-cost.ensures })))

pub unit_of-unit-requires-clause-corner : goal.unit_of-unit-requires-clause-corner
unit_of-unit-requires-clause-corner c = c.requires.corner

pub unit_of-unit-requires-clause-design : goal.unit_of-unit-requires-clause-design
unit_of-unit-requires-clause-design c = c.requires.setting.design

pub unit_of-unit-requires-clause-plans : goal.unit_of-unit-requires-clause-plans
unit_of-unit-requires-clause-plans c = c.requires.setting.policy

pub unit_of-unit-requires-clause-room : goal.unit_of-unit-requires-clause-room
unit_of-unit-requires-clause-room c = c.requires.setting.room
