use Rattle.std.proofs.Common.{◌∙◌, ◌∷◌, [], codes, rules, arith, FitsSigned}
use Rattle.std.specs.Int.{w128}
use Rattle.std.proofs.lemmas.Int.{to_z-of_z, to_z_pos}
use Rattle.bound_report.specs.Report.{One}
use Rattle.bound_report.proofs.figures_of.Goals as goal

pub returns : goal.returns
returns c =
    let b = c.args.b.now in
    let bits = to_z-of_z w128 c.from.result (record { sfits = c.from.type_inv }) ∙ c.from.ensures in
    let cost_fits : FitsSigned w128 b.cost = search rules in
    let cost = to_z-of_z w128 b.cost cost_fits in
    let gap_fits : FitsSigned w128 b.gap = search rules in
    let gap = to_z-of_z w128 b.gap gap_fits in
    let margin_fits : FitsSigned w128 b.margin = search rules in
    let margin = to_z-of_z w128 b.margin margin_fits in
    let multiplier_fits : FitsSigned w128 b.multiplier = search rules in
    let multiplier = to_z-of_z w128 b.multiplier multiplier_fits in
    let step = to_z-of_z w128 c.from-2.result (record { sfits = c.from-2.type_inv }) ∙ c.from-2.ensures in
    let steps = to_z-of_z w128 c.from-3.result (record { sfits = c.from-3.type_inv }) ∙ c.from-3.ensures in
    let undercut_fits : FitsSigned w128 b.undercut = search rules in
    let undercut = to_z-of_z w128 b.undercut undercut_fits in
    let version = to_z-of_z w128 c.from-4.result (record { sfits = c.from-4.type_inv }) ∙ c.from-4.ensures in
    let violation_fits : FitsSigned w128 b.violation = search rules in
    let violation = to_z-of_z w128 b.violation violation_fits in
    let width = to_z-of_z w128 c.from-5.result (record { sfits = c.from-5.type_inv }) ∙ c.from-5.ensures in
    let words = to_z_pos w128 b.words (omega arith) in
    λ i. (codes "bits", One (bits i)) ∷ (c.cost_key.ensures i, One (cost i)) ∷ (codes "gap", One (gap i)) ∷ (codes "margin", One (margin i))
    ∷ (codes "multiplier", One (multiplier i)) ∷ (codes "step", One (step i)) ∷ (codes "steps", One (steps i)) ∷ (codes "undercut", One (undercut i))
    ∷ (codes "version", One (version i)) ∷ (codes "violation", One (violation i)) ∷ (codes "width", One (width i)) ∷ (codes "words", One (words i)) ∷ []
