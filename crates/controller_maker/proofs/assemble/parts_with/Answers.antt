use Rattle.std.proofs.Common.{◌≡◌, ℕ, ◌+◌, ◌*◌, ◌^◌, ◌<◌, ◌≤◌, FitsSigned, rules, refl, arith, ◌∙◌}
use Rattle.std.specs.Int.{w128}
use Rattle.std.proofs.lemmas.Int.{to_z-of_z}
use Rattle.std.proofs.Math.Nat.{mul-le-mul}
use Rattle.qp_model.proofs.VersionLaws.{design_states_le, design_stages_le, design_rows_le}
use Rattle.controller_maker.proofs.Frames.{frame_from}
use Rattle.controller_maker.proofs.assemble.parts_with.Goals as goal

pub returns-clause-frame : goal.returns-clause-frame
returns-clause-frame c = λ r e.
    let f : FitsSigned w128 c.args.clamp = search rules in
    rw (to_z-of_z w128 _ f) (frame_from c.args.machine c.args.parts.now r c.args.settings.s c.args.exps.items c.args.settings.steps c.args.settings.f _ c.args.rows c.requires.design c.requires.rows
    c.version_of.ensures refl refl refl c.rows-m.ensures.count refl refl refl refl e (rw (c.lists_of.ensures.value, c.rows-m.ensures.count, c.cols-nu.ensures) refl)
    refl c.requires.low c.requires.high refl refl refl)

pub returns-clause-gains : goal.returns-clause-gains
returns-clause-gains c = record { state_gains = refl; offsets = refl; dual_gains = refl }

-- the words of a run
words_fit : (states stages inputs lists m limits nu : ℕ) → states ≤ 6 → stages ≤ 30 → inputs ≤ 3 → lists ≤ 3 → limits ≤ 372 → m ≡ limits → nu ≡ stages * inputs → states + lists * m + 2 * nu < 2 ^ 64
words_fit states stages inputs lists m limits nu n s p k l e f =
    let few : m ≤ 372 = omega (arith, l, e) in
    omega (arith, n, mul-le-mul s p, mul-le-mul k few, f)

words : (c : goal.After-lists_of) → c.args.parts.now.states + c.lists_of.result * c.rows-m.result + 2 * c.cols-nu.result < 2 ^ 64
words c =
    let p = c.args.parts.now in
    let d = c.requires.design in
    words_fit p.states p.stages p.inputs _ _ _ _ (design_states_le p d) (design_stages_le p d) d.inputs.1 c.lists_of.ensures.few (design_rows_le p d)
    (c.rows-m.ensures.count ∙ c.requires.rows.plan.rows) (c.cols-nu.ensures ∙ c.requires.rows.plan.cols)

pub overflow_mul-result : goal.overflow_mul-result
overflow_mul-result c = record { fits = omega (arith, words c) }

pub overflow_add-result : goal.overflow_add-result
overflow_add-result c = record { fits = omega (arith, words c) }

pub overflow_mul-result-2 : goal.overflow_mul-result-2
overflow_mul-result-2 c = record { fits = omega (arith, words c) }

pub overflow_add-result-2 : goal.overflow_add-result-2
overflow_add-result-2 c = record { fits = omega (arith, words c) }
