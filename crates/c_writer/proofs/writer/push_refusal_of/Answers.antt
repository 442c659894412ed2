use Rattle.std.proofs.Common.{◌++◌, ◌∙◌, ◌∷◌, [], to_z, of_z, ℤ, FitsSigned, ap, rules, arith, string_bytes}
use Rattle.std.specs.Int.{w128}
use Rattle.std.proofs.lemmas.Int.{to_z-of_z}
use Rattle.integer_algebra.specs.Sums.{at}
use Rattle.number_text.specs.Lines.{text_of}
use Rattle.qp_model.specs.machine.Controller.{numbers}
use Rattle.qp_model.proofs.VersionLaws.{states_le}
use Rattle.overflow_check.proofs.Sizes.{numerator_read}
use Rattle.c_language.specs.Text.{refusal_text}
use Rattle.overflow_check.specs.FastController.{with_last_version}
use Rattle.c_writer.proofs.Lists.{at_any}
use Rattle.c_writer.proofs.writer.push_refusal_of.Goals as goal

pub push_refusal-requires-clause-low : goal.push_refusal-requires-clause-low
push_refusal-requires-clause-low c =
    let s = c.args.from.now.sound.form.sized in
    let f : FitsSigned w128 c.index.result.now = search rules in
    rw (to_z-of_z w128 _ f) (omega (arith, numerator_read c.args.from.now.c.now.lo.items c.args.i c.index.result.now s.low c.requires.in_range c.index.ensures))

pub push_refusal-requires-clause-high : goal.push_refusal-requires-clause-high
push_refusal-requires-clause-high c =
    let s = c.args.from.now.sound.form.sized in
    let f : FitsSigned w128 c.index-2.result.now = search rules in
    rw (to_z-of_z w128 _ f) (omega (arith, numerator_read c.args.from.now.c.now.hi.items c.args.i c.index-2.result.now s.high (omega (arith, c.requires.in_range, s.shaped.low, s.shaped.high)) c.index-2.ensures))

pub push_refusal-requires-clause-short : goal.push_refusal-requires-clause-short
push_refusal-requires-clause-short c =
    let s = c.args.from.now.sound.form.sized in
    omega (arith, c.requires.in_range, s.shaped.low, s.states.1, states_le (with_last_version (numbers c.args.from.now.c.now)) s)

pub returns : goal.returns
returns c =
    let s = c.args.from.now.sound.form.sized in
    let f : FitsSigned w128 c.index.result.now = search rules in
    let g : FitsSigned w128 c.index-2.result.now = search rules in
    let low = to_z-of_z w128 _ f ∙ at_any c.args.from.now.c.now.lo.items c.args.i c.index.result.now c.requires.in_range c.index.ensures in
    let high = to_z-of_z w128 _ g ∙ at_any c.args.from.now.c.now.hi.items c.args.i c.index-2.result.now (omega (arith, c.requires.in_range, s.shaped.low, s.shaped.high)) c.index-2.ensures in
    c.in_ok-push_refusal.ensures ∙ ap (λ (z : ℤ). string_bytes c.args.text.now ++ text_of (refusal_text z (to_z w128 (of_z w128 c.index-2.result.now)) c.args.i ∷ [])) low ∙
    ap (λ (z : ℤ). string_bytes c.args.text.now ++ text_of (refusal_text (at c.args.from.now.c.now.lo.items c.args.i) z c.args.i ∷ [])) high
