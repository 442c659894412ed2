use Rattle.std.proofs.Common.{◌≡◌, ◌+◌, ◌<◌, ◌^◌, ℤ, pos, ◌*ℤ◌, ap, sym, subst, ◌∙◌, rules, FitsSigned}
use Rattle.std.specs.Prelude.{slice_index_or}
use Rattle.std.specs.Int.{w128}
use Rattle.std.proofs.lemmas.Int.{to_z-of_z}
use Rattle.std.proofs.lemmas.Nat.{pow_pos}
use Rattle.integer_algebra.specs.Division.{floor_of}
use Rattle.integer_algebra.specs.Sums.{at}
use Rattle.qp_model.specs.machine.Controller.{Numbers, numbers}
use Rattle.qp_model.specs.machine.Machine.{lowering_of}
use Rattle.fixed_kernel.specs.declared.spans.Spans.{Spans}
use Rattle.fixed_kernel.specs.Progress.{Progress, iterate_of, region_of, progress_of}
use Rattle.fixed_kernel.proofs.Reached.{goes, word_held, raised_word}
use Rattle.fixed_kernel.proofs.States.{floor-scaled}
use Rattle.fixed_kernel.proofs.kernel.Kernel.multiplier.Goals as goal

pub returns-clause-value : goal.returns-clause-value
returns-clause-value c =
    let k = c.self.inside in
    let r = c.self.invariant in
    let p = progress_of k in
    let i = c.args.i in
    let old = at (iterate_of p).multipliers i in
    let power = 2 ^ lowering_of p.controller i in
    let lt : i < p.controller.rows = subst (λ (q : Progress). i < q.controller.rows) (sym c.self.view_is) c.requires in
    let word : FitsSigned w128 c.word-raised.result = search rules in
    let fits : FitsSigned w128 c.lowered.result = search rules in
    let held : c.word-raised.result ≡ old *ℤ pos power =
    c.word-raised.ensures ∙ ap (λ (s : Spans). slice_index_or k.region.words (s.multipliers.start + i) (pos 0)) r.spans ∙ word_held k r (p.controller.states + i) ∙ raised_word p (goes k r) i lt in
    to_z-of_z w128 _ fits ∙ c.lowered.ensures ∙ ap (λ (z : ℤ). floor_of z (2 ^ lowering_of (numbers c.parts.result.now) i)) (to_z-of_z w128 _ word ∙ held) ∙
    ap (λ (n : Numbers). floor_of (old *ℤ pos power) (2 ^ lowering_of n i)) c.parts.ensures.value ∙ floor-scaled old power (pow_pos (lowering_of p.controller i)) ∙
    ap (λ (q : Progress). at (iterate_of q).multipliers i) c.self.view_is

pub returns-clause-word : goal.returns-clause-word
returns-clause-word c =
    let k = c.self.inside in
    let r = c.self.invariant in
    let p = progress_of k in
    let i = c.args.i in
    let lt : i < p.controller.rows = subst (λ (q : Progress). i < q.controller.rows) (sym c.self.view_is) c.requires in
    subst (λ (q : Progress). at (region_of q).words (q.controller.states + i) ≡ at (iterate_of q).multipliers i *ℤ pos (2 ^ lowering_of q.controller i)) c.self.view_is (raised_word p (goes k r) i lt) ∙
    ap (λ (z : ℤ). z *ℤ pos (2 ^ lowering_of c.args.self.now.controller i)) (sym (returns-clause-value c))
