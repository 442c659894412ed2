use Rattle.std.proofs.Common.{◌≡◌, ◌+◌, ◌<◌, ap, sym, subst, ◌∙◌}
use Rattle.qp_model.specs.machine.Controller.{numbers}
use Rattle.qp_model.specs.machine.Machine.{loaded, step_of}
use Rattle.overflow_check.proofs.Runs.{after_suc}
use Rattle.word_region.specs.declared.Span.{Span}
use Rattle.fixed_kernel.specs.Factors.{HasNarrowFactors}
use Rattle.fixed_kernel.specs.Progress.{Progress, iterate_of, progress_of}
use Rattle.fixed_kernel.proofs.Reached.{Stands, reached, seen, kernel_with, stepped_stands, lent_held, state_lent, ready_lent}
use Rattle.fixed_kernel.proofs.kernel.Kernel.step.Goals as goal

pub advance-requires-clause-ready : goal.advance-requires-clause-ready
advance-requires-clause-ready c =
    let k = c.self.inside in
    let r = c.self.invariant in
    let n = numbers c.parts-c.result.now in
    let lt : k.made < k.controller.now.steps = subst (λ (p : Progress). p.made < p.controller.steps) (sym c.self.view_is) c.requires in
    let lent = lent_held k r c.all_of.result c.cells_mut.result.now n c.parts-c.ensures.value c.all_of.ensures c.cells_mut.ensures.value in
    ready_lent k r lt n c.cells_mut.result.now c.parts-c.ensures.value lent

pub advance-requires-clause-setting : goal.advance-requires-clause-setting
advance-requires-clause-setting c =
    let k = c.self.inside in
    let r = c.self.invariant in
    let n = numbers c.parts-c.result.now in
    let lent = lent_held k r c.all_of.result c.cells_mut.result.now n c.parts-c.ensures.value c.all_of.ensures c.cells_mut.ensures.value in
    record {
      sound = c.parts-c.ensures.sound;
      narrow = λ t. subst HasNarrowFactors (sym c.parts-c.ensures.value) (r.narrow t);
      state = state_lent k r n c.cells_mut.result.now c.parts-c.ensures.value lent;
    }

pub advance-requires-clause-long : goal.advance-requires-clause-long
advance-requires-clause-long c = c.cells_mut.ensures.len ∙ ap (λ (s : Span). s.len) c.all_of.ensures

-- the kernel after the step is at the next progress
stepped : (c : goal.After-self-2-1) → Stands (kernel_with c.self.inside c.all_of.result.start c.advance.new.words (c.self.inside.made + 1)) (record (progress_of c.self.inside) { made = c.self.inside.made + 1 })
stepped c =
    let k = c.self.inside in
    let r = c.self.invariant in
    let n = numbers c.parts-c.result.now in
    let lt : k.made < k.controller.now.steps = subst (λ (p : Progress). p.made < p.controller.steps) (sym c.self.view_is) c.requires in
    let lent = lent_held k r c.all_of.result c.cells_mut.result.now n c.parts-c.ensures.value c.all_of.ensures c.cells_mut.ensures.value in
    let start : c.all_of.result.start ≡ 0 = ap (λ (s : Span). s.start) c.all_of.ensures in
    stepped_stands k r lt n c.all_of.result.start c.cells_mut.result.now c.advance.new.words start c.parts-c.ensures.value lent c.advance.ensures

pub invariant_of-self : goal.invariant_of-self
invariant_of-self c = reached _ _ (stepped c)

pub returns-clause-made : goal.returns-clause-made
returns-clause-made c = seen _ _ (stepped c) ∙ ap (λ (p : Progress). record p { made = p.made + 1 }) c.self.view_is

pub returns-clause-values : goal.returns-clause-values
returns-clause-values c =
    let p = progress_of c.self.inside in
    ap iterate_of (seen _ _ (stepped c)) ∙
    after_suc p.controller (loaded p.controller p.state) p.made ∙
    ap (λ (q : Progress). step_of q.controller (loaded q.controller q.state) (iterate_of q)) c.self.view_is
