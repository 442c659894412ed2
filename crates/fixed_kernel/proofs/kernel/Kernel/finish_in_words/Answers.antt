use Rattle.std.proofs.Common.{◌≡◌, ap, ◌∙◌}
use Rattle.qp_model.specs.machine.Controller.{numbers}
use Rattle.word_region.specs.declared.Span.{Span}
use Rattle.fixed_kernel.specs.Progress.{Progress, progress_of}
use Rattle.fixed_kernel.proofs.Reached.{Stands, reached, seen, kernel_after, finished_stands, lent_held, state_lent, made_lent}
use Rattle.fixed_kernel.proofs.kernel.Kernel.finish_in_words.Goals as goal

pub finish-requires-clause-state : goal.finish-requires-clause-state
finish-requires-clause-state c =
    let k = c.self.inside in
    let r = c.self.invariant in
    let n = numbers c.parts-c.result.now in
    state_lent k r n c.cells_mut.result.now c.parts-c.ensures.value (lent_held k r c.all_of.result c.cells_mut.result.now n c.parts-c.ensures.value c.all_of.ensures c.cells_mut.ensures.value)

pub finish-requires-clause-start : goal.finish-requires-clause-start
finish-requires-clause-start c =
    let k = c.self.inside in
    let r = c.self.invariant in
    let n = numbers c.parts-c.result.now in
    made_lent k r n c.cells_mut.result.now c.parts-c.ensures.value (lent_held k r c.all_of.result c.cells_mut.result.now n c.parts-c.ensures.value c.all_of.ensures c.cells_mut.ensures.value)

-- the kernel after all steps is at its last progress
finished : (c : goal.After-self-3-1) → Stands (kernel_after c.self.inside c.all_of.result.start c.finish.new.words c.parts-c.result.now.steps c.finish.new.self) (record (progress_of c.self.inside) { made = c.self.inside.controller.now.steps })
finished c =
    let k = c.self.inside in
    let r = c.self.invariant in
    let n = numbers c.parts-c.result.now in
    let lent = lent_held k r c.all_of.result c.cells_mut.result.now n c.parts-c.ensures.value c.all_of.ensures c.cells_mut.ensures.value in
    let start : c.all_of.result.start ≡ 0 = ap (λ (s : Span). s.start) c.all_of.ensures in
    finished_stands k r n c.finish.new.self c.all_of.result.start c.cells_mut.result.now c.finish.new.words start c.parts-c.ensures.value lent c.finish.ensures.machine c.finish.ensures.words

pub invariant_of-self-2 : goal.invariant_of-self-2
invariant_of-self-2 c = reached _ _ (finished c)

pub returns-clause-made : goal.returns-clause-made
returns-clause-made c = λ t. seen _ _ (finished c) ∙ ap (λ (p : Progress). record p { made = p.controller.steps }) c.self.view_is
