use Rattle.std.proofs.Common.{◌≡◌, ap, ◌∙◌, sym, subst}
use Rattle.qp_model.specs.machine.Controller.{Numbers, numbers}
use Rattle.qp_model.specs.machine.Machine.{IsAdmissible}
use Rattle.word_region.specs.declared.Span.{Span}
use Rattle.fixed_kernel.specs.Progress.{Progress}
use Rattle.fixed_kernel.proofs.Reached.{reached, seen, kernel_with, loaded_stands}
use Rattle.fixed_kernel.proofs.kernel.Kernel.load_inside.Goals as goal

pub put_start-requires-clause-inside : goal.put_start-requires-clause-inside
put_start-requires-clause-inside c =
    subst (λ (n : Numbers). IsAdmissible n c.args.state.now) (sym (c.parts-c.ensures.value ∙ ap (λ (p : Progress). p.controller) c.self.view_is)) c.requires

pub put_start-requires-clause-sound : goal.put_start-requires-clause-sound
put_start-requires-clause-sound c = c.parts-c.ensures.sound

pub put_start-requires-clause-long : goal.put_start-requires-clause-long
put_start-requires-clause-long c = c.cells_mut.ensures.len ∙ ap (λ (s : Span). s.len) c.all_of.ensures

pub invariant_of-self : goal.invariant_of-self
invariant_of-self c =
    let k = c.self.inside in
    let xi = c.args.state.now in
    let start : c.all_of.result.start ≡ 0 = ap (λ (s : Span). s.start) c.all_of.ensures in
    let inside = subst (λ (n : Numbers). IsAdmissible n xi) (sym (c.parts-c.ensures.value ∙ ap (λ (p : Progress). p.controller) c.self.view_is)) c.requires in
    reached (kernel_with k c.all_of.result.start c.put_start.new.words 0) (record { controller = k.controller.now; state = xi; made = 0 })
    (loaded_stands k c.self.invariant (numbers c.parts-c.result.now) xi c.all_of.result.start c.put_start.new.words start c.parts-c.ensures.value inside c.put_start.ensures)

pub returns : goal.returns
returns c =
    let k = c.self.inside in
    let xi = c.args.state.now in
    let start : c.all_of.result.start ≡ 0 = ap (λ (s : Span). s.start) c.all_of.ensures in
    let inside = subst (λ (n : Numbers). IsAdmissible n xi) (sym (c.parts-c.ensures.value ∙ ap (λ (p : Progress). p.controller) c.self.view_is)) c.requires in
    seen (kernel_with k c.all_of.result.start c.put_start.new.words 0) (record { controller = k.controller.now; state = xi; made = 0 })
    (loaded_stands k c.self.invariant (numbers c.parts-c.result.now) xi c.all_of.result.start c.put_start.new.words start c.parts-c.ensures.value inside c.put_start.ensures)
    ∙ ap (λ (p : Progress). record { controller = p.controller; state = xi; made = 0 }) c.self.view_is
