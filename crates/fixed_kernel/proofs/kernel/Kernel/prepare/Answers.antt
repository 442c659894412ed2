use Rattle.std.proofs.Common.{◌≡◌, length, pos, ap, sym, subst, ◌∙◌, arith, refl, Option}
use Rattle.std.specs.Prelude.{IfSome}
use Rattle.std.proofs.lemmas.List.{length-replicate}
use Rattle.qp_model.specs.machine.Controller.{Numbers, numbers}
use Rattle.qp_model.specs.machine.Machine.{IsAdmissible, loaded, start_of}
use Rattle.qp_model.specs.machine.AbsoluteSums.{IsController}
use Rattle.overflow_check.proofs.Machines.{as_last, shared}
use Rattle.overflow_check.specs.declared.machine.Machine.TheVariants.{Plain}
use Rattle.word_region.specs.declared.Span.{Span}
use Rattle.word_region.specs.Words.{RegionWords}
use Rattle.word_region.specs.Lending.{written_over}
use Rattle.fixed_kernel.specs.declared.kernel.Kernel.TheInside.{Inside}
use Rattle.fixed_kernel.specs.declared.word_machine.WordMachine.{WordMachine}
use Rattle.fixed_kernel.specs.WordMachine.{IsMachineOf}
use Rattle.fixed_kernel.specs.Factors.{HasNarrowFactors}
use Rattle.fixed_kernel.specs.Spans.{words_of, spans_of}
use Rattle.fixed_kernel.specs.Progress.{Progress}
use Rattle.fixed_kernel.proofs.States.{low_inside}
use Rattle.fixed_kernel.proofs.Reached.{Goes, Stands, reached, seen, written_region, words_first}
use Rattle.fixed_kernel.proofs.kernel.Kernel.prepare.Goals as goal

pub take_spans-spans-requires : goal.take_spans-spans-requires
take_spans-spans-requires c = record {
  sized = c.parts-c.ensures.sound.form.sized;
  free = ap (λ (w : RegionWords). w.used) c.in_ok-region.ensures;
  room = omega (arith, ap (λ (w : RegionWords). length w.words) c.in_ok-region.ensures, length-replicate c.parts-c.result.now.words (pos 0));
}

pub put_start-requires : goal.put_start-requires
put_start-requires c =
    let n = numbers c.parts-c.result.now in
    record {
      sound = c.parts-c.ensures.sound;
      inside = subst (IsAdmissible n) (sym c.deref.ensures.value) (low_inside n c.parts-c.ensures.sound.form.sized);
      long = c.cells_mut.ensures.len ∙ ap (λ (s : Span). s.len) c.all_of.ensures;
    }

pub has_narrow_factors-narrow-requires : goal.has_narrow_factors-narrow-requires
has_narrow_factors-narrow-requires c = shared Plain _ c.parts-c.ensures.sound.form.sized

pub of-requires : goal.of-requires
of-requires c = record { sound = as_last Plain _ c.parts-c.ensures.sound; narrow = c.has_narrow_factors-narrow.ensures.0 }

-- the fields
abbrev made_kernel : goal.In_ok-words → Option WordMachine → Inside
made_kernel c words = record {
  controller = c.args.controller;
  region = record { words = written_over c.take_spans-spans.new.region.words c.all_of.result.start c.put_start.new.words; used = c.take_spans-spans.new.region.used };
  spans = c.take_spans-spans.result;
  made = 0;
  narrow = c.has_narrow_factors-narrow.result;
  words = words;
}

abbrev first : goal.In_ok-words → Progress
first c = record { controller = c.args.controller.now; state = c.args.controller.now.low; made = 0 }

fresh : (c : goal.In_ok-words) (words : Option WordMachine) → IfSome words (IsMachineOf (numbers c.parts-c.result.now)) → Stands (made_kernel c words) (first c)
fresh c kept own =
    let n = numbers c.parts-c.result.now in
    let e = c.parts-c.ensures.value in
    let sound = subst IsController e c.parts-c.ensures.sound in
    let xi = c.args.controller.now.low in
    let words : n.words ≡ c.args.controller.now.words = ap (λ (m : Numbers). m.words) e in
    let g : Goes (first c) = record { sound = sound; grid = low_inside c.args.controller.now sound.form.sized; steps = omega arith } in
    let low : c.deref.result.now ≡ xi = c.deref.ensures.value ∙ ap (λ (m : Numbers). m.low) e in
    let made = c.put_start.ensures ∙ ap (λ (ys : _). words_of (loaded n ys) (start_of n)) low ∙ ap (λ (m : Numbers). words_of (loaded m xi) (start_of m)) e ∙ words_first c.args.controller.now xi in
    record {
      controller = refl;
      made = refl;
      goes = g;
      region = written_region c.take_spans-spans.new.region c.all_of.result.start c.put_start.new.words (first c) (ap (λ (s : Span). s.start) c.all_of.ensures)
          (c.take_spans-spans.ensures.size ∙ ap (λ (w : RegionWords). length w.words) c.in_ok-region.ensures ∙ length-replicate c.parts-c.result.now.words (pos 0) ∙ words) g (c.take_spans-spans.ensures.used ∙ words) made;
      spans = c.take_spans-spans.ensures.spans ∙ ap spans_of e;
      narrow = λ t. subst HasNarrowFactors e (c.has_narrow_factors-narrow.ensures.0 t);
      words = subst (λ (m : Numbers). IfSome kept (IsMachineOf m)) e own;
    }

pub invariant_of-result : goal.invariant_of-result
invariant_of-result c = reached (made_kernel c c.in_ok-words.words) (first c) (fresh c c.in_ok-words.words c.in_ok-words.ensures)

pub returns : goal.returns
returns c = seen (made_kernel c c.in_ok-words.words) (first c) (fresh c c.in_ok-words.words c.in_ok-words.ensures)
