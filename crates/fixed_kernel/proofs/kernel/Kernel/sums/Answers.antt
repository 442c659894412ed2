use Rattle.std.proofs.Common.{◌≡◌, ap, ◌∙◌}
use Rattle.qp_model.specs.machine.Controller.{plan_length}
use Rattle.qp_model.specs.machine.Machine.{loaded}
use Rattle.word_region.specs.Words.{RegionWords}
use Rattle.fixed_kernel.specs.declared.spans.Spans.{Spans}
use Rattle.fixed_kernel.specs.Progress.{Progress, iterate_of, region_of, progress_of}
use Rattle.fixed_kernel.specs.Raised.{with_raised}
use Rattle.fixed_kernel.specs.Spans.{sums_span, words_in}
use Rattle.fixed_kernel.proofs.Words.{sums_cells}
use Rattle.fixed_kernel.proofs.Reached.{goes, loaded_long, words_multipliers_long, plan_entries, sums_entries}
use Rattle.fixed_kernel.proofs.kernel.Kernel.sums.Goals as goal

-- by the kernel's rule
held : (c : goal.After-cells) → let p = progress_of c.self.inside in c.cells.result.now ≡ words_in (sums_span p.controller) (region_of p).words
held c =
    let k = c.self.inside in
    let r = c.self.invariant in
    c.cells.ensures.value ∙ ap (λ (s : Spans). words_in s.sums k.region.words) r.spans ∙ ap (λ (w : RegionWords). words_in (sums_span k.controller.now) w.words) r.region

pub returns-clause-value : goal.returns-clause-value
returns-clause-value c =
    let p = progress_of c.self.inside in
    let g = goes c.self.inside c.self.invariant in
    held c
    ∙ sums_cells p.controller.states p.controller.rows (plan_length p.controller) (loaded p.controller p.state) (with_raised p.controller (iterate_of p)) (loaded_long p g) (words_multipliers_long p g) (plan_entries p g)
    (sums_entries p g) ∙ ap (λ (q : Progress). (iterate_of q).sums) c.self.view_is

pub returns-clause-words : goal.returns-clause-words
returns-clause-words c = held c ∙ ap (λ (q : Progress). words_in (sums_span q.controller) (region_of q).words) c.self.view_is
