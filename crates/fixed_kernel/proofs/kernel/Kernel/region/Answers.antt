use Rattle.std.proofs.Common.{length, ap, ◌∙◌}
use Rattle.word_region.specs.Words.{RegionWords}
use Rattle.fixed_kernel.specs.Progress.{Progress, progress_of}
use Rattle.fixed_kernel.proofs.Reached.{region_long, goes}
use Rattle.fixed_kernel.proofs.kernel.Kernel.region.Goals as goal

pub returns-clause-size : goal.returns-clause-size
returns-clause-size c =
    let k = c.self.inside in
    let r = c.self.invariant in
    ap (λ (w : RegionWords). length w.words) r.region ∙ region_long (progress_of k) (goes k r) ∙ ap (λ (p : Progress). p.controller.words) c.self.view_is
