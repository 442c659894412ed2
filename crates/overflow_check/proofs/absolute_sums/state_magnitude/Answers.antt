use Rattle.std.proofs.Common.{ℕ, List, ap, sym, get_or, ◌∙◌}
use Rattle.std.proofs.lemmas.List.{get_or-take}
use Rattle.overflow_check.proofs.absolute_sums.state_magnitude.Goals as goal

pub returns : goal.returns
returns c =
    sym (get_or-take c.args.parts.now.n c.state_magnitudes-states.result c.args.k 0 c.requires.in_range) ∙ ap (λ (xs : List ℕ). get_or xs c.args.k 0) c.state_magnitudes-states.ensures
