use Rattle.std.proofs.lemmas.List.Elements.{same_from_all_zip}
use Rattle.controller_maker.proofs.assemble.state_box.Goals as goal

pub returns-clause-low : goal.returns-clause-low
returns-clause-low c = same_from_all_zip _ _ _ c.in_ok-clone.ensures.cases.0 (λ x y h. h)

pub returns-clause-high : goal.returns-clause-high
returns-clause-high c = same_from_all_zip _ _ _ c.in_ok-clone-2.ensures.cases.0 (λ x y h. h)
