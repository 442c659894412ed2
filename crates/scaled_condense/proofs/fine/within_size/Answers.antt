use Rattle.std.proofs.Common.{ℕ, ◌*◌, ◌^◌, sym, ap, ◌∙◌}
use Rattle.scaled_condense.proofs.FaultFacts.{made_apart, same_quantity, above_second, within_both, greater_is}
use Rattle.scaled_condense.proofs.fine.within_size.Goals as goal

pub widest_row-radius-requires : goal.widest_row-radius-requires
widest_row-radius-requires c = record { scale = c.requires.scale; fits = c.requires.fits; held = c.requires.numbers.hess }

pub returns-clause-costs : goal.returns-clause-costs
returns-clause-costs c = record {
  scale = c.requires.scale;
  numbers = c.requires.numbers;
  widest = c.widest_row-radius.ensures;
  quantity = greater_is _ _ c.max.result c.args.total c.in-Some.narrow c.max.ensures c.requires.total (c.in-Some.ensures.1 ∙ ap (λ (n : ℕ). 2 ^ 86 * n) c.widest_row-radius.ensures);
  room = within_both _ _ c.requires.fits (rw c.widest_row-radius.ensures at c.in-Some.ensures.0);
}

pub returns-clause-wide : goal.returns-clause-wide
returns-clause-wide c = λ q e. absurd (made_apart e)

pub returns-in_default-clause-wide : goal.returns-in_default-clause-wide
returns-in_default-clause-wide c = λ q e. (sym (same_quantity e), above_second _ _ (rw c.widest_row-radius.ensures at c.in_default.ensures))
