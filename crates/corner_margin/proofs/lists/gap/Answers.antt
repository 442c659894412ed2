use Rattle.corner_margin.proofs.GapFacts.{difference_fits, negated_fits, gap_fits, gap_is}
use Rattle.corner_margin.proofs.lists.gap.Goals as goal

pub overflow_sub-value : goal.overflow_sub-value
overflow_sub-value c = difference_fits c.args.value.mid c.args.value.rad c.args.target c.args.value.nonnegative c.requires

pub abs-requires : goal.abs-requires
abs-requires c = negated_fits c.args.value.mid c.args.value.rad c.args.target c.args.value.nonnegative c.requires

pub overflow_add-result : goal.overflow_add-result
overflow_add-result c = gap_fits c.args.value.mid c.args.value.rad c.args.target c.args.value.nonnegative c.requires c.abs.result c.abs.ensures.value

pub returns : goal.returns
returns c = gap_is c.args.value.mid c.args.value.rad c.args.target c.args.value.nonnegative c.requires c.abs.result c.abs.ensures.value
