use Rattle.overflow_check.proofs.Machines.{as_last}
use Rattle.overflow_check.specs.declared.machine.Machine.TheVariants.{Accelerated}
use Rattle.fast_machine.proofs.word_machine.FastWords.of.Goals as goal

pub has_narrow_factors-narrow-requires : goal.has_narrow_factors-narrow-requires
has_narrow_factors-narrow-requires c = c.requires.form.sized.rest

pub of-requires : goal.of-requires
of-requires c = record { sound = as_last Accelerated _ c.requires; narrow = c.has_narrow_factors-narrow.ensures.0 }
