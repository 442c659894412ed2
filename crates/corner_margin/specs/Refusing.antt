-- The refusal that a fault becomes.
use Rattle.corner_margin.specs.declared.fault.MarginFault.{MarginFault}
use Rattle.corner_margin.specs.declared.fault.MarginFault.TheVariants.{Memory as no_memory, TooWide as wide, NoMargin as no_margin}
use Rattle.qp_model.specs.declared.refusal.Refusal.{Refusal}
use Rattle.qp_model.specs.declared.refusal.Refusal.TheVariants.{Memory, NoMargin, TooWide}

abbrev pub of_margin : MarginFault → Refusal
of_margin no_memory = Memory
of_margin (wide quantity) = TooWide quantity
of_margin (no_margin corner row slack) = NoMargin corner row slack
