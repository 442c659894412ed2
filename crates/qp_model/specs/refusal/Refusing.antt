-- The refusal that a fault becomes.
use Rattle.qp_model.specs.declared.size_fault.SizeFault.{SizeFault}
use Rattle.qp_model.specs.declared.size_fault.SizeFault.TheVariants.{Memory as no_memory, TooWide as wide}
use Rattle.qp_model.specs.declared.refusal.Refusal.{Refusal}
use Rattle.qp_model.specs.declared.refusal.Refusal.TheVariants.{Memory, TooWide}

abbrev pub of_size : SizeFault → Refusal
of_size no_memory = Memory
of_size (wide quantity) = TooWide quantity
