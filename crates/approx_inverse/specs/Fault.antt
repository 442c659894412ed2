-- What a fault tells.
use Rattle.std.specs.Prelude.{◌≡◌}
use Rattle.qp_model.specs.declared.quantity.Quantity.TheVariants.{Descent}
use Rattle.qp_model.specs.declared.size_fault.SizeFault.{SizeFault}
use Rattle.qp_model.specs.declared.size_fault.SizeFault.TheVariants.{Memory, TooWide}

-- memory ran out, or p holds and the fault names the quantity `descent`
abbrev pub IsFault : SizeFault → Type 0 → Type 0
IsFault Memory p = Unit {0}
IsFault (TooWide q) p = (q ≡ Descent) × p
