-- What a fault tells.
use Rattle.std.specs.Prelude.{◌≡◌}
use Rattle.qp_model.specs.declared.quantity.Quantity.TheVariants.{Width}
use Rattle.qp_model.specs.declared.size_fault.SizeFault.{SizeFault}
use Rattle.qp_model.specs.declared.size_fault.SizeFault.TheVariants.{Memory, TooWide}

-- memory ran out, or p holds and the fault names the quantity `width`
abbrev pub IsWidthFault : SizeFault → Type 0 → Type 0
IsWidthFault Memory p = Unit {0}
IsWidthFault (TooWide q) p = (q ≡ Width) × p
