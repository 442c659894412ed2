-- Why there is no excess.
use Rattle.std.specs.Prelude.{◌≡◌, ◌⊎◌, ℕ, ◌^◌, ◌<◌}
use Rattle.qp_model.specs.declared.quantity.Quantity.TheVariants.{Excess}
use Rattle.qp_model.specs.declared.size_fault.SizeFault.{SizeFault}
use Rattle.qp_model.specs.declared.size_fault.SizeFault.TheVariants.{Memory, TooWide}

-- out of memory, or the quantity of this size is above its limit
abbrev pub IsExcessFault : (size : ℕ) → SizeFault → Type 0
IsExcessFault size e = (e ≡ Memory) ⊎ ((e ≡ TooWide Excess) × (2 ^ 126 < size))
