-- A number of 128 bits as two words of 64.
use Rattle.std.specs.Prelude.{◌^◌, ℤ, pos, ◌+ℤ◌, ◌*ℤ◌}
use Rattle.mat_products.specs.declared.narrow.Halves.{Halves}

abbrev pub whole : Halves → ℤ
whole h = h.high *ℤ pos (2 ^ 64) +ℤ pos h.low
