use Rattle.std.proofs.Common.{◌≡◌, ◌++◌, drop, option_map}
use Rattle.toml.specs.View.{items_view}
use Rattle.design_files.specs.Numbers.{integers_of}
use Rattle.design_files.proofs.numbers.integers.Given as goal

-- the integers so far, and those of the items that are left
abbrev pub invariant-loop-item : goal.invariant-loop-item
invariant-loop-item l = integers_of (items_view l.items) ≡ option_map (λ zs. l.numbers.items ++ zs) (integers_of (items_view (drop l.item-index l.items)))
