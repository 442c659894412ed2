use Rattle.std.proofs.Common.{◌≡◌, ◌<◌, ℕ, None, length, get_or}
use Rattle.toml.specs.View.{table_view}
use Rattle.design_files.specs.Values.{in_order}
use Rattle.design_files.proofs.FoundLaws.{at_keys}
use Rattle.design_files.proofs.keys.find_places.Given as goal

abbrev pub invariant-loop-i : goal.invariant-loop-i
invariant-loop-i l = record {
  found : (k : ℕ) → k < l.i → get_or (in_order (table_view l.document)) k None ≡ at_keys l.values k;
  long : length l.values ≡ 21;
}
