-- The values that were found at a design text's keys, in the order of the places.
use Rattle.std.specs.Prelude.{ℕ, ◌-◌, Option, slice_get}
use Rattle.std.specs.Option.{option_map}
use Rattle.toml.specs.Data.{Data}
use Rattle.toml.specs.View.{view}
use Rattle.design_files.specs.Values.{Values}
use Rattle.design_files.specs.declared.keys.Keys.{Keys}

-- what was found at a place, from 1
abbrev pub found : Keys → ℕ → Option Data
found keys place = option_map (λ value. view value.now) (slice_get keys.values (place - 1))

abbrev pub seen : Keys → Values
seen keys = record {
  version = found keys 1;
  states = found keys 2;
  inputs = found keys 3;
  stages = found keys 4;
  plant_den = found keys 5;
  a = found keys 6;
  b = found keys 7;
  cost_den = found keys 8;
  row_den = found keys 9;
  input = found keys 10;
  stage_cost = found keys 11;
  final_cost = found keys 12;
  limit_den = found keys 13;
  stage_rows = found keys 14;
  final_rows = found keys 15;
  grid = found keys 16;
  lo = found keys 17;
  hi = found keys 18;
  target_den = found keys 19;
  violation = found keys 20;
  gap = found keys 21;
}
