-- What a store and a sink in memory show.
use Rattle.std.specs.Prelude.{ℕ, ◌+◌, ◌-◌, ◌^◌, ◌≤◌, nat_lt, take, min, List, [], ◌∷◌, length, Option, Some, None, if◌then◌else◌}
use Rattle.std.specs.Option.{option_map, option_and_then}
use Rattle.std.specs.Map.{lookup}
use Rattle.std.specs.Str.{bytes_eq}
use Rattle.io_edge.specs.Faults.{Files}
use Rattle.trials_stores.specs.Slot.{Slot}
use Rattle.trials_stores.specs.declared.failing.FailingWrite.{FailingWrite}

-- a store: what stands under each name, in the names' order, the calls that are to fail by their numbers, how many calls there were, and how
-- many of them failed
pub record MemoryStore : Type 0 where
  pub slots : List (List ℕ × Slot)
  pub failing_reads : List ℕ
  pub failing_writes : List FailingWrite
  pub reads : ℕ
  pub writes : ℕ
  pub read_failures : ℕ
  pub write_failures : ℕ

-- what stands under a name
abbrev pub slot_at : MemoryStore → List ℕ → Option Slot
slot_at s name = lookup (bytes_eq name) s.slots

abbrev pub files_of : MemoryStore → Files
files_of s name = option_and_then (λ e. e.held) (slot_at s name)

-- how many bytes may be written to a name, where it has any room
abbrev pub rooms_of : MemoryStore → List ℕ → Option ℕ
rooms_of s name = option_map (λ e. e.room) (slot_at s name)

-- no count is above the greatest
pub record HasCounts (s : MemoryStore) : Type 0 where
  pub reads : s.read_failures ≤ 2 ^ 64 - 1
  pub writes : s.write_failures ≤ 2 ^ 64 - 1

-- a name has room for so many bytes
abbrev pub HasRoom : Option ℕ → ℕ → Type 0
HasRoom None count = ⊥
HasRoom (Some room) count = count ≤ room

-- what a name holds after a write for which there is room: a listed write keeps a proper prefix of the bytes
abbrev pub after_fit : Option (List ℕ) → List ℕ → Option ℕ → Option (List ℕ)
after_fit old bytes None = Some bytes
after_fit old [] (Some keep) = old
after_fit old (b ∷ bytes) (Some keep) = Some (take (min keep (length bytes)) (b ∷ bytes))

-- what it holds after any write
abbrev pub after_write : Option (List ℕ) → Option ℕ → List ℕ → Option ℕ → Option (List ℕ)
after_write old None bytes keep = old
after_write old (Some room) bytes keep = if nat_lt room (length bytes) then old else after_fit old bytes keep

-- a sink: what it got, how much it takes in all, the calls that are to fail by their numbers, how many calls there were, and how many failed
pub record MemorySink : Type 0 where
  pub got : List ℕ
  pub room : ℕ
  pub fails : List ℕ
  pub calls : ℕ
  pub failures : ℕ

-- one more, which stands still at the greatest: the number of the next call, and a count after a fault
abbrev pub one_more : ℕ → ℕ
one_more n = min (n + 1) (2 ^ 64 - 1)
