-- The listed writes.
use Rattle.std.specs.Prelude.{ℕ, ◌==◌, List, Option, find, option_map}
use Rattle.trials_stores.specs.declared.failing.FailingWrite.{FailingWrite}

-- how many bytes the write of this number is to keep, where it is listed: by its first listing
abbrev pub keep_of : List FailingWrite → ℕ → Option ℕ
keep_of writes call = option_map (λ w. w.keep) (find (λ w. w.call == call) writes)
