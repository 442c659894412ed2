-- The boxes that loops lie in turn by turn, as the code holds them.
use Rattle.std.specs.Prelude.{◌≡◌, ℕ, ◌+◌, length}
use Rattle.mat_int.specs.Matrix.{entry_of, HasEntries}
use Rattle.settle_check.specs.Still.{Box}
use Rattle.settle_check.specs.Beyond.{IsFirstTurnBeyond}
use Rattle.settle_check.specs.declared.tube.Tube.{Tube}
use Rattle.settle_check.specs.declared.tube.Beyond.{Beyond}

-- the box of a turn
abbrev pub tube_at : Tube → ℕ → Box
tube_at t turn = record { low = λ i. entry_of t.lows i turn; high = λ i. entry_of t.highs i turn }

-- of n coordinates, at the turns up to a last one
pub record HasTurns (n turns : ℕ) (t : Tube) : Type 0 where
  pub low_rows : length t.lows.rows ≡ n
  pub low_cols : t.lows.cols ≡ turns + 1
  pub high_rows : length t.highs.rows ≡ n
  pub high_cols : t.highs.cols ≡ turns + 1

-- they are those of a list of boxes
pub record HoldsBoxes (n turns : ℕ) (boxes : ℕ → Box) (t : Tube) : Type 0 where
  pub lows : HasEntries n (turns + 1) (λ i k. (boxes k).low i) t.lows
  pub highs : HasEntries n (turns + 1) (λ i k. (boxes k).high i) t.highs

-- the first end that lies beyond the goals
abbrev pub IsFirstEndBeyond : (n turns : ℕ) → (goals : ℕ → Box) → Tube → Beyond → Type 0
IsFirstEndBeyond n turns goals t b = IsFirstTurnBeyond n turns goals (tube_at t) b.turn b.coordinate b.bound
