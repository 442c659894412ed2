-- The sizes of what solving works in.
use Rattle.std.specs.Prelude.{◌≡◌, ℕ, ◌-◌, ◌≤◌, length}
use Rattle.word_region.specs.Words.{IsLive}
use Rattle.approx_inverse.specs.declared.workspace.Workspace.{Workspace}

-- lists of n numbers, a live span of n words, and n free words
pub record IsWorkspace (n : ℕ) (w : Workspace) : Type 0 where
  pub column : length w.column.items ≡ n
  pub guess : length w.guess.items ≡ n
  pub rest : length w.rest.items ≡ n
  pub live : IsLive w.region w.solution
  pub len : w.solution.len ≡ n
  pub free : n ≤ length w.region.words - w.region.used
