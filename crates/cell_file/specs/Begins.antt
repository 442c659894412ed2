-- Lines with which the lines of a controller begin, whatever comes behind.
use Rattle.std.specs.Prelude.{◌≡◌, ℕ, ◌<◌, ◌≤◌, List, ◌++◌, Option, MatchOption}
use Rattle.qp_model.specs.machine.Controller.{Numbers, FitsWord}
use Rattle.controller_text.specs.TextForm.{IsTextForm}
use Rattle.text_lines.specs.Lines.{Keyed}
use Rattle.controller_text.specs.Lines.{keyed_lines}

-- they are a part of a controller's lines, or these and more
pub record BeginsCell (ls : List Keyed) : Type 0 where
  pub numbers : Numbers
  pub form : IsTextForm numbers
  pub word : FitsWord numbers
  pub more : List Keyed
  pub rest : List Keyed
  pub lines : ls ++ more ≡ keyed_lines numbers ++ rest

-- of n lines, those before an end are all there, or they aren't
abbrev pub EndsAt : (n end : ℕ) → Option ℕ → Type 0
EndsAt n end found = MatchOption found (n < end) (λ e. (e ≡ end) × (end ≤ n))
