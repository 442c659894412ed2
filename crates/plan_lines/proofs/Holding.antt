-- What a command prints that reads two files, where they hold these things.
use Rattle.std.proofs.Common.{◌≡◌, inl, inr, List, ℕ, Some, sym, subst}
use Rattle.std.specs.Prelude.{Option, IfSome, IsSomeAnd}
use Rattle.io_edge.specs.Faults.{Files}
use Rattle.command_line.specs.Words.{word_of}
use Rattle.command_line.specs.Answers.{ForContents, IsAnswer, IsCaused}
use Rattle.command_line.specs.Kind.{Kind}
use Rattle.command_line.specs.Script.{Act, Script, ends, reads, HoldsAt, calls_of, shows_of, printing_work}
use Rattle.command_line.proofs.Results.{both_some}
use Rattle.command_line.proofs.Following.{called_told, shown_told}
use Rattle.command_line.specs.declared.status.Status.{Status}
use Rattle.command_line.specs.declared.status.Status.TheVariants.{Done}
use Rattle.plan_lines.specs.Printing.{Lines, AreLinesPrinted}
use Rattle.plan_lines.proofs.Acting.{nothing_shown}

module _ (k : Kind) (l : k.Value → Kind) (act : (x : k.Value) → (l x).Value → Act) where
  abbrev script : Script
  script = reads 1 k (λ x. reads 2 (l x) (λ y. ends (act x y)))

  -- the files hold nothing but these
  module _ (words : List (List ℕ)) (files : Files) (x : k.Value) (y : (l x).Value) (one : (z : k.Value) → HoldsAt (λ at. files (word_of words at)) 1 k z → z ≡ x)
      (other : (z : (l x).Value) → HoldsAt (λ at. files (word_of words at)) 2 (l x) z → z ≡ y) where
    module _ (lines : Lines) (none : (old new : List ℕ) → new ≡ old → lines.some old new) (s : Status) (by : (old new : List ℕ) → (act x y).shows s old new → AreLinesPrinted lines s old new) where
      shown : (old new : List ℕ) → shows_of script (λ at. files (word_of words at)) s old new → AreLinesPrinted lines s old new
      shown old new (inl nothing) = nothing_shown lines s old new (none old new) nothing
      shown old new (inr (z, right, inl nothing)) = nothing_shown lines s old new (none old new) nothing
      shown old new (inr (z, right, inr (n, second, p))) =
          by old new
          (subst (λ (v : k.Value). (w : (l v).Value) → HoldsAt (λ at. files (word_of words at)) 2 (l v) w → (act v w).shows s old new → (act x y).shows s old new) (sym (one z right))
          (λ w is. subst (λ (v : (l x).Value). (act x v).shows s old new) (other w is)) n second p)

      -- all is done, but for want of memory and faults, and these lines are printed
      pub all_shown : (before now : Option (List ℕ)) → calls_of script (λ at. files (word_of words at)) Done → (IsCaused s → ForContents words (Some files) (λ contents. IsAnswer (calls_of script contents) s)) →
          IfSome before (λ old. IsSomeAnd now (λ new. ForContents words (Some files) (λ contents. shows_of script contents s old new))) →
          (IsCaused s → s ≡ Done) × IfSome before (λ old. IsSomeAnd now (AreLinesPrinted lines s old))
      all_shown before now call called prints = (
        λ caused.
            let found = called caused in
            sym (found.true_of.only Done (called_told words Done files (printing_work script (λ t. ⊥)) call found.contents found.told)),
        both_some (shows_of script (λ at. files (word_of words at)) s) (AreLinesPrinted lines s) shown before now (shown_told words s files script before now prints),
      )
