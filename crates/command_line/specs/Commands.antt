-- Which command the arguments are those of.
use Rattle.std.specs.Prelude.{◌≡◌, ℕ, List, Bool}
use Rattle.command_line.specs.Words.{IsSolve, IsGenerate, IsLoop, IsDemo, IsList, IsStay, IsPlay, IsLean, IsLeanStay, IsSplit, IsServe, IsC, IsSettle}
use Rattle.command_line.specs.declared.words.Command.{Command}
use Rattle.command_line.specs.declared.words.Command.TheVariants.{Generate, Solve, Loop, Demo, List as Listing, Stay, Play, Lean, LeanStay, Split, Serve, C, Settle}

-- the arguments are those of this command
abbrev pub AreOf : Command → List (List ℕ) → Type 0
AreOf Generate words = IsGenerate words
AreOf Solve words = IsSolve words
AreOf (Loop turns disturbed) words = IsLoop words turns disturbed
AreOf (Demo number) words = IsDemo words number
AreOf Listing words = IsList words
AreOf (Stay disturbed) words = IsStay words disturbed
AreOf Play words = IsPlay words
AreOf Lean words = IsLean words
AreOf (LeanStay disturbed) words = IsLeanStay words disturbed
AreOf Split words = IsSplit words
AreOf Serve words = IsServe words
AreOf C words = IsC words
AreOf (Settle disturbed) words = IsSettle words disturbed

-- the arguments are those of no command that writes files
pub record IsNoWriter (words : List (List ℕ)) : Type 0 where
  pub generate : ¬ IsGenerate words
  pub list : ¬ IsList words
  pub stay : (disturbed : Bool) → ¬ IsStay words disturbed
  pub lean : ¬ IsLean words
  pub lean_stay : (disturbed : Bool) → ¬ IsLeanStay words disturbed
  pub split : ¬ IsSplit words
  pub c : ¬ IsC words

-- The arguments are those of no command: there is none, the first is no command's, there are too many or too few, a name that is written is another's, a
-- number is none or out of its range, or a program can't have its name.
abbrev pub IsUsage : List (List ℕ) → Type 0
IsUsage words = (command : Command) → ¬ AreOf command words

-- the arguments are those of one command at most, with one number
abbrev pub OneCommandLaw : Type 0
OneCommandLaw = (words : List (List ℕ)) (command other : Command) → AreOf command words → AreOf other words → command ≡ other
