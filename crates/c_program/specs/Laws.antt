-- What the program of a controller does.
use Rattle.std.specs.Prelude.{◌≡◌, ℕ, ◌+◌, ◌≤◌, ◌<◌, ℤ, List, length, map, All}
use Rattle.std.specs.List.{range_with_len}
use Rattle.integer_algebra.specs.Division.{round_of}
use Rattle.integer_algebra.specs.Sums.{at}
use Rattle.qp_model.specs.machine.Controller.{Numbers}
use Rattle.qp_model.specs.machine.Machine.{IsInside, IsAdmissible, averaged_plan}
use Rattle.qp_model.specs.machine.AbsoluteSums.{IsController}
use Rattle.qp_model.specs.machine.ValuesMet.{FitsWidth}
use Rattle.c_language.specs.Syntax.{CProgram}
use Rattle.c_language.specs.Meaning.{first_outside, outcome_of, IsDefinedRun, averages_of, AreAveraged}
use Rattle.c_language.specs.Meaning.Outcome.{Refused, Solved}
use Rattle.overflow_check.specs.FastMachine.{all_weights, fast_plan}
use Rattle.overflow_check.specs.FastController.{IsFastController}
use Rattle.c_language.specs.Laws.{HasShortText}
use Rattle.c_program.specs.Of.{program_of}
use Rattle.c_program.specs.FastOf.{fast_program_of}
use Rattle.overflow_check.specs.Machines.{IsControllerFor}
use Rattle.overflow_check.specs.declared.machine.Machine.{Machine}
use Rattle.overflow_check.specs.declared.machine.Machine.TheVariants.{Plain, Accelerated}
use Rattle.c_program.specs.ByMachine.{plans_for}
use Rattle.c_program.specs.InParts.{HasParts, parted_program, HasProgram, written_program}

-- coordinate number k, from 1, lies outside the box, and each before it inside
pub record IsCoordinateRefused (c : Numbers) (xi : List ℤ) (k : ℕ) : Type 0 where
  pub low : 1 ≤ k
  pub high : k ≤ c.states
  pub outside : (i : ℕ) → i + 1 ≡ k → ¬ IsInside c xi i
  pub before : (i : ℕ) → i + 1 < k → IsInside c xi i

-- the first of the averages whose numerators these are, so many plans' sums, over 2^fraction_bits, to the nearest, ties upward
abbrev pub inputs_of : (inputs steps : ℕ) → List ℤ → List ℤ
inputs_of inputs steps sums = map (λ j. round_of (at sums j) steps) (range_with_len 0 inputs)

-- a grid state of the box can be handed in as numbers of 32 bits, C defines each statement of the program's run from it, and these sums are put out;
-- handed them, the second function is defined, and puts out these inputs
pub record SolvesTo (p : CProgram) (xi sums inputs : List ℤ) : Type 0 where
  pub state : All (FitsWidth 32) xi
  pub run : IsDefinedRun p xi
  pub outcome : outcome_of p xi ≡ Solved sums
  pub averaged : AreAveraged p sums
  pub averages : averages_of p sums ≡ inputs

-- from any other state of this length the first coordinate outside the box is answered
pub record Refuses (c : Numbers) (p : CProgram) (xi : List ℤ) : Type 0 where
  pub first : IsCoordinateRefused c xi (first_outside p xi)
  pub outcome : outcome_of p xi ≡ Refused (first_outside p xi)

-- the program of a machine, of which these are the averaged plan's numerators, so many plans' sums
pub record IsProgramFor (c : Numbers) (p : CProgram) (plan : List ℤ → List ℤ) (steps : ℕ) : Type 0 where
  pub inside : (xi : List ℤ) → IsAdmissible c xi → SolvesTo p xi (plan xi) (inputs_of c.inputs steps (plan xi))
  pub outside : (xi : List ℤ) → length xi ≡ c.states → ¬ IsAdmissible c xi → Refuses c p xi

abbrev pub IsProgram : Numbers → Type 0
IsProgram c = IsProgramFor c (program_of c) (averaged_plan c) c.steps

-- and of the accelerated machine
abbrev pub IsFastProgram : Numbers → Type 0
IsFastProgram c = IsProgramFor c (fast_program_of c) (fast_plan c) (all_weights c.steps)

-- a controller's program has such a text, so that it can be told from its text
abbrev pub ShortTextLaw : Type 0
ShortTextLaw = (c : Numbers) → IsController c → c.width ≤ 64 → HasShortText (program_of c)

abbrev pub FastShortTextLaw : Type 0
FastShortTextLaw = (c : Numbers) → IsFastController c → c.width ≤ 64 → HasShortText (fast_program_of c)

-- of each controller of at most 64 bits
abbrev pub ProgramLaw : Type 0
ProgramLaw = (c : Numbers) → IsController c → c.width ≤ 64 → IsProgram c

abbrev pub FastProgramLaw : Type 0
FastProgramLaw = (c : Numbers) → IsFastController c → c.width ≤ 64 → IsFastProgram c

-- ---- of a controller of either machine that has a program: of at most 64 bits, or in parts
-- the averaged plan's numerators from a grid state
abbrev pub numerators_for : Machine → Numbers → List ℤ → List ℤ
numerators_for Plain c = averaged_plan c
numerators_for Accelerated c = fast_plan c

abbrev pub PartedProgramLaw : Type 0
PartedProgramLaw = (m : Machine) (c : Numbers) → IsControllerFor m c → HasParts m c → IsProgramFor c (parted_program m c) (numerators_for m c) (plans_for m c)

abbrev pub PartedShortTextLaw : Type 0
PartedShortTextLaw = (m : Machine) (c : Numbers) → IsControllerFor m c → HasParts m c → HasShortText (parted_program m c)

abbrev pub IsWritten : Machine → Numbers → Type 0
IsWritten m c = IsProgramFor c (written_program m c) (numerators_for m c) (plans_for m c)

abbrev pub WrittenProgramLaw : Type 0
WrittenProgramLaw = (m : Machine) (c : Numbers) → IsControllerFor m c → HasProgram m c → IsWritten m c

abbrev pub WrittenTextLaw : Type 0
WrittenTextLaw = (m : Machine) (c : Numbers) → IsControllerFor m c → HasProgram m c → HasShortText (written_program m c)
