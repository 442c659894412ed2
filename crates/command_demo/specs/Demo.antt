-- What `demo` is called to answer for a number, and what it prints.
use Rattle.std.specs.Prelude.{◌≡◌, ◌≢◌, ◌⊎◌, ℕ, ◌≤◌, List, ◌++◌, length}
use Rattle.io_edge.specs.Faults.{GrowsByPart}
use Rattle.mat_int.specs.Matrix.{Matrix}
use Rattle.qp_model.specs.problem.Policy.{Plans}
use Rattle.qp_model.specs.problem.Parts.{design_of}
use Rattle.qp_model.specs.machine.Controller.{Numbers}
use Rattle.qp_model.specs.declared.design_parts.DesignParts.{DesignParts}
use Rattle.qp_model.specs.bounds.Printed.{Printed}
use Rattle.bound_report.specs.Report.{report_text}
use Rattle.design_files.specs.DesignText.{IsDesignText}
use Rattle.policy_file.specs.PolicyText.{IsPolicyText}
use Rattle.policy_file.specs.StatesText.{IsStatesText}
use Rattle.design_maker.specs.Texts.{design_text, policy_text, states_text}
use Rattle.plan_lines.specs.Lines.{plan_lines}
use Rattle.plan_lines.specs.Inside.{AreInside}
use Rattle.command_generate.specs.Made.{MakingCalls, IsMadeOf}
use Rattle.command_line.specs.Deeds.{Deeds}
use Rattle.command_line.specs.Script.{Act, ends, printing_act, Work, printing_work, deeds_of_work}
use Rattle.command_line.specs.declared.status.Status.{Status}
use Rattle.command_line.specs.declared.status.Status.TheVariants.{Done, Memory, WriteFault}

-- the stages of a made design
abbrev pub demo_stages : ℕ
demo_stages = 6

-- the design and the policy that the texts made from a number are of
pub record AreMadeFrom (number : ℕ) (p : DesignParts) (plans : Plans) : Type 0 where
  pub design : IsDesignText (design_text number demo_stages) p
  pub policy : IsPolicyText (policy_text demo_stages) (design_of p) plans

-- what a number calls for: what its design with its policy calls for
abbrev pub DemoCalls : ℕ → Status → Type 0
DemoCalls number s = (p : DesignParts) × (plans : Plans) × AreMadeFrom number p plans × MakingCalls p plans s

-- a controller and its bounds made of the texts of a number, with the states of the third text
pub record IsShown (number : ℕ) (c : Numbers) (b : Printed) (states : Matrix) : Type 0 where
  pub p : DesignParts
  pub plans : Plans
  pub texts : AreMadeFrom number p plans
  pub made : IsMadeOf p plans c b
  pub third_text : IsStatesText states_text c.states states
  pub inside : AreInside c states (length states.rows)

-- ---- what is printed
-- the report and the plan lines of the first k states
abbrev pub demo_text : Numbers → Printed → Matrix → ℕ → List ℕ
demo_text c b states k = report_text b ++ plan_lines c states k

-- the report and the lines of some first states
pub record IsPrefixShown (c : Numbers) (b : Printed) (states : Matrix) (old new : List ℕ) : Type 0 where
  pub count : ℕ
  pub some : count ≤ length states.rows
  pub printed : new ≡ old ++ demo_text c b states count

-- by the answer: the whole text; a part of it that isn't all, where a print failed; nothing, or the report and the lines of some first states
pub record IsTextPrinted (c : Numbers) (b : Printed) (states : Matrix) (s : Status) (old new : List ℕ) : Type 0 where
  pub done : s ≡ Done → new ≡ old ++ demo_text c b states (length states.rows)
  pub fault : s ≡ WriteFault 0 → GrowsByPart old new (demo_text c b states (length states.rows))
  pub memory : s ≡ Memory → (new ≡ old) ⊎ IsPrefixShown c b states old new

-- the text of a controller that is made from the number was printed so
pub record PrintsOf (number : ℕ) (s : Status) (old new : List ℕ) : Type 0 where
  pub c : Numbers
  pub b : Printed
  pub states : Matrix
  pub is_shown : IsShown number c b states
  pub printed : IsTextPrinted c b states s old new

-- What the output got, by the answer: the text where all was done, a part of it where a print failed, nothing or a prefix of it where memory ran
-- out, and else nothing.
pub record DemoPrints (number : ℕ) (s : Status) (old new : List ℕ) : Type 0 where
  pub done : s ≡ Done → PrintsOf number s old new
  pub fault : s ≡ WriteFault 0 → PrintsOf number s old new
  pub memory : s ≡ Memory → (new ≡ old) ⊎ PrintsOf number s old new
  pub other : s ≢ Done → s ≢ WriteFault 0 → s ≢ Memory → new ≡ old

-- ---- its row of the table of commands: it reads no file
abbrev pub demo_act : (number : ℕ) → Act
demo_act number = printing_act (DemoCalls number) (DemoCalls number Done) (DemoPrints number)

abbrev pub demo_work : (number : ℕ) → Work
demo_work number = printing_work (ends (demo_act number)) (λ s. ⊥)

abbrev pub demo_deeds : (number : ℕ) → Deeds
demo_deeds number = deeds_of_work (demo_work number)
