-- What the commands do that make a controller of a design, a policy and more: reference plans, faces by which its closed loops stay in the box, and a range of
-- the disturbances under which they do.
use Rattle.std.specs.Prelude.{◌≡◌, ◌≢◌, ℕ, ◌<◌, Bool, true, false, List, length, Option, Some, None}
use Rattle.mat_int.specs.Matrix.{Matrix}
use Rattle.qp_model.specs.problem.Design.{Design}
use Rattle.qp_model.specs.problem.Policy.{Plans}
use Rattle.qp_model.specs.problem.Parts.{design_of}
use Rattle.qp_model.specs.machine.Controller.{Numbers}
use Rattle.qp_model.specs.declared.design_parts.DesignParts.{DesignParts}
use Rattle.qp_model.specs.bounds.Printed.{Printed}
use Rattle.stay_check.specs.FaceForms.{FaceNumbers}
use Rattle.command_line.specs.Words.{word_of}
use Rattle.command_line.specs.Deeds.{Deeds}
use Rattle.command_line.specs.Script.{Act, Script, ends, reads, reads_where, Work, deeds_of_work}
use Rattle.command_line.specs.TwoTexts.{two_texts, two_work}
use Rattle.command_line.specs.declared.status.Status.{Status}
use Rattle.command_design_files.specs.Reading.{asked_kind, policy_kind}
use Rattle.command_files.specs.Reading.{faces_kind, range_kind}
use Rattle.command_generate.specs.Engine.Targets.{Targets, targets_of}
use Rattle.command_generate.specs.Made.{IsCausedRefusal, AreTextsBy}
use Rattle.command_make.specs.Made.{CauseOf, MakingCallsWith, IsMadeByPlans, IsTextBy}
use Rattle.command_make.specs.Excess.{AreStatedExcesses}
use Rattle.command_make.specs.Stay.{FacedCalls, KeepsLoopsOf, no_shifts}
use Rattle.command_make.specs.declared.command.Asked.{Asked}

-- faces, and the range of the shifts under which they are to hold: its least and its greatest
pub record Under : Type 0 where
  pub faces : FaceNumbers
  pub range : Matrix

-- by what was read; without a range they are to hold under no shifts
abbrev pub under_of : (n : ℕ) → Option FaceNumbers → (range : Option Matrix) → Option Under
under_of n None range = None
under_of n (Some faces) None = Some (record { faces = faces; range = no_shifts n })
under_of n (Some faces) (Some range) = Some (record { faces = faces; range = range })

-- ---- what is called for, and what is made
-- a refusal, or each test is passed; with faces they answer then
abbrev pub CallsUnder : Design → Targets → Plans → (reference : Option Plans) → (fast : Bool) → (under : Option Under) → (Status → Type 0)
CallsUnder d t plans reference fast None = MakingCallsWith d t plans reference fast
CallsUnder d t plans reference fast (Some u) = FacedCalls (IsCausedRefusal (CauseOf d t plans reference fast)) (AreStatedExcesses d t plans reference fast) d u.faces u.range

-- a controller and its bounds; with faces its loops stay in the box
abbrev pub IsMadeUnder : DesignParts → (fast : Bool) → Plans → (reference : Option Plans) → (under : Option Under) → Numbers → Printed → Type 0
IsMadeUnder p fast plans reference None c b = IsMadeByPlans p plans reference fast c b
IsMadeUnder p fast plans reference (Some u) c b = IsMadeByPlans p plans reference fast c b × KeepsLoopsOf p fast c b u.range

-- ---- the script of a command, by what it asks for, the positions of its files, and whether the design asks for the accelerated machine
-- what is made, by all that was read
abbrev pub Making : Type 1
Making = Plans → (reference : Option Plans) → (under : Option Under) → Numbers → Printed → Type 0

module _ (asked : Asked) (fast : Bool) (d : Design) (t : Targets) (Made : Making) where
  abbrev pub make_act : Plans → (reference : Option Plans) → (under : Option Under) → Act
  make_act plans reference under =
      two_texts (CallsUnder d t plans reference fast under) (λ words. AreTextsBy (IsTextBy fast) (Made plans reference under) (word_of words asked.report))
      asked.controller asked.report

  -- the range, where there are disturbances
  abbrev pub with_range : Plans → (reference : Option Plans) → Option FaceNumbers → Script
  with_range plans reference faces = reads_where asked.disturbed asked.range (range_kind d.states) (λ range. ends (make_act plans reference (under_of d.states faces range)))

  -- faces, where it asks for them
  abbrev pub with_faces : Plans → (reference : Option Plans) → Script
  with_faces plans reference = reads_where asked.faced asked.faces (faces_kind d) (with_range plans reference)

  -- reference plans, where it makes a lean controller
  abbrev pub with_reference : Plans → Script
  with_reference plans = reads_where asked.lean 3 (policy_kind d) (with_faces plans)

  abbrev pub with_policy : Script
  with_policy = reads 2 (policy_kind d) with_reference

abbrev pub after_policy : Asked → (fast : Bool) → DesignParts → Plans → Script
after_policy asked fast p = with_reference asked fast (design_of p) (targets_of p) (IsMadeUnder p fast)

abbrev pub make_after : Asked → (fast : Bool) → DesignParts → Script
make_after asked fast p = with_policy asked fast (design_of p) (targets_of p) (IsMadeUnder p fast)

abbrev pub make_script : Asked → Script
make_script asked = reads 1 asked_kind (λ wanted. make_after asked wanted.fast wanted.design)

abbrev pub make_work : Asked → Work
make_work asked = two_work (make_script asked) asked.controller asked.report

abbrev pub make_deeds : Asked → Deeds
make_deeds asked = deeds_of_work (make_work asked)

-- the names of the files that it asks for stand in their order, and that of the report isn't the controller's
pub record IsAsked (words : List (List ℕ)) (asked : Asked) : Type 0 where
  pub inputs : 3 < length words
  pub controller : asked.controller < length words
  pub report : asked.report < length words
  pub apart : word_of words asked.report ≢ word_of words asked.controller
  pub faces : asked.faced ≡ true → asked.faces < length words
  pub range : asked.disturbed ≡ true → asked.range < length words
  pub faces_order : 3 < asked.faces
  pub range_order : asked.faces < asked.range

-- ---- the commands, and their rows of the table
-- reference plans move the files behind the policy by one
abbrev pub asked_of : (lean faced disturbed : Bool) → Asked
asked_of true faced disturbed = record { lean = true; faced = faced; disturbed = disturbed; controller = 4; report = 5; faces = 6; range = 7 }
asked_of false faced disturbed = record { lean = false; faced = faced; disturbed = disturbed; controller = 3; report = 4; faces = 5; range = 6 }

-- `generate`: of a design and a policy
abbrev pub generate_asked : Asked
generate_asked = asked_of false false false

-- `stay`: with the texts of faces and of the range behind the four names of `generate`
abbrev pub stay_asked : (disturbed : Bool) → Asked
stay_asked = asked_of false true

-- `lean`: with reference plans behind the policy, without faces or with them
abbrev pub lean_asked : (faced disturbed : Bool) → Asked
lean_asked = asked_of true

abbrev pub generate_deeds : Deeds
generate_deeds = make_deeds generate_asked

abbrev pub stay_deeds : (disturbed : Bool) → Deeds
stay_deeds disturbed = make_deeds (stay_asked disturbed)

abbrev pub lean_deeds : Deeds
lean_deeds = make_deeds (lean_asked false false)

abbrev pub lean_stay_deeds : (disturbed : Bool) → Deeds
lean_stay_deeds disturbed = make_deeds (lean_asked true disturbed)
