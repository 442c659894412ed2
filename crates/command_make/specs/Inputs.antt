-- What a controller is made of, as it was read.
use Rattle.std.specs.Prelude.{Option, option_map, IfSome, ℕ, Bool, List, Result}
use Rattle.qp_model.specs.problem.Policy.{plans_of, IsPolicyFor}
use Rattle.qp_model.specs.problem.Parts.{design_of}
use Rattle.stay_check.specs.FaceForms.{faces_of, AreFacesFor}
use Rattle.state_files.specs.RangeText.{IsShiftRange}
use Rattle.command_line.specs.Script.{Act}
use Rattle.command_line.specs.declared.status.Status.{Status}
use Rattle.command_line.specs.declared.two_texts.Texts.{Texts}
use Rattle.command_generate.specs.Engine.Targets.{targets_of}
use Rattle.command_generate.specs.Made.{MakesTexts}
use Rattle.command_make.specs.Made.{MakingCallsWith, IsMadeByPlans, reference_of, IsTextBy}
use Rattle.command_make.specs.Checking.{IsPricedOf}
use Rattle.command_make.specs.Make.{Under, under_of, CallsUnder, IsMadeUnder, make_act}
use Rattle.command_make.specs.declared.command.Asked.{Asked}
use Rattle.command_make.specs.declared.inputs.Inputs.{Inputs}
use Rattle.command_make.specs.declared.texts.Priced.{Priced}

-- all are for the design
pub record AreInputs (i : Inputs) : Type 0 where
  pub plans : IsPolicyFor (design_of i.design) (plans_of i.policy)
  pub references : IfSome i.reference (λ r. IsPolicyFor (design_of i.design) (plans_of r))
  pub faces : IfSome i.faces (λ f. AreFacesFor (design_of i.design) (faces_of f))
  pub range : IfSome i.range (IsShiftRange i.design.states)

abbrev pub under_in : Inputs → Option Under
under_in i = under_of i.design.states (option_map faces_of i.faces) i.range

-- both texts of what they call for, with faces or without; or the status that tells why there are none
abbrev pub MakesTextsOf : Inputs → (under : Option Under) → (report_name : List ℕ) → Result Texts Status → Type 0
MakesTextsOf i under =
    MakesTexts (IsTextBy i.fast)
    (CallsUnder (design_of i.design) (targets_of i.design) (plans_of i.policy) (reference_of i.reference) i.fast under)
    (IsMadeUnder i.design i.fast (plans_of i.policy) (reference_of i.reference) under)

-- what is done with them
abbrev pub act_of : Asked → Inputs → Act
act_of asked i = make_act asked i.fast (design_of i.design) (targets_of i.design) (IsMadeUnder i.design i.fast) (plans_of i.policy) (reference_of i.reference) (under_in i)

-- ---- by the one machine or the other: what is called for without faces, and both texts of it
abbrev pub MakingCallsOf : Inputs → (fast : Bool) → Status → Type 0
MakingCallsOf i fast = MakingCallsWith (design_of i.design) (targets_of i.design) (plans_of i.policy) (reference_of i.reference) fast

abbrev pub MakesFreeTexts : Inputs → (fast : Bool) → (report_name : List ℕ) → Result Texts Status → Type 0
MakesFreeTexts i fast = MakesTexts (IsTextBy fast) (MakingCallsOf i fast) (IsMadeByPlans i.design (plans_of i.policy) (reference_of i.reference) fast)

-- and where faces are to be tested, what is made with its numbers
abbrev pub IsPricedFor : Inputs → (fast : Bool) → (report_name : List ℕ) → Priced → Type 0
IsPricedFor i fast = IsPricedOf i.design (plans_of i.policy) (reference_of i.reference) fast
