-- What a reader answers, from what the readers below it do.
use Rattle.std.proofs.Common.{◌≡◌, List, ◌++◌, Result, Ok, Err, inl, inr}
use Rattle.number_text.specs.declared.text_fault.TextFault.{TextFault}
use Rattle.std.specs.Result.{IsErrAnd}
use Rattle.qp_model.specs.problem.Rules.{Rule, AllHold, IsFirstBroken}
use Rattle.qp_model.proofs.RuleLaws.{broken_before, broken_after}
use Rattle.design_files.specs.DesignText.{FailsRule, Reads}

-- the same answer under other rules
pub reads_as : {X : Type 0} (answer : Result X TextFault) (P Q : X → Type 0) (rules others : List Rule)
    → ((x : X) → AllHold rules → P x → AllHold others × Q x)
    → ((fault : TextFault) → IsFirstBroken rules fault → IsFirstBroken others fault)
    → Reads answer P rules → Reads answer Q others
reads_as (Ok x) P Q rules others ok err read = ok x read.0 read.1
reads_as (Err fault) P Q rules others ok err read = elim read [ inl none ↦ inl none | inr broken ↦ inr (err fault broken) ]

pub fails_before : (rules more : List Rule) (fault : TextFault) → FailsRule fault rules → FailsRule fault (rules ++ more)
fails_before rules more fault failed = elim failed [ inl none ↦ inl none | inr broken ↦ inr (broken_before rules more fault broken) ]

pub fails_after : (rules more : List Rule) (fault : TextFault) → AllHold rules → FailsRule fault more → FailsRule fault (rules ++ more)
fails_after rules more fault held failed = elim failed [ inl none ↦ inl none | inr broken ↦ inr (broken_after rules more fault held broken) ]

-- a fault that was passed on
pub passes_on : {X : Type 0} (answer : Result X TextFault) (P : X → Type 0) (rules : List Rule) (fault : TextFault) → IsErrAnd answer (λ told. told ≡ fault) → FailsRule fault rules → Reads answer P rules
passes_on (Ok x) P rules fault passed failed = absurd passed
passes_on (Err told) P rules fault passed failed = rw passed failed
