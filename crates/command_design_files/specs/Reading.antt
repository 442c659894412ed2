-- The kinds of the files of designs and policies.
use Rattle.std.specs.Prelude.{◌≡◌, ◌⊎◌, ℕ, ◌<◌, Bool, true, List, length, Option, IfSome, IsSomeAnd}
use Rattle.io_edge.specs.Faults.{Files, Rose}
use Rattle.number_text.specs.declared.text_fault.TextFault.{TextFault}
use Rattle.qp_model.specs.problem.Design.{Design}
use Rattle.qp_model.specs.problem.Parts.{DesignNumbers, design_numbers}
use Rattle.qp_model.specs.declared.design_parts.DesignParts.{DesignParts}
use Rattle.design_files.specs.DesignText.{IsDesignFault}
use Rattle.design_files.specs.AskedText.{IsAskedFault}
use Rattle.design_files.specs.declared.places.Asked.{Asked}
use Rattle.policy_file.specs.PolicyText.{IsPolicyFault}
use Rattle.command_line.specs.Limit.{file_limit}
use Rattle.command_line.specs.Kind.{Kind, whole_kind}
use Rattle.command_line.specs.declared.status.Status.{Status}
use Rattle.command_line.specs.declared.status.Status.TheVariants.{Memory, ReadFault, Long}
use Rattle.command_design_files.specs.Texts.{DesignRight, AskedRight, PolicyRight, TextWrong}

-- the status says why the bytes of the file at a position were not read: out of memory, or the read failed, or there are too many
abbrev pub IsUnread : (limit file : ℕ) → Option Files → (name : List ℕ) → (before now : ℕ) → Status → Type 0
IsUnread limit file held name before now s =
    (s ≡ Memory) ⊎ (((s ≡ ReadFault file) × Rose before now) ⊎ ((s ≡ Long file) × IfSome held (λ files. IsSomeAnd (files name) (λ bytes. limit < length bytes))))

-- a text whose values are seen whole, by what is right and what its first fault is
abbrev pub text_kind : {X : Type 0} → (Right : X → List ℕ → Type 0) → (Fault : List ℕ → TextFault → Type 0) → Kind
text_kind Right Fault = whole_kind file_limit Right (TextWrong Fault)

-- a design is known by its numbers
abbrev pub design_kind : Kind
design_kind = record { Value = DesignParts; Seen = DesignNumbers; view = design_numbers; limit = file_limit; right = DesignRight; wrong = TextWrong IsDesignFault }

-- and of any version, by whether it asks for the accelerated machine, too
pub record AskedNumbers : Type 0 where
  pub design : DesignNumbers
  pub fast : Bool

abbrev pub asked_numbers : Asked → AskedNumbers
asked_numbers asked = record { design = design_numbers asked.design; fast = asked.fast }

abbrev pub asked_kind : Kind
asked_kind = record { Value = Asked; Seen = AskedNumbers; view = asked_numbers; limit = file_limit; right = AskedRight; wrong = TextWrong (IsAskedFault true) }

abbrev pub policy_kind : Design → Kind
policy_kind d = text_kind (PolicyRight d) (λ bytes fault. IsPolicyFault bytes d fault)
