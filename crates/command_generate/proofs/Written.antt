-- What `generate` does, and what is written of what was made.
use Rattle.std.proofs.Common.{◌≡◌, inl, inr, refl, ℕ, ◌≤◌, List, length, Option, Some, None, arith}
use Rattle.std.specs.Prelude.{IfSome, IsSomeAnd}
use Rattle.io_edge.specs.Faults.{Files}
use Rattle.qp_model.specs.problem.Parts.{design_of}
use Rattle.qp_model.specs.machine.Controller.{Numbers}
use Rattle.qp_model.specs.bounds.Printed.{Printed}
use Rattle.qp_model.specs.text.ControllerText.{IsControllerText}
use Rattle.design_engine.specs.Targets.{targets_of}
use Rattle.design_engine.specs.Refusals.{HasCause, PassesAll}
use Rattle.design_engine.proofs.CauseLaws.{memory_apart}
use Rattle.controller_text.proofs.Lengths.{text_length_law}
use Rattle.command_line.specs.Words.{word_of}
use Rattle.command_line.specs.Limit.{file_limit}
use Rattle.command_line.specs.Script.{ends, reads, writing_act, calls_of, leaves_at, leaves_of}
use Rattle.command_line.specs.TwoTexts.{BothStand, Two}
use Rattle.command_line.proofs.Gathering.{whole}
use Rattle.command_line.proofs.Following.{IsSoundWork, left_told}
use Rattle.command_line.proofs.TwoTexts.{some_weaker}
use Rattle.command_design_files.specs.Reading.{policy_kind}
use Rattle.command_design_files.proofs.Stopping.{text_refused}
use Rattle.command_generate.specs.Made.{CallsFor, IsMadeOf, AreTextsBy, AreTextsOf}
use Rattle.command_generate.specs.Generate.{generate_act, plain_work, IsMadeFrom, AreMadeAndWrittenBy, AreMadeAndWritten, IsGenerated}
use Rattle.command_generate.proofs.Making.{making_telling}
use Rattle.command_generate.proofs.SameDesign.{along}
use Rattle.command_line.specs.declared.status.Status.{Status}
use Rattle.command_line.specs.declared.status.Status.TheVariants.{Done}

-- ---- its script
pub generate_sound : IsSoundWork plain_work
generate_sound = record {
  sound = (
    omega arith,
    text_refused 1,
    λ p q same contents s.
        along (λ d t. calls_of (reads 2 (policy_kind d) (λ plans. ends (writing_act (CallsFor (HasCause d t plans) (PassesAll d t plans)) ⊥ (λ words u old new. ⊥)))) contents s) p q same,
    λ p. (omega arith, text_refused 2, whole (λ plans. ends (generate_act p plans)), λ plans. making_telling (HasCause (design_of p) (targets_of p) plans) _ (memory_apart (design_of p) (targets_of p) plans)),
  );
  first = inl refl;
}

-- ---- a text of a controller is no longer than a file may be
pub controller_short : (text : List ℕ) (c : Numbers) → IsControllerText text c → length text ≤ file_limit
controller_short text c is = omega (arith, text_length_law text c is)

-- both texts stand, of what was made so
abbrev pub made_and_written_by : (IsText : List ℕ → Numbers → Type 0) (Made Of : Numbers → Printed → Type 0) (first second : ℕ) (words : List (List ℕ)) (files new : Files) →
    ((text : List ℕ) (c : Numbers) → IsText text c → length text ≤ file_limit) →
    (two : Two (AreTextsBy IsText Made (word_of words second)) (BothStand files new (word_of words first) (word_of words second))) → Of two.are.controller two.are.bounds →
    AreMadeAndWrittenBy IsText Of first second words files new
made_and_written_by IsText Made Of first second words files new is_short two of = record {
  controller = two.are.controller;
  bounds = two.are.bounds;
  made = of;
  text = two.text;
  is_text = two.are.is_text;
  short = is_short two.text two.are.controller two.are.is_text;
  report = two.report;
  is_report = two.are.is_report;
  controller_file = two.true_of.first;
  report_file = two.true_of.second;
  others = two.true_of.others;
}

abbrev pub made_and_written : (Made Of : Numbers → Printed → Type 0) (first second : ℕ) (words : List (List ℕ)) (files new : Files) →
    (two : Two (AreTextsOf Made (word_of words second)) (BothStand files new (word_of words first) (word_of words second))) → Of two.are.controller two.are.bounds → AreMadeAndWritten Of first second words files new
made_and_written Made Of first second words files new two of = made_and_written_by IsControllerText Made Of first second words files new controller_short two of

-- ---- what it left
pub generated : (words : List (List ℕ)) (s : Status) (held now : Option Files) → s ≡ Done → leaves_of plain_work.script words s held now → IfSome held (λ files. IsSomeAnd now (IsGenerated words files))
generated words s None now is left = tt
generated words s (Some files) now is left = go (left_told words s files now plain_work.script left)
  where
    go : leaves_at plain_work.script (λ i. files (word_of words i)) words s (Some files) now → IsSomeAnd now (IsGenerated words files)
    go (inl none) = absurd (none.done is)
    go (inr (p, design, inl none)) = absurd (none.done is)
    go (inr (p, design, inr (plans, policy, leaves))) =
        some_weaker now _ _
        (λ new two.
        let made = two.are.made in
        made_and_written (IsMadeOf p plans) (IsMadeFrom (files (word_of words 1)) (files (word_of words 2))) 3 4 words files new two (record {
          p = p;
          plans = plans;
          inputs = record { design_right = design; policy_right = policy };
          built = made.built;
          certified = made.certified;
          targets = made.targets;
        }))
        (leaves.both is)
