-- A design and a controller for it: what differs, the two files, and a command that they end or that goes on with them.
use Rattle.std.proofs.Common.{◌≡◌, ◌∙◌, inl, inr, ℕ, List, Option, Ok, Err, refl, sym, ap, subst, arith}
use Rattle.io_edge.specs.Faults.{Files}
use Rattle.io_edge.specs.declared.store.Store.{Ghosts as Disk}
use Rattle.io_edge.specs.declared.sink.Sink.{Ghosts as Screen}
use Rattle.qp_model.specs.problem.Design.{Design}
use Rattle.qp_model.specs.problem.Parts.{design_of}
use Rattle.qp_model.specs.machine.Controller.{Numbers}
use Rattle.qp_model.specs.machine.Successor.{IsFor}
use Rattle.design_files.specs.declared.places.Asked.{Asked}
use Rattle.controller_file.specs.AnyText.{any_numbers}
use Rattle.controller_file.specs.declared.any_controller.AnyController.{AnyController}
use Rattle.command_line.specs.Words.{word_of}
use Rattle.command_line.specs.Answers.{Contents}
use Rattle.command_line.specs.Deeds.{Deeds}
use Rattle.command_line.specs.Kind.{IsRead, Passes}
use Rattle.command_line.specs.Script.{Script, tests, calls_of}
use Rattle.command_line.specs.Running.{Runs}
use Rattle.command_line.proofs.Doing.{IsRefusal, sort_of, plain_refusal, none_falls}
use Rattle.command_line.proofs.Gathering.{IsTest, IsSound, whole}
use Rattle.command_line.proofs.Following.{stopped, went_on, passed}
use Rattle.command_line.specs.declared.status.Status.{Status}
use Rattle.command_design_files.specs.Reading.{AskedNumbers, asked_numbers}
use Rattle.command_design_files.proofs.Designs.{same_design}
use Rattle.command_design_files.proofs.Stopping.{text_refused}
use Rattle.command_files.specs.Reading.{any_controller_kind}
use Rattle.command_files.proofs.Stopping.{controllers_refused}
use Rattle.command_loop.specs.Plant.{IsMismatch, controller_script, plant_script, EndsPlant, ReadsPlant}
use Rattle.command_loop.specs.declared.plant.Plant.{Plant}

-- ---- what they differ in
pub mismatch_refusal : (d : Design) (c : Numbers) (s : Status) → IsMismatch d c s → IsRefusal s
mismatch_refusal d c s (inl states) = plain_refusal s (ap sort_of states.1)
mismatch_refusal d c s (inr (inl inputs)) = plain_refusal s (ap sort_of inputs.2)
mismatch_refusal d c s (inr (inr grid)) = plain_refusal s (ap sort_of grid.3)

one_mismatch : (d : Design) (c : Numbers) (s t : Status) → IsMismatch d c s → IsMismatch d c t → t ≡ s
one_mismatch d c s t (inl a) (inl b) = b.1 ∙ sym a.1
one_mismatch d c s t (inl a) (inr (inl b)) = absurd (a.0 b.0)
one_mismatch d c s t (inl a) (inr (inr b)) = absurd (a.0 b.0)
one_mismatch d c s t (inr (inl a)) (inl b) = absurd (b.0 a.0)
one_mismatch d c s t (inr (inl a)) (inr (inl b)) = b.2 ∙ sym a.2
one_mismatch d c s t (inr (inl a)) (inr (inr b)) = absurd (a.1 b.1)
one_mismatch d c s t (inr (inr a)) (inl b) = absurd (b.0 a.0)
one_mismatch d c s t (inr (inr a)) (inr (inl b)) = absurd (b.1 a.1)
one_mismatch d c s t (inr (inr a)) (inr (inr b)) = b.3 ∙ sym a.3

not_matched : (d : Design) (c : Numbers) (s : Status) → IsFor c d → IsMismatch d c s → ⊥
not_matched d c s f (inl a) = a.0 f.states
not_matched d c s f (inr (inl a)) = a.1 f.inputs
not_matched d c s f (inr (inr a)) = a.2 f.grid

mismatch_test : (d : Design) (c : Numbers) → IsTest (IsMismatch d c) (IsFor c d)
mismatch_test d c = record { refusal = mismatch_refusal d c; one = one_mismatch d c; passed = λ matched s. not_matched d c s matched }

-- ---- the script of both files; a design is known by its numbers
pub plant_sound : (next : Design → AnyController → Script) → ((d : Design) (k : AnyController) → IsSound 3 (next d k)) → IsSound 0 (plant_script next)
plant_sound next sound = (
  omega arith,
  text_refused 1,
  sees,
  λ a.
      let d = design_of a.design in
      (omega arith, controllers_refused 2, whole (λ k. tests (IsMismatch d (any_numbers k)) (IsFor (any_numbers k) d) (next d k)), λ k. (mismatch_test d (any_numbers k), sound d k)),
)
  where
    sees : (q p : Asked) → asked_numbers q ≡ asked_numbers p → (k : Contents) (s : Status) → calls_of (controller_script next (design_of q.design)) k s → calls_of (controller_script next (design_of p.design)) k s
    sees q p same k s = subst (λ (d : Design). calls_of (controller_script next d) k s) (same_design q.design p.design (ap (λ (a : AskedNumbers). a.design) same))

-- ---- a command
module _ {S O : Type 0} {disk : Disk S} {screen : Screen O} {words : List (List ℕ)} {deeds : Deeds} (next : Design → AnyController → Script) {before now : S} {s : Status} where
  pub plant_ended : {out : O} → ReadsPlant disk words (Err s) before now → Runs disk screen words deeds before now out out s (plant_script next)
  plant_ended {out} did = by did.ends
    where
      by : EndsPlant disk words before now s → Runs disk screen words deeds before now out out s (plant_script next)
      by (inl end) = stopped did.passes end
      by (inr (a, first, inl end)) = record { run = inr (a, first, inl (record { why = end; passes = did.passes; silent = refl })) }
      by (inr (a, first, inr (k, second, differs))) = record { run = inr (a, first, inr (k, second, inl (record { why = differs; passes = did.passes; silent = refl }))) }

  pub plant_went : {p : Plant} {mid : S} {out out_now : O} → ReadsPlant disk words (Ok p) before mid → Runs disk screen words deeds mid now out out_now s (next (design_of p.asked.design) p.controller) →
      Runs disk screen words deeds before now out out_now s (plant_script next)
  plant_went {p} {mid} did rest =
      let second = subst (λ (h : Option Files). IsRead any_controller_kind 2 h (word_of words 2) p.controller) (sym did.passes.held) did.controller in
      let stays : Passes disk mid mid = record { held = refl; reads = none_falls (disk.read_faults mid); writes = none_falls (disk.write_faults mid) } in
      went_on did.passes did.design (went_on stays second (passed did.matched rest))
