-- A design and a controller for it, as the first two files of a command have them.
use Rattle.std.specs.Prelude.{◌≡◌, ◌≢◌, ◌⊎◌, pos, List, ℕ, Result, IfOk, IfErr}
use Rattle.io_edge.specs.declared.store.Store.{Ghosts as Disk}
use Rattle.qp_model.specs.problem.Design.{Design}
use Rattle.qp_model.specs.problem.Parts.{design_of}
use Rattle.qp_model.specs.machine.Controller.{Numbers}
use Rattle.qp_model.specs.machine.Successor.{IsFor}
use Rattle.design_files.specs.declared.places.Asked.{Asked}
use Rattle.controller_file.specs.AnyText.{any_numbers}
use Rattle.controller_file.specs.declared.any_controller.AnyController.{AnyController}
use Rattle.command_line.specs.Words.{word_of}
use Rattle.command_line.specs.Kind.{IsRead, Passes}
use Rattle.command_line.specs.Script.{Script, reads, tests}
use Rattle.command_line.specs.Running.{EndsAtFile}
use Rattle.command_line.specs.declared.status.Field.TheVariants.{States, Inputs, Grid}
use Rattle.command_line.specs.declared.status.Status.{Status}
use Rattle.command_line.specs.declared.status.Status.TheVariants.{Mismatch}
use Rattle.command_design_files.specs.Reading.{asked_kind}
use Rattle.command_files.specs.Reading.{any_controller_kind}
use Rattle.command_loop.specs.declared.plant.Plant.{Plant}

-- the first of states, inputs and grid in which they differ, with both numbers
abbrev pub IsMismatch : Design → Numbers → Status → Type 0
IsMismatch d c s =
    ((d.states ≢ c.states) × (s ≡ Mismatch States (pos d.states) (pos c.states))) ⊎
    (((d.states ≡ c.states) × (d.inputs ≢ c.inputs) × (s ≡ Mismatch Inputs (pos d.inputs) (pos c.inputs))) ⊎
    ((d.states ≡ c.states) × (d.inputs ≡ c.inputs) × (d.grid ≢ c.grid_bits) × (s ≡ Mismatch Grid (pos d.grid) (pos c.grid_bits))))

-- what comes once the design is read, and once the controller is: of any version the one, of either machine and for the design the other
abbrev pub controller_script : (next : Design → AnyController → Script) → Design → Script
controller_script next d = reads 2 any_controller_kind (λ k. tests (IsMismatch d (any_numbers k)) (IsFor (any_numbers k) d) (next d k))

abbrev pub plant_script : (next : Design → AnyController → Script) → Script
plant_script next = reads 1 asked_kind (λ a. controller_script next (design_of a.design))

-- the status ends their reading: at the first file, or at the second, or as they differ
abbrev pub EndsPlant : {S : Type 0} → Disk S → List (List ℕ) → (before now : S) → Status → Type 0
EndsPlant disk words before now s =
    EndsAtFile disk words before now s 1 asked_kind ⊎
    ((a : Asked) × IsRead asked_kind 1 (disk.held before) (word_of words 1) a × (EndsAtFile disk words before now s 2 any_controller_kind ⊎
    ((k : AnyController) × IsRead any_controller_kind 2 (disk.held before) (word_of words 2) k × IsMismatch (design_of a.design) (any_numbers k) s)))

-- reading them gave a design and a controller for it, or the status that ends the run; and reads alone came
pub record ReadsPlant {S : Type 0} (disk : Disk S) (words : List (List ℕ)) (r : Result Plant Status) (before now : S) : Type 0 where
  pub design : IfOk r (λ p. IsRead asked_kind 1 (disk.held before) (word_of words 1) p.asked)
  pub controller : IfOk r (λ p. IsRead any_controller_kind 2 (disk.held before) (word_of words 2) p.controller)
  pub matched : IfOk r (λ p. IsFor (any_numbers p.controller) (design_of p.asked.design))
  pub ends : IfErr r (EndsPlant disk words before now)
  pub passes : Passes disk before now
