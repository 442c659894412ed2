-- What the output gets of the lines of a controller's averaged plans.
use Rattle.std.proofs.Common.{◌≡◌, ◌≢◌, ◌⊎◌, ℕ, ◌≤◌, List, ◌++◌, length, Option, Some, refl}
use Rattle.io_edge.specs.Faults.{GrowsByPart}
use Rattle.mat_int.specs.Matrix.{Matrix}
use Rattle.qp_model.specs.machine.Controller.{Numbers}
use Rattle.command_line.specs.Answers.{IsCaused}
use Rattle.command_line.specs.declared.status.Status.{Status}
use Rattle.command_line.specs.declared.status.Status.TheVariants.{Done, Memory, WriteFault}
use Rattle.plan_lines.specs.Lines.{plan_lines}
use Rattle.plan_lines.specs.Printing.{AreFirstLines, Lines, LinesShow, IsSolved}

done_but_for_memory_and_faults : (c : Numbers) (m : Matrix) (s : Status) (before now : Option (List ℕ)) → IsSolved c m s before now → IsCaused s → s ≡ Done
done_but_for_memory_and_faults c m s before now it = it.done

all_lines : (c : Numbers) (m : Matrix) (old new : List ℕ) → IsSolved c m Done (Some old) (Some new) → new ≡ old ++ plan_lines c m (length m.rows)
all_lines c m old new it = it.printed.done refl

a_part_by_a_fault : (c : Numbers) (m : Matrix) (old new : List ℕ) → IsSolved c m (WriteFault 0) (Some old) (Some new) → GrowsByPart old new (plan_lines c m (length m.rows))
a_part_by_a_fault c m old new it = it.printed.fault refl

-- whole lines, from the first on
first_ones : (c : Numbers) (m : Matrix) (old new : List ℕ) → IsSolved c m Memory (Some old) (Some new) → AreFirstLines c m old new
first_ones c m old new it = it.printed.memory refl

no_more_than_there_are : (c : Numbers) (m : Matrix) (old new : List ℕ) (it : AreFirstLines c m old new) → it.count ≤ length m.rows
no_more_than_there_are c m old new it = it.some

so_many : (c : Numbers) (m : Matrix) (old new : List ℕ) (it : AreFirstLines c m old new) → new ≡ old ++ plan_lines c m it.count
so_many c m old new it = it.printed

-- ---- where states are refused, too
shown_where_inside : (Inside : Type 0) (lines : Lines) (old new : List ℕ) → LinesShow Inside lines Done old new → Inside × lines.all old new
shown_where_inside Inside lines old new it = it.done refl

a_part_where_inside : (Inside : Type 0) (lines : Lines) (old new : List ℕ) → LinesShow Inside lines (WriteFault 0) old new → Inside × lines.part old new
a_part_where_inside Inside lines old new it = it.fault refl

some_where_inside : (Inside : Type 0) (lines : Lines) (old new : List ℕ) → LinesShow Inside lines Memory old new → (new ≡ old) ⊎ (Inside × lines.some old new)
some_where_inside Inside lines old new it = it.memory refl

nothing_else : (Inside : Type 0) (lines : Lines) (s : Status) (old new : List ℕ) → LinesShow Inside lines s old new →
    s ≢ Done → s ≢ WriteFault 0 → s ≢ Memory → new ≡ old
nothing_else Inside lines s old new it = it.other
