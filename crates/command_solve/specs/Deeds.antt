-- What `solve` does: its row of the table of commands.
use Rattle.command_line.specs.Deeds.{Deeds}
use Rattle.command_line.specs.Script.{Work, printing_work, deeds_of_work}
use Rattle.command_solve.specs.Solve.{solve_script}

abbrev pub solve_work : Work
solve_work = printing_work solve_script (λ s. ⊥)

abbrev pub solve_deeds : Deeds
solve_deeds = deeds_of_work solve_work
