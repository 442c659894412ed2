-- What `serve` does: its row of the table of commands.
use Rattle.command_line.specs.Deeds.{Deeds}
use Rattle.command_line.specs.Script.{Work, printing_work, deeds_of_work}
use Rattle.command_serve.specs.Serve.{serve_script}

abbrev pub serve_work : Work
serve_work = printing_work serve_script (λ s. ⊥)

abbrev pub serve_deeds : Deeds
serve_deeds = deeds_of_work serve_work
