-- The table of commands: what each does.
use Rattle.command_line.specs.Deeds.{Deeds}
use Rattle.command_line.specs.declared.words.Command.{Command}
use Rattle.command_line.specs.declared.words.Command.TheVariants.{Generate, Solve, Loop, Demo, List, Stay, Play, Lean, LeanStay, Split, Serve, C, Settle}
use Rattle.command_solve.specs.Deeds.{solve_deeds}
use Rattle.command_loop.specs.Loop.{loop_deeds}
use Rattle.command_demo.specs.Demo.{demo_deeds}
use Rattle.command_list.specs.Listed.{list_deeds}
use Rattle.command_make.specs.Make.{generate_deeds, stay_deeds, lean_deeds, lean_stay_deeds}
use Rattle.command_play.specs.Play.{play_deeds}
use Rattle.command_split.specs.Split.{split_deeds}
use Rattle.command_serve.specs.Deeds.{serve_deeds}
use Rattle.command_c.specs.Compiled.{compile_deeds}
use Rattle.command_settle.specs.Settle.{settle_deeds}

abbrev pub deeds_of : Command → Deeds
deeds_of Generate = generate_deeds
deeds_of Solve = solve_deeds
deeds_of (Loop turns disturbed) = loop_deeds turns disturbed
deeds_of (Demo number) = demo_deeds number
deeds_of List = list_deeds
deeds_of (Stay disturbed) = stay_deeds disturbed
deeds_of Play = play_deeds
deeds_of Lean = lean_deeds
deeds_of (LeanStay disturbed) = lean_stay_deeds disturbed
deeds_of Split = split_deeds
deeds_of Serve = serve_deeds
deeds_of C = compile_deeds
deeds_of (Settle disturbed) = settle_deeds disturbed
