use Rattle.std.proofs.Common.{◌∙◌, ap}
use Rattle.std.specs.Option.{option_and_then}
use Rattle.toml.specs.Data.{as_table}
use Rattle.toml.proofs.Views.{table_get}
use Rattle.design_files.proofs.keys.table_at.Goals as goal

pub returns-in-Some : goal.returns-in-Some
returns-in-Some c =
    let found = table_get c.get.result c.args.name.now c.args.document.now.entries c.get.ensures.value in
    c.as_table.ensures ∙ ap (option_and_then as_table) (rw c.in-Some.is at found)

pub returns-in-None : goal.returns-in-None
returns-in-None c =
    let found = table_get c.get.result c.args.name.now c.args.document.now.entries c.get.ensures.value in
    ap (option_and_then as_table) (rw c.in-None.is at found)
