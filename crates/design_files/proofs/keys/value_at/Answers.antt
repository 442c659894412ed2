use Rattle.std.proofs.Common.{◌∙◌, ap}
use Rattle.std.specs.Option.{option_and_then}
use Rattle.toml.specs.Data.{get_member}
use Rattle.toml.proofs.Views.{table_get}
use Rattle.design_files.proofs.keys.value_at.Goals as goal

pub returns-in_ok-table_at-in-Some : goal.returns-in_ok-table_at-in-Some
returns-in_ok-table_at-in-Some c =
    let table = c.in_ok-table_at-in-Some.field-0.now in
    let found = table_get c.get.result c.args.key.now table.entries c.get.ensures.value in
    rw c.in-Some.is (found ∙ ap (option_and_then (get_member c.args.key.now)) c.in_ok-table_at-in-Some.ensures)

pub returns-in-None : goal.returns-in-None
returns-in-None c = rw c.in-None.is (table_get c.get-in-None.result c.args.key.now c.args.document.now.entries c.get-in-None.ensures.value)
