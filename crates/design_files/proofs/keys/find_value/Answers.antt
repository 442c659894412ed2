use Rattle.std.proofs.Common.{◌∙◌, refl, sym}
use Rattle.toml.specs.View.{table_view}
use Rattle.design_files.specs.Values.{places}
use Rattle.design_files.proofs.FoundLaws.{stands_at}
use Rattle.design_files.proofs.keys.find_value.Goals as goal

pub returns-in-Some-clause-ok : goal.returns-in-Some-clause-ok
returns-in-Some-clause-ok c = sym (c.in-Some.ensures ∙ stands_at places (table_view c.args.document.now) c.args.i _ _ c.place_at.ensures)

pub returns-in-None-clause-err : goal.returns-in-None-clause-err
returns-in-None-clause-err c = (refl, sym (c.in-None.ensures ∙ stands_at places (table_view c.args.document.now) c.args.i _ _ c.place_at.ensures))
