use Rattle.csv.specs.Records.{fields_of}
use Rattle.cell_split.proofs.RecordFacts.{no_count, counted, count_here}
use Rattle.cell_split.proofs.record.cut_count.Goals as goal

pub returns-in_default-clause-only : goal.returns-in_default-clause-only
returns-in_default-clause-only c = λ n h. absurd (no_count (fields_of c.args.row.now) n c.in_default.ensures.value h)

pub returns-clause-found : goal.returns-clause-found
returns-clause-found c = counted (fields_of c.args.row.now) c.in-Some.field.now c.count_field.result c.in-Some.ensures.value c.count_field.ensures.found

pub returns-clause-only : goal.returns-clause-only
returns-clause-only c = λ n h. c.count_field.ensures.only n (count_here (fields_of c.args.row.now) c.in-Some.field.now n c.in-Some.ensures.value h) h.few
