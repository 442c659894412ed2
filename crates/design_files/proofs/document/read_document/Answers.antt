use Rattle.std.proofs.Common.{length, eq-eqb}
use Rattle.std.specs.Str.Lossy.{utf8_valid_len}
use Rattle.std.proofs.lemmas.Str.{utf8_valid_len-IsUtf8}
use Rattle.design_files.proofs.document.read_document.Goals as goal

pub returns-in-Ok-table_from_str-clause-ok : goal.returns-in-Ok-table_from_str-clause-ok
returns-in-Ok-table_from_str-clause-ok c =
    let bytes = c.args.bytes.now in
    let (same, utf8) = c.in-Ok.ensures.cases in
    rw (eq-eqb (utf8_valid_len bytes) (length bytes) (utf8_valid_len-IsUtf8 bytes utf8), ← same) c.in-Ok-table_from_str.ensures.ok
