-- What an iterator over the records of a text has yet to give.
use Rattle.std.specs.Prelude.{◌≡◌, ℕ, ◌+◌, ◌<◌, false, List, length, Some}
use Rattle.std.specs.Borrow.{Bor}
use Rattle.csv.specs.Machine.{ends_at_end}
use Rattle.csv.specs.Reading.{Ready, default_config, source_of, records_from, owned_rows_reader, owned_rows_left, reader_config, reader_state, reader_trim}
use Rattle.csv.specs.declared.iter.ByteRecordsIntoIter.{ByteRecordsIntoIter}
use Rattle.csv.specs.declared.reader.Trim.TheVariants as trim

-- it stands before a record of its bytes, and reads these from there on, as `records_of` does
pub record HasLeft (rows : ByteRecordsIntoIter (Bor (List ℕ))) (left : List (List (List ℕ))) : Type 0 where
  pub trim : reader_trim (owned_rows_reader rows) ≡ trim.None
  pub ready : Ready (owned_rows_reader rows)
  pub turns : 0 < owned_rows_left rows
  pub config : reader_config (owned_rows_reader rows) ≡ default_config
  pub start : ends_at_end (reader_state (owned_rows_reader rows)) ≡ false
  pub bytes : List ℕ
  pub source : source_of (λ s. Some s.now) (owned_rows_reader rows) ≡ Some bytes
  pub records : left ≡ records_from default_config (length bytes + 1) (reader_state (owned_rows_reader rows)) bytes
