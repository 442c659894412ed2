-- The document that bytes are, and what stands at its keys.
use Rattle.std.specs.Prelude.{ℕ, List, length, Option, Some, None, ◌==◌, if◌then◌else◌}
use Rattle.std.specs.Option.{option_and_then}
use Rattle.std.specs.Str.Lossy.{utf8_valid_len}
use Rattle.toml.specs.Data.{Data, Members, get_member, as_table}
use Rattle.toml.specs.Parse.{parse_document}

-- the members of the TOML document that the bytes are, where they are one: bytes that are UTF-8 to their end, and that TOML's grammar takes
abbrev pub document_of : List ℕ → Option Members
document_of bytes = if utf8_valid_len bytes == length bytes then parse_document bytes else None

-- the table of a name
abbrev pub table_at : List ℕ → Members → Option Members
table_at name document = option_and_then as_table (get_member name document)

-- the value at a key of it
abbrev pub value_at : List ℕ → List ℕ → Members → Option Data
value_at name key document = option_and_then (get_member key) (table_at name document)

-- what stands at a key of the table of a name, or at the top where there is none
abbrev pub standing : Option (List ℕ) → List ℕ → Members → Option Data
standing None key document = get_member key document
standing (Some name) key document = value_at name key document
