-- The records of a text take room.
use Rattle.std.proofs.Common.{◌≡◌, ℕ, zero, suc, ◌+◌, ◌-◌, ◌<◌, ◌≤◌, Bool, true, false, List, [], ◌∷◌, ◌++◌, length, Option, Some, None, if◌then◌else◌, refl, arith, length-append}
use Rattle.std.specs.Prelude.{◌==◌, ◌&&◌}
use Rattle.std.proofs.lemmas.List.Sums.{sum_by-append}
use Rattle.csv.specs.Machine.{Read, next_record, step, in_field, start_field, start_record, is_end, ends_at_end, after_end, ends_with, is_byte, carriage_return, line_feed, fields_after, field_after}
use Rattle.csv.specs.Reading.{default_config, strip_bom, records_from, records_next, is_bom}
use Rattle.csv.specs.declared.parser.Config.{Config}
use Rattle.csv.specs.declared.parser.State.{State}
use Rattle.csv.specs.declared.parser.State.TheVariants as st
use Rattle.csv.specs.declared.parser.Action.{Action}
use Rattle.csv.specs.declared.parser.Action.TheVariants as act
use Rattle.csv.specs.declared.parser.Terminator.{Terminator}
use Rattle.csv.specs.declared.parser.Terminator.TheVariants as term
use Rattle.policy_file.specs.Records.{records_of, record_at, field_room}

-- ---- a record takes bytes, and leaves the reader at the start of another
-- an action that ends a record leads to such a start
EndsRight : State × Action → Type 0
EndsRight p = is_end p.1 ≡ true → ends_at_end p.0 ≡ false

either : (b : Bool) (p q : State × Action) → EndsRight p → EndsRight q → EndsRight (if b then p else q)
either true p q h k = h
either false p q h k = k

moves_on : (s : State) (a : Action) → is_end a ≡ false → EndsRight (s, a)
unfolding EndsRight
moves_on s a e h = cc

line_end : (b : Bool) → ends_at_end (if b then st.AfterCr else st.StartRecord) ≡ false
line_end true = refl
line_end false = refl

after_right : (t : Terminator) (c : ℕ) → EndsRight (after_end t c, act.EndRecord)
unfolding EndsRight
after_right term.CRLF c h = line_end (c == carriage_return)
after_right (term.Any t) c h = refl

field_right : (cfg : Config) (c : ℕ) → EndsRight (in_field cfg c)
field_right cfg c = either (c == cfg.delimiter) _ _ (moves_on st.StartField act.EndField refl)
    (either (ends_with cfg.terminator c) _ _ (after_right cfg.terminator c) (moves_on st.InField act.Copy refl))

first_right : (cfg : Config) (c : ℕ) → EndsRight (start_field cfg c)
first_right cfg c = either (cfg.quoting && (c == cfg.quote)) _ _ (moves_on st.InQuoted act.Skip refl) (field_right cfg c)

record_right : (cfg : Config) (c : ℕ) → EndsRight (start_record cfg c)
record_right cfg c = either (ends_with cfg.terminator c) _ _ (moves_on st.StartRecord act.Skip refl)
    (either (is_byte cfg.comment c) _ _ (moves_on st.InComment act.Skip refl) (first_right cfg c))

step_right : (cfg : Config) (s : State) (c : ℕ) → EndsRight (step cfg s c)
step_right cfg st.StartRecord c = record_right cfg c
step_right cfg st.StartField c = first_right cfg c
step_right cfg st.InField c = field_right cfg c
step_right cfg st.InQuoted c = either (cfg.quoting && (c == cfg.quote)) _ _ (moves_on st.AfterQuote act.Skip refl)
    (either (cfg.quoting && is_byte cfg.escape c) _ _ (moves_on st.InEscape act.Skip refl) (moves_on st.InQuoted act.Copy refl))
step_right cfg st.InEscape c = moves_on st.InQuoted act.Copy refl
step_right cfg st.AfterQuote c = either (cfg.quoting && cfg.double_quote && (c == cfg.quote)) _ _ (moves_on st.InQuoted act.Copy refl) (field_right cfg c)
step_right cfg st.InComment c = either (c == line_feed) _ _ (moves_on st.StartRecord act.Skip refl) (moves_on st.InComment act.Skip refl)
step_right cfg st.AfterCr c = either (c == line_feed) _ _ (moves_on st.StartRecord act.Skip refl) (record_right cfg c)

-- what a record takes at least, with the field at hand
room_after : (a : Action) (fields : List (List ℕ)) (field : List ℕ) (c : ℕ) →
    field_room (fields_after a fields field) + length (field_after a c field) ≤ field_room fields + length field + 1
room_after act.Skip fields field c = omega arith
room_after act.Copy fields field c = omega (arith, length-append field (c ∷ []))
room_after act.EndField fields field c = omega (arith, sum_by-append (λ (f : List ℕ). length f + 1) fields (field ∷ []))
room_after act.EndRecord fields field c = omega (arith, sum_by-append (λ (f : List ℕ). length f + 1) fields (field ∷ []))

-- a record that was read: what it took, what is left, and where the reader stands
pub record RecordTaken (fields : List (List ℕ)) (field xs : List ℕ) (p : Read) : Type 0 where
  pub room : field_room p.0 ≤ field_room fields + length field + length xs + 1
  pub left : length p.2 ≤ length xs - 1
  pub start : ends_at_end p.1 ≡ false

pub record_taken : (cfg : Config) (s : State) (fields : List (List ℕ)) (field xs : List ℕ) (p : Read) → next_record cfg s fields field xs ≡ Some p → RecordTaken fields field xs p
unfolding next_record EndsRight
record_taken cfg s fields field [] p e = at_end (ends_at_end s) e
  where
    at_end : (b : Bool) → (if b then Some (fields ++ (field ∷ []), st.StartRecord, []) else None) ≡ Some p → RecordTaken fields field [] p
    at_end true e = let q : (fields ++ (field ∷ []), st.StartRecord, []) ≡ p = (cc) in rw (← q) (record { room = omega (arith, sum_by-append (λ (f : List ℕ). length f + 1) fields (field ∷ [])); left = omega arith; start = refl })
    at_end false e = absurd cc
record_taken cfg s fields field (c ∷ rest) p e =
    by (record_taken cfg (step cfg s c).0 (fields_after (step cfg s c).1 fields field) (field_after (step cfg s c).1 c field) rest p) (is_end (step cfg s c).1) refl e
  where
    by : (next_record cfg (step cfg s c).0 (fields_after (step cfg s c).1 fields field) (field_after (step cfg s c).1 c field) rest ≡ Some p →
        RecordTaken (fields_after (step cfg s c).1 fields field) (field_after (step cfg s c).1 c field) rest p) → (b : Bool) → is_end (step cfg s c).1 ≡ b →
        (if b then Some (fields_after (step cfg s c).1 fields field, (step cfg s c).0, rest)
        else next_record cfg (step cfg s c).0 (fields_after (step cfg s c).1 fields field) (field_after (step cfg s c).1 c field) rest) ≡ Some p →
        RecordTaken fields field (c ∷ rest) p
    by more true end e =
        let q : (fields_after (step cfg s c).1 fields field, (step cfg s c).0, rest) ≡ p = (cc) in
        rw (← q) (record { room = omega (arith, room_after (step cfg s c).1 fields field c); left = omega arith; start = step_right cfg s c end })
    by more false end e =
        let t = more e in
        record { room = omega (arith, t.room, room_after (step cfg s c).1 fields field c); left = omega (arith, t.left); start = t.start }

-- from the start of a record
pub record_taken_some : (cfg : Config) (s : State) (xs : List ℕ) (p : Read) → ends_at_end s ≡ false → next_record cfg s [] [] xs ≡ Some p → length p.2 < length xs
unfolding next_record
record_taken_some cfg s [] p start e = let none : None ≡ Some p = rw start at e in absurd cc
record_taken_some cfg s (c ∷ rest) p start e = omega (arith, (record_taken cfg s [] [] (c ∷ rest) p e).left)

-- ---- all records
-- no more records than bytes, and each with room in them
record InText (xs : List ℕ) (rows : List (List (List ℕ))) : Type 0 where
  few : length rows ≤ length xs
  room : (e : ℕ) → e < length rows → field_room (record_at rows e) ≤ length xs + 1

in_text : (cfg : Config) (n : ℕ) (s : State) (xs : List ℕ) → ends_at_end s ≡ false → InText xs (records_from cfg n s xs)
unfolding records_from
in_text cfg zero s xs start = record { few = omega arith; room = λ e l. absurd (omega arith) }
in_text cfg (suc n) s xs start = by (in_text cfg n) (next_record cfg s [] [] xs) refl
  where
    by : ((s : State) (xs : List ℕ) → ends_at_end s ≡ false → InText xs (records_from cfg n s xs)) → (o : Option Read) → next_record cfg s [] [] xs ≡ o → InText xs (records_next (records_from cfg n) o)
    by all None e = record { few = omega arith; room = λ e l. absurd (omega arith) }
    by all (Some p) e =
        let t = record_taken cfg s [] [] xs p e in
        let some = record_taken_some cfg s xs p start e in
        let more = all p.1 p.2 t.start in
        record { few = omega (arith, some, more.few); room = rooms p (records_from cfg n p.1 p.2) (omega (arith, t.room)) some more.room }
      where
        rooms : (p : Read) (rows : List (List (List ℕ))) → field_room p.0 ≤ length xs + 1 → length p.2 < length xs →
            ((e : ℕ) → e < length rows → field_room (record_at rows e) ≤ length p.2 + 1) → (e : ℕ) → e < length (p.0 ∷ rows) → field_room (record_at (p.0 ∷ rows) e) ≤ length xs + 1
        rooms p rows h k m zero l = h
        rooms p rows h k m (suc e) l = omega (arith, m e (omega arith))

strip_shorter : (text : List ℕ) → length (strip_bom text) ≤ length text
unfolding strip_bom
strip_shorter [] = omega arith
strip_shorter (a ∷ []) = omega arith
strip_shorter (a ∷ b ∷ []) = omega arith
strip_shorter (a ∷ b ∷ c ∷ rest) = by (is_bom a b c)
  where
    by : (t : Bool) → length (if t then rest else a ∷ b ∷ c ∷ rest) ≤ length (a ∷ b ∷ c ∷ rest)
    by true = omega arith
    by false = omega arith

-- a text of n bytes has n records at most
pub records_few : (text : List ℕ) → length (records_of text) ≤ length text
records_few text =
    omega (arith, strip_shorter text, (in_text default_config (length (strip_bom text) + 1) st.StartRecord (strip_bom text) refl).few)

-- and each takes n bytes and one more at most
pub records_room : (text : List ℕ) (e : ℕ) → e < length (records_of text) → field_room (record_at (records_of text) e) ≤ length text + 1
records_room text e l =
    omega (arith, strip_shorter text, (in_text default_config (length (strip_bom text) + 1) st.StartRecord (strip_bom text) refl).room e l)
