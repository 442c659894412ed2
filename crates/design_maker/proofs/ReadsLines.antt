-- A text of lines, each as `toml` prints it at a document's start, is read as the lines' expressions.
use Rattle.std.proofs.Common.{◌≡◌, ◌∙◌, ℕ, ◌-◌, ◌<◌, ◌≤◌, true, false, ◌==◌, List, [], ◌∷◌, ◌++◌, length, codes, Option, Some, None, option_and_then, refl, sym, ap, arith, append_assoc}
use Rattle.std.proofs.lemmas.Bool.Decides.{nat_tests}
use Rattle.number_text.specs.Lines.{text_of}
use Rattle.toml_parser.specs.Lexical.{skip_blank}
use Rattle.toml_writer.specs.Text.{key_text}
use Rattle.toml.specs.Data.{Data, depth, has_valid_dates}
use Rattle.toml.specs.Tables.{Document, Expression, define, key_value, std_table}
use Rattle.toml.specs.Parse.{line, lines}
use Rattle.toml.specs.Text.{IsLineText, IsValueText}
use Rattle.toml.proofs.Turns.{lines_end, lines_more, lines_refused}
use Rattle.toml.proofs.Blanks.{skip_newline, skip_within}
use Rattle.toml.proofs.ReadLines.{run, IsPrinted, line_turn}
use Rattle.toml_parser.proofs.LexicalLemmas.{skip_from-nil}

-- a line, without its line feed, writes an expression
abbrev pub Writes : Expression → List ℕ → Type 0
Writes e line = IsLineText false false e.0 e.1 (line ++ 10 ∷ []) × IsPrinted e.0 e.1

abbrev pub AllWrite : List Expression → List (List ℕ) → Type 0
AllWrite [] [] = Unit {0}
AllWrite [] (line ∷ lines) = ⊥
AllWrite (e ∷ es) [] = ⊥
AllWrite (e ∷ es) (line ∷ lines) = Writes e line × AllWrite es lines

-- a key and its value
pub writes_pair : (k v : List ℕ) (d : Data) → key_text k ≡ k → IsValueText false d v → depth d ≤ 80 → has_valid_dates d ≡ true → Writes (([], k), key_value d) (k ++ (codes " = " ++ v))
writes_pair k v d bare value deep valid = ((v, rw bare (append_assoc k (codes " = " ++ v) (10 ∷ [])), value), (refl, deep, valid))

-- the header of a table
pub writes_header : (k : List ℕ) → key_text k ≡ k → Writes (([], k), std_table) (codes "[" ++ (k ++ codes "]"))
writes_header k bare = (rw bare (ap (λ (t : List ℕ). 91 ∷ t) (append_assoc k (93 ∷ []) (10 ∷ []))), omega arith)

read_step : (m : ℕ) (doc : Document) (x : List ℕ) (e : Expression) (after : List ℕ) (es : List Expression) (defined : Option Document) → defined ≡ define doc e → 0 < m → (length (skip_blank x) == 0) ≡ false
    → line (skip_blank x) ≡ Some (e, after) → ((next : Document) → lines (m - 1) next after ≡ option_and_then (λ n. run n es) (Some next)) → lines m doc x ≡ option_and_then (λ n. run n es) defined
read_step m doc x e after es None same some other read more = lines_refused m doc x e after some other read (sym same)
read_step m doc x e after es (Some next) same some other read more = lines_more m doc next x e after some other read (sym same) ∙ more next

pub reads_lines : (es : List Expression) (ls : List (List ℕ)) (x : List ℕ) (doc : Document) (m : ℕ) → AllWrite es ls → skip_blank x ≡ skip_blank (text_of ls) → length x < m → lines m doc x ≡ run doc es
reads_lines [] [] x doc m h skip room = lines_end m doc x (omega arith) (rw (skip, skip_from-nil true false) refl)
reads_lines [] (l ∷ ls) x doc m h skip room = absurd h
reads_lines (e ∷ es) [] x doc m h skip room = absurd h
reads_lines (e ∷ es) (l ∷ ls) x doc m h skip room =
    let (s, at_start, read, some, shorter, not_bom) = line_turn false false e.0 e.1 (l ++ 10 ∷ []) (text_of ls) h.0.0 h.0.1 in
    let same : skip_blank x ≡ s = skip ∙ at_start in
    let other : (length (skip_blank x) == 0) ≡ false = rw same (grind (arith, nat_tests)) in
    let within = skip_within x in
    read_step m doc x e (10 ∷ text_of ls) es (define doc e) refl (omega arith) other (rw same read) (λ next. reads_lines es ls (10 ∷ text_of ls) next (m - 1) h.1 (skip_newline (text_of ls)) (omega (arith, ap length same)))
