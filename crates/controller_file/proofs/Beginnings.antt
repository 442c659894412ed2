-- Lines with which a text in form begins.
use Rattle.std.proofs.Common.{◌≡◌, ℕ, ◌<◌, ◌-◌, ◌^◌, List, [], ◌∷◌, ◌++◌, length, get_or, take, drop, map, refl, sym, ap, subst, ◌∙◌, append_assoc, arith}
use Rattle.std.specs.Prelude.{All}
use Rattle.std.proofs.lemmas.List.{get_or_at, get_or_append_left, take_at, drop_at}
use Rattle.number_text.specs.Lines.{text_of}
use Rattle.qp_model.specs.machine.Controller.{Numbers, FitsWord}
use Rattle.controller_text.specs.TextForm.{IsTextForm}
use Rattle.text_lines.specs.Lines.{Keyed, no_line, IsKeyedLine, spelled}
use Rattle.text_lines.specs.Grammar.{IsBeginning, IsGrammar, IsTextOf}
use Rattle.text_lines.proofs.Beginnings.{begins}
use Rattle.controller_file.specs.FirstLine.{IsSomeTextIn}
use Rattle.controller_text.specs.Lines.{keyed_lines}
use Rattle.controller_file.specs.Following.{IsWholeOf, IsWhole, IsAnyWhole}
use Rattle.controller_file.proofs.Blank.{blank, plain_blank, blank_fits}
use Rattle.controller_file.proofs.Plain.{any_whole, any_begins}
use Rattle.controller_text.proofs.Blocks.{few_lines}
use Rattle.controller_text.proofs.Texts.{keyed_text, good_lines}

-- one line more
pub grown : (ls : List Keyed) (l : Keyed) (c : Numbers) (more : List Keyed) → IsTextForm c → FitsWord c → keyed_lines c ≡ ls ++ (l ∷ more) → IsBeginning IsAnyWhole (ls ++ l ∷ [])
grown ls l c more form word e = record { more = more; whole = record { numbers = c; form = form; word = word; lines = e ∙ sym (append_assoc ls (l ∷ []) more) } }

-- fewer lines, of the same text
abbrev pub fewer : (ls ms : List Keyed) → IsBeginning IsAnyWhole (ls ++ ms) → IsBeginning IsAnyWhole ls
fewer ls ms b = record { more = ms ++ b.more; whole = record { numbers = b.whole.numbers; form = b.whole.form; word = b.whole.word; lines = b.whole.lines ∙ append_assoc ls ms b.more } }

-- the lines of the text
pub front_is : (ls : List Keyed) (b : IsBeginning IsAnyWhole ls) (k : ℕ) → length ls ≡ k → take k (keyed_lines b.whole.numbers) ≡ ls
front_is ls b k len = ap (take k) b.whole.lines ∙ take_at ls b.more k len

pub line_is : (ls : List Keyed) (b : IsBeginning IsAnyWhole ls) (k : ℕ) → k < length ls → get_or (keyed_lines b.whole.numbers) k no_line ≡ get_or ls k no_line
line_is ls b k lt = ap (λ (ms : List Keyed). get_or ms k no_line) b.whole.lines ∙ get_or_append_left ls b.more no_line k lt

pub last_is : (ls : List Keyed) (l : Keyed) (b : IsBeginning IsAnyWhole (ls ++ l ∷ [])) (k : ℕ) → length ls ≡ k → get_or (keyed_lines b.whole.numbers) k no_line ≡ l
last_is ls l b k len = ap (λ (ms : List Keyed). get_or ms k no_line) (b.whole.lines ∙ append_assoc ls (l ∷ []) b.more) ∙ get_or_at ls l b.more no_line k len

-- lines of the text that are as many, and those after them
pub parted : (ls : List Keyed) (b : IsBeginning IsAnyWhole ls) (front rest : List Keyed) → keyed_lines b.whole.numbers ≡ front ++ rest → length ls ≡ length front → (front ≡ ls) × (rest ≡ b.more)
parted ls b front rest e len =
    let same : front ++ rest ≡ ls ++ b.more = sym e ∙ b.whole.lines in
    (sym (take_at front rest (length front) refl) ∙ ap (take (length front)) same ∙ take_at ls b.more (length front) len, sym (drop_at front rest (length front) refl) ∙ ap (drop (length front)) same ∙ drop_at ls b.more (length front) len)

-- the line after them, where they go on
pub next_is : (ls : List Keyed) (l : Keyed) (b : IsBeginning IsAnyWhole (ls ++ l ∷ [])) (front : List Keyed) (a : Keyed) (rest : List Keyed) → keyed_lines b.whole.numbers ≡ front ++ (a ∷ rest) → length ls ≡ length front → a ≡ l
next_is ls l b front a rest e len = ap (λ (ms : List Keyed). get_or ms 0 no_line) (parted ls (fewer ls (l ∷ []) b) front (a ∷ rest) e len).1

-- ---- the grammar

nothing : IsBeginning IsWhole []
nothing = begins IsWhole 0 (keyed_lines (blank 1 1 1 1 1)) (record {
  numbers = blank 1 1 1 1 1;
  form = plain_blank 1 1 1 1 1 (omega arith, omega arith) (omega arith, omega arith) (omega arith, omega arith) (omega arith, omega arith) (omega arith, omega arith);
  word = blank_fits 1 1 1 1 1;
  lines = refl;
})

-- however many pieces there are, few are the lines of a text in form: no such text has more
pub few_right : (ls : List Keyed) → IsAnyWhole ls → length ls < 2 ^ 32 - 1
few_right ls w = omega (arith, few_lines w.numbers w.form, ap length w.lines)

pub any_grammar : IsGrammar IsAnyWhole
any_grammar = record { some = any_begins [] nothing; each = λ ls w. subst (All IsKeyedLine) w.lines (good_lines w.numbers w.form w.word); few = few_right }

pub grammar : IsGrammar IsWhole
grammar = record { some = nothing; each = λ ls w. any_grammar.each ls (any_whole ls w); few = λ ls w. few_right ls (any_whole ls w) }

-- ---- texts by their lines and by their numbers

pub text_from : (Form : Numbers → Type 0) (bytes : List ℕ) → IsTextOf (IsWholeOf Form) bytes → IsSomeTextIn Form bytes
text_from Form bytes t = record {
  numbers = t.whole.numbers;
  form = record { form = t.whole.form; word = t.whole.word; text = t.text ∙ ap (λ (ls : List Keyed). text_of (map spelled ls)) (sym t.whole.lines) ∙ keyed_text t.whole.numbers };
}

pub text_to : (Form : Numbers → Type 0) (bytes : List ℕ) → IsSomeTextIn Form bytes → IsTextOf (IsWholeOf Form) bytes
text_to Form bytes t = record {
  lines = keyed_lines t.numbers;
  whole = record { numbers = t.numbers; form = t.form.form; word = t.form.word; lines = refl };
  text = t.form.text ∙ sym (keyed_text t.numbers);
}
