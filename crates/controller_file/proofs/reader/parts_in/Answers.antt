use Rattle.std.proofs.Common.{◌≡◌, ◌∙◌, ℕ, List, Result, Ok, map, sym, ap, subst}
use Rattle.std.specs.Prelude.{MatchResult}
use Rattle.std.specs.Global.{Vec}
use Rattle.number_text.specs.Lines.{text_of}
use Rattle.qp_model.specs.declared.controller_parts.ControllerParts.{ControllerParts}
use Rattle.qp_model.specs.machine.Controller.{Numbers, numbers}
use Rattle.text_lines.specs.declared.line.Line.{Line}
use Rattle.text_lines.specs.FirstLine.{IsBadLineOf}
use Rattle.text_lines.specs.Grammar.{IsTextOf}
use Rattle.text_lines.specs.Lines.{Keyed, views, spelled}
use Rattle.controller_text.specs.TextForm.{IsTextForm}
use Rattle.controller_text.specs.Lines.{keyed_lines}
use Rattle.controller_text.proofs.Texts.{keyed_text}
use Rattle.controller_file.specs.Following.{IsAnyWhole}
use Rattle.controller_file.specs.Reading.{IsPartsOf}
use Rattle.controller_file.proofs.reader.parts_in.Goals as goal

-- the lines that were read, and that they are those of a text
abbrev Told : (W : List Keyed → Type 0) → List ℕ → Result (Vec Line) ℕ → Type 0
Told W bytes told = MatchResult told (λ v. W (views v.items) × (bytes ≡ text_of (map spelled (views v.items)))) (IsBadLineOf (IsTextOf W) bytes)

whole : (W : List Keyed → Type 0) (bytes : List ℕ) (told : Result (Vec Line) ℕ) (v : Vec Line) (lines : List Line) → Told W bytes told → told ≡ Ok v → lines ≡ v.items → W (views lines) × (bytes ≡ text_of (map spelled (views lines)))
whole W bytes told v lines h is same =
    let both : W (views v.items) × (bytes ≡ text_of (map spelled (views v.items))) = subst (Told W bytes) is h in
    subst (λ (ls : List Line). W (views ls) × (bytes ≡ text_of (map spelled (views ls)))) (sym same) both

-- what was made of them are the numbers of the text
read : (W : List Keyed → Type 0) (any : (ls : List Keyed) → W ls → IsAnyWhole ls) (bytes : List ℕ) (lines : List Line) (parts : ControllerParts) → W (views lines) × (bytes ≡ text_of (map spelled (views lines))) →
    ((c : Numbers) → IsTextForm c → keyed_lines c ≡ views lines → numbers parts ≡ c) → IsPartsOf W bytes (numbers parts)
read W any bytes lines parts both made =
    let w = any (views lines) both.0 in
    let formed : IsPartsOf W bytes w.numbers = record {
      form = record { form = w.form; word = w.word; text = both.1 ∙ ap (λ (ls : List Keyed). text_of (map spelled ls)) (sym w.lines) ∙ keyed_text w.numbers };
      whole = subst W (sym w.lines) both.0;
    } in
    subst (IsPartsOf W bytes) (sym (made w.numbers w.form w.lines)) formed

pub returns-in_ok-parts_of-in-Ok-clause-found : goal.returns-in_ok-parts_of-in-Ok-clause-found
returns-in_ok-parts_of-in-Ok-clause-found g c =
    read g.G.Grammar.whole c.requires.any c.args.bytes.now c.deref.result.now c.in_ok-parts_of-in-Ok.field-0
    (whole g.G.Grammar.whole c.args.bytes.now c.in_ok-lines.field-0 c.in-Ok.lines c.deref.result.now c.in_ok-lines.ensures c.in-Ok.is c.deref.ensures.value) c.in_ok-parts_of-in-Ok.ensures
