use Rattle.std.proofs.Common.{◌≡◌, ◌<◌, ℕ, List, [], ◌∷◌, ◌++◌, Result, Ok, Err, OnOk, is_ok, if◌then◌else◌, ◌∙◌, append_assoc, arith, rules}
use Rattle.std.proofs.lemmas.List.{append-nil}
use Rattle.number_text.specs.Lines.{text_of}
use Rattle.number_text.proofs.number.push_line.Goals as goal

-- a line and then its line feed, where there was memory for it
ended : {E : Type 0} (answer : Result (Unit {0}) E) (new mid old piece line feed : List ℕ) → new ≡ (if is_ok answer then mid ++ feed else mid) →
    mid ≡ old ++ piece → piece ≡ line → feed ≡ 10 ∷ [] → OnOk answer (new ≡ old ++ text_of (line ∷ []))
ended (Ok done) new mid old piece line feed e h k f = e ∙ rw (h, k, f, append-nil (line ++ 10 ∷ [])) (append_assoc old line (10 ∷ []))
ended (Err fault) new mid old piece line feed e h k f = tt

pub returns-clause-text : goal.returns-clause-text
returns-clause-text c =
    let ascii : 10 < 128 = omega arith in
    ended c.push.result _ _ _ _ _ _ c.push.ensures.bytes c.in_ok-push_str.ensures.bytes (c.as_str.ensures.value ∙ c.in_ok-line.ensures.value) (c.push.ensures.ascii ascii)

pub returns-clause-word : goal.returns-clause-word
returns-clause-word c = search rules
