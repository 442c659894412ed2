use Rattle.std.proofs.Common.{rules, ◌≡◌, codes, string_bytes, List, ℕ, ◌<◌, [], ◌∷◌, ◌++◌, length, refl, ap, append_assoc, arith}
use Rattle.std.specs.List.{join_with_byte}
use Rattle.std.specs.Fmt.{decimal}
use Rattle.command_line.specs.StatusLine.{status_words, status_line}
use Rattle.command_line.specs.Status.{status_number}
use Rattle.command_line.specs.declared.status.Status.{Status}
use Rattle.command_line.specs.declared.status.Status.TheVariants.{Done, Refused}
use Rattle.qp_model.specs.refusal.Words.{refusal_words}
use Rattle.qp_model.specs.declared.refusal.Refusal.{Refusal}
use Rattle.qp_model.specs.declared.refusal.Refusal.TheVariants.{Memory, NoMargin, Curvature, TooManySteps, TooFine, TooWide}
use Rattle.command_line.proofs.error_line.status_line.Goals as goal
use Rattle.command_line.proofs.error_line.status_line.Goals.{in-Done, in_default}

-- a space stands before words
line_with : (number : List ℕ) (words : List (List ℕ)) → 0 < length words → join_with_byte 32 (codes "error" ∷ number ∷ words) ++ 10 ∷ []
    ≡ codes "error " ++ (number ++ 32 ∷ (join_with_byte 32 words ++ 10 ∷ []))
line_with number [] some = absurd (omega (arith, some))
line_with number (word ∷ words) some = ap (λ (rest : List ℕ). codes "error " ++ rest) (append_assoc number (32 ∷ join_with_byte 32 (word ∷ words)) (10 ∷ []))

-- each answer other than `Done` has a name
refusal_named : (r : Refusal) → 0 < length (refusal_words r)
refusal_named Memory = omega arith
refusal_named (NoMargin corner row slack) = omega arith
refusal_named Curvature = omega arith
refusal_named (TooManySteps k) = omega arith
refusal_named (TooFine eps) = omega arith
refusal_named (TooWide quantity) = omega arith

named : (s : Status) → (s ≡ Done → ⊥) → 0 < length (status_words s)
named Done told = absurd (told refl)
named (Refused r) told = refusal_named r
named s told = omega arith

line_of_words : (s : Status) → (s ≡ Done → ⊥) → status_line s ≡ codes "error " ++ (decimal (status_number s) ++ 32 ∷ (join_with_byte 32 (status_words s) ++ 10 ∷ []))
line_of_words Done told = absurd (told refl)
line_of_words s told = line_with (decimal (status_number s)) (status_words s) (named s told)

pub returns : goal.returns
returns c =
    elim c.match-matches.branch [
      | in-Done w ↦ absurd (cc)
      | in_default w ↦
          let bytes : c.into_bytes.result.items ≡ string_bytes c.in_ok-line.line = search rules in
          rw (line_of_words _ w.in_default.not-Done, bytes, c.in_ok-line.ensures.ok, c.status_number-number.ensures, c.in_ok-words.ensures) refl
    ]
