-- Texts that grow line by line.
use Rattle.std.proofs.Common.{◌≡◌, ℕ, ◌+◌, ◌<◌, List, [], ◌∷◌, ◌++◌, length, take, get_or, map, sym, ap, ◌∙◌, append_assoc}
use Rattle.std.proofs.lemmas.List.{append-nil, take_more, map-append}
use Rattle.std.specs.Prelude.{codes}
use Rattle.number_text.specs.Lines.{line_of, text_of}
use Rattle.text_lines.proofs.OneText.{text_append}
use Rattle.mac_listing.specs.declared.instruction.Op.{Op}
use Rattle.mac_listing.specs.Listing.{Instructions}
use Rattle.mac_listing.specs.Text.{op_line, head_lines, listing_lines, listing_text}

-- lines after lines
pub lines_after : (t u v : List ℕ) (xs ys : List (List ℕ)) → u ≡ t ++ text_of xs → v ≡ u ++ text_of ys → v ≡ t ++ text_of (xs ++ ys)
lines_after t u v xs ys e d =
    d ∙ ap (λ (s : List ℕ). s ++ text_of ys) e ∙ append_assoc t (text_of xs) (text_of ys) ∙ ap (λ (s : List ℕ). t ++ s) (sym (text_append xs ys))

-- one line more of a list
pub line_more : (lines : List (List ℕ)) (i : ℕ) (t u v : List ℕ) → i < length lines → u ≡ t ++ text_of (take i lines) → v ≡ u ++ text_of (get_or lines i [] ∷ []) →
    v ≡ t ++ text_of (take (i + 1) lines)
line_more lines i t u v lt e d =
    lines_after t u v (take i lines) (get_or lines i [] ∷ []) e d ∙ ap (λ (ls : List (List ℕ)). t ++ text_of ls) (sym (take_more lines i [] lt))

pub lines_none : (t : List ℕ) → t ≡ t ++ text_of []
lines_none t = sym (append-nil t)

-- one instruction more
pub op_more : (body : List Op) (i : ℕ) (d : Op) (t u v : List ℕ) → i < length body → u ≡ t ++ text_of (map op_line (take i body)) →
    v ≡ u ++ text_of (op_line (get_or body i d) ∷ []) → v ≡ t ++ text_of (map op_line (take (i + 1) body))
op_more body i d t u v lt e h =
    let more : map op_line (take i body) ++ op_line (get_or body i d) ∷ [] ≡ map op_line (take (i + 1) body) =
    sym (map-append op_line (take i body) (get_or body i d ∷ [])) ∙ ap (λ (ops : List Op). map op_line ops) (sym (take_more body i d lt)) in
    lines_after t u v (map op_line (take i body)) (op_line (get_or body i d) ∷ []) e h ∙ ap (λ (ls : List (List ℕ)). t ++ text_of ls) more

-- the whole text
pub whole : (l : Instructions) (a b d e : List ℕ) → a ≡ [] → b ≡ a ++ text_of (head_lines l) → d ≡ b ++ text_of (map op_line l.body) → e ≡ d ++ text_of (line_of (codes "end") [] ∷ []) →
    e ≡ listing_text l
whole l a b d e none head body end =
    lines_after a d e (head_lines l ++ map op_line l.body) (line_of (codes "end") [] ∷ []) (lines_after a b d (head_lines l) (map op_line l.body) head body) end ∙
    ap (λ (s : List ℕ). s ++ text_of (listing_lines l)) none
