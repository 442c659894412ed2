-- The lines of boxes that are one.
use Rattle.std.proofs.Common.{◌≡◌, ℕ, zero, suc, ◌+◌, ◌<◌, List, [], ◌++◌, length, refl, sym, ap, ◌∙◌, add-one, append_assoc, append-nil, arith}
use Rattle.settle_check.specs.Still.{Box}
use Rattle.settle_check.specs.Certificates.{state_box, IsBoxOf}
use Rattle.settle_check.specs.declared.certificate.Settled.{Settled}
use Rattle.command_settle.specs.SettledText.{turn_line, coordinate_line, cost_row_line, lines_to, settled_text}

-- ---- one line more
pub none_yet : (line : ℕ → List ℕ) → lines_to line 0 ≡ []
unfolding lines_to
none_yet line = refl

step : (line : ℕ → List ℕ) (k : ℕ) → lines_to line (suc k) ≡ lines_to line k ++ line k
unfolding lines_to
step line k = refl

-- a text of a front and the lines so far, with one line more
pub line_more : (line : ℕ → List ℕ) (k : ℕ) (front old new : List ℕ) → old ≡ front ++ lines_to line k → new ≡ old ++ line k → new ≡ front ++ lines_to line (k + 1)
line_more line k front old new is more =
    more ∙ ap (λ (text : List ℕ). text ++ line k) is ∙ append_assoc front (lines_to line k) (line k)
    ∙ ap (λ (lines : List ℕ). front ++ lines) (sym (step line k)) ∙ ap (λ (i : ℕ). front ++ lines_to line i) (sym (add-one k))

pub no_line : (line : ℕ → List ℕ) (front text : List ℕ) → text ≡ front → text ≡ front ++ lines_to line 0
no_line line front text is = is ∙ sym (append-nil front) ∙ ap (λ (lines : List ℕ). front ++ lines) (sym (none_yet line))

-- ---- boxes that lists hold
lines_same : (f g : ℕ → List ℕ) (n : ℕ) → ((k : ℕ) → k < n → f k ≡ g k) → lines_to f n ≡ lines_to g n
lines_same f g zero same = none_yet f ∙ sym (none_yet g)
lines_same f g (suc k) same =
    step f k ∙ ap (λ (text : List ℕ). text ++ f k) (lines_same f g k (λ i o. same i (omega (arith, o)))) ∙ ap (λ (line : List ℕ). lines_to g k ++ line) (same k (omega arith)) ∙ sym (step g k)

pub text_same : (turn n after m : ℕ) (z y : Box) (b : Settled) (text : List ℕ) → IsBoxOf n z b.rest → IsBoxOf m y b.costs →
    text ≡ settled_text turn (length b.rest.low.items) (state_box b.rest) after (length b.costs.low.items) (state_box b.costs) → text ≡ settled_text turn n z after m y
text_same turn n after m z y b text h g is =
    is ∙ ap (λ (i : ℕ). settled_text turn i (state_box b.rest) after (length b.costs.low.items) (state_box b.costs)) h.low.long
    ∙ ap (λ (i : ℕ). settled_text turn n (state_box b.rest) after i (state_box b.costs)) g.low.long
    ∙ ap (λ (lines : List ℕ). (turn_line turn ++ lines) ++ lines_to (cost_row_line after (state_box b.costs)) m)
    (lines_same (coordinate_line (state_box b.rest)) (coordinate_line z) n (λ k o. rw (h.low.is k o, h.high.is k o) refl))
    ∙ ap (λ (lines : List ℕ). (turn_line turn ++ lines_to (coordinate_line z) n) ++ lines)
    (lines_same (cost_row_line after (state_box b.costs)) (cost_row_line after y) m (λ k o. rw (g.low.is k o, g.high.is k o) refl))
