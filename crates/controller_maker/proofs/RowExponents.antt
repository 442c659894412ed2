-- The exponents of a design's rows, as a controller has them.
use Rattle.std.proofs.Common.{◌≡◌, ℕ, ◌≤◌, List, length, replicate, ap, ◌∙◌, le_refl}
use Rattle.std.proofs.lemmas.List.{length-replicate}
use Rattle.std.proofs.lemmas.List.Elements.{All-replicate}
use Rattle.qp_model.specs.problem.Design.{Design, rows}
use Rattle.controller_maker.specs.Assembled.{HasExponents}

-- where each is s
pub repeated_exponents : (d : Design) (s n : ℕ) (es : List ℕ) → es ≡ replicate n s → n ≡ rows d → HasExponents d s es
repeated_exponents d s n es e count = record {
  long = ap (λ (xs : List ℕ). length xs) e ∙ length-replicate n s ∙ count;
  high = rw e (All-replicate (λ m. m ≤ s) n s (le_refl s));
  first = λ f. e ∙ ap (λ (m : ℕ). replicate m s) count;
}
