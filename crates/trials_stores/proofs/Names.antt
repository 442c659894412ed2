-- Facts at every name, from those at one and at the others.
use Rattle.std.proofs.Common.{◌≡◌, ◌≢◌, ℕ, List, inl, inr, sym, ap, ◌∙◌}
use Rattle.std.specs.Str.{bytes_eq}
use Rattle.std.proofs.lemmas.Slice.Eq.{bytes_eq-Decides}
use Rattle.std.proofs.lemmas.Bool.{cases_Bool}

pub at_each_name : {W : Type 0} (f g : List ℕ → W) (name : List ℕ) → f name ≡ g name → ((q : List ℕ) → q ≢ name → f q ≡ g q) → (q : List ℕ) → f q ≡ g q
at_each_name f g name here others q =
    elim (cases_Bool (bytes_eq q name)) [
      | inl same ↦ ap f ((bytes_eq-Decides q name).0 same) ∙ here ∙ sym (ap g ((bytes_eq-Decides q name).0 same))
      | inr other ↦ others q (λ e. let t = (bytes_eq-Decides q name).1 e in cc)
    ]
