-- Lists that hold the values of a function, and grow.
use Rattle.std.proofs.Common.{◌≡◌, ℕ, ◌+◌, ◌<◌, ℤ, pos, List, [], ◌∷◌, ◌++◌, below_more, arith, ap, ◌∙◌, refl}
use Rattle.std.proofs.lemmas.List.{length_push, get_or_push, get_or_append_left}
use Rattle.qp_model.specs.problem.Runs.{Holds}

-- no entries yet
pub no_entries : (xs : List ℤ) (f : ℕ → ℤ) → xs ≡ [] → Holds xs 0 f
no_entries xs f e = rw e (record { long = refl; is = λ k l. absurd (omega arith) })

-- one more entry
pub pushed : (out new : List ℤ) (x : ℤ) (i : ℕ) (f : ℕ → ℤ) → new ≡ out ++ x ∷ [] → x ≡ f i → Holds out i f → Holds new (i + 1) f
pushed out new x i f e h p = rw e (record {
  long = length_push out x ∙ ap (λ n. n + 1) p.long;
  is = below_more _ _ (λ k l. get_or_append_left out (x ∷ []) (pos 0) k (omega (arith, p.long)) ∙ p.is k l) (get_or_push out x (pos 0) i p.long ∙ h);
})

-- the same list, for an equal length and an equal function
pub holds_to : (xs : List ℤ) (n m : ℕ) (f g : ℕ → ℤ) → Holds xs n f → n ≡ m → ((i : ℕ) → i < m → f i ≡ g i) → Holds xs m g
holds_to xs n m f g h e k = record { long = h.long ∙ e; is = λ i l. h.is i (rw e l) ∙ k i l }
