-- Lists copied and filled one item after the other.
use Rattle.std.proofs.Common.{◌≡◌, ℕ, ◌+◌, ◌<◌, ℤ, pos, List, [], ◌∷◌, ◌++◌, length, take, set, get_or, ap, sym, ◌∙◌}
use Rattle.std.proofs.lemmas.List.{take_more}
use Rattle.std.proofs.lemmas.List.Edits.{fill_by_more}

-- an item is pushed behind the first `i` of a list, and is the next
pub copied_more : {X : Type 0} (xs ys zs : List X) (i : ℕ) (d z : X) → i < length zs → xs ≡ take i zs → ys ≡ xs ++ z ∷ [] → z ≡ get_or zs i d → ys ≡ take (i + 1) zs
copied_more xs ys zs i d z lt before pushed same =
    pushed ∙ ap (λ (us : List _). us ++ z ∷ []) before ∙ ap (λ (u : _). take i zs ++ u ∷ []) same ∙ sym (take_more zs i d lt)

-- a number is written behind the first `i`, which are those of `f`, and is the next
pub filled_more : (f : ℕ → ℤ) (xs : List ℤ) (i : ℕ) (z : ℤ) → i < length xs → z ≡ f i → ((k : ℕ) → k < i → get_or xs k (pos 0) ≡ f k) → (k : ℕ) → k < i + 1 → get_or (set xs i z) k (pos 0) ≡ f k
filled_more f xs i z lt same h = rw same (fill_by_more f xs i (pos 0) lt h)
