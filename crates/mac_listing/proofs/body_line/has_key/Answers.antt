use Rattle.std.proofs.Common.{◌≡◌, ◌∙◌, ℕ, List, [], ◌∷◌, Bool, eqb, refl, ap}
use Rattle.std.specs.Prelude.{◌&&◌}
use Rattle.std.specs.Cmp.Lexicographic.{pointwise}
use Rattle.mac_listing.specs.Reading.{same_bytes}
use Rattle.mac_listing.proofs.body_line.has_key.Goals as goal

same : (xs ys : List ℕ) → pointwise eqb xs ys ≡ same_bytes xs ys
same [] [] = refl
same [] (y ∷ ys) = refl
same (x ∷ xs) [] = refl
same (x ∷ xs) (y ∷ ys) = ap (λ (b : Bool). eqb x y && b) (same xs ys)

pub returns : goal.returns
returns c = c.eq.ensures ∙ same c.args.line.now.key.now c.as_bytes.result.now ∙ ap (same_bytes c.args.line.now.key.now) c.as_bytes.ensures.value
