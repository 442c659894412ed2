-- Lists one after the other.
use Rattle.std.proofs.Common.{◌≡◌, ℕ, ◌+◌, ◌<◌, List, [], ◌∷◌, ◌++◌, length, take, drop, get_or, map, refl, sym, ap, ◌∙◌, append_assoc}
use Rattle.std.specs.List.{AllByRecursion}
use Rattle.std.proofs.lemmas.List.{map-append, take_at, drop_at, take_more}
use Rattle.text_lines.specs.Blocks.{chained}

pub all_append : {X : Type 0} (P : X → Type 0) (xs ys : List X) → AllByRecursion P xs → AllByRecursion P ys → AllByRecursion P (xs ++ ys)
all_append P [] ys h k = k
all_append P (x ∷ xs) ys h k = (h.0, all_append P xs ys h.1 k)

pub all_parts : {X : Type 0} (P : X → Type 0) (xs ys : List X) → AllByRecursion P (xs ++ ys) → AllByRecursion P xs × AllByRecursion P ys
all_parts P [] ys h = (tt, h)
all_parts P (x ∷ xs) ys h = let rest = all_parts P xs ys h.1 in ((h.0, rest.0), rest.1)

pub all_chained : {X : Type 0} (P : X → Type 0) (xss : List (List X)) → AllByRecursion (AllByRecursion P) xss → AllByRecursion P (chained xss)
all_chained P [] h = tt
all_chained P (xs ∷ xss) h = all_append P xs (chained xss) h.0 (all_chained P xss h.1)

pub all_blocks : {X : Type 0} (P : X → Type 0) (xss : List (List X)) → AllByRecursion P (chained xss) → AllByRecursion (AllByRecursion P) xss
all_blocks P [] h = tt
all_blocks P (xs ∷ xss) h = let parts = all_parts P xs (chained xss) h in (parts.0, all_blocks P xss parts.1)

pub map_chained : {X Y : Type 0} (f : X → Y) (xss : List (List X)) → map f (chained xss) ≡ chained (map (map f) xss)
map_chained f [] = refl
map_chained f (xs ∷ xss) = map-append f xs (chained xss) ∙ ap (λ ys. map f xs ++ ys) (map_chained f xss)

-- lists that are as long are the same
pub one_chain : {X : Type 0} (xss yss : List (List X)) → map length xss ≡ map length yss → chained xss ≡ chained yss → xss ≡ yss
one_chain [] [] long e = refl
one_chain [] (ys ∷ yss) long e = absurd cc
one_chain (xs ∷ xss) [] long e = absurd cc
one_chain (xs ∷ xss) (ys ∷ yss) long e =
    let same : length xs ≡ length ys = ap (λ (ns : List ℕ). get_or ns 0 0) long in
    let first : xs ≡ ys = sym (take_at xs (chained xss) (length ys) same) ∙ ap (take (length ys)) e ∙ take_at ys (chained yss) (length ys) refl in
    let rest : chained xss ≡ chained yss = sym (drop_at xs (chained xss) (length ys) same) ∙ ap (drop (length ys)) e ∙ drop_at ys (chained yss) (length ys) refl in
    let others = one_chain xss yss (ap (drop 1) long) rest in
    (λ i. first i ∷ others i)

-- the lists up to an index, and the one at it
pub chain_more : {X : Type 0} (xss : List (List X)) (i : ℕ) → i < length xss → chained (take (i + 1) xss) ≡ chained (take i xss) ++ get_or xss i []
chain_more xss i lt = ap chained (take_more xss i [] lt) ∙ push (take i xss) (get_or xss i [])
  where
    push : {X : Type 0} (xss : List (List X)) (xs : List X) → chained (xss ++ xs ∷ []) ≡ chained xss ++ xs
    push [] [] = refl
    push [] (x ∷ xs) = ap (λ ys. x ∷ ys) (push [] xs)
    push (ys ∷ xss) xs = ap (λ zs. ys ++ zs) (push xss xs) ∙ sym (append_assoc ys (chained xss) xs)
