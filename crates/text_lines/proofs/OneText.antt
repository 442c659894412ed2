-- A text has one list of lines, and no text goes on where another ends.
use Rattle.std.proofs.Common.{◌≡◌, ℕ, suc, ◌^◌, ◌<◌, ◌≤◌, ℤ, pos, negsuc, List, [], ◌∷◌, ◌++◌, length, get_or, take, drop, map, eqb, FitsSigned, refl, sym, ap, subst, ◌∙◌, append_assoc, arith}
use Rattle.std.specs.Prelude.{All}
use Rattle.std.specs.Int.{w128}
use Rattle.std.specs.List.{slice_split, join_with_byte}
use Rattle.std.specs.Fmt.{decimal, signed_decimal}
use Rattle.std.specs.Str.Parse.{digits_value}
use Rattle.std.proofs.lemmas.Fmt.{decimal_is_IsNumeral_wide}
use Rattle.std.proofs.lemmas.Str.Parse.{digit_at}
use Rattle.std.proofs.lemmas.List.{append-nil, take_at, take-map, take-append-le, take-append-drop, drop_at, length-append, length-map, length-take-le, get_or-take, same_from_push}
use Rattle.std.proofs.lemmas.List.Splits.{slice_split_at, join_with_byte-slice_split}
use Rattle.number_text.specs.Lines.{text_of}
use Rattle.number_text.proofs.Pieces.{ArePieces, split_text}
use Rattle.text_lines.specs.Lines.{Keyed, IsKeyedLine, spelled}
use Rattle.text_lines.proofs.Cuts.{line_cut, cut_some, line_pieces}

-- ---- numbers

-- a digit is no minus
no_minus : (n : ℕ) (ds : List ℕ) → n < 10 ^ 64 → decimal n ≡ 45 ∷ ds → ⊥
no_minus n ds small e =
    let k = decimal_is_IsNumeral_wide n small in
    let range = digit_at (decimal n) 0 k.0.1 k.0.0 in
    omega (arith, ap (λ (l : List ℕ). get_or l 0 0) e)

one_decimal : (m n : ℕ) → m < 10 ^ 64 → n < 10 ^ 64 → decimal m ≡ decimal n → m ≡ n
one_decimal m n f g e = sym (decimal_is_IsNumeral_wide m f).1 ∙ ap (digits_value 10) e ∙ (decimal_is_IsNumeral_wide n g).1

pub one_number : (y z : ℤ) → FitsSigned w128 y → FitsSigned w128 z → signed_decimal y ≡ signed_decimal z → y ≡ z
one_number (pos m) (pos n) f g e = ap pos (one_decimal m n (omega (arith, f.sfits)) (omega (arith, g.sfits)) e)
one_number (pos m) (negsuc n) f g e = absurd (no_minus m (decimal (suc n)) (omega (arith, f.sfits)) e)
one_number (negsuc m) (pos n) f g e = absurd (no_minus n (decimal (suc m)) (omega (arith, g.sfits)) (sym e))
one_number (negsuc m) (negsuc n) f g e =
    let same : decimal (suc m) ≡ decimal (suc n) = ap (drop 1) e in
    let sizes : suc m ≡ suc n = one_decimal (suc m) (suc n) (omega (arith, f.sfits)) (omega (arith, g.sfits)) same in
    ap negsuc (omega (arith, sizes))

pub one_list : (ys zs : List ℤ) → All (FitsSigned w128) ys → All (FitsSigned w128) zs → map signed_decimal ys ≡ map signed_decimal zs → ys ≡ zs
one_list [] [] f g e = refl
one_list [] (z ∷ zs) f g e = absurd cc
one_list (y ∷ ys) [] f g e = absurd cc
one_list (y ∷ ys) (z ∷ zs) f g e =
    let first = one_number y z (f 0 y (omega arith)) (g 0 z (omega arith)) (ap (λ (l : List (List ℕ)). get_or l 0 []) e) in
    let rest = one_list ys zs (λ k d lt. f (suc k) d (omega arith)) (λ k d lt. g (suc k) d (omega arith)) (ap (drop 1) e) in
    (λ i. first i ∷ rest i)

-- ---- lines

pub one_line : (k l : Keyed) → IsKeyedLine k → IsKeyedLine l → spelled k ≡ spelled l → k ≡ l
one_line k l f g e =
    let words : k.key ∷ map signed_decimal k.numbers ≡ l.key ∷ map signed_decimal l.numbers = sym (line_cut (spelled k) k f refl) ∙ line_cut (spelled k) l g e in
    let key : k.key ≡ l.key = cc words in
    let spelling : map signed_decimal k.numbers ≡ map signed_decimal l.numbers = cc words in
    let numbers = one_list k.numbers l.numbers f.fits g.fits spelling in
    (λ i. record { key = key i; numbers = numbers i })

pub one_lines : (ks ls : List Keyed) → All IsKeyedLine ks → All IsKeyedLine ls → map spelled ks ≡ map spelled ls → ks ≡ ls
one_lines [] [] f g e = refl
one_lines [] (l ∷ ls) f g e = absurd cc
one_lines (k ∷ ks) [] f g e = absurd cc
one_lines (k ∷ ks) (l ∷ ls) f g e =
    let first = one_line k l (f 0 k (omega arith)) (g 0 l (omega arith)) (ap (λ (t : List (List ℕ)). get_or t 0 []) e) in
    let rest = one_lines ks ls (λ j d lt. f (suc j) d (omega arith)) (λ j d lt. g (suc j) d (omega arith)) (ap (drop 1) e) in
    (λ i. first i ∷ rest i)

-- the pieces of a text of lines that goes on
pub split_more : (ls : List (List ℕ)) (more : List ℕ) → ArePieces 10 ls → slice_split (λ b. eqb b 10) (text_of ls ++ more) ≡ ls ++ slice_split (λ b. eqb b 10) more
split_more [] more h = refl
split_more (l ∷ ls) more h =
    let regrouped : text_of (l ∷ ls) ++ more ≡ l ++ 10 ∷ (text_of ls ++ more) = append_assoc (l ++ 10 ∷ []) (text_of ls) more ∙ append_assoc l (10 ∷ []) (text_of ls ++ more) in
    ap (slice_split (λ b. eqb b 10)) regrouped ∙ slice_split_at (λ b. eqb b 10) l 10 (text_of ls ++ more) h.0 refl ∙ ap (λ (r : List (List ℕ)). l ∷ r) (split_more ls more h.1)

-- ---- texts

-- lines one after the other
pub text_append : (xs ys : List (List ℕ)) → text_of (xs ++ ys) ≡ text_of xs ++ text_of ys
text_append [] ys = refl
text_append (x ∷ xs) ys = ap (λ (t : List ℕ). x ++ 10 ∷ [] ++ t) (text_append xs ys) ∙ sym (append_assoc (x ++ 10 ∷ []) (text_of xs) (text_of ys))

-- a text has one list of lines
pub one_text : (ks ls : List Keyed) → All IsKeyedLine ks → All IsKeyedLine ls → text_of (map spelled ks) ≡ text_of (map spelled ls) → ks ≡ ls
one_text ks ls f g e =
    let cut = sym (split_text (map spelled ks) (line_pieces ks f)) ∙ ap (slice_split (λ b. eqb b 10)) e ∙ split_text (map spelled ls) (line_pieces ls g) in
    one_lines ks ls f g (same_from_push (map spelled ks) (map spelled ls) [] [] cut).0

-- a text doesn't go on where no lines go on where its lines end
pub no_prefix_of : (ks ls : List Keyed) (more : List ℕ) → All IsKeyedLine ks → All IsKeyedLine ls → text_of (map spelled ks) ++ more ≡ text_of (map spelled ls) →
    ((rest : List Keyed) → ls ≡ ks ++ rest → rest ≡ []) → more ≡ []
no_prefix_of ks ls more f g e none =
    let n = length ks in
    let pieces = slice_split (λ b. eqb b 10) more in
    let cut : map spelled ks ++ pieces ≡ map spelled ls ++ [] ∷ [] =
    sym (split_more (map spelled ks) more (line_pieces ks f)) ∙ ap (slice_split (λ b. eqb b 10)) e ∙ split_text (map spelled ls) (line_pieces ls g) in
    let within : n ≤ length ls =
    omega (arith, ap length cut, length-append (map spelled ks) pieces, length-append (map spelled ls) ([] ∷ []), length-map ks spelled, length-map ls spelled, cut_some 10 more) in
    let front : map spelled ks ≡ map spelled (take n ls) =
    sym (take_at (map spelled ks) pieces n (length-map ks spelled)) ∙ ap (take n) cut ∙ take-append-le n (map spelled ls) ([] ∷ []) (omega (arith, within, length-map ls spelled)) ∙ take-map spelled n ls in
    let first : All IsKeyedLine (take n ls) = λ k d lt. subst IsKeyedLine (sym (get_or-take n ls k d (omega (arith, lt, length-take-le n ls within)))) (g k d (omega (arith, lt, length-take-le n ls within, within))) in
    let same : ks ≡ take n ls = one_lines ks (take n ls) f first front in
    let rest : drop n ls ≡ [] = none (drop n ls) (sym (take-append-drop n ls) ∙ ap (λ (ms : List Keyed). ms ++ drop n ls) (sym same)) in
    let whole : ls ≡ ks = sym (take-append-drop n ls) ∙ (λ i. sym same i ++ rest i) ∙ append-nil ks in
    let last : pieces ≡ [] ∷ [] =
    sym (drop_at (map spelled ks) pieces n (length-map ks spelled)) ∙ ap (drop n) (cut ∙ ap (λ (ms : List Keyed). map spelled ms ++ [] ∷ []) whole) ∙ drop_at (map spelled ks) ([] ∷ []) n (length-map ks spelled) in
    sym (join_with_byte-slice_split 10 more) ∙ ap (join_with_byte 10) last
