-- Lines with which a text begins.
use Rattle.std.proofs.Common.{◌≡◌, ℕ, ◌<◌, ◌^◌, ◌-◌, List, [], ◌∷◌, ◌++◌, length, take, drop, refl, sym, subst, ◌∙◌, append_assoc, arith}
use Rattle.std.specs.Prelude.{All}
use Rattle.std.proofs.lemmas.List.{append-nil, get_or_at, get_or_append_left, length-append, take-append-drop}
use Rattle.text_lines.specs.Lines.{Keyed, IsKeyedLine}
use Rattle.text_lines.specs.Grammar.{IsBeginning, IsGrammar}

-- one line more
pub grown : (W : List Keyed → Type 0) (ls : List Keyed) (l : Keyed) (more whole : List Keyed) → W whole → whole ≡ ls ++ (l ∷ more) → IsBeginning W (ls ++ l ∷ [])
grown W ls l more whole w e = record { more = more; whole = subst W (e ∙ sym (append_assoc ls (l ∷ []) more)) w }

-- fewer lines
abbrev pub fewer : (W : List Keyed → Type 0) (ls ms : List Keyed) → IsBeginning W (ls ++ ms) → IsBeginning W ls
fewer W ls ms b = record { more = ms ++ b.more; whole = subst W (append_assoc ls ms b.more) b.whole }

pub shorter : (W : List Keyed → Type 0) (k : ℕ) (ls : List Keyed) → IsBeginning W ls → IsBeginning W (take k ls)
shorter W k ls b = fewer W (take k ls) (drop k ls) (subst (IsBeginning W) (sym (take-append-drop k ls)) b)

-- a text and its first lines
pub begins : (W : List Keyed → Type 0) (k : ℕ) (ls : List Keyed) → W ls → IsBeginning W (take k ls)
begins W k ls w = record { more = drop k ls; whole = subst W (sym (take-append-drop k ls)) w }

-- all of them
pub begun : (W : List Keyed → Type 0) (ls : List Keyed) → W ls → IsBeginning W ls
begun W ls w = record { more = []; whole = subst W (sym (append-nil ls)) w }

-- each of them can be read
pub lines_good : (W : List Keyed → Type 0) → IsGrammar W → (ls : List Keyed) → IsBeginning W ls → All IsKeyedLine ls
lines_good W g ls b k d lt = subst IsKeyedLine (get_or_append_left ls b.more d k lt) (g.each (ls ++ b.more) b.whole k d (omega (arith, lt, length-append ls b.more)))

-- the line at the end can be read
pub last_good : (W : List Keyed → Type 0) → IsGrammar W → (ls : List Keyed) (l : Keyed) → IsBeginning W (ls ++ l ∷ []) → IsKeyedLine l
last_good W g ls l b = subst IsKeyedLine (get_or_at ls l [] l (length ls) refl) (lines_good W g (ls ++ l ∷ []) b (length ls) l (omega (arith, length-append ls (l ∷ []))))

-- there are few
pub few_right : (W : List Keyed → Type 0) → IsGrammar W → (ls : List Keyed) → IsBeginning W ls → length ls < 2 ^ 32 - 1
few_right W g ls b = omega (arith, g.few (ls ++ b.more) b.whole, length-append ls b.more)
