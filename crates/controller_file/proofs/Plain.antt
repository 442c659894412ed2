-- Texts of version 1 or 2 are those of any version whose first line says so.
use Rattle.std.proofs.Common.{◌≡◌, pos, List, [], ◌∷◌, ◌++◌, ap, arith}
use Rattle.std.specs.Prelude.{◌↔◌}
use Rattle.std.proofs.lemmas.Int.{ints}
use Rattle.integer_algebra.specs.Sums.{at}
use Rattle.text_lines.specs.Lines.{Keyed, line_in}
use Rattle.text_lines.specs.Grammar.{IsBeginning}
use Rattle.controller_text.proofs.Forms.{plain_form, plain_back}
use Rattle.controller_file.specs.Following.{IsWhole, IsAnyWhole, IsPlain}

pub any_whole : (ls : List Keyed) → IsWhole ls → IsAnyWhole ls
any_whole ls w = record { numbers = w.numbers; form = plain_form w.numbers w.form; word = w.word; lines = w.lines }

pub whole_is_plain : (ls : List Keyed) → IsWhole ls → IsPlain ls
whole_is_plain ls w =
    let first : pos w.numbers.version ≡ at (line_in ls 0) 0 = ap (λ (ms : List Keyed). at (line_in ms 0) 0) w.lines in
    omega (arith, ints, first, w.form.sized.version.1)

pub plain_whole : (ls : List Keyed) → IsAnyWhole ls → IsPlain ls → IsWhole ls
plain_whole ls w plain =
    let first : pos w.numbers.version ≡ at (line_in ls 0) 0 = ap (λ (ms : List Keyed). at (line_in ms 0) 0) w.lines in
    record { numbers = w.numbers; form = plain_back w.numbers w.form (omega (arith, ints, first, plain)); word = w.word; lines = w.lines }

-- ---- first lines
pub any_begins : (ls : List Keyed) → IsBeginning IsWhole ls → IsBeginning IsAnyWhole ls
any_begins ls b = record { more = b.more; whole = any_whole (ls ++ b.more) b.whole }

pub begins_plain : (ls : List Keyed) → IsBeginning IsWhole ls → IsPlain ls
begins_plain [] b = omega (arith, ints)
begins_plain (l ∷ ls) b = whole_is_plain (l ∷ (ls ++ b.more)) b.whole

-- where there is a line
pub plain_begins : (ls : List Keyed) (l : Keyed) → IsBeginning IsAnyWhole (ls ++ l ∷ []) → IsPlain (ls ++ l ∷ []) → IsBeginning IsWhole (ls ++ l ∷ [])
plain_begins [] l b plain = record { more = b.more; whole = plain_whole (l ∷ b.more) b.whole plain }
plain_begins (k ∷ ls) l b plain = record { more = b.more; whole = plain_whole (k ∷ ((ls ++ l ∷ []) ++ b.more)) b.whole plain }

pub plain_follows : (ls : List Keyed) (l : Keyed) → IsBeginning IsWhole (ls ++ l ∷ []) ↔ (IsBeginning IsAnyWhole (ls ++ l ∷ []) × IsPlain (ls ++ l ∷ []))
plain_follows ls l = (λ b. (any_begins (ls ++ l ∷ []) b, begins_plain (ls ++ l ∷ []) b), λ both. plain_begins ls l both.0 both.1)
