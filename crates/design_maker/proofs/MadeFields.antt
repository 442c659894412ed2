-- The fields of a made policy and of made states, as numbers.
use Rattle.std.proofs.Common.{ℕ, ◌-◌, ◌^◌, ◌≤◌, true, false, pos, neg_ℤ, List, [], ◌∷◌, length, codes, refl, sym, arith, lit≤, append-nil}
use Rattle.std.specs.Prelude.{All}
use Rattle.std.specs.Str.Parse.{AllDigits, digits_value}
use Rattle.policy_file.specs.NumberField.{IsSpace, IsDigitsField, IsNumberField}

no_spaces : All IsSpace []
no_spaces k d l = absurd (omega arith)

digits_field : (ds : List ℕ) → AllDigits 10 ds → 1 ≤ length ds → length ds ≤ 19 → digits_value 10 ds ≤ 2 ^ 63 - 1 → IsDigitsField ds (digits_value 10 ds)
digits_field ds each some few small = record { digits = ds; after = []; split = sym (append-nil ds); spaces = no_spaces; some = some; few = few; each = each; value = refl; small = small }

pub plain_field : (ds : List ℕ) → AllDigits 10 ds → 1 ≤ length ds → length ds ≤ 19 → digits_value 10 ds ≤ 2 ^ 63 - 1 → IsNumberField ds (pos (digits_value 10 ds))
plain_field ds each some few small = record { before = []; minus = false; text = ds; size = digits_value 10 ds; split = refl; spaces = no_spaces; digits = digits_field ds each some few small; value = refl }

pub minus_field : (ds : List ℕ) → AllDigits 10 ds → 1 ≤ length ds → length ds ≤ 19 → digits_value 10 ds ≤ 2 ^ 63 - 1 → IsNumberField (45 ∷ ds) (neg_ℤ (pos (digits_value 10 ds)))
minus_field ds each some few small = record { before = []; minus = true; text = ds; size = digits_value 10 ds; split = refl; spaces = no_spaces; digits = digits_field ds each some few small; value = refl }

pub zero_field : IsNumberField (codes "0") (pos 0)
zero_field = plain_field (codes "0") (omega arith, tt) (lit≤ tt) (lit≤ tt) (omega arith)

pub one_field : IsNumberField (codes "1") (pos 1)
one_field = plain_field (codes "1") (omega arith, tt) (lit≤ tt) (lit≤ tt) (omega arith)

pub high_field : IsNumberField (codes "16") (pos 16)
high_field = plain_field (codes "16") (omega arith, (omega arith, tt)) (lit≤ tt) (lit≤ tt) (omega arith)

pub low_field : IsNumberField (codes "-16") (neg_ℤ (pos 16))
low_field = minus_field (codes "16") (omega arith, (omega arith, tt)) (lit≤ tt) (lit≤ tt) (omega arith)
