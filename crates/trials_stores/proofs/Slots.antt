-- What a store in memory shows under a name stands in its map.
use Rattle.std.proofs.Common.{◌≡◌, ℕ, List, [], ◌∷◌, String, BTreeMap, refl, map, string_bytes}
use Rattle.std.specs.BTreeMap.{get_by_text, is_at}
use Rattle.std.specs.Map.{lookup}
use Rattle.std.specs.Str.{bytes_eq}
use Rattle.std.specs.Ordering.{nat_cmp}
use Rattle.std.specs.Cmp.Lexicographic.{slice_cmp}
use Rattle.std.proofs.lemmas.Map.Text.{is_eq-slice_cmp}
use Rattle.trials_stores.specs.Slot.{Slot}

in_entries : {Y : Type 0} (name : List ℕ) (es : List (String Y × Slot)) →
    lookup (bytes_eq name) (map (λ e. (string_bytes e.0, e.1)) es) ≡ lookup (is_at (λ k. slice_cmp nat_cmp name (string_bytes k))) es
in_entries name [] = refl
in_entries name (e ∷ es) = rw (is_eq-slice_cmp name (string_bytes e.0), in_entries name es) refl

pub slot_seen : {Y : Type 0} (name : List ℕ) (m : BTreeMap (String Y) Slot) → lookup (bytes_eq name) (map (λ e. (string_bytes e.0, e.1)) m.entries) ≡ get_by_text m name
slot_seen name m = in_entries name m.entries
