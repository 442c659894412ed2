-- The keys of a table among names.
use Rattle.std.proofs.Common.{◌≡◌, ℕ, zero, suc, ◌<◌, List, [], ◌∷◌, length, get_or, map, Bool, true, Bor, refl, inl, inr, String, string_bytes, All, Decides, arith}
use Rattle.std.specs.Prelude.{Contains}
use Rattle.std.specs.List.{list_any, list_all}
use Rattle.std.specs.Str.{bytes_eq}
use Rattle.std.specs.declared.alloc.Global.{Global}
use Rattle.std.proofs.lemmas.Bool.{false≢true, or_cases, or_left, or_right, and_parts, and_from}
use Rattle.std.proofs.lemmas.Slice.Eq.{bytes_eq-Decides}
use Rattle.toml.specs.View.{members_view}
use Rattle.toml.specs.declared.value.Value.{Value}
use Rattle.design_files.specs.Values.{keys_of, HasOnly}

abbrev pub shown : List (Bor (List ℕ)) → List (List ℕ)
shown = map (λ name. name.now)

abbrev pub is_name : List (Bor (List ℕ)) → List ℕ → Bool
is_name names key = list_any (λ name. bytes_eq name.now key) names

name_found : (names : List (Bor (List ℕ))) (key : List ℕ) → is_name names key ≡ true → Contains (shown names) key
name_found [] key e = absurd (false≢true e)
name_found (name ∷ names) key e =
    elim (or_cases (bytes_eq name.now key) (is_name names key) e) [
      | inl here ↦ (0, omega arith, (bytes_eq-Decides name.now key).0 here)
      | inr later ↦ let found = name_found names key later in (suc found.0, omega (arith, found.1), found.2)
    ]

name_known : (names : List (Bor (List ℕ))) (key : List ℕ) (i : ℕ) → i < length (shown names) → get_or (shown names) i key ≡ key → is_name names key ≡ true
name_known [] key i inside is = absurd (omega arith)
name_known (name ∷ names) key zero inside is = or_left (bytes_eq name.now key) (is_name names key) ((bytes_eq-Decides name.now key).1 is)
name_known (name ∷ names) key (suc i) inside is = or_right (bytes_eq name.now key) (is_name names key) (name_known names key i (omega arith) is)

abbrev pub Entries : Type 0
Entries = List (String Global × Value)

all_cons : (names : List (Bor (List ℕ))) (key : List ℕ) (keys : List (List ℕ)) → Contains (shown names) key → All (Contains (shown names)) keys → All (Contains (shown names)) (key ∷ keys)
all_cons names key keys here others zero d h = here
all_cons names key keys here others (suc k) d h = others k d (omega arith)

only_names : (names : List (Bor (List ℕ))) (es : Entries) → list_all (λ key. is_name names (string_bytes key)) (map (λ e. e.0) es) ≡ true → HasOnly (shown names) (members_view es)
only_names names [] e = λ k d h. absurd (omega arith)
only_names names (entry ∷ es) e =
    let (here, others) = and_parts (is_name names (string_bytes entry.0)) (list_all (λ key. is_name names (string_bytes key)) (map (λ e. e.0) es)) e in
    let more = only_names names es others in
    let first = name_found names (string_bytes entry.0) here in
    all_cons names (string_bytes entry.0) (keys_of (members_view es)) first more

no_other : (names : List (Bor (List ℕ))) (es : Entries) → HasOnly (shown names) (members_view es) → list_all (λ key. is_name names (string_bytes key)) (map (λ e. e.0) es) ≡ true
no_other names [] only = refl
no_other names (entry ∷ es) only =
    let here = only 0 [] (omega arith) in
    and_from (is_name names (string_bytes entry.0)) _ (name_known names (string_bytes entry.0) here.0 here.1 here.2) (no_other names es (λ k d h. only (suc k) d (omega arith)))

pub only_decides : (names : List (Bor (List ℕ))) (es : Entries) → Decides (list_all (λ key. is_name names (string_bytes key)) (map (λ e. e.0) es)) (HasOnly (shown names) (members_view es))
only_decides names es = (only_names names es, no_other names es)
