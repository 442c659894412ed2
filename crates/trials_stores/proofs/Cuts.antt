-- A write that failed left what was there, or a proper prefix of the bytes.
use Rattle.std.proofs.Common.{◌≡◌, ◌⊎◌, ◌↔◌, ℕ, min, List, [], ◌∷◌, length, take, drop, Option, Some, None, Result, Ok, Err, IsOk, OnErr, IsSomeAnd, inl, inr, refl, sym, arith}
use Rattle.std.proofs.lemmas.Bool.{cases_lt, lt-ltb, le-ltb}
use Rattle.std.proofs.lemmas.List.{take-append-drop, length-drop}
use Rattle.io_edge.specs.Faults.{IsProperPrefix}
use Rattle.trials_stores.specs.Memory.{after_write, after_fit, HasRoom}

front : (b : ℕ) (bytes : List ℕ) (keep : ℕ) → IsProperPrefix (b ∷ bytes) (take (min keep (length bytes)) (b ∷ bytes))
front b bytes keep = record {
  rest = drop (min keep (length bytes)) (b ∷ bytes);
  is = sym (take-append-drop (min keep (length bytes)) (b ∷ bytes));
  proper = rw (length-drop (min keep (length bytes)) (b ∷ bytes)) (omega arith);
}

fit_cut : (old : Option (List ℕ)) (bytes : List ℕ) (keep : Option ℕ) → (keep ≡ None → ⊥) → (after_fit old bytes keep ≡ old) ⊎ IsSomeAnd (after_fit old bytes keep) (IsProperPrefix bytes)
fit_cut old bytes None h = absurd (h refl)
fit_cut old [] (Some keep) h = inl refl
fit_cut old (b ∷ bytes) (Some keep) h = inr (front b bytes keep)

pub write_cut : (old : Option (List ℕ)) (room : Option ℕ) (bytes : List ℕ) (keep : Option ℕ) → (HasRoom room (length bytes) × (keep ≡ None) → ⊥) →
    (after_write old room bytes keep ≡ old) ⊎ IsSomeAnd (after_write old room bytes keep) (IsProperPrefix bytes)
write_cut old None bytes keep h = inl refl
write_cut old (Some room) bytes keep h = elim (cases_lt room (length bytes)) [
  | inl less ↦ rw (lt-ltb room (length bytes) less) (inl refl)
  | inr fits ↦ rw (le-ltb room (length bytes) fits) (fit_cut old bytes keep (λ e. h (fits, e)))
]

pub on_err_from : {E : Type 0} {P Q : Type 0} (r : Result (Unit {0}) E) → (IsOk r ↔ Q) → ((Q → ⊥) → P) → OnErr r P
on_err_from (Ok x) both h = tt
on_err_from (Err e) both h = h (λ q. let t = both.1 q in cc)
