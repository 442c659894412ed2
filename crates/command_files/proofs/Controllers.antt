-- What a reader of controllers says of the bytes, both ways.
use Rattle.std.proofs.Common.{◌≡◌, ◌⊎◌, inl, inr, ℕ, List, Result, Ok, Err, refl}
use Rattle.std.specs.Prelude.{IfOk, IfErr, MatchResult}
use Rattle.controller_text.specs.declared.bad_controller.BadController.{BadController}
use Rattle.controller_text.specs.declared.bad_controller.BadController.TheVariants.{Line, Unsafe, Memory}
use Rattle.command_line.specs.Kind.{whole_kind}
use Rattle.command_line.specs.declared.status.Status.TheVariants.{Controller}
use Rattle.command_files.specs.Texts.{IsFaultBy, ControllersWrong}
use Rattle.command_design_files.proofs.Readers.{IsToldIn, IsJudged, ok_never}

pub controllers_told : {X : Type 0} {limit : ℕ} {Right : X → List ℕ → Type 0} {IsBad : List ℕ → ℕ → Type 0} {IsWide : List ℕ → Type 0} →
    IsToldIn (whole_kind limit Right (ControllersWrong IsBad IsWide)) Memory Controller (IsFaultBy IsBad IsWide)
controllers_told = record { says = λ file bytes fault some is. (fault, is, refl); said = λ file bytes s why. why }

-- an error that is the first, or out of memory
same : {T : Type 0} (p : Result T BadController) (other : BadController) → (p ≡ Err other) ⊎ (p ≡ Err Memory) → MatchResult p (λ x. ⊥) (λ e. (e ≡ other) ⊎ (e ≡ Memory))
same (Ok x) other is = ok_never x other Memory is
same (Err e) other (inl is) = inl cc
same (Err e) other (inr is) = inr cc

module _ {T : Type 0} (IsBad : List ℕ → ℕ → Type 0) (IsWide : List ℕ → Type 0) (bytes : List ℕ) (p : Result T BadController) where
  -- the fault is that of the bytes
  its_fault : (r : Result T BadController) → ((l : ℕ) → r ≡ Err (Line l) → IsBad bytes l) → (r ≡ Err Unsafe → IsWide bytes) → IfErr r (λ e. (e ≡ Memory) ⊎ IsFaultBy IsBad IsWide bytes e)
  its_fault (Ok x) line wide = tt
  its_fault (Err (Line l)) line wide = inr (line l refl)
  its_fault (Err Unsafe) line wide = inr (wide refl)
  its_fault (Err Memory) line wide = inl refl

  -- and the only one
  first_fault : ((l : ℕ) → IsBad bytes l → (p ≡ Err (Line l)) ⊎ (p ≡ Err Memory)) → (IsWide bytes → (p ≡ Err Unsafe) ⊎ (p ≡ Err Memory)) → (other : BadController) → IsFaultBy IsBad IsWide bytes other →
      MatchResult p (λ x. ⊥) (λ e. (e ≡ other) ⊎ (e ≡ Memory))
  first_fault line wide (Line l) is = same p (Line l) (line l is)
  first_fault line wide Unsafe is = same p Unsafe (wide is)
  first_fault line wide Memory is = absurd is

pub controllers_judged : {T X : Type 0} {limit : ℕ} {Right : X → List ℕ → Type 0} {seen : T → X} {IsBad : List ℕ → ℕ → Type 0} {IsWide : List ℕ → Type 0} (bytes : List ℕ) (p : Result T BadController) →
    IfOk p (λ x. Right (seen x) bytes) → ((l : ℕ) → p ≡ Err (Line l) → IsBad bytes l) → (p ≡ Err Unsafe → IsWide bytes) → ((y : X) → Right y bytes → MatchResult p (λ x. seen x ≡ y) (λ e. e ≡ Memory)) →
    ((l : ℕ) → IsBad bytes l → (p ≡ Err (Line l)) ⊎ (p ≡ Err Memory)) → (IsWide bytes → (p ≡ Err Unsafe) ⊎ (p ≡ Err Memory)) →
    IsJudged (whole_kind limit Right (ControllersWrong IsBad IsWide)) (IsFaultBy IsBad IsWide) Memory seen bytes p
controllers_judged {T} {X} {limit} {Right} {seen} {IsBad} {IsWide} bytes p found line wide right bad_first bad_sums =
    record { found = found; fault = its_fault IsBad IsWide bytes p p line wide; right = right; first = first_fault IsBad IsWide bytes p bad_first bad_sums }
