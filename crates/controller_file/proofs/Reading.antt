-- What a reader answers of bytes, by the numbers that its grammar finds in them.
use Rattle.std.proofs.Common.{◌≡◌, inl, inr, ℕ, suc, ◌<◌, ◌≤◌, List, Result, Ok, Err, refl, sym, ap, subst, arith}
use Rattle.std.specs.Prelude.{◌⊎◌, MatchResult, IfOk, IfErr}
use Rattle.std.proofs.Math.Nat.{lt_of_not-le}
use Rattle.qp_model.specs.machine.Controller.{Numbers}
use Rattle.text_lines.specs.FirstLine.{IsBadLineOf}
use Rattle.text_lines.proofs.FirstLines.{bad_line_so}
use Rattle.controller_text.specs.TextForm.{IsTextForm}
use Rattle.controller_text.specs.declared.bad_controller.BadController.{BadController}
use Rattle.controller_text.specs.declared.bad_controller.BadController.TheVariants.{Memory, Line, Unsafe}
use Rattle.controller_file.specs.Following.{IsWholeOf}
use Rattle.controller_file.specs.FirstLine.{IsTextIn, IsSomeTextIn, IsUnsafeIn}
use Rattle.controller_file.specs.Reading.{IsPartsOf, IsFaultOf}
use Rattle.controller_file.proofs.Beginnings.{text_from, text_to}
use Rattle.controller_file.proofs.Uniqueness.{one_choice, one_form}

-- a first line is one
one_line : (Form : List ℕ → Type 0) (bytes : List ℕ) (l k : ℕ) → IsBadLineOf Form bytes l → IsBadLineOf Form bytes k → l ≡ k
one_line Form bytes l k p q =
    let least : l < suc k = lt_of_not-le (λ (lt : suc k ≤ l). q.first.here (p.first.before k (omega (arith, lt)))) in
    let other : k < suc l = lt_of_not-le (λ (lt : suc l ≤ k). p.first.here (q.first.before l (omega (arith, lt)))) in
    omega (arith, least, other)

-- all that a reader says of bytes, whose controllers are the safe ones of a form
pub record IsRead (Form Safe : Numbers → Type 0) (A : Type 0) (of : A → Numbers) (bytes : List ℕ) (r : Result A BadController) : Type 0 where
  pub bad_line : (l : ℕ) → r ≡ Err (Line l) → IsBadLineOf (IsSomeTextIn Form) bytes l
  pub wide : r ≡ Err Unsafe → IsUnsafeIn Form Safe bytes
  pub right : (c : Numbers) → IsTextIn Safe bytes c → MatchResult r (λ a. of a ≡ c) (λ e. e ≡ Memory)
  pub bad_first : (l : ℕ) → IsBadLineOf (IsSomeTextIn Form) bytes l → (r ≡ Err (Line l)) ⊎ (r ≡ Err Memory)
  pub bad_sums : IsUnsafeIn Form Safe bytes → (r ≡ Err Unsafe) ⊎ (r ≡ Err Memory)

-- the form is one of texts, and a safe one is in form
module _ (Form Safe : Numbers → Type 0) (to : (c : Numbers) → Form c → IsTextForm c) (safe_form : (c : Numbers) → Safe c → Form c) (A : Type 0) (of : A → Numbers) (bytes : List ℕ) where
  wider : (c : Numbers) → IsTextIn Form bytes c → IsTextIn IsTextForm bytes c
  wider c t = record { form = to c t.form; word = t.word; text = t.text }

  one : (c d : Numbers) → IsTextIn Form bytes c → IsTextIn Form bytes d → c ≡ d
  one c d p q = one_form bytes c d (wider c p) (wider d q)

  in_safe : (c : Numbers) → IsTextIn Safe bytes c → IsTextIn Form bytes c
  in_safe c t = record { form = safe_form c t.form; word = t.word; text = t.text }

  pub formed : (c : Numbers) → IsPartsOf (IsWholeOf Form) bytes c → IsTextIn Form bytes c
  formed c p =
      let w = p.whole in
      let same : w.numbers ≡ c = one_choice w.numbers c (to w.numbers w.form) p.form.form w.lines in
      record { form = subst Form same w.form; word = p.form.word; text = p.form.text }

  pub read_ok : (a : A) → IsPartsOf (IsWholeOf Form) bytes (of a) → Safe (of a) → IsRead Form Safe A of bytes (Ok a)
  read_ok a parts safe =
      let t = formed (of a) parts in
      record {
        bad_line = λ l e. absurd (let never : ⊥ = cc in never);
        wide = λ e. absurd (let never : ⊥ = cc in never);
        right = λ c text. one (of a) c t (in_safe c text);
        bad_first = λ l bad. absurd (bad.none (record { numbers = of a; form = t }));
        bad_sums = λ u. absurd (u.wide (subst Safe (one (of a) u.numbers t u.form) safe));
      }

  pub read_unsafe : (c : Numbers) → IsPartsOf (IsWholeOf Form) bytes c → ¬ Safe c → IsRead Form Safe A of bytes (Err Unsafe)
  read_unsafe c parts wide =
      let t = formed c parts in
      record {
        bad_line = λ l e. absurd (let never : ⊥ = cc in never);
        wide = λ e. record { numbers = c; form = t; wide = wide };
        right = λ d text. absurd (wide (subst Safe (one d c (in_safe d text) t) text.form));
        bad_first = λ l bad. absurd (bad.none (record { numbers = c; form = t }));
        bad_sums = λ u. inl refl;
      }

  pub read_fault : (e : BadController) → IsFaultOf (IsWholeOf Form) bytes e → IsRead Form Safe A of bytes (Err e)
  read_fault Memory h = record {
    bad_line = λ l e. absurd (let never : ⊥ = cc in never);
    wide = λ e. absurd (let never : ⊥ = cc in never);
    right = λ c text. refl;
    bad_first = λ l bad. inr refl;
    bad_sums = λ u. inr refl;
  }
  read_fault (Line k) h =
      let bad = bad_line_so _ (IsSomeTextIn Form) (text_from Form) (text_to Form) bytes k h in
      record {
        bad_line = λ l e. (let same : k ≡ l = cc in subst (IsBadLineOf (IsSomeTextIn Form) bytes) same bad);
        wide = λ e. absurd (let never : ⊥ = cc in never);
        right = λ c text. absurd (bad.none (record { numbers = c; form = in_safe c text }));
        bad_first = λ l other. inl (ap (λ (n : ℕ). Err (Line n)) (one_line (IsSomeTextIn Form) bytes k l bad other));
        bad_sums = λ u. absurd (bad.none (record { numbers = u.numbers; form = u.form }));
      }
  read_fault Unsafe h = absurd h

  -- what the numbers of a text come to
  pub read_safe : (c : Numbers) (r : Result A BadController) → IsPartsOf (IsWholeOf Form) bytes c → IfOk r (λ o. (of o ≡ c) × Safe c) → IfErr r (λ e. (e ≡ Unsafe) × (¬ Safe c)) → IsRead Form Safe A of bytes r
  read_safe c (Ok o) parts ok fault =
      let same = sym ok.0 in
      read_ok o (subst (IsPartsOf (IsWholeOf Form) bytes) same parts) (subst Safe same ok.1)
  read_safe c (Err e) parts ok fault = subst (λ (x : BadController). IsRead Form Safe A of bytes (Err x)) (sym fault.0) (read_unsafe c parts fault.1)
