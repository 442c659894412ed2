-- A controller of either machine, by its numbers.
use Rattle.std.proofs.Common.{◌≡◌, inl, inr, ℕ, List, Result, Ok, Err, ap, arith}
use Rattle.std.specs.Prelude.{MatchResult, IfOk}
use Rattle.qp_model.specs.machine.Controller.{Numbers}
use Rattle.controller_text.specs.TextForm.{IsTextForm}
use Rattle.controller_text.specs.declared.bad_controller.BadController.{BadController}
use Rattle.controller_text.specs.declared.bad_controller.BadController.TheVariants.{Memory}
use Rattle.controller_text.proofs.Forms.{plain_form, fast_form}
use Rattle.controller_file.specs.declared.any_controller.AnyController.{AnyController}
use Rattle.controller_file.specs.declared.any_controller.AnyController.TheVariants.{Plain, Fast}
use Rattle.controller_file.specs.FirstLine.{IsTextIn, IsEitherController}
use Rattle.controller_file.specs.AnyText.{any_numbers, IsSafe, IsAnyControllerText}

pub either_form : (c : Numbers) → IsEitherController c → IsTextForm c
either_form c (inl k) = plain_form c k.form
either_form c (inr k) = fast_form c k.form

pub either : (k : AnyController) → IsSafe k → IsEitherController (any_numbers k)
either (Plain c) safe = inl safe
either (Fast c) safe = inr safe

-- the numbers tell the machine
pub one_any : (k j : AnyController) → IsSafe k → IsSafe j → any_numbers k ≡ any_numbers j → k ≡ j
one_any (Plain c) (Plain d) p q e = ap (λ (x : Numbers). Plain x) e
one_any (Plain c) (Fast d) p q e = absurd (omega (arith, p.form.sized.version.1, ap (λ (x : Numbers). x.version) e, q.form.sized.version))
one_any (Fast c) (Plain d) p q e = absurd (omega (arith, q.form.sized.version.1, ap (λ (x : Numbers). x.version) e, p.form.sized.version))
one_any (Fast c) (Fast d) p q e = ap (λ (x : Numbers). Fast x) e

-- ---- its text
pub any_text : (bytes : List ℕ) (k : AnyController) → IsSafe k → IsTextIn IsTextForm bytes (any_numbers k) → IsAnyControllerText bytes k
any_text bytes (Plain c) safe t = record { controller = safe; word = t.word; text = t.text }
any_text bytes (Fast c) safe t = record { controller = safe; word = t.word; text = t.text }

pub text_safe : (bytes : List ℕ) (k : AnyController) → IsAnyControllerText bytes k → IsSafe k
text_safe bytes (Plain c) t = t.controller
text_safe bytes (Fast c) t = t.controller

pub in_safe : (bytes : List ℕ) (k : AnyController) → IsAnyControllerText bytes k → IsTextIn IsEitherController bytes (any_numbers k)
in_safe bytes (Plain c) t = record { form = inl t.controller; word = t.word; text = t.text }
in_safe bytes (Fast c) t = record { form = inr t.controller; word = t.word; text = t.text }

pub right_any : (k : AnyController) (r : Result AnyController BadController) → IsSafe k → IfOk r IsSafe → MatchResult r (λ o. any_numbers o ≡ any_numbers k) (λ e. e ≡ Memory) → MatchResult r (λ o. o ≡ k) (λ e. e ≡ Memory)
right_any k (Ok o) safe found same = one_any o k found safe same
right_any k (Err e) safe found same = same
