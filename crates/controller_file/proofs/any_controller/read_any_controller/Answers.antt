use Rattle.std.proofs.Common.{◌≡◌, ℕ, List, Result, Ok, Err, sym, subst}
use Rattle.std.specs.Prelude.{IfOk, IfErr}
use Rattle.qp_model.specs.machine.Controller.{Numbers, numbers}
use Rattle.controller_text.specs.TextForm.{IsTextForm}
use Rattle.controller_text.specs.declared.bad_controller.BadController.{BadController}
use Rattle.controller_text.specs.declared.bad_controller.BadController.TheVariants.{Unsafe}
use Rattle.controller_file.specs.declared.any_controller.AnyController.{AnyController}
use Rattle.controller_file.specs.Following.{IsAnyWhole}
use Rattle.controller_file.specs.FirstLine.{IsTextIn, IsEitherController}
use Rattle.controller_file.specs.Reading.{IsPartsOf, IsFaultOf}
use Rattle.controller_file.specs.AnyText.{any_numbers, IsSafe, IsAnyControllerText}
use Rattle.controller_file.proofs.Beginnings.{any_grammar}
use Rattle.controller_file.proofs.Reading.{IsRead, read_safe, read_fault}
use Rattle.controller_file.proofs.AnyText.{either_form, either, any_text, text_safe, in_safe, right_any}
use Rattle.controller_file.proofs.any_controller.read_any_controller.Goals as goal

abbrev IsAnyRead : List ℕ → Result AnyController BadController → Type 0
IsAnyRead bytes r = IsRead IsTextForm IsEitherController AnyController any_numbers bytes r

-- what was found of the numbers of a text
abbrev Found : Numbers → Result AnyController BadController → Type 0
Found c r = IfOk r (λ o. (any_numbers o ≡ c) × IsSafe o)

abbrev Fault : Numbers → Result AnyController BadController → Type 0
Fault c r = IfErr r (λ e. (e ≡ Unsafe) × (¬ IsEitherController c))

safe_found : (c : Numbers) (r : Result AnyController BadController) → Found c r → IfOk r (λ o. (any_numbers o ≡ c) × IsEitherController c)
safe_found c (Ok o) h = (h.0, subst IsEitherController h.0 (either o h.1))
safe_found c (Err e) h = tt

is_safe : (c : Numbers) (r : Result AnyController BadController) → Found c r → IfOk r IsSafe
is_safe c (Ok o) h = h.1
is_safe c (Err e) h = tt

read : (bytes : List ℕ) (c : Numbers) (r : Result AnyController BadController) → IsPartsOf IsAnyWhole bytes c → Found c r → Fault c r → IsAnyRead bytes r
read bytes c r parts found fault = read_safe IsTextForm IsEitherController (λ d form. form) either_form AnyController any_numbers bytes c r parts (safe_found c r found) fault

fault : (bytes : List ℕ) (e : BadController) → IsFaultOf IsAnyWhole bytes e → IsAnyRead bytes (Err e)
fault bytes = read_fault IsTextForm IsEitherController (λ d form. form) either_form AnyController any_numbers bytes

found : (bytes : List ℕ) (c : Numbers) (r : Result AnyController BadController) → IsPartsOf IsAnyWhole bytes c → Found c r → IfOk r (IsAnyControllerText bytes)
found bytes c (Ok o) parts h = any_text bytes o h.1 (subst (IsTextIn IsTextForm bytes) (sym h.0) parts.form)
found bytes c (Err e) parts h = tt

pub parts_in-requires-clause-grammar : goal.parts_in-requires-clause-grammar
parts_in-requires-clause-grammar c = any_grammar

pub parts_in-requires-clause-any : goal.parts_in-requires-clause-any
parts_in-requires-clause-any c = λ ls w. w

pub returns-in-Ok-clause-found : goal.returns-in-Ok-clause-found
returns-in-Ok-clause-found c = found c.args.bytes.now (numbers c.in-Ok.parts) c.any_safe.result c.in-Ok.ensures.found c.any_safe.ensures.ok

pub returns-in-Ok-clause-bad_line : goal.returns-in-Ok-clause-bad_line
returns-in-Ok-clause-bad_line c = (read c.args.bytes.now (numbers c.in-Ok.parts) c.any_safe.result c.in-Ok.ensures.found c.any_safe.ensures.ok c.any_safe.ensures.fault).bad_line

pub returns-in-Ok-clause-wide : goal.returns-in-Ok-clause-wide
returns-in-Ok-clause-wide c = (read c.args.bytes.now (numbers c.in-Ok.parts) c.any_safe.result c.in-Ok.ensures.found c.any_safe.ensures.ok c.any_safe.ensures.fault).wide

pub returns-in-Ok-clause-right : goal.returns-in-Ok-clause-right
returns-in-Ok-clause-right c = λ k text.
    let told = read c.args.bytes.now (numbers c.in-Ok.parts) c.any_safe.result c.in-Ok.ensures.found c.any_safe.ensures.ok c.any_safe.ensures.fault in
    right_any k c.any_safe.result (text_safe c.args.bytes.now k text) (is_safe (numbers c.in-Ok.parts) c.any_safe.result c.any_safe.ensures.ok) (told.right (any_numbers k) (in_safe c.args.bytes.now k text))

pub returns-in-Ok-clause-bad_first : goal.returns-in-Ok-clause-bad_first
returns-in-Ok-clause-bad_first c = (read c.args.bytes.now (numbers c.in-Ok.parts) c.any_safe.result c.in-Ok.ensures.found c.any_safe.ensures.ok c.any_safe.ensures.fault).bad_first

pub returns-in-Ok-clause-bad_sums : goal.returns-in-Ok-clause-bad_sums
returns-in-Ok-clause-bad_sums c = (read c.args.bytes.now (numbers c.in-Ok.parts) c.any_safe.result c.in-Ok.ensures.found c.any_safe.ensures.ok c.any_safe.ensures.fault).bad_sums

pub returns-in-Err-clause-bad_line : goal.returns-in-Err-clause-bad_line
returns-in-Err-clause-bad_line c = (fault c.args.bytes.now c.in-Err.fault c.in-Err.ensures.fault).bad_line

pub returns-in-Err-clause-wide : goal.returns-in-Err-clause-wide
returns-in-Err-clause-wide c = (fault c.args.bytes.now c.in-Err.fault c.in-Err.ensures.fault).wide

pub returns-in-Err-clause-right : goal.returns-in-Err-clause-right
returns-in-Err-clause-right c = λ k text. (fault c.args.bytes.now c.in-Err.fault c.in-Err.ensures.fault).right (any_numbers k) (in_safe c.args.bytes.now k text)

pub returns-in-Err-clause-bad_first : goal.returns-in-Err-clause-bad_first
returns-in-Err-clause-bad_first c = (fault c.args.bytes.now c.in-Err.fault c.in-Err.ensures.fault).bad_first

pub returns-in-Err-clause-bad_sums : goal.returns-in-Err-clause-bad_sums
returns-in-Err-clause-bad_sums c = (fault c.args.bytes.now c.in-Err.fault c.in-Err.ensures.fault).bad_sums
