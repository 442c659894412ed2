use Rattle.std.proofs.Common.{◌≡◌, ℕ, List, Result, Ok, Err, sym, subst}
use Rattle.std.specs.Prelude.{IfOk, IfErr}
use Rattle.qp_model.specs.machine.Controller.{Numbers, numbers, IsInForm}
use Rattle.qp_model.specs.machine.AbsoluteSums.{IsController}
use Rattle.qp_model.specs.text.ControllerText.{IsControllerText}
use Rattle.controller_text.specs.declared.bad_controller.BadController.{BadController}
use Rattle.controller_text.specs.declared.bad_controller.BadController.TheVariants.{Unsafe}
use Rattle.controller_text.proofs.Forms.{plain_form}
use Rattle.controller_file.specs.Following.{IsWhole}
use Rattle.controller_file.specs.FirstLine.{IsTextIn}
use Rattle.controller_file.specs.Reading.{IsPartsOf, IsFaultOf}
use Rattle.controller_file.proofs.Beginnings.{grammar}
use Rattle.controller_file.proofs.Plain.{any_whole}
use Rattle.controller_file.proofs.Reading.{IsRead, read_safe, read_fault}
use Rattle.controller_file.proofs.reader.read_controller.Goals as goal

abbrev IsPlainRead : List ℕ → Result Numbers BadController → Type 0
IsPlainRead bytes r = IsRead IsInForm IsController Numbers (λ c. c) bytes r

read : (bytes : List ℕ) (c : Numbers) (r : Result Numbers BadController) → IsPartsOf IsWhole bytes c → IfOk r (λ o. (o ≡ c) × IsController c) → IfErr r (λ e. (e ≡ Unsafe) × (¬ IsController c)) → IsPlainRead bytes r
read bytes = read_safe IsInForm IsController plain_form (λ c k. k.form) Numbers (λ c. c) bytes

fault : (bytes : List ℕ) (e : BadController) → IsFaultOf IsWhole bytes e → IsPlainRead bytes (Err e)
fault bytes = read_fault IsInForm IsController plain_form (λ c k. k.form) Numbers (λ c. c) bytes

found : (bytes : List ℕ) (c : Numbers) (r : Result Numbers BadController) → IsPartsOf IsWhole bytes c → IfOk r (λ o. (o ≡ c) × IsController c) → IfOk r (IsControllerText bytes)
found bytes c (Ok o) parts ok = subst (IsControllerText bytes) (sym ok.0) (record { controller = ok.1; word = parts.form.word; text = parts.form.text })
found bytes c (Err e) parts ok = tt

in_safe : (bytes : List ℕ) (c : Numbers) → IsControllerText bytes c → IsTextIn IsController bytes c
in_safe bytes c text = record { form = text.controller; word = text.word; text = text.text }

pub parts_in-requires-clause-grammar : goal.parts_in-requires-clause-grammar
parts_in-requires-clause-grammar c = grammar

pub parts_in-requires-clause-any : goal.parts_in-requires-clause-any
parts_in-requires-clause-any c = any_whole

pub returns-in-Ok-clause-found : goal.returns-in-Ok-clause-found
returns-in-Ok-clause-found c = found c.args.bytes.now (numbers c.in-Ok.parts) c.safe.result c.in-Ok.ensures.found c.safe.ensures.ok

pub returns-in-Ok-clause-bad_line : goal.returns-in-Ok-clause-bad_line
returns-in-Ok-clause-bad_line c = (read c.args.bytes.now (numbers c.in-Ok.parts) c.safe.result c.in-Ok.ensures.found c.safe.ensures.ok c.safe.ensures.fault).bad_line

pub returns-in-Ok-clause-wide : goal.returns-in-Ok-clause-wide
returns-in-Ok-clause-wide c = (read c.args.bytes.now (numbers c.in-Ok.parts) c.safe.result c.in-Ok.ensures.found c.safe.ensures.ok c.safe.ensures.fault).wide

pub returns-in-Ok-clause-right : goal.returns-in-Ok-clause-right
returns-in-Ok-clause-right c =
    λ d text. (read c.args.bytes.now (numbers c.in-Ok.parts) c.safe.result c.in-Ok.ensures.found c.safe.ensures.ok c.safe.ensures.fault).right d (in_safe c.args.bytes.now d text)

pub returns-in-Ok-clause-bad_first : goal.returns-in-Ok-clause-bad_first
returns-in-Ok-clause-bad_first c = (read c.args.bytes.now (numbers c.in-Ok.parts) c.safe.result c.in-Ok.ensures.found c.safe.ensures.ok c.safe.ensures.fault).bad_first

pub returns-in-Ok-clause-bad_sums : goal.returns-in-Ok-clause-bad_sums
returns-in-Ok-clause-bad_sums c = (read c.args.bytes.now (numbers c.in-Ok.parts) c.safe.result c.in-Ok.ensures.found c.safe.ensures.ok c.safe.ensures.fault).bad_sums

pub returns-in-Err-clause-bad_line : goal.returns-in-Err-clause-bad_line
returns-in-Err-clause-bad_line c = (fault c.args.bytes.now c.in-Err.fault c.in-Err.ensures.fault).bad_line

pub returns-in-Err-clause-wide : goal.returns-in-Err-clause-wide
returns-in-Err-clause-wide c = (fault c.args.bytes.now c.in-Err.fault c.in-Err.ensures.fault).wide

pub returns-in-Err-clause-right : goal.returns-in-Err-clause-right
returns-in-Err-clause-right c = λ d text. (fault c.args.bytes.now c.in-Err.fault c.in-Err.ensures.fault).right d (in_safe c.args.bytes.now d text)

pub returns-in-Err-clause-bad_first : goal.returns-in-Err-clause-bad_first
returns-in-Err-clause-bad_first c = (fault c.args.bytes.now c.in-Err.fault c.in-Err.ensures.fault).bad_first

pub returns-in-Err-clause-bad_sums : goal.returns-in-Err-clause-bad_sums
returns-in-Err-clause-bad_sums c = (fault c.args.bytes.now c.in-Err.fault c.in-Err.ensures.fault).bad_sums
