use Rattle.std.proofs.Common.{◌≡◌, inl, inr, Result, Ok, Err}
use Rattle.std.specs.Prelude.{◌⊎◌, IsOkAnd, MatchResult}
use Rattle.number_text.specs.declared.text_fault.TextFault.{TextFault}
use Rattle.number_text.specs.declared.text_fault.TextFault.TheVariants.{Memory}
use Rattle.qp_model.specs.problem.Parts.{design_numbers}
use Rattle.design_files.specs.declared.places.Asked.{Asked}
use Rattle.command_line.proofs.Results.{err_same}
use Rattle.command_design_files.specs.Reading.{asked_numbers}
use Rattle.command_design_files.proofs.Readers.{unread, text_told, judged, fault_or}
use Rattle.command_design_files.proofs.files.read_asked_file.Goals as goal

-- the numbers of the design and the machine, or out of memory
seen_or : (y : Asked) (p : Result Asked TextFault) → (p ≡ Err Memory) ⊎ IsOkAnd p (λ x. (design_numbers x.design ≡ design_numbers y.design) × (x.fast ≡ y.fast)) →
    MatchResult p (λ x. asked_numbers x ≡ asked_numbers y) (λ e. e ≡ Memory)
seen_or y (Ok x) (inl other) = absurd (let never : ⊥ = cc in never)
seen_or y (Ok x) (inr is) = λ i. record { design = is.0 i; fast = is.1 i }
seen_or y (Err e) (inl is) = cc
seen_or y (Err e) (inr never) = absurd never

pub returns-in_err-bytes : goal.returns-in_err-bytes
returns-in_err-bytes g c = rw (err_same c.from_residual.result _ c.from_residual.ensures.1) (unread _ c.in_err-bytes.ensures.ends c.in_err-bytes.ensures.passes)

pub returns : goal.returns
returns g c =
    let got = c.in_ok-bytes.ensures in
    let is = rw c.deref.ensures.value at c.read_any_design.ensures in
    let p = c.read_any_design.result in
    judged text_told c.in_ok-bytes.bytes.items got.told got.short got.passes p c.told_text.result c.told_text.ensures
    (record { found = is.text; fault = is.fault; right = λ y right. seen_or y p (is.every_text y right); first = λ other fault. fault_or p (is.every_fault other fault) })
