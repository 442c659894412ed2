use Rattle.std.proofs.Common.{inl, inr}
use Rattle.std.proofs.lemmas.Result.{err_from_is_err_and}
use Rattle.design_files.proofs.places.read_low.Goals as goal

pub returns-in_err-in_range : goal.returns-in_err-in_range
returns-in_err-in_range c =
    let e = err_from_is_err_and c.from_residual-in_err-in_range.result c.from_residual-in_err-in_range.ensures.1 in
    let known = c.in_ok-low.ensures in
    let failed = c.in_err-in_range.ensures.err in
    rw (e.1, e.2) (inr (inr (known.0.0, inl (λ all. failed.1 (c.are_numerators.ensures.1 (rw c.deref.ensures.value (rw known.1 at all))), failed.0))))
