use Rattle.std.proofs.Common.{◌≡◌, false, true, inl, inr, refl}
use Rattle.settle_check.proofs.text.place_out_of_range.Goals as goal

pub returns-then-not-is_start_record-clause-some : goal.returns-then-not-is_start_record-clause-some
returns-then-not-is_start_record-clause-some c = inl (refl, λ h. (let e : false ≡ true = c.if-not-is_start_record.ensures.1 h in cc))

pub returns-then-not-is_still_record-clause-some : goal.returns-then-not-is_still_record-clause-some
returns-then-not-is_still_record-clause-some c = inr (inl (refl, c.if-not-is_start_record.ensures.0 refl, λ h. (let e : false ≡ true = c.if-not-is_still_record.ensures.1 h in cc)))

pub returns-then-not-has_return-clause-some : goal.returns-then-not-has_return-clause-some
returns-then-not-has_return-clause-some c =
    inr (inr (refl, c.if-not-is_start_record.ensures.0 refl, c.if-not-is_still_record.ensures.0 refl, λ h. (let e : false ≡ true = c.if-not-has_return.ensures.1 h in cc)))

pub returns-clause-none : goal.returns-clause-none
returns-clause-none c = record {
  start = c.if-not-is_start_record.ensures.0 refl;
  still = c.if-not-is_still_record.ensures.0 refl;
  back = c.if-not-has_return.ensures.0 refl;
}
