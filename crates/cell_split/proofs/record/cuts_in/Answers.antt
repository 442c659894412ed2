use Rattle.std.proofs.Common.{refl, inl, inr}
use Rattle.cell_split.proofs.record.cuts_in.Goals as goal

pub returns-in_default-clause-fault : goal.returns-in_default-clause-fault
returns-in_default-clause-fault c = inr (inl (record { none = λ n h. (let none = c.in_default.ensures.only n h in cc none); told = refl }))
