use Rattle.std.proofs.Common.{pos}
use Rattle.std.proofs.lemmas.List.{take-replicate}
use Rattle.qp_model.proofs.VersionLaws.{design_states_le}
use Rattle.stay_check.proofs.check.check_faces.Goals as goal

pub check_unshifted-requires-clause-zeros : goal.check_unshifted-requires-clause-zeros
check_unshifted-requires-clause-zeros c =
    let sound = rw c.parts.ensures.value at c.parts.ensures.sound in
    rw c.parts.ensures.value (take-replicate c.args.design.now.states 6 (pos 0) (design_states_le c.args.design.now sound))
