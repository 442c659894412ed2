use Rattle.std.proofs.Common.{◌+◌, ◌*◌, ◌∙◌}
use Rattle.condensed_form.specs.Form.{held}
use Rattle.step_error.proofs.RoomTests.{room_decided}
use Rattle.step_error.proofs.real_gains.Gains.has_room.Goals as goal

pub returns : goal.returns
returns c =
    let self = c.args.self.now in
    c.is_some.ensures ∙ room_decided (held self.c.now) c.limited_product.result c.greatest_diagonal.result _ _ c.greatest_diagonal.ensures
    (λ i. c.cols.ensures i * self.state + 1 + c.rows.ensures.count i * self.top) c.limited_product.ensures
