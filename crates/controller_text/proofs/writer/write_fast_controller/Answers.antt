use Rattle.qp_model.specs.machine.Controller.{numbers}
use Rattle.controller_text.proofs.Forms.{fast_form}
use Rattle.controller_text.proofs.writer.write_fast_controller.Goals as goal

pub parts_text-requires : goal.parts_text-requires
parts_text-requires c = fast_form (numbers c.parts.result.now) c.parts.ensures.sound.form
