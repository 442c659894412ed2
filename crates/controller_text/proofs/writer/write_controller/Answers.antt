use Rattle.qp_model.specs.machine.Controller.{numbers}
use Rattle.controller_text.proofs.Forms.{plain_form}
use Rattle.controller_text.proofs.writer.write_controller.Goals as goal

pub parts_text-requires : goal.parts_text-requires
parts_text-requires c = plain_form (numbers c.parts.result.now) c.parts.ensures.sound.form
