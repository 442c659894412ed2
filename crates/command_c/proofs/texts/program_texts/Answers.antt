use Rattle.std.proofs.Common.{◌∙◌, ap, string_bytes}
use Rattle.qp_model.specs.machine.Controller.{numbers}
use Rattle.command_c.proofs.Written.{header_there}
use Rattle.command_c.proofs.texts.program_texts.Goals as goal

pub returns-clause-texts : goal.returns-clause-texts
returns-clause-texts c =
    let name = c.args.name.now in
    let read = c.parts-parts.ensures.value in
    record {
      has_program = c.in_ok-found.ensures.0 c.if-not-found.false;
      is_source = ap (λ v. v.items) c.into_bytes.ensures.value ∙ c.in_ok-source.ensures;
      is_header = ap (λ v. v.items) c.into_bytes-2.ensures.value ∙ header_there name (string_bytes c.in_ok-header.header) (numbers c.parts-parts.result.now) c.args.controller.now read c.in_ok-header.ensures;
    }
