use Rattle.std.proofs.Common.{◌≡◌, IfOk, string_bytes, sym, subst}
use Rattle.c_language.specs.Text.{program_text}
use Rattle.controller_file.specs.declared.any_controller.AnyController.{AnyController}
use Rattle.command_c.specs.Compiled.{any_program}
use Rattle.command_c.proofs.texts.source_of.Goals as goal

pub returns-in-Plain : goal.returns-in-Plain
returns-in-Plain c =
    subst (λ (k : AnyController). IfOk c.write_program.result (λ text. string_bytes text ≡ program_text c.args.name.now (any_program k))) (sym c.in-Plain.is) c.write_program.ensures

pub returns-in-Fast : goal.returns-in-Fast
returns-in-Fast c =
    subst (λ (k : AnyController). IfOk c.write_fast_program.result (λ text. string_bytes text ≡ program_text c.args.name.now (any_program k))) (sym c.in-Fast.is) c.write_fast_program.ensures
