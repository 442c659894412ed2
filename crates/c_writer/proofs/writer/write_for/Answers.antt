use Rattle.std.proofs.Common.{◌++◌, ◌∙◌, ℕ, Bool, List, ap}
use Rattle.qp_model.specs.machine.Controller.{Numbers, numbers}
use Rattle.overflow_check.proofs.Machines.{as_last}
use Rattle.overflow_check.specs.declared.machine.Machine.{Machine}
use Rattle.c_program.specs.InParts.{is_parted}
use Rattle.c_language.specs.Text.{program_text}
use Rattle.c_writer.specs.Measured.{program_by}
use Rattle.c_writer.proofs.InParts.{text_same}
use Rattle.c_writer.proofs.writer.write_for.Goals as goal

pub lists_of-requires : goal.lists_of-requires
lists_of-requires c = as_last c.args.machine (numbers c.args.c.now) c.requires

pub returns : goal.returns
returns c =
    let n = numbers c.args.c.now in
    let m = c.args.machine in
    let name = c.args.name.now in
    let from = c.measured-from.result in
    c.in_ok-push_program.ensures ∙ ap (λ (t : List ℕ). t ++ program_text name (program_by from.parted from.machine (numbers from.c.now))) c.new-text.ensures.bytes ∙
    ap (λ (k : Machine). program_text name (program_by from.parted k (numbers from.c.now))) c.measured-from.ensures.machine ∙
    ap (λ (b : Bool). program_text name (program_by b m (numbers from.c.now))) from.parts ∙
    ap (λ (k : Numbers). program_text name (program_by (is_parted k) m k)) c.measured-from.ensures.controller ∙ text_same (is_parted n) m n name
