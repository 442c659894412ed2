use Rattle.std.proofs.Common.{◌≡◌, inl, refl, subst}
use Rattle.plan_lines.specs.Making.{PrintsRecords}
use Rattle.plan_lines.proofs.records.print_prepared.Goals as goal

pub returns-in-Err : goal.returns-in-Err
returns-in-Err g c = λ subject is. inl (inl refl, refl)

pub returns-in-Ok : goal.returns-in-Ok
returns-in-Ok g c = λ subject is.
    let same : g.M.PreparedMachine.subject c.in-Ok.machine ≡ subject = rw c.in-Ok.is at is in
    subst (λ (s : g.M.PreparedMachine.Subject). PrintsRecords g.O.Sink (g.M.PreparedMachine.makes s) c.args.states.now c.args.out.now c.print_records.new.out c.print_records.result) same c.print_records.ensures
