use Rattle.std.proofs.Common.{◌≡◌, take}
use Rattle.std.specs.List.{flat_map}
use Rattle.qp_model.specs.bounds.Printed.{printed}
use Rattle.bound_report.specs.Report.{report_text}
use Rattle.command_split.proofs.cells.reports_of.Given as goal

abbrev pub invariant-loop-own : goal.invariant-loop-own
invariant-loop-own l = l.reports.items ≡ flat_map (λ b. report_text (printed b)) (take l.own-index l.bounds)
