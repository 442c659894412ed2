use Rattle.std.proofs.Common.{◌≡◌, fold, take}
use Rattle.std.specs.Fmt.{signed_decimal}
use Rattle.serde_json.specs.Data.{string, put}
use Rattle.serde_json.specs.View.{members_view}
use Rattle.bound_report.proofs.put_numbers.Given as goal

abbrev pub invariant-loop-figure : goal.invariant-loop-figure
invariant-loop-figure l =
    members_view l.members.entries ≡ fold (λ m f. put f.key.now (string (signed_decimal f.number)) m) (members_view l.fn.members.entries) (take l.figure-index l.figures)
