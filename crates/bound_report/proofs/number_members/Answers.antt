use Rattle.std.proofs.Common.{◌≡◌, ◌∙◌, ◌++◌, ◌∷◌, [], List, ap, map, fold, refl}
use Rattle.std.specs.Fmt.{signed_decimal}
use Rattle.serde_json.specs.Data.{Members, string, put}
use Rattle.serde_json.specs.View.{members_view}
use Rattle.qp_model.specs.bounds.Printed.{printed}
use Rattle.bound_report.specs.Report.{One, first_members, last_members}
use Rattle.bound_report.specs.declared.KeyedNumber.{KeyedNumber}
use Rattle.bound_report.proofs.KeyLaws.{put_each, put_in_order}
use Rattle.bound_report.proofs.number_members.Goals as goal

each_put : (figures : List KeyedNumber) (before : Members) →
    fold (λ m f. put f.key.now (string (signed_decimal f.number)) m) before figures ≡ put_each before (map (λ f. (f.key.now, One f.number)) figures)
each_put [] before = refl
each_put (f ∷ fs) before = each_put fs (put f.key.now (string (signed_decimal f.number)) before)

pub returns : goal.returns
returns c =
    c.in_ok-put_numbers.ensures ∙ each_put c.figures_of.result (members_view c.new-members.result.entries)
    ∙ ap (put_each (members_view c.new-members.result.entries)) c.figures_of.ensures
    ∙ ap (λ (m : _). put_each (members_view m) (first_members (printed c.args.b.now) ++ last_members (printed c.args.b.now))) c.new-members.ensures.empty
    ∙ put_in_order c.args.b.now.lean (printed c.args.b.now)
