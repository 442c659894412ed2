use Rattle.std.proofs.Common.{◌≡◌, ◌∙◌, append_assoc, sym, refl, rules, true, map, ◌∷◌, []}
use Rattle.std.specs.Result.{is_ok}
use Rattle.std.proofs.lemmas.List.{map-append, append-nil}
use Rattle.csv.specs.Records.{fields_of}
use Rattle.policy_file.specs.Records.{records_of}
use Rattle.policy_file.proofs.LeftFacts.{given, none_given}
use Rattle.policy_file.proofs.text.all_records.Goals as goal

pub loop-row-init : goal.loop-row-init
loop-row-init c =
    let start = c.into_iter-row-iterator.ensures.into_iter_gives ∙ refl in
    rw (start, c.new-rows.ensures.items) (records_of c.args.text.now, c.text_records-row-items.ensures, refl)

pub loop-row-preserved : goal.loop-row-preserved
loop-row-preserved c =
    let inv = c.loop-row.invariant in
    let s = rw (c.in-Some.is, c.in-Ok.is) at ((c.next.ensures.steps inv.1.turns inv.1.trim).0 inv.1.ready) in
    let good : is_ok c.push.result ≡ true = search rules in
    let items = rw good at c.push.ensures.items in
    let g = given c.loop-row.row-iterator c.next.new.self (fields_of c.in-Ok.row) inv.0 inv.1 s.0 s.1 s.2 in
    (g.rest, g.stays, rw (items, map-append fields_of c.loop-row.rows.items (c.in-Ok.row ∷ []), append_assoc (map fields_of c.loop-row.rows.items) (fields_of c.in-Ok.row ∷ []) g.rest) (rw g.split at inv.2))

pub returns : goal.returns
returns c =
    let inv = c.loop-row.invariant in
    let s = rw c.in-None.is at ((c.next.ensures.steps inv.1.turns inv.1.trim).0 inv.1.ready) in
    sym (rw (none_given c.loop-row.row-iterator c.next.new.self inv.0 inv.1 s, append-nil (map fields_of c.loop-row.rows.items)) at inv.2)
