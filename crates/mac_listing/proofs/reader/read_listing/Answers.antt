use Rattle.mac_listing.proofs.Read.{read_text, read_right}
use Rattle.mac_listing.proofs.reader.read_listing.Goals as goal

pub returns-in_ok-listing_of_lines-in-Ok-clause-found : goal.returns-in_ok-listing_of_lines-in-Ok-clause-found
returns-in_ok-listing_of_lines-in-Ok-clause-found c =
    read_text c.args.bytes.now c.in_ok-lines.field-0 c.in-Ok.lines c.deref.result.now c.in_ok-listing_of_lines-in-Ok.field-0 c.in_ok-lines.ensures c.in-Ok.is c.deref.ensures.value c.in_ok-listing_of_lines-in-Ok.ensures

pub returns-in_ok-listing_of_lines-in-Ok-clause-right : goal.returns-in_ok-listing_of_lines-in-Ok-clause-right
returns-in_ok-listing_of_lines-in-Ok-clause-right c = λ l text.
    let listing = c.in_ok-listing_of_lines-in-Ok.field-0 in
    let found = read_text c.args.bytes.now c.in_ok-lines.field-0 c.in-Ok.lines c.deref.result.now listing c.in_ok-lines.ensures c.in-Ok.is c.deref.ensures.value c.in_ok-listing_of_lines-in-Ok.ensures in
    read_right c.args.bytes.now listing l found text

pub returns-in_ok-listing_of_lines-in-Ok-clause-bad_first : goal.returns-in_ok-listing_of_lines-in-Ok-clause-bad_first
returns-in_ok-listing_of_lines-in-Ok-clause-bad_first c = λ l bad.
    let listing = c.in_ok-listing_of_lines-in-Ok.field-0 in
    absurd (bad.none (record {
      numbers = listing;
      text = read_text c.args.bytes.now c.in_ok-lines.field-0 c.in-Ok.lines c.deref.result.now listing c.in_ok-lines.ensures c.in-Ok.is c.deref.ensures.value c.in_ok-listing_of_lines-in-Ok.ensures;
    }))
