use Rattle.std.proofs.Common.{◌≡◌, ◌<◌, length, ap, sym, ◌∙◌, arith, rules}
use Rattle.std.proofs.lemmas.List.{with_items_is}
use Rattle.packed_rows.proofs.RowFacts.{next_row}
use Rattle.packed_rows.proofs.walk.RowWalk.step.Goals as goal

pub take_numbers-self-inside-requires : goal.take_numbers-self-inside-requires
take_numbers-self-inside-requires c =
    let w = c.self.inside in
    let inside : w.next < length w.rows.now.rows = rw (← c.self.view_is) at c.requires in
    rw (c.deref_mut.ensures.value, c.self.invariant.long) (next_row w.rows.now.cols w.rows.now.rows w.next w.rest.now c.self.invariant.rest inside c.rows-count.ensures.even c.rows-count.ensures.word).words

pub invariant_of-self : goal.invariant_of-self
invariant_of-self c =
    let w = c.self.inside in
    let inside : w.next < length w.rows.now.rows = rw (← c.self.view_is) at c.requires in
    let n = next_row w.rows.now.cols w.rows.now.rows w.next w.rest.now c.self.invariant.rest inside c.rows-count.ensures.even c.rows-count.ensures.word in
    let new = c.take_numbers-self-inside.new.row in
    let same : length new ≡ w.row.len = search rules in
    let put = with_items_is w.row new same in
    let items : length w.row.items ≡ w.row.len = search rules in
    record {
      long = ap length put ∙ same ∙ sym items ∙ c.self.invariant.long;
      word = rw put c.take_numbers-self-inside.ensures.word;
      inside = omega (arith, inside);
      rest = rw (c.deref_mut.ensures.value, c.self.invariant.long, n.after) at c.take_numbers-self-inside.ensures.rest;
    }

pub returns-clause-row : goal.returns-clause-row
returns-clause-row c =
    let w = c.self.inside in
    let inside : w.next < length w.rows.now.rows = rw (← c.self.view_is) at c.requires in
    let n = next_row w.rows.now.cols w.rows.now.rows w.next w.rest.now c.self.invariant.rest inside c.rows-count.ensures.even c.rows-count.ensures.word in
    let new = c.take_numbers-self-inside.new.row in
    let same : length new ≡ w.row.len = search rules in
    rw (← c.self.view_is) (with_items_is w.row new same ∙ (rw (c.deref_mut.ensures.value, c.self.invariant.long, n.numbers) at c.take_numbers-self-inside.ensures.row))
