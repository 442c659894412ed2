use Rattle.std.proofs.Common.{◌∙◌}
use Rattle.approx_inverse.proofs.WordLaws.{lent, lent_outside}
use Rattle.approx_inverse.proofs.start.put_rest.Goals as goal

pub returns-clause-kept : goal.returns-clause-kept
returns-clause-kept c = lent_outside c.args.region.now c.args.r.now c.make_rest.new.rest c.cells_mut.ensures.within (c.make_rest.auto.rest ∙ c.cells_mut.ensures.len)

pub make_rest-requires-clause-rows : goal.make_rest-requires-clause-rows
make_rest-requires-clause-rows c = c.requires.rows

pub make_rest-requires-clause-cols : goal.make_rest-requires-clause-cols
make_rest-requires-clause-cols c = c.requires.cols

pub make_rest-requires-clause-bits : goal.make_rest-requires-clause-bits
make_rest-requires-clause-bits c = c.requires.bits

pub make_rest-requires-clause-len : goal.make_rest-requires-clause-len
make_rest-requires-clause-len c = c.requires.len

pub make_rest-requires-clause-rest_len : goal.make_rest-requires-clause-rest_len
make_rest-requires-clause-rest_len c = c.cells_mut.ensures.len ∙ c.requires.rest_len

pub returns-clause-rest : goal.returns-clause-rest
returns-clause-rest c = λ yes i l.
    let written = lent c.args.region.now c.args.r.now c.make_rest.new.rest c.cells_mut.ensures.within (c.make_rest.auto.rest ∙ c.cells_mut.ensures.len) in
    written.done i (rw c.requires.rest_len l) ∙ c.make_rest.ensures yes i l
