use Rattle.std.proofs.Common.{length, arith, rules, ◌≡◌}
use Rattle.std.specs.Prelude.{FitsSigned}
use Rattle.std.specs.Int.{w128}
use Rattle.std.proofs.lemmas.Int.{to_z-of_z}
use Rattle.packed_rows.proofs.RowFacts.{none_taken, first_word, one_taken, all_taken}
use Rattle.packed_rows.proofs.unpacking.take_numbers.Goals as goal

pub loop-z-init : goal.loop-z-init
loop-z-init c = none_taken c.args.bytes.now c.args.row.now c.requires

pub first_number-n-requires : goal.first_number-n-requires
first_number-n-requires c = first_word c.args.bytes.now c.loop-z.row c.loop-z.z-index c.loop-z.rest.now c.loop-z.invariant (omega arith)

pub loop-z-preserved : goal.loop-z-preserved
loop-z-preserved c =
    let f : FitsSigned w128 c.unzigzag.result = search rules in
    rw (to_z-of_z w128 c.unzigzag.result f)
    (one_taken c.args.bytes.now c.loop-z.row c.loop-z.z-index c.loop-z.rest.now c.loop-z.invariant c.unzigzag.result c.first_number-n.result.1.now (omega arith)
    (rw c.first_number-n.ensures.value at c.unzigzag.ensures) f c.first_number-n.ensures.rest)

pub returns-clause-row : goal.returns-clause-row
returns-clause-row c =
    let long : length c.loop-z.row ≡ length c.args.row.now = search rules in
    rw (← long) (all_taken c.args.bytes.now c.loop-z.row c.loop-z.z-index c.loop-z.rest.now c.loop-z.invariant (omega arith)).0

pub returns-clause-word : goal.returns-clause-word
returns-clause-word c = (all_taken c.args.bytes.now c.loop-z.row c.loop-z.z-index c.loop-z.rest.now c.loop-z.invariant (omega arith)).2

pub returns-clause-rest : goal.returns-clause-rest
returns-clause-rest c =
    let long : length c.loop-z.row ≡ length c.args.row.now = search rules in
    rw (← long) (all_taken c.args.bytes.now c.loop-z.row c.loop-z.z-index c.loop-z.rest.now c.loop-z.invariant (omega arith)).1
