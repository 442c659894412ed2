use Rattle.std.proofs.Common.{◌≡◌, ◌<◌, ◌∷◌, ◌++◌, [], pos, ◌+ℤ◌, to_z, of_z, length, ◌∙◌, rules, arith, inr}
use Rattle.std.specs.Int.{w128}
use mir.Val.{SFits}
use Rattle.std.proofs.lemmas.Int.{to_z-of_z, ints}
use Rattle.csv.specs.Records.{fields_of}
use Rattle.policy_file.proofs.PlaceFacts.{field_is}
use Rattle.cell_split.proofs.RecordFacts.{none_read, one_more, disorder, all_cuts}
use Rattle.cell_split.proofs.record.cuts_behind.Goals as goal

pub loop-i-init : goal.loop-i-init
loop-i-init c = none_read _ _ _ _ c.new-cuts.ensures.items

pub unreachable-requires : goal.unreachable-requires
unreachable-requires c =
    let lt : c.loop-i.i < length (fields_of c.args.row.now) = omega arith in
    let none = c.in_default.ensures.value ∙ field_is (fields_of c.args.row.now) c.loop-i.i lt in
    cc none

pub overflow_cast-result : goal.overflow_cast-result
overflow_cast-result c = omega (arith, c.requires.counted.few)

pub overflow_add-result : goal.overflow_add-result
overflow_add-result c = omega (arith, c.requires.counted.few)

pub returns-in_default-cut_field-clause-fault : goal.returns-in_default-cut_field-clause-fault
returns-in_default-cut_field-clause-fault c =
    let inv = rw (to_z-of_z w128 c.args.lo c.ranges.lo, to_z-of_z w128 c.args.hi c.ranges.hi) at c.loop-i.invariant in
    inr (disorder c.args.lo c.args.hi _ c.args.entry c.loop-i.i (fields_of c.args.row.now) c.in-Some.field.now c.loop-i.cuts.items c.requires.counted c.requires.some (omega arith) c.in-Some.ensures.value
    (λ z r l h. let none = c.in_default-cut_field.ensures.only z r l (rw (to_z-of_z w128 c.args.hi c.ranges.hi) h) in cc none) inv)

pub loop-i-preserved : goal.loop-i-preserved
loop-i-preserved c =
    let items : c.push.new.self.items ≡ c.loop-i.cuts.items ++ c.in-Some-cut_field.cut ∷ [] = search rules in
    let lo = to_z-of_z w128 c.args.lo c.ranges.lo in
    let hi = to_z-of_z w128 c.args.hi c.ranges.hi in
    let inv = rw (lo, hi) at c.loop-i.invariant in
    let high = rw hi at c.in-Some-cut_field.ensures.high in
    let cut : SFits w128 c.in-Some-cut_field.cut = search rules in
    let more : SFits w128 (c.in-Some-cut_field.cut +ℤ pos 1) = omega (arith, ints, high, cut, c.ranges.hi) in
    let next : to_z w128 (of_z w128 (to_z w128 (of_z w128 c.in-Some-cut_field.cut) +ℤ pos 1)) ≡ c.in-Some-cut_field.cut +ℤ pos 1 =
    rw (to_z-of_z w128 c.in-Some-cut_field.cut cut) (to_z-of_z w128 (c.in-Some-cut_field.cut +ℤ pos 1) more) in
    rw (lo, hi) (one_more c.args.lo c.args.hi _ c.in-Some-cut_field.cut _ (fields_of c.args.row.now) c.in-Some.field.now c.loop-i.cuts.items _ c.loop-i.i items next
    (omega arith) c.in-Some.ensures.value c.in-Some-cut_field.ensures.found c.in-Some-cut_field.ensures.low high inv)

pub returns-clause-found : goal.returns-clause-found
returns-clause-found c =
    let inv = rw (to_z-of_z w128 c.args.lo c.ranges.lo, to_z-of_z w128 c.args.hi c.ranges.hi) at c.loop-i.invariant in
    all_cuts c.args.lo c.args.hi _ c.loop-i.i (fields_of c.args.row.now) c.loop-i.cuts.items c.requires.counted c.requires.some (omega arith) (omega arith) inv
