use Rattle.std.proofs.Common.{◌≡◌, ◌<◌, ◌+◌, ◌^◌, ◌∷◌, ◌++◌, [], length, ◌∙◌, rules, arith, refl, inr}
use Rattle.csv.specs.Records.{fields_of}
use Rattle.policy_file.specs.Layout.{rule_of}
use Rattle.policy_file.proofs.PlaceFacts.{field_is, place_small, first_wrong, known_more}
use Rattle.policy_file.proofs.record.numbers_of.Goals as goal

pub unreachable-requires : goal.unreachable-requires
unreachable-requires c =
    let lt : c.loop-i.i < length (fields_of c.args.row.now) = omega arith in
    let none = c.in_default.ensures.value ∙ field_is (fields_of c.args.row.now) c.loop-i.i lt in
    cc none

pub overflow_cast-result : goal.overflow_cast-result
overflow_cast-result c =
    let lt : c.loop-i.i < length (fields_of c.args.row.now) = omega arith in
    let small : c.loop-i.i + 1 < 2 ^ 32 = place_small c.args.layout (fields_of c.args.row.now) c.loop-i.numbers.items c.loop-i.i lt c.requires c.loop-i.invariant.each in
    omega arith

pub overflow_add-result : goal.overflow_add-result
overflow_add-result c =
    let lt : c.loop-i.i < length (fields_of c.args.row.now) = omega arith in
    let small : c.loop-i.i + 1 < 2 ^ 32 = place_small c.args.layout (fields_of c.args.row.now) c.loop-i.numbers.items c.loop-i.i lt c.requires c.loop-i.invariant.each in
    omega arith

pub returns-in_default-number_at-clause-fault : goal.returns-in_default-number_at-clause-fault
returns-in_default-number_at-clause-fault c =
    inr (
      refl,
      (omega arith),
      first_wrong (rule_of c.args.layout) c.args.count c.loop-i.i (fields_of c.args.row.now) c.in-Some.field.now c.loop-i.numbers.items
          (omega arith) c.in-Some.ensures.value (omega arith) c.loop-i.invariant.each
          (λ z r. let none = c.in_default-number_at.ensures.only z r in cc none),
    )

pub loop-i-preserved : goal.loop-i-preserved
loop-i-preserved c =
    let items : c.push.new.self.items ≡ c.loop-i.numbers.items ++ c.in-Some-number_at.number ∷ [] = search rules in
    let k = known_more (rule_of c.args.layout) (fields_of c.args.row.now) c.in-Some.field.now c.loop-i.numbers.items _ c.in-Some-number_at.number c.loop-i.i items
    (omega arith) c.in-Some.ensures.value c.in-Some-number_at.ensures.found c.loop-i.invariant.long c.loop-i.invariant.each in
    record { long = k.long; each = k.each }
