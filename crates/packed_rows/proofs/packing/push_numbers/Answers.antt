use Rattle.std.proofs.Common.{pos, arith, rules, get_or}
use Rattle.std.specs.Prelude.{FitsSigned}
use Rattle.std.specs.Int.{w128}
use Rattle.std.proofs.lemmas.Int.{to_z-of_z}
use Rattle.std.proofs.lemmas.List.Elements.{All-more}
use Rattle.packed_rows.proofs.RowFacts.{packed_more}
use Rattle.packed_rows.proofs.packing.push_numbers.Goals as goal

pub loop-z-preserved : goal.loop-z-preserved
loop-z-preserved c =
    let r = c.loop-z.invariant in
    let f : FitsSigned w128 (get_or c.args.row.now c.loop-z.z-index (pos 0)) = search rules in
    record {
      items = packed_more c.args.bytes.now.items c.loop-z.bytes.items c.push_number.new.bytes.items c.args.row.now c.loop-z.z-index (omega arith) r.items
          (rw (to_z-of_z w128 (get_or c.args.row.now c.loop-z.z-index (pos 0)) f) at c.in_ok-push_number.ensures.ok);
      word = All-more (FitsSigned w128) c.args.row.now c.loop-z.z-index (pos 0) (omega arith) r.word f;
    }
