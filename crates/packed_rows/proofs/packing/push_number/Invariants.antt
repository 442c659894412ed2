use Rattle.std.proofs.Common.{◌≡◌, ℕ, ◌<◌, List, ◌++◌}
use Rattle.packed_rows.specs.Packing.{digits_128, packed}
use Rattle.packed_rows.proofs.NumberFacts.{limit}
use Rattle.packed_rows.proofs.packing.push_number.Given as goal

abbrev pub invariant-loop-rest : goal.invariant-loop-rest
invariant-loop-rest l = record {
  more : ℕ;
  small : l.rest < limit more;
  digits : l.bytes.items ++ digits_128 more l.rest ≡ l.fn.bytes.items ++ packed l.z;
  made : List ℕ;
  begins : l.bytes.items ≡ l.fn.bytes.items ++ made;
}

abbrev pub decreases-loop-rest : goal.decreases-loop-rest
decreases-loop-rest l = l.rest
