use Rattle.std.proofs.Common.{◌%◌, ◌^◌, ◌+◌, ◌<◌, ℕ, ℤ, pos, ◌+ℤ◌, ◌*ℤ◌, FitsSigned, arith, rules, subst, sym}
use Rattle.std.specs.Int.{w64, w128}
use Rattle.std.proofs.lemmas.Int.{ints, to_z-of_z}
use Rattle.mat_products.proofs.Carries.{carry, high_fits, added_whole}
use Rattle.mat_products.proofs.narrow.Halves.plus.Goals as goal

-- what the code meets fits
record Fit (h q : ℤ) (a l : ℕ) : Type 0 where
  left : FitsSigned w128 h
  right : FitsSigned w128 q
  both : FitsSigned w128 (h +ℤ q)
  one : FitsSigned w128 (pos (carry a l))
  all : FitsSigned w128 (h +ℤ q +ℤ pos (carry a l))
  high : FitsSigned w64 (h +ℤ q +ℤ pos (carry a l))

fit : (h q : ℤ) (a l : ℕ) → FitsSigned w64 h → FitsSigned w64 q → a < 2 ^ 64 → l < 2 ^ 64 → FitsSigned w128 (h *ℤ pos (2 ^ 64) +ℤ pos a +ℤ (q *ℤ pos (2 ^ 64) +ℤ pos l)) → Fit h q a l
fit h q a l hf qf low le f =
    let high : FitsSigned w64 (h +ℤ q +ℤ pos (carry a l)) =
    high_fits (h +ℤ q +ℤ pos (carry a l)) ((a + l) % 2 ^ 64) (omega arith) (subst (FitsSigned w128) (sym (added_whole h q a l low le)) f) in
    record {
      left = omega (arith, ints);
      right = omega (arith, ints);
      both = omega (arith, ints);
      one = omega (arith, ints);
      all = omega (arith, ints);
      high = high;
    }

pub overflow_add-result-2 : goal.overflow_add-result-2
overflow_add-result-2 c =
    let hf : FitsSigned w64 c.args.self.high = search rules in
    let qf : FitsSigned w64 c.args.other.high = search rules in
    let f = fit c.args.self.high c.args.other.high c.args.self.low c.args.other.low hf qf (omega arith) (omega arith) c.requires in
    rw (c.from-carry.ensures, c.from-2.ensures, c.from.ensures, to_z-of_z w64 _ hf, to_z-of_z w64 _ qf, to_z-of_z w128 _ f.left, to_z-of_z w128 _ f.right, to_z-of_z w128 _ f.both, to_z-of_z w128 _ f.one) f.all

pub overflow_cast-result : goal.overflow_cast-result
overflow_cast-result c =
    let hf : FitsSigned w64 c.args.self.high = search rules in
    let qf : FitsSigned w64 c.args.other.high = search rules in
    let f = fit c.args.self.high c.args.other.high c.args.self.low c.args.other.low hf qf (omega arith) (omega arith) c.requires in
    rw (c.from-carry.ensures, c.from-2.ensures, c.from.ensures, to_z-of_z w64 _ hf, to_z-of_z w64 _ qf, to_z-of_z w128 _ f.left, to_z-of_z w128 _ f.right, to_z-of_z w128 _ f.both, to_z-of_z w128 _ f.one, to_z-of_z w128 _ f.all) f.high

pub returns : goal.returns
returns c =
    let hf : FitsSigned w64 c.args.self.high = search rules in
    let qf : FitsSigned w64 c.args.other.high = search rules in
    let f = fit c.args.self.high c.args.other.high c.args.self.low c.args.other.low hf qf (omega arith) (omega arith) c.requires in
    rw (
      c.from-carry.ensures,
      c.from-2.ensures,
      c.from.ensures,
      to_z-of_z w64 _ hf,
      to_z-of_z w64 _ qf,
      to_z-of_z w128 _ f.left,
      to_z-of_z w128 _ f.right,
      to_z-of_z w128 _ f.both,
      to_z-of_z w128 _ f.one,
      to_z-of_z w128 _ f.all,
      to_z-of_z w64 _ f.high,
    )
    (added_whole c.args.self.high c.args.other.high c.args.self.low c.args.other.low (omega arith) (omega arith))
