use Rattle.std.proofs.Common.{◌+ℤ◌, length, unsigned_abs}
use Rattle.integer_algebra.specs.Sums.{dot}
use Rattle.mat_int.specs.Matrix.{entry_of}
use Rattle.approx_inverse.specs.Descent.{IsDescent, aim, value}
use Rattle.approx_inverse.specs.Spans.{AreKept, cells}
use Rattle.approx_inverse.proofs.descent.settle.Given as goal

abbrev pub invariant-loop-j : goal.invariant-loop-j
invariant-loop-j l = record {
  descent : IsDescent (length l.c) (entry_of l.h) (aim l.f l.c) (cells l.region.words l.x.start) (cells l.region.words l.r.start);
  kept : AreKept l.fn.region l.region l.x l.r;
}

abbrev pub decreases-loop-j : goal.decreases-loop-j
decreases-loop-j l = unsigned_abs (value (length l.c) (entry_of l.h) (aim l.f l.c) (cells l.region.words l.x.start) +ℤ dot (length l.c) (aim l.f l.c) (aim l.f l.c))
