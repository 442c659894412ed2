use Rattle.std.proofs.Common.{length}
use Rattle.mat_int.specs.Matrix.{entry_of}
use Rattle.approx_inverse.specs.Descent.{IsDescent, IsSettled, aim}
use Rattle.approx_inverse.specs.Spans.{AreKept, cells}
use Rattle.approx_inverse.proofs.column.solve_within.Given as goal

abbrev pub invariant-loop-l : goal.invariant-loop-l
invariant-loop-l l = record {
  descent : IsDescent (length l.c) (entry_of l.h) (aim l.l l.c) (cells l.region.words l.x.start) (cells l.region.words l.r.start);
  good : IsSettled (length l.c) (entry_of l.h) (cells l.region.words l.r.start);
  kept : AreKept l.fn.region l.region l.x l.r;
}
