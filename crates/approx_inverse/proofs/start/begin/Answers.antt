use Rattle.std.proofs.Common.{length, ◌∙◌, arith, ap, refl}
use Rattle.integer_algebra.specs.Sums.{at}
use Rattle.mat_int.specs.Matrix.{entry_of}
use Rattle.approx_inverse.specs.Descent.{aim}
use Rattle.approx_inverse.proofs.StartLaws.{started}
use Rattle.approx_inverse.proofs.WordLaws.{at-slice}
use Rattle.approx_inverse.proofs.start.begin.Goals as goal
use Rattle.approx_inverse.proofs.start.begin.Goals.{then-put_rest, else-put_rest}

pub returns-clause-descent : goal.returns-clause-descent
returns-clause-descent c = λ yes. elim c.if-put_rest.branch [
  | then-put_rest w ↦
      let r = c.args.r.now in
      started (length c.args.c.now) (entry_of c.args.h.now) (aim c.args.f c.args.c.now) c.args.guess.now w.cells.result.now
      c.args.region.now c.put_rest.new.region c.put.new.region c.args.x.now r c.requires.placed
      (c.put_rest.ensures.rest w.if-put_rest.true)
      (λ i l. ap (λ ws. at ws i) w.cells.ensures.value ∙ at-slice c.put_rest.new.region.words r.start r.len i (omega (arith, c.requires.placed.r_len)))
      (w.is_low-is_start.ensures (rw w.is_start-is at yes)) c.put.ensures
  | else-put_rest w ↦ absurd (let e = rw (w.is_start-is, w.if-put_rest.false) at yes in cc)
]

pub returns-then-guess-c-clause-kept : goal.returns-then-guess-c-clause-kept
returns-then-guess-c-clause-kept c = record { used = refl; size = refl; below = λ k l. refl; between = λ k l m. refl; above = λ k l. refl }

pub put_rest-requires-clause-rows : goal.put_rest-requires-clause-rows
put_rest-requires-clause-rows c = c.requires.rows

pub put_rest-requires-clause-cols : goal.put_rest-requires-clause-cols
put_rest-requires-clause-cols c = c.requires.cols

pub put_rest-requires-clause-bits : goal.put_rest-requires-clause-bits
put_rest-requires-clause-bits c = c.requires.bits

pub put_rest-requires-clause-live : goal.put_rest-requires-clause-live
put_rest-requires-clause-live c = record { end = rw c.requires.placed.r_len c.requires.placed.end }

pub put_rest-requires-clause-rest_len : goal.put_rest-requires-clause-rest_len
put_rest-requires-clause-rest_len c = c.requires.placed.r_len

pub is_low-is_start-requires-clause-bits : goal.is_low-is_start-requires-clause-bits
is_low-is_start-requires-clause-bits c = c.requires.bits
