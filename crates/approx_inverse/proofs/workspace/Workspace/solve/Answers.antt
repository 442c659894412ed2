use Rattle.std.proofs.Common.{rules, ◌≡◌, FitsSigned, length, refl, ap, sym, ◌∙◌, IsTrue, false}
use Rattle.std.specs.Int.{w128}
use Rattle.std.proofs.lemmas.Int.{to_z-of_z}
use Rattle.condensed_form.specs.Form.{held}
use Rattle.approx_inverse.specs.Spans.{cells}
use Rattle.approx_inverse.proofs.WordLaws.{filled}
use Rattle.approx_inverse.proofs.SizeLaws.{wide_column}
use Rattle.approx_inverse.proofs.FormLaws.{system_from, solution_from, wide_from, on_ok, not_fit}
use Rattle.approx_inverse.proofs.workspace.Workspace.solve.Goals as goal

not_true : ¬ IsTrue false
not_true t = search rules

pub returns-then-not-put_column-clause-wide : goal.returns-then-not-put_column-clause-wide
returns-then-not-put_column-clause-wide c = λ no.
    let wide = rw (ap length c.deref_mut.ensures.value ∙ c.requires.work.column) at (c.if-not-put_column.ensures.wide refl) in
    wide_column (held c.args.c.now) c.args.f c.args.i c.requires.column wide

pub solve_column-requires-clause-system : goal.solve_column-requires-clause-system
solve_column-requires-clause-system c =
    let fits : FitsSigned w128 c.args.c.now.floor = search rules in
    let long : length c.put_column.new.out ≡ (held c.args.c.now).entries = c.put_column.auto.out ∙ ap length c.deref_mut.ensures.value ∙ c.requires.work.column in
    let column : c.deref-2.result.now ≡ c.put_column.new.out = c.deref-2.ensures.value ∙ filled _ _ _ (c.put_column.auto.out ∙ c.deref_mut.ensures.len) in
    rw (column, long, to_z-of_z w128 _ fits) (system_from (held c.args.c.now) c.args.h.now c.requires.solvable.convex c.requires.matrix)

pub returns-clause-solved : goal.returns-clause-solved
returns-clause-solved c = λ yes.
    let fits : FitsSigned w128 c.args.c.now.floor = search rules in
    let first : length c.deref_mut.result.now ≡ (held c.args.c.now).entries = ap length c.deref_mut.ensures.value ∙ c.requires.work.column in
    let long : length c.put_column.new.out ≡ (held c.args.c.now).entries = c.put_column.auto.out ∙ first in
    let column : c.deref-2.result.now ≡ c.put_column.new.out = c.deref-2.ensures.value ∙ filled _ _ _ (c.put_column.auto.out ∙ c.deref_mut.ensures.len) in
    let is = rw first at (c.if-not-put_column.ensures.done refl) in
    let good = rw (column, long) at c.solve_column.ensures.good in
    let within = rw (column, long, to_z-of_z w128 _ fits) at c.solve_column.ensures.within in
    let room = rw (column, long, to_z-of_z w128 _ fits) at c.solve_column.ensures.fits in
    let ok = sym c.is_ok.ensures.value ∙ yes in
    solution_from (held c.args.c.now) c.args.f c.args.i c.args.h.now c.put_column.new.out (cells c.solve_column.new.region.words c.args.self.now.solution.start)
    c.requires.matrix is (on_ok c.solve_column.result ok good) (on_ok c.solve_column.result ok within) (room.0 ok)

pub returns-clause-wide : goal.returns-clause-wide
returns-clause-wide c = λ no.
    let fits : FitsSigned w128 c.args.c.now.floor = search rules in
    let first : length c.deref_mut.result.now ≡ (held c.args.c.now).entries = ap length c.deref_mut.ensures.value ∙ c.requires.work.column in
    let long : length c.put_column.new.out ≡ (held c.args.c.now).entries = c.put_column.auto.out ∙ first in
    let column : c.deref-2.result.now ≡ c.put_column.new.out = c.deref-2.ensures.value ∙ filled _ _ _ (c.put_column.auto.out ∙ c.deref_mut.ensures.len) in
    let is = rw first at (c.if-not-put_column.ensures.done refl) in
    let room = rw (column, long, to_z-of_z w128 _ fits) at c.solve_column.ensures.fits in
    wide_from (held c.args.c.now) c.args.f c.args.i c.args.h.now c.put_column.new.out c.requires.matrix c.requires.column is
    (not_fit _ _ (sym c.is_ok.ensures.value ∙ no) room.1)

pub put_column-requires-clause-solvable : goal.put_column-requires-clause-solvable
put_column-requires-clause-solvable c = c.requires.solvable

pub put_column-requires-clause-column : goal.put_column-requires-clause-column
put_column-requires-clause-column c = c.requires.column

pub put_column-requires-clause-len : goal.put_column-requires-clause-len
put_column-requires-clause-len c = ap length c.deref_mut.ensures.value ∙ c.requires.work.column

pub returns-then-not-put_column-clause-work : goal.returns-then-not-put_column-clause-work
returns-then-not-put_column-clause-work c = record {
  column = ap length (filled _ _ _ (c.put_column.auto.out ∙ c.deref_mut.ensures.len)) ∙ c.put_column.auto.out ∙ ap length c.deref_mut.ensures.value ∙ c.requires.work.column;
  guess = c.requires.work.guess;
  rest = c.requires.work.rest;
  live = c.requires.work.live;
  len = c.requires.work.len;
  free = c.requires.work.free;
}

pub returns-then-not-put_column-clause-solved : goal.returns-then-not-put_column-clause-solved
returns-then-not-put_column-clause-solved c = λ t. absurd (not_true t)

pub guess-requires-clause-rows : goal.guess-requires-clause-rows
guess-requires-clause-rows c =
    let long : length c.put_column.new.out ≡ (held c.args.c.now).entries = c.put_column.auto.out ∙ ap length c.deref_mut.ensures.value ∙ c.requires.work.column in
    let column : c.deref.result.now ≡ c.put_column.new.out = c.deref.ensures.value ∙ filled _ _ _ (c.put_column.auto.out ∙ c.deref_mut.ensures.len) in
    rw (column, long) c.requires.matrix.rows

pub guess-requires-clause-sizes : goal.guess-requires-clause-sizes
guess-requires-clause-sizes c =
    let long : length c.put_column.new.out ≡ (held c.args.c.now).entries = c.put_column.auto.out ∙ ap length c.deref_mut.ensures.value ∙ c.requires.work.column in
    let column : c.deref.result.now ≡ c.put_column.new.out = c.deref.ensures.value ∙ filled _ _ _ (c.put_column.auto.out ∙ c.deref_mut.ensures.len) in
    rw (column, long) c.requires.root

pub guess-requires-clause-len : goal.guess-requires-clause-len
guess-requires-clause-len c =
    let long : length c.put_column.new.out ≡ (held c.args.c.now).entries = c.put_column.auto.out ∙ ap length c.deref_mut.ensures.value ∙ c.requires.work.column in
    let column : c.deref.result.now ≡ c.put_column.new.out = c.deref.ensures.value ∙ filled _ _ _ (c.put_column.auto.out ∙ c.deref_mut.ensures.len) in
    rw (column, long) (ap length c.deref_mut-2.ensures.value ∙ c.requires.work.guess)

pub guess-requires-clause-rest_len : goal.guess-requires-clause-rest_len
guess-requires-clause-rest_len c =
    let long : length c.put_column.new.out ≡ (held c.args.c.now).entries = c.put_column.auto.out ∙ ap length c.deref_mut.ensures.value ∙ c.requires.work.column in
    let column : c.deref.result.now ≡ c.put_column.new.out = c.deref.ensures.value ∙ filled _ _ _ (c.put_column.auto.out ∙ c.deref_mut.ensures.len) in
    rw (column, long) (ap length c.deref_mut-3.ensures.value ∙ c.requires.work.rest)

pub solve_column-requires-clause-live : goal.solve_column-requires-clause-live
solve_column-requires-clause-live c = c.requires.work.live

pub solve_column-requires-clause-len : goal.solve_column-requires-clause-len
solve_column-requires-clause-len c =
    let long : length c.put_column.new.out ≡ (held c.args.c.now).entries = c.put_column.auto.out ∙ ap length c.deref_mut.ensures.value ∙ c.requires.work.column in
    let column : c.deref-2.result.now ≡ c.put_column.new.out = c.deref-2.ensures.value ∙ filled _ _ _ (c.put_column.auto.out ∙ c.deref_mut.ensures.len) in
    rw (column, long) c.requires.work.len

pub solve_column-requires-clause-free : goal.solve_column-requires-clause-free
solve_column-requires-clause-free c =
    let long : length c.put_column.new.out ≡ (held c.args.c.now).entries = c.put_column.auto.out ∙ ap length c.deref_mut.ensures.value ∙ c.requires.work.column in
    let column : c.deref-2.result.now ≡ c.put_column.new.out = c.deref-2.ensures.value ∙ filled _ _ _ (c.put_column.auto.out ∙ c.deref_mut.ensures.len) in
    rw (column, long) c.requires.work.free

pub returns-clause-work : goal.returns-clause-work
returns-clause-work c =
    let only = c.solve_column.ensures.only in
    record {
      column = ap length (filled _ _ _ (c.put_column.auto.out ∙ c.deref_mut.ensures.len)) ∙ c.put_column.auto.out ∙ ap length c.deref_mut.ensures.value ∙ c.requires.work.column;
      guess = ap length (filled _ _ _ (c.guess.auto.x ∙ c.deref_mut-2.ensures.len)) ∙ c.guess.auto.x ∙ ap length c.deref_mut-2.ensures.value ∙ c.requires.work.guess;
      rest = ap length (filled _ _ _ (c.guess.auto.rest ∙ c.deref_mut-3.ensures.len)) ∙ c.guess.auto.rest ∙ ap length c.deref_mut-3.ensures.value ∙ c.requires.work.rest;
      live = record { end = rw only.used c.requires.work.live.end };
      len = c.requires.work.len;
      free = rw (only.size, only.used) c.requires.work.free;
    }
