use Rattle.std.proofs.Common.{◌≤◌, ◌^◌, IsTrue, true, length, rules, sym, ◌∙◌}
use Rattle.integer_algebra.specs.Sizes.{size}
use Rattle.mat_int.specs.Matrix.{entry_of}
use Rattle.hessian_check.proofs.PassLaws.{short_room}
use Rattle.hessian_check.proofs.row_test.leaves_room.Goals as goal
use Rattle.hessian_check.proofs.row_test.leaves_room.Goals.{then-short, else-short}

pub returns-then-is_small_row : goal.returns-then-is_small_row
returns-then-is_small_row c =
    let n = length c.args.mat.now.rows in
    let yes : IsTrue true = search rules in
    elim c.if-short.branch [
      | then-short w ↦ (let t : IsTrue w.is_small_row.result = rw (sym w.value-is ∙ c.if-is_small_row.true) yes in
          let small : size n (entry_of c.args.mat.now c.args.i) ≤ 2 ^ 126 = rw (w.row.ensures.len ∙ c.requires.shape.mat_cols, w.row.ensures.value) at (w.is_small_row.ensures t) in
          (λ y. short_room n (entry_of c.args.mat.now) (entry_of c.args.root.now) c.args.i c.requires.inside (c.requires.short (rw w.if-short.true yes)) small, λ y. rw c.if-is_small_row.true yes))
      | else-short w ↦ absurd (let e = w.value-is in let f = c.if-is_small_row.true in cc)
    ]
