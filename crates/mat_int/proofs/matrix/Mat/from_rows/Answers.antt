use Rattle.std.proofs.Common.{◌<◌, ℤ, List, [], ◌∷◌, take, length, get_or, Bor, arith, refl}
use Rattle.std.proofs.lemmas.List.{take_more, map-append}
use Rattle.std.proofs.lemmas.Grind.{common_steps}
use Rattle.mat_int.proofs.matrix.Mat.from_rows.Goals as goal

pub loop-row-preserved : goal.loop-row-preserved
loop-row-preserved c =
    let i = c.loop-row.row-index in
    let rows = c.args.rows.now in
    let lt : i < length rows = omega arith in
    let none : Bor (List ℤ) = record { ref_ptr = (0, 0); now = [] } in
    let row = get_or rows i none in
    let more = take_more rows i none lt in
    let pushed = c.in_ok-push_row.ensures.ok in
    record {
      cols = grind (arith, common_steps);
      rows = rw (pushed, c.loop-row.invariant.rows, more, map-append (λ (x : Bor (List ℤ)). x.now) (take i rows) (row ∷ [])) refl;
      even = grind (arith, common_steps);
    }

pub returns-clause-made : goal.returns-clause-made
returns-clause-made c = grind (arith, common_steps)

pub returns-clause-even : goal.returns-clause-even
returns-clause-even c = grind (arith, common_steps)
