use Rattle.std.proofs.Common.{rules, ℤ, ◌<◌, ◌*ℤ◌, FitsSigned, length, arith, ap, sym, ◌∙◌, ◌≡◌, List}
use Rattle.std.specs.Int.{w128}
use Rattle.std.proofs.lemmas.Int.{to_z-of_z}
use Rattle.integer_algebra.specs.Sums.{at}
use Rattle.condensed_form.specs.Form.{held}
use Rattle.approx_inverse.proofs.SystemLaws.{column_of_state, wide_same, column_of_constant, column_of_row}
use Rattle.approx_inverse.proofs.system.put_column.Goals as goal

pub returns-then-i-states-clause-wide : goal.returns-then-i-states-clause-wide
returns-then-i-states-clause-wide c = λ no.
    let k = c.args.c.now.limit_den in
    let fits : FitsSigned w128 k = search rules in
    let l : c.args.i < (held c.args.c.now).states = omega arith in
    wide_same (length c.args.out.now) (λ j. k *ℤ at c.copy_column.new.out j) _
    ((rw (c.copy_column.auto.out, to_z-of_z w128 _ fits) at c.scale.ensures.wide) no)
    (λ j m. ap (λ (z : ℤ). k *ℤ z) (c.copy_column.ensures j m) ∙ sym (column_of_state (held c.args.c.now) c.args.i j l))

pub returns-then-i-states-clause-done : goal.returns-then-i-states-clause-done
returns-then-i-states-clause-done c = λ yes j m.
    let k = c.args.c.now.limit_den in
    let fits : FitsSigned w128 k = search rules in
    let l : c.args.i < (held c.args.c.now).states = omega arith in
    (rw (c.copy_column.auto.out, to_z-of_z w128 _ fits) at c.scale.ensures.done) yes j m ∙
    ap (λ (z : ℤ). k *ℤ z) (c.copy_column.ensures j m) ∙ sym (column_of_state (held c.args.c.now) c.args.i j l)

pub returns-then-i-states-2-clause-done : goal.returns-then-i-states-2-clause-done
returns-then-i-states-2-clause-done c = λ yes j m.
    let k = c.args.c.now.limit_den in
    let fits : FitsSigned w128 k = search rules in
    let is : c.args.i ≡ (held c.args.c.now).states = omega arith in
    let copied = c.copy_from_slice.ensures.after ∙ c.deref.ensures.value in
    let long = ap length copied ∙ c.requires.solvable.shapes.off ∙ sym c.requires.len in
    (rw (to_z-of_z w128 _ fits) at c.scale-then-i-states-2.ensures.done) yes j (rw long m) ∙
    ap (λ (z : ℤ). k *ℤ z) (ap (λ (xs : List ℤ). at xs j) copied) ∙ sym (column_of_constant (held c.args.c.now) c.args.i j is)

pub returns-then-i-states-2-clause-wide : goal.returns-then-i-states-2-clause-wide
returns-then-i-states-2-clause-wide c = λ no.
    let k = c.args.c.now.limit_den in
    let fits : FitsSigned w128 k = search rules in
    let is : c.args.i ≡ (held c.args.c.now).states = omega arith in
    let copied = c.copy_from_slice.ensures.after ∙ c.deref.ensures.value in
    let long = ap length copied ∙ c.requires.solvable.shapes.off ∙ sym c.requires.len in
    wide_same (length c.args.out.now) (λ j. k *ℤ at c.copy_from_slice.new.self j) _
    ((rw (long, to_z-of_z w128 _ fits) at c.scale-then-i-states-2.ensures.wide) no)
    (λ j m. ap (λ (z : ℤ). k *ℤ z) (ap (λ (xs : List ℤ). at xs j) copied) ∙ sym (column_of_constant (held c.args.c.now) c.args.i j is))

pub returns-else-i-states-2-clause-done : goal.returns-else-i-states-2-clause-done
returns-else-i-states-2-clause-done c = λ yes j m.
    let d = c.args.c.now in
    let w : FitsSigned w128 d.weight_den = search rules in
    let r : FitsSigned w128 d.cost_row_den = search rules in
    let p : FitsSigned w128 d.power = search rules in
    let past : (held d).states < c.args.i = omega arith in
    let copied = c.copy_from_slice-else-i-states-2.ensures.after ∙ rw c.cols-states.ensures at c.row.ensures.value in
    let long = ap length c.copy_from_slice-else-i-states-2.ensures.after ∙ c.row.ensures.len ∙ c.requires.solvable.shapes.g.cols ∙ sym c.requires.len in
    (rw (to_z-of_z w128 _ w, to_z-of_z w128 _ r, to_z-of_z w128 _ p) at c.scale_row.ensures.done) yes j (rw long m) ∙
    ap (λ (z : ℤ). (held d).row_factor *ℤ z) (ap (λ (xs : List ℤ). at xs j) copied) ∙ sym (column_of_row (held d) c.args.i j past)

pub returns-else-i-states-2-clause-wide : goal.returns-else-i-states-2-clause-wide
returns-else-i-states-2-clause-wide c = λ no.
    let d = c.args.c.now in
    let w : FitsSigned w128 d.weight_den = search rules in
    let r : FitsSigned w128 d.cost_row_den = search rules in
    let p : FitsSigned w128 d.power = search rules in
    let past : (held d).states < c.args.i = omega arith in
    let copied = c.copy_from_slice-else-i-states-2.ensures.after ∙ rw c.cols-states.ensures at c.row.ensures.value in
    let long = ap length c.copy_from_slice-else-i-states-2.ensures.after ∙ c.row.ensures.len ∙ c.requires.solvable.shapes.g.cols ∙ sym c.requires.len in
    wide_same (length c.args.out.now) (λ j. (held d).row_factor *ℤ at c.copy_from_slice-else-i-states-2.new.self j) _
    ((rw (long, to_z-of_z w128 _ w, to_z-of_z w128 _ r, to_z-of_z w128 _ p) at c.scale_row.ensures.wide) no)
    (λ j m. ap (λ (z : ℤ). (held d).row_factor *ℤ z) (ap (λ (xs : List ℤ). at xs j) copied) ∙ sym (column_of_row (held d) c.args.i j past))
