use Rattle.std.proofs.Common.{◌≡◌, ◌++◌, ◌∙◌, ◌*◌, ◌<◌, unsigned_abs, get_or, subst, sym, length, ◌*ℤ◌, ◌^◌, pos, neg_ℤ, ℤ, ℕ, List, FitsSigned, ap, refl, arith, rules, decimal, codes, string_bytes}
use Rattle.std.specs.Int.{w128}
use Rattle.std.proofs.lemmas.Int.{to_z-of_z}
use Rattle.integer_algebra.specs.Sums.{at}
use Rattle.mat_int.specs.Matrix.{row_of}
use Rattle.qp_model.specs.machine.Controller.{numbers}
use Rattle.qp_model.specs.machine.AbsoluteSums.{state_magnitudes}
use Rattle.overflow_check.proofs.Sizes.{length-state_reach}
use Rattle.c_language.specs.Syntax.{variable}
use Rattle.c_language.specs.Syntax.Family.{Loaded}
use Rattle.c_language.specs.Syntax.Expression.{Constant}
use Rattle.c_program.specs.Of.{state_top}
use Rattle.c_language.specs.Text.{constant_text}
use Rattle.overflow_check.specs.FastController.{with_last_version}
use Rattle.c_writer.proofs.Rooms.{row_room, products_fit}
use Rattle.c_writer.specs.Terms.{part_in, row_base_family, declared_text}
use Rattle.c_writer.specs.Measured.{sizes_in, kinds_in}
use Rattle.c_writer.proofs.Texts.{times_one, sum_line, row_same}
use Rattle.c_writer.proofs.InParts.{products_alike, row_base_wide}
use Rattle.c_writer.proofs.start.push_row_base.Goals as goal

pub push_row-requires-clause-long : goal.push_row-requires-clause-long
push_row-requires-clause-long c =
    let n = numbers c.args.from.now.c.now in
    rw c.args.from.now.state_tops (omega (arith, c.row.ensures.len, c.args.from.now.sound.form.sized.shaped.state_rows.cols, length-state_reach (with_last_version n) c.args.from.now.sound.form.sized))

pub push_row-requires-clause-room : goal.push_row-requires-clause-room
push_row-requires-clause-room c =
    let n = numbers c.args.from.now.c.now in
    let long : length c.row.result.now ≡ length c.args.from.now.states.now =
    rw c.args.from.now.state_tops (omega (arith, c.row.ensures.len, c.args.from.now.sound.form.sized.shaped.state_rows.cols, length-state_reach (with_last_version n) c.args.from.now.sound.form.sized)) in
    let room = products_fit c.row.result.now c.args.from.now.states.now long (rw (c.row.ensures.value, c.args.from.now.state_tops) ((row_room n c.args.i c.args.from.now.sound c.requires.in_range).0)) in
    λ k l. subst (λ (z : ℤ). unsigned_abs z * get_or c.args.from.now.states.now k 0 < 2 ^ 127) (sym (times_one (at c.row.result.now k))) (room k l)

pub returns : goal.returns
returns c =
    let m = c.args.from.now in
    let n = numbers m.c.now in
    let part = c.args.part in
    let i = c.args.i in
    let f : FitsSigned w128 c.bound_at.result = search rules in
    let g : FitsSigned w128 c.part_of.result = search rules in
    let constant = neg_ℤ (at n.bounds i *ℤ pos (2 ^ n.fraction_bits)) in
    let t0 = string_bytes c.args.text.now in
    let t1 = string_bytes c.push_declared.new.text in
    let t2 = string_bytes c.push_constant.new.text in
    let row = c.row.result.now in
    let name = λ (k : ℕ). codes "x" ++ decimal k in
    sum_line (kinds_in m) (variable (row_base_family part) i) (Constant (part_in part constant)) (λ k. part_in part (at (row_of n.state_rows i) k)) (state_top n) (variable Loaded) n.states
    (codes "    ") (codes "int64_t") t0 t1 t2 (string_bytes c.push_row.new.text) (string_bytes c.push_end.new.text) (row_base_wide m.parted n (sizes_in m) part i)
    (c.in_ok-push_declared.ensures ∙ ap (λ (t : List ℕ). t0 ++ declared_text (codes "    ") (codes "int64_t") t) (c.row_base_letter.ensures i))
    (c.in_ok-push_constant.ensures ∙ ap (λ (z : ℤ). t1 ++ constant_text z) (to_z-of_z w128 _ g ∙ c.part_of.ensures.value ∙ ap (part_in part) (to_z-of_z w128 _ f ∙ c.bound_at.ensures.value)))
    (c.in_ok-push_row.ensures ∙ ap (λ (t : List ℕ). t2 ++ t)
    (products_alike (λ k. part_in part (at row k *ℤ pos (2 ^ 0))) (λ k. part_in part (at row k)) (λ k. get_or m.states.now k 0) name name (length row) (λ k. ap (part_in part) (times_one (at row k))) (λ k. refl) ∙
    row_same (part_in part) row (row_of n.state_rows i) _ (state_magnitudes n) name n.states c.row.ensures.value m.state_tops (omega (arith, c.row.ensures.len, m.sound.form.sized.shaped.state_rows.cols))))
    c.in_ok-push_end.ensures
