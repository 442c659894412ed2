use Rattle.std.proofs.Common.{◌≡◌, ◌++◌, ◌∙◌, length, ◌*ℤ◌, ◌^◌, pos, ℤ, ℕ, List, FitsSigned, ap, arith, rules, decimal, codes, string_bytes}
use Rattle.std.specs.Int.{w128}
use Rattle.std.proofs.lemmas.Int.{to_z-of_z}
use Rattle.integer_algebra.specs.Sums.{at}
use Rattle.mat_int.specs.Matrix.{row_of}
use Rattle.qp_model.specs.machine.Controller.{numbers}
use Rattle.qp_model.specs.machine.AbsoluteSums.{state_magnitudes}
use Rattle.overflow_check.proofs.Sizes.{length-state_reach}
use Rattle.c_language.specs.Syntax.{variable}
use Rattle.c_language.specs.Syntax.Family.{Loaded}
use Rattle.c_language.specs.Syntax.Expression.{Constant}
use Rattle.c_program.specs.Of.{state_top}
use Rattle.c_language.specs.Text.{constant_text}
use Rattle.overflow_check.specs.FastController.{with_last_version}
use Rattle.c_writer.proofs.Rooms.{own_room, scaled_fit}
use Rattle.c_writer.specs.Terms.{part_in, entry_base_family, declared_text}
use Rattle.c_writer.specs.Measured.{sizes_in, kinds_in}
use Rattle.c_writer.proofs.Texts.{sum_line, row_same}
use Rattle.c_writer.proofs.InParts.{entry_base_wide}
use Rattle.c_writer.proofs.start.push_entry_base.Goals as goal

pub push_row-requires-clause-long : goal.push_row-requires-clause-long
push_row-requires-clause-long c =
    let n = numbers c.args.from.now.c.now in
    rw c.args.from.now.state_tops (omega (arith, c.row.ensures.len, c.args.from.now.sound.form.sized.shaped.state_gains.cols, length-state_reach (with_last_version n) c.args.from.now.sound.form.sized))

pub push_row-requires-clause-room : goal.push_row-requires-clause-room
push_row-requires-clause-room c =
    let n = numbers c.args.from.now.c.now in
    let long : length c.row.result.now ≡ length c.args.from.now.states.now =
    rw c.args.from.now.state_tops (omega (arith, c.row.ensures.len, c.args.from.now.sound.form.sized.shaped.state_gains.cols, length-state_reach (with_last_version n) c.args.from.now.sound.form.sized)) in
    scaled_fit c.row.result.now c.args.from.now.states.now n.step_exponent long (rw (c.row.ensures.value, c.args.from.now.state_tops) (own_room n c.args.j c.args.from.now.sound c.requires.in_range))

pub returns : goal.returns
returns c =
    let m = c.args.from.now in
    let n = numbers m.c.now in
    let part = c.args.part in
    let j = c.args.j in
    let f : FitsSigned w128 c.offset_at.result = search rules in
    let g : FitsSigned w128 c.part_of.result = search rules in
    let constant = at n.offsets j *ℤ pos (2 ^ n.fraction_bits) *ℤ pos (2 ^ n.step_exponent) in
    let factor = λ (z : ℤ). part_in part (z *ℤ pos (2 ^ n.step_exponent)) in
    let t0 = string_bytes c.args.text.now in
    let t1 = string_bytes c.push_declared.new.text in
    let t2 = string_bytes c.push_constant.new.text in
    sum_line (kinds_in m) (variable (entry_base_family part) j) (Constant (part_in part constant)) (λ k. factor (at (row_of n.state_gains j) k)) (state_top n) (variable Loaded) n.states
    (codes "    ") (codes "int64_t") t0 t1 t2 (string_bytes c.push_row.new.text) (string_bytes c.push_end.new.text) (entry_base_wide m.parted n (sizes_in m) part j)
    (c.in_ok-push_declared.ensures ∙ ap (λ (name : List ℕ). t0 ++ declared_text (codes "    ") (codes "int64_t") name) (c.entry_base_letter.ensures j))
    (c.in_ok-push_constant.ensures ∙ ap (λ (z : ℤ). t1 ++ constant_text z) (to_z-of_z w128 _ g ∙ c.part_of.ensures.value ∙ ap (part_in part) (to_z-of_z w128 _ f ∙ c.offset_at.ensures.value)))
    (c.in_ok-push_row.ensures ∙ ap (λ (t : List ℕ). t2 ++ t)
    (row_same factor _ (row_of n.state_gains j) _ (state_magnitudes n) (λ k. codes "x" ++ decimal k) n.states c.row.ensures.value m.state_tops (omega (arith, c.row.ensures.len, m.sound.form.sized.shaped.state_gains.cols))))
    c.in_ok-push_end.ensures
