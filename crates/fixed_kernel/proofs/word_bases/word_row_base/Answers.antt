use Rattle.std.proofs.Common.{◌≡◌, ◌^◌, ℤ, pos, ◌-ℤ◌, ◌*ℤ◌, List, to_z, of_z, rules, FitsSigned, arith, ap, sym, subst, ◌∙◌}
use Rattle.std.specs.Int.{w64, w128}
use Rattle.std.proofs.lemmas.Int.{to_z-of_z}
use Rattle.std.proofs.lemmas.List.{get_or_read}
use Rattle.integer_algebra.specs.Sums.{at}
use Rattle.mat_int.specs.Row.{list_dot}
use Rattle.mat_int.specs.Matrix.{row_of}
use Rattle.qp_model.specs.machine.Controller.{numbers}
use Rattle.overflow_check.specs.FastController.{with_last_version}
use Rattle.fixed_kernel.proofs.Rooms.{state_long}
use Rattle.fixed_kernel.proofs.WordRooms.{RowBaseFits, own_row_room, row_base_fits, less_as}
use Rattle.fixed_kernel.proofs.word_bases.word_row_base.Goals as goal
use Rattle.fixed_kernel.proofs.word_bases.word_row_base.Goals.{Start, After-short_scaled}

-- what the base meets fits
fits : (c : Start) → RowBaseFits (list_dot (row_of (numbers c.args.c.now).state_rows c.args.i) c.args.state.now) (at c.args.c.now.bound.items c.args.i) c.args.c.now.f
fits c = row_base_fits (with_last_version (numbers c.args.c.now)) c.args.state.now c.args.i c.requires.sound c.requires.words.width c.requires.in_range c.requires.state

pub dot-own-requires : goal.dot-own-requires
dot-own-requires c =
    let n = with_last_version (numbers c.args.c.now) in
    let own = own_row_room n c.args.state.now c.args.i c.requires.sound c.requires.words.width c.requires.in_range c.requires.state in
    record { lengths = c.row.ensures.len ∙ c.requires.sound.form.sized.shaped.state_rows.cols ∙ sym (state_long n c.args.state.now c.requires.sound c.requires.state); room = rw c.row.ensures.value own }

pub short_scaled-requires : goal.short_scaled-requires
short_scaled-requires c =
    let bound : FitsSigned w128 c.index.result.now = search rules in
    let read = to_z-of_z w128 _ bound ∙ get_or_read _ _ _ c.requires.in_range c.index.ensures (pos 0) in
    record {
      bits = omega (arith, c.requires.words.bits);
      fits = subst (λ (z : ℤ). FitsSigned w128 (z *ℤ pos (2 ^ c.args.c.now.f))) (sym read) (fits (goal.at.short_scaled-requires c).Start).bound;
    }

-- the base
base_is : (c : After-short_scaled) → to_z w128 (of_z w128 c.dot-own.result) -ℤ to_z w128 (of_z w128 c.short_scaled.result)
    ≡ list_dot (row_of (numbers c.args.c.now).state_rows c.args.i) c.args.state.now -ℤ at c.args.c.now.bound.items c.args.i *ℤ pos (2 ^ c.args.c.now.f)
base_is c =
    let bound : FitsSigned w128 c.index.result.now = search rules in
    let own : FitsSigned w128 c.dot-own.result = record { sfits = c.dot-own.type_inv } in
    let shifted : FitsSigned w128 c.short_scaled.result = record { sfits = c.short_scaled.type_inv } in
    less_as _ _ _ _ (to_z-of_z w128 _ own ∙ c.dot-own.ensures ∙ ap (λ (xs : List ℤ). list_dot xs c.args.state.now) c.row.ensures.value)
    (to_z-of_z w128 _ shifted ∙ c.short_scaled.ensures ∙ ap (λ (z : ℤ). z *ℤ pos (2 ^ c.args.c.now.f)) (to_z-of_z w128 _ bound ∙ get_or_read _ _ _ c.requires.in_range c.index.ensures (pos 0)))

pub overflow_sub-result : goal.overflow_sub-result
overflow_sub-result c =
    let p = goal.at.overflow_sub-result c in
    subst (FitsSigned w128) (sym (base_is p.After-short_scaled)) (fits p.Start).base

pub overflow_cast-result : goal.overflow_cast-result
overflow_cast-result c =
    let p = goal.at.overflow_cast-result c in
    let same = base_is p.After-short_scaled in
    subst (FitsSigned w64) (sym (to_z-of_z w128 _ (subst (FitsSigned w128) (sym same) (fits p.Start).base) ∙ same)) (fits p.Start).word

pub returns : goal.returns
returns c =
    let p = goal.at.returns c in
    let same = base_is p.After-short_scaled in
    let is = to_z-of_z w128 _ (subst (FitsSigned w128) (sym same) (fits p.Start).base) ∙ same in
    to_z-of_z w64 _ (subst (FitsSigned w64) (sym is) (fits p.Start).word) ∙ is
