use Rattle.std.proofs.Common.{◌≡◌, ℕ, ◌≤◌, ◌+◌, ◌^◌, Fits, unsigned_abs, rules, arith, ap, ◌∙◌}
use Rattle.std.specs.Int.{w128}
use mir.Val.{SFits}
use Rattle.integer_algebra.specs.Division.{ceil_div}
use Rattle.integer_algebra.specs.Sizes.{amount}
use Rattle.mat_int.specs.Matrix.{entry_of}
use Rattle.qp_model.specs.form.Form.{farthest}
use Rattle.qp_model.proofs.SizeFacts.{positive}
use Rattle.condensed_form.specs.Form.{held}
use Rattle.step_error.proofs.Ceilings.{quotient_is, ceil_small, ceil_twice, positive_by}
use Rattle.step_error.proofs.SumFacts.{read_size}
use Rattle.step_error.specs.Gains.{gain_at, missed_sum}
use Rattle.step_error.proofs.GainRooms.{sum_small, through}
use Rattle.step_error.proofs.real_gains.Gains.gradient.Goals as goal

pub farthest_row-requires-clause-small : goal.farthest_row-requires-clause-small
farthest_row-requires-clause-small c =
    let self = c.args.self.now in
    rw self.made.systems.shapes.hess.cols (self.made.systems.sums c.args.j c.requires.entry)

pub returns : goal.returns
returns c =
    let self = c.args.self.now in
    let h = held self.c.now in
    let systems = self.made.systems in
    let f : SFits w128 self.c.now.hess_den = search rules in
    let g : SFits w128 self.c.now.limit_den = search rules in
    let scale = read_size _ _ f c.unsigned_abs-hess_den.ensures.value in
    let limit = read_size _ _ g c.unsigned_abs.ensures.value in
    let once = quotient_is _ _ _ (missed_sum h self.f (gain_at self.p_mat.now self.t.now self.w_mat.now) self.state self.top c.args.j) (unsigned_abs self.c.now.limit_den)
    (positive _ systems.limit_den) c.div_ceil-missed.ensures c.missed_sum.ensures limit in
    let twice = quotient_is _ _ _ _ (unsigned_abs self.c.now.hess_den) (positive _ systems.hess_den) c.div_ceil.ensures once scale in
    let row = quotient_is _ _ _ (amount h.entries (λ l. farthest (entry_of self.c.now.hess c.args.j l) (unsigned_abs (entry_of self.c.now.hess_rad c.args.j l)))) (unsigned_abs self.c.now.hess_den)
    (positive _ systems.hess_den) c.div_ceil-2.ensures
    (c.farthest_row.ensures ∙ ap (λ n. amount n (λ l. farthest (entry_of self.c.now.hess c.args.j l) (unsigned_abs (entry_of self.c.now.hess_rad c.args.j l)))) systems.shapes.hess.cols) scale in
    (λ t. (twice ∙ ceil_twice _ (unsigned_abs self.c.now.limit_den) (unsigned_abs self.c.now.hess_den) (positive _ systems.limit_den) (positive _ systems.hess_den)) t + row t)

pub overflow_add-result : goal.overflow_add-result
overflow_add-result c =
    let self = c.args.self.now in
    let h = held self.c.now in
    let systems = self.made.systems in
    let f : SFits w128 self.c.now.hess_den = search rules in
    let g : SFits w128 self.c.now.limit_den = search rules in
    let scale = read_size _ _ f c.unsigned_abs-hess_den.ensures.value in
    let limit = read_size _ _ g c.unsigned_abs.ensures.value in
    let sum = missed_sum h self.f (gain_at self.p_mat.now self.t.now self.w_mat.now) self.state self.top c.args.j in
    let once = quotient_is _ _ _ sum (unsigned_abs self.c.now.limit_den) (positive _ systems.limit_den) c.div_ceil-missed.ensures c.missed_sum.ensures limit in
    let twice = quotient_is _ _ _ _ (unsigned_abs self.c.now.hess_den) (positive _ systems.hess_den) c.div_ceil.ensures once scale in
    let row = quotient_is _ _ _ _ (unsigned_abs self.c.now.hess_den) (positive _ systems.hess_den) c.div_ceil-2.ensures
    (c.farthest_row.ensures ∙ ap (λ n. amount n (λ l. farthest (entry_of self.c.now.hess c.args.j l) (unsigned_abs (entry_of self.c.now.hess_rad c.args.j l)))) systems.shapes.hess.cols) scale in
    close twice row
    (through (ceil_small (ceil_div sum (unsigned_abs self.c.now.limit_den)) (unsigned_abs self.c.now.hess_den) (positive _ systems.hess_den))
    (through (ceil_small sum (unsigned_abs self.c.now.limit_den) (positive _ systems.limit_den)) (sum_small self.c.now _ _ _ _ _ _ self.made c.args.j c.requires.entry c.requires.room)))
    (through (ceil_small _ (unsigned_abs self.c.now.hess_den) (positive _ systems.hess_den)) (systems.sums c.args.j c.requires.entry))
  where
    close : {a b x y : ℕ} → a ≡ x → b ≡ y → x ≤ 2 ^ 125 → y ≤ 2 ^ 126 → Fits w128 (a + b)
    close {a} {b} {x} {y} e g h k = omega (arith, e, g, h, k)

pub missed_sum-requires-clause-entry : goal.missed_sum-requires-clause-entry
missed_sum-requires-clause-entry c = c.requires.entry

pub missed_sum-requires-clause-room : goal.missed_sum-requires-clause-room
missed_sum-requires-clause-room c = c.requires.room

pub farthest_row-requires-clause-pair : goal.farthest_row-requires-clause-pair
farthest_row-requires-clause-pair c = c.args.self.now.made.systems.pair

pub farthest_row-requires-clause-inside : goal.farthest_row-requires-clause-inside
farthest_row-requires-clause-inside c = omega (arith, c.requires.entry)

pub div_ceil-missed-requires : goal.div_ceil-missed-requires
div_ceil-missed-requires c =
    let f : SFits w128 c.args.self.now.c.now.limit_den = search rules in
    positive_by (read_size _ _ f c.unsigned_abs.ensures.value) (positive _ c.args.self.now.made.systems.limit_den)

pub div_ceil-requires : goal.div_ceil-requires
div_ceil-requires c =
    let f : SFits w128 c.args.self.now.c.now.hess_den = search rules in
    positive_by (read_size _ _ f c.unsigned_abs-hess_den.ensures.value) (positive _ c.args.self.now.made.systems.hess_den)

pub div_ceil-requires-2 : goal.div_ceil-requires-2
div_ceil-requires-2 c =
    let f : SFits w128 c.args.self.now.c.now.hess_den = search rules in
    positive_by (read_size _ _ f c.unsigned_abs-hess_den.ensures.value) (positive _ c.args.self.now.made.systems.hess_den)
