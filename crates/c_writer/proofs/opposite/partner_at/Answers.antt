use Rattle.std.proofs.Common.{ℕ, List, ◌≡◌, ◌∙◌, ap, arith, length, get_or}
use Rattle.qp_model.specs.machine.Controller.{numbers}
use Rattle.overflow_check.proofs.Sizes.{rows_le}
use Rattle.overflow_check.specs.FastController.{with_last_version}
use Rattle.c_writer.proofs.Lists.{length-partners, partner_at}
use Rattle.c_writer.proofs.opposite.partner_at.Goals as goal

pub bounds-from-i : goal.bounds-from-i
bounds-from-i c =
    let long : length c.args.from.now.partners.now ≡ length c.args.from.now.c.now.bound.items = ap (λ (xs : List ℕ). length xs) c.args.from.now.opposites ∙ length-partners (numbers c.args.from.now.c.now) in
    omega (arith, long, c.requires.in_range)

pub offset_bounds-from-i : goal.offset_bounds-from-i
offset_bounds-from-i c = omega (arith, rows_le (with_last_version (numbers c.args.from.now.c.now)) c.args.from.now.sound.form.sized, c.requires.in_range)

pub returns : goal.returns
returns c = ap (λ (xs : List ℕ). get_or xs c.args.i 0) c.args.from.now.opposites ∙ partner_at (numbers c.args.from.now.c.now) c.args.i 0 c.requires.in_range
