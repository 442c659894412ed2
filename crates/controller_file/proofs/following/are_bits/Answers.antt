use Rattle.std.proofs.Common.{pos, rules}
use Rattle.std.specs.Prelude.{◌↔◌, IsTrue}
use Rattle.controller_file.specs.Following.{IsFrom}
use Rattle.controller_file.proofs.following.are_bits.Goals as goal

pub returns-then-is_from : goal.returns-then-is_from
returns-then-is_from c =
    let grid : IsFrom (pos 0) (pos 24) c.args.g = search rules in
    let fraction : IsFrom c.args.g (pos 48) c.args.f = search rules in
    let step : IsFrom (pos 0) (pos 40) c.args.s = search rules in
    let width : IsTrue c.is_from-then-is_from.result ↔ IsFrom (pos 2) (pos 128) c.args.w = search rules in
    (λ true. (grid, fraction, step, width.0 true), λ all. width.1 all.3)
