use Rattle.std.proofs.Common.{pos, rules}
use Rattle.std.specs.Prelude.{◌↔◌, IsTrue}
use Rattle.qp_model.specs.problem.Limits.{most_states, most_inputs, most_stages, most_rows}
use Rattle.controller_file.specs.Following.{IsFrom}
use Rattle.controller_file.proofs.following.are_sizes.Goals as goal

pub returns-then-is_from : goal.returns-then-is_from
returns-then-is_from c =
    let n : IsFrom (pos 1) (pos (most_states c.args.version)) c.args.n = search rules in
    let p : IsFrom (pos 1) (pos (most_inputs c.args.version)) c.args.p = search rules in
    let stages : IsFrom (pos 1) (pos (most_stages c.args.version)) c.args.stages = search rules in
    let m : IsTrue c.is_from-then-is_from.result ↔ IsFrom (pos 1) (pos (most_rows c.args.version)) c.args.m = search rules in
    (λ true. (n, p, stages, m.0 true), λ all. m.1 all.3)
