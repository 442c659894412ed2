use Rattle.std.proofs.Common.{length, arith}
use Rattle.std.proofs.lemmas.List.{length-map}
use Rattle.text_lines.specs.Lines.{view, views}
use Rattle.mac_listing.proofs.Follows.{head_follows, body_follows}
use Rattle.mac_listing.proofs.grammar.can_follow.Goals as goal

pub returns-then-before-lt9 : goal.returns-then-before-lt9
returns-then-before-lt9 c =
    let before = c.args.before.now in
    let law = head_follows (views before) (view c.args.line.now) (length before) c.if-before-lt9.true (length-map before view) c.requires.beginning in
    (λ true. law.0 (c.is_head_line.ensures.0 true), λ more. c.is_head_line.ensures.1 (law.1 more))

pub returns-else-before-lt9 : goal.returns-else-before-lt9
returns-else-before-lt9 c =
    let before = c.args.before.now in
    let law = body_follows (views before) (view c.args.line.now) (length before) (omega (arith, c.if-before-lt9.false)) (length-map before view) c.requires.beginning c.requires.fits in
    (λ true. law.0 (c.is_body_line.ensures.0 true), λ more. c.is_body_line.ensures.1 (law.1 more))
