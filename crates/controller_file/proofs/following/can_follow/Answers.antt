use Rattle.std.proofs.Common.{◌∙◌, sym}
use Rattle.std.proofs.lemmas.Bool.{false≢true}
use Rattle.text_lines.specs.Lines.{view, views}
use Rattle.controller_file.proofs.Plain.{any_begins, plain_follows}
use Rattle.controller_file.proofs.following.can_follow.Goals as goal

pub any_can_follow-requires-clause-beginning : goal.any_can_follow-requires-clause-beginning
any_can_follow-requires-clause-beginning c = any_begins (views c.args.before.now) c.requires.beginning

pub returns-then-any_can_follow : goal.returns-then-any_can_follow
returns-then-any_can_follow c =
    let law = plain_follows (views c.args.before.now) (view c.args.line.now) in
    (λ true. law.1 (c.any_can_follow.ensures.0 c.if-any_can_follow.true, c.is_plain.ensures.0 true), λ more. c.is_plain.ensures.1 (law.0 more).1)

pub returns-else-any_can_follow : goal.returns-else-any_can_follow
returns-else-any_can_follow c =
    let law = plain_follows (views c.args.before.now) (view c.args.line.now) in
    (λ true. absurd (false≢true (sym c.if-any_can_follow.false ∙ true)), λ more. c.any_can_follow.ensures.1 (law.0 more).0)
