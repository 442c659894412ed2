use Rattle.std.proofs.Common.{◌∙◌, ◌-◌, ◌<◌, ◌++◌, ◌∷◌, [], List, length, take, drop, ap, arith, rules, sym, subst}
use Rattle.std.specs.Prelude.{IsTrue}
use Rattle.std.proofs.lemmas.Bool.{false≢true}
use Rattle.std.proofs.lemmas.List.{length-map}
use Rattle.text_lines.specs.Lines.{Keyed, view, views, place_of}
use Rattle.text_lines.specs.Grammar.{IsBeginning}
use Rattle.controller_file.specs.Following.{IsAnyWhole}
use Rattle.cell_file.proofs.Alikes.{test_by}
use Rattle.cell_file.proofs.Places.{tail_views}
use Rattle.cell_file.proofs.Grammars.{end_is}
use Rattle.cell_file.proofs.Follows.{end_follows, end_only, tail_begins, first_follows, cell_only, alike_follows, alike_only}
use Rattle.cell_file.proofs.grammar.can_follow.Goals as goal

pub any_can_follow-requires-clause-beginning : goal.any_can_follow-requires-clause-beginning
any_can_follow-requires-clause-beginning c =
    let lines = c.args.before.now in
    let p = c.place_after-place.result in
    let some : 0 < length lines = search rules in
    subst (IsBeginning IsAnyWhole) (sym (tail_views lines p.start))
    (tail_begins (views lines) p c.place_after-place.ensures (omega (arith, some, length-map lines view)) c.requires.beginning (λ is. absurd (omega (arith, is, c.if-place-count_in.false, c.count_in.ensures))))

pub returns-then-place-before : goal.returns-then-place-before
returns-then-place-before c =
    let lines = c.args.before.now in
    let l = view c.args.line.now in
    let p = c.place_after-place.result in
    let some : 0 < length lines = search rules in
    let long : 0 < length (views lines) = omega (arith, some, length-map lines view) in
    let all = c.if-place-count_in.true ∙ c.count_in.ensures in (
      λ t. end_follows (views lines) p c.place_after-place.ensures long l c.requires.beginning all (omega (arith, c.if-place-before.true, length-map lines view)) (end_is l (c.has_place.ensures.0 t)),
      λ b. c.has_place.ensures.1 (ap place_of (end_only (views lines) p c.place_after-place.ensures long l all b).1),
    )

pub returns-then-place-eq0 : goal.returns-then-place-eq0
returns-then-place-eq0 c =
    let lines = c.args.before.now in
    let p = c.place_after-place.result in
    let some : 0 < length lines = search rules in
    let long : 0 < length (views lines) = omega (arith, some, length-map lines view) in
    let goes = subst (λ (ks : List Keyed). IsBeginning IsAnyWhole (ks ++ view c.args.line.now ∷ [])) (tail_views lines p.start) (c.any_can_follow.ensures.0 c.if-any_can_follow.true) in (
      λ t. first_follows (views lines) p c.place_after-place.ensures long (view c.args.line.now) c.requires.beginning (λ is. absurd (omega (arith, is, c.if-place-count_in.false, c.count_in.ensures))) (omega (arith, c.if-place-eq0.true)) goes,
      λ b. search rules,
    )

pub returns-else-place-eq0 : goal.returns-else-place-eq0
returns-else-place-eq0 c =
    let lines = c.args.before.now in
    let l = view c.args.line.now in
    let p = c.place_after-place.result in
    let some : 0 < length lines = search rules in
    let long : 0 < length (views lines) = omega (arith, some, length-map lines view) in
    let goes = subst (λ (ks : List Keyed). IsBeginning IsAnyWhole (ks ++ l ∷ [])) (tail_views lines p.start) (c.any_can_follow.ensures.0 c.if-any_can_follow.true) in
    let tail = views (take (length lines - p.start) (drop p.start lines)) in
    let test = test_by lines p.start (IsTrue c.is_alike.result) c.deref.result.now l.numbers c.deref.ensures.value c.is_alike.ensures in (
      λ t. alike_follows (views lines) p c.place_after-place.ensures long l (IsTrue c.is_alike.result) tail (tail_views lines p.start) test c.requires.beginning
          (λ is. absurd (omega (arith, is, c.if-place-count_in.false, c.count_in.ensures))) (λ is. absurd (omega (arith, is, c.if-place-eq0.false))) goes t,
      λ b. alike_only (views lines) p c.place_after-place.ensures long l (IsTrue c.is_alike.result) tail (tail_views lines p.start) test
          (λ is. absurd (omega (arith, is, c.if-place-count_in.false, c.count_in.ensures))) (λ is. absurd (omega (arith, is, c.if-place-eq0.false))) b,
    )

pub returns-else-any_can_follow : goal.returns-else-any_can_follow
returns-else-any_can_follow c =
    let lines = c.args.before.now in
    let p = c.place_after-place.result in
    let some : 0 < length lines = search rules in
    let long : 0 < length (views lines) = omega (arith, some, length-map lines view) in (
      λ t. absurd (false≢true (sym c.if-any_can_follow.false ∙ t)),
      λ b. c.any_can_follow.ensures.1 (subst (λ (ks : List Keyed). IsBeginning IsAnyWhole (ks ++ view c.args.line.now ∷ [])) (sym (tail_views lines p.start))
          (cell_only (views lines) p c.place_after-place.ensures long (view c.args.line.now) (λ is. absurd (omega (arith, is, c.if-place-count_in.false, c.count_in.ensures))) b)),
    )
