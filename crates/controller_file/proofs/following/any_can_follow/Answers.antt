use Rattle.std.proofs.Common.{◌≡◌, ◌∙◌, ℤ, List, Some, None, length, ap, sym, subst, arith}
use Rattle.std.specs.Prelude.{slice_get}
use Rattle.std.proofs.lemmas.Bool.{false≢true}
use Rattle.std.proofs.lemmas.List.{length-map}
use Rattle.std.proofs.lemmas.Option.{MatchOption-at_some, MatchOption-at_none}
use Rattle.text_lines.specs.Lines.{view, views, Place, place, place_of}
use Rattle.controller_text.specs.Table.{places}
use Rattle.controller_file.specs.Following.{IsAnyWhole, InRange, head_block}
use Rattle.text_lines.proofs.Beginnings.{few_right}
use Rattle.controller_file.proofs.Beginnings.{any_grammar}
use Rattle.controller_file.proofs.Follows.{follows}
use Rattle.controller_file.proofs.following.any_can_follow.Goals as goal

pub is_in_range-requires-clause-few : goal.is_in_range-requires-clause-few
is_in_range-requires-clause-few c = omega (arith, few_right IsAnyWhole any_grammar (views c.args.before.now) c.requires.beginning, length-map c.args.before.now view)

pub returns-then-has_place : goal.returns-then-has_place
returns-then-has_place c =
    let ls = views c.args.before.now in
    let l = view c.args.line.now in
    let n = length c.args.before.now in
    let z = c.sizes_in-sizes.result in
    let law = follows ls l z n (length-map c.args.before.now view) c.requires.beginning c.sizes_in-sizes.ensures c.requires.fits in
    let at = MatchOption-at_some _ (λ p. slice_get (places z) n ≡ Some (place p.0.now p.1)) (c.in-Some.key, c.in-Some.count) c.in-Some.is c.place_at.ensures in
    let same : place_of l ≡ place c.in-Some.key.now c.in-Some.count = c.has_place.ensures.0 c.if-has_place.true in
    let numbers = c.deref.ensures.value in (
      λ true. law.0 (record { place = at ∙ ap (λ (p : Place). Some p) (sym same); range = subst (λ (zs : List ℤ). InRange (head_block z n) ls z zs) numbers (c.is_in_range.ensures.0 true) }),
      λ more. c.is_in_range.ensures.1 (subst (λ (zs : List ℤ). InRange (head_block z n) ls z zs) (sym numbers) (law.1 more).range),
    )

-- where a line has another place, or there is none
pub returns-else-has_place : goal.returns-else-has_place
returns-else-has_place c =
    let n = length c.args.before.now in
    let z = c.sizes_in-sizes.result in
    let at = MatchOption-at_some _ (λ p. slice_get (places z) n ≡ Some (place p.0.now p.1)) (c.in-Some.key, c.in-Some.count) c.in-Some.is c.place_at.ensures in (
      λ true. absurd (false≢true (sym c.if-has_place.false ∙ true)),
      λ more.
          let law = follows (views c.args.before.now) (view c.args.line.now) z n (length-map c.args.before.now view) c.requires.beginning c.sizes_in-sizes.ensures c.requires.fits in
          let here : Some (place c.in-Some.key.now c.in-Some.count) ≡ Some (place_of (view c.args.line.now)) = sym at ∙ (law.1 more).place in
          c.has_place.ensures.1 (cc (sym here)),
    )

pub returns-in-None : goal.returns-in-None
returns-in-None c =
    let n = length c.args.before.now in
    let z = c.sizes_in-sizes.result in
    let none = MatchOption-at_none (slice_get (places z) n ≡ None) (λ p. slice_get (places z) n ≡ Some (place p.0.now p.1)) c.in-None.is c.place_at.ensures in (
      λ true. absurd (false≢true true),
      λ more.
          let law = follows (views c.args.before.now) (view c.args.line.now) z n (length-map c.args.before.now view) c.requires.beginning c.sizes_in-sizes.ensures c.requires.fits in
          let here : None ≡ Some (place_of (view c.args.line.now)) = sym none ∙ (law.1 more).place in
          absurd (cc here),
    )
