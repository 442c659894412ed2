use Rattle.std.proofs.Common.{◌∙◌, ◌<◌, length, arith, rules}
use Rattle.std.proofs.lemmas.Bool.{lt-ltb}
use Rattle.std.proofs.lemmas.Bool.Decides.{nat_tests}
use Rattle.std.proofs.lemmas.List.{length-map}
use Rattle.text_lines.specs.Lines.{view, views}
use Rattle.cell_file.proofs.Follows.{whole_if, whole_only}
use Rattle.cell_file.proofs.grammar.is_whole.Goals as goal

pub returns-then-place-count_in : goal.returns-then-place-count_in
returns-then-place-count_in c =
    let lines = c.args.lines.now in
    let p = c.place_after-place.result in
    let some : 0 < length lines = search rules in
    let long : 0 < length (views lines) = omega (arith, some, length-map lines view) in (
      λ t. (let lt : p.start < length lines = grind (arith, nat_tests) in whole_if (views lines) p c.place_after-place.ensures long c.requires (c.if-place-count_in.true ∙ c.count_in.ensures) (omega (arith, lt, length-map lines view))),
      λ w. lt-ltb p.start (length lines) (omega (arith, (whole_only (views lines) p c.place_after-place.ensures long w).1, length-map lines view)),
    )

pub returns-else-place-count_in : goal.returns-else-place-count_in
returns-else-place-count_in c =
    let lines = c.args.lines.now in
    let p = c.place_after-place.result in
    let some : 0 < length lines = search rules in
    let long : 0 < length (views lines) = omega (arith, some, length-map lines view) in (
      λ t. (let no : ⊥ = grind (arith, nat_tests, c.if-place-count_in.false) in absurd no),
      λ w. absurd (omega (arith, (whole_only (views lines) p c.place_after-place.ensures long w).0, c.if-place-count_in.false, c.count_in.ensures)),
    )
