use Rattle.std.proofs.Common.{◌≢◌, ◌∙◌, List, map, ap, sym}
use Rattle.controller_text.specs.declared.layout.Sizes.{Sizes}
use Rattle.text_lines.specs.Lines.{Keyed, views, line_in, small}
use Rattle.controller_text.proofs.Blocks.{said_sizes, if_ok}
use Rattle.controller_file.proofs.Again.{exponents_second}
use Rattle.controller_file.specs.Following.{IsAnyWhole}
use Rattle.text_lines.proofs.Beginnings.{begun}
use Rattle.controller_file.proofs.parts.exponents_of.Goals as goal

pub returns-else-sizes-eq-FIRST_VERSION : goal.returns-else-sizes-eq-FIRST_VERSION
returns-else-sizes-eq-FIRST_VERSION c = if_ok c.smalls.result c.smalls.ensures (λ v made d form e.
    let same = said_sizes (views c.args.lines.now) c.sizes_in-sizes.result d e c.sizes_in-sizes.ensures in
    let second : d.version ≢ 1 = λ first. c.if-sizes-eq-FIRST_VERSION.false (sym (ap (λ (z : Sizes). z.version) same) ∙ first) in
    made ∙ ap (map small) (c.numbers_in.ensures ∙ ap (λ (ls : List Keyed). line_in ls 0) (c.block_in.ensures d form e)) ∙ exponents_second d form second)

pub sizes_in-sizes-requires : goal.sizes_in-sizes-requires
sizes_in-sizes-requires c = begun IsAnyWhole (views c.args.lines.now) c.requires
