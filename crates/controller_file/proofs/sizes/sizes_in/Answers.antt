use Rattle.std.proofs.Common.{◌≡◌, ℤ, FitsSigned, to_z, of_z, ap, sym, subst, ◌∙◌, rules}
use Rattle.std.specs.Int.{w128}
use Rattle.std.proofs.lemmas.Int.{to_z-of_z}
use Rattle.controller_text.specs.declared.layout.Sizes.{Sizes}
use Rattle.text_lines.specs.Lines.{views, small}
use Rattle.controller_text.specs.Table.{Says}
use Rattle.controller_file.proofs.Follows.{sizes_read}
use Rattle.controller_file.proofs.sizes.sizes_in.Goals as goal

-- a number as it is read
read : (x z : ℤ) → FitsSigned w128 x → x ≡ z → small (to_z w128 (of_z w128 x)) ≡ small z
read x z fits e = ap small (to_z-of_z w128 x fits ∙ e)

pub returns : goal.returns
returns c =
    let fits : FitsSigned w128 c.number_in.result = search rules in
    let fits2 : FitsSigned w128 c.number_in-2.result = search rules in
    let fits3 : FitsSigned w128 c.number_in-3.result = search rules in
    let fits4 : FitsSigned w128 c.number_in-4.result = search rules in
    let fits5 : FitsSigned w128 c.number_in-5.result = search rules in
    let version = c.small.ensures ∙ read _ _ fits c.number_in.ensures in
    let n = c.small-2.ensures ∙ read _ _ fits2 c.number_in-2.ensures in
    let p = c.small-3.ensures ∙ read _ _ fits3 c.number_in-3.ensures in
    let stages = c.small-4.ensures ∙ read _ _ fits4 c.number_in-4.ensures in
    let m = c.small-5.ensures ∙ read _ _ fits5 c.number_in-5.ensures in
    let same = sym (λ i. record { version = version i; n = n i; p = p i; stages = stages i; m = m i }) in
    subst (λ (z : Sizes). Says (views c.args.lines.now) z) same (sizes_read (views c.args.lines.now) c.requires)
