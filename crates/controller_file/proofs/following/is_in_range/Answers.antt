use Rattle.std.proofs.Common.{◌^◌, pos, ◌∙◌, ap, All, Option, Some, sym, subst, rules}
use Rattle.std.specs.Prelude.{◌↔◌, IsTrue}
use Rattle.integer_algebra.specs.Sums.{at}
use Rattle.text_lines.specs.Lines.{views, line_in}
use Rattle.qp_model.specs.problem.Limits.{text_version}
use Rattle.qp_model.specs.problem.Range.{IsNumerator}
use Rattle.controller_text.specs.declared.block.Block.{Block}
use Rattle.overflow_check.specs.FastController.{fast_version}
use Rattle.controller_text.specs.TextForm.{most_steps}
use Rattle.controller_file.specs.Following.{IsFrom, AreSizes, AreBits, InRange}
use Rattle.controller_file.proofs.following.is_in_range.Goals as goal

pub returns-in-Some-Size : goal.returns-in-Some-Size
returns-in-Some-Size c =
    let zs = c.args.numbers.now in
    let sizes : IsTrue c.are_sizes.result ↔ AreSizes c.args.sizes.version (at zs 0) (at zs 1) (at zs 2) (at zs 3) = search rules in
    subst (λ (b : Option Block). IsTrue c.are_sizes.result ↔ InRange b (views c.args.before.now) c.args.sizes zs) (sym (sym c.head_block.ensures ∙ c.in-Some-Size.is ∙ ap (λ (b : Block). Some b) c.in-Some-Size.field-0-is)) sizes

pub returns-in-Some-Bits : goal.returns-in-Some-Bits
returns-in-Some-Bits c =
    let zs = c.args.numbers.now in
    let bits : IsTrue c.are_bits.result ↔ AreBits (at zs 0) (at zs 1) (at zs 2) (at zs 3) = search rules in
    subst (λ (b : Option Block). IsTrue c.are_bits.result ↔ InRange b (views c.args.before.now) c.args.sizes zs) (sym (sym c.head_block.ensures ∙ c.in-Some-Bits.is ∙ ap (λ (b : Block). Some b) c.in-Some-Bits.field-0-is)) bits

pub returns-in-Some-Version : goal.returns-in-Some-Version
returns-in-Some-Version c =
    let zs = c.args.numbers.now in
    let version : IsTrue c.is_from.result ↔ IsFrom (pos text_version) (pos fast_version) (at zs 0) = search rules in
    subst (λ (b : Option Block). IsTrue c.is_from.result ↔ InRange b (views c.args.before.now) c.args.sizes zs) (sym (sym c.head_block.ensures ∙ c.in-Some-Version.is ∙ ap (λ (b : Block). Some b) c.in-Some-Version.field-0-is)) version

pub returns-in-Some-Steps : goal.returns-in-Some-Steps
returns-in-Some-Steps c =
    let zs = c.args.numbers.now in
    let steps : IsTrue c.is_from-in-Some-Steps.result ↔ IsFrom (pos 1) (pos (most_steps c.args.sizes.version)) (at zs 0) = search rules in
    subst (λ (b : Option Block). IsTrue c.is_from-in-Some-Steps.result ↔ InRange b (views c.args.before.now) c.args.sizes zs) (sym (sym c.head_block.ensures ∙ c.in-Some-Steps.is ∙ ap (λ (b : Block). Some b) c.in-Some-Steps.field-0-is)) steps

pub returns-in-Some-Clamp : goal.returns-in-Some-Clamp
returns-in-Some-Clamp c =
    let zs = c.args.numbers.now in
    let clamp : IsTrue c.is_from-in-Some-Clamp.result ↔ IsFrom (pos 0) (pos (2 ^ 126)) (at zs 0) = search rules in
    subst (λ (b : Option Block). IsTrue c.is_from-in-Some-Clamp.result ↔ InRange b (views c.args.before.now) c.args.sizes zs) (sym (sym c.head_block.ensures ∙ c.in-Some-Clamp.is ∙ ap (λ (b : Block). Some b) c.in-Some-Clamp.field-0-is)) clamp

pub returns-in-Some-Exponents : goal.returns-in-Some-Exponents
returns-in-Some-Exponents c =
    let zs = c.args.numbers.now in
    let exponents : IsTrue c.are_from.result ↔ All (IsFrom (pos 0) (at (line_in (views c.args.before.now) 2) 2)) zs = search rules in
    subst (λ (b : Option Block). IsTrue c.are_from.result ↔ InRange b (views c.args.before.now) c.args.sizes zs) (sym (sym c.head_block.ensures ∙ c.in-Some-Exponents.is ∙ ap (λ (b : Block). Some b) c.in-Some-Exponents.field-0-is)) exponents

pub returns-in-Some-Low : goal.returns-in-Some-Low
returns-in-Some-Low c =
    let zs = c.args.numbers.now in
    let low : IsTrue c.are_numerators.result ↔ All IsNumerator zs = search rules in
    subst (λ (b : Option Block). IsTrue c.are_numerators.result ↔ InRange b (views c.args.before.now) c.args.sizes zs) (sym (sym c.head_block.ensures ∙ c.in-Some-Low.is ∙ ap (λ (b : Block). Some b) c.in-Some-Low.field-0-is)) low
