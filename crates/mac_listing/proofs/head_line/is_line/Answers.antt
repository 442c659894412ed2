use Rattle.std.proofs.Common.{◌≡◌, ◌∙◌, ap, sym}
use Rattle.std.proofs.lemmas.Bool.Decides.{Decides-eqb, Decides-int_eq}
use Rattle.std.proofs.lemmas.Slice.Eq.{slice_eq-Decides}
use Rattle.text_lines.specs.Lines.{Keyed, keyed_line}
use Rattle.mac_listing.proofs.head_line.is_line.Goals as goal

pub returns-then-eq : goal.returns-then-eq
returns-then-eq c =
    let key : c.args.line.now.key.now ≡ c.args.key.now = (slice_eq-Decides Decides-eqb _ _ _ c.eq.ensures).0 c.if-eq.true ∙ c.as_bytes.ensures.value in
    let own : c.as_slice.result.now ≡ c.args.line.now.numbers.items = c.as_slice.ensures.value in
    let same = slice_eq-Decides Decides-int_eq c.as_slice.result.now c.args.numbers.now c.eq-then-eq.result c.eq-then-eq.ensures in (
      λ true.
          let numbers : c.args.line.now.numbers.items ≡ c.args.numbers.now = sym own ∙ same.0 true in
          (λ i. keyed_line (key i) (numbers i)),
      λ e. same.1 (own ∙ ap (λ (k : Keyed). k.numbers) e),
    )
