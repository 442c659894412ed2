use Rattle.std.proofs.Common.{◌≡◌, ◌∙◌, Bool, true, false, Option, Some, None, length, refl, sym, ap}
use Rattle.std.specs.Prelude.{◌↔◌, IsTrue, is_some, not, MatchOption, slice_get}
use Rattle.std.proofs.lemmas.Bool.{false≢true}
use Rattle.std.proofs.lemmas.List.{length-map}
use Rattle.text_lines.specs.Lines.{view, views, place}
use Rattle.controller_text.specs.Table.{places}
use Rattle.controller_file.specs.Following.{IsAnyWhole}
use Rattle.controller_file.proofs.Follows.{whole_if, whole_only}
use Rattle.controller_file.proofs.sizes.is_whole.Goals as goal

none_where : {X : Type 0} (o : Option X) (b : Bool) (A B : Type 0) (P : X → Type 0) → is_some o ≡ not b → MatchOption o A P → (A → B) → ((x : X) → P x → B → ⊥) → IsTrue b ↔ B
none_where None true A B P e m f g = (λ true. f m, λ b. refl)
none_where None false A B P e m f g = absurd (false≢true e)
none_where (Some x) true A B P e m f g = absurd (false≢true (sym e))
none_where (Some x) false A B P e m f g = (λ true. absurd (false≢true true), λ b. absurd (g x m b))

pub returns : goal.returns
returns c =
    let ls = views c.args.lines.now in
    let z = c.sizes_in.result in
    let says = c.sizes_in.ensures in
    let at = ap (slice_get (places z)) (length-map c.args.lines.now view) in
    none_where c.place_at.result c.is_none.result (slice_get (places z) (length c.args.lines.now) ≡ None) (IsAnyWhole ls) (λ p. slice_get (places z) (length c.args.lines.now) ≡ Some (place p.0.now p.1)) c.is_none.ensures c.place_at.ensures
    (λ none. whole_if ls z c.requires says (at ∙ none))
    (λ p some w. (let wrong : None ≡ Some (place p.0.now p.1) = sym (whole_only ls z says w) ∙ at ∙ some in cc wrong))
