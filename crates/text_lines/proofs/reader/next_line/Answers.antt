use Rattle.std.proofs.Common.{◌≡◌, ◌≢◌, ◌∙◌, Bool, true, false, Option, [], ◌∷◌, ◌++◌, refl, sym, subst}
use Rattle.std.specs.Prelude.{IfNone}
use Rattle.std.specs.Bool.{then_some}
use Rattle.std.proofs.lemmas.Bool.{false≢true}
use Rattle.text_lines.specs.Lines.{Keyed, view, views, spelled}
use Rattle.text_lines.specs.Grammar.{IsBeginning}
use Rattle.text_lines.proofs.Cuts.{some_at, none_at}
use Rattle.text_lines.proofs.Beginnings.{last_good}
use Rattle.text_lines.proofs.reader.next_line.Goals as goal

none_where : {X : Type 0} (b : Bool) (x : X) (o : Option X) (P : Type 0) → o ≡ then_some b x → (b ≡ false → P) → IfNone o P
none_where {X = X} true x o P e h = subst (λ (p : Option X). IfNone p P) (sym e) tt
none_where {X = X} false x o P e h = subst (λ (p : Option X). IfNone p P) (sym e) (h refl)

pub returns-in-Some-clause-none : goal.returns-in-Some-clause-none
returns-in-Some-clause-none g c =
    let ls = views c.args.before.now in
    none_where c.can_follow.result c.in-Some.line c.then_some.result ((l : Keyed) → IsBeginning g.G.Grammar.whole (ls ++ l ∷ []) → c.args.piece.now ≢ spelled l) c.then_some.ensures
    (λ refused l b e.
    let same = some_at c.in_ok-line.field-0 c.in-Some.line (λ r. view r ≡ l) (c.in_ok-line.ensures.only l (last_good g.G.Grammar.whole c.requires.grammar ls l b) e) c.in-Some.is in
    false≢true (sym refused ∙ c.can_follow.ensures.1 (subst (λ (k : Keyed). IsBeginning g.G.Grammar.whole (ls ++ k ∷ [])) (sym same) b)))

pub returns-in-None-clause-none : goal.returns-in-None-clause-none
returns-in-None-clause-none g c = λ l b e. none_at c.in_ok-line.field-0 (λ r. view r ≡ l) (c.in_ok-line.ensures.only l (last_good g.G.Grammar.whole c.requires.grammar (views c.args.before.now) l b) e) c.in-None.is
