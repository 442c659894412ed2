use Rattle.std.proofs.Common.{◌≡◌, subst, length, FitsSigned}
use Rattle.std.specs.Prelude.{All}
use Rattle.std.specs.Int.{w128}
use Rattle.std.proofs.lemmas.List.Elements.{All-map}
use Rattle.mat_int.specs.Matrix.{Matrix}
use Rattle.mat_int.proofs.matrix.Mat.rows.Goals as goal

pub returns-clause-even : goal.returns-clause-even
returns-clause-even c =
    subst (λ (m : Matrix). All (λ row. length row ≡ m.cols) m.rows) c.self.view_is
    (All-map (λ row. length row ≡ c.self.inside.cols) (λ v. v.items) c.self.inside.lines.items (λ k d h. (c.self.invariant k d h).even))

pub returns-clause-word : goal.returns-clause-word
returns-clause-word c =
    subst (λ (m : Matrix). All (All (FitsSigned w128)) m.rows) c.self.view_is
    (All-map (All (FitsSigned w128)) (λ v. v.items) c.self.inside.lines.items (λ k d h. (c.self.invariant k d h).word))
