use Rattle.std.proofs.Common.{ℕ, ◌<◌, sym, subst, length}
use Rattle.std.proofs.lemmas.Result.{IfOk-weaker}
use Rattle.integer_algebra.specs.Sums.{at}
use Rattle.frac_scaled.specs.Enclosures.{Enclosure}
use Rattle.mat_int.specs.Enclosures.{enclosure_at}
use Rattle.mat_int.proofs.EnclosureLaws.{gram_law}
use Rattle.enclosure.specs.Laws.{EnclosesGram}
use Rattle.enclosure.proofs.RoomLaws.{same_pair}
use Rattle.enclosure.proofs.matrix.gram.Goals as goal

pub returns-clause-encloses : goal.returns-clause-encloses
returns-clause-encloses c =
    let weights = c.args.weights.now in
    let x = enclosure_at c.args.x.now.mid c.args.x.now.rad in
    let n = c.args.x.now.mid.cols in
    IfOk-weaker c.gram_over.result _ (λ g. (j l : ℕ) → j < n → l < n → EnclosesGram (length weights) (at weights) x j l (enclosure_at g.mid g.rad j l))
    (λ g made j l p q. subst (λ (e : Enclosure). EnclosesGram (length weights) (at weights) x j l e) (sym (same_pair (made.mids.entries j l p q) (made.rads.entries j l p q)))
    (gram_law (length weights) (at weights) x j l)) c.gram_over.ensures.value
