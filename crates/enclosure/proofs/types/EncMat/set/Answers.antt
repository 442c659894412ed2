use Rattle.std.proofs.Common.{rules, FitsSigned}
use Rattle.std.specs.Int.{w128}
use Rattle.std.proofs.lemmas.Int.{to_z-of_z}
use Rattle.enclosure.proofs.GramLaws.{entry_put}
use Rattle.enclosure.proofs.types.EncMat.set.Goals as goal

pub invariant_of-self : goal.invariant_of-self
invariant_of-self c =
    let f : FitsSigned w128 c.args.v.rad = search rules in
    let mid = c.set.ensures in
    let rad = rw (to_z-of_z w128 _ f) at c.set-2.ensures in
    record { sound = rw (mid, rad) (entry_put c.args.self.now.mid c.args.self.now.rad c.args.i c.args.j _ c.args.v.rad c.args.v.nonnegative c.args.self.now.sound) }
