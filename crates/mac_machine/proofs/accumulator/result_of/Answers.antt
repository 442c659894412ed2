use Rattle.std.proofs.Common.{◌≡◌, ℤ, pos, neg_ℤ, ◌*ℤ◌, ◌+ℤ◌, ◌^◌, FitsSigned, to_z, of_z, sym, subst, ◌∙◌, rules}
use Rattle.std.specs.Option.{SomeIff}
use Rattle.std.specs.Int.{w128, int_max, int_min}
use Rattle.std.proofs.lemmas.Int.{to_z-of_z}
use Rattle.integer_algebra.specs.Division.{floor_of}
use Rattle.integer_algebra.specs.Sums.{at}
use Rattle.qp_model.specs.machine.ValuesMet.{FitsWidth}
use Rattle.mac_listing.specs.declared.instruction.Op.{Op}
use Rattle.mac_listing.specs.declared.instruction.Op.TheVariants.{Mac, Con}
use Rattle.mac_machine.specs.Machine.{holding, OpFits, result_of}
use Rattle.mac_machine.proofs.Rooms.{one_some, at_same}
use Rattle.mac_machine.proofs.accumulator.result_of.Goals as goal

pub returns-in-Mac : goal.returns-in-Mac
returns-in-Mac c =
    let h = holding c.args.acc c.args.words.now in
    let constant : FitsSigned w128 c.in-Mac.c = search rules in
    subst (λ (op : Op). SomeIff c.mac.result (OpFits c.args.w op h) (result_of op h)) (sym c.in-Mac.is)
    (at_same c.args.w (λ z. Mac c.in-Mac.a z c.in-Mac.k) c.args.words.now c.mac.result c.args.acc _ c.in-Mac.c _ (to_z-of_z w128 c.args.acc c.ranges.acc) (to_z-of_z w128 _ constant) c.mac.ensures)

pub returns-in-Con : goal.returns-in-Con
returns-in-Con c =
    let h = holding c.args.acc c.args.words.now in
    let constant : FitsSigned w128 c.in-Con.c = search rules in
    subst (λ (op : Op). SomeIff c.con.result (OpFits c.args.w op h) (result_of op h)) (sym c.in-Con.is)
    (at_same c.args.w (λ z. Con z c.in-Con.k) c.args.words.now c.con.result c.args.acc _ c.in-Con.c _ (to_z-of_z w128 c.args.acc c.ranges.acc) (to_z-of_z w128 _ constant) c.con.ensures)

pub returns-in-AddM : goal.returns-in-AddM
returns-in-AddM c =
    let h = holding c.args.acc c.args.words.now in
    let word : FitsSigned w128 (at c.args.words.now c.in-AddM.a) = search rules in
    subst (λ (op : Op). SomeIff c.sum.result (OpFits c.args.w op h) (result_of op h)) (sym c.in-AddM.is)
    (one_some c.args.w (c.args.acc +ℤ at c.args.words.now c.in-AddM.a) c.sum.result (rw (to_z-of_z w128 c.args.acc c.ranges.acc, to_z-of_z w128 _ word) at c.sum.ensures))

pub returns-in-Shl : goal.returns-in-Shl
returns-in-Shl c =
    let h = holding c.args.acc c.args.words.now in
    subst (λ (op : Op). SomeIff c.raised.result (OpFits c.args.w op h) (result_of op h)) (sym c.in-Shl.is)
    (one_some c.args.w (c.args.acc *ℤ pos (2 ^ c.in-Shl.k)) c.raised.result (rw (to_z-of_z w128 c.args.acc c.ranges.acc) at c.raised.ensures))

pub returns-in-Shr : goal.returns-in-Shr
returns-in-Shr c =
    let h = holding c.args.acc c.args.words.now in
    let made : FitsSigned w128 c.floor_shift.result = search rules in
    let z = floor_of c.args.acc (2 ^ c.in-Shr.k) in
    let floor : c.floor_shift.result ≡ z = rw (to_z-of_z w128 c.args.acc c.ranges.acc) at c.floor_shift.ensures.value in
    let answer : SomeIff c.roomy-in-Shr.result (FitsWidth c.args.w z) z =
    subst (λ (x : ℤ). SomeIff c.roomy-in-Shr.result (FitsWidth c.args.w x) x) floor
    (subst (λ (x : ℤ). SomeIff c.roomy-in-Shr.result (FitsWidth c.args.w x) x) (to_z-of_z w128 _ made) c.roomy-in-Shr.ensures) in
    subst (λ (op : Op). SomeIff c.roomy-in-Shr.result (OpFits c.args.w op h) (result_of op h)) (sym c.in-Shr.is) (one_some c.args.w z c.roomy-in-Shr.result answer)

pub returns-in-Load : goal.returns-in-Load
returns-in-Load c =
    let h = holding c.args.acc c.args.words.now in
    let word : FitsSigned w128 (at c.args.words.now c.in-Load.a) = search rules in
    subst (λ (op : Op). SomeIff c.roomy.result (OpFits c.args.w op h) (result_of op h)) (sym c.in-Load.is)
    (one_some c.args.w (at c.args.words.now c.in-Load.a) c.roomy.result (rw (to_z-of_z w128 _ word) at c.roomy.ensures))

pub returns-in-Store : goal.returns-in-Store
returns-in-Store c =
    let h = holding c.args.acc c.args.words.now in
    subst (λ (op : Op). SomeIff c.roomy-in-Store.result (OpFits c.args.w op h) (result_of op h)) (sym c.in-Store.is)
    (one_some c.args.w c.args.acc c.roomy-in-Store.result (rw (to_z-of_z w128 c.args.acc c.ranges.acc) at c.roomy-in-Store.ensures))

pub returns-in-Neg : goal.returns-in-Neg
returns-in-Neg c =
    let h = holding c.args.acc c.args.words.now in
    subst (λ (op : Op). SomeIff c.negated.result (OpFits c.args.w op h) (result_of op h)) (sym c.in-Neg.is)
    (one_some c.args.w (neg_ℤ c.args.acc) c.negated.result (rw (to_z-of_z w128 c.args.acc c.ranges.acc) at c.negated.ensures))

pub returns-in-Low : goal.returns-in-Low
returns-in-Low c =
    let h = holding c.args.acc c.args.words.now in
    let made : FitsSigned w128 c.max.result = search rules in
    let z = int_max c.args.acc (pos 0) in
    let same : to_z w128 (of_z w128 c.max.result) ≡ z = to_z-of_z w128 _ made ∙ (rw (to_z-of_z w128 c.args.acc c.ranges.acc) at c.max.ensures.value) in
    subst (λ (op : Op). SomeIff c.roomy-in-Low.result (OpFits c.args.w op h) (result_of op h)) (sym c.in-Low.is)
    (one_some c.args.w z c.roomy-in-Low.result (subst (λ (x : ℤ). SomeIff c.roomy-in-Low.result (FitsWidth c.args.w x) x) same c.roomy-in-Low.ensures))

pub returns-in-Cap : goal.returns-in-Cap
returns-in-Cap c =
    let h = holding c.args.acc c.args.words.now in
    let constant : FitsSigned w128 c.in-Cap.c = search rules in
    let made : FitsSigned w128 c.min.result = search rules in
    let z = int_min c.in-Cap.c c.args.acc in
    let same : to_z w128 (of_z w128 c.min.result) ≡ z = to_z-of_z w128 _ made ∙ (rw (to_z-of_z w128 c.args.acc c.ranges.acc, to_z-of_z w128 _ constant) at c.min.ensures.value) in
    subst (λ (op : Op). SomeIff c.roomy-in-Cap.result (OpFits c.args.w op h) (result_of op h)) (sym c.in-Cap.is)
    (one_some c.args.w z c.roomy-in-Cap.result (subst (λ (x : ℤ). SomeIff c.roomy-in-Cap.result (FitsWidth c.args.w x) x) same c.roomy-in-Cap.ensures))
