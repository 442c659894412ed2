use Rattle.std.proofs.Common.{◌≡◌, ◌^◌, pos, ◌*ℤ◌, ◌*◌, ◌<◌, ◌++◌, ◌∙◌, ℤ, FitsSigned, to_z, of_z, unsigned_abs, length, ap, sym, subst, arith, le_refl, rules, get_or, decimal, string_bytes}
use Rattle.std.specs.Int.{w128}
use Rattle.std.proofs.lemmas.Int.{to_z-of_z}
use Rattle.std.proofs.lemmas.Nat.{mul-le}
use Rattle.integer_algebra.specs.Division.{floor_of}
use Rattle.integer_algebra.specs.Sums.{at}
use Rattle.qp_model.proofs.AbsoluteLaws.{abs-floor_le}
use Rattle.c_writer.specs.Terms.{product_text}
use Rattle.c_writer.proofs.Texts.{products_none, products_more, times_one}
use Rattle.c_writer.proofs.sums.push_lowered_row.Goals as goal

pub loop-j-init : goal.loop-j-init
loop-j-init c = products_none (λ j. floor_of (at c.args.row.now j) (2 ^ c.args.k)) (λ j. get_or c.args.tops.now j 0) (λ j. c.args.family.now ++ decimal j) (string_bytes c.args.text.now)

pub push_scaled-requires-clause-room : goal.push_scaled-requires-clause-room
push_scaled-requires-clause-room c =
    let j = c.loop-j.j in
    let row = c.args.row.now in
    let x : FitsSigned w128 (at row j) = search rules in
    let y : FitsSigned w128 c.floor_shift-factor.result = search rules in
    let top = get_or c.args.tops.now j 0 in
    let inside : j < length row = omega (arith, c.loop-j-test.true) in
    let is : to_z w128 (of_z w128 c.floor_shift-factor.result) *ℤ pos (2 ^ 0) ≡ floor_of (at row j) (2 ^ c.args.k) =
    times_one _ ∙ to_z-of_z w128 _ y ∙ c.floor_shift-factor.ensures.value ∙ ap (λ (z : ℤ). floor_of z (2 ^ c.args.k)) (to_z-of_z w128 _ x) in
    let room : unsigned_abs (floor_of (at row j) (2 ^ c.args.k)) * top < 2 ^ 127 =
    omega (arith, c.requires.room j inside, mul-le (unsigned_abs (floor_of (at row j) (2 ^ c.args.k))) top (unsigned_abs (at row j)) top (abs-floor_le (at row j) (2 ^ c.args.k)) (le_refl top)) in
    subst (λ (z : ℤ). unsigned_abs z * top < 2 ^ 127) (sym is) room

pub loop-j-preserved : goal.loop-j-preserved
loop-j-preserved c =
    let j = c.loop-j.j in
    let top = get_or c.args.tops.now j 0 in
    let name = c.args.family.now ++ decimal j in
    let x : FitsSigned w128 (at c.args.row.now j) = search rules in
    let y : FitsSigned w128 c.floor_shift-factor.result = search rules in
    let is : to_z w128 (of_z w128 c.floor_shift-factor.result) *ℤ pos (2 ^ 0) ≡ floor_of (at c.args.row.now j) (2 ^ c.args.k) =
    times_one _ ∙ to_z-of_z w128 _ y ∙ c.floor_shift-factor.ensures.value ∙ ap (λ (z : ℤ). floor_of z (2 ^ c.args.k)) (to_z-of_z w128 _ x) in
    products_more (λ j. floor_of (at c.args.row.now j) (2 ^ c.args.k)) (λ j. get_or c.args.tops.now j 0) (λ j. c.args.family.now ++ decimal j) j (string_bytes c.args.text.now) (string_bytes c.loop-j.text)
    (string_bytes c.push_scaled.new.text) c.loop-j.invariant (c.in_ok-push_scaled.ensures ∙ ap (λ (z : ℤ). string_bytes c.loop-j.text ++ product_text z top name) is)
