-- Corners in enclosures, tried on two small designs whose numbers were computed by another program.
use Rattle.std.proofs.Common.{◌≡◌, ◌^◌, pos, negsuc, [], ◌∷◌, true, false, refl}
use Rattle.qp_model.specs.problem.Policy.{Plans}
use Rattle.qp_model.specs.bounds.CornerSizes.{first_reach, corner_reach, fine_corner_slack_size, fine_corner_cost_size}
use Rattle.qp_model.specs.bounds.FineCorners.{corner_state, corner_input, corner_gap, least_slack, most_row_cost, most_input_cost, enclosed_corners}
use Rattle.qp_model.specs.bounds.CornerClass.{has_fine_corners, shown, corner_slack_quantity, corner_cost_quantity}
use Rattle.trials_definitions.proofs.WorkedDesigns.{third, crossed, thirds}
use Rattle.trials_definitions.proofs.FineWorked.{around}

state : corner_state third 2 0 ≡ around (pos 1099511627776) (pos 0)
state = refl

input : corner_input thirds 2 0 ≡ around (pos 785365448411) (pos 1)
input = refl

gap_first : corner_gap third thirds 2 0 ≡ around (negsuc 5811704318243) (pos 4)
gap_first = refl

gap_final : corner_gap third thirds 2 2 ≡ around (negsuc 1727803986505) (pos 4)
gap_final = refl

slack_first : least_slack third thirds 2 0 ≡ pos 6754142856334
slack_first = refl

slack_next : least_slack third thirds 2 1 ≡ pos 5026338869832
slack_next = refl

slack_last : least_slack third thirds 2 2 ≡ negsuc 16
slack_last = refl

rows_cost : most_row_cost third thirds 2 ≡ pos 478364545235733991924080324
rows_cost = refl

inputs_cost : most_input_cost third thirds 2 ≡ pos 46259916566953637499130800
inputs_cost = refl

slack_other : least_slack third thirds 1 2 ≡ pos 1058788974877
slack_other = refl

cost_other : (enclosed_corners third thirds).cost 1 ≡ pos 768439020980419981610594784
cost_other = refl

first : first_reach third thirds ≡ 1099511627776
first = refl

reach : corner_reach third thirds ≡ 1099511627782
reach = refl

slack_size : fine_corner_slack_size third thirds ≡ 1297036692689780736
slack_size = refl

cost_size : fine_corner_cost_size third thirds ≡ 4242120701074032009666489716
cost_size = refl

abbrev ninths : Plans
ninths = record {
  denominators = pos 3 ∷ pos 7 ∷ pos 9 ∷ pos 11 ∷ [];
  numerators = record {
    rows = (pos 1 ∷ negsuc 1 ∷ pos 4 ∷ pos 0 ∷ []) ∷ (pos 5 ∷ pos 0 ∷ negsuc 0 ∷ pos 2 ∷ []) ∷ (pos 1 ∷ pos 1 ∷ pos 1 ∷ pos 1 ∷ [])
        ∷ (pos 3 ∷ negsuc 2 ∷ pos 2 ∷ negsuc 1 ∷ []) ∷ [];
    cols = 4;
  };
}

gap_across : corner_gap crossed ninths 3 1 ≡ around (negsuc 10560741313700) (pos 25)
gap_across = refl

slack_across : least_slack crossed ninths 3 1 ≡ pos 7655858741530
slack_across = refl

slack_final : least_slack crossed ninths 3 2 ≡ pos 3719335629734
slack_final = refl

rows_across : most_row_cost crossed ninths 3 ≡ pos 1044396930298356345419780034
rows_across = refl

inputs_across : most_input_cost crossed ninths 3 ≡ pos 3731252529749439600362250
inputs_across = refl

first_across : first_reach crossed ninths ≡ 1466015503704
first_across = refl

reach_across : corner_reach crossed ninths ≡ 19709763994257
reach_across = refl

slack_size_across : fine_corner_slack_size crossed ninths ≡ 49084565538849816576
slack_size_across = refl

cost_size_across : fine_corner_cost_size crossed ninths ≡ 1846032233962639460264122696848
cost_size_across = refl

-- ---- the class
small : has_fine_corners crossed ninths ≡ false
small = refl

-- a plan whose numerators are too long
abbrev longs : Plans
longs = record {
  denominators = pos (2 ^ 40) ∷ pos (2 ^ 40) ∷ [];
  numerators = record { rows = (pos (2 ^ 62) ∷ negsuc 1152921504606846975 ∷ []) ∷ (pos (2 ^ 62) ∷ negsuc 1152921504606846975 ∷ []) ∷ []; cols = 2 };
}

wide : has_fine_corners third longs ≡ true
wide = refl

wide_slack : corner_slack_quantity third longs ≡ 5440166188265831295614976
wide_slack = refl

wide_cost : corner_cost_quantity third longs ≡ 74628176595348317027229843410966932581696
wide_cost = refl

wide_shown : (shown third longs).slack 1 1 ≡ negsuc 1921530343453272747
wide_shown = refl
