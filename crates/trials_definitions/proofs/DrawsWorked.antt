-- The draws of the number 7, which were worked out by hand.
use Rattle.std.proofs.Common.{◌≡◌, pos, refl}
use Rattle.design_maker.specs.Draws.{sequence, drawn}

first_number : sequence 7 1 ≡ 1282168116
first_number = refl

tenth_number : sequence 7 10 ≡ 715197717
tenth_number = refl

ten_draws : drawn 7 ≡ record { a11 = pos 2; a12 = pos 1; a21 = pos 1; a22 = pos 1; first_input = pos 4; second_input = pos 2; first_target = pos 0; first_weight = pos 3; second_target = pos 2; second_weight = pos 2 }
ten_draws = refl
