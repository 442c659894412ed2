-- What `split` leaves, said of files with the names 1 to 5.
use Rattle.std.proofs.Common.{◌≡◌, ℕ, zero, suc, ◌+◌, ◌*◌, ◌^◌, ◌≤◌, Bool, false, if◌then◌else◌, List, [], ◌∷◌, length, get_or, Option, Some, None, refl, ap, arith}
use Rattle.std.specs.Prelude.{codes}
use Rattle.io_edge.specs.Faults.{Files}
use Rattle.qp_model.specs.problem.Design.{Design}
use Rattle.qp_model.specs.problem.Policy.{Plans}
use Rattle.command_split.specs.Splitting.PoliciesText.{none_record, says_none, cell_start, covered, HoldCell}
use Rattle.command_split.specs.Split.{IsSplitWritten, report_texts}

abbrev named : List (List ℕ)
named = [] ∷ (1 ∷ []) ∷ (2 ∷ []) ∷ (3 ∷ []) ∷ (4 ∷ []) ∷ (5 ∷ []) ∷ []

-- `serve` reads so many bytes
short_enough_to_be_read : (files new : Files) (it : IsSplitWritten named files new) → length it.text ≤ 268435456
short_enough_to_be_read files new it = it.short

cells_in_the_fourth : (files new : Files) (it : IsSplitWritten named files new) → new (4 ∷ []) ≡ Some it.text
cells_in_the_fourth files new it = it.cells_file

reports_in_the_fifth : (files new : Files) (it : IsSplitWritten named files new) → new (5 ∷ []) ≡ Some (report_texts it.bounds)
reports_in_the_fifth files new it = it.report_file

word : none_record ≡ codes "none" ∷ []
word = refl

-- ---- a file of policies whose first cell has no controller: it takes one record, and the next as many as a box has corners
plan : List (List ℕ)
plan = codes "1" ∷ codes "0" ∷ []

second_cell : (d : Design) → cell_start (none_record ∷ plan ∷ plan ∷ []) d 1 ≡ 1
unfolding cell_start
second_cell d = refl

behind_both : (d : Design) → cell_start (none_record ∷ plan ∷ plan ∷ []) d 2 ≡ 1 + 2 ^ d.states
unfolding cell_start plan
behind_both d = refl

has_none : (d : Design) → HoldCell (none_record ∷ plan ∷ plan ∷ []) d 0 None
has_none d = refl

-- the second cell's controller is the first, and there is one
one_covered : (plans : Plans) → covered (None ∷ Some plans ∷ []) 2 ≡ 1
unfolding covered
one_covered plans = refl

none_before : (plans : Plans) → covered (None ∷ Some plans ∷ []) 1 ≡ 0
unfolding covered
none_before plans = refl

-- a file in which no record says `none` has the policy of each cell where it had it before there was such a record
plain_starts : (rows : List (List (List ℕ))) (d : Design) → ((e : ℕ) → says_none (get_or rows e []) ≡ false) → (k : ℕ) → cell_start rows d k ≡ k * 2 ^ d.states
unfolding cell_start
plain_starts rows d plain zero = omega arith
plain_starts rows d plain (suc k) =
    let more : cell_start rows d (suc k) ≡ cell_start rows d k + 2 ^ d.states = ap (λ (b : Bool). cell_start rows d k + (if b then 1 else 2 ^ d.states)) (plain (cell_start rows d k)) in
    omega (arith, more, plain_starts rows d plain k)
