-- What the rows have of a run in enclosures, as code makes it.
use Rattle.std.proofs.Common.{◌≡◌, ℕ, ◌+◌, ◌-◌, ◌*◌, ◌/◌, ◌%◌, ◌^◌, ◌<◌, ◌≤◌, List, ℤ, pos, ◌+ℤ◌, ◌≤ℤ◌, length, take, drop, add-one, arith, sym, subst, ◌∙◌, refl}
use Rattle.std.proofs.lemmas.Int.{ints}
use Rattle.std.proofs.lemmas.Bool.{lt-ltb, le-ltb}
use Rattle.std.proofs.lemmas.List.{get_or-take, length-take-le}
use Rattle.integer_algebra.specs.Sums.{at}
use Rattle.integer_algebra.specs.Sizes.{size}
use Rattle.frac_scaled.specs.Enclosures.{Enclosure, magnitude}
use Rattle.mat_int.specs.Matrix.{row_of}
use Rattle.mat_int.specs.Enclosures.{combined, combination_magnitude}
use Rattle.enclosure.specs.declared.types.Enc.{Enc}
use Rattle.enclosure.specs.Values.{pair_at}
use Rattle.qp_model.specs.declared.design_parts.DesignParts.{DesignParts}
use Rattle.qp_model.specs.problem.Design.{Design, rows}
use Rattle.qp_model.specs.problem.Parts.{design_of}
use Rattle.qp_model.specs.form.Quantities.{cost_width, limit_width}
use Rattle.qp_model.specs.problem.Runs.{counts}
use Rattle.qp_model.specs.form.FineForm.{fine_run, fine_cost, fine_limit, fine_stage_limit}
use Rattle.qp_model.proofs.RowLaws.{remainder_inside}
use Rattle.qp_model.proofs.QuantityLaws.{narrow}
use Rattle.condensed_form.specs.Lists.{row_of_numbers}
use Rattle.condensed_form.proofs.StateFacts.{at-part}
use Rattle.condensed_form.proofs.StageFacts.{length-part}
use Rattle.scaled_run.specs.Lists.{HoldsEnclosures, IsRunReady}
use Rattle.scaled_run.proofs.ListFacts.{flat_run, combined_same, magnitude_same}
use Rattle.scaled_run.proofs.StateFacts.{stage_part, input_part}
use Rattle.scaled_run.proofs.Rooms.{row_room, input_row_room}
use Rattle.scaled_run.proofs.RowRooms.{cost_room, stage_limit_room}

under : {z : ℤ} {m n : ℕ} → z ≤ℤ pos m → m ≤ n → z ≤ℤ pos n
under h k = omega (arith, ints, h, k)

same : (n : ℕ) → n ≤ n
same n = omega arith

-- ---- a row's first numbers with the state at a stage
module _ (d : Design) (x v : ℕ → Enclosure) (states lent : List Enc) (row : List ℤ) (k : ℕ) (e : lent ≡ states) (l : k ≤ d.stages)
    (h : HoldsEnclosures states ((d.stages + 1) * d.states) (flat_run d x v)) where
  held : HoldsEnclosures (take (k * d.states + d.states - k * d.states) (drop (k * d.states) lent)) d.states (fine_run d x v k)
  held = stage_part d x v states lent k (d.stages + 1) e (more l) h
    where
      more : {a b : ℕ} → a ≤ b → a < b + 1
      more h = omega (arith, h)

  pub sum_lengths : d.states ≤ length row → length (take d.states row) ≡ length (take (k * d.states + d.states - k * d.states) (drop (k * d.states) lent))
  sum_lengths o = length-take-le d.states row o ∙ sym held.long

  pub sum_room : combination_magnitude d.states (at row) (fine_run d x v k) ≤ℤ pos (2 ^ 126) →
      combination_magnitude (length (take (k * d.states + d.states - k * d.states) (drop (k * d.states) lent))) (at (take d.states row))
      (pair_at (take (k * d.states + d.states - k * d.states) (drop (k * d.states) lent))) ≤ℤ pos (2 ^ 126)
  sum_room r = rw (held.long, magnitude_same d.states (at (take d.states row)) (at row) _ (fine_run d x v k) (λ j o. get_or-take d.states row j (pos 0) o) held.is) r

  pub sum_value : combined (length (take (k * d.states + d.states - k * d.states) (drop (k * d.states) lent))) (at (take d.states row))
      (pair_at (take (k * d.states + d.states - k * d.states) (drop (k * d.states) lent))) 1 ≡ combined d.states (at row) (fine_run d x v k) 1
  sum_value = rw held.long (combined_same d.states (at (take d.states row)) (at row) _ (fine_run d x v k) 1 (λ j o. get_or-take d.states row j (pos 0) o) held.is)

-- ---- a row's next numbers with the input there
module _ (plan lent : List Enc) (row : List ℤ) (n p stages k : ℕ) (e : lent ≡ plan) (long : length plan ≡ stages * p) (l : k < stages) where
  part : HoldsEnclosures (take (k * p + p - k * p) (drop (k * p) lent)) p (λ l. pair_at plan (k * p + l))
  part = input_part plan lent stages p k e long l

  pub input_lengths : n + p ≤ length row → length (take (n + p - n) (drop n row)) ≡ length (take (k * p + p - k * p) (drop (k * p) lent))
  input_lengths o = length-part row n p o ∙ sym part.long

  pub input_room : combination_magnitude p (λ l. at row (n + l)) (λ l. pair_at plan (k * p + l)) ≤ℤ pos (2 ^ 126) →
      combination_magnitude (length (take (k * p + p - k * p) (drop (k * p) lent))) (at (take (n + p - n) (drop n row))) (pair_at (take (k * p + p - k * p) (drop (k * p) lent))) ≤ℤ pos (2 ^ 126)
  input_room r = rw (part.long, magnitude_same p (at (take (n + p - n) (drop n row))) (λ l. at row (n + l)) _ (λ l. pair_at plan (k * p + l)) (λ j o. at-part row n p j o) part.is) r

  pub input_value : combined (length (take (k * p + p - k * p) (drop (k * p) lent))) (at (take (n + p - n) (drop n row))) (pair_at (take (k * p + p - k * p) (drop (k * p) lent))) 1 ≡
      combined p (λ l. at row (n + l)) (λ l. pair_at plan (k * p + l)) 1
  input_value = rw part.long (combined_same p (at (take (n + p - n) (drop n row))) (λ l. at row (n + l)) _ (λ l. pair_at plan (k * p + l)) 1 (λ j o. at-part row n p j o) part.is)

-- ---- the rows by their place
module _ (p : DesignParts) (reach : ℕ) (xs vs : List Enc) (ready : IsRunReady p reach xs vs) where
  module _ (c count : ℕ) (row : List ℤ) (e : count ≡ length p.stage_cost.rows) where
    pub stage_cost_room : row ≡ row_of p.stage_cost (c % count) → c < p.stages * count → c < counts (design_of p) → cost_width (design_of p) * reach ≤ 2 ^ 126 →
        combination_magnitude p.states (at row) (fine_run (design_of p) (pair_at xs) (pair_at vs) (c / count + 1)) ≤ℤ pos (2 ^ 126)
    stage_cost_room h l m fits = rw (h, e, add-one) (under (rw (lt-ltb c (p.stages * length p.stage_cost.rows) (rw (← e) l)) at
        (cost_room (design_of p) (pair_at xs) (pair_at vs) reach ready.near_states ready.near_plan c m)) fits)

    pub final_cost_room : row ≡ row_of p.final_cost (c - p.stages * count) → p.stages * count ≤ c → c < counts (design_of p) →
        cost_width (design_of p) * reach ≤ 2 ^ 126 →
        combination_magnitude p.states (at row) (fine_run (design_of p) (pair_at xs) (pair_at vs) p.stages) ≤ℤ pos (2 ^ 126)
    final_cost_room h l m fits = rw (h, e) (under (rw (le-ltb c (p.stages * length p.stage_cost.rows) (rw (← e) l)) at
        (cost_room (design_of p) (pair_at xs) (pair_at vs) reach ready.near_states ready.near_plan c m)) fits)

    pub stage_cost_value : row ≡ row_of p.stage_cost (c % count) → c < p.stages * count →
        combined p.states (at row) (fine_run (design_of p) (pair_at xs) (pair_at vs) (c / count + 1)) 1 ≡ fine_cost (design_of p) (pair_at xs) (pair_at vs) c
    stage_cost_value h l = rw (h, e, add-one, lt-ltb c (p.stages * length p.stage_cost.rows) (rw (← e) l)) refl

    pub final_cost_value : row ≡ row_of p.final_cost (c - p.stages * count) → p.stages * count ≤ c →
        combined p.states (at row) (fine_run (design_of p) (pair_at xs) (pair_at vs) p.stages) 1 ≡ fine_cost (design_of p) (pair_at xs) (pair_at vs) c
    final_cost_value h l = rw (h, e, le-ltb c (p.stages * length p.stage_cost.rows) (rw (← e) l)) refl

  module _ (i count : ℕ) (row : List ℤ) (e : count ≡ length p.stage_rows.rows) where
    pub stage_narrow : row ≡ row_of p.stage_rows (i % count) → i < p.stages * count → size p.states (at row) + size p.inputs (λ l. at row (p.states + l)) ≤ limit_width (design_of p)
    stage_narrow h l = rw (h, e) ((narrow (design_of p)).stage (i % length p.stage_rows.rows) (remainder_inside i p.stages (length p.stage_rows.rows) (rw (← e) l)))

    pub final_limit_room : row ≡ row_of p.final_rows (i - p.stages * count) → p.stages * count ≤ i → i < rows (design_of p) →
        limit_width (design_of p) * reach ≤ 2 ^ 126 →
        combination_magnitude p.states (at row) (fine_run (design_of p) (pair_at xs) (pair_at vs) p.stages) ≤ℤ pos (2 ^ 126)
    final_limit_room h l m fits = rw (h, e) (under (row_room (design_of p) (pair_at xs) (pair_at vs) reach ready.near_states ready.near_plan
        ((design_of p).final_limit (i - p.stages * length p.stage_rows.rows)).of_state (limit_width (design_of p)) p.stages
        ((narrow (design_of p)).final (i - p.stages * length p.stage_rows.rows) (inside (rw (← e) l))) (same p.stages)) fits)
      where
        inside : p.stages * length p.stage_rows.rows ≤ i → i - p.stages * length p.stage_rows.rows < length p.final_rows.rows
        inside k = omega (arith, m)

    pub stage_limit_value : row ≡ row_of p.stage_rows (i % count) → i < p.stages * count →
        fine_stage_limit (design_of p) (pair_at xs) (pair_at vs) (i / count) (row_of_numbers p row) ≡ fine_limit (design_of p) (pair_at xs) (pair_at vs) i
    stage_limit_value h l = rw (h, e, lt-ltb i (p.stages * length p.stage_rows.rows) (rw (← e) l)) refl

    pub final_limit_value : row ≡ row_of p.final_rows (i - p.stages * count) → p.stages * count ≤ i →
        combined p.states (at row) (fine_run (design_of p) (pair_at xs) (pair_at vs) p.stages) 1 ≡ fine_limit (design_of p) (pair_at xs) (pair_at vs) i
    final_limit_value h l = rw (h, e, le-ltb i (p.stages * length p.stage_rows.rows) (rw (← e) l)) refl

  -- ---- a stage row
  module _ (row : List ℤ) (k : ℕ) (hk : k < p.stages) (h : size p.states (at row) + size p.inputs (λ l. at row (p.states + l)) ≤ limit_width (design_of p))
      (fits : limit_width (design_of p) * reach ≤ 2 ^ 126) where
    before : k ≤ p.stages
    before = omega arith

    pub state_sum_room : combination_magnitude p.states (at row) (fine_run (design_of p) (pair_at xs) (pair_at vs) k) ≤ℤ pos (2 ^ 126)
    state_sum_room = under (row_room (design_of p) (pair_at xs) (pair_at vs) reach ready.near_states ready.near_plan (at row) (limit_width (design_of p)) k (left _ _ _ h) before) fits
      where
        left : (a b c : ℕ) → a + b ≤ c → a ≤ c
        left a b c h = omega arith

    pub input_sum_room : combination_magnitude p.inputs (λ l. at row (p.states + l)) (λ l. pair_at vs (k * p.inputs + l)) ≤ℤ pos (2 ^ 126)
    input_sum_room = under (input_row_room (design_of p) (pair_at xs) (pair_at vs) reach ready.near_states ready.near_plan (λ l. at row (p.states + l)) (limit_width (design_of p)) k
        (right _ _ _ h) hk) fits
      where
        right : (a b c : ℕ) → a + b ≤ c → b ≤ c
        right a b c h = omega arith

    pub both_room : (s u : Enclosure) → s ≡ combined p.states (at row) (fine_run (design_of p) (pair_at xs) (pair_at vs) k) 1 →
        u ≡ combined p.inputs (λ l. at row (p.states + l)) (λ l. pair_at vs (k * p.inputs + l)) 1 → (magnitude s +ℤ magnitude u) ≤ℤ pos (2 ^ 126)
    both_room s u f g = subst (λ (e : Enclosure). (magnitude e +ℤ magnitude u) ≤ℤ pos (2 ^ 126)) (sym f)
        (subst (λ (e : Enclosure). (magnitude (combined p.states (at row) (fine_run (design_of p) (pair_at xs) (pair_at vs) k) 1) +ℤ magnitude e) ≤ℤ pos (2 ^ 126)) (sym g)
        (under (stage_limit_room (design_of p) (pair_at xs) (pair_at vs) reach ready.near_states ready.near_plan k (row_of_numbers p row) hk h) fits))
