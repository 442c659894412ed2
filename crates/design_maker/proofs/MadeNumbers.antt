-- The document of a made design has the made numbers, which are a design's.
use Rattle.std.proofs.Common.{◌≡◌, ℕ, zero, suc, ◌<◌, ◌==◌, ℤ, pos, neg_ℤ, ◌≤ℤ◌, List, [], ◌∷◌, length, All, true, Some, refl, sym, ap, arith, lit≤, lit<, codes, get_or}
use Rattle.std.specs.Prelude.{Contains}
use Rattle.std.specs.List.{list_all}
use Rattle.std.proofs.lemmas.Bool.{and_parts}
use Rattle.std.proofs.lemmas.Bool.Decides.{nat_tests}
use Rattle.std.proofs.lemmas.Int.{ints}
use Rattle.integer_algebra.specs.Sums.{at}
use Rattle.mat_int.specs.Matrix.{Matrix, entry_of}
use Rattle.qp_model.specs.problem.Limits.{text_version}
use Rattle.qp_model.specs.problem.Range.{LiesIn, IsDenominator, IsNumerator, IsPositive}
use Rattle.qp_model.specs.problem.Parts.{IsDesign, DesignNumbers, design_numbers}
use Rattle.qp_model.specs.problem.Rules.{AllHold}
use Rattle.qp_model.specs.declared.design_parts.DesignParts.{DesignParts}
use Rattle.design_files.specs.Values.{values_of, further_keys}
use Rattle.design_files.specs.DesignText.{HasNumbers, IsDesignDocument}
use Rattle.design_maker.specs.declared.draws.Drawn.{Drawn}
use Rattle.design_maker.specs.Texts.{plant_rows, input_weights, cost_rows}
use Rattle.design_maker.specs.MadeParts.{made_numbers, limit_rows, final_rows, input_rows}
use Rattle.design_maker.proofs.WrittenValues.{AllSmall, RowsSmall}
use Rattle.design_maker.proofs.MadeDocument.{made_document, limits_small, finals_small, inputs_small, low_small, high_small}
use Rattle.design_maker.proofs.DrawnNumbers.{InRange, are_small}

-- ---- each element
pub all_none : {X : Type 0} (P : X → Type 0) → All P []
all_none P k d l = absurd (omega arith)

pub all_more : {X : Type 0} (P : X → Type 0) (x : X) (xs : List X) → P x → All P xs → All P (x ∷ xs)
all_more P x xs h rest zero d l = h
all_more P x xs h rest (suc k) d l = rest k d (omega arith)

rows_even : (width : ℕ) (rows : List (List ℤ)) → list_all (λ row. length row == width) rows ≡ true → All (λ row. length row ≡ width) rows
rows_even width [] h = all_none (λ row. length row ≡ width)
rows_even width (row ∷ rows) h =
    let (first, rest) = and_parts (length row == width) (list_all (λ r. length r == width) rows) h in
    all_more (λ r. length r ≡ width) row rows (grind (arith, nat_tests)) (rows_even width rows rest)

numerators : (zs : List ℤ) → AllSmall zs → All IsNumerator zs
numerators [] h = all_none IsNumerator
numerators (z ∷ zs) h = all_more IsNumerator z zs (omega (arith, h.0)) (numerators zs h.1)

rows_numerators : (rows : List (List ℤ)) → RowsSmall rows → All (All IsNumerator) rows
rows_numerators [] h = all_none (All IsNumerator)
rows_numerators (row ∷ rows) h = all_more (All IsNumerator) row rows (numerators row h.0) (rows_numerators rows h.1)

-- ---- the numbers
has_rows : (cols : ℕ) (rows : List (List ℤ)) (m : Matrix) → m ≡ record { cols = cols; rows = rows } → list_all (λ row. length row == cols) rows ≡ true → (Some rows ≡ Some m.rows) × All (λ row. length row ≡ m.cols) m.rows
has_rows cols rows m e h = rw e (refl, rows_even cols rows h)

pub has_numbers : (d : Drawn) (stages : ℕ) (p : DesignParts) → design_numbers p ≡ made_numbers d stages → HasNumbers (values_of (made_document d stages)) p
has_numbers d stages p e =
    let a = has_rows 2 (plant_rows d) p.a (ap (λ (n : DesignNumbers). n.a) e) refl in
    let b = has_rows 2 input_rows p.b (ap (λ (n : DesignNumbers). n.b) e) refl in
    let stage_cost = has_rows 4 (cost_rows d) p.stage_cost (ap (λ (n : DesignNumbers). n.stage_cost) e) refl in
    let final_cost = has_rows 4 [] p.final_cost (ap (λ (n : DesignNumbers). n.final_cost) e) refl in
    let stage_rows = has_rows 5 limit_rows p.stage_rows (ap (λ (n : DesignNumbers). n.stage_rows) e) refl in
    let final_limits = has_rows 3 final_rows p.final_rows (ap (λ (n : DesignNumbers). n.final_rows) e) refl in
    record {
      version = sym (ap (λ (n : DesignNumbers). Some (pos n.version)) e);
      states = sym (ap (λ (n : DesignNumbers). Some (pos n.states)) e);
      inputs = sym (ap (λ (n : DesignNumbers). Some (pos n.inputs)) e);
      stages = sym (ap (λ (n : DesignNumbers). Some (pos n.stages)) e);
      plant_den = sym (ap (λ (n : DesignNumbers). Some n.plant_den) e);
      a = record { rows = a.0; even = a.1 };
      b = record { rows = b.0; even = b.1 };
      cost_den = sym (ap (λ (n : DesignNumbers). Some n.cost_den) e);
      row_den = sym (ap (λ (n : DesignNumbers). Some n.row_den) e);
      input = sym (ap (λ (n : DesignNumbers). Some n.input_weights) e);
      stage_cost = record { rows = stage_cost.0; even = stage_cost.1 };
      final_cost = record { rows = final_cost.0; even = final_cost.1 };
      limit_den = sym (ap (λ (n : DesignNumbers). Some n.limit_den) e);
      stage_rows = record { rows = stage_rows.0; even = stage_rows.1 };
      final_rows = record { rows = final_limits.0; even = final_limits.1 };
      grid = sym (ap (λ (n : DesignNumbers). Some (pos n.grid)) e);
      lo = sym (ap (λ (n : DesignNumbers). Some n.lo) e);
      hi = sym (ap (λ (n : DesignNumbers). Some n.hi) e);
      target_den = sym (ap (λ (n : DesignNumbers). Some n.target_den) e);
      violation = sym (ap (λ (n : DesignNumbers). Some n.violation) e);
      gap = sym (ap (λ (n : DesignNumbers). Some n.gap) e);
    }

-- ---- the keys
-- key number i of the names stands before keys that are among them
more : (names : List (List ℕ)) (i : ℕ) (key : List ℕ) (keys : List (List ℕ)) → i < length names → get_or names i key ≡ key → All (Contains names) keys → All (Contains names) (key ∷ keys)
more names i key keys l here rest = all_more (Contains names) key keys (i, l, here) rest

top_keys : let names : List (List ℕ) = codes "version" ∷ codes "states" ∷ codes "inputs" ∷ codes "stages" ∷ codes "plant" ∷ codes "cost" ∷ codes "limits" ∷ codes "box" ∷ codes "targets" ∷ [] in
    All (Contains names) (codes "box" ∷ codes "cost" ∷ codes "inputs" ∷ codes "limits" ∷ codes "plant" ∷ codes "stages" ∷ codes "states" ∷ codes "targets" ∷ codes "version" ∷ [])
top_keys =
    let names : List (List ℕ) = codes "version" ∷ codes "states" ∷ codes "inputs" ∷ codes "stages" ∷ codes "plant" ∷ codes "cost" ∷ codes "limits" ∷ codes "box" ∷ codes "targets" ∷ [] in
    more names 7 (codes "box") (codes "cost" ∷ codes "inputs" ∷ codes "limits" ∷ codes "plant" ∷ codes "stages" ∷ codes "states" ∷ codes "targets" ∷ codes "version" ∷ []) (lit< tt) refl
    (more names 5 (codes "cost") (codes "inputs" ∷ codes "limits" ∷ codes "plant" ∷ codes "stages" ∷ codes "states" ∷ codes "targets" ∷ codes "version" ∷ []) (lit< tt) refl
    (more names 2 (codes "inputs") (codes "limits" ∷ codes "plant" ∷ codes "stages" ∷ codes "states" ∷ codes "targets" ∷ codes "version" ∷ []) (lit< tt) refl
    (more names 6 (codes "limits") (codes "plant" ∷ codes "stages" ∷ codes "states" ∷ codes "targets" ∷ codes "version" ∷ []) (lit< tt) refl
    (more names 4 (codes "plant") (codes "stages" ∷ codes "states" ∷ codes "targets" ∷ codes "version" ∷ []) (lit< tt) refl
    (more names 3 (codes "stages") (codes "states" ∷ codes "targets" ∷ codes "version" ∷ []) (lit< tt) refl
    (more names 1 (codes "states") (codes "targets" ∷ codes "version" ∷ []) (lit< tt) refl
    (more names 8 (codes "targets") (codes "version" ∷ []) (lit< tt) refl (more names 0 (codes "version") [] (lit< tt) refl (all_none (Contains names))))))))))

plant_keys : let names : List (List ℕ) = codes "den" ∷ codes "a" ∷ codes "b" ∷ [] in All (Contains names) (codes "a" ∷ codes "b" ∷ codes "den" ∷ [])
plant_keys =
    let names : List (List ℕ) = codes "den" ∷ codes "a" ∷ codes "b" ∷ [] in
    more names 1 (codes "a") (codes "b" ∷ codes "den" ∷ []) (lit< tt) refl (more names 2 (codes "b") (codes "den" ∷ []) (lit< tt) refl (more names 0 (codes "den") [] (lit< tt) refl (all_none (Contains names))))

cost_keys : let names : List (List ℕ) = codes "den" ∷ codes "row_den" ∷ codes "input" ∷ codes "stage" ∷ codes "final" ∷ [] in
    All (Contains names) (codes "den" ∷ codes "final" ∷ codes "input" ∷ codes "row_den" ∷ codes "stage" ∷ [])
cost_keys =
    let names : List (List ℕ) = codes "den" ∷ codes "row_den" ∷ codes "input" ∷ codes "stage" ∷ codes "final" ∷ [] in
    more names 0 (codes "den") (codes "final" ∷ codes "input" ∷ codes "row_den" ∷ codes "stage" ∷ []) (lit< tt) refl
    (more names 4 (codes "final") (codes "input" ∷ codes "row_den" ∷ codes "stage" ∷ []) (lit< tt) refl
    (more names 2 (codes "input") (codes "row_den" ∷ codes "stage" ∷ []) (lit< tt) refl (more names 1 (codes "row_den") (codes "stage" ∷ []) (lit< tt) refl (more names 3 (codes "stage") [] (lit< tt) refl (all_none (Contains names))))))

limits_keys : let names : List (List ℕ) = codes "den" ∷ codes "stage" ∷ codes "final" ∷ [] in All (Contains names) (codes "den" ∷ codes "final" ∷ codes "stage" ∷ [])
limits_keys =
    let names : List (List ℕ) = codes "den" ∷ codes "stage" ∷ codes "final" ∷ [] in
    more names 0 (codes "den") (codes "final" ∷ codes "stage" ∷ []) (lit< tt) refl (more names 2 (codes "final") (codes "stage" ∷ []) (lit< tt) refl (more names 1 (codes "stage") [] (lit< tt) refl (all_none (Contains names))))

box_keys : let names : List (List ℕ) = codes "grid" ∷ codes "lo" ∷ codes "hi" ∷ [] in All (Contains names) (codes "grid" ∷ codes "hi" ∷ codes "lo" ∷ [])
box_keys =
    let names : List (List ℕ) = codes "grid" ∷ codes "lo" ∷ codes "hi" ∷ [] in
    more names 0 (codes "grid") (codes "hi" ∷ codes "lo" ∷ []) (lit< tt) refl (more names 2 (codes "hi") (codes "lo" ∷ []) (lit< tt) refl (more names 1 (codes "lo") [] (lit< tt) refl (all_none (Contains names))))

targets_keys : let names : List (List ℕ) = codes "den" ∷ codes "violation" ∷ codes "gap" ∷ [] in All (Contains names) (codes "den" ∷ codes "gap" ∷ codes "violation" ∷ [])
targets_keys =
    let names : List (List ℕ) = codes "den" ∷ codes "violation" ∷ codes "gap" ∷ [] in
    more names 0 (codes "den") (codes "gap" ∷ codes "violation" ∷ []) (lit< tt) refl (more names 2 (codes "gap") (codes "violation" ∷ []) (lit< tt) refl (more names 1 (codes "violation") [] (lit< tt) refl (all_none (Contains names))))

pub no_further : (d : Drawn) (stages : ℕ) → AllHold (further_keys (made_document d stages))
no_further d stages = (top_keys, (plant_keys, (cost_keys, (limits_keys, (box_keys, (targets_keys, tt))))))

-- ---- their ranges
positive : (z : ℤ) → pos 1 ≤ℤ z → z ≤ℤ pos 4 → IsPositive z
positive z low high = record { low = low; high = omega (arith, ints, high) }

denominator : (z : ℤ) → pos 1 ≤ℤ z → z ≤ℤ pos 4 → IsDenominator z
denominator z low high = record { low = low; high = omega (arith, ints, high) }

weights : (d : Drawn) → InRange d → (r : ℕ) → r < 2 → pos 0 ≤ℤ entry_of (record { cols = 4; rows = cost_rows d }) r 3
weights d r zero l = omega (arith, ints, r.first_weight.0)
weights d r (suc zero) l = omega (arith, ints, r.second_weight.0)
weights d r (suc (suc k)) l = absurd (omega arith)

inside : (i : ℕ) → i < 2 → at (neg_ℤ (pos 16) ∷ neg_ℤ (pos 16) ∷ []) i ≤ℤ at (pos 16 ∷ pos 16 ∷ []) i
inside zero l = omega arith
inside (suc zero) l = omega arith
inside (suc (suc k)) l = absurd (omega arith)

pub is_design : (d : Drawn) (stages : ℕ) (p : DesignParts) → InRange d → LiesIn 1 20 stages → design_numbers p ≡ made_numbers d stages → IsDesign p
is_design d stages p r s e =
    let small = are_small d r in
    let version : p.version ≡ text_version = ap (λ (n : DesignNumbers). n.version) e in
    let states : p.states ≡ 2 = ap (λ (n : DesignNumbers). n.states) e in
    let inputs : p.inputs ≡ 2 = ap (λ (n : DesignNumbers). n.inputs) e in
    let horizon : p.stages ≡ stages = ap (λ (n : DesignNumbers). n.stages) e in
    let plant_den : p.plant_den ≡ pos 4 = ap (λ (n : DesignNumbers). n.plant_den) e in
    let a : p.a ≡ record { cols = 2; rows = plant_rows d } = ap (λ (n : DesignNumbers). n.a) e in
    let b : p.b ≡ record { cols = 2; rows = input_rows } = ap (λ (n : DesignNumbers). n.b) e in
    let cost_den : p.cost_den ≡ pos 1 = ap (λ (n : DesignNumbers). n.cost_den) e in
    let row_den : p.row_den ≡ pos 1 = ap (λ (n : DesignNumbers). n.row_den) e in
    let input : p.input_weights.items ≡ input_weights d = ap (λ (n : DesignNumbers). n.input_weights) e in
    let stage_cost : p.stage_cost ≡ record { cols = 4; rows = cost_rows d } = ap (λ (n : DesignNumbers). n.stage_cost) e in
    let final_cost : p.final_cost ≡ record { cols = 4; rows = [] } = ap (λ (n : DesignNumbers). n.final_cost) e in
    let limit_den : p.limit_den ≡ pos 4 = ap (λ (n : DesignNumbers). n.limit_den) e in
    let stage_limits : p.stage_rows ≡ record { cols = 5; rows = limit_rows } = ap (λ (n : DesignNumbers). n.stage_rows) e in
    let final_limits : p.final_rows ≡ record { cols = 3; rows = final_rows } = ap (λ (n : DesignNumbers). n.final_rows) e in
    let grid : p.grid ≡ 4 = ap (λ (n : DesignNumbers). n.grid) e in
    let lo : p.lo.items ≡ neg_ℤ (pos 16) ∷ neg_ℤ (pos 16) ∷ [] = ap (λ (n : DesignNumbers). n.lo) e in
    let hi : p.hi.items ≡ pos 16 ∷ pos 16 ∷ [] = ap (λ (n : DesignNumbers). n.hi) e in
    let target_den : p.target_den ≡ pos 4 = ap (λ (n : DesignNumbers). n.target_den) e in
    let violation : p.violation ≡ pos 1 = ap (λ (n : DesignNumbers). n.violation) e in
    let gap : p.gap ≡ pos 4 = ap (λ (n : DesignNumbers). n.gap) e in
    record {
      version = rw version (lit≤ tt, lit≤ tt);
      states = rw (version, states) (lit≤ tt, lit≤ tt);
      inputs = rw inputs (lit≤ tt, lit≤ tt);
      stages = rw (version, horizon) s;
      plant_den = rw plant_den (denominator (pos 4) (omega arith) (omega arith));
      a = rw (a, states) (record { rows = (lit≤ tt, lit≤ tt); cols = refl; numbers = rows_numerators (plant_rows d) small.plant });
      b = rw (b, states, inputs) (record { rows = (lit≤ tt, lit≤ tt); cols = refl; numbers = rows_numerators input_rows inputs_small });
      cost_den = rw cost_den (denominator (pos 1) (omega arith) (omega arith));
      row_den = rw row_den (denominator (pos 1) (omega arith) (omega arith));
      input_count = rw (input, inputs) refl;
      input_weights = rw input (all_more IsPositive d.first_input (d.second_input ∷ []) (positive d.first_input r.first_input.0 r.first_input.1)
          (all_more IsPositive d.second_input [] (positive d.second_input r.second_input.0 r.second_input.1) (all_none IsPositive)));
      stage_cost = rw (stage_cost, states) (record { rows = (lit≤ tt, lit≤ tt); cols = refl; numbers = rows_numerators (cost_rows d) small.cost });
      stage_weights = rw (stage_cost, states) (weights d r);
      final_cost = rw (final_cost, states) (record { rows = (lit≤ tt, lit≤ tt); cols = refl; numbers = all_none (All IsNumerator) });
      final_weights = rw final_cost (λ k l. absurd (omega arith));
      limit_den = rw limit_den (denominator (pos 4) (omega arith) (omega arith));
      stage_rows = rw (stage_limits, states, inputs) (record { rows = (lit≤ tt, lit≤ tt); cols = refl; numbers = rows_numerators limit_rows limits_small });
      final_rows = rw (final_limits, states) (record { rows = (lit≤ tt, lit≤ tt); cols = refl; numbers = rows_numerators final_rows finals_small });
      some_row = rw (stage_limits, final_limits) (lit≤ tt);
      grid = rw grid (lit≤ tt);
      lo = rw (lo, states) (record { long = refl; numbers = numerators (neg_ℤ (pos 16) ∷ neg_ℤ (pos 16) ∷ []) low_small });
      hi = rw (hi, states) (record { long = refl; numbers = numerators (pos 16 ∷ pos 16 ∷ []) high_small });
      box = rw (lo, hi, states) inside;
      target_den = rw target_den (denominator (pos 4) (omega arith) (omega arith));
      violation = rw violation (positive (pos 1) (omega arith) (omega arith));
      gap = rw gap (positive (pos 4) (omega arith) (omega arith));
    }

pub is_design_document : (d : Drawn) (stages : ℕ) (p : DesignParts) → InRange d → LiesIn 1 20 stages → design_numbers p ≡ made_numbers d stages → IsDesignDocument p (made_document d stages)
is_design_document d stages p r s e = record { numbers = has_numbers d stages p e; keys = no_further d stages; design = is_design d stages p r s e }
