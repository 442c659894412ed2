-- Controllers by the version of their text: the greatest sizes of all versions, and the first version, where each row has the greatest exponent.
use Rattle.std.proofs.Common.{◌≡◌, ℕ, ◌*◌, ◌^◌, ◌<◌, ◌≤◌, ℤ, pos, negsuc, ◌*ℤ◌, List, length, map, get_or, arith, ap, ◌∙◌, le_refl, Bool, true, false, ◌==◌, if◌then◌else◌}
use Rattle.std.specs.List.{range_with_len}
use Rattle.std.proofs.Math.Nat.{div-one, mul-le-mul}
use Rattle.std.proofs.lemmas.Int.{ints}
use Rattle.std.proofs.lemmas.List.{get_or-replicate, same_lists, get_or_default}
use Rattle.std.proofs.lemmas.List.FromFn.{length-map-range_with_len, get_or-map-range_with_len}
use Rattle.integer_algebra.specs.Division.{floor_of}
use Rattle.integer_algebra.specs.Sums.{at}
use Rattle.qp_model.specs.problem.Limits.{text_version}
use Rattle.qp_model.specs.declared.design_parts.DesignParts.{DesignParts}
use Rattle.qp_model.specs.problem.Design.{rows}
use Rattle.qp_model.specs.problem.Parts.{IsDesign, design_of}
use Rattle.qp_model.specs.machine.Controller.{Numbers, IsSized}
use Rattle.qp_model.specs.machine.Machine.{exponent_of, lowering_of, raised, top_of}

-- ---- the greatest sizes of all versions
either_le : (first : Bool) (small great : ℕ) → small ≤ great → (if first then small else great) ≤ great
either_le true small great h = h
either_le false small great h = le_refl great

pub states_le : (c : Numbers) → IsSized c → c.states ≤ 6
states_le c sized = omega (arith, sized.states.1, either_le (c.version == 1) 4 6 (omega arith))

pub stages_le : (c : Numbers) → IsSized c → c.stages ≤ 30
stages_le c sized = omega (arith, sized.stages.1, either_le (c.version == 1) 20 30 (omega arith))

pub limits_le : (c : Numbers) → IsSized c → c.rows ≤ 372
limits_le c sized = omega (arith, sized.rows.1, either_le (c.version == 1) 20 30 (omega arith))

pub design_states_le : (p : DesignParts) → IsDesign p → p.states ≤ 6
design_states_le p h = omega (arith, h.states.1, either_le (p.version == 1) 4 6 (omega arith))

pub design_stages_le : (p : DesignParts) → IsDesign p → p.stages ≤ 30
design_stages_le p h = omega (arith, h.stages.1, either_le (p.version == 1) 20 30 (omega arith))

pub design_entries_le : (p : DesignParts) → IsDesign p → p.stages * p.inputs ≤ 90
design_entries_le p h = mul-le-mul (design_stages_le p h) h.inputs.1

pub design_rows_le : (p : DesignParts) → IsDesign p → rows (design_of p) ≤ 372
design_rows_le p h = omega (arith, mul-le-mul (design_stages_le p h) h.stage_rows.rows.1, h.final_rows.rows.1)

-- ---- the first version
pub first_exponent : (c : Numbers) → IsSized c → c.version ≡ text_version → (i : ℕ) → i < c.rows → exponent_of c i ≡ c.step_exponent
first_exponent c sized first i lt = rw (sized.same_exponents first) (get_or-replicate c.rows i c.step_exponent 0 lt)

first_lowering : (c : Numbers) → IsSized c → c.version ≡ text_version → (i : ℕ) → i < c.rows → lowering_of c i ≡ 0
first_lowering c sized first i lt = omega (arith, first_exponent c sized first i lt)

floor_of_one : (z : ℤ) → floor_of z 1 ≡ z
floor_of_one (pos a) = ap pos (div-one a)
floor_of_one (negsuc a) = ap negsuc (div-one a)

pub first_top : (c : Numbers) → IsSized c → c.version ≡ text_version → (i : ℕ) → i < c.rows → top_of c i ≡ c.clamp
first_top c sized first i lt = rw (first_lowering c sized first i lt) (floor_of_one c.clamp)

-- so raising changes nothing
pub first_raised : (c : Numbers) → IsSized c → c.version ≡ text_version → (multipliers : List ℤ) → length multipliers ≡ c.rows → raised c multipliers ≡ multipliers
first_raised c sized first multipliers long =
    let lift = λ (i : ℕ). at multipliers i *ℤ pos (2 ^ lowering_of c i) in
    let count = length c.bounds in
    let counted : length (map lift (range_with_len 0 count)) ≡ length multipliers = omega (arith, length-map-range_with_len lift 0 count, sized.shaped.bounds, long) in
    same_lists (raised c multipliers) multipliers counted (λ i d l.
    let inside : i < count = omega (arith, l, counted, long, sized.shaped.bounds) in
    rw (get_or-map-range_with_len lift 0 count i i d inside (omega arith), first_lowering c sized first i (omega (arith, inside, sized.shaped.bounds)))
    (times_one (get_or multipliers i (pos 0)) ∙ get_or_default multipliers i (pos 0) d (omega (arith, l, counted))))
  where
    times_one : (z : ℤ) → z *ℤ pos 1 ≡ z
    times_one z = omega (arith, ints)
