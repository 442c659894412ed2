-- The members by their keys, one of which depends on how a controller is made.
use Rattle.std.proofs.Common.{◌≡◌, ℕ, pos, List, [], ◌∷◌, ◌++◌, Bool, true, false, codes, fold, refl, ℤ, map, if◌then◌else◌}
use Rattle.json.specs.Print.{escape, escape_byte}
use Rattle.serde_json.specs.Data.{Members, no_members, array, put}
use Rattle.qp_model.specs.bounds.Printed.{Printed}
use Rattle.bound_report.specs.Report.{Figure, One, Each, cost_key, last_members}
use Rattle.bound_report.specs.Document.{strings_of, value_of, members_of}

-- those up to the violation of all rows
abbrev pub members_by : Bool → Printed → List (List ℕ × Figure)
members_by lean b =
    (codes "bits", One (pos b.bits))
    ∷ (cost_key lean, One b.cost)
    ∷ (codes "gap", One b.gap)
    ∷ (codes "margin", One b.margin)
    ∷ (codes "multiplier", One b.multiplier)
    ∷ (codes "step", One (pos b.step))
    ∷ (codes "steps", One (pos b.steps))
    ∷ (codes "undercut", One b.undercut)
    ∷ (codes "version", One (pos b.version))
    ∷ (codes "violation", One b.violation)
    ∷ []

-- keys put with their figures, one by one
abbrev pub put_each : Members → List (List ℕ × Figure) → Members
put_each before figures = fold (λ m f. put f.0 (value_of f.1) m) before figures

-- put one by one they stand in their order
pub put_in_order : (lean : Bool) (b : Printed) → put_each no_members (members_by lean b ++ last_members b) ≡ members_of (members_by lean b ++ last_members b)
put_in_order true b = refl
put_in_order false b = refl

-- and the violations of the rows stand before the last ones
pub rows_in_order : (lean : Bool) (b : Printed) (rows : List ℤ) →
    put (codes "violations") (array (strings_of rows)) (members_of (members_by lean b ++ last_members b))
    ≡ members_of (members_by lean b ++ (codes "violations", Each rows) ∷ last_members b)
rows_in_order true b rows = refl
rows_in_order false b rows = refl

-- no key has a byte that is escaped
pub plain_by : (lean first : Bool) (b : Printed) (rows : List ℤ) →
    map (λ m. escape m.0) (members_by lean b ++ (if first then [] else (codes "violations", Each rows) ∷ []) ++ last_members b)
    ≡ map (λ m. m.0) (members_by lean b ++ (if first then [] else (codes "violations", Each rows) ∷ []) ++ last_members b)
unfolding escape_byte
plain_by true true b rows = refl
plain_by true false b rows = refl
plain_by false true b rows = refl
plain_by false false b rows = refl
