-- A corner whose run was made.
use Rattle.std.proofs.Common.{◌≡◌, inl, inr, ℕ, ◌+◌, ◌-◌, ◌/◌, ◌%◌, ◌^◌, ◌<◌, ◌≤◌, ◌==◌, Bool, true, false, if◌then◌else◌, List, ℤ, pos, ◌*ℤ◌, length, map, unsigned_abs, arith, ap, ap₂, sym, subst, refl, ◌∙◌}
use mathlib.Core.Path.{fun_ext}
use Rattle.std.proofs.lemmas.Bool.{cases_lt}
use Rattle.std.proofs.lemmas.List.{get_or_past, length-map}
use Rattle.std.proofs.lemmas.Nat.{pow_pos}
use Rattle.std.proofs.lemmas.Int.{ints}
use Rattle.integer_algebra.specs.Division.{round_of}
use Rattle.integer_algebra.specs.Sums.{at}
use Rattle.frac_scaled.specs.Enclosures.{Enclosure, inexact}
use Rattle.mat_int.specs.Matrix.{row_of, entry_of}
use Rattle.enclosure.specs.declared.types.Enc.{Enc}
use Rattle.enclosure.specs.Values.{pair, pair_at}
use Rattle.qp_model.specs.declared.design_parts.DesignParts.{DesignParts}
use Rattle.qp_model.specs.problem.Design.{Design, entries}
use Rattle.qp_model.specs.problem.Parts.{design_of}
use Rattle.qp_model.specs.problem.Box.{corner}
use Rattle.qp_model.specs.problem.Policy.{Plans, IsPolicyFor}
use Rattle.qp_model.specs.form.FineForm.{fine_run, fine_cost, fine_limit}
use Rattle.qp_model.proofs.CornerFacts.{denominator_size, row_length}
use Rattle.scaled_run.specs.ScaledCorners.{over_unit, scaled_corner_state, scaled_corner_input, scaled_corner_limit}
use Rattle.scaled_run.proofs.EvenLaws.{bare, round_even, inexact_even}
use Rattle.scaled_run.specs.Lists.{HoldsEnclosures, Reaches, IsRunReady}
use Rattle.corner_margin.specs.Corner.{IsCorner}

-- the corner's index
pub index_is : (c : ℕ) → c + 1 - 1 ≡ c
index_is c = omega arith

-- 0
abbrev none : Enclosure
none = bare (pos 0)

-- a list as a function that is 0 past its end
held_as : (xs : List Enc) (n : ℕ) (f : ℕ → Enclosure) → HoldsEnclosures xs n f → ((i : ℕ) → n ≤ i → f i ≡ none) → pair_at xs ≡ f
held_as xs n f h z = fun_ext (λ i. each i)
  where
    each : (i : ℕ) → pair_at xs i ≡ f i
    each i = elim (cases_lt i n) [
      | inl l ↦ h.is i l
      | inr l ↦ get_or_past (map pair xs) i none (omega (arith, length-map xs pair, h.long)) ∙ sym (z i l)
    ]

none_over : (unit : ℕ) (z : ℤ) (d : ℕ) → z ≡ pos 0 → 1 ≤ d → over_unit unit z d ≡ none
none_over unit z d e p =
    subst (λ (x : ℤ). over_unit unit x d ≡ none) (sym e)
    (subst (λ (w : ℤ). ◌≡◌ {A = Enclosure} (record { mid = round_of w d; rad = inexact w d }) none) zero (both (round_even d (pos 0) p) (inexact_even d (pos 0) p)))
  where
    zero : pos 0 *ℤ pos d ≡ pos unit *ℤ pos 0
    zero = omega (arith, ints)

    both : {a b : ℤ} → a ≡ pos 0 → b ≡ pos 0 → ◌≡◌ {A = Enclosure} (record { mid = a; rad = b }) none
    both e f = rw (e, f) refl

-- a plan as code makes it
pub plan_held : (d : Design) (s : Plans) (unit c : ℕ) (row : List ℤ) (over : ℤ) (plan : List Enc) → IsPolicyFor d s → c < 2 ^ d.states → row ≡ row_of s.numerators c →
    over ≡ at s.denominators c → HoldsEnclosures plan (length row) (λ j. over_unit unit (at row j) (unsigned_abs over)) → HoldsEnclosures plan (entries d) (scaled_corner_input unit s (c + 1))
plan_held d s unit c row over plan f l e o h = record {
  long = h.long ∙ long;
  is = λ j m. h.is j (rw long m) ∙ rw (e, o, index_is c) refl;
}
  where
    long : length row ≡ entries d
    long = ap (λ (xs : List ℤ). length xs) e ∙ row_length s d c f l

module _ {p : DesignParts} {s : Plans} {unit reach c : ℕ} {start plan : List Enc} (k : IsCorner p s unit reach c start plan) where
  start_as : pair_at start ≡ scaled_corner_state unit (design_of p) (c + 1)
  start_as = held_as start p.states _ k.start_is (λ i l. none_over unit (corner (design_of p) (c + 1) i) (2 ^ p.grid) (chosen ((c + 1 - 1) / 2 ^ i % 2 == 1) _ _
      (get_or_past p.hi.items i (pos 0) (omega (arith, k.scale.design.hi.long))) (get_or_past p.lo.items i (pos 0) (omega (arith, k.scale.design.lo.long)))) (pow_pos p.grid))
    where
      chosen : (b : Bool) (x y : ℤ) → x ≡ pos 0 → y ≡ pos 0 → (if b then x else y) ≡ pos 0
      chosen true x y e f = e
      chosen false x y e f = f

  plan_as : pair_at plan ≡ scaled_corner_input unit s (c + 1)
  plan_as = held_as plan (entries (design_of p)) _ k.plan_is (λ j l. rw (index_is c) (none_over unit (entry_of s.numerators c j) (unsigned_abs (at s.denominators c))
      (get_or_past (row_of s.numerators c) j (pos 0) (omega (arith, row_length s (design_of p) c k.scale.policy k.scale.inside))) some))
    where
      some : 1 ≤ unsigned_abs (at s.denominators c)
      some = (denominator_size (at s.denominators c) (k.scale.policy.denominators c (pos 0) (omega (arith, k.scale.policy.count, k.scale.inside)))).0

  -- what its run needs
  pub ready : IsRunReady p reach start plan
  ready = record {
    design = k.scale.design;
    start = k.start_is.long;
    plan = k.plan_is.long;
    near_states = λ j i l m. subst (λ (e : Enclosure). Reaches e reach)
        (sym (ap₂ (λ (x v : ℕ → Enclosure). fine_run (design_of p) x v j i) start_as plan_as)) (k.scale.near_states j i l m);
    near_plan = λ j l. subst (λ (e : Enclosure). Reaches e reach) (sym (k.plan_is.is j l)) (k.scale.near_plan j l);
    fits = k.scale.states;
  }

  -- what rows have of the run
  pub limit_is : (i : ℕ) → fine_limit (design_of p) (pair_at start) (pair_at plan) i ≡ scaled_corner_limit unit (design_of p) s (c + 1) i
  limit_is i = ap₂ (λ (x v : ℕ → Enclosure). fine_limit (design_of p) x v i) start_as plan_as

  pub cost_is : (r : ℕ) → fine_cost (design_of p) (pair_at start) (pair_at plan) r ≡
      fine_cost (design_of p) (scaled_corner_state unit (design_of p) (c + 1)) (scaled_corner_input unit s (c + 1)) r
  cost_is r = ap₂ (λ (x v : ℕ → Enclosure). fine_cost (design_of p) x v r) start_as plan_as
