-- Unit states and unit plans in enclosures, as code makes them.
use Rattle.std.proofs.Common.{Ok, Err, IfOk, Result, ◌≡◌, ℕ, ◌*◌, ◌^◌, ◌<◌, ◌≤◌, inl, inr, List, ℤ, pos, map, set, replicate, unsigned_abs, arith, ap, sym, subst, ◌∙◌, refl}
use mathlib.Core.Path.{fun_ext}
use Rattle.std.proofs.lemmas.Bool.{cases_lt}
use Rattle.std.proofs.lemmas.Bool.Decides.{eqb_tells}
use Rattle.std.proofs.lemmas.List.{length-map, length-set, length-replicate, get_or-replicate, get_or-set_same, get_or-set_other, get_or_past}
use Rattle.integer_algebra.specs.Sums.{none}
use Rattle.frac_scaled.specs.Enclosures.{Enclosure}
use Rattle.enclosure.specs.declared.types.Enc.{Enc}
use Rattle.enclosure.specs.Values.{pair, pair_at}
use Rattle.enclosure.proofs.SumLaws.{pair_at_is}
use Rattle.qp_model.specs.declared.design_parts.DesignParts.{DesignParts}
use Rattle.qp_model.specs.problem.Parts.{design_of, IsDesign}
use Rattle.qp_model.specs.problem.Runs.{unit}
use Rattle.scaled_run.specs.ScaledForm.{whole, wholes_over}
use Rattle.qp_model.specs.form.Quantities.{growth}
use Rattle.qp_model.specs.form.FineForm.{fine_run}
use Rattle.qp_model.proofs.QuantityLaws.{unit_small}
use Rattle.qp_model.proofs.SizeFacts.{positive}
use Rattle.std.proofs.Math.Nat.{mul-le-mul_left, mul-le-mul_right}
use Rattle.std.proofs.Math.IntN.{*ℤ-zero}
use Rattle.scaled_run.specs.Lists.{HoldsEnclosures, Reaches, IsRunReady}
use Rattle.scaled_run.proofs.Rooms.{whole_reaches}
use Rattle.scaled_condense.specs.Lists.{IsScale, IsRunOver}

-- ---- lists of whole numbers
pub zeros_hold : (m : ℕ) (xs : List Enc) (n : ℕ) (z : Enc) → xs ≡ replicate n z → pair z ≡ whole m (pos 0) → HoldsEnclosures xs n (wholes_over m none)
zeros_hold m xs n z e h = rw e (record {
  long = length-replicate n z;
  is = λ i l. pair_at_is (replicate n z) i z (rw (length-replicate n z) l) ∙ ap pair (get_or-replicate n i z z l) ∙ h;
})

-- one of them 1
pub unit_holds : (m : ℕ) (xs new : List Enc) (n j : ℕ) (x : Enc) → new ≡ set xs j x → pair x ≡ whole m (pos 1) → j < n → HoldsEnclosures xs n (wholes_over m none) →
    HoldsEnclosures new n (wholes_over m (unit j))
unit_holds m xs new n j x e h l p = rw e (record {
  long = length-set xs j x ∙ p.long;
  is = λ i o. pair_at_is (set xs j x) i x (omega (arith, length-set xs j x, p.long)) ∙ (elim (eqb_tells j i) [
    | inl q ↦ rw (q.0, ← q.1) (ap pair (get_or-set_same xs j x x (omega (arith, p.long))) ∙ h)
    | inr q ↦ rw q.0 (ap pair (get_or-set_other xs j i x x (λ f. q.1 (sym f))) ∙ sym (pair_at_is xs i x (omega (arith, p.long))) ∙ p.is i o)
  ]);
})

-- what such a list holds past its end
everywhere : (m : ℕ) (xs : List Enc) (n : ℕ) (f : ℕ → ℤ) → ((i : ℕ) → n ≤ i → f i ≡ pos 0) → HoldsEnclosures xs n (wholes_over m f) → pair_at xs ≡ wholes_over m f
everywhere m xs n f h p = fun_ext (λ i. elim (cases_lt i n) [
  | inl l ↦ p.is i l
  | inr l ↦ get_or_past (map pair xs) i _ (rw (length-map xs pair, p.long) l) ∙ sym (ap (whole m) (h i l) ∙ nought m)
])
  where
    nought : (m : ℕ) → whole m (pos 0) ≡ record { mid = pos 0; rad = pos 0 }
    nought m = rw (*ℤ-zero (pos m)) refl

pub none_everywhere : (m : ℕ) (xs : List Enc) (n : ℕ) → HoldsEnclosures xs n (wholes_over m none) → pair_at xs ≡ wholes_over m none
none_everywhere m xs n p = everywhere m xs n none (λ i l. refl) p

pub unit_everywhere : (m : ℕ) (xs : List Enc) (n j : ℕ) → j < n → HoldsEnclosures xs n (wholes_over m (unit j)) → pair_at xs ≡ wholes_over m (unit j)
unit_everywhere m xs n j l p = everywhere m xs n (unit j) (λ i o. past i o) p
  where
    past : (i : ℕ) → n ≤ i → unit j i ≡ pos 0
    past i o = elim (eqb_tells j i) [
      | inl q ↦ absurd (apart q.1)
      | inr q ↦ rw q.0 refl
    ]
      where
        apart : j ≡ i → ⊥
        apart e = omega (arith, e, l, o)

-- ---- what a run of them needs
module _ (p : DesignParts) (m reach : ℕ) (start plan : List Enc) (j : ℕ) (h : IsScale p m reach) where
  near : (xs : List Enc) (n : ℕ) (f : ℕ → ℤ) → ((i : ℕ) → unsigned_abs (f i) ≤ 1) → HoldsEnclosures xs n (wholes_over m f) → (i : ℕ) → i < n → Reaches (pair_at xs i) reach
  near xs n f small k i l = subst (λ (e : Enclosure). Reaches e reach) (sym (k.is i l)) (whole_reaches m (f i) reach (once m (unsigned_abs (f i)) reach (small i) h.covers))
    where
      once : (m n r : ℕ) → n ≤ 1 → m ≤ r → m * n ≤ r
      once m n r l k = omega (arith, mul-le-mul_left m l)

  none_small : (i : ℕ) → unsigned_abs (none i) ≤ 1
  none_small i = omega arith

  -- what holds of a run of whole numbers holds of one of lists that hold them
  of_lists : (x v : ℕ → ℤ) → pair_at start ≡ wholes_over m x → pair_at plan ≡ wholes_over m v →
      ((k i : ℕ) → k ≤ p.stages → i < p.states → Reaches (fine_run (design_of p) (wholes_over m x) (wholes_over m v) k i) reach) →
      (k i : ℕ) → k ≤ p.stages → i < p.states → Reaches (fine_run (design_of p) (pair_at start) (pair_at plan) k i) reach
  of_lists x v e f r k i l o =
      subst (λ (z : ℕ → Enclosure). Reaches (fine_run (design_of p) z (pair_at plan) k i) reach) (sym e)
      (subst (λ (z : ℕ → Enclosure). Reaches (fine_run (design_of p) (wholes_over m x) z k i) reach) (sym f) (r k i l o))

  pub plan_ready : j < p.stages * p.inputs → HoldsEnclosures start p.states (wholes_over m none) → HoldsEnclosures plan (p.stages * p.inputs) (wholes_over m (unit j)) →
      IsRunReady p reach start plan
  plan_ready o s v = record {
    design = h.design;
    start = s.long;
    plan = v.long;
    near_states = of_lists none (unit j) (none_everywhere m start p.states s) (unit_everywhere m plan (p.stages * p.inputs) j o v) (h.of_plan j);
    near_plan = near plan (p.stages * p.inputs) (unit j) (unit_small j) v;
    fits = h.room;
  }

  pub state_ready : j < p.states → HoldsEnclosures start p.states (wholes_over m (unit j)) → HoldsEnclosures plan (p.stages * p.inputs) (wholes_over m none) →
      IsRunReady p reach start plan
  state_ready o s v = record {
    design = h.design;
    start = s.long;
    plan = v.long;
    near_states = of_lists (unit j) none (unit_everywhere m start p.states j o s) (none_everywhere m plan (p.stages * p.inputs) v) (h.of_state j);
    near_plan = near plan (p.stages * p.inputs) none none_small v;
    fits = h.room;
  }

  -- the unit fits a word with room
  pub over_small : m ≤ 2 ^ 126
  over_small = last (growth (design_of p)) (m) reach (some p h.design) h.covers h.room
    where
      some : (p : DesignParts) → IsDesign p → 1 ≤ growth (design_of p)
      some p h = omega (arith, positive p.plant_den h.plant_den.low)

      last : (g m r : ℕ) → 1 ≤ g → m ≤ r → g * r ≤ 2 ^ 126 → m ≤ 2 ^ 126
      last g m r h k l = omega (arith, mul-le-mul_right r h, k, l)

-- what it was made of
module _ (m reach : ℕ) (p : DesignParts) (x v : ℕ → ℤ) {R E : Type 0} (parts : R → DesignParts) (first : R → ℕ) (start plan : R → List Enc) (xs vs : List Enc) (hx : pair_at xs ≡ wholes_over m x)
    (hv : pair_at vs ≡ wholes_over m v) where
  pub made_of : (r : Result R E) → IfOk r (λ r. parts r ≡ p) → IfOk r (λ r. first r ≡ reach) → IfOk r (λ r. start r ≡ xs) → IfOk r (λ r. plan r ≡ vs) →
      IfOk r (λ r. IsRunOver m reach p x v (parts r) (first r) (start r) (plan r))
  made_of (Ok r) a b e f = record { parts = a; first = b; start = ap pair_at e ∙ hx; plan = ap pair_at f ∙ hv }
  made_of (Err y) a b e f = tt
