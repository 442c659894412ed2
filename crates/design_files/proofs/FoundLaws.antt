-- Values that stand at the keys of the places, and the first that doesn't.
use Rattle.std.proofs.Common.{◌≡◌, ℕ, zero, suc, ◌+◌, ◌<◌, List, [], ◌∷◌, length, get_or, set, Option, Some, None, option_map, map, refl, sym, ap, ◌∙◌, inl, inr, Bor, arith}
use Rattle.std.specs.Prelude.{IsSome, slice_get}
use Rattle.std.proofs.lemmas.Bool.{cases_lt}
use Rattle.std.proofs.lemmas.Option.{same_Some, none-some}
use Rattle.toml.specs.Data.{Data, Members}
use Rattle.toml.specs.View.{view}
use Rattle.toml.specs.declared.value.Value.{Value}
use Rattle.qp_model.specs.problem.Rules.{AllHold, IsFirstBroken}
use Rattle.number_text.specs.declared.text_fault.TextFault.{TextFault}
use Rattle.number_text.specs.declared.text_fault.TextFault.TheVariants.{Key}
use Rattle.design_files.specs.Document.{standing}
use Rattle.design_files.specs.Values.{values_of, in_order, keys_stand}
use Rattle.design_files.specs.Keys.{seen}
use Rattle.design_files.specs.declared.keys.Keys.{Keys}

absent : {A : Type 0} (o : Option A) → o ≡ None → ¬ IsSome o
absent None e is = cc
absent (Some x) e is = cc

-- ---- the rules of the keys
pub all_stand : (place : ℕ) (values : List (Option Data)) → ((k : ℕ) → k < length values → IsSome (get_or values k None)) → AllHold (keys_stand place values)
all_stand place [] each = tt
all_stand place (value ∷ values) each = (each 0 (omega arith), all_stand (place + 1) values (λ k l. each (suc k) (omega (arith, l))))

pub broken_at : (place : ℕ) (values : List (Option Data)) (i : ℕ) (fault : TextFault) → i < length values → ((k : ℕ) → k < i → IsSome (get_or values k None)) →
    get_or values i None ≡ None → (here : ℕ) → here ≡ i + place → fault ≡ Key here → IsFirstBroken (keys_stand place values) fault
broken_at place [] i fault l before none here at e = absurd (omega (arith, l))
broken_at place (value ∷ values) zero fault l before none here at e = inl (absent value none, e ∙ ap Key (let same : here ≡ place = omega (arith, at) in same))
broken_at place (value ∷ values) (suc i) fault l before none here at e =
    inr (before 0 (omega arith), broken_at (place + 1) values i fault (omega (arith, l)) (λ k h. before (suc k) (omega (arith, h))) none here (omega (arith, at)) e)

-- ---- the places of a table
-- what stands at one of them
pub stands_at : (ps : List (Option (List ℕ) × List ℕ)) (m : Members) (i : ℕ) (name : Option (List ℕ)) (key : List ℕ) → slice_get ps i ≡ Some (name, key) →
    standing name key m ≡ get_or (map (λ p. standing p.0 p.1 m) ps) i None
stands_at [] m i name key e = absurd (none-some (name, key) e)
stands_at (p ∷ ps) m zero name key e = ap (λ (q : Option (List ℕ) × List ℕ). standing q.0 q.1 m) (sym (same_Some p (name, key) e))
stands_at (p ∷ ps) m (suc i) name key e = stands_at ps m i name key e

-- ---- what was found so far
abbrev pub at_keys : List (Bor Value) → ℕ → Option Data
at_keys values k = option_map (λ value. view value.now) (slice_get values k)

pub found_there : (values : List (Bor Value)) (k : ℕ) → k < length values → IsSome (at_keys values k)
found_there [] k l = absurd (omega (arith, l))
found_there (value ∷ values) zero l = refl
found_there (value ∷ values) (suc k) l = found_there values k (omega (arith, l))

-- a value written over one
written : (values : List (Bor Value)) (i : ℕ) (value : Bor Value) → i < length values → at_keys (set values i value) i ≡ Some (view value.now)
written [] i value l = absurd (omega (arith, l))
written (v ∷ values) zero value l = refl
written (v ∷ values) (suc i) value l = written values i value (omega (arith, l))

kept : (values : List (Bor Value)) (i k : ℕ) (value : Bor Value) → k < i → at_keys values k ≡ at_keys (set values i value) k
kept [] i k value l = refl
kept (v ∷ values) zero k value l = absurd (omega (arith, l))
kept (v ∷ values) (suc i) zero value l = refl
kept (v ∷ values) (suc i) (suc k) value l = kept values i k value (omega (arith, l))

pub found_more : (f : ℕ → Option Data) (values : List (Bor Value)) (i : ℕ) (value : Bor Value) → i < length values → f i ≡ Some (view value.now) →
    ((k : ℕ) → k < i → f k ≡ at_keys values k) → (k : ℕ) → k < i + 1 → f k ≡ at_keys (set values i value) k
found_more f values i value l here before k h = elim (cases_lt k i) [
  | inl lt ↦ before k lt ∙ kept values i k value lt
  | inr ge ↦ let same : k ≡ i = omega (arith, h, ge) in rw same (here ∙ sym (written values i value l))
]

-- all of them
pub all_seen : (m : Members) (keys : Keys) → ((k : ℕ) → k < 21 → get_or (in_order m) k None ≡ at_keys keys.values k) → values_of m ≡ seen keys
all_seen m keys e = (λ i. record {
  version = e 0 (omega arith) i;
  states = e 1 (omega arith) i;
  inputs = e 2 (omega arith) i;
  stages = e 3 (omega arith) i;
  plant_den = e 4 (omega arith) i;
  a = e 5 (omega arith) i;
  b = e 6 (omega arith) i;
  cost_den = e 7 (omega arith) i;
  row_den = e 8 (omega arith) i;
  input = e 9 (omega arith) i;
  stage_cost = e 10 (omega arith) i;
  final_cost = e 11 (omega arith) i;
  limit_den = e 12 (omega arith) i;
  stage_rows = e 13 (omega arith) i;
  final_rows = e 14 (omega arith) i;
  grid = e 15 (omega arith) i;
  lo = e 16 (omega arith) i;
  hi = e 17 (omega arith) i;
  target_den = e 18 (omega arith) i;
  violation = e 19 (omega arith) i;
  gap = e 20 (omega arith) i;
})
