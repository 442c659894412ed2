-- One record of cuts, field by field.
use Rattle.std.proofs.Common.{◌≡◌, ℕ, zero, suc, ◌+◌, ◌-◌, ◌<◌, ◌≤◌, ℤ, pos, ◌+ℤ◌, ◌≤ℤ◌, ◌<ℤ◌, List, [], ◌∷◌, ◌++◌, length, Option, Some, None, IfSome, refl, sym, ap, subst, ◌∙◌, arith, below_more}
use Rattle.std.proofs.lemmas.List.{length_push, get_or_append_left, get_or_push}
use Rattle.integer_algebra.specs.Sums.{at}
use Rattle.csv.specs.Records.{field_at}
use Rattle.number_text.specs.declared.text_fault.TextFault.TheVariants.{Number}
use Rattle.policy_file.specs.NumberField.{IsNumberField}
use Rattle.policy_file.specs.Records.{field_of}
use Rattle.policy_file.proofs.PlaceFacts.{field_is, number_some}
use Rattle.cell_split.specs.Cuts.{part_low}
use Rattle.cell_split.specs.CutsText.{IsCutCount, HoldsCut, HoldsCuts, IsDisorder}

pub same_field : (fields : List (List ℕ)) (field : List ℕ) (i : ℕ) → i < length fields → Some field ≡ field_at fields i → field ≡ field_of fields i
same_field fields field i l e =
    let both : Some field ≡ Some (field_of fields i) = e ∙ field_is fields i l in
    cc both

-- a part before the last isn't changed by a cut more
pub low_before : (lo : ℤ) (cuts more : List ℤ) (k : ℕ) → k ≤ length cuts → part_low lo (cuts ++ more) k ≡ part_low lo cuts k
low_before lo cuts more zero l = refl
low_before lo cuts more (suc k) l = ap (λ (z : ℤ). z +ℤ pos 1) (get_or_append_left cuts more (pos 0) k (omega (arith, l)))

pub low_last : (lo : ℤ) (cuts : List ℤ) (cut : ℤ) → part_low lo (cuts ++ cut ∷ []) (suc (length cuts)) ≡ cut +ℤ pos 1
low_last lo cuts cut = ap (λ (z : ℤ). z +ℤ pos 1) (get_or_push cuts cut (pos 0) (length cuts) refl)

-- the cuts that were read before field i
pub record ReadCuts (lo hi : ℤ) (fields : List (List ℕ)) (cuts : List ℤ) (low : ℤ) (i : ℕ) : Type 0 where
  pub long : length cuts + 1 ≡ i
  pub least : low ≡ part_low lo cuts (length cuts)
  pub each : (k : ℕ) → k < length cuts → HoldsCut lo hi fields cuts k (at cuts k)

pub none_read : (lo hi : ℤ) (fields : List (List ℕ)) (cuts : List ℤ) → cuts ≡ [] → ReadCuts lo hi fields cuts lo 1
none_read lo hi fields cuts e = rw e (record { long = omega arith; least = refl; each = λ k l. absurd (omega (arith, l)) })

held_still : (lo hi : ℤ) (fields : List (List ℕ)) (cuts more : List ℤ) (k : ℕ) → k < length cuts → HoldsCut lo hi fields cuts k (at cuts k) → HoldsCut lo hi fields (cuts ++ more) k (at (cuts ++ more) k)
held_still lo hi fields cuts more k l h = rw (get_or_append_left cuts more (pos 0) k l) (record {
  number = h.number;
  right = record { low = rw (low_before lo cuts more k (omega (arith, l))) h.right.low; high = h.right.high };
})

held_last : (lo hi least : ℤ) (fields : List (List ℕ)) (cuts : List ℤ) (cut : ℤ) → least ≡ part_low lo cuts (length cuts) → IsNumberField (field_of fields (length cuts + 1)) cut → least ≤ℤ cut → cut <ℤ hi →
    HoldsCut lo hi fields (cuts ++ cut ∷ []) (length cuts) (at (cuts ++ cut ∷ []) (length cuts))
held_last lo hi least fields cuts cut e n l h = rw (get_or_push cuts cut (pos 0) (length cuts) refl) (record {
  number = n;
  right = record { low = rw (low_before lo cuts (cut ∷ []) (length cuts) (omega arith), ← e) l; high = h };
})

-- with one more
pub one_more : (lo hi least cut next : ℤ) (fields : List (List ℕ)) (field : List ℕ) (cuts new : List ℤ) (i : ℕ) → new ≡ cuts ++ cut ∷ [] → next ≡ cut +ℤ pos 1 → i < length fields → Some field ≡ field_at fields i →
    IsNumberField field cut → least ≤ℤ cut → cut <ℤ hi → ReadCuts lo hi fields cuts least i → ReadCuts lo hi fields new next (i + 1)
one_more lo hi least cut next fields field cuts new i e n l f number low high r = rw (e, n) (record {
  long = ap (λ (m : ℕ). m + 1) (length_push cuts cut ∙ r.long);
  least = sym (low_last lo cuts cut) ∙ ap (λ (m : ℕ). part_low lo (cuts ++ cut ∷ []) m) (sym (length_push cuts cut ∙ one (length cuts)));
  each = λ k m. all k (rw (← length_push cuts cut) m);
})
  where
    one : (m : ℕ) → m + 1 ≡ suc m
    one m = omega arith

    number_here : IsNumberField (field_of fields (length cuts + 1)) cut
    number_here = subst (λ (j : ℕ). IsNumberField (field_of fields j) cut) (sym r.long) (subst (λ (bytes : List ℕ). IsNumberField bytes cut) (same_field fields field i l f) number)

    all : (k : ℕ) → k < length cuts + 1 → HoldsCut lo hi fields (cuts ++ cut ∷ []) k (at (cuts ++ cut ∷ []) k)
    all = below_more (λ (k : ℕ). HoldsCut lo hi fields (cuts ++ cut ∷ []) k (at (cuts ++ cut ∷ []) k)) (length cuts)
        (λ k m. held_still lo hi fields cuts (cut ∷ []) k m (r.each k m)) (held_last lo hi least fields cuts cut r.least number_here low high)

-- and with none
pub disorder : (lo hi least : ℤ) (entry i : ℕ) (fields : List (List ℕ)) (field : List ℕ) (cuts : List ℤ) → IsCutCount fields (length fields - 1) → 1 ≤ length fields → i < length fields → Some field ≡ field_at fields i →
    ((z : ℤ) → IsNumberField field z → least ≤ℤ z → z <ℤ hi → ⊥) → ReadCuts lo hi fields cuts least i → IsDisorder lo hi entry fields (Number entry (i + 1))
disorder lo hi least entry i fields field cuts counted some l f wrong r = record {
  count = length fields - 1;
  counted = counted;
  width = omega (arith, some);
  cuts = cuts;
  inside = omega (arith, r.long, l);
  before = r.each;
  here = λ cut h. wrong cut (rw same (number cut h)) (rw r.least h.right.low) h.right.high;
  told = ap (λ (m : ℕ). Number entry m) place;
}
  where
    same : field ≡ field_of fields i
    same = same_field fields field i l f

    number : (cut : ℤ) → HoldsCut lo hi fields cuts (length cuts) cut → IsNumberField (field_of fields i) cut
    number cut h = subst (λ (j : ℕ). IsNumberField (field_of fields j) cut) r.long h.number

    place : i + 1 ≡ length cuts + 2
    place = omega (arith, r.long)

-- all of them
pub all_cuts : (lo hi least : ℤ) (i : ℕ) (fields : List (List ℕ)) (cuts : List ℤ) → IsCutCount fields (length fields - 1) → 1 ≤ length fields →
    length fields ≤ i → i ≤ length fields → ReadCuts lo hi fields cuts least i → HoldsCuts lo hi fields cuts
all_cuts lo hi least i fields cuts counted some l m r =
    let long : length fields - 1 ≡ length cuts = omega (arith, r.long, l, m) in
    record {
      count = subst (λ (n : ℕ). IsCutCount fields n) long counted;
      width = omega (arith, r.long, l, m);
      each = r.each;
    }

-- ---- the number of cuts
no_field : (fields : List (List ℕ)) → field_at fields 0 ≡ None → fields ≡ []
unfolding field_at
no_field [] e = refl
no_field (f ∷ fields) e = absurd cc

pub no_count : (fields : List (List ℕ)) (n : ℕ) → None ≡ field_at fields 0 → IsCutCount fields n → ⊥
no_count fields n e h = nothing (subst (λ (fs : List (List ℕ)). IsNumberField (field_of fs 0) (pos n)) (no_field fields (sym e)) h.number)
  where
    nothing : IsNumberField [] (pos n) → ⊥
    nothing r = omega (arith, number_some [] (pos n) r)

pub first_field : (fields : List (List ℕ)) (field : List ℕ) → Some field ≡ field_at fields 0 → field ≡ field_of fields 0
unfolding field_at
first_field [] field e = absurd cc
first_field (f ∷ fields) field e = cc

pub counted : (fields : List (List ℕ)) (field : List ℕ) (o : Option ℕ) → Some field ≡ field_at fields 0 → IfSome o (λ n. IsNumberField field (pos n) × (n ≤ 63)) → IfSome o (IsCutCount fields)
counted fields field None e h = tt
counted fields field (Some n) e h = record { number = subst (λ (bytes : List ℕ). IsNumberField bytes (pos n)) (first_field fields field e) h.0; few = h.1 }

pub count_here : (fields : List (List ℕ)) (field : List ℕ) (n : ℕ) → Some field ≡ field_at fields 0 → IsCutCount fields n → IsNumberField field (pos n)
count_here fields field n e h = rw (first_field fields field e) h.number
