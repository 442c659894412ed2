-- A text of cuts is right, or wrong, in one way.
use Rattle.std.proofs.Common.{◌≡◌, ◌⊎◌, ℕ, zero, suc, ◌+◌, ◌<◌, ℤ, pos, ◌+ℤ◌, List, [], length, Result, IfOk, IfErr, refl, sym, ap, ◌∙◌, arith, inl, inr}
use Rattle.std.specs.Prelude.{MatchResult}
use Rattle.std.proofs.lemmas.Bool.{cases_order}
use Rattle.std.proofs.lemmas.List.{ext_get_or}
use Rattle.integer_algebra.specs.Sums.{at}
use Rattle.number_text.specs.declared.text_fault.TextFault.{TextFault}
use Rattle.number_text.specs.declared.text_fault.TextFault.TheVariants.{Memory, Number}
use Rattle.qp_model.specs.problem.Design.{Design}
use Rattle.policy_file.specs.Records.{records_of, record_at, field_of}
use Rattle.policy_file.proofs.UniqueFacts.{same_number, both_ways}
use Rattle.cell_split.specs.Cuts.{part_low}
use Rattle.cell_split.specs.Cells.{cuts_of, cell_count}
use Rattle.cell_split.specs.CutsText.{IsCutCount, HoldsCut, HoldsCuts, IsMisfit, IsDisorder, IsCutsFault, HoldsCoordinate, IsCutRecordFault, HoldLists, IsCutsText, IsCutsTextFault}

-- ---- records
same_count : (fields : List (List ℕ)) (m n : ℕ) → IsCutCount fields m → IsCutCount fields n → m ≡ n
same_count fields m n h k = let e = same_number (field_of fields 0) (pos m) (pos n) h.number k.number in cc e

-- the cuts up to one are the same
SoFar : ℤ → ℤ → List (List ℕ) → List ℤ → ℕ → Type 0
SoFar lo hi fields cuts n = (k : ℕ) → k < n → HoldsCut lo hi fields cuts k (at cuts k)

same_low : (lo hi : ℤ) (fields : List (List ℕ)) (a b : List ℤ) (n : ℕ) → SoFar lo hi fields a n → SoFar lo hi fields b n → part_low lo a n ≡ part_low lo b n
unfolding SoFar
same_low lo hi fields a b zero h k = refl
same_low lo hi fields a b (suc n) h k = ap (λ (z : ℤ). z +ℤ pos 1) (same_number (field_of fields (n + 1)) (at a n) (at b n) (h n (omega arith)).number (k n (omega arith)).number)

moved : (lo hi : ℤ) (fields : List (List ℕ)) (a b : List ℤ) (n : ℕ) (cut : ℤ) → SoFar lo hi fields a n → SoFar lo hi fields b n → HoldsCut lo hi fields a n cut → HoldsCut lo hi fields b n cut
moved lo hi fields a b n cut h k c = record {
  number = c.number;
  right = record { low = rw (← same_low lo hi fields a b n h k) c.right.low; high = c.right.high };
}

same_cuts : (lo hi : ℤ) (fields : List (List ℕ)) (a b : List ℤ) → HoldsCuts lo hi fields a → HoldsCuts lo hi fields b → a ≡ b
same_cuts lo hi fields a b h k =
    let e = same_count fields (length a) (length b) h.count k.count in
    ext_get_or (pos 0) a b e (λ i l. same_number (field_of fields (i + 1)) (at a i) (at b i) (h.each i l).number (k.each i (omega (arith, l, e))).number)

right_or_wrong : (lo hi : ℤ) (e : ℕ) (fields : List (List ℕ)) (cuts : List ℤ) (fault : TextFault) → HoldsCuts lo hi fields cuts → IsCutsFault lo hi e fields fault → ⊥
unfolding SoFar
right_or_wrong lo hi e fields cuts fault h (inl f) = f.none (length cuts) h.count
right_or_wrong lo hi e fields cuts fault h (inr (inl f)) = f.here (h.width ∙ ap (λ (n : ℕ). n + 1) (same_count fields (length cuts) f.count h.count f.counted))
right_or_wrong lo hi e fields cuts fault h (inr (inr f)) =
    let n = same_count fields (length cuts) f.count h.count f.counted in
    let l : length f.cuts < length cuts = omega (arith, n, f.inside) in
    f.here (at cuts (length f.cuts)) (moved lo hi fields cuts f.cuts (length f.cuts) _ (λ k m. h.each k (omega (arith, l, m))) f.before (h.each (length f.cuts) l))

same_place : (lo hi : ℤ) (e : ℕ) (fields : List (List ℕ)) (a b : TextFault) (f : IsDisorder lo hi e fields a) (g : IsDisorder lo hi e fields b) → length f.cuts < length g.cuts → ⊥
unfolding SoFar
same_place lo hi e fields a b f g l = f.here (at g.cuts (length f.cuts)) (moved lo hi fields g.cuts f.cuts (length f.cuts) _ (λ k m. g.before k (omega (arith, l, m))) f.before (g.before (length f.cuts) l))

same_disorder : (lo hi : ℤ) (e : ℕ) (fields : List (List ℕ)) (a b : TextFault) → IsDisorder lo hi e fields a → IsDisorder lo hi e fields b → a ≡ b
same_disorder lo hi e fields a b f g = f.told ∙ ap (λ (n : ℕ). Number e (n + 2)) same ∙ sym g.told
  where
    same : length f.cuts ≡ length g.cuts
    same = elim (cases_order (length f.cuts) (length g.cuts)) [
      | inl q ↦ q
      | inr (inl o) ↦ absurd (same_place lo hi e fields a b f g o)
      | inr (inr o) ↦ absurd (same_place lo hi e fields b a g f o)
    ]

misfit_or_disorder : (lo hi : ℤ) (e : ℕ) (fields : List (List ℕ)) (a b : TextFault) → IsMisfit e fields a → IsDisorder lo hi e fields b → ⊥
misfit_or_disorder lo hi e fields a b f g = f.here (g.width ∙ ap (λ (n : ℕ). n + 1) (same_count fields g.count f.count g.counted f.counted))

same_fault : (lo hi : ℤ) (e : ℕ) (fields : List (List ℕ)) (a b : TextFault) → IsCutsFault lo hi e fields a → IsCutsFault lo hi e fields b → a ≡ b
same_fault lo hi e fields a b (inl f) (inl g) = f.told ∙ sym g.told
same_fault lo hi e fields a b (inl f) (inr (inl g)) = absurd (f.none g.count g.counted)
same_fault lo hi e fields a b (inl f) (inr (inr g)) = absurd (f.none g.count g.counted)
same_fault lo hi e fields a b (inr (inl f)) (inl g) = absurd (g.none f.count f.counted)
same_fault lo hi e fields a b (inr (inl f)) (inr (inl g)) = f.told ∙ sym g.told
same_fault lo hi e fields a b (inr (inl f)) (inr (inr g)) = absurd (misfit_or_disorder lo hi e fields a b f g)
same_fault lo hi e fields a b (inr (inr f)) (inl g) = absurd (g.none f.count f.counted)
same_fault lo hi e fields a b (inr (inr f)) (inr (inl g)) = absurd (misfit_or_disorder lo hi e fields b a g f)
same_fault lo hi e fields a b (inr (inr f)) (inr (inr g)) = same_disorder lo hi e fields a b f g

-- ---- texts
held_or_wrong : (d : Design) (rows : List (List (List ℕ))) (fault : TextFault) → ((i : ℕ) → i < d.states → i < length rows → (cuts : List ℤ) × HoldsCoordinate d rows i cuts) → IsCutRecordFault d rows fault → ⊥
held_or_wrong d rows fault h f =
    let z = h f.index f.asked f.inside in
    right_or_wrong (d.low f.index) (d.high f.index) (f.index + 1) (record_at rows f.index) z.0 fault z.1 f.here

earlier : (d : Design) (rows : List (List (List ℕ))) (a b : TextFault) (f : IsCutRecordFault d rows a) (g : IsCutRecordFault d rows b) → f.index < g.index → ⊥
earlier d rows a b f g l =
    let z = g.before f.index l in
    right_or_wrong (d.low f.index) (d.high f.index) (f.index + 1) (record_at rows f.index) z.0 a z.1 f.here

same_record_fault : (d : Design) (rows : List (List (List ℕ))) (a b : TextFault) → IsCutRecordFault d rows a → IsCutRecordFault d rows b → a ≡ b
same_record_fault d rows a b f g = same_fault (d.low f.index) (d.high f.index) (f.index + 1) (record_at rows f.index) a b f.here (rw same g.here)
  where
    same : f.index ≡ g.index
    same = elim (cases_order f.index g.index) [
      | inl q ↦ q
      | inr (inl o) ↦ absurd (earlier d rows a b f g o)
      | inr (inr o) ↦ absurd (earlier d rows b a g f o)
    ]

same_lists : (d : Design) (rows : List (List (List ℕ))) (a b : List (List ℤ)) → HoldLists d rows a → HoldLists d rows b → a ≡ b
same_lists d rows a b h k = ext_get_or [] a b (h.count ∙ sym k.count)
    (λ i l. let m : i < d.states = omega (arith, l, h.count) in same_cuts (d.low i) (d.high i) (record_at rows i) (cuts_of a i) (cuts_of b i) (h.each i m) (k.each i m))

cuts_not : (bytes : List ℕ) (d : Design) (cuts : List (List ℤ)) (e : TextFault) → IsCutsText bytes d cuts → IsCutsTextFault bytes d e → ⊥
cuts_not bytes d cuts e h (inl f) = held_or_wrong d (records_of bytes) e (λ i l m. (cuts_of cuts i, h.hold.each i l)) f
cuts_not bytes d cuts e h (inr (inl f)) = f.here h.hold.records
cuts_not bytes d cuts e h (inr (inr f)) = let s = ap cell_count (same_lists d (records_of bytes) cuts f.lists h.hold f.hold) in omega (arith, s, f.many, h.few)

cuts_one : (bytes : List ℕ) (d : Design) (a b : TextFault) → IsCutsTextFault bytes d a → IsCutsTextFault bytes d b → a ≡ b
cuts_one bytes d a b (inl f) (inl g) = same_record_fault d (records_of bytes) a b f g
cuts_one bytes d a b (inl f) (inr (inl g)) = absurd (held_or_wrong d (records_of bytes) a g.each f)
cuts_one bytes d a b (inl f) (inr (inr g)) = absurd (held_or_wrong d (records_of bytes) a (λ i l m. (cuts_of g.lists i, g.hold.each i l)) f)
cuts_one bytes d a b (inr (inl f)) (inl g) = absurd (held_or_wrong d (records_of bytes) b f.each g)
cuts_one bytes d a b (inr (inl f)) (inr (inl g)) = f.told ∙ sym g.told
cuts_one bytes d a b (inr (inl f)) (inr (inr g)) = absurd (f.here g.hold.records)
cuts_one bytes d a b (inr (inr f)) (inl g) = absurd (held_or_wrong d (records_of bytes) b (λ i l m. (cuts_of f.lists i, f.hold.each i l)) g)
cuts_one bytes d a b (inr (inr f)) (inr (inl g)) = absurd (g.here f.hold.records)
cuts_one bytes d a b (inr (inr f)) (inr (inr g)) = f.told ∙ sym g.told

pub cuts_told : (bytes : List ℕ) (d : Design) (r : Result (List (List ℤ)) TextFault) → IfOk r (IsCutsText bytes d) → IfErr r (λ e. (e ≡ Memory) ⊎ IsCutsTextFault bytes d e) →
    ((a : List (List ℤ)) → IsCutsText bytes d a → MatchResult r (λ c. c ≡ a) (λ e. e ≡ Memory)) ×
    ((e : TextFault) → IsCutsTextFault bytes d e → MatchResult r (λ _. ⊥) (λ f. (f ≡ e) ⊎ (f ≡ Memory)))
cuts_told bytes d r found fault =
    both_ways (λ (c : List (List ℤ)). c) r (IsCutsText bytes d) (IsCutsTextFault bytes d) found fault (cuts_not bytes d)
    (λ a b h k. same_lists d (records_of bytes) a b h.hold k.hold) (cuts_one bytes d)
