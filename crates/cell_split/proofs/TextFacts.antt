-- The records of a text of cuts, one after the other.
use Rattle.std.proofs.Common.{◌≡◌, ◌≢◌, ◌⊎◌, ℕ, ◌+◌, ◌<◌, ◌≤◌, ℤ, List, [], ◌∷◌, ◌++◌, length, map, get_or, Vec, All, Result, Ok, Err, IfOk, IfErr, sym, ap, ◌∙◌, arith, below_more, inl, inr}
use Rattle.std.specs.declared.alloc.Global.{Global}
use Rattle.std.proofs.lemmas.Bool.{cases_lt}
use Rattle.std.proofs.lemmas.List.{length_push, get_or_append_left, get_or_push, get_or-map, length-map, map-append}
use Rattle.csv.specs.Records.{Row, fields_of}
use Rattle.mat_int.specs.Lines.{lists}
use Rattle.number_text.specs.declared.text_fault.TextFault.{TextFault}
use Rattle.number_text.specs.declared.text_fault.TextFault.TheVariants.{Memory, Range, Count}
use Rattle.qp_model.specs.problem.Design.{Design}
use Rattle.policy_file.specs.Records.{records_of, record_at}
use Rattle.cell_split.specs.Cells.{cuts_of, cell_count, AreCutsFor}
use Rattle.cell_split.specs.CutsText.{HoldsCuts, IsCutsFault, HoldsCoordinate, IsCutRecordFault, IsCutCountFault, HoldLists, IsCutsText, IsCutsTextFault}
use Rattle.cell_split.specs.ReadLists.{AreCutsRead}

-- ---- list by list
pub record ReadUpTo (d : Design) (rows : List (List (List ℕ))) (read : List (List ℤ)) (i : ℕ) : Type 0 where
  pub long : length read ≡ i
  pub inside : i ≤ length rows
  pub each : (j : ℕ) → j < i → HoldsCoordinate d rows j (cuts_of read j)

pub record_is : (records : List Row) (row : Row) (i : ℕ) → i < length records → row ≡ get_or records i row → fields_of row ≡ record_at (map fields_of records) i
record_is records row i l e = ap fields_of e ∙ sym (get_or-map fields_of records i row [] l)

pub one_more : (d : Design) (records : List Row) (read new : List (Vec ℤ Global)) (v : Vec ℤ Global) (row : Row) (lo hi : ℤ) (i : ℕ) → new ≡ read ++ v ∷ [] → i < length records → row ≡ get_or records i row →
    lo ≡ d.low i → hi ≡ d.high i → HoldsCuts lo hi (fields_of row) v.items → ReadUpTo d (map fields_of records) (lists read) i → ReadUpTo d (map fields_of records) (lists new) (i + 1)
one_more d records read new v row lo hi i e l r a b h f = rw (e, map-append (λ (w : Vec ℤ Global). w.items) read (v ∷ [])) (record {
  long = length_push (lists read) v.items ∙ ap (λ (n : ℕ). n + 1) f.long;
  inside = omega (arith, l, length-map records fields_of);
  each = below_more (λ (j : ℕ). HoldsCoordinate d (map fields_of records) j (cuts_of (lists read ++ v.items ∷ []) j)) i
      (λ j m. rw (get_or_append_left (lists read) (v.items ∷ []) [] j (omega (arith, m, f.long))) (f.each j m))
      (rw (get_or_push (lists read) v.items [] i f.long, ← a, ← b, ← record_is records row i l r) h);
})

-- the records came to their end, or to the last coordinate
pub ended : (d : Design) (records : List Row) (read : List (List ℤ)) (i : ℕ) → i ≤ d.states → i ≡ length records → ReadUpTo d (map fields_of records) read i → AreCutsRead d (map fields_of records) read
ended d records read i l e f = record {
  asked = omega (arith, f.long, l);
  inside = omega (arith, f.long, f.inside);
  whole = λ m. omega (arith, f.long, e, length-map records fields_of);
  each = λ j m. f.each j (omega (arith, f.long, m));
}

pub all_asked : (d : Design) (records : List Row) (read : List (List ℤ)) (i : ℕ) → i ≤ d.states → d.states ≤ i → ReadUpTo d (map fields_of records) read i → AreCutsRead d (map fields_of records) read
all_asked d records read i l m f = record {
  asked = omega (arith, f.long, l);
  inside = omega (arith, f.long, f.inside);
  whole = λ o. absurd (omega (arith, f.long, m, o));
  each = λ j m. f.each j (omega (arith, f.long, m));
}

-- the first record that is wrong
pub first_fault : (d : Design) (records : List Row) (read : List (List ℤ)) (row : Row) (lo hi : ℤ) (i : ℕ) (fault : TextFault) → i < d.states → i < length records → row ≡ get_or records i row →
    lo ≡ d.low i → hi ≡ d.high i → (fault ≡ Memory) ⊎ IsCutsFault lo hi (i + 1) (fields_of row) fault → ReadUpTo d (map fields_of records) read i → (fault ≡ Memory) ⊎ IsCutRecordFault d (map fields_of records) fault
first_fault d records read row lo hi i fault m l r a b (inl e) f = inl e
first_fault d records read row lo hi i fault m l r a b (inr h) f = inr (record {
  index = i;
  asked = m;
  inside = omega (arith, l, length-map records fields_of);
  before = λ j o. (cuts_of read j, f.each j o);
  here = rw (← a, ← b, ← record_is records row i l r) h;
})

-- ---- all of them
-- another count of records than that of the coordinates
pub count_fault : (d : Design) (rows : List (List (List ℕ))) (read : List (List ℤ)) (n : ℕ) → n ≡ length rows → n ≢ d.states → AreCutsRead d rows read → IsCutCountFault d rows (Count n)
count_fault d rows read n e h r = record {
  each = λ i l m. (cuts_of read i, r.each i (inside i l m));
  here = λ q. h (e ∙ q);
  told = ap Count e;
}
  where
    inside : (i : ℕ) → i < d.states → i < length rows → i < length read
    inside i l m = elim (cases_lt (length read) d.states) [
      | inl o ↦ omega (arith, r.whole o, m)
      | inr o ↦ omega (arith, o, l)
    ]

pub held : (d : Design) (rows : List (List (List ℕ))) (read : List (List ℤ)) → length rows ≡ d.states → AreCutsRead d rows read → HoldLists d rows read
held d rows read e r = record { records = e; count = long; each = λ i l. r.each i (omega (arith, long, l)) }
  where
    long : length read ≡ d.states
    long = elim (cases_lt (length read) d.states) [
      | inl o ↦ omega (arith, r.whole o, e)
      | inr o ↦ omega (arith, o, r.asked)
    ]

-- each list is short
pub short : (d : Design) (rows : List (List (List ℕ))) (read : List (Vec ℤ Global)) → AreCutsRead d rows (lists read) → All (λ v. length v.items ≤ 63) read
short d rows read r = λ k v l. (
    let m : k < length (lists read) = omega (arith, l, length-map read (λ (w : Vec ℤ Global). w.items)) in
    rw (← get_or-map (λ (w : Vec ℤ Global). w.items) read k v [] l) (r.each k m).count.few
    )

-- ---- they are cuts of the box
pub are_cuts : (d : Design) (rows : List (List (List ℕ))) (read : List (List ℤ)) → HoldLists d rows read → AreCutsFor d read
are_cuts d rows read h = record { count = h.count; each = λ i l k m. ((h.each i l).each k m).right }

pub all_are_cuts : (bytes : List ℕ) (d : Design) (r : Result (List (List ℤ)) TextFault) → IfOk r (IsCutsText bytes d) → IfOk r (AreCutsFor d)
all_are_cuts bytes d (Ok cuts) h = are_cuts d (records_of bytes) cuts h.hold
all_are_cuts bytes d (Err e) h = tt

-- ---- what was told of cells
pub told_ok : (bytes : List ℕ) (d : Design) (rows : List (List (List ℕ))) (read : List (List ℤ)) (r : Result (List (List ℤ)) TextFault) → rows ≡ records_of bytes → length rows ≡ d.states → AreCutsRead d rows read →
    IfOk r (λ c. c ≡ read) → IfOk r (λ c. cell_count c ≤ 64) → IfOk r (IsCutsText bytes d)
told_ok bytes d rows read (Ok c) e n a m f = record { hold = rw (m, ← e) (held d rows read n a); few = f }
told_ok bytes d rows read (Err x) e n a m f = tt

pub told_err : (bytes : List ℕ) (d : Design) (rows : List (List (List ℕ))) (read : List (List ℤ)) (r : Result (List (List ℤ)) TextFault) → rows ≡ records_of bytes → length rows ≡ d.states → AreCutsRead d rows read →
    IfErr r (λ x. (x ≡ Range 0) × (64 < cell_count read)) → IfErr r (λ x. (x ≡ Memory) ⊎ IsCutsTextFault bytes d x)
told_err bytes d rows read (Ok c) e n a m = tt
told_err bytes d rows read (Err x) e n a m = inr (inr (inr (record { lists = read; hold = rw (← e) (held d rows read n a); many = m.1; told = m.0 })))

pub count_told : (bytes : List ℕ) (d : Design) (rows : List (List (List ℕ))) (read : List (List ℤ)) (n : ℕ) → rows ≡ records_of bytes →
    n ≡ length rows → n ≢ d.states → AreCutsRead d rows read → (Count n ≡ Memory) ⊎ IsCutsTextFault bytes d (Count n)
count_told bytes d rows read n e s h a = inr (inr (inl (rw (← e) (count_fault d rows read n s h a))))

pub record_told : (bytes : List ℕ) (d : Design) (rows : List (List (List ℕ))) (fault : TextFault) → rows ≡ records_of bytes → (fault ≡ Memory) ⊎ IsCutRecordFault d rows fault → (fault ≡ Memory) ⊎ IsCutsTextFault bytes d fault
record_told bytes d rows fault e (inl m) = inl m
record_told bytes d rows fault e (inr f) = inr (inl (rw (← e) f))
