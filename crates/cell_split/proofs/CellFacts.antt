-- The parts of a cell, coordinate by coordinate.
use Rattle.std.proofs.Common.{◌≡◌, ℕ, suc, ◌+◌, ◌/◌, ◌%◌, ◌<◌, ℤ, pos, List, [], ◌∷◌, ◌++◌, length, drop, get_or, Vec, refl, sym, ap, ◌∙◌, arith, below_more}
use Rattle.std.specs.declared.alloc.Global.{Global}
use Rattle.std.proofs.lemmas.List.{drop_more, get_or-map, length-map, length_push, get_or_append_left, get_or_push}
use Rattle.integer_algebra.specs.Sums.{at}
use Rattle.mat_int.specs.Lines.{lists}
use Rattle.qp_model.specs.problem.Runs.{Holds}
use Rattle.cell_split.specs.Cells.{cuts_of, part_of}

-- those of the first i coordinates, and what is left of the cell's number
pub record PartsUpTo (cuts : List (Vec ℤ Global)) (k rest : ℕ) (parts : List ℕ) (i : ℕ) : Type 0 where
  pub long : length parts ≡ i
  pub each : (j : ℕ) → j < i → get_or parts j 0 ≡ part_of (lists cuts) k j
  pub left : (j : ℕ) → part_of (drop i (lists cuts)) rest j ≡ part_of (lists cuts) k (i + j)

split_list : (cuts : List (Vec ℤ Global)) (v : Vec ℤ Global) (i : ℕ) → i < length cuts → v ≡ get_or cuts i v → drop i (lists cuts) ≡ v.items ∷ drop (i + 1) (lists cuts)
split_list cuts v i l e =
    drop_more (lists cuts) i [] (omega (arith, l, length-map cuts (λ (w : Vec ℤ Global). w.items)))
    ∙ ap (λ (list : List ℤ). list ∷ drop (i + 1) (lists cuts)) (get_or-map (λ (w : Vec ℤ Global). w.items) cuts i v [] l ∙ ap (λ (w : Vec ℤ Global). w.items) (sym e))

first_part : (list : List ℤ) (more : List (List ℤ)) (rest : ℕ) → part_of (list ∷ more) rest 0 ≡ rest % (length list + 1)
unfolding part_of
first_part list more rest = refl

later_part : (list : List ℤ) (more : List (List ℤ)) (rest j : ℕ) → part_of (list ∷ more) rest (suc j) ≡ part_of more (rest / (length list + 1)) j
unfolding part_of
later_part list more rest j = refl

pub part_more : (cuts : List (Vec ℤ Global)) (v : Vec ℤ Global) (k rest n i : ℕ) (parts new : List ℕ) → i < length cuts → v ≡ get_or cuts i v → n ≡ length v.items → new ≡ parts ++ rest % (n + 1) ∷ [] →
    PartsUpTo cuts k rest parts i → PartsUpTo cuts k (rest / (n + 1)) new (i + 1)
part_more cuts v k rest n i parts new l e s q f = rw (q, s) (record {
  long = length_push parts (rest % (length v.items + 1)) ∙ ap (λ (m : ℕ). m + 1) f.long;
  each = below_more (λ (j : ℕ). get_or (parts ++ rest % (length v.items + 1) ∷ []) j 0 ≡ part_of (lists cuts) k j) i
      (λ j m. get_or_append_left parts (rest % (length v.items + 1) ∷ []) 0 j (omega (arith, m, f.long)) ∙ f.each j m)
      (get_or_push parts (rest % (length v.items + 1)) 0 i f.long ∙ here);
  left = λ j. sym (later_part v.items (drop (i + 1) (lists cuts)) rest j) ∙ ap (λ (xs : List (List ℤ)). part_of xs rest (suc j)) (sym (split_list cuts v i l e)) ∙ f.left (suc j) ∙ ap (part_of (lists cuts) k) (moved i j);
})
  where
    moved : (i j : ℕ) → i + suc j ≡ i + 1 + j
    moved i j = omega arith

    same : (i : ℕ) → i + 0 ≡ i
    same i = omega arith

    here : rest % (length v.items + 1) ≡ part_of (lists cuts) k i
    here = sym (first_part v.items (drop (i + 1) (lists cuts)) rest) ∙ ap (λ (xs : List (List ℤ)). part_of xs rest 0) (sym (split_list cuts v i l e)) ∙ f.left 0 ∙ ap (part_of (lists cuts) k) (same i)

-- ---- ends, one by one
pub pushed : (xs new : List ℤ) (z : ℤ) (i : ℕ) (f : ℕ → ℤ) → new ≡ xs ++ z ∷ [] → z ≡ f i → Holds xs i f → Holds new (i + 1) f
pushed xs new z i f e v h = rw e (record {
  long = length_push xs z ∙ ap (λ (m : ℕ). m + 1) h.long;
  is = below_more (λ (j : ℕ). at (xs ++ z ∷ []) j ≡ f j) i (λ j l. get_or_append_left xs (z ∷ []) (pos 0) j (omega (arith, l, h.long)) ∙ h.is j l) (get_or_push xs z (pos 0) i h.long ∙ v);
})

pub list_is : (cuts : List (Vec ℤ Global)) (v : Vec ℤ Global) (i : ℕ) → i < length cuts → v ≡ get_or cuts i v → v.items ≡ cuts_of (lists cuts) i
list_is cuts v i l e = ap (λ (w : Vec ℤ Global). w.items) e ∙ sym (get_or-map (λ (w : Vec ℤ Global). w.items) cuts i v [] l)
