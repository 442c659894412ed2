-- Integers of items, and the rows of a matrix written one after the other.
use Rattle.std.proofs.Common.{◌≡◌, ℕ, zero, suc, ◌+◌, ◌<◌, ◌≤◌, append_assoc, ℤ, pos, List, [], ◌∷◌, ◌++◌, length, get_or, take, drop, set, Option, get_or-set_same, set-set, add-one, Vec, Result, inl}
use Rattle.std.proofs.Common.{inr, All, Some, None, option_map, refl, sym, ap, ◌∙◌, arith}
use Rattle.std.specs.Prelude.{IsSome, IsSomeAnd}
use Rattle.std.specs.declared.alloc.Global.{Global}
use Rattle.std.proofs.lemmas.List.{append-nil, drop_all, take_all, take_more_set}
use Rattle.std.proofs.Math.Seq.{drop-cons}
use Rattle.std.proofs.lemmas.Option.{same_Some, none-some, option_and_then_some}
use Rattle.mat_int.specs.Matrix.{Matrix, with_entry}
use Rattle.toml.specs.Data.{Data, as_integer, as_array}
use Rattle.toml.specs.View.{view, items_view}
use Rattle.toml.specs.declared.value.Value.{Value}
use Rattle.qp_model.specs.problem.Range.{LiesIn}
use Rattle.number_text.specs.declared.text_fault.TextFault.{TextFault}
use Rattle.qp_model.specs.problem.Rules.{shape}
use Rattle.design_files.specs.DesignText.{Reads}
use Rattle.design_files.proofs.ReadLaws.{reads_as}
use Rattle.design_files.specs.Numbers.{integers_of, rows_of, list_in, lists_in, IsLists, IsMatrix}

-- one more number of xs written over a row
overwrite : (xs row : List ℤ) (j : ℕ) (d : ℤ) → j < length xs → length xs ≡ length row → set (take j xs ++ drop j row) j (get_or xs j d) ≡ take (suc j) xs ++ drop (suc j) row
overwrite [] row j d h e = absurd (omega arith)
overwrite (x ∷ xs) [] j d h e = absurd (omega arith)
overwrite (x ∷ xs) (y ∷ row) zero d h e = refl
overwrite (x ∷ xs) (y ∷ row) (suc j) d h e = ap (λ zs. x ∷ zs) (overwrite xs row j d (omega arith) (omega arith))

-- the same in a matrix
pub set_more : (m : Matrix) (i j : ℕ) (row xs : List ℤ) → i < length m.rows → j < length xs → length xs ≡ length row
    → with_entry (record m { rows = set m.rows i (take j xs ++ drop j row) }) i j (get_or xs j (pos 0)) ≡ record m { rows = set m.rows i (take (j + 1) xs ++ drop (j + 1) row) }
set_more m i j row xs inside more same =
    let here : get_or (set m.rows i (take j xs ++ drop j row)) i [] ≡ take j xs ++ drop j row = get_or-set_same m.rows i (take j xs ++ drop j row) [] inside in
    rw (here, set-set, overwrite xs row j (pos 0) more same, add-one j) refl

-- what is made of an option is made of its value
pub mapped : {A B : Type 0} (f : A → B) (o : Option A) (y : B) → option_map f o ≡ Some y → (x : A) × (o ≡ Some x) × (f x ≡ y)
mapped f None y e = absurd (none-some y e)
mapped f (Some x) y e = (x, refl, same_Some (f x) y e)

-- there are as many integers as items
pub integers_length : (vs : List Value) (zs : List ℤ) → integers_of (items_view vs) ≡ Some zs → length zs ≡ length vs
integers_length [] zs e = ap length (sym (same_Some [] zs e))
integers_length (v ∷ vs) zs e = option_and_then_some _ (as_integer (view v)) zs e (λ z _ more.
    let rest = mapped (λ zs. z ∷ zs) (integers_of (items_view vs)) zs more in
    ap length (sym rest.2) ∙ ap suc (integers_length vs rest.0 rest.1))

-- and as many rows
pub rows_length : (vs : List Value) (rows : List (List ℤ)) → rows_of (items_view vs) ≡ Some rows → length rows ≡ length vs
rows_length [] rows e = ap length (sym (same_Some [] rows e))
rows_length (v ∷ vs) rows e = option_and_then_some _ (list_in (Some (view v))) rows e (λ row _ more.
    let rest = mapped (λ rows. row ∷ rows) (rows_of (items_view vs)) rows more in
    ap length (sym rest.2) ∙ ap suc (rows_length vs rest.0 rest.1))

pub some_from_and : {A : Type 0} (o : Option A) (P : A → Type 0) → IsSomeAnd o P → IsSome o
some_from_and None P h = absurd h
some_from_and (Some x) P h = refl

-- the value of an option, and what holds of it
pub some_and : {A : Type 0} (o : Option A) (P : A → Type 0) → IsSomeAnd o P → (x : A) × ((o ≡ Some x) × P x)
some_and None P h = absurd h
some_and (Some x) P h = (x, (refl, h))

-- what follows from what holds of it
pub and_less : {A : Type 0} (o : Option A) (P Q : A → Type 0) → ((x : A) → P x → Q x) → IsSomeAnd o P → IsSomeAnd o Q
and_less None P Q less h = absurd h
and_less (Some x) P Q less h = less x h

-- a list of count integers has count items
pub list_count : (vs : List Value) (count : ℕ) → IsSomeAnd (integers_of (items_view vs)) (λ zs. length zs ≡ count) → length vs ≡ count
list_count vs count h =
    let (zs, (is, long)) = some_and (integers_of (items_view vs)) (λ zs. length zs ≡ count) h in
    sym (integers_length vs zs is) ∙ long

-- integers of as many items as are asked
pub list_reads : (vs : List Value) (place count : ℕ) (answer : Result (Vec ℤ Global) TextFault) → length vs ≡ count
    → Reads answer (λ zs. integers_of (items_view vs) ≡ Some zs.items) (shape place (IsSome (integers_of (items_view vs))) ∷ [])
    → Reads answer (λ zs. integers_of (items_view vs) ≡ Some zs.items) (shape place (IsSomeAnd (integers_of (items_view vs)) (λ zs. length zs ≡ count)) ∷ [])
list_reads vs place count answer same read =
    reads_as answer _ _ _ _
    (λ zs held is. ((rw is (integers_length vs zs.items is ∙ same), tt), is))
    (λ fault broken. elim broken [
      | inl here ↦ inl (λ is. here.0 (some_from_and (integers_of (items_view vs)) (λ zs. length zs ≡ count) is), here.1)
      | inr later ↦ absurd later.1
    ])
    read

-- rows of width integers each are items that are lists of so many
pub rows_item : (vs : List Value) (rows : List (List ℤ)) (i : ℕ) (d : Value) (width : ℕ) → i < length vs → rows_of (items_view vs) ≡ Some rows → All (λ row. length row ≡ width) rows
    → IsSomeAnd (list_in (Some (view (get_or vs i d)))) (λ row. length row ≡ width)
rows_item [] rows i d width inside is all = absurd (omega arith)
rows_item (v ∷ vs) rows zero d width inside is all = option_and_then_some _ (list_in (Some (view v))) rows is (λ row here more.
    let rest = mapped (λ rows. row ∷ rows) (rows_of (items_view vs)) rows more in
    let first : length row ≡ width = (rw (← rest.2) at all) 0 [] (omega arith) in
    rw here first)
rows_item (v ∷ vs) rows (suc i) d width inside is all = option_and_then_some _ (list_in (Some (view v))) rows is (λ row here more.
    let rest = mapped (λ rows. row ∷ rows) (rows_of (items_view vs)) rows more in
    let others : All (λ row. length row ≡ width) rest.0 = λ k e h. (rw (← rest.2) at all) (suc k) e (omega arith) in
    rows_item vs rest.0 i d width (omega arith) rest.1 others)

-- one more row, which stands where a row was
row_after : (done : List (List ℤ)) (row : List ℤ) (more : Option (List (List ℤ))) → option_map (λ rows. done ++ rows) (option_map (λ rows. row ∷ rows) more) ≡ option_map (λ rows. (done ++ row ∷ []) ++ rows) more
row_after done row None = refl
row_after done row (Some rows) = ap Some (sym (append_assoc done (row ∷ []) rows))

pub rows_more : (vs : List Value) (rows : List (List ℤ)) (i : ℕ) (v : Value) (row : List ℤ) → i < length vs → length rows ≡ length vs → v ≡ get_or vs i v → list_in (Some (view v)) ≡ Some row
    → rows_of (items_view vs) ≡ option_map (λ more. take i rows ++ more) (rows_of (items_view (drop i vs)))
    → rows_of (items_view vs) ≡ option_map (λ more. take (i + 1) (set rows i row) ++ more) (rows_of (items_view (drop (i + 1) vs)))
rows_more vs rows i v row inside same is here so_far =
    let items : drop i vs ≡ v ∷ drop (i + 1) vs = rw add-one (drop-cons vs i v inside ∙ ap (λ (first : Value). first ∷ drop (suc i) vs) (sym is)) in
    let next : rows_of (items_view (v ∷ drop (i + 1) vs)) ≡ option_map (λ more. row ∷ more) (rows_of (items_view (drop (i + 1) vs))) = rw here refl in
    so_far ∙ ap (λ (rest : List Value). option_map (λ more. take i rows ++ more) (rows_of (items_view rest))) items
    ∙ ap (option_map (λ more. take i rows ++ more)) next
    ∙ row_after (take i rows) row (rows_of (items_view (drop (i + 1) vs)))
    ∙ ap (λ (done : List (List ℤ)). option_map (λ more. done ++ more) (rows_of (items_view (drop (i + 1) vs)))) (sym (take_more_set rows i row (omega (arith, inside, same))))

-- all rows
pub rows_done : (vs : List Value) (rows : List (List ℤ)) (i : ℕ) → length vs ≤ i → length rows ≡ length vs
    → rows_of (items_view vs) ≡ option_map (λ more. take i rows ++ more) (rows_of (items_view (drop i vs))) → rows_of (items_view vs) ≡ Some rows
rows_done vs rows i past same so_far =
    so_far ∙ ap (λ (rest : List Value). option_map (λ more. take i rows ++ more) (rows_of (items_view rest))) (drop_all i vs past)
    ∙ ap Some (append-nil (take i rows) ∙ take_all i rows (omega (arith, past, same)))

-- rows of as many items as are asked
pub lists_count : (vs : List Value) (low high width : ℕ) → IsSomeAnd (rows_of (items_view vs)) (λ rows. LiesIn low high (length rows) × All (λ row. length row ≡ width) rows) → LiesIn low high (length vs)
lists_count vs low high width h =
    let (rows, (is, sized)) = some_and (rows_of (items_view vs)) (λ rows. LiesIn low high (length rows) × All (λ row. length row ≡ width) rows) h in
    rw (← rows_length vs rows is) sized.0

pub lists_reads : (d : Data) (vs : List Value) (place low high width : ℕ) (answer : Result Matrix TextFault) → as_array d ≡ Some (items_view vs) → LiesIn low high (length vs)
    → Reads answer (λ m. (m.cols ≡ width) × (rows_of (items_view vs) ≡ Some m.rows) × All (λ row. length row ≡ m.cols) m.rows) (shape place (IsSomeAnd (rows_of (items_view vs)) (All (λ row. length row ≡ width))) ∷ [])
    → Reads answer (λ m. (m.cols ≡ width) × IsMatrix (Some d) m) (shape place (IsLists low high width (Some d)) ∷ [])
lists_reads d vs place low high width answer shown many read =
    reads_as answer _ _ _ _
    (λ m held is.
    let count : LiesIn low high (length m.rows) = rw (rows_length vs m.rows is.1) many in
    let sized : All (λ row. length row ≡ width) m.rows = rw is.1 at held.0 in
    let here : lists_in (Some d) ≡ Some m.rows = rw shown is.1 in
    ((rw here (count, sized), tt), (is.0, record { rows = here; even = is.2 })))
    (λ fault broken. elim broken [
      | inl here ↦ inl (λ is. here.0 (and_less (rows_of (items_view vs)) (λ rows. LiesIn low high (length rows) × All (λ row. length row ≡ width) rows) (All (λ row. length row ≡ width)) (λ rows both. both.1) (rw shown at is)), here.1)
      | inr later ↦ absurd later.1
    ])
    read
