-- Packed rows are read back.
use Rattle.std.proofs.Common.{◌≡◌, ℕ, zero, suc, ◌+◌, ◌-◌, ◌<◌, ◌≤◌, ◌^◌, ℤ, pos, List, [], ◌∷◌, ◌++◌, length, drop, get_or, take, set, refl, sym, ap, ◌∙◌, subst, arith, append_assoc}
use Rattle.std.specs.Prelude.{All, FitsSigned, OnOk, Result, Ok, Err, false}
use Rattle.std.specs.Result.{is_err}
use Rattle.mat_int.specs.Matrix.{Matrix}
use Rattle.std.specs.Int.{w128}
use Rattle.std.proofs.lemmas.Grind.{flat_map-append, take-set_at}
use Rattle.std.proofs.lemmas.List.{append-nil, drop_more, length_push, length-set, take_all, take_more, flat_map_more}
use Rattle.std.proofs.lemmas.List.Elements.{All-nil, All-cons, All-head, All-tail, All-push, All-get_or}
use Rattle.packed_rows.specs.Packing.{zigzag, packed, packed_row, packed_rows}
use Rattle.packed_rows.specs.Unpacking.{first_number, after_number, unzigzag, numbers_in, after_numbers, AreWordsIn, rows_in}
use Rattle.packed_rows.proofs.NumberFacts.{BeginsWith, number_back, zigzag_small, zigzag_back}

abbrev pub AreWords : List ℤ → Type 0
AreWords = All (FitsSigned w128)

-- ---- a row
pub record BeginsWithRow (row : List ℤ) (rest bytes : List ℕ) : Type 0 where
  pub numbers : numbers_in (length row) bytes ≡ row
  pub after : after_numbers (length row) bytes ≡ rest
  pub words : AreWordsIn (length row) bytes

number_and : (z : ℤ) (zs : List ℤ) (rest bytes : List ℕ) → FitsSigned w128 z → BeginsWith (zigzag z) bytes (packed z ++ bytes) → BeginsWithRow zs rest bytes → BeginsWithRow (z ∷ zs) rest (packed z ++ bytes)
unfolding numbers_in after_numbers AreWordsIn
number_and z zs rest bytes f one more = record {
  numbers = rw (one.first, one.after, zigzag_back z, more.numbers) refl;
  after = ap (λ (b : List ℕ). after_numbers (length zs) b) one.after ∙ more.after;
  words = (rw one.first (zigzag_small z f), rw one.after more.words);
}

pub row_back : (row : List ℤ) (rest : List ℕ) → AreWords row → BeginsWithRow row rest (packed_row row ++ rest)
unfolding numbers_in after_numbers AreWordsIn
row_back [] rest w = record { numbers = refl; after = refl; words = tt }
row_back (z ∷ zs) rest w =
    let f = All-head (FitsSigned w128) z zs w in
    rw (append_assoc (packed z) (packed_row zs) rest) (number_and z zs rest (packed_row zs ++ rest) f (number_back z (packed_row zs ++ rest) f) (row_back zs rest (All-tail (FitsSigned w128) z zs w)))

-- ---- number by number
pub packed_more : (old now new : List ℕ) (row : List ℤ) (i : ℕ) → i < length row → now ≡ old ++ packed_row (take i row) → new ≡ now ++ packed (get_or row i (pos 0)) → new ≡ old ++ packed_row (take (i + 1) row)
packed_more old now new row i l e f =
    f ∙ ap (λ (b : List ℕ). b ++ packed (get_or row i (pos 0))) e ∙ flat_map_more packed old (take i row) (get_or row i (pos 0)) ∙ ap (λ (zs : List ℤ). old ++ packed_row zs) (sym (take_more row i (pos 0) l))

-- the first i numbers of some are taken, and these bytes are left
pub record TakenSoFar (whole : List ℕ) (row : List ℤ) (i : ℕ) (rest : List ℕ) : Type 0 where
  pub numbers : numbers_in (length row) whole ≡ take i row ++ numbers_in (length row - i) rest
  pub after : after_numbers (length row) whole ≡ after_numbers (length row - i) rest
  pub words : AreWordsIn (length row - i) rest
  pub taken : AreWords (take i row)

pub none_taken : (whole : List ℕ) (row : List ℤ) → AreWordsIn (length row) whole → TakenSoFar whole row 0 whole
none_taken whole row w =
    let all : length row - 0 ≡ length row = omega arith in
    record { numbers = rw all refl; after = rw all refl; words = rw all w; taken = All-nil (FitsSigned w128) }

module _ (whole : List ℕ) (row : List ℤ) (i : ℕ) (rest : List ℕ) (r : TakenSoFar whole row i rest) where
  pub first_word : i < length row → first_number rest < 2 ^ 128
  unfolding AreWordsIn
  first_word l = let more : length row - i ≡ suc (length row - (i + 1)) = omega arith in (rw more at r.words).0

  pub one_taken : (z : ℤ) (next : List ℕ) → i < length row → z ≡ unzigzag (first_number rest) → FitsSigned w128 z → next ≡ after_number rest → TakenSoFar whole (set row i z) (i + 1) next
  unfolding numbers_in after_numbers AreWordsIn
  one_taken z next l is f e =
      let more : length row - i ≡ suc (length row - (i + 1)) = omega arith in
      let long : length (set row i z) ≡ length row = length-set row i z in
      let front : take (i + 1) (set row i z) ≡ take i row ++ z ∷ [] = take-set_at row i (i + 1) z refl l in
      record {
        numbers = rw (long, front, e, is, append_assoc (take i row) (unzigzag (first_number rest) ∷ []) (numbers_in (length row - (i + 1)) (after_number rest))) (rw more at r.numbers);
        after = rw (long, e) (rw more at r.after);
        words = rw (long, e) (rw more at r.words).1;
        taken = rw front (All-push (FitsSigned w128) (take i row) z r.taken f);
      }

  pub all_taken : length row ≤ i → (row ≡ numbers_in (length row) whole) × (rest ≡ after_numbers (length row) whole) × AreWords row
  unfolding numbers_in after_numbers AreWordsIn
  all_taken l =
      let none : length row - i ≡ 0 = omega arith in
      let all : take i row ≡ row = take_all i row l in
      (sym (rw (none, all, append-nil row) at r.numbers), sym (rw none at r.after), rw all at r.taken)

-- ---- rows
pub rows_back : (cols : ℕ) (rows : List (List ℤ)) (rest : List ℕ) → All (λ row. length row ≡ cols) rows → All AreWords rows → rows_in cols (length rows) (packed_rows rows ++ rest) ≡ rows
unfolding rows_in
rows_back cols [] rest e w = refl
rows_back cols (row ∷ rows) rest e w =
    let one = row_back row (packed_rows rows ++ rest) (All-head AreWords row rows w) in
    let long = All-head (λ row. length row ≡ cols) row rows e in
    let numbers = subst (λ (n : ℕ). numbers_in n (packed_row row ++ (packed_rows rows ++ rest)) ≡ row) long one.numbers in
    let after = subst (λ (n : ℕ). after_numbers n (packed_row row ++ (packed_rows rows ++ rest)) ≡ packed_rows rows ++ rest) long one.after in
    rw (append_assoc (packed_row row) (packed_rows rows) rest, numbers, after, rows_back cols rows rest (All-tail (λ row. length row ≡ cols) row rows e) (All-tail AreWords row rows w)) refl

-- ---- the shape of what bytes hold
numbers_count : (count : ℕ) (bytes : List ℕ) → length (numbers_in count bytes) ≡ count
unfolding numbers_in
numbers_count zero bytes = refl
numbers_count (suc count) bytes = ap suc (numbers_count count _)

pub rows_count : (cols count : ℕ) (bytes : List ℕ) → length (rows_in cols count bytes) ≡ count
unfolding rows_in
rows_count cols zero bytes = refl
rows_count cols (suc count) bytes = ap suc (rows_count cols count _)

pub rows_even : (cols count : ℕ) (bytes : List ℕ) → All (λ row. length row ≡ cols) (rows_in cols count bytes)
unfolding rows_in
rows_even cols zero bytes = All-nil (λ row. length row ≡ cols)
rows_even cols (suc count) bytes = All-cons (λ row. length row ≡ cols) _ _ (numbers_count cols bytes) (rows_even cols count (after_numbers cols bytes))

-- ---- a row more
pub record IsPushed (cols count : ℕ) (before new : List ℕ) (row : List ℤ) : Type 0 where
  pub rows : rows_in cols (count + 1) new ≡ rows_in cols count before ++ row ∷ []
  pub packs : new ≡ packed_rows (rows_in cols (count + 1) new)
  pub word : All AreWords (rows_in cols (count + 1) new)

pub row_pushed : (cols count : ℕ) (bytes new : List ℕ) (row : List ℤ) → bytes ≡ packed_rows (rows_in cols count bytes) → All AreWords (rows_in cols count bytes) → AreWords row → length row ≡ cols →
    new ≡ bytes ++ packed_row row → IsPushed cols count bytes new row
row_pushed cols count bytes new row is words w long made =
    let before = rows_in cols count bytes in
    let all = All-push AreWords before row words w in
    let even = All-push (λ row. length row ≡ cols) before row (rows_even cols count bytes) long in
    let joined : packed_rows (before ++ row ∷ []) ≡ packed_rows before ++ packed_row row = flat_map-append packed_row before (row ∷ []) ∙ ap (λ (b : List ℕ). packed_rows before ++ b) (append-nil (packed_row row)) in
    let same : new ≡ packed_rows (before ++ row ∷ []) = made ∙ ap (λ (b : List ℕ). b ++ packed_row row) is ∙ sym joined in
    let count_more : length (before ++ row ∷ []) ≡ count + 1 = length_push before row ∙ ap (λ (n : ℕ). n + 1) (rows_count cols count bytes) in
    let held : rows_in cols (count + 1) new ≡ before ++ row ∷ [] =
    rw (← count_more) (ap (λ (b : List ℕ). rows_in cols (length (before ++ row ∷ [])) b) (same ∙ sym (append-nil (packed_rows (before ++ row ∷ [])))) ∙ rows_back cols (before ++ row ∷ []) [] even all) in
    record { rows = held; packs = same ∙ ap packed_rows (sym held); word = rw held all }

pub as_matrix : (cols : ℕ) (rows new : List (List ℤ)) → new ≡ rows → ◌≡◌ {A = Matrix} (record { cols = cols; rows = new }) (record { cols = cols; rows = rows })
as_matrix cols rows new e = (λ i. record { cols = cols; rows = e i })

pub pushed_ok : {T E : Type 0} (r : Result T E) (P : Type 0) → OnOk r P → is_err r ≡ false → P
pushed_ok (Ok t) P h e = h
pushed_ok (Err x) P h e = cc

-- ---- the next row of those that are left
pub record IsNextRow (cols : ℕ) (rows : List (List ℤ)) (i : ℕ) (rest : List ℕ) (row : List ℤ) : Type 0 where
  pub numbers : numbers_in cols rest ≡ row
  pub after : after_numbers cols rest ≡ packed_rows (drop (i + 1) rows)
  pub words : AreWordsIn cols rest

pub next_row : (cols : ℕ) (rows : List (List ℤ)) (i : ℕ) (rest : List ℕ) → rest ≡ packed_rows (drop i rows) → i < length rows → All (λ row. length row ≡ cols) rows → All AreWords rows →
    IsNextRow cols rows i rest (get_or rows i [])
next_row cols rows i rest is l even words =
    let row = get_or rows i [] in
    let b = row_back row (packed_rows (drop (i + 1) rows)) (All-get_or AreWords rows i [] l words) in
    let long : length row ≡ cols = All-get_or (λ row. length row ≡ cols) rows i [] l even in
    let split : rest ≡ packed_row row ++ packed_rows (drop (i + 1) rows) = is ∙ ap packed_rows (drop_more rows i [] l) in
    rw (split, ← long) (record { numbers = b.numbers; after = b.after; words = b.words })
