-- Lines that stand in blocks, as a table says.
use Rattle.std.proofs.Common.{◌≡◌, ℕ, zero, suc, ◌+◌, ◌-◌, ◌<◌, ◌≤◌, ℤ, List, [], ◌∷◌, ◌++◌, length, get_or, take, drop, map, replicate, Option, Some, refl, sym, ap, ◌∙◌, arith}
use Rattle.std.specs.Prelude.{slice_get}
use Rattle.std.specs.List.{AllByRecursion}
use Rattle.std.proofs.lemmas.List.{length-map, length-append, length-replicate, take_at, drop_at, drop-drop, drop_more, get_or-map}
use Rattle.text_lines.specs.Lines.{Keyed, keyed_line, Place, place, place_of}
use Rattle.text_lines.specs.Blocks.{Block, block_places, chained, row_lines, spread, total_rows, Row, blocks_of}

-- ---- a line in its place

pub key_is : (l : Keyed) (key : List ℕ) (count : ℕ) → place_of l ≡ place key count → l ≡ keyed_line key l.numbers
key_is l key count e = let same : l.key ≡ key = ap (λ (p : Place). p.key) e in (λ i. keyed_line (same i) l.numbers)

pub count_is : (l : Keyed) (key : List ℕ) (count : ℕ) → place_of l ≡ place key count → length l.numbers ≡ count
count_is l key count e = ap (λ (p : Place). p.count) e

-- ---- the blocks

pub rows_placed : (key : List ℕ) (cols : ℕ) (rows : List (List ℤ)) → AllByRecursion (λ row. length row ≡ cols) rows → map place_of (row_lines key rows) ≡ replicate (length rows) (place key cols)
rows_placed key cols [] h = refl
rows_placed key cols (row ∷ rows) h =
    let first = h.0 in
    let others = rows_placed key cols rows h.1 in
    (λ i. place key (first i) ∷ others i)

-- ---- how many lines there are

pub lengths_from : (bs : List (List Keyed)) (ts : List Block) → map (map place_of) bs ≡ map block_places ts → map length bs ≡ map (λ t. t.1) ts
lengths_from [] [] e = refl
lengths_from [] (t ∷ ts) e = absurd cc
lengths_from (b ∷ bs) [] e = absurd cc
lengths_from (b ∷ bs) (t ∷ ts) e =
    let first : length b ≡ t.1 = sym (length-map b place_of) ∙ ap (λ (ps : List (List Place)). length (get_or ps 0 [])) e ∙ length-replicate t.1 (place t.0 t.2) in
    let others = lengths_from bs ts (ap (drop 1) e) in
    (λ i. first i ∷ others i)

pub spread_length : (ts : List Block) → length (spread ts) ≡ total_rows ts
spread_length [] = refl
spread_length (t ∷ ts) = length-append (block_places t) (spread ts) ∙ (λ i. length-replicate t.1 (place t.0 t.2) i + spread_length ts i)

-- a block more
pub rows_more : (ts : List Block) (i : ℕ) (d : Block) → i < length ts → total_rows (take (suc i) ts) ≡ total_rows (take i ts) + (get_or ts i d).1
rows_more [] i d lt = absurd (omega (arith, lt))
rows_more (t ∷ ts) zero d lt = omega arith
rows_more (t ∷ ts) (suc i) d lt = omega (arith, rows_more ts i d (omega (arith, lt)))

pub rows_up_to : (ts : List Block) (i : ℕ) → total_rows (take i ts) ≤ total_rows ts
rows_up_to ts zero = omega arith
rows_up_to [] (suc i) = omega arith
rows_up_to (t ∷ ts) (suc i) = omega (arith, rows_up_to ts i)

-- ---- the lines of a block

pub block_is : {X : Type 0} (bs : List (List X)) (ts : List Block) (k : ℕ) (d : Block) → map length bs ≡ map (λ t. t.1) ts → k < length ts → take (get_or ts k d).1 (drop (total_rows (take k ts)) (chained bs)) ≡ get_or bs k []
block_is bs [] k d e lt = absurd (omega (arith, lt))
block_is [] (t ∷ ts) k d e lt = absurd (cc e)
block_is (b ∷ bs) (t ∷ ts) zero d e lt = take_at b (chained bs) t.1 (ap (λ (ns : List ℕ). get_or ns 0 0) e)
block_is (b ∷ bs) (t ∷ ts) (suc k) d e lt =
    let len : length b ≡ t.1 = ap (λ (ns : List ℕ). get_or ns 0 0) e in
    let rest : drop (t.1 + total_rows (take k ts)) (b ++ chained bs) ≡ drop (total_rows (take k ts)) (chained bs) =
    sym (drop-drop (total_rows (take k ts)) t.1 (b ++ chained bs)) ∙ ap (drop (total_rows (take k ts))) (drop_at b (chained bs) t.1 len) in
    ap (take (get_or ts k d).1) rest ∙ block_is bs ts k d (ap (drop 1) e) (omega (arith, lt))

-- ---- as the code has them

abbrev pub no_row : Row
no_row = (record { ref_ptr = (0, 0); now = [] }, 0, 0)

pub block_seen : (rs : List Row) (k : ℕ) → k < length rs → get_or (blocks_of rs) k ([], 0, 0) ≡ ((get_or rs k no_row).0.now, (get_or rs k no_row).1, (get_or rs k no_row).2)
block_seen rs k lt = get_or-map (λ (b : Row). (b.0.now, b.1, b.2)) rs k no_row ([], 0, 0) lt

pub row_seen : (rs : List Row) (k : ℕ) → k < length rs → (get_or rs k no_row).1 ≡ (get_or (blocks_of rs) k ([], 0, 0)).1
row_seen rs k lt = ap (λ (t : Block). t.1) (sym (block_seen rs k lt))

-- ---- the place of a line

in_block : (rows : ℕ) (x : Place) (others : List Place) (i : ℕ) → i < rows → slice_get (replicate rows x ++ others) i ≡ Some x
in_block zero x others i lt = absurd (omega arith)
in_block (suc rows) x others zero lt = refl
in_block (suc rows) x others (suc i) lt = in_block rows x others i (omega arith)

past_block : (rows : ℕ) (x : Place) (others : List Place) (i j : ℕ) → i ≡ rows + j → slice_get (replicate rows x ++ others) i ≡ slice_get others j
past_block zero x others i j e = ap (slice_get others) (omega (arith, e))
past_block (suc rows) x others zero j e = absurd (omega arith)
past_block (suc rows) x others (suc i) j e = past_block rows x others i j (omega arith)

-- the place at an index, which is in the first of the blocks that are left
pub found_here : (bs : List Row) (k : ℕ) (d : Row) (left : ℕ) (whole : Option Place) → k < length bs → left < (get_or bs k d).1 → slice_get (spread (blocks_of (drop k bs))) left ≡ whole
    → whole ≡ Some (place (get_or bs k d).0.now (get_or bs k d).2)
found_here bs k d left whole lt within so_far =
    let b = get_or bs k d in
    let parts : slice_get (spread (blocks_of (drop k bs))) left ≡ slice_get (spread (blocks_of (b ∷ drop (k + 1) bs))) left = ap (λ (r : List Row). slice_get (spread (blocks_of r)) left) (drop_more bs k d lt) in
    sym so_far ∙ parts ∙ in_block b.1 (place b.0.now b.2) (spread (blocks_of (drop (k + 1) bs))) left within

-- or after it
pub found_later : (bs : List Row) (k : ℕ) (d : Row) (left : ℕ) (whole : Option Place) → k < length bs → (get_or bs k d).1 ≤ left → slice_get (spread (blocks_of (drop k bs))) left ≡ whole
    → slice_get (spread (blocks_of (drop (k + 1) bs))) (left - (get_or bs k d).1) ≡ whole
found_later bs k d left whole lt past so_far =
    let b = get_or bs k d in
    let parts : slice_get (spread (blocks_of (drop k bs))) left ≡ slice_get (spread (blocks_of (b ∷ drop (k + 1) bs))) left = ap (λ (r : List Row). slice_get (spread (blocks_of r)) left) (drop_more bs k d lt) in
    sym (past_block b.1 (place b.0.now b.2) (spread (blocks_of (drop (k + 1) bs))) left (left - b.1) (omega (arith, past))) ∙ sym parts ∙ so_far
