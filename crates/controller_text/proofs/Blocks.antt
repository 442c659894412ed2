-- The lines of a controller stand as the table says.
use Rattle.std.proofs.Common.{◌≡◌, ℕ, zero, suc, ◌+◌, ◌-◌, ◌*◌, ◌<◌, ◌≤◌, pos, List, [], ◌∷◌, length, get_or, take, drop, map, replicate, refl, sym, ap, ◌∙◌, arith}
use Rattle.std.specs.Prelude.{All, Result, Ok, Err, IfOk, codes, ◌==◌, if◌then◌else◌}
use Rattle.std.proofs.Math.Nat.{mul-le-mul}
use Rattle.std.proofs.lemmas.List.{length-map, length-replicate, take-map, drop-map, get_or-map, get_or-replicate}
use Rattle.std.proofs.lemmas.List.Elements.{recursion_from_All}
use Rattle.mat_int.specs.Matrix.{Matrix}
use Rattle.qp_model.specs.problem.Range.{LiesIn}
use Rattle.qp_model.specs.machine.Controller.{Numbers, HasShape}
use Rattle.qp_model.proofs.VersionLaws.{states_le, stages_le, limits_le}
use Rattle.controller_text.specs.declared.layout.Sizes.{Sizes}
use Rattle.text_lines.specs.declared.line.Line.{Line}
use Rattle.text_lines.specs.Lines.{Keyed, keyed_line, view, views, line_in, Place, place, place_of}
use Rattle.text_lines.specs.Blocks.{row_lines, chained, blocks_of, Row}
use Rattle.controller_text.specs.TextForm.{exponent_rows, as_plain, IsTextForm}
use Rattle.controller_text.specs.Lines.{line_blocks, keyed_lines}
use Rattle.text_lines.specs.Blocks.{Block, block_places, total_rows}
use Rattle.controller_text.specs.Table.{text_table, places, sizes_of, AreSizesSmall, Says, block_at}
use Rattle.controller_text.proofs.Forms.{either_le}
use Rattle.text_lines.proofs.Chained.{map_chained}
use Rattle.text_lines.proofs.Blocks.{block_is, rows_more, rows_placed, rows_up_to, lengths_from, spread_length, no_row}

matrix_placed : (key : List ℕ) (height breadth : ℕ) (a : Matrix) → HasShape a height breadth → map place_of (row_lines key a.rows) ≡ replicate height (place key breadth)
matrix_placed key height breadth a h = rows_placed key breadth a.rows (recursion_from_All (λ row. length row ≡ breadth) a.rows h.each) ∙ ap (λ (n : ℕ). replicate n (place key breadth)) h.rows

exponents_placed : (version m : ℕ) (exps : List ℕ) → LiesIn 1 3 version → length exps ≡ m → map place_of (if version == 1 then [] else keyed_line (codes "exps") (map pos exps) ∷ []) ≡ replicate (exponent_rows version) (place (codes "exps") m)
exponents_placed zero m exps h len = absurd (omega (arith, h.0))
exponents_placed (suc zero) m exps h len = refl
exponents_placed (suc (suc zero)) m exps h len = ap (λ (n : ℕ). place (codes "exps") n ∷ []) (length-map exps pos ∙ len)
exponents_placed (suc (suc (suc zero))) m exps h len = ap (λ (n : ℕ). place (codes "exps") n ∷ []) (length-map exps pos ∙ len)
exponents_placed (suc (suc (suc (suc n)))) m exps h len = absurd (omega (arith, h.1))

pub blocks_placed : (c : Numbers) → IsTextForm c → map (map place_of) (line_blocks c) ≡ map block_places (text_table (sizes_of c))
blocks_placed c form =
    let h = form.sized.shaped in
    let nu = c.inputs * c.stages in
    let e6 = exponents_placed c.version c.rows c.exponents form.version h.exponents in
    let e9 = matrix_placed (codes "P") nu c.states c.state_gains h.state_gains in
    let e11 = matrix_placed (codes "W") nu c.rows c.dual_gains h.dual_gains in
    let e12 = matrix_placed (codes "G") c.rows nu c.plan_rows h.plan_rows in
    let e13 = matrix_placed (codes "E") c.rows c.states c.state_rows h.state_rows in
    rw (e6, h.low, h.high, e9, h.offsets, e11, e12, e13, h.bounds) refl

pub lines_placed : (c : Numbers) → IsTextForm c → map place_of (keyed_lines c) ≡ places (sizes_of c)
lines_placed c form = map_chained place_of (line_blocks c) ∙ ap chained (blocks_placed c form)

-- ---- how many lines there are

pub block_lengths : (c : Numbers) → IsTextForm c → map length (line_blocks c) ≡ map (λ t. t.1) (text_table (sizes_of c))
block_lengths c form = lengths_from (line_blocks c) (text_table (sizes_of c)) (blocks_placed c form)

pub sizes_small : (c : Numbers) → IsTextForm c → AreSizesSmall (sizes_of c)
sizes_small c form = record { version = form.version.1; n = states_le (as_plain c) form.sized; p = form.sized.inputs.1; stages = stages_le (as_plain c) form.sized; m = limits_le (as_plain c) form.sized }

pub line_count : (c : Numbers) → IsTextForm c → length (keyed_lines c) ≡ total_rows (text_table (sizes_of c))
line_count c form = sym (length-map (keyed_lines c) place_of) ∙ ap length (lines_placed c form) ∙ spread_length (text_table (sizes_of c))

pub few_rows : (z : Sizes) → AreSizesSmall z → total_rows (text_table z) ≤ 936
few_rows z small = omega (arith, mul-le-mul small.p small.stages, small.m, either_le (z.version == 1) 0 1 1 (omega arith) (omega arith))

pub few_lines : (c : Numbers) → IsTextForm c → length (keyed_lines c) ≤ 936
few_lines c form = omega (arith, line_count c form, few_rows (sizes_of c) (sizes_small c form))

-- ---- the lines of a block

-- the lines in the place of a block are those of the block
pub block_there : (c : Numbers) (z : Sizes) (k : ℕ) (d : Block) → IsTextForm c → sizes_of c ≡ z → k < 16 → take (get_or (text_table z) k d).1 (drop (total_rows (take k (text_table z))) (keyed_lines c)) ≡ get_or (line_blocks c) k []
block_there c z k d form e lt = block_is (line_blocks c) (text_table z) k d (block_lengths c form ∙ ap (λ (y : Sizes). map (λ t. t.1) (text_table y)) e) lt

-- each has as many numbers as the table says
pub block_breadth : (c : Numbers) (z : Sizes) (k : ℕ) (d : Block) → IsTextForm c → sizes_of c ≡ z → k < 16 → All (λ l. length l.numbers ≡ (get_or (text_table z) k d).2) (get_or (line_blocks c) k [])
block_breadth c z k d form e lt = breadth (get_or (line_blocks c) k []) (get_or (text_table z) k d) (
    sym (get_or-map (map place_of) (line_blocks c) k [] [] (omega (arith, lt)))
    ∙ ap (λ (ps : List (List Place)). get_or ps k []) (blocks_placed c form ∙ ap (λ (y : Sizes). map block_places (text_table y)) e)
    ∙ get_or-map block_places (text_table z) k d [] lt)
  where
    breadth : (ls : List Keyed) (t : Block) → map place_of ls ≡ block_places t → All (λ l. length l.numbers ≡ t.2) ls
    breadth ls t e i o l =
        let within : i < t.1 = omega (arith, l, sym (length-map ls place_of) ∙ ap length e ∙ length-replicate t.1 (place t.0 t.2)) in
        let here : place_of (get_or ls i o) ≡ place t.0 t.2 = sym (get_or-map place_of ls i o (place_of o) l) ∙ ap (λ (ps : List Place). get_or ps i (place_of o)) e ∙ get_or-replicate t.1 i (place t.0 t.2) (place_of o) within in
        ap (λ (p : Place). p.count) here

-- ---- the sizes

pub same_sizes : (c : Numbers) (z : Sizes) → c.version ≡ z.version → pos c.states ∷ pos c.inputs ∷ pos c.stages ∷ pos c.rows ∷ [] ≡ pos z.n ∷ pos z.p ∷ pos z.stages ∷ pos z.m ∷ [] → sizes_of c ≡ z
same_sizes c z version four =
    let n : c.states ≡ z.n = cc four in
    let p : c.inputs ≡ z.p = cc four in
    let stages : c.stages ≡ z.stages = cc four in
    let m : c.rows ≡ z.m = cc four in
    (λ i. record { version = version i; n = n i; p = p i; stages = stages i; m = m i })

pub said_sizes : (ls : List Keyed) (z : Sizes) (c : Numbers) → keyed_lines c ≡ ls → Says ls z → sizes_of c ≡ z
said_sizes ls z c e says =
    let long : 1 < length ls = omega (arith, ap length e) in
    let one : pos c.version ∷ [] ≡ pos z.version ∷ [] = ap (λ (ms : List Keyed). line_in ms 0) e ∙ says.version (omega (arith, long)) in
    same_sizes c z (cc one) (ap (λ (ms : List Keyed). line_in ms 1) e ∙ says.sizes long)

-- ---- as the code has them

pub row_at : (rs : List Row) (z : Sizes) (k : ℕ) → blocks_of rs ≡ text_table z → k < 16 → ((get_or rs k no_row).0.now ≡ (block_at z k).0) × ((get_or rs k no_row).1 ≡ (block_at z k).1) × ((get_or rs k no_row).2 ≡ (block_at z k).2)
row_at rs z k e lt =
    let long : length rs ≡ 16 = sym (length-map rs (λ (b : Row). (b.0.now, b.1, b.2))) ∙ ap length e in
    let raw : Block = ((get_or rs k no_row).0.now, (get_or rs k no_row).1, (get_or rs k no_row).2) in
    let same : raw ≡ block_at z k = sym (get_or-map (λ (b : Row). (b.0.now, b.1, b.2)) rs k no_row ([], 0, 0) (omega (arith, lt, long))) ∙ ap (λ (ts : List Block). get_or ts k ([], 0, 0)) e in
    (ap (λ (t : Block). t.0) same, ap (λ (t : Block). t.1) same, ap (λ (t : Block). t.2) same)

-- a part of lines
pub part_is : (lines : List Line) (c : Numbers) (z : Sizes) (k s n m : ℕ) → IsTextForm c → keyed_lines c ≡ views lines → sizes_of c ≡ z → k < 16 → s ≡ total_rows (take k (text_table z)) → n ≡ (block_at z k).1 → m ≡ s + n
    → views (take (m - s) (drop s lines)) ≡ get_or (line_blocks c) k []
part_is lines c z k s n m form e same lt start rows end =
    let count : m - s ≡ (block_at z k).1 = omega (arith, rows, end) in
    sym (take-map view (m - s) (drop s lines)) ∙ ap (take (m - s)) (sym (drop-map view s lines) ∙ ap (drop s) (sym e)) ∙ (λ i. take (count i) (drop (start i) (keyed_lines c))) ∙ block_there c z k ([], 0, 0) form same lt

pub part_within : (lines : List Line) (c : Numbers) (z : Sizes) (k : ℕ) → IsTextForm c → keyed_lines c ≡ views lines → sizes_of c ≡ z → k < 16 → total_rows (take k (text_table z)) + (block_at z k).1 ≤ length lines
part_within lines c z k form e same lt = omega (arith, rows_more (text_table z) k ([], 0, 0) lt, rows_up_to (text_table z) (suc k), line_count c form, ap (λ (y : Sizes). total_rows (text_table y)) same, ap length e, length-map lines view)

-- ---- what a call answers

pub if_ok : {A E : Type 0} {P Q : A → Type 0} (r : Result A E) → IfOk r P → ((a : A) → P a → Q a) → IfOk r Q
if_ok (Ok a) h f = f a h
if_ok (Err e) h f = tt
