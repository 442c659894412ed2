-- Cells, counted list by list.
use Rattle.std.proofs.Common.{◌≡◌, ℕ, ◌+◌, ◌*◌, ◌<◌, ◌≤◌, ℤ, List, [], ◌∷◌, length, drop, get_or, Vec, mul_assoc, sym, ap, ◌∙◌, arith}
use Rattle.std.specs.declared.alloc.Global.{Global}
use Rattle.std.proofs.lemmas.List.{drop_more, drop_all, get_or-map, length-map}
use Rattle.std.proofs.lemmas.Nat.{mul-le}
use Rattle.mat_int.specs.Lines.{lists}
use Rattle.cell_split.specs.Cuts.{part_count}
use Rattle.cell_split.specs.Cells.{cell_count}

-- there is always a cell
pub some_cell : (cuts : List (List ℤ)) → 1 ≤ cell_count cuts
unfolding cell_count
some_cell [] = omega arith
some_cell (list ∷ cuts) = mul-le 1 1 (part_count list) (cell_count cuts) (omega arith) (some_cell cuts)

-- what is counted, and what is left
pub record Counted (cuts : List (Vec ℤ Global)) (cells i : ℕ) : Type 0 where
  pub product : cells * cell_count (drop i (lists cuts)) ≡ cell_count (lists cuts)
  pub few : cells ≤ 64

pub none_counted : (cuts : List (Vec ℤ Global)) → Counted cuts 1 0
none_counted cuts = record { product = omega arith; few = omega arith }

rest_of : (cuts : List (Vec ℤ Global)) (v : Vec ℤ Global) (i : ℕ) → i < length cuts → v ≡ get_or cuts i v → cell_count (drop i (lists cuts)) ≡ (length v.items + 1) * cell_count (drop (i + 1) (lists cuts))
unfolding cell_count
rest_of cuts v i l e =
    ap cell_count (drop_more (lists cuts) i [] (omega (arith, l, length-map cuts (λ (w : Vec ℤ Global). w.items))))
    ∙ ap (λ (list : List ℤ). (length list + 1) * cell_count (drop (i + 1) (lists cuts))) (get_or-map (λ (w : Vec ℤ Global). w.items) cuts i v [] l ∙ ap (λ (w : Vec ℤ Global). w.items) (sym e))

more_product : (cuts : List (Vec ℤ Global)) (v : Vec ℤ Global) (cells i : ℕ) → i < length cuts → v ≡ get_or cuts i v →
    Counted cuts cells i → (cells * (length v.items + 1)) * cell_count (drop (i + 1) (lists cuts)) ≡ cell_count (lists cuts)
more_product cuts v cells i l e c = mul_assoc cells (length v.items + 1) (cell_count (drop (i + 1) (lists cuts))) ∙ ap (λ (m : ℕ). cells * m) (sym (rest_of cuts v i l e)) ∙ c.product

pub more_counted : (cuts : List (Vec ℤ Global)) (v : Vec ℤ Global) (cells i n : ℕ) → i < length cuts → v ≡ get_or cuts i v →
    n ≡ length v.items → cells * (n + 1) ≤ 64 → Counted cuts cells i → Counted cuts (cells * (n + 1)) (i + 1)
more_counted cuts v cells i n l e s few c = record { product = rw s (more_product cuts v cells i l e c); few = few }

pub too_many : (cuts : List (Vec ℤ Global)) (v : Vec ℤ Global) (cells i n : ℕ) → i < length cuts → v ≡ get_or cuts i v → n ≡ length v.items → 64 < cells * (n + 1) → Counted cuts cells i → 64 < cell_count (lists cuts)
too_many cuts v cells i n l e s many c =
    let low = mul-le (cells * (n + 1)) 1 (cells * (n + 1)) (cell_count (drop (i + 1) (lists cuts))) (omega arith) (some_cell (drop (i + 1) (lists cuts))) in
    let all : (cells * (n + 1)) * cell_count (drop (i + 1) (lists cuts)) ≡ cell_count (lists cuts) = rw s (more_product cuts v cells i l e c) in
    omega (arith, low, all, many)

pub all_counted : (cuts : List (Vec ℤ Global)) (cells i : ℕ) → length cuts ≤ i → Counted cuts cells i → cells ≡ cell_count (lists cuts)
unfolding cell_count
all_counted cuts cells i l c = one cells ∙ ap (λ (rest : List (List ℤ)). cells * cell_count rest) (sym (past (lists cuts) i (omega (arith, l, length-map cuts (λ (w : Vec ℤ Global). w.items))))) ∙ c.product
  where
    one : (n : ℕ) → n ≡ n * 1
    one n = omega arith

    past : (xs : List (List ℤ)) (i : ℕ) → length xs ≤ i → drop i xs ≡ []
    past xs i l = drop_all i xs l
