-- Cells: combinations of parts are counted, and each grid state of the box lies in exactly one.
use Rattle.std.proofs.Common.{◌≡◌, ℕ, zero, suc, ◌+◌, ◌-◌, ◌*◌, ◌/◌, ◌%◌, ◌<◌, ◌≤◌, ℤ, ◌≤ℤ◌, List, [], ◌∷◌, length, sym, ap, ◌∙◌, subst, arith}
use Rattle.std.proofs.lemmas.Nat.{div-mul-add, mod-mul-add, mul-add-lt, div_below, mod_below, div-add-mod'}
use Rattle.qp_model.specs.problem.Design.{Design}
use Rattle.qp_model.specs.problem.Box.{IsGridState}
use Rattle.cell_split.specs.Cuts.{part_count, AreCuts}
use Rattle.cell_split.specs.Cells.{cuts_of, cell_count, part_of, cell_of, AreCutsFor, IsCell, LiesInside, IsServed, SplitLaw}
use Rattle.cell_split.proofs.PartLaws.{IsIn, found, same_part, low_above, high_below, some_number}

-- ---- from 0, over lists
AllCuts : (ℕ → ℤ) → (ℕ → ℤ) → List (List ℤ) → Type 0
AllCuts low high lists = (i : ℕ) → i < length lists → AreCuts (low i) (high i) (cuts_of lists i)

-- cell k has this state
Has : (ℕ → ℤ) → (ℕ → ℤ) → List (List ℤ) → ℕ → (ℕ → ℤ) → Type 0
Has low high lists k xi = (i : ℕ) → i < length lists → IsIn (low i) (high i) (cuts_of lists i) (part_of lists k i) (xi i)

behind : (ℕ → ℤ) → ℕ → ℤ
behind f i = f (suc i)

-- the part of each coordinate is one of its parts
pub part_inside : (lists : List (List ℤ)) (k i : ℕ) → part_of lists k i ≤ length (cuts_of lists i)
unfolding part_of
part_inside [] k i = omega arith
part_inside (cuts ∷ lists) k zero = omega (arith, mod_below k (length cuts + 1) (omega arith))
part_inside (cuts ∷ lists) k (suc i) = part_inside lists (k / part_count cuts) i

-- ---- some cell
record FoundCell (low high : ℕ → ℤ) (lists : List (List ℤ)) (xi : ℕ → ℤ) : Type 0 where
  pub cell : ℕ
  pub inside : cell < cell_count lists
  pub here : Has low high lists cell xi

found_cell : (lists : List (List ℤ)) (low high xi : ℕ → ℤ) → AllCuts low high lists → ((i : ℕ) → i < length lists → low i ≤ℤ xi i) → ((i : ℕ) → i < length lists → xi i ≤ℤ high i) →
    FoundCell low high lists xi
unfolding AllCuts Has cell_count part_of behind
found_cell [] low high xi h l m = record { cell = 0; inside = omega arith; here = λ i o. absurd (omega (arith, o)) }
found_cell (cuts ∷ lists) low high xi h l m =
    let p = found (low 0) (high 0) cuts (xi 0) (h 0 (omega arith)) (l 0 (omega arith)) (m 0 (omega arith)) in
    let q = found_cell lists (behind low) (behind high) (behind xi) (λ i o. h (suc i) (omega (arith, o))) (λ i o. l (suc i) (omega (arith, o))) (λ i o. m (suc i) (omega (arith, o))) in
    let small : p.part < length cuts + 1 = omega (arith, p.inside) in
    record {
      cell = q.cell * (length cuts + 1) + p.part;
      inside = mul-add-lt q.cell (length cuts + 1) p.part (cell_count lists) q.inside small;
      here = all p.part q.cell small p.here q.here;
    }
  where
    all : (p q : ℕ) → p < length cuts + 1 → IsIn (low 0) (high 0) cuts p (xi 0) → Has (behind low) (behind high) lists q (behind xi) → Has low high (cuts ∷ lists) (q * (length cuts + 1) + p) xi
    all p q s h k zero o = rw (mod-mul-add q (length cuts + 1) p s) h
    all p q s h k (suc i) o = rw (div-mul-add q (length cuts + 1) p s) (k i (omega (arith, o)))

-- ---- one cell
same_cell : (lists : List (List ℤ)) (low high xi : ℕ → ℤ) (k l : ℕ) → AllCuts low high lists → k < cell_count lists → l < cell_count lists → Has low high lists k xi → Has low high lists l xi → k ≡ l
unfolding AllCuts Has cell_count part_of behind
same_cell [] low high xi k l h m n a b = omega (arith, m, n)
same_cell (cuts ∷ lists) low high xi k l h m n a b =
    let w = length cuts + 1 in
    let some : 0 < length cuts + 1 = omega arith in
    let first : k % (length cuts + 1) ≡ l % (length cuts + 1) =
    same_part (low 0) (high 0) cuts _ _ (xi 0) (h 0 (omega arith)) (part_inside (cuts ∷ lists) k 0) (part_inside (cuts ∷ lists) l 0) (a 0 (omega arith)) (b 0 (omega arith)) in
    let rest : k / (length cuts + 1) ≡ l / (length cuts + 1) =
    same_cell lists (behind low) (behind high) (behind xi) _ _ (λ i o. h (suc i) (omega (arith, o)))
    (below k m some) (below l n some)
    (λ i o. a (suc i) (omega (arith, o))) (λ i o. b (suc i) (omega (arith, o))) in
    sym (div-add-mod' k (length cuts + 1)) ∙ ap (λ (x : ℕ). x * (length cuts + 1) + k % (length cuts + 1)) rest
    ∙ ap (λ (x : ℕ). l / (length cuts + 1) * (length cuts + 1) + x) first ∙ div-add-mod' l (length cuts + 1)
  where
    turned : (a b : ℕ) → a * b ≡ b * a
    turned a b = omega (arith)

    below : (k : ℕ) → k < (length cuts + 1) * cell_count lists → 0 < length cuts + 1 → k / (length cuts + 1) < cell_count lists
    below k m some = div_below k (length cuts + 1) (cell_count lists) some (rw (turned (cell_count lists) (length cuts + 1)) m)

-- ---- from 1, of a design
lies_inside : (d : Design) (lists : List (List ℤ)) (k : ℕ) → ((i : ℕ) → i < d.states → d.low i ≤ℤ d.high i) → AreCutsFor d lists → LiesInside d lists k
lies_inside d lists k box h = record {
  low = λ i l. low_above (d.low i) (d.high i) (cuts_of lists i) _ (h.each i l) (part_inside lists (k - 1) i);
  some = λ i l. some_number (d.low i) (d.high i) (cuts_of lists i) _ (h.each i l) (box i l) (part_inside lists (k - 1) i);
  high = λ i l. high_below (d.low i) (d.high i) (cuts_of lists i) _ (h.each i l);
}

has : (d : Design) (lists : List (List ℤ)) (k : ℕ) (xi : ℕ → ℤ) → AreCutsFor d lists → IsGridState (cell_of d lists k) xi → Has d.low d.high lists (k - 1) xi
unfolding Has
has d lists k xi h g = λ i l. (let b = g i (omega (arith, l, h.count)) in record { low = b.0; high = b.1 })

all_cuts : (d : Design) (lists : List (List ℤ)) → AreCutsFor d lists → AllCuts d.low d.high lists
unfolding AllCuts
all_cuts d lists h = λ i l. h.each i (omega (arith, l, h.count))

apart : (d : Design) (lists : List (List ℤ)) (k l : ℕ) (xi : ℕ → ℤ) → AreCutsFor d lists → IsCell lists k → IsCell lists l → IsGridState (cell_of d lists k) xi → IsGridState (cell_of d lists l) xi → k ≡ l
apart d lists k l xi h m n a b =
    let e = same_cell lists d.low d.high xi (k - 1) (l - 1) (all_cuts d lists h) (omega (arith, m.low, m.high)) (omega (arith, n.low, n.high)) (has d lists k xi h a) (has d lists l xi h b) in
    omega (arith, e, m.low, n.low)

grid_state : (d : Design) (lists : List (List ℤ)) (j k : ℕ) (xi : ℕ → ℤ) → AreCutsFor d lists → j ≡ k - 1 → Has d.low d.high lists j xi → IsGridState (cell_of d lists k) xi
unfolding Has
grid_state d lists j k xi h e f = λ i l. (let b = subst (λ (m : ℕ). Has d.low d.high lists m xi) e f i (omega (arith, l, h.count)) in (b.low, b.high))

served : (d : Design) (lists : List (List ℤ)) (xi : ℕ → ℤ) → AreCutsFor d lists → IsGridState d xi → IsServed d lists xi
served d lists xi h g =
    let f = found_cell lists d.low d.high xi (all_cuts d lists h) (λ i l. (g i (omega (arith, l, h.count))).0) (λ i l. (g i (omega (arith, l, h.count))).1) in
    let cell : IsCell lists (f.cell + 1) = record { low = omega arith; high = omega (arith, f.inside) } in
    let here : IsGridState (cell_of d lists (f.cell + 1)) xi = grid_state d lists f.cell (f.cell + 1) xi h (omega arith) f.here in
    record {
      cell = f.cell + 1;
      is_cell = cell;
      here = here;
      alone = λ k m a. apart d lists k (f.cell + 1) xi h m cell a here;
    }

pub split_law : SplitLaw
split_law d lists box h = record {
  inside = λ k m. lies_inside d lists k box h;
  apart = λ k l xi m n a b. apart d lists k l xi h m n a b;
  served = λ xi g. served d lists xi h g;
}
