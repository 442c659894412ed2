-- The products of the cost rows in enclosures, as code makes them.
use Rattle.std.proofs.Common.{◌≡◌, ℕ, ◌*◌, ◌^◌, ◌<◌, ◌≤◌, List, ℤ, pos, ◌*ℤ◌, ◌≤ℤ◌, ◌<ℤ◌, length, All, arith, ap, ap₂, ◌∙◌}
use Rattle.std.proofs.lemmas.Int.{ints}
use Rattle.std.proofs.lemmas.List.Elements.{All-from_get_or}
use Rattle.integer_algebra.specs.Sums.{at}
use Rattle.integer_algebra.proofs.SumLaws.{total_same}
use Rattle.frac_scaled.specs.Enclosures.{Enclosure, magnitude, whole_product}
use Rattle.mat_int.specs.Matrix.{Matrix, HasEntries}
use Rattle.mat_int.specs.Enclosures.{gram_magnitude, enclosure_at, HasEnclosures, SomeIsFar}
use Rattle.enclosure.proofs.RoomLaws.{same_pair}
use Rattle.qp_model.specs.declared.design_parts.DesignParts.{DesignParts}
use Rattle.qp_model.specs.problem.Design.{Design, CostRow}
use Rattle.qp_model.specs.problem.Parts.{design_of, IsDesign}
use Rattle.qp_model.specs.form.Quantities.{weight_sum, cost_width}
use Rattle.qp_model.specs.problem.Runs.{counts, Holds}
use Rattle.qp_model.specs.form.FineForm.{counted_row}
use Rattle.enclosure.specs.Products.{products_over}
use Rattle.scaled_run.specs.ScaledForm.{scaled_costs, scaled_products}
use Rattle.qp_model.proofs.CountLaws.{counted_all}
use Rattle.qp_model.proofs.SizeFacts.{side_under, some_weight}
use Rattle.scaled_run.proofs.ListFacts.{combined_same}
use Rattle.condensed_form.specs.Costs.{weight_of}
use Rattle.scaled_condense.specs.Lists.{IsScale, HoldsEncMatrix}
use Rattle.scaled_condense.proofs.TargetFacts.{counted_at}
use Rattle.scaled_condense.proofs.RowRooms.{products_room}

-- ---- sizes
pub response_room : (p : DesignParts) (reach : ℕ) → IsDesign p → weight_sum (design_of p) * (cost_width (design_of p) * reach) ^ 2 ≤ 2 ^ 126 → cost_width (design_of p) * reach ≤ 2 ^ 126
response_room p reach h k = side_under (weight_sum (design_of p)) (cost_width (design_of p) * reach) (2 ^ 126) (some_weight p h) k

-- ---- weights
pub weights_signed : (p : DesignParts) → IsDesign p → (ws : List ℤ) → Holds ws (counts (design_of p)) (weight_of (design_of p)) → All (λ z. pos 0 ≤ℤ z) ws
weights_signed p h ws k = All-from_get_or (λ (z : ℤ). pos 0 ≤ℤ z) ws (pos 0) (λ i l. rw (k.is i (inside i l)) (counted_all (design_of p) (λ k r. r.weight) (λ (z : ℤ). pos 0 ≤ℤ z)
    (λ k r o q. h.stage_weights r q) (λ r o. h.final_weights r o) i (inside i l)))
  where
    inside : (i : ℕ) → i < length ws → i < counts (design_of p)
    inside i l = rw (← k.long) l

-- ---- the products
module _ (q : DesignParts) (m den : ℕ) (mid rad : Matrix) (ws : List ℤ) (w : ℕ) (h : HoldsEncMatrix mid rad (counts (design_of q)) w w (scaled_costs m (design_of q)))
    (k : Holds ws (counts (design_of q)) (weight_of (design_of q))) where
  abbrev d : Design
  d = design_of q

  column : (c j : ℕ) → c < counts d → j < w → enclosure_at mid rad c j ≡ scaled_costs m d c j
  column c j l o = same_pair (h.mids.is c j l o) (h.rads.is c j l o)

  weight : (c : ℕ) → c < counts d → at ws c ≡ (counted_row d c).weight
  weight c l = k.is c l ∙ counted_at d (λ (r : CostRow). r.weight) c

  product_is : (j l : ℕ) → j < w → l < w → products_over den (length ws) (at ws) (enclosure_at mid rad) j l ≡ scaled_products m den d j l
  product_is j l a b = rw k.long (combined_same (counts d) (at ws) (λ c. (counted_row d c).weight) (λ c. whole_product (enclosure_at mid rad c j) (enclosure_at mid rad c l))
      (λ c. whole_product (scaled_costs m d c j) (scaled_costs m d c l)) den weight (λ c o. ap₂ whole_product (column c j o a) (column c l o b)))

  pub products_hold : (gm gr : Matrix) → HasEnclosures mid.cols mid.cols (products_over den (length ws) (at ws) (enclosure_at mid rad)) gm gr → HasEnclosures w w (scaled_products m den d) gm gr
  products_hold gm gr p = record {
    mids = moved gm (λ (e : Enclosure). e.mid) (λ j l. (products_over den (length ws) (at ws) (enclosure_at mid rad) j l).mid) p.mids (λ j l a b. ap (λ (e : Enclosure). e.mid) (product_is j l a b));
    rads = moved gr (λ (e : Enclosure). e.rad) (λ j l. (products_over den (length ws) (at ws) (enclosure_at mid rad) j l).rad) p.rads (λ j l a b. ap (λ (e : Enclosure). e.rad) (product_is j l a b));
  }
    where
      moved : (g : Matrix) (of : Enclosure → ℤ) (f : ℕ → ℕ → ℤ) → HasEntries mid.cols mid.cols f g → ((j l : ℕ) → j < w → l < w → f j l ≡ of (scaled_products m den d j l)) →
          HasEntries w w (λ j l. of (scaled_products m den d j l)) g
      moved g of f q e = let s = rw h.mids.wide at q in record { rows = s.rows; cols = s.cols; even = s.even; entries = λ j l a b. s.entries j l a b ∙ e j l a b }

  -- none of them reaches too far
  pub products_near : (reach : ℕ) → IsScale q m reach → weight_sum d * (cost_width d * reach) ^ 2 ≤ 2 ^ 126 → SomeIsFar mid.cols mid.cols (gram_magnitude (length ws) (at ws) (enclosure_at mid rad)) → ⊥
  products_near reach scale room f = clash (rw k.long at f.above) (rw (same_magnitude f.row f.col (rw (← h.mids.wide) f.row_in) (rw (← h.mids.wide) f.col_in)) (products_room q m reach scale f.row f.col)) room
    where
      same_magnitude : (j l : ℕ) → j < w → l < w →
          gram_magnitude (counts d) (at ws) (enclosure_at mid rad) j l ≡ gram_magnitude (counts d) (λ c. (counted_row d c).weight) (scaled_costs m d) j l
      same_magnitude j l a b = total_same (counts d) _ _ (λ c o. ap₂ (λ (x y : ℤ). x *ℤ y) (weight c o)
          (ap₂ (λ (x y : Enclosure). magnitude x *ℤ magnitude y) (column c j o a) (column c l o b)))

      clash : {z : ℤ} {n : ℕ} → pos (2 ^ 126) <ℤ z → z ≤ℤ pos n → n ≤ 2 ^ 126 → ⊥
      clash h k l = omega (arith, ints, h, k, l)
