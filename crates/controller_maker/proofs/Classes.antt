-- What a design's form has of the design, of whichever class it is.
use Rattle.std.proofs.Common.{◌≡◌, ℕ, ◌+◌, Bool, true, false, arith, refl}
use Rattle.qp_model.specs.problem.Design.{Design, entries, rows}
use Rattle.qp_model.specs.form.Form.{Form}
use Rattle.qp_model.specs.form.FineSizes.{is_fine}
use Rattle.qp_model.specs.form.Class.{form_in, form_of}
use Rattle.qp_model.specs.form.Columns.{columns}

-- its sizes
record IsSizedAs (d : Design) (h : Form) : Type 0 where
  pub entries : h.entries ≡ entries d
  pub states : h.states ≡ d.states
  pub rows : h.rows ≡ rows d

sized_in : (fine : Bool) (d : Design) → IsSizedAs d (form_in fine d)
sized_in true d = record { entries = refl; states = refl; rows = refl }
sized_in false d = record { entries = refl; states = refl; rows = refl }

module _ (d : Design) where
  pub entries_are : (form_of d).entries ≡ entries d
  entries_are = (sized_in (is_fine d) d).entries

  pub states_are : (form_of d).states ≡ d.states
  states_are = (sized_in (is_fine d) d).states

  pub rows_are : (form_of d).rows ≡ rows d
  rows_are = (sized_in (is_fine d) d).rows

  pub columns_are : columns (form_of d) ≡ d.states + 1 + rows d
  columns_are = added _ _ _ _ states_are rows_are
    where
      added : (a b x y : ℕ) → a ≡ x → b ≡ y → a + 1 + b ≡ x + 1 + y
      added a b x y e g = omega (arith, e, g)
