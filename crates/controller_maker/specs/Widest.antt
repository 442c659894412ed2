-- The quantity `width`: the greatest absolute sum that a controller of a design can have, whichever good solutions its gains are.
use Rattle.std.specs.Prelude.{ℕ, ◌+◌, ◌*◌, ◌^◌, ℤ, pos, ◌*ℤ◌, List, map, replicate}
use Rattle.std.specs.List.{range_with_len}
use Rattle.integer_algebra.specs.Division.{round_of}
use Rattle.mat_int.specs.Matrix.{Matrix}
use Rattle.qp_model.specs.problem.Design.{Design, entries, rows}
use Rattle.qp_model.specs.form.Columns.{column_bound}
use Rattle.qp_model.specs.form.Class.{form_of}
use Rattle.qp_model.specs.machine.Controller.{Numbers}
use Rattle.overflow_check.specs.Machines.{greatest_for}
use Rattle.overflow_check.specs.declared.machine.Machine.{Machine}
use Rattle.overflow_check.specs.declared.machine.Machine.TheVariants.{Plain, Accelerated}

-- f at 0, 1 .. n - 1
abbrev pub listed : ℕ → (ℕ → ℤ) → List ℤ
listed n f = map f (range_with_len 0 n)

-- f at the rows and columns of a matrix
abbrev pub table : ℕ → ℕ → (ℕ → ℕ → ℤ) → Matrix
table height width f = record { rows = map (λ i. listed width (f i)) (range_with_len 0 height); cols = width }

-- a number of the rows, over 2^f and rounded to the nearest, and ties upward
abbrev pub rounded : Design → ℕ → ℤ → ℤ
rounded d f z = round_of (pos (2 ^ f) *ℤ z) (form_of d).rows_scale

-- the numbers of a controller with R, the step exponent s of all rows, k steps and f bits, whose gains are each the bound of its column; with lower exponents
-- of rows the sums are the same, and they are those of another version and number of words
abbrev pub widest : Design → (r s k f : ℕ) → Numbers
widest d r s k f =
    record {
      version = d.version;
      states = d.states;
      inputs = d.inputs;
      stages = d.stages;
      rows = rows d;
      fraction_bits = f;
      grid_bits = d.grid;
      step_exponent = s;
      width = 128;
      steps = k;
      clamp = pos (2 * r * 2 ^ (f + s));
      words = d.states + rows d + 2 * entries d;
      exponents = replicate (rows d) s;
      low = listed d.states d.low;
      high = listed d.states d.high;
      state_gains = table (entries d) d.states (λ j i. pos (column_bound (form_of d) f i));
      offsets = listed (entries d) (λ j. pos (column_bound (form_of d) f d.states));
      dual_gains = table (entries d) (rows d) (λ j i. pos (column_bound (form_of d) f (d.states + 1 + i)));
      plan_rows = table (rows d) (entries d) (λ i j. rounded d f ((form_of d).numbers.by_plan i j));
      state_rows = table (rows d) d.states (λ i j. rounded d f ((form_of d).numbers.by_state i j));
      bounds = listed (rows d) (λ i. rounded d f ((form_of d).numbers.bound i));
    }

abbrev pub width_size_for : Machine → Design → (r s k f : ℕ) → ℕ
width_size_for m d r s k f = greatest_for m (widest d r s k f)

abbrev pub width_size : Design → (r s k f : ℕ) → ℕ
width_size = width_size_for Plain

abbrev pub fast_width_size : Design → (r s k f : ℕ) → ℕ
fast_width_size = width_size_for Accelerated
