-- The controllers that the rows try, each of its sizes, and the bounds of one of them.
use Rattle.std.proofs.Common.{ℕ, ◌+◌, ◌*◌, ◌^◌, ℤ, pos, negsuc, List, [], ◌∷◌, replicate, false}
use Rattle.mat_int.specs.Matrix.{Matrix}
use Rattle.qp_model.specs.machine.Controller.{Numbers}
use Rattle.qp_model.specs.bounds.Printed.{Printed}

abbrev pub matrix : ℕ → List (List ℤ) → Matrix
matrix breadth lines = record { cols = breadth; rows = lines }

abbrev pub ones : (height breadth : ℕ) → Matrix
ones height breadth = matrix breadth (replicate height (replicate breadth (pos 1)))

-- ---- of a version, with n states, p inputs, N stages and m rows, one number in each list, and else the greatest numbers
abbrev pub of_sizes : (version n p N m : ℕ) → Numbers
of_sizes version n p N m = record {
  version = version;
  states = n;
  inputs = p;
  stages = N;
  rows = m;
  fraction_bits = 48;
  grid_bits = 24;
  step_exponent = 40;
  width = 128;
  steps = 4194304;
  clamp = pos (2 ^ 126);
  words = n + m + 2 * (p * N);
  exponents = replicate m 40;
  low = replicate n (negsuc 2147483646);
  high = replicate n (pos 2147483647);
  state_gains = ones (p * N) n;
  offsets = replicate (p * N) (pos 1);
  dual_gains = ones (p * N) m;
  plan_rows = ones m (p * N);
  state_rows = ones m n;
  bounds = replicate m (pos 1);
}

-- ---- the controller of the design `base`, which was worked out by hand
abbrev pub first_controller : Numbers
first_controller = record (of_sizes 1 1 1 1 3) {
  fraction_bits = 10;
  grid_bits = 0;
  step_exponent = 1;
  width = 26;
  steps = 4;
  clamp = pos 32768;
  exponents = 1 ∷ 1 ∷ 1 ∷ [];
  low = pos 0 ∷ [];
  high = pos 1 ∷ [];
  state_gains = matrix 1 ((pos 512 ∷ []) ∷ []);
  offsets = pos 0 ∷ [];
  dual_gains = matrix 3 ((pos 256 ∷ negsuc 255 ∷ pos 256 ∷ []) ∷ []);
  plan_rows = matrix 1 ((pos 1024 ∷ []) ∷ (negsuc 1023 ∷ []) ∷ (pos 1024 ∷ []) ∷ []);
  state_rows = matrix 1 ((pos 0 ∷ []) ∷ (pos 0 ∷ []) ∷ (pos 1024 ∷ []) ∷ []);
  bounds = pos 1024 ∷ pos 1024 ∷ pos 256 ∷ [];
}

-- the third row's exponent is 0, so its multiplier is over 2^10 and is raised to 2^11
abbrev pub third_controller : Numbers
third_controller = record first_controller { version = 2; exponents = 1 ∷ 1 ∷ 0 ∷ [] }

-- the least numbers that hold of it at the state 1: a residual of r / 2^14 is r * 2^26 over 2^40, and 10/16 - 8450560 / 2^24 is 133378867200 over 2^40
abbrev pub least : Printed
least = record {
  version = 1;
  margin = pos 8192;
  lean = false;
  cost = pos 1;
  multiplier = pos 8;
  step = 1;
  steps = 4;
  bits = 10;
  width = 22;
  words = 6;
  violation = pos 227633266688;
  row_violations = negsuc 1696512081919 ∷ negsuc 502511173631 ∷ pos 227633266688 ∷ [];
  gap = negsuc 133378867199;
  undercut = pos 133378867200;
}

-- ---- two states, one input, two stages and three rows, so that steps, rows and entries differ in number
abbrev pub small : Numbers
small = record (of_sizes 2 2 1 2 3) {
  fraction_bits = 3;
  grid_bits = 1;
  step_exponent = 2;
  width = 20;
  steps = 2;
  clamp = pos 45;
  exponents = 2 ∷ 0 ∷ 1 ∷ [];
  low = pos 1 ∷ pos 2 ∷ [];
  high = pos 5 ∷ pos 6 ∷ [];
  state_gains = matrix 2 ((pos 3 ∷ negsuc 1 ∷ []) ∷ (pos 5 ∷ pos 1 ∷ []) ∷ []);
  offsets = pos 7 ∷ negsuc 2 ∷ [];
  dual_gains = matrix 3 ((pos 4 ∷ pos 1 ∷ negsuc 2 ∷ []) ∷ (negsuc 0 ∷ pos 2 ∷ pos 6 ∷ []) ∷ []);
  plan_rows = matrix 2 ((pos 2 ∷ negsuc 4 ∷ []) ∷ (negsuc 2 ∷ pos 1 ∷ []) ∷ (pos 9 ∷ pos 8 ∷ []) ∷ []);
  state_rows = matrix 2 ((pos 1 ∷ pos 3 ∷ []) ∷ (pos 6 ∷ negsuc 1 ∷ []) ∷ (pos 0 ∷ pos 4 ∷ []) ∷ []);
  bounds = negsuc 10 ∷ negsuc 4 ∷ pos 13 ∷ [];
}

-- ---- two states, two inputs and two rows, both of whose multipliers meet their greatest
abbrev square_of : (a b c d : ℤ) → Matrix
square_of a b c d = matrix 2 ((a ∷ b ∷ []) ∷ (c ∷ d ∷ []) ∷ [])

abbrev pub clamped_controller : Numbers
clamped_controller = record (of_sizes 2 2 2 1 2) {
  fraction_bits = 4;
  grid_bits = 2;
  step_exponent = 3;
  width = 26;
  steps = 3;
  clamp = pos 31;
  exponents = 3 ∷ 1 ∷ [];
  low = negsuc 6 ∷ pos 2 ∷ [];
  high = pos 5 ∷ pos 9 ∷ [];
  state_gains = square_of (pos 3) (negsuc 4) (pos 7) (pos 2);
  offsets = pos 9 ∷ negsuc 10 ∷ [];
  dual_gains = square_of (pos 4) (negsuc 5) (negsuc 2) (pos 8);
  plan_rows = square_of (pos 5) (negsuc 2) (negsuc 6) (pos 6);
  state_rows = square_of (pos 2) (pos 1) (negsuc 0) (pos 3);
  bounds = negsuc 12 ∷ negsuc 0 ∷ [];
}
