-- A worked controller, that of examples/first, and the lines of its program.
use Rattle.std.specs.Prelude.{◌≡◌, ℕ, pos, negsuc, List, [], ◌∷◌, codes}
use Rattle.qp_model.specs.machine.Controller.{Numbers}
use Rattle.c_program.specs.Of.{program_of}
use Rattle.c_language.specs.Text.{program_lines}

abbrev pub first : Numbers
first = record {
  version = 1;
  states = 1;
  inputs = 1;
  stages = 1;
  rows = 3;
  fraction_bits = 10;
  grid_bits = 0;
  step_exponent = 1;
  width = 26;
  steps = 4;
  clamp = pos 32768;
  words = 6;
  exponents = 1 ∷ 1 ∷ 1 ∷ [];
  low = pos 0 ∷ [];
  high = (pos 1) ∷ [];
  state_gains = record {
    cols = 1;
    rows = ((pos 512) ∷ []) ∷ [];
  };
  offsets = pos 0 ∷ [];
  dual_gains = record {
    cols = 3;
    rows = ((pos 256) ∷ (negsuc 255) ∷ (pos 256) ∷ []) ∷ [];
  };
  plan_rows = record {
    cols = 1;
    rows = ((pos 1024) ∷ []) ∷ ((negsuc 1023) ∷ []) ∷ ((pos 1024) ∷ []) ∷ [];
  };
  state_rows = record {
    cols = 1;
    rows = (pos 0 ∷ []) ∷ (pos 0 ∷ []) ∷ ((pos 1024) ∷ []) ∷ [];
  };
  bounds = (pos 1024) ∷ (pos 1024) ∷ (pos 256) ∷ [];
}

abbrev pub first_lines : List (List ℕ)
first_lines =
    codes "#include \"first.h\""
    ∷ []
    ∷ codes "typedef char first_shifts_round_down[((-INT64_C(3)) >> 1) == (-INT64_C(2)) ? 1 : -1];"
    ∷ []
    ∷ codes "int first_solve(const int32_t state[1], int64_t sums[1])"
    ∷ codes "{"
    ∷ codes "    if (state[0] < INT64_C(0) || state[0] > INT64_C(1)) { return 1; }"
    ∷ codes "    int32_t x0 = (int32_t)((INT64_C(1024) * (int64_t)state[0]));"
    ∷ codes "    int64_t a0 = (int64_t)(INT64_C(0) + (INT64_C(1024) * (int64_t)x0));"
    ∷ codes "    int64_t r0 = (int64_t)((-INT64_C(1048576)));"
    ∷ codes "    int64_t r1 = (int64_t)((-INT64_C(1048576)));"
    ∷ codes "    int64_t r2 = (int64_t)((-INT64_C(262144)) + (INT64_C(1024) * (int64_t)x0));"
    ∷ codes "    int32_t l0 = (int32_t)(INT64_C(0));"
    ∷ codes "    int32_t l1 = (int32_t)(INT64_C(0));"
    ∷ codes "    int32_t l2 = (int32_t)(INT64_C(0));"
    ∷ codes "    int32_t s0 = (int32_t)(INT64_C(0));"
    ∷ codes "    for (int32_t step = 0; step < 4; step++) {"
    ∷ codes "        int32_t d0 = (int32_t)((int64_t)l0 - (int64_t)l1);"
    ∷ codes "        int32_t u0 = (int32_t)(INT64_C(0) - (((int64_t)a0 + (INT64_C(256) * (int64_t)d0) + (INT64_C(256) * (int64_t)l2)) >> 11));"
    ∷ codes "        s0 = (int32_t)((int64_t)s0 + (int64_t)u0);"
    ∷ codes "        int64_t g0 = (int64_t)(INT64_C(0) + (INT64_C(1) * (int64_t)u0));"
    ∷ codes "        int32_t y0 = (int32_t)((((int64_t)r0) >> 10) + (int64_t)g0);"
    ∷ codes "        int32_t t0 = (int32_t)((int64_t)l0 + (int64_t)y0);"
    ∷ codes "        if (t0 < 0) { t0 = 0; }"
    ∷ codes "        if (t0 > INT64_C(32768)) { t0 = (int32_t)(INT64_C(32768)); }"
    ∷ codes "        l0 = (int32_t)((int64_t)t0);"
    ∷ codes "        int32_t y1 = (int32_t)((((int64_t)r1) >> 10) - (int64_t)g0);"
    ∷ codes "        int32_t t1 = (int32_t)((int64_t)l1 + (int64_t)y1);"
    ∷ codes "        if (t1 < 0) { t1 = 0; }"
    ∷ codes "        if (t1 > INT64_C(32768)) { t1 = (int32_t)(INT64_C(32768)); }"
    ∷ codes "        l1 = (int32_t)((int64_t)t1);"
    ∷ codes "        int32_t y2 = (int32_t)((((int64_t)r2) >> 10) + (INT64_C(1) * (int64_t)u0));"
    ∷ codes "        int32_t t2 = (int32_t)((int64_t)l2 + (int64_t)y2);"
    ∷ codes "        if (t2 < 0) { t2 = 0; }"
    ∷ codes "        if (t2 > INT64_C(32768)) { t2 = (int32_t)(INT64_C(32768)); }"
    ∷ codes "        l2 = (int32_t)((int64_t)t2);"
    ∷ codes "    }"
    ∷ codes "    sums[0] = (int64_t)s0;"
    ∷ codes "    return 0;"
    ∷ codes "}"
    ∷ []
    ∷ codes "void first_first_inputs(const int64_t sums[1], int64_t inputs[1])"
    ∷ codes "{"
    ∷ codes "    inputs[0] = (((int64_t)sums[0] + INT64_C(2)) >> 2);"
    ∷ codes "}"
    ∷ []

abbrev pub WorkedLines : Type 0
WorkedLines = program_lines (codes "first") (program_of first) ≡ first_lines
