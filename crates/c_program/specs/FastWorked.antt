-- A worked controller of the accelerated machine, with a row of its own exponent and a pair, and the lines of its program.
use Rattle.std.specs.Prelude.{◌≡◌, ℕ, pos, negsuc, List, [], ◌∷◌, codes}
use Rattle.qp_model.specs.machine.Controller.{Numbers}
use Rattle.c_program.specs.FastOf.{fast_program_of}
use Rattle.c_language.specs.Text.{program_lines}

abbrev pub fast : Numbers
fast = record {
  version = 3;
  states = 1;
  inputs = 1;
  stages = 1;
  rows = 3;
  fraction_bits = 9;
  grid_bits = 0;
  step_exponent = 1;
  width = 22;
  steps = 3;
  clamp = pos 2048;
  words = 12;
  exponents = 0 ∷ 1 ∷ 1 ∷ [];
  low = pos 0 ∷ [];
  high = (pos 1) ∷ [];
  state_gains = record {
    cols = 1;
    rows = ((pos 256) ∷ []) ∷ [];
  };
  offsets = pos 0 ∷ [];
  dual_gains = record {
    cols = 3;
    rows = ((pos 128) ∷ (negsuc 127) ∷ (pos 128) ∷ []) ∷ [];
  };
  plan_rows = record {
    cols = 1;
    rows = ((pos 512) ∷ []) ∷ ((negsuc 511) ∷ []) ∷ ((pos 512) ∷ []) ∷ [];
  };
  state_rows = record {
    cols = 1;
    rows = (pos 0 ∷ []) ∷ (pos 0 ∷ []) ∷ ((pos 512) ∷ []) ∷ [];
  };
  bounds = (pos 512) ∷ (pos 512) ∷ (pos 128) ∷ [];
}

abbrev pub fast_lines : List (List ℕ)
fast_lines =
    codes "#include \"fast.h\""
    ∷ []
    ∷ codes "typedef char fast_shifts_round_down[((-INT64_C(3)) >> 1) == (-INT64_C(2)) ? 1 : -1];"
    ∷ []
    ∷ codes "int fast_solve(const int32_t state[1], int64_t sums[1])"
    ∷ codes "{"
    ∷ codes "    if (state[0] < INT64_C(0) || state[0] > INT64_C(1)) { return 1; }"
    ∷ codes "    int32_t x0 = (int32_t)((INT64_C(512) * (int64_t)state[0]));"
    ∷ codes "    int64_t a0 = (int64_t)(INT64_C(0) + (INT64_C(512) * (int64_t)x0));"
    ∷ codes "    int64_t r0 = (int64_t)((-INT64_C(262144)));"
    ∷ codes "    int64_t r1 = (int64_t)((-INT64_C(262144)));"
    ∷ codes "    int64_t r2 = (int64_t)((-INT64_C(65536)) + (INT64_C(512) * (int64_t)x0));"
    ∷ codes "    int32_t l0 = (int32_t)(INT64_C(0));"
    ∷ codes "    int32_t l1 = (int32_t)(INT64_C(0));"
    ∷ codes "    int32_t l2 = (int32_t)(INT64_C(0));"
    ∷ codes "    int32_t s0 = (int32_t)(INT64_C(0));"
    ∷ codes "    int32_t m0 = (int32_t)(INT64_C(0));"
    ∷ codes "    int32_t m1 = (int32_t)(INT64_C(0));"
    ∷ codes "    int32_t m2 = (int32_t)(INT64_C(0));"
    ∷ codes "    int32_t v0 = (int32_t)(INT64_C(0));"
    ∷ codes "    int32_t v1 = (int32_t)(INT64_C(0));"
    ∷ codes "    int32_t v2 = (int32_t)(INT64_C(0));"
    ∷ codes "    int32_t k0 = (int32_t)(INT64_C(2));"
    ∷ codes "    int32_t e0 = (int32_t)(INT64_C(1));"
    ∷ codes "    int64_t p0 = (int64_t)(INT64_C(8589934592));"
    ∷ codes "    for (int32_t step = 0; step < 3; step++) {"
    ∷ codes "        int32_t b0 = (int32_t)((((int64_t)k0 - INT64_C(1)) * ((int64_t)k0 + INT64_C(2))));"
    ∷ codes "        int32_t c0 = (int32_t)(INT64_C(1) + ((((int64_t)b0 * INT64_C(1073741824)) - (int64_t)p0) >> 63));"
    ∷ codes "        e0 = (int32_t)((int64_t)e0 + (int64_t)c0);"
    ∷ codes "        p0 = (int64_t)((int64_t)p0 + ((int64_t)c0 * (int64_t)p0));"
    ∷ codes "        int32_t q0 = (int32_t)((((int64_t)p0 - INT64_C(1)) / (int64_t)b0));"
    ∷ codes "        int64_t n0 = (int64_t)((int64_t)v0 + ((int64_t)k0 * (int64_t)m0));"
    ∷ codes "        int32_t h0 = (int32_t)((((int64_t)n0) >> (int64_t)e0));"
    ∷ codes "        l0 = (int32_t)(((((int64_t)h0 * (int64_t)q0)) >> 32));"
    ∷ codes "        int32_t z0 = (int32_t)((int64_t)n0 - ((int64_t)l0 * (int64_t)b0) - (int64_t)b0);"
    ∷ codes "        l0 = (int32_t)((int64_t)l0 + INT64_C(1) + (((int64_t)z0) >> 31));"
    ∷ codes "        int64_t n1 = (int64_t)((int64_t)v1 + ((int64_t)k0 * (int64_t)m1));"
    ∷ codes "        int32_t h1 = (int32_t)((((int64_t)n1) >> (int64_t)e0));"
    ∷ codes "        l1 = (int32_t)(((((int64_t)h1 * (int64_t)q0)) >> 32));"
    ∷ codes "        int32_t z1 = (int32_t)((int64_t)n1 - ((int64_t)l1 * (int64_t)b0) - (int64_t)b0);"
    ∷ codes "        l1 = (int32_t)((int64_t)l1 + INT64_C(1) + (((int64_t)z1) >> 31));"
    ∷ codes "        int64_t n2 = (int64_t)((int64_t)v2 + ((int64_t)k0 * (int64_t)m2));"
    ∷ codes "        int32_t h2 = (int32_t)((((int64_t)n2) >> (int64_t)e0));"
    ∷ codes "        l2 = (int32_t)(((((int64_t)h2 * (int64_t)q0)) >> 32));"
    ∷ codes "        int32_t z2 = (int32_t)((int64_t)n2 - ((int64_t)l2 * (int64_t)b0) - (int64_t)b0);"
    ∷ codes "        l2 = (int32_t)((int64_t)l2 + INT64_C(1) + (((int64_t)z2) >> 31));"
    ∷ codes "        int32_t d1 = (int32_t)((int64_t)l1 - (int64_t)l2);"
    ∷ codes "        int32_t u0 = (int32_t)(INT64_C(0) - (((int64_t)a0 + (INT64_C(256) * (int64_t)l0) + ((-INT64_C(128)) * (int64_t)d1)) >> 10));"
    ∷ codes "        s0 = (int32_t)((int64_t)s0 + ((int64_t)k0 * (int64_t)u0));"
    ∷ codes "        int32_t y0 = (int32_t)((((int64_t)r0) >> 9) + (INT64_C(1) * (int64_t)u0));"
    ∷ codes "        int32_t t0 = (int32_t)((int64_t)m0 + ((int64_t)k0 * (int64_t)y0));"
    ∷ codes "        if (t0 < 0) { t0 = 0; }"
    ∷ codes "        if (t0 > INT64_C(2048)) { t0 = (int32_t)(INT64_C(2048)); }"
    ∷ codes "        m0 = (int32_t)((int64_t)t0);"
    ∷ codes "        v0 = (int32_t)((int64_t)v0 + ((int64_t)k0 * (int64_t)m0));"
    ∷ codes "        int64_t g1 = (int64_t)(INT64_C(0) + ((-INT64_C(1)) * (int64_t)u0));"
    ∷ codes "        int32_t y1 = (int32_t)((((int64_t)r1) >> 9) + (int64_t)g1);"
    ∷ codes "        int32_t t1 = (int32_t)((int64_t)m1 + ((int64_t)k0 * (int64_t)y1));"
    ∷ codes "        if (t1 < 0) { t1 = 0; }"
    ∷ codes "        if (t1 > INT64_C(4096)) { t1 = (int32_t)(INT64_C(4096)); }"
    ∷ codes "        m1 = (int32_t)((int64_t)t1);"
    ∷ codes "        v1 = (int32_t)((int64_t)v1 + ((int64_t)k0 * (int64_t)m1));"
    ∷ codes "        int32_t y2 = (int32_t)((((int64_t)r2) >> 9) - (int64_t)g1);"
    ∷ codes "        int32_t t2 = (int32_t)((int64_t)m2 + ((int64_t)k0 * (int64_t)y2));"
    ∷ codes "        if (t2 < 0) { t2 = 0; }"
    ∷ codes "        if (t2 > INT64_C(4096)) { t2 = (int32_t)(INT64_C(4096)); }"
    ∷ codes "        m2 = (int32_t)((int64_t)t2);"
    ∷ codes "        v2 = (int32_t)((int64_t)v2 + ((int64_t)k0 * (int64_t)m2));"
    ∷ codes "        k0 = (int32_t)((int64_t)k0 + INT64_C(1));"
    ∷ codes "    }"
    ∷ codes "    sums[0] = (int64_t)s0;"
    ∷ codes "    return 0;"
    ∷ codes "}"
    ∷ []
    ∷ codes "void fast_first_inputs(const int64_t sums[1], int64_t inputs[1])"
    ∷ codes "{"
    ∷ codes "    inputs[0] = ((int64_t)sums[0] / INT64_C(9)) + (((INT64_C(2) * ((int64_t)sums[0] % INT64_C(9))) + INT64_C(9)) >> 63) - ((INT64_C(8) - (INT64_C(2) * ((int64_t)sums[0] % INT64_C(9)))) >> 63);"
    ∷ codes "}"
    ∷ []

abbrev pub FastWorkedLines : Type 0
FastWorkedLines = program_lines (codes "fast") (fast_program_of fast) ≡ fast_lines
