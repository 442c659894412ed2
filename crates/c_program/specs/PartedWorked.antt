-- A worked controller of the accelerated machine of 68 bits, with a row of its own exponent and a pair, and the lines of its program in parts.
use Rattle.std.specs.Prelude.{◌≡◌, ℕ, pos, negsuc, List, [], ◌∷◌, codes}
use Rattle.qp_model.specs.machine.Controller.{Numbers}
use Rattle.overflow_check.specs.declared.machine.Machine.TheVariants.{Accelerated}
use Rattle.c_program.specs.InParts.{parted_program}
use Rattle.c_language.specs.Text.{program_lines}

abbrev pub parted : Numbers
parted = record {
  version = 3;
  states = 1;
  inputs = 1;
  stages = 1;
  rows = 3;
  fraction_bits = 24;
  grid_bits = 0;
  step_exponent = 1;
  width = 68;
  steps = 3;
  clamp = pos 70368744177665;
  words = 12;
  exponents = 0 ∷ 1 ∷ 1 ∷ [];
  low = pos 0 ∷ [];
  high = (pos 1) ∷ [];
  state_gains = record {
    cols = 1;
    rows = ((pos 8388615) ∷ []) ∷ [];
  };
  offsets = (negsuc 4) ∷ [];
  dual_gains = record {
    cols = 3;
    rows = ((pos 524291) ∷ (negsuc 262144) ∷ (pos 262145) ∷ []) ∷ [];
  };
  plan_rows = record {
    cols = 1;
    rows = ((pos 16777219) ∷ []) ∷ ((negsuc 16777215) ∷ []) ∷ ((pos 16777216) ∷ []) ∷ [];
  };
  state_rows = record {
    cols = 1;
    rows = (pos 0 ∷ []) ∷ ((pos 3) ∷ []) ∷ ((pos 16777216) ∷ []) ∷ [];
  };
  bounds = (pos 16777216) ∷ (pos 16777216) ∷ (pos 4194304) ∷ [];
}

abbrev pub parted_lines : List (List ℕ)
parted_lines =
    codes "#include \"parts.h\""
    ∷ []
    ∷ codes "typedef char parts_shifts_round_down[((-INT64_C(3)) >> 1) == (-INT64_C(2)) ? 1 : -1];"
    ∷ []
    ∷ codes "int parts_solve(const int32_t state[1], int64_t sums[1])"
    ∷ codes "{"
    ∷ codes "    if (state[0] < INT64_C(0) || state[0] > INT64_C(1)) { return 1; }"
    ∷ codes "    int32_t x0 = (int32_t)((INT64_C(16777216) * (int64_t)state[0]));"
    ∷ codes "    int64_t A0 = (int64_t)((-INT64_C(2560)) + (INT64_C(256) * (int64_t)x0));"
    ∷ codes "    int64_t a0 = (int64_t)(INT64_C(0) + (INT64_C(14) * (int64_t)x0));"
    ∷ codes "    int64_t R0 = (int64_t)((-INT64_C(4294967296)));"
    ∷ codes "    int64_t r0 = (int64_t)(INT64_C(0));"
    ∷ codes "    int64_t R1 = (int64_t)((-INT64_C(4294967296)));"
    ∷ codes "    int64_t r1 = (int64_t)(INT64_C(0) + (INT64_C(3) * (int64_t)x0));"
    ∷ codes "    int64_t R2 = (int64_t)((-INT64_C(1073741824)) + (INT64_C(256) * (int64_t)x0));"
    ∷ codes "    int64_t r2 = (int64_t)(INT64_C(0));"
    ∷ codes "    int64_t l0 = (int64_t)(INT64_C(0));"
    ∷ codes "    int64_t l1 = (int64_t)(INT64_C(0));"
    ∷ codes "    int64_t l2 = (int64_t)(INT64_C(0));"
    ∷ codes "    int64_t s0 = (int64_t)(INT64_C(0));"
    ∷ codes "    int64_t m0 = (int64_t)(INT64_C(0));"
    ∷ codes "    int64_t m1 = (int64_t)(INT64_C(0));"
    ∷ codes "    int64_t m2 = (int64_t)(INT64_C(0));"
    ∷ codes "    int64_t v0 = (int64_t)(INT64_C(0));"
    ∷ codes "    int64_t v1 = (int64_t)(INT64_C(0));"
    ∷ codes "    int64_t v2 = (int64_t)(INT64_C(0));"
    ∷ codes "    int32_t k0 = (int32_t)(INT64_C(2));"
    ∷ codes "    int32_t e0 = (int32_t)(INT64_C(1));"
    ∷ codes "    int64_t p0 = (int64_t)(INT64_C(8589934592));"
    ∷ codes "    for (int32_t step = 0; step < 3; step++) {"
    ∷ codes "        int32_t b0 = (int32_t)((((int64_t)k0 - INT64_C(1)) * ((int64_t)k0 + INT64_C(2))));"
    ∷ codes "        int32_t c0 = (int32_t)(INT64_C(1) + ((((int64_t)b0 * INT64_C(1073741824)) - (int64_t)p0) >> 63));"
    ∷ codes "        e0 = (int32_t)((int64_t)e0 + (int64_t)c0);"
    ∷ codes "        p0 = (int64_t)((int64_t)p0 + ((int64_t)c0 * (int64_t)p0));"
    ∷ codes "        int32_t q0 = (int32_t)((((int64_t)p0 - INT64_C(1)) / (int64_t)b0));"
    ∷ codes "        int64_t n0 = (int64_t)((int64_t)v0 + ((int64_t)k0 * (int64_t)m0));"
    ∷ codes "        int32_t h0 = (int32_t)((((((int64_t)n0) >> 26)) >> (int64_t)e0));"
    ∷ codes "        l0 = (int64_t)((((((int64_t)h0 * (int64_t)q0)) >> 32) * INT64_C(67108864)));"
    ∷ codes "        n0 = (int64_t)((int64_t)n0 - ((int64_t)l0 * (int64_t)b0));"
    ∷ codes "        h0 = (int32_t)((((int64_t)n0) >> (int64_t)e0));"
    ∷ codes "        h0 = (int32_t)(((((int64_t)h0 * (int64_t)q0)) >> 32));"
    ∷ codes "        int32_t z0 = (int32_t)((int64_t)n0 - ((int64_t)h0 * (int64_t)b0) - (int64_t)b0);"
    ∷ codes "        h0 = (int32_t)((int64_t)h0 + INT64_C(1) + (((int64_t)z0) >> 31));"
    ∷ codes "        l0 = (int64_t)((int64_t)l0 + (int64_t)h0);"
    ∷ codes "        int64_t n1 = (int64_t)((int64_t)v1 + ((int64_t)k0 * (int64_t)m1));"
    ∷ codes "        int32_t h1 = (int32_t)((((((int64_t)n1) >> 26)) >> (int64_t)e0));"
    ∷ codes "        l1 = (int64_t)((((((int64_t)h1 * (int64_t)q0)) >> 32) * INT64_C(67108864)));"
    ∷ codes "        n1 = (int64_t)((int64_t)n1 - ((int64_t)l1 * (int64_t)b0));"
    ∷ codes "        h1 = (int32_t)((((int64_t)n1) >> (int64_t)e0));"
    ∷ codes "        h1 = (int32_t)(((((int64_t)h1 * (int64_t)q0)) >> 32));"
    ∷ codes "        int32_t z1 = (int32_t)((int64_t)n1 - ((int64_t)h1 * (int64_t)b0) - (int64_t)b0);"
    ∷ codes "        h1 = (int32_t)((int64_t)h1 + INT64_C(1) + (((int64_t)z1) >> 31));"
    ∷ codes "        l1 = (int64_t)((int64_t)l1 + (int64_t)h1);"
    ∷ codes "        int64_t n2 = (int64_t)((int64_t)v2 + ((int64_t)k0 * (int64_t)m2));"
    ∷ codes "        int32_t h2 = (int32_t)((((((int64_t)n2) >> 26)) >> (int64_t)e0));"
    ∷ codes "        l2 = (int64_t)((((((int64_t)h2 * (int64_t)q0)) >> 32) * INT64_C(67108864)));"
    ∷ codes "        n2 = (int64_t)((int64_t)n2 - ((int64_t)l2 * (int64_t)b0));"
    ∷ codes "        h2 = (int32_t)((((int64_t)n2) >> (int64_t)e0));"
    ∷ codes "        h2 = (int32_t)(((((int64_t)h2 * (int64_t)q0)) >> 32));"
    ∷ codes "        int32_t z2 = (int32_t)((int64_t)n2 - ((int64_t)h2 * (int64_t)b0) - (int64_t)b0);"
    ∷ codes "        h2 = (int32_t)((int64_t)h2 + INT64_C(1) + (((int64_t)z2) >> 31));"
    ∷ codes "        l2 = (int64_t)((int64_t)l2 + (int64_t)h2);"
    ∷ codes "        int64_t d1 = (int64_t)((int64_t)l1 - (int64_t)l2);"
    ∷ codes "        int32_t L0 = (int32_t)((((int64_t)l0) >> 16));"
    ∷ codes "        int32_t j0 = (int32_t)((int64_t)l0 - (INT64_C(65536) * (int64_t)L0));"
    ∷ codes "        int32_t L1 = (int32_t)((((int64_t)d1) >> 16));"
    ∷ codes "        int32_t j1 = (int32_t)((int64_t)d1 - (INT64_C(65536) * (int64_t)L1));"
    ∷ codes "        int64_t u0 = (int64_t)(INT64_C(0) - (((int64_t)A0 + (INT64_C(1048582) * (int64_t)L0) + ((-INT64_C(262145)) * (int64_t)L1) + (((int64_t)a0 + (INT64_C(1048582) * (int64_t)j0) + ((-INT64_C(262145)) * (int64_t)j1)) >> 16)) >> 9));"
    ∷ codes "        int32_t U0 = (int32_t)((((int64_t)u0) >> 16));"
    ∷ codes "        int32_t w0 = (int32_t)((int64_t)u0 - (INT64_C(65536) * (int64_t)U0));"
    ∷ codes "        s0 = (int64_t)((int64_t)s0 + ((int64_t)k0 * (int64_t)u0));"
    ∷ codes "        int64_t y0 = (int64_t)((((int64_t)R0 + (INT64_C(16777219) * (int64_t)U0) + (((int64_t)r0 + (INT64_C(16777219) * (int64_t)w0)) >> 16)) >> 8));"
    ∷ codes "        int64_t t0 = (int64_t)((int64_t)m0 + ((int64_t)k0 * (int64_t)y0));"
    ∷ codes "        if (t0 < 0) { t0 = 0; }"
    ∷ codes "        if (t0 > INT64_C(70368744177665)) { t0 = (int64_t)(INT64_C(70368744177665)); }"
    ∷ codes "        m0 = (int64_t)((int64_t)t0);"
    ∷ codes "        v0 = (int64_t)((int64_t)v0 + ((int64_t)k0 * (int64_t)m0));"
    ∷ codes "        int64_t G1 = (int64_t)(INT64_C(0) + ((-INT64_C(16777216)) * (int64_t)U0));"
    ∷ codes "        int64_t g1 = (int64_t)(INT64_C(0) + ((-INT64_C(16777216)) * (int64_t)w0));"
    ∷ codes "        int64_t y1 = (int64_t)((((int64_t)R1 + (int64_t)G1 + (((int64_t)r1 + (int64_t)g1) >> 16)) >> 8));"
    ∷ codes "        int64_t t1 = (int64_t)((int64_t)m1 + ((int64_t)k0 * (int64_t)y1));"
    ∷ codes "        if (t1 < 0) { t1 = 0; }"
    ∷ codes "        if (t1 > INT64_C(140737488355330)) { t1 = (int64_t)(INT64_C(140737488355330)); }"
    ∷ codes "        m1 = (int64_t)((int64_t)t1);"
    ∷ codes "        v1 = (int64_t)((int64_t)v1 + ((int64_t)k0 * (int64_t)m1));"
    ∷ codes "        int64_t y2 = (int64_t)((((int64_t)R2 - (int64_t)G1 + (((int64_t)r2 - (int64_t)g1) >> 16)) >> 8));"
    ∷ codes "        int64_t t2 = (int64_t)((int64_t)m2 + ((int64_t)k0 * (int64_t)y2));"
    ∷ codes "        if (t2 < 0) { t2 = 0; }"
    ∷ codes "        if (t2 > INT64_C(140737488355330)) { t2 = (int64_t)(INT64_C(140737488355330)); }"
    ∷ codes "        m2 = (int64_t)((int64_t)t2);"
    ∷ codes "        v2 = (int64_t)((int64_t)v2 + ((int64_t)k0 * (int64_t)m2));"
    ∷ codes "        k0 = (int32_t)((int64_t)k0 + INT64_C(1));"
    ∷ codes "    }"
    ∷ codes "    sums[0] = (int64_t)s0;"
    ∷ codes "    return 0;"
    ∷ codes "}"
    ∷ []
    ∷ codes "void parts_first_inputs(const int64_t sums[1], int64_t inputs[1])"
    ∷ codes "{"
    ∷ codes "    inputs[0] = ((int64_t)sums[0] / INT64_C(9)) + (((INT64_C(2) * ((int64_t)sums[0] % INT64_C(9))) + INT64_C(9)) >> 63) - ((INT64_C(8) - (INT64_C(2) * ((int64_t)sums[0] % INT64_C(9)))) >> 63);"
    ∷ codes "}"
    ∷ []

abbrev pub PartedWorkedLines : Type 0
PartedWorkedLines = program_lines (codes "parts") (parted_program Accelerated parted) ≡ parted_lines
