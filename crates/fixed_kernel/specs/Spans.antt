-- The words of a kernel's region: the state, the multipliers, the plan and the sums, one behind the other.
use Rattle.std.specs.Prelude.{◌+◌, ℤ, List, ◌++◌, length, take, drop, slice_range}
use Rattle.qp_model.specs.machine.Controller.{Numbers, plan_length}
use Rattle.qp_model.specs.machine.Machine.{Iterate}
use Rattle.word_region.specs.declared.Span.{Span}
use Rattle.fixed_kernel.specs.declared.spans.Spans.{Spans}

-- ---- where they stand
abbrev pub state_span : Numbers → Span
state_span c = record { start = 0; len = c.states }

abbrev pub multipliers_span : Numbers → Span
multipliers_span c = record { start = c.states; len = c.rows }

abbrev pub plan_span : Numbers → Span
plan_span c = record { start = c.states + c.rows; len = plan_length c }

abbrev pub sums_span : Numbers → Span
sums_span c = record { start = c.states + c.rows + plan_length c; len = plan_length c }

abbrev pub spans_of : Numbers → Spans
spans_of c = record { state = state_span c; multipliers = multipliers_span c; plan = plan_span c; sums = sums_span c }

-- ---- what they hold
-- what the machine has made, from its parts
abbrev pub made_of : (plan multipliers sums : List ℤ) → Iterate
made_of plan multipliers sums = record { plan = plan; multipliers = multipliers; sums = sums }

-- the words of a state over 2^fraction_bits and of what the machine has made from it
abbrev pub words_of : List ℤ → Iterate → List ℤ
words_of state made = state ++ (made.multipliers ++ (made.plan ++ made.sums))

-- the words of a span
abbrev pub words_in : Span → List ℤ → List ℤ
words_in span words = slice_range words span.start (span.start + span.len)

-- the state among a region's words
abbrev pub state_in : Numbers → List ℤ → List ℤ
state_in c words = take c.states words

-- and what the machine has made
abbrev pub made_in : Numbers → List ℤ → Iterate
made_in c words =
    let behind_state = drop c.states words in
    let behind_multipliers = drop c.rows behind_state in
    record { multipliers = take c.rows behind_state; plan = take (length c.offsets) behind_multipliers; sums = drop (length c.offsets) behind_multipliers }
