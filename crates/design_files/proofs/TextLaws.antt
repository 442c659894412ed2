-- A text is a design text or has a first fault, and not both; and it has one of either.
use Rattle.std.proofs.Common.{◌≡◌, ◌⊎◌, ℕ, ◌+◌, ◌≤◌, ◌<◌, ℤ, pos, ◌≤ℤ◌, List, ◌++◌, length, All, Bool, true, false, Option, Some, None, IsSome, refl, sym, ap, ◌∙◌, inl, inr, Result, Ok, Err, zero-le, arith}
use Rattle.std.specs.Prelude.{◌&&◌, if◌then◌else◌, IsSomeAnd, MatchOption, IfOk, IfErr, IsOkAnd}
use Rattle.std.proofs.lemmas.Int.{ints}
use Rattle.std.proofs.lemmas.Option.{same_Some, none-some}
use Rattle.integer_algebra.specs.Sums.{at}
use Rattle.mat_int.specs.Matrix.{Matrix, entry_of}
use Rattle.toml.specs.Data.{Data, Members, integer}
use Rattle.qp_model.specs.problem.Limits.{text_version, last_version, most_states, most_inputs, most_stages}
use Rattle.qp_model.specs.problem.Range.{LiesIn, IsDenominator, IsPositive}
use Rattle.qp_model.specs.problem.Parts.{IsDesign, IsTable, IsNumeratorList, design_numbers}
use Rattle.qp_model.specs.problem.Rules.{AllHold, IsFirstBroken}
use Rattle.qp_model.specs.declared.design_parts.DesignParts.{DesignParts}
use Rattle.number_text.specs.declared.text_fault.TextFault.{TextFault}
use Rattle.number_text.specs.declared.text_fault.TextFault.TheVariants.{NotToml, Memory}
use Rattle.qp_model.specs.declared.design.Design.{Design}
use Rattle.qp_model.proofs.RuleLaws.{all_hold, held_after, none_broken, one_fault}
use Rattle.design_files.specs.Document.{document_of}
use Rattle.design_files.specs.Numbers.{number_in, list_in, IsMatrix, IsLists}
use Rattle.design_files.specs.Values.{Values, values_of, in_order, keys_stand, further_keys}
use Rattle.design_files.specs.Places.{count_rules, denominator_rules, positive_rules, table_rules, cost_row_rules, input_rules, final_row_rules, low_rules, high_rules, size_places, plant_places}
use Rattle.design_files.specs.Places.{cost_places, limit_places, box_places, target_places, place_rules, key_rules}
use Rattle.design_files.specs.DesignText.{HasNumbers, IsDesignDocument, IsDesignText, IsDesignFault}
use Rattle.design_files.specs.AskedText.{is_three, plain_values, asked_rules, IsAskedDocument, IsAskedText, IsAskedFault}
use Rattle.design_files.specs.declared.places.Asked.{Asked}
use Rattle.design_files.specs.Sections.{HasSizeNumbers}
use Rattle.design_files.specs.declared.places.Sizes.{Sizes}
use Rattle.design_files.proofs.PlaceLaws.{count_is, place_rules_at, after_version, after_sizes, after_plant, after_cost, after_limits}

-- ---- each place
number_there : (value : Option Data) (z : ℤ) → number_in value ≡ Some z → IsSome value
number_there None z is = absurd (none-some z is)
number_there (Some value) z is = refl

list_there : (value : Option Data) (zs : List ℤ) → list_in value ≡ Some zs → IsSome value
list_there None zs is = absurd (none-some zs is)
list_there (Some value) zs is = refl

matrix_there : (value : Option Data) (m : Matrix) → IsMatrix value m → IsSome value
matrix_there None m is = absurd (none-some m.rows is.rows)
matrix_there (Some value) m is = refl

count_holds : (place low high : ℕ) (value : Option Data) (n : ℕ) → number_in value ≡ Some (pos n) → LiesIn low high n → AllHold (count_rules place low high value)
count_holds place low high value n is fits = rw is (refl, ((omega (arith, ints), omega (arith, ints)), tt))

denominator_holds : (place : ℕ) (value : Option Data) (z : ℤ) → number_in value ≡ Some z → IsDenominator z → AllHold (denominator_rules place value)
denominator_holds place value z is fits = rw is (refl, (fits, tt))

positive_holds : (place : ℕ) (value : Option Data) (z : ℤ) → number_in value ≡ Some z → IsPositive z → AllHold (positive_rules place value)
positive_holds place value z is fits = rw is (refl, (fits, tt))

sized : (value : Option Data) (low high width : ℕ) (m : Matrix) → IsMatrix value m → IsTable m low high width → IsLists low high width value
sized value low high width m is table = rw is.rows (table.rows, rw table.cols at is.even)

table_holds : (place low high width : ℕ) (value : Option Data) (m : Matrix) → IsMatrix value m → IsTable m low high width → AllHold (table_rules place low high width value)
table_holds place low high width value m is table = (sized value low high width m is table, (rw is.rows table.numbers, tt))

costs_hold : (place n : ℕ) (value : Option Data) (m : Matrix) → IsMatrix value m → IsTable m 0 12 (n + 2) → ((r : ℕ) → r < length m.rows → pos 0 ≤ℤ entry_of m r (n + 1)) → AllHold (cost_row_rules place n value)
costs_hold place n value m is table weights = (sized value 0 12 (n + 2) m is table, (rw is.rows (record { numbers = table.numbers; weights = weights }), tt))

finals_hold : (n : ℕ) (others value : Option Data) (more m : Matrix) → IsMatrix others more → IsMatrix value m → IsTable m 0 12 (n + 1) → 1 ≤ length more.rows + length m.rows → AllHold (final_row_rules n others value)
finals_hold n others value more m there is table some = (sized value 0 12 (n + 1) m is table, (rw (is.rows, there.rows) (record { numbers = table.numbers; some_row = some }), tt))

inputs_hold : (p : ℕ) (value : Option Data) (zs : List ℤ) → list_in value ≡ Some zs → length zs ≡ p → All IsPositive zs → AllHold (input_rules p value)
inputs_hold p value zs is long fits = rw is (long, (fits, tt))

low_holds : (n : ℕ) (value : Option Data) (zs : List ℤ) → list_in value ≡ Some zs → IsNumeratorList zs n → AllHold (low_rules n value)
low_holds n value zs is line = rw is (line.long, (line.numbers, tt))

high_holds : (n : ℕ) (below value : Option Data) (low zs : List ℤ) → list_in below ≡ Some low → list_in value ≡ Some zs → IsNumeratorList zs n → ((i : ℕ) → i < n → at low i ≤ℤ at zs i) → AllHold (high_rules n below value)
high_holds n below value low zs there is line box = rw (is, there) (line.long, (record { numbers = line.numbers; box = box }, tt))

-- ---- all of them
version_there : (any : Bool) (value : Option Data) (z : ℤ) → number_in (if any && is_three (number_in value) then Some (integer (pos 2)) else value) ≡ Some z → IsSome value
version_there true None z is = absurd (none-some z is)
version_there false None z is = absurd (none-some z is)
version_there any (Some value) z is = refl

keys_hold : (any : Bool) (document : Members) (p : DesignParts) → HasNumbers (plain_values any (values_of document)) p → AllHold (further_keys document) → AllHold (key_rules document)
unfolding key_rules
keys_hold any document p h further =
    let v = values_of document in (
      version_there any v.version (pos p.version) h.version,
      (
        number_there v.states (pos p.states) h.states,
        (
          number_there v.inputs (pos p.inputs) h.inputs,
          (
            number_there v.stages (pos p.stages) h.stages,
            (
              number_there v.plant_den p.plant_den h.plant_den,
              (
                matrix_there v.a p.a h.a,
                (
                  matrix_there v.b p.b h.b,
                  (
                    number_there v.cost_den p.cost_den h.cost_den,
                    (
                      number_there v.row_den p.row_den h.row_den,
                      (
                        list_there v.input p.input_weights.items h.input,
                        (
                          matrix_there v.stage_cost p.stage_cost h.stage_cost,
                          (
                            matrix_there v.final_cost p.final_cost h.final_cost,
                            (
                              number_there v.limit_den p.limit_den h.limit_den,
                              (
                                matrix_there v.stage_rows p.stage_rows h.stage_rows,
                                (
                                  matrix_there v.final_rows p.final_rows h.final_rows,
                                  (
                                    number_there v.grid (pos p.grid) h.grid,
                                    (
                                      list_there v.lo p.lo.items h.lo,
                                      (
                                        list_there v.hi p.hi.items h.hi,
                                        (
                                          number_there v.target_den p.target_den h.target_den,
                                          (number_there v.violation p.violation h.violation, (number_there v.gap p.gap h.gap, further)),
                                        ),
                                      ),
                                    ),
                                  ),
                                ),
                              ),
                            ),
                          ),
                        ),
                      ),
                    ),
                  ),
                ),
              ),
            ),
          ),
        ),
      ),
    )

sizes_hold : (v : Values) (p : DesignParts) → HasNumbers v p → IsDesign p → AllHold (size_places v)
sizes_hold v p h d =
    let version = p.version in
    let states = count_rules 2 1 (most_states version) v.states in
    let inputs = count_rules 3 1 (most_inputs version) v.inputs in
    let stages = count_rules 4 1 (most_stages version) v.stages in
    rw (count_is v.version version h.version) (all_hold (count_rules 1 text_version last_version v.version) (after_version version v) (count_holds 1 text_version last_version v.version version h.version d.version)
    (all_hold states (inputs ++ stages) (count_holds 2 1 (most_states version) v.states p.states h.states d.states)
    (all_hold inputs stages (count_holds 3 1 (most_inputs version) v.inputs p.inputs h.inputs d.inputs)
    (count_holds 4 1 (most_stages version) v.stages p.stages h.stages d.stages))))

plant_hold : (v : Values) (p : DesignParts) → HasNumbers v p → IsDesign p → AllHold (plant_places p.states p.inputs v)
plant_hold v p h d =
    let n = p.states in
    let m = p.inputs in
    all_hold (denominator_rules 5 v.plant_den) (table_rules 6 n n n v.a ++ (table_rules 7 n n m v.b)) (denominator_holds 5 v.plant_den p.plant_den h.plant_den d.plant_den)
    (all_hold (table_rules 6 n n n v.a) (table_rules 7 n n m v.b) (table_holds 6 n n n v.a p.a h.a d.a) (table_holds 7 n n m v.b p.b h.b d.b))

cost_hold : (v : Values) (p : DesignParts) → HasNumbers v p → IsDesign p → AllHold (cost_places p.states p.inputs v)
cost_hold v p h d =
    let n = p.states in
    let m = p.inputs in
    all_hold (denominator_rules 8 v.cost_den) (denominator_rules 9 v.row_den ++ (input_rules m v.input ++ (cost_row_rules 11 n v.stage_cost ++ (cost_row_rules 12 n v.final_cost))))
    (denominator_holds 8 v.cost_den p.cost_den h.cost_den d.cost_den)
    (all_hold (denominator_rules 9 v.row_den) (input_rules m v.input ++ (cost_row_rules 11 n v.stage_cost ++ (cost_row_rules 12 n v.final_cost)))
    (denominator_holds 9 v.row_den p.row_den h.row_den d.row_den)
    (all_hold (input_rules m v.input) (cost_row_rules 11 n v.stage_cost ++ (cost_row_rules 12 n v.final_cost)) (inputs_hold m v.input p.input_weights.items h.input d.input_count d.input_weights)
    (all_hold (cost_row_rules 11 n v.stage_cost) (cost_row_rules 12 n v.final_cost) (costs_hold 11 n v.stage_cost p.stage_cost h.stage_cost d.stage_cost d.stage_weights)
    (costs_hold 12 n v.final_cost p.final_cost h.final_cost d.final_cost d.final_weights))))

limits_hold : (v : Values) (p : DesignParts) → HasNumbers v p → IsDesign p → AllHold (limit_places p.states p.inputs v)
limits_hold v p h d =
    let n = p.states in
    let m = p.inputs in
    all_hold (denominator_rules 13 v.limit_den) (table_rules 14 0 12 (n + m + 1) v.stage_rows ++ (final_row_rules n v.stage_rows v.final_rows))
    (denominator_holds 13 v.limit_den p.limit_den h.limit_den d.limit_den)
    (all_hold (table_rules 14 0 12 (n + m + 1) v.stage_rows) (final_row_rules n v.stage_rows v.final_rows) (table_holds 14 0 12 (n + m + 1) v.stage_rows p.stage_rows h.stage_rows d.stage_rows)
    (finals_hold n v.stage_rows v.final_rows p.stage_rows p.final_rows h.stage_rows h.final_rows d.final_rows d.some_row))

box_hold : (v : Values) (p : DesignParts) → HasNumbers v p → IsDesign p → AllHold (box_places p.states v)
box_hold v p h d =
    let n = p.states in
    all_hold (count_rules 16 0 24 v.grid) (low_rules n v.lo ++ (high_rules n v.lo v.hi)) (count_holds 16 0 24 v.grid p.grid h.grid (zero-le, d.grid))
    (all_hold (low_rules n v.lo) (high_rules n v.lo v.hi) (low_holds n v.lo p.lo.items h.lo d.lo) (high_holds n v.lo v.hi p.lo.items p.hi.items h.lo h.hi d.hi d.box))

targets_hold : (v : Values) (p : DesignParts) → HasNumbers v p → IsDesign p → AllHold (target_places v)
targets_hold v p h d =
    all_hold (denominator_rules 19 v.target_den) (positive_rules 20 v.violation ++ (positive_rules 21 v.gap)) (denominator_holds 19 v.target_den p.target_den h.target_den d.target_den)
    (all_hold (positive_rules 20 v.violation) (positive_rules 21 v.gap) (positive_holds 20 v.violation p.violation h.violation d.violation) (positive_holds 21 v.gap p.gap h.gap d.gap))

places_hold : (v : Values) (p : DesignParts) → HasNumbers v p → IsDesign p → AllHold (place_rules v)
places_hold v p h d =
    let n = p.states in
    let m = p.inputs in
    let sizes : Sizes = record { version = p.version; states = n; inputs = m; stages = p.stages } in
    let known : HasSizeNumbers v sizes = record {
      version = record { number = h.version; fits = d.version };
      states = record { number = h.states; fits = d.states };
      inputs = record { number = h.inputs; fits = d.inputs };
      stages = record { number = h.stages; fits = d.stages };
    } in
    rw (place_rules_at v sizes known) (all_hold (size_places v) (after_sizes n m v) (sizes_hold v p h d)
    (all_hold (plant_places n m v) (after_plant n m v) (plant_hold v p h d)
    (all_hold (cost_places n m v) (after_cost n m v) (cost_hold v p h d)
    (all_hold (limit_places n m v) (after_limits n m v) (limits_hold v p h d)
    (all_hold (box_places n v) (target_places v) (box_hold v p h d) (targets_hold v p h d))))))

document_holds : (any : Bool) (asked : Asked) (document : Members) → IsAskedDocument any asked document → AllHold (asked_rules any document)
document_holds any asked document is =
    let v = plain_values any (values_of document) in
    all_hold (key_rules document) (place_rules v) (keys_hold any document asked.design is.numbers is.keys) (places_hold v asked.design is.numbers is.design)

-- ---- of bytes
-- a design text has no first fault
pub no_fault : (any : Bool) (bytes : List ℕ) (asked : Asked) (fault : TextFault) → IsAskedText any bytes asked → IsAskedFault any bytes fault → ⊥
no_fault any bytes asked fault is first = apart (document_of bytes) is first
  where
    apart : (document : Option Members) → IsSomeAnd document (IsAskedDocument any asked) → MatchOption document (fault ≡ NotToml) (λ document. IsFirstBroken (asked_rules any document) fault) → ⊥
    apart None is first = is
    apart (Some document) is first = none_broken (asked_rules any document) fault (document_holds any asked document is) first

-- there is one first fault
pub same_fault : (any : Bool) (bytes : List ℕ) (a b : TextFault) → IsAskedFault any bytes a → IsAskedFault any bytes b → a ≡ b
same_fault any bytes a b first second = same (document_of bytes) first second
  where
    same : (document : Option Members) → MatchOption document (a ≡ NotToml) (λ document. IsFirstBroken (asked_rules any document) a) →
        MatchOption document (b ≡ NotToml) (λ document. IsFirstBroken (asked_rules any document) b) → a ≡ b
    same None first second = first ∙ sym second
    same (Some document) first second = one_fault (asked_rules any document) a b first second

same_matrix : (value : Option Data) (m k : Matrix) (width : ℕ) → IsMatrix value m → IsMatrix value k → m.cols ≡ width → k.cols ≡ width → m ≡ k
same_matrix value m k width is also wide long =
    let rows : m.rows ≡ k.rows = same_Some m.rows k.rows (sym is.rows ∙ also.rows) in
    let cols : m.cols ≡ k.cols = wide ∙ sym long in
    ap (λ (c : ℕ). record { cols = c; rows = m.rows }) cols ∙ ap (λ (r : List (List ℤ)). record { cols = k.cols; rows = r }) rows

-- the numbers of one document are one design's
same_numbers : (v : Values) (p q : DesignParts) → HasNumbers v p → HasNumbers v q → IsDesign p → IsDesign q → design_numbers p ≡ design_numbers q
same_numbers v p q h g d e =
    let version : p.version ≡ q.version = cc (h.version, g.version) in
    let states : p.states ≡ q.states = cc (h.states, g.states) in
    let inputs : p.inputs ≡ q.inputs = cc (h.inputs, g.inputs) in
    let stages : p.stages ≡ q.stages = cc (h.stages, g.stages) in
    let plant_den : p.plant_den ≡ q.plant_den = cc (h.plant_den, g.plant_den) in
    let cost_den : p.cost_den ≡ q.cost_den = cc (h.cost_den, g.cost_den) in
    let row_den : p.row_den ≡ q.row_den = cc (h.row_den, g.row_den) in
    let limit_den : p.limit_den ≡ q.limit_den = cc (h.limit_den, g.limit_den) in
    let grid : p.grid ≡ q.grid = cc (h.grid, g.grid) in
    let target_den : p.target_den ≡ q.target_den = cc (h.target_den, g.target_den) in
    let violation : p.violation ≡ q.violation = cc (h.violation, g.violation) in
    let gap : p.gap ≡ q.gap = cc (h.gap, g.gap) in
    let input : p.input_weights.items ≡ q.input_weights.items = cc (h.input, g.input) in
    let lo : p.lo.items ≡ q.lo.items = cc (h.lo, g.lo) in
    let hi : p.hi.items ≡ q.hi.items = cc (h.hi, g.hi) in
    let a : p.a ≡ q.a = same_matrix v.a p.a q.a p.states h.a g.a d.a.cols (e.a.cols ∙ sym (states)) in
    let b : p.b ≡ q.b = same_matrix v.b p.b q.b p.inputs h.b g.b d.b.cols (e.b.cols ∙ sym (inputs)) in
    let stage_cost : p.stage_cost ≡ q.stage_cost = same_matrix v.stage_cost p.stage_cost q.stage_cost (p.states + 2) h.stage_cost g.stage_cost d.stage_cost.cols (e.stage_cost.cols ∙ sym (ap (λ n. n + 2) states)) in
    let final_cost : p.final_cost ≡ q.final_cost = same_matrix v.final_cost p.final_cost q.final_cost (p.states + 2) h.final_cost g.final_cost d.final_cost.cols (e.final_cost.cols ∙ sym (ap (λ n. n + 2) states)) in
    let wide : p.states + p.inputs + 1 ≡ q.states + q.inputs + 1 = rw (states, inputs) refl in
    let stage_rows : p.stage_rows ≡ q.stage_rows = same_matrix v.stage_rows p.stage_rows q.stage_rows (p.states + p.inputs + 1) h.stage_rows g.stage_rows d.stage_rows.cols (e.stage_rows.cols ∙ sym (wide)) in
    let final_rows : p.final_rows ≡ q.final_rows = same_matrix v.final_rows p.final_rows q.final_rows (p.states + 1) h.final_rows g.final_rows d.final_rows.cols (e.final_rows.cols ∙ sym (ap (λ n. n + 1) states)) in
    rw (version, states, inputs, stages, plant_den, a, b, cost_den, row_den, input, stage_cost, final_cost, limit_den, stage_rows, final_rows, grid, lo, hi, target_den, violation, gap) refl

abbrev pub AreSame : Asked → Asked → Type 0
AreSame a b = (design_numbers a.design ≡ design_numbers b.design) × (a.fast ≡ b.fast)

pub same_asked : (any : Bool) (bytes : List ℕ) (a b : Asked) → IsAskedText any bytes a → IsAskedText any bytes b → AreSame a b
same_asked any bytes a b first second = same (document_of bytes) first second
  where
    same : (document : Option Members) → IsSomeAnd document (IsAskedDocument any a) → IsSomeAnd document (IsAskedDocument any b) → AreSame a b
    same None first second = absurd first
    same (Some document) first second =
        (same_numbers (plain_values any (values_of document)) a.design b.design first.numbers second.numbers first.design second.design, first.fast ∙ sym second.fast)

-- no further key stands in a document whose keys are right
pub no_further : (document : Members) → AllHold (key_rules document) → AllHold (further_keys document)
unfolding key_rules
no_further document held = held_after (keys_stand 1 (in_order document)) (further_keys document) held

-- ---- both ways
pub every_text : (any : Bool) (bytes : List ℕ) (answer : Result Asked TextFault) → IfOk answer (λ asked. IsAskedText any bytes asked) → IfErr answer (λ fault. (fault ≡ Memory) ⊎ IsAskedFault any bytes fault)
    → (k : Asked) → IsAskedText any bytes k → (answer ≡ Err Memory) ⊎ IsOkAnd answer (λ asked. AreSame asked k)
every_text any bytes (Ok asked) read failed k is = inr (same_asked any bytes asked k read is)
every_text any bytes (Err fault) read failed k is = elim failed [ inl none ↦ inl (ap Err none) | inr first ↦ absurd (no_fault any bytes k fault is first) ]

pub every_fault : (any : Bool) (bytes : List ℕ) (answer : Result Asked TextFault) → IfOk answer (λ asked. IsAskedText any bytes asked) → IfErr answer (λ fault. (fault ≡ Memory) ⊎ IsAskedFault any bytes fault)
    → (fault : TextFault) → IsAskedFault any bytes fault → (answer ≡ Err Memory) ⊎ (answer ≡ Err fault)
every_fault any bytes (Ok asked) read failed fault first = absurd (no_fault any bytes asked fault read first)
every_fault any bytes (Err other) read failed fault first = elim failed [ inl none ↦ inl (ap Err none) | inr also ↦ inr (ap Err (same_fault any bytes other fault also first)) ]

-- ---- of version 1 or 2 alone
pub design_text : (bytes : List ℕ) (asked : Asked) → IsAskedText false bytes asked → IsDesignText bytes asked.design
design_text bytes asked is = of (document_of bytes) is
  where
    of : (document : Option Members) → IsSomeAnd document (IsAskedDocument false asked) → IsSomeAnd document (IsDesignDocument asked.design)
    of None is = is
    of (Some document) is = record { numbers = is.numbers; keys = is.keys; design = is.design }

abbrev plain : DesignParts → Asked
plain p = record { design = p; fast = false }

text_asked : (bytes : List ℕ) (p : DesignParts) → IsDesignText bytes p → IsAskedText false bytes (plain p)
text_asked bytes p is = of (document_of bytes) is
  where
    of : (document : Option Members) → IsSomeAnd document (IsDesignDocument p) → IsSomeAnd document (IsAskedDocument false (plain p))
    of None is = is
    of (Some document) is = record { fast = refl; numbers = is.numbers; keys = is.keys; design = is.design }

pub every_design_text : (bytes : List ℕ) (answer : Result Design TextFault) → IfOk answer (λ design. IsDesignText bytes design) → IfErr answer (λ fault. (fault ≡ Memory) ⊎ IsDesignFault bytes fault)
    → (p : DesignParts) → IsDesignText bytes p → (answer ≡ Err Memory) ⊎ IsOkAnd answer (λ design. design_numbers design ≡ design_numbers p)
every_design_text bytes (Ok design) read failed p is = inr (same_asked false bytes (plain design) (plain p) (text_asked bytes design read) (text_asked bytes p is)).0
every_design_text bytes (Err fault) read failed p is = elim failed [ inl none ↦ inl (ap Err none) | inr first ↦ absurd (no_fault false bytes (plain p) fault (text_asked bytes p is) first) ]

pub every_design_fault : (bytes : List ℕ) (answer : Result Design TextFault) → IfOk answer (λ design. IsDesignText bytes design) → IfErr answer (λ fault. (fault ≡ Memory) ⊎ IsDesignFault bytes fault)
    → (fault : TextFault) → IsDesignFault bytes fault → (answer ≡ Err Memory) ⊎ (answer ≡ Err fault)
every_design_fault bytes (Ok design) read failed fault first = absurd (no_fault false bytes (plain design) fault (text_asked bytes design read) first)
every_design_fault bytes (Err other) read failed fault first = elim failed [ inl none ↦ inl (ap Err none) | inr also ↦ inr (ap Err (same_fault false bytes other fault also first)) ]
