-- Which line can follow the first lines of a text in form: the head, and the bounds of the states.
use Rattle.std.proofs.Common.{◌≡◌, ◌≢◌, ℕ, ◌+◌, ◌^◌, ◌<◌, ◌≤◌, Bool, ℤ, pos, negsuc, ◌≤ℤ◌, List, [], ◌∷◌, ◌++◌, length, get_or, take, drop, map, replicate, refl, sym, ap, subst, ◌∙◌, append_assoc, arith}
use Rattle.std.specs.Prelude.{All, codes, ◌==◌, if◌then◌else◌}
use Rattle.std.specs.List.{AllByRecursion}
use Rattle.std.proofs.lemmas.Bool.{ne_eqb}
use Rattle.std.proofs.lemmas.Bool.Decides.{nat_tests}
use Rattle.std.proofs.lemmas.Int.{ints}
use Rattle.std.proofs.lemmas.List.{length-map, length-append, length-replicate, length-take-le, take-append-drop}
use Rattle.std.proofs.lemmas.List.Elements.{All-from_recursion, recursion_from_All}
use Rattle.integer_algebra.specs.Sums.{at}
use Rattle.qp_model.specs.problem.Limits.{most_states, most_stages, most_rows}
use Rattle.qp_model.specs.problem.Range.{LiesIn, IsNumerator}
use Rattle.qp_model.specs.machine.Controller.{Numbers, plan_length, HasShape, FitsWord}
use Rattle.controller_text.specs.TextForm.{most_steps, exponent_rows, IsTextForm}
use Rattle.controller_text.specs.declared.layout.Sizes.{Sizes}
use Rattle.text_lines.specs.Lines.{Keyed, keyed_line, place, place_of}
use Rattle.text_lines.specs.Blocks.{row_lines, chained}
use Rattle.controller_text.specs.Lines.{keyed_exponents, keyed_lines}
use Rattle.text_lines.specs.Grammar.{IsBeginning}
use Rattle.controller_file.specs.Following.{IsFrom, AreSizes, AreBits, AreUpper, IsAnyWhole}
use Rattle.text_lines.proofs.Blocks.{key_is, count_is}
use Rattle.controller_text.proofs.Forms.{either_le}
use Rattle.controller_text.proofs.Blocks.{block_lengths}
use Rattle.controller_file.proofs.Again.{same_first}
use Rattle.controller_file.proofs.Beginnings.{grown, front_is, parted}
use Rattle.controller_file.proofs.Blank.{same_le, blank, blank_form, blank_fits, all_same, plain_first}

-- ---- one line

pub one_of : (zs : List ℤ) → length zs ≡ 1 → zs ≡ at zs 0 ∷ []
one_of [] len = absurd (omega arith)
one_of (a ∷ []) len = refl
one_of (a ∷ b ∷ zs) len = absurd (omega arith)

four_of : (zs : List ℤ) → length zs ≡ 4 → zs ≡ at zs 0 ∷ at zs 1 ∷ at zs 2 ∷ at zs 3 ∷ []
four_of [] len = absurd (omega arith)
four_of (a ∷ []) len = absurd (omega arith)
four_of (a ∷ b ∷ []) len = absurd (omega arith)
four_of (a ∷ b ∷ c ∷ []) len = absurd (omega arith)
four_of (a ∷ b ∷ c ∷ d ∷ []) len = refl
four_of (a ∷ b ∷ c ∷ d ∷ e ∷ zs) len = absurd (omega arith)

-- the natural number in a range
natural_from : (low high : ℕ) (z : ℤ) → IsFrom (pos low) (pos high) z → (n : ℕ) × (z ≡ pos n) × LiesIn low high n
natural_from low high (pos n) h = (n, refl, (omega (arith, ints, h.least), omega (arith, ints, h.greatest)))
natural_from low high (negsuc n) h = absurd (omega (arith, ints, h.least))

pub from_natural : (low high n : ℕ) → LiesIn low high n → IsFrom (pos low) (pos high) (pos n)
from_natural low high n h = record { least = omega (arith, ints, h.0); greatest = omega (arith, ints, h.1) }

-- a line of one number
one_is : (l : Keyed) (key : List ℕ) (z : ℤ) → place_of l ≡ place key 1 → at l.numbers 0 ≡ z → l ≡ keyed_line key (z ∷ [])
one_is l key z e h = key_is l key 1 e ∙ ap (keyed_line key) (one_of l.numbers (count_is l key 1 e) ∙ ap (λ (y : ℤ). y ∷ []) h)

-- a line of four
four_is : (l : Keyed) (key : List ℕ) (a b c d : ℤ) → place_of l ≡ place key 4 → at l.numbers 0 ≡ a → at l.numbers 1 ≡ b → at l.numbers 2 ≡ c → at l.numbers 3 ≡ d → l ≡ keyed_line key (a ∷ b ∷ c ∷ d ∷ [])
four_is l key a b c d e ha hb hc hd = key_is l key 4 e ∙ ap (keyed_line key) (four_of l.numbers (count_is l key 4 e) ∙ (λ i. ha i ∷ hb i ∷ hc i ∷ hd i ∷ []))

-- ---- the lines of a text

-- the lines after the box
abbrev pub tail_lines : Numbers → List Keyed
tail_lines c = chained (row_lines (codes "P") c.state_gains.rows ∷ (keyed_line (codes "T") c.offsets ∷ []) ∷ row_lines (codes "W") c.dual_gains.rows ∷ row_lines (codes "G") c.plan_rows.rows ∷
    row_lines (codes "E") c.state_rows.rows ∷ (keyed_line (codes "b") c.bounds ∷ []) ∷ (keyed_line (codes "end") [] ∷ []) ∷ [])

-- those before the bounds of the states: 6, and the exponents
abbrev pub first_lines : Numbers → List Keyed
first_lines c =
    keyed_line (codes "mpc-controller") (pos c.version ∷ [])
    ∷ keyed_line (codes "size") (pos c.states ∷ pos c.inputs ∷ pos c.stages ∷ pos c.rows ∷ [])
    ∷ keyed_line (codes "bits") (pos c.fraction_bits ∷ pos c.grid_bits ∷ pos c.step_exponent ∷ pos c.width ∷ [])
    ∷ keyed_line (codes "steps") (pos c.steps ∷ [])
    ∷ keyed_line (codes "clamp") (c.clamp ∷ [])
    ∷ keyed_line (codes "words") (pos c.words ∷ []) ∷ keyed_exponents c

-- the others
abbrev pub list_lines : Numbers → List Keyed
list_lines c = keyed_line (codes "lo") c.low ∷ keyed_line (codes "hi") c.high ∷ tail_lines c

pub first_count : (c : Numbers) → IsTextForm c → length (first_lines c) ≡ 6 + exponent_rows c.version
first_count c form = omega (arith, ap (λ (ns : List ℕ). get_or ns 6 0) (block_lengths c form))

-- with so many of the others
abbrev pub up_to : ℕ → Numbers → List Keyed
up_to k c = first_lines c ++ take k (list_lines c)

pub split_at : (k : ℕ) (c : Numbers) → keyed_lines c ≡ up_to k c ++ drop k (list_lines c)
split_at k c = ap (λ (ls : List Keyed). first_lines c ++ ls) (sym (take-append-drop k (list_lines c))) ∙ sym (append_assoc (first_lines c) (take k (list_lines c)) (drop k (list_lines c)))

pub count_to : (k : ℕ) (c : Numbers) → IsTextForm c → k ≤ 2 → length (up_to k c) ≡ k + (6 + exponent_rows c.version)
count_to k c form few = omega (arith, length-append (first_lines c) (take k (list_lines c)), length-take-le k (list_lines c) (omega (arith, few)), first_count c form)

-- ---- other numbers under the same version and sizes

-- what a text in form has in its head
abbrev pub HasHead : Numbers → Type 0
HasHead c =
    (c.grid_bits ≤ 24) × LiesIn c.grid_bits 48 c.fraction_bits × (c.step_exponent ≤ 40) × LiesIn 2 128 c.width × LiesIn 1 (most_steps c.version) c.steps × (pos 0 ≤ℤ c.clamp) × (c.clamp ≤ℤ pos (2 ^ 126))

-- in its exponents, in the bounds of its states, and in the lists after them
abbrev pub HasExponents : Numbers → Type 0
HasExponents c = (length c.exponents ≡ c.rows) × All (λ e. e ≤ c.step_exponent) c.exponents × (c.version ≡ 1 → c.exponents ≡ replicate c.rows c.step_exponent)

abbrev pub HasBox : Numbers → Type 0
HasBox c = (length c.low ≡ c.states) × (length c.high ≡ c.states) × All IsNumerator c.low × All IsNumerator c.high × ((i : ℕ) → i < c.states → at c.low i ≤ℤ at c.high i)

abbrev pub HasLists : Numbers → Type 0
HasLists c =
    HasShape c.state_gains (plan_length c) c.states × (length c.offsets ≡ plan_length c) × HasShape c.dual_gains (plan_length c) c.rows
    × HasShape c.plan_rows c.rows (plan_length c) × HasShape c.state_rows c.rows c.states × (length c.bounds ≡ c.rows)

pub own_head : (c : Numbers) → IsTextForm c → HasHead c
own_head c form = let h = form.sized in (h.grid_bits, h.fraction_bits, h.step_exponent, form.width, form.steps, h.clamp_low, h.clamp_high)

pub own_exponents : (c : Numbers) → IsTextForm c → HasExponents c
own_exponents c form = (form.sized.shaped.exponents, form.sized.exponents, same_first c form)

pub own_box : (c : Numbers) → IsTextForm c → HasBox c
own_box c form = let h = form.sized in (h.shaped.low, h.shaped.high, h.low, h.high, h.box)

-- these numbers with the version and sizes of others
abbrev pub resized : Numbers → Numbers → Numbers
resized c d = record d { version = c.version; states = c.states; inputs = c.inputs; stages = c.stages; rows = c.rows; words = c.words }

pub resized_form : (c d : Numbers) → IsTextForm c → HasHead (resized c d) → HasExponents (resized c d) → HasBox (resized c d) → HasLists (resized c d) → IsTextForm (resized c d)
resized_form c d form head exps box lists = record {
  version = form.version;
  steps = head.4;
  words = form.words;
  sized = record {
    version = form.sized.version;
    states = form.sized.states;
    inputs = form.sized.inputs;
    stages = form.sized.stages;
    rows = form.sized.rows;
    grid_bits = head.0;
    fraction_bits = head.1;
    step_exponent = head.2;
    exponents = exps.1;
    same_exponents = λ first. exps.2 (plain_first c.version first);
    steps = (head.4.0, omega (arith, head.4.1, either_le (c.version == 3) 65534 4194304 4194304 (omega arith) (omega arith)));
    clamp_low = head.5;
    clamp_high = head.6;
    words = refl;
    shaped = record { exponents = exps.0; low = box.0; high = box.1; state_gains = lists.0; offsets = lists.1; dual_gains = lists.2; plan_rows = lists.3; state_rows = lists.4; bounds = lists.5 };
    low = box.2;
    high = box.3;
    box = box.4;
  };
  width = head.3;
}

-- with their lists too
abbrev relisted : Numbers → Numbers → Numbers
relisted c d = record (resized c d) { state_gains = c.state_gains; offsets = c.offsets; dual_gains = c.dual_gains; plan_rows = c.plan_rows; state_rows = c.state_rows; bounds = c.bounds }

-- one line more, where only the head, the exponents and the bounds of the states are others
changed : (ls : List Keyed) (l : Keyed) (b : IsBeginning IsAnyWhole ls) (d : Numbers) (rest : List Keyed) → HasHead (relisted b.whole.numbers d) → HasExponents (relisted b.whole.numbers d) → HasBox (relisted b.whole.numbers d)
    → keyed_lines (relisted b.whole.numbers d) ≡ ls ++ (l ∷ rest) → IsBeginning IsAnyWhole (ls ++ l ∷ [])
changed ls l b d rest head exps box e =
    let c = relisted b.whole.numbers d in
    let h = b.whole.form.sized.shaped in
    let lists : HasLists c = (h.state_gains, h.offsets, h.dual_gains, h.plan_rows, h.state_rows, h.bounds) in
    let w = b.whole.word in
    let word : FitsWord c = record { state_gains = w.state_gains; offsets = w.offsets; dual_gains = w.dual_gains; plan_rows = w.plan_rows; state_rows = w.state_rows; bounds = w.bounds } in
    grown ls l c rest (resized_form b.whole.numbers c b.whole.form head exps box lists) word e

-- ---- the head

pub version_follows : (ls : List Keyed) (l : Keyed) → IsBeginning IsAnyWhole ls → length ls ≡ 0 → place_of l ≡ place (codes "mpc-controller") 1 → IsFrom (pos 1) (pos 3) (at l.numbers 0) → IsBeginning IsAnyWhole (ls ++ l ∷ [])
version_follows ls l b len p h =
    let v = natural_from 1 3 (at l.numbers 0) h in
    let states : LiesIn 1 (most_states v.0) 1 = (omega arith, grind (arith, nat_tests)) in
    let stages : LiesIn 1 (most_stages v.0) 1 = (omega arith, grind (arith, nat_tests)) in
    let form = blank_form v.0 1 1 1 1 v.2 states (omega arith, omega arith) stages (omega arith, omega arith) in
    let d = blank v.0 1 1 1 1 in
    let front = front_is ls b 0 len in
    let last = sym (one_is l (codes "mpc-controller") (pos v.0) p v.1) in
    grown ls l d (drop 1 (keyed_lines d)) form (blank_fits v.0 1 1 1 1) (λ i. front i ++ (last i ∷ drop 1 (keyed_lines d)))

pub size_follows : (ls : List Keyed) (l : Keyed) (z : Sizes) → (b : IsBeginning IsAnyWhole ls) → b.whole.numbers.version ≡ z.version → length ls ≡ 1 → place_of l ≡ place (codes "size") 4 →
    AreSizes z.version (at l.numbers 0) (at l.numbers 1) (at l.numbers 2) (at l.numbers 3) → IsBeginning IsAnyWhole (ls ++ l ∷ [])
size_follows ls l z b same len p h =
    let v = b.whole.numbers.version in
    let sizes = subst (λ (n : ℕ). AreSizes n (at l.numbers 0) (at l.numbers 1) (at l.numbers 2) (at l.numbers 3)) (sym same) h in
    let n = natural_from 1 (most_states v) (at l.numbers 0) sizes.0 in
    let inputs = natural_from 1 3 (at l.numbers 1) sizes.1 in
    let stages = natural_from 1 (most_stages v) (at l.numbers 2) sizes.2 in
    let m = natural_from 1 (most_rows v) (at l.numbers 3) sizes.3 in
    let d = blank v n.0 inputs.0 stages.0 m.0 in
    let front = front_is ls b 1 len in
    let last = sym (four_is l (codes "size") (pos n.0) (pos inputs.0) (pos stages.0) (pos m.0) p n.1 inputs.1 stages.1 m.1) in
    grown ls l d (drop 2 (keyed_lines d)) (blank_form v n.0 inputs.0 stages.0 m.0 b.whole.form.version n.2 inputs.2 stages.2 m.2) (blank_fits v n.0 inputs.0 stages.0 m.0) (λ i. front i ++ (last i ∷ drop 2 (keyed_lines d)))

pub bits_follow : (ls : List Keyed) (l : Keyed) → IsBeginning IsAnyWhole ls → length ls ≡ 2 → place_of l ≡ place (codes "bits") 4 →
    AreBits (at l.numbers 0) (at l.numbers 1) (at l.numbers 2) (at l.numbers 3) → IsBeginning IsAnyWhole (ls ++ l ∷ [])
bits_follow ls l b len p h =
    let c = b.whole.numbers in
    let sized = b.whole.form.sized in
    let g = natural_from 0 24 (at l.numbers 1) h.0 in
    let f = natural_from g.0 48 (at l.numbers 0) (subst (λ (z : ℤ). IsFrom z (pos 48) (at l.numbers 0)) g.1 h.1) in
    let s = natural_from 0 40 (at l.numbers 2) h.2 in
    let w = natural_from 2 128 (at l.numbers 3) h.3 in
    let d = record c { fraction_bits = f.0; grid_bits = g.0; step_exponent = s.0; width = w.0; exponents = replicate c.rows s.0 } in
    let even : HasExponents d = (length-replicate c.rows s.0, all_same (λ e. e ≤ s.0) s.0 (omega arith) c.rows, λ first. refl) in
    let front = front_is ls b 2 len in
    let last = sym (four_is l (codes "bits") (pos f.0) (pos g.0) (pos s.0) (pos w.0) p f.1 g.1 s.1 w.1) in
    changed ls l b d (drop 3 (keyed_lines d)) (g.2.1, f.2, s.2.1, w.2, b.whole.form.steps, sized.clamp_low, sized.clamp_high) even (own_box c b.whole.form) (λ i. front i ++ (last i ∷ drop 3 (keyed_lines d)))

pub steps_follow : (ls : List Keyed) (l : Keyed) (b : IsBeginning IsAnyWhole ls) → length ls ≡ 3 → place_of l ≡ place (codes "steps") 1
    → IsFrom (pos 1) (pos (most_steps b.whole.numbers.version)) (at l.numbers 0) → IsBeginning IsAnyWhole (ls ++ l ∷ [])
steps_follow ls l b len p h =
    let c = b.whole.numbers in
    let own = own_head c b.whole.form in
    let steps = natural_from 1 (most_steps c.version) (at l.numbers 0) h in
    let d = record c { steps = steps.0 } in
    let front = front_is ls b 3 len in
    let last = sym (one_is l (codes "steps") (pos steps.0) p steps.1) in
    changed ls l b d (drop 4 (keyed_lines d)) (own.0, own.1, own.2, own.3, steps.2, own.5, own.6) (own_exponents c b.whole.form) (own_box c b.whole.form) (λ i. front i ++ (last i ∷ drop 4 (keyed_lines d)))

pub clamp_follows : (ls : List Keyed) (l : Keyed) → IsBeginning IsAnyWhole ls → length ls ≡ 4 → place_of l ≡ place (codes "clamp") 1 → IsFrom (pos 0) (pos (2 ^ 126)) (at l.numbers 0) → IsBeginning IsAnyWhole (ls ++ l ∷ [])
clamp_follows ls l b len p h =
    let c = b.whole.numbers in
    let own = own_head c b.whole.form in
    let d = record c { clamp = at l.numbers 0 } in
    let front = front_is ls b 4 len in
    let last = sym (one_is l (codes "clamp") d.clamp p refl) in
    changed ls l b d (drop 5 (keyed_lines d)) (own.0, own.1, own.2, own.3, own.4, h.least, h.greatest) (own_exponents c b.whole.form) (own_box c b.whole.form) (λ i. front i ++ (last i ∷ drop 5 (keyed_lines d)))

pub words_follow : (ls : List Keyed) (l : Keyed) (b : IsBeginning IsAnyWhole ls) → length ls ≡ 5 → place_of l ≡ place (codes "words") 1 → at l.numbers 0 ≡ pos b.whole.numbers.words → IsBeginning IsAnyWhole (ls ++ l ∷ [])
words_follow ls l b len p h =
    let c = b.whole.numbers in
    let front = front_is ls b 5 len in
    let last = sym (one_is l (codes "words") (pos c.words) p h) in
    grown ls l c (drop 6 (keyed_lines c)) b.whole.form b.whole.word (λ i. front i ++ (last i ∷ drop 6 (keyed_lines c)))

-- ---- the exponents

naturals_from : (s : ℕ) (zs : List ℤ) → AllByRecursion (IsFrom (pos 0) (pos s)) zs → (exps : List ℕ) × (zs ≡ map pos exps) × AllByRecursion (λ e. e ≤ s) exps
naturals_from s [] h = ([], refl, tt)
naturals_from s (z ∷ zs) h =
    let n = natural_from 0 s z h.0 in
    let others = naturals_from s zs h.1 in
    let first = n.1 in
    let rest = others.1 in
    (n.0 ∷ others.0, (λ i. first i ∷ rest i), (n.2.1, others.2))

-- the line of the exponents, from the second version on
pub exponent_line : (c : Numbers) → c.version ≢ 1 → keyed_exponents c ≡ keyed_line (codes "exps") (map pos c.exponents) ∷ []
exponent_line c later = ap (λ (first : Bool). if first then [] else keyed_line (codes "exps") (map pos c.exponents) ∷ []) (ne_eqb c.version 1 later)

pub exponents_follow : (ls : List Keyed) (l : Keyed) (b : IsBeginning IsAnyWhole ls) → b.whole.numbers.version ≢ 1 → length ls ≡ 6 → place_of l ≡ place (codes "exps") b.whole.numbers.rows →
    All (IsFrom (pos 0) (pos b.whole.numbers.step_exponent)) l.numbers → IsBeginning IsAnyWhole (ls ++ l ∷ [])
exponents_follow ls l b later len p h =
    let c = b.whole.numbers in
    let es = naturals_from c.step_exponent l.numbers (recursion_from_All (IsFrom (pos 0) (pos c.step_exponent)) l.numbers h) in
    let d = record c { exponents = es.0 } in
    let long : length es.0 ≡ c.rows = sym (length-map es.0 pos) ∙ ap length (sym es.1) ∙ count_is l (codes "exps") c.rows p in
    let are : HasExponents d = (long, All-from_recursion (λ e. e ≤ c.step_exponent) es.0 es.2, λ first. absurd (later first)) in
    let front = front_is ls b 6 len in
    let last : keyed_exponents d ≡ l ∷ [] = exponent_line d later ∙ ap (λ (zs : List ℤ). keyed_line (codes "exps") zs ∷ []) (sym es.1) ∙ ap (λ (k : Keyed). k ∷ []) (sym (key_is l (codes "exps") c.rows p)) in
    changed ls l b d (list_lines d) (own_head c b.whole.form) are (own_box c b.whole.form) (λ i. front i ++ (last i ++ list_lines d))

-- ---- the box

pub low_follows : (ls : List Keyed) (l : Keyed) (b : IsBeginning IsAnyWhole ls) → length ls ≡ 6 + exponent_rows b.whole.numbers.version →
    place_of l ≡ place (codes "lo") b.whole.numbers.states → All IsNumerator l.numbers → IsBeginning IsAnyWhole (ls ++ l ∷ [])
low_follows ls l b len p h =
    let c = b.whole.numbers in
    let d = record c { low = l.numbers; high = l.numbers } in
    let count : length l.numbers ≡ c.states = count_is l (codes "lo") c.states p in
    let front = (parted ls b (first_lines c) (list_lines c) refl (len ∙ sym (first_count c b.whole.form))).0 in
    let last = sym (key_is l (codes "lo") c.states p) in
    changed ls l b d (drop 1 (list_lines d)) (own_head c b.whole.form) (own_exponents c b.whole.form) (count, count, h, h, λ i lt. same_le (at l.numbers i)) (λ i. front i ++ (last i ∷ drop 1 (list_lines d)))

pub high_follows : (ls : List Keyed) (l : Keyed) (b : IsBeginning IsAnyWhole ls) → length ls ≡ 7 + exponent_rows b.whole.numbers.version → place_of l ≡ place (codes "hi") b.whole.numbers.states →
    AreUpper l.numbers b.whole.numbers.low → IsBeginning IsAnyWhole (ls ++ l ∷ [])
high_follows ls l b len p h =
    let c = b.whole.numbers in
    let sized = b.whole.form.sized in
    let d = record c { high = l.numbers } in
    let box : HasBox d = (sized.shaped.low, count_is l (codes "hi") c.states p, sized.low, h.1.numbers, λ i lt. h.1.box i (omega (arith, lt, sized.shaped.low))) in
    let front = (parted ls b (up_to 1 c) (drop 1 (list_lines c)) (split_at 1 c) (omega (arith, len, count_to 1 c b.whole.form (omega arith)))).0 in
    let last = sym (key_is l (codes "hi") c.states p) in
    changed ls l b d (drop 2 (list_lines d)) (own_head c b.whole.form) (own_exponents c b.whole.form) box (split_at 1 d ∙ (λ i. front i ++ (last i ∷ drop 2 (list_lines d))))
