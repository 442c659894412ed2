-- A line can follow where it has its place and its numbers are in range.
use Rattle.std.proofs.Common.{◌≡◌, inl, inr, ℕ, zero, suc, ◌+◌, ◌-◌, ◌*◌, ◌<◌, ◌≤◌, ℤ, pos, ◌≤ℤ◌, List, [], ◌∷◌, ◌++◌, length, get_or, take, drop, map, replicate, refl, sym, ap, subst, ◌∙◌, append_assoc, arith}
use Rattle.std.specs.Prelude.{◌↔◌, ◌⊎◌, All, codes}
use Rattle.std.specs.List.{AllByRecursion}
use Rattle.std.proofs.lemmas.List.{get_or_at, get_or_append_left, get_or-append-add, take_at, length-append, length-map, length-replicate, length-take-le, take-append-drop, get_or-map}
use Rattle.std.proofs.lemmas.List.Elements.{All-from_recursion, recursion_from_All, All-replicate}
use Rattle.integer_algebra.specs.Sums.{at}
use Rattle.qp_model.specs.problem.Range.{LiesIn, IsNumerator}
use Rattle.text_lines.specs.Lines.{Keyed, keyed_line, no_line, Fits, line_in, small, place, place_of}
use Rattle.text_lines.specs.Grammar.{IsBeginning}
use Rattle.text_lines.proofs.Blocks.{key_is, count_is}
use Rattle.mac_listing.specs.declared.instruction.Op.{Op}
use Rattle.mac_listing.specs.declared.instruction.Op.TheVariants.{Clear, Load, Store, Mac, Con, AddM, Shl, Shr, Neg, Low, Cap}
use Rattle.mac_listing.specs.Listing.{Instructions, IsOp, IsListing}
use Rattle.mac_listing.specs.Text.{op_keyed, head_keyed, keyed_listing, OpFitsWord}
use Rattle.mac_listing.specs.Whole.{IsWholeListing}
use Rattle.mac_listing.specs.Reading.{small_at, small_in, op_in}
use Rattle.mac_listing.specs.Following.{IsVersion, IsWordWidth, IsInput, IsLow, IsHigh, IsWords, AreOutputs, IsOutput, IsRepeat, IsBodyCount, IsHeadLine, IsOpLine, IsEnd, IsBodyLine}
use Rattle.mac_listing.proofs.Blank.{same_le, blank, one_clear, blank_is}
use Rattle.mac_listing.proofs.Texts.{small_is, op_again, line_count}

-- ---- lines with which a listing begins

-- one line more
made : (ls : List Keyed) (l : Keyed) (d : Instructions) (rest : List Keyed) → IsListing d → All OpFitsWord d.body → keyed_listing d ≡ ls ++ (l ∷ rest) → IsBeginning IsWholeListing (ls ++ l ∷ [])
made ls l d rest is word e = record { more = rest; whole = record { numbers = d; listing = is; word = word; lines = e ∙ sym (append_assoc ls (l ∷ []) rest) } }

-- one line less, of the same listing
abbrev before : (ls : List Keyed) (l : Keyed) → IsBeginning IsWholeListing (ls ++ l ∷ []) → IsBeginning IsWholeListing ls
before ls l b = record { more = (l ∷ []) ++ b.more; whole = record { numbers = b.whole.numbers; listing = b.whole.listing; word = b.whole.word; lines = b.whole.lines ∙ append_assoc ls (l ∷ []) b.more } }

front_is : (ls : List Keyed) (b : IsBeginning IsWholeListing ls) (k : ℕ) → length ls ≡ k → take k (keyed_listing b.whole.numbers) ≡ ls
front_is ls b k len = ap (take k) b.whole.lines ∙ take_at ls b.more k len

line_is : (ls : List Keyed) (b : IsBeginning IsWholeListing ls) (k : ℕ) → k < length ls → get_or ls k no_line ≡ get_or (keyed_listing b.whole.numbers) k no_line
line_is ls b k lt = sym (ap (λ (ms : List Keyed). get_or ms k no_line) b.whole.lines ∙ get_or_append_left ls b.more no_line k lt)

last_is : (ls : List Keyed) (l : Keyed) (b : IsBeginning IsWholeListing (ls ++ l ∷ [])) (k : ℕ) → length ls ≡ k → get_or (keyed_listing b.whole.numbers) k no_line ≡ l
last_is ls l b k len = ap (λ (ms : List Keyed). get_or ms k no_line) (b.whole.lines ∙ append_assoc ls (l ∷ []) b.more) ∙ get_or_at ls l b.more no_line k len

-- lines of the listing that are as many
fore : (ls : List Keyed) (b : IsBeginning IsWholeListing ls) (front rest : List Keyed) → keyed_listing b.whole.numbers ≡ front ++ rest → length ls ≡ length front → front ≡ ls
fore ls b front rest e len = sym (take_at front rest (length front) refl) ∙ ap (take (length front)) (sym e ∙ b.whole.lines) ∙ take_at ls b.more (length front) len

-- ---- what the lines say

states_in : (ls : List Keyed) (b : IsBeginning IsWholeListing ls) → 2 < length ls → small_in ls 2 0 ≡ b.whole.numbers.states
states_in ls b lt = ap (λ (k : Keyed). small (at k.numbers 0)) (line_is ls b 2 lt) ∙ small_is b.whole.numbers.states (omega (arith, b.whole.listing.states.1))

low_in : (ls : List Keyed) (b : IsBeginning IsWholeListing ls) → 3 < length ls → line_in ls 3 ≡ b.whole.numbers.low
low_in ls b lt = ap (λ (k : Keyed). k.numbers) (line_is ls b 3 lt)

words_in : (ls : List Keyed) (b : IsBeginning IsWholeListing ls) → 5 < length ls → small_in ls 5 0 ≡ b.whole.numbers.words
words_in ls b lt = ap (λ (k : Keyed). small (at k.numbers 0)) (line_is ls b 5 lt) ∙ small_is b.whole.numbers.words (omega (arith, b.whole.listing.words.1))

repetitions_in : (ls : List Keyed) (b : IsBeginning IsWholeListing ls) → 7 < length ls → small_in ls 7 0 ≡ b.whole.numbers.repetitions
repetitions_in ls b lt = ap (λ (k : Keyed). small (at k.numbers 0)) (line_is ls b 7 lt) ∙ small_is b.whole.numbers.repetitions (omega (arith, b.whole.listing.repetitions.1))

pub count_in : (ls : List Keyed) (b : IsBeginning IsWholeListing ls) → 7 < length ls → small_in ls 7 1 ≡ length b.whole.numbers.body
count_in ls b lt = ap (λ (k : Keyed). small (at k.numbers 1)) (line_is ls b 7 lt) ∙ small_is (length b.whole.numbers.body) (omega (arith, b.whole.listing.instructions.1))

-- ---- what is in its place and in range can follow: the head

version_on : (ls : List Keyed) (l : Keyed) → IsBeginning IsWholeListing ls → length ls ≡ 0 → IsVersion l → IsBeginning IsWholeListing (ls ++ l ∷ [])
version_on ls l b len h =
    let c = b.whole.numbers in
    let front = front_is ls b 0 len in
    let last = sym h in
    made ls l c (drop 1 (keyed_listing c)) b.whole.listing b.whole.word (λ i. front i ++ (last i ∷ drop 1 (keyed_listing c)))

width_on : (ls : List Keyed) (l : Keyed) → IsBeginning IsWholeListing ls → length ls ≡ 1 → IsWordWidth l → IsBeginning IsWholeListing (ls ++ l ∷ [])
width_on ls l b len h =
    let d = blank (small_at l 0) 1 0 in
    let front = front_is ls b 1 len in
    let last = sym h.0 in
    made ls l d (drop 2 (keyed_listing d)) (blank_is (small_at l 0) 1 0 h.1 (omega arith, omega arith) (omega arith)) (All-replicate OpFitsWord 1 Clear tt) (λ i. front i ++ (last i ∷ drop 2 (keyed_listing d)))

input_on : (ls : List Keyed) (l : Keyed) → IsBeginning IsWholeListing ls → length ls ≡ 2 → IsInput l → IsBeginning IsWholeListing (ls ++ l ∷ [])
input_on ls l b len h =
    let c = b.whole.numbers in
    let d = blank c.width (small_at l 0) (small_at l 1) in
    let front = front_is ls b 2 len in
    let last = sym h.0 in
    made ls l d (drop 3 (keyed_listing d)) (blank_is c.width (small_at l 0) (small_at l 1) b.whole.listing.width h.1 h.2) (All-replicate OpFitsWord 1 Clear tt) (λ i. front i ++ (last i ∷ drop 3 (keyed_listing d)))

-- other bounds of the states
boxed : (c : Instructions) (low high : List ℤ) → IsListing c → length low ≡ c.states → length high ≡ c.states → All IsNumerator low →
    All IsNumerator high → ((i : ℕ) → i < c.states → at low i ≤ℤ at high i) → IsListing (record c { low = low; high = high })
boxed c low high is a b p q box = record {
  width = is.width;
  states = is.states;
  shift = is.shift;
  low_long = a;
  high_long = b;
  low = p;
  high = q;
  box = box;
  words = is.words;
  outputs = is.outputs;
  inside = is.inside;
  denominator_low = is.denominator_low;
  denominator_high = is.denominator_high;
  repetitions = is.repetitions;
  instructions = is.instructions;
  ops = is.ops;
}

low_on : (ls : List Keyed) (l : Keyed) → IsBeginning IsWholeListing ls → length ls ≡ 3 → IsLow (small_in ls 2 0) l → IsBeginning IsWholeListing (ls ++ l ∷ [])
low_on ls l b len h =
    let c = b.whole.numbers in
    let d = record c { low = l.numbers; high = l.numbers } in
    let at_lo : place_of l ≡ place (codes "lo") c.states = h.0 ∙ ap (place (codes "lo")) (states_in ls b (omega (arith, len))) in
    let long = count_is l (codes "lo") c.states at_lo in
    let front = front_is ls b 3 len in
    let last = sym (key_is l (codes "lo") c.states at_lo) in
    made ls l d (drop 4 (keyed_listing d)) (boxed c l.numbers l.numbers b.whole.listing long long h.1 h.1 (λ i lt. same_le (at l.numbers i))) b.whole.word (λ i. front i ++ (last i ∷ drop 4 (keyed_listing d)))

high_on : (ls : List Keyed) (l : Keyed) → IsBeginning IsWholeListing ls → length ls ≡ 4 → IsHigh (line_in ls 3) l → IsBeginning IsWholeListing (ls ++ l ∷ [])
high_on ls l b len h =
    let c = b.whole.numbers in
    let is = b.whole.listing in
    let d = record c { high = l.numbers } in
    let own : IsHigh c.low l = subst (λ (low : List ℤ). IsHigh low l) (low_in ls b (omega (arith, len))) h in
    let long = count_is l (codes "hi") (length c.low) own.0 ∙ is.low_long in
    let front = front_is ls b 4 len in
    let last = sym (key_is l (codes "hi") (length c.low) own.0) in
    made ls l d (drop 5 (keyed_listing d)) (boxed c c.low l.numbers is is.low_long long is.low own.1.numbers (λ i lt. own.1.box i (omega (arith, lt, is.low_long)))) b.whole.word (λ i. front i ++ (last i ∷ drop 5 (keyed_listing d)))

-- other words, one of them put out, and one instruction
worded : (c : Instructions) (words : ℕ) → IsListing c → LiesIn c.states 1000 words → IsListing (record c { words = words; first = 0; outputs = 1; body = Clear ∷ [] })
worded c words is h = record {
  width = is.width;
  states = is.states;
  shift = is.shift;
  low_long = is.low_long;
  high_long = is.high_long;
  low = is.low;
  high = is.high;
  box = is.box;
  words = h;
  outputs = omega arith;
  inside = omega (arith, h.0, is.states.0);
  denominator_low = is.denominator_low;
  denominator_high = is.denominator_high;
  repetitions = is.repetitions;
  instructions = (omega arith, omega arith);
  ops = one_clear words;
}

words_on : (ls : List Keyed) (l : Keyed) → IsBeginning IsWholeListing ls → length ls ≡ 5 → IsWords (small_in ls 2 0) l → IsBeginning IsWholeListing (ls ++ l ∷ [])
words_on ls l b len h =
    let c = b.whole.numbers in
    let d = record c { words = small_at l 0; first = 0; outputs = 1; body = Clear ∷ [] } in
    let front = front_is ls b 5 len in
    let last = sym h.0 in
    made ls l d (drop 6 (keyed_listing d)) (worded c (small_at l 0) b.whole.listing (subst (λ (n : ℕ). LiesIn n 1000 (small_at l 0)) (states_in ls b (omega (arith, len))) h.1))
    (All-replicate OpFitsWord 1 Clear tt) (λ i. front i ++ (last i ∷ drop 6 (keyed_listing d)))

-- other words put out
putting : (c : Instructions) (first outputs : ℕ) (over : ℤ) → IsListing c → AreOutputs c.words first outputs over → IsListing (record c { first = first; outputs = outputs; denominator = over })
putting c first outputs over is h = record {
  width = is.width;
  states = is.states;
  shift = is.shift;
  low_long = is.low_long;
  high_long = is.high_long;
  low = is.low;
  high = is.high;
  box = is.box;
  words = is.words;
  outputs = h.0;
  inside = h.1;
  denominator_low = h.2;
  denominator_high = h.3;
  repetitions = is.repetitions;
  instructions = is.instructions;
  ops = is.ops;
}

output_on : (ls : List Keyed) (l : Keyed) → IsBeginning IsWholeListing ls → length ls ≡ 6 → IsOutput (small_in ls 5 0) l → IsBeginning IsWholeListing (ls ++ l ∷ [])
output_on ls l b len h =
    let c = b.whole.numbers in
    let over = at l.numbers 2 in
    let d = record c { first = small_at l 0; outputs = small_at l 1; denominator = over } in
    let front = front_is ls b 6 len in
    let last = sym h.0 in
    made ls l d (drop 7 (keyed_listing d)) (putting c (small_at l 0) (small_at l 1) over b.whole.listing (subst (λ (n : ℕ). AreOutputs n (small_at l 0) (small_at l 1) over) (words_in ls b (omega (arith, len))) h.1)) b.whole.word
    (λ i. front i ++ (last i ∷ drop 7 (keyed_listing d)))

-- another body, and how often it is run
repeating : (c : Instructions) (repetitions : ℕ) (body : List Op) → IsListing c → LiesIn 1 4194304 repetitions → LiesIn 1 100000 (length body) → All (IsOp c.words) body → IsListing (record c { repetitions = repetitions; body = body })
repeating c repetitions body is h k ops = record {
  width = is.width;
  states = is.states;
  shift = is.shift;
  low_long = is.low_long;
  high_long = is.high_long;
  low = is.low;
  high = is.high;
  box = is.box;
  words = is.words;
  outputs = is.outputs;
  inside = is.inside;
  denominator_low = is.denominator_low;
  denominator_high = is.denominator_high;
  repetitions = h;
  instructions = k;
  ops = ops;
}

repeat_on : (ls : List Keyed) (l : Keyed) → IsBeginning IsWholeListing ls → length ls ≡ 7 → IsRepeat l → IsBeginning IsWholeListing (ls ++ l ∷ [])
repeat_on ls l b len h =
    let c = b.whole.numbers in
    let n = small_at l 1 in
    let d = record c { repetitions = small_at l 0; body = replicate n Clear } in
    let long : length (replicate n Clear) ≡ n = length-replicate n Clear in
    let front = front_is ls b 7 len in
    let last = ap (λ (k : ℕ). keyed_line (codes "repeat") (pos (small_at l 0) ∷ pos k ∷ [])) long ∙ sym h.0 in
    made ls l d (drop 8 (keyed_listing d)) (repeating c (small_at l 0) (replicate n Clear) b.whole.listing h.1 (subst (LiesIn 1 100000) (sym long) h.2) (All-replicate (IsOp c.words) n Clear tt)) (All-replicate OpFitsWord n Clear tt)
    (λ i. front i ++ (last i ∷ drop 8 (keyed_listing d)))

-- the count of the listing
counted : (ls : List Keyed) (b : IsBeginning IsWholeListing ls) → length ls ≡ 8 → small_in ls 7 0 * small_in ls 7 1 ≡ b.whole.numbers.repetitions * length b.whole.numbers.body
counted ls b len =
    let r = repetitions_in ls b (omega (arith, len)) in
    let n = count_in ls b (omega (arith, len)) in
    (λ i. r i * n i)

count_on : (ls : List Keyed) (l : Keyed) → IsBeginning IsWholeListing ls → length ls ≡ 8 → IsBodyCount (small_in ls 7 0) (small_in ls 7 1) l → IsBeginning IsWholeListing (ls ++ l ∷ [])
count_on ls l b len h =
    let c = b.whole.numbers in
    let front = front_is ls b 8 len in
    let last = ap (λ (n : ℕ). keyed_line (codes "count") (pos n ∷ [])) (sym (counted ls b len)) ∙ sym h in
    made ls l c (drop 9 (keyed_listing c)) b.whole.listing b.whole.word (λ i. front i ++ (last i ∷ drop 9 (keyed_listing c)))

head_on : (ls : List Keyed) (l : Keyed) (n : ℕ) → n < 9 → length ls ≡ n → IsBeginning IsWholeListing ls → IsHeadLine n ls l → IsBeginning IsWholeListing (ls ++ l ∷ [])
head_on ls l zero lt len b h = version_on ls l b len h
head_on ls l (suc zero) lt len b h = width_on ls l b len h
head_on ls l (suc (suc zero)) lt len b h = input_on ls l b len h
head_on ls l (suc (suc (suc zero))) lt len b h = low_on ls l b len h
head_on ls l (suc (suc (suc (suc zero)))) lt len b h = high_on ls l b len h
head_on ls l (suc (suc (suc (suc (suc zero))))) lt len b h = words_on ls l b len h
head_on ls l (suc (suc (suc (suc (suc (suc zero)))))) lt len b h = output_on ls l b len h
head_on ls l (suc (suc (suc (suc (suc (suc (suc zero))))))) lt len b h = repeat_on ls l b len h
head_on ls l (suc (suc (suc (suc (suc (suc (suc (suc n)))))))) lt len b h = count_on ls l b (omega (arith, len, lt)) h

-- ---- what follows is in range: the head

head_in : (ls : List Keyed) (l : Keyed) (n : ℕ) → n < 9 → length ls ≡ n → IsBeginning IsWholeListing (ls ++ l ∷ []) → IsHeadLine n ls l
head_in ls l zero lt len more = sym (last_is ls l more 0 len)
head_in ls l (suc zero) lt len more =
    let c = more.whole.numbers in
    let n = sym (small_is c.width (omega (arith, more.whole.listing.width.1))) in
    subst IsWordWidth (last_is ls l more 1 len) (ap (λ (k : ℕ). keyed_line (codes "word") (pos k ∷ [])) n, subst (LiesIn 2 128) n more.whole.listing.width)
head_in ls l (suc (suc zero)) lt len more =
    let c = more.whole.numbers in
    let is = more.whole.listing in
    let n = sym (small_is c.states (omega (arith, is.states.1))) in
    let s = sym (small_is c.shift (omega (arith, is.shift))) in
    subst IsInput (last_is ls l more 2 len) ((λ i. keyed_line (codes "input") (pos (n i) ∷ pos (s i) ∷ [])), subst (LiesIn 1 6) n is.states, subst (λ (k : ℕ). k ≤ 48) s is.shift)
head_in ls l (suc (suc (suc zero))) lt len more =
    let is = more.whole.listing in
    subst (IsLow (small_in ls 2 0)) (last_is ls l more 3 len) (ap (place (codes "lo")) (is.low_long ∙ sym (states_in ls (before ls l more) (omega (arith, len)))), is.low)
head_in ls l (suc (suc (suc (suc zero)))) lt len more =
    let c = more.whole.numbers in
    let is = more.whole.listing in
    let own : IsHigh c.low (keyed_line (codes "hi") c.high) = (ap (place (codes "hi")) (is.high_long ∙ sym is.low_long), record { numbers = is.high; box = λ i lt2. is.box i (omega (arith, lt2, is.low_long)) }) in
    subst (λ (low : List ℤ). IsHigh low l) (sym (low_in ls (before ls l more) (omega (arith, len)))) (subst (IsHigh c.low) (last_is ls l more 4 len) own)
head_in ls l (suc (suc (suc (suc (suc zero))))) lt len more =
    let c = more.whole.numbers in
    let is = more.whole.listing in
    let n = sym (small_is c.words (omega (arith, is.words.1))) in
    let own : IsWords c.states (keyed_line (codes "words") (pos c.words ∷ [])) = (ap (λ (k : ℕ). keyed_line (codes "words") (pos k ∷ [])) n, subst (LiesIn c.states 1000) n is.words) in
    subst (λ (k : ℕ). IsWords k l) (sym (states_in ls (before ls l more) (omega (arith, len)))) (subst (IsWords c.states) (last_is ls l more 5 len) own)
head_in ls l (suc (suc (suc (suc (suc (suc zero)))))) lt len more =
    let c = more.whole.numbers in
    let is = more.whole.listing in
    let n = sym (small_is c.first (omega (arith, is.inside, is.words.1))) in
    let m = sym (small_is c.outputs (omega (arith, is.inside, is.words.1))) in
    let are : AreOutputs c.words c.first c.outputs c.denominator = (is.outputs, is.inside, is.denominator_low, is.denominator_high) in
    let own : IsOutput c.words (keyed_line (codes "output") (pos c.first ∷ pos c.outputs ∷ c.denominator ∷ [])) = (
      (λ i. keyed_line (codes "output") (pos (n i) ∷ pos (m i) ∷ c.denominator ∷ [])),
      subst (λ (k : ℕ). AreOutputs c.words k (small (pos c.outputs)) c.denominator) n (subst (λ (k : ℕ). AreOutputs c.words c.first k c.denominator) m are),
    ) in
    subst (λ (k : ℕ). IsOutput k l) (sym (words_in ls (before ls l more) (omega (arith, len)))) (subst (IsOutput c.words) (last_is ls l more 6 len) own)
head_in ls l (suc (suc (suc (suc (suc (suc (suc zero))))))) lt len more =
    let c = more.whole.numbers in
    let is = more.whole.listing in
    let n = sym (small_is c.repetitions (omega (arith, is.repetitions.1))) in
    let m = sym (small_is (length c.body) (omega (arith, is.instructions.1))) in
    subst IsRepeat (last_is ls l more 7 len) ((λ i. keyed_line (codes "repeat") (pos (n i) ∷ pos (m i) ∷ [])), subst (LiesIn 1 4194304) n is.repetitions, subst (LiesIn 1 100000) m is.instructions)
head_in ls l (suc (suc (suc (suc (suc (suc (suc (suc n)))))))) lt len more =
    let eight : length ls ≡ 8 = omega (arith, len, lt) in
    sym (last_is ls l more 8 eight) ∙ ap (λ (k : ℕ). keyed_line (codes "count") (pos k ∷ [])) (sym (counted ls (before ls l more) eight))

pub head_follows : (ls : List Keyed) (l : Keyed) (n : ℕ) → n < 9 → length ls ≡ n → IsBeginning IsWholeListing ls → IsHeadLine n ls l ↔ IsBeginning IsWholeListing (ls ++ l ∷ [])
head_follows ls l n lt len b = (λ h. head_on ls l n lt len b h, λ more. head_in ls l n lt len more)

-- ---- the body

-- another instruction in the place of one
abbrev put : ℕ → Op → List Op → List Op
put k op [] = []
put zero op (x ∷ xs) = op ∷ xs
put (suc k) op (x ∷ xs) = x ∷ put k op xs

length_put : (k : ℕ) (op : Op) (xs : List Op) → length (put k op xs) ≡ length xs
length_put k op [] = refl
length_put zero op (x ∷ xs) = refl
length_put (suc k) op (x ∷ xs) = ap suc (length_put k op xs)

put_all : (P : Op → Type 0) (k : ℕ) (op : Op) (xs : List Op) → P op → AllByRecursion P xs → AllByRecursion P (put k op xs)
put_all P k op [] p all = tt
put_all P zero op (x ∷ xs) p all = (p, all.1)
put_all P (suc k) op (x ∷ xs) p all = (all.0, put_all P k op xs p all.1)

put_split : (k : ℕ) (op : Op) (xs : List Op) → k < length xs → map op_keyed (put k op xs) ≡ take k (map op_keyed xs) ++ (op_keyed op ∷ drop (suc k) (map op_keyed xs))
put_split k op [] lt = absurd (omega (arith, lt))
put_split zero op (x ∷ xs) lt = refl
put_split (suc k) op (x ∷ xs) lt = ap (λ (ls : List Keyed). op_keyed x ∷ ls) (put_split k op xs (omega (arith, lt)))

-- the head by the length of the body
abbrev headed : Instructions → ℕ → List Keyed
headed c n =
    keyed_line (codes "mpc-listing") (pos 1 ∷ [])
    ∷ keyed_line (codes "word") (pos c.width ∷ [])
    ∷ keyed_line (codes "input") (pos c.states ∷ pos c.shift ∷ [])
    ∷ keyed_line (codes "lo") c.low
    ∷ keyed_line (codes "hi") c.high
    ∷ keyed_line (codes "words") (pos c.words ∷ [])
    ∷ keyed_line (codes "output") (pos c.first ∷ pos c.outputs ∷ c.denominator ∷ [])
    ∷ keyed_line (codes "repeat") (pos c.repetitions ∷ pos n ∷ [])
    ∷ keyed_line (codes "count") (pos (c.repetitions * n) ∷ []) ∷ []

abbrev ending : List Keyed
ending = keyed_line (codes "end") [] ∷ []

-- the lines, parted in the body
parted_at : (c : Instructions) (k : ℕ) → keyed_listing c ≡ (head_keyed c ++ take k (map op_keyed c.body)) ++ (drop k (map op_keyed c.body) ++ ending)
parted_at c k =
    let lines = map op_keyed c.body in
    ap (λ (ls : List Keyed). head_keyed c ++ (ls ++ ending)) (sym (take-append-drop k lines))
    ∙ ap (λ (ls : List Keyed). head_keyed c ++ ls) (append_assoc (take k lines) (drop k lines) ending) ∙ sym (append_assoc (head_keyed c) (take k lines) (drop k lines ++ ending))

front_count : (c : Instructions) (k : ℕ) → k ≤ length c.body → length (head_keyed c ++ take k (map op_keyed c.body)) ≡ 9 + k
front_count c k le = omega (arith, length-append (head_keyed c) (take k (map op_keyed c.body)), length-take-le k (map op_keyed c.body) (omega (arith, le, length-map c.body op_keyed)))

-- the constant of an instruction fits where the numbers of its line do
op_fits : (op : Op) → Fits (op_keyed op) → OpFitsWord op
op_fits Clear h = tt
op_fits (Load a) h = tt
op_fits (Store a) h = tt
op_fits (Mac a c k) h = h 1 c (omega arith)
op_fits (Con c k) h = h 0 c (omega arith)
op_fits (AddM a) h = tt
op_fits (Shl k) h = tt
op_fits (Shr k) h = tt
op_fits Neg h = tt
op_fits Low h = tt
op_fits (Cap c) h = h 0 c (omega arith)

op_on : (ls : List Keyed) (l : Keyed) (b : IsBeginning IsWholeListing ls) (k : ℕ) → length ls ≡ 9 + k → k < length b.whole.numbers.body → Fits l → IsOpLine b.whole.numbers.words l → IsBeginning IsWholeListing (ls ++ l ∷ [])
op_on ls l b k len lt fits h =
    let c = b.whole.numbers in
    let is = b.whole.listing in
    let op = op_in l in
    let body = put k op c.body in
    let lines = map op_keyed c.body in
    let d = record c { body = body } in
    let long = length_put k op c.body in
    let ops = All-from_recursion (IsOp c.words) body (put_all (IsOp c.words) k op c.body h.1 (recursion_from_All (IsOp c.words) c.body is.ops)) in
    let word = All-from_recursion OpFitsWord body (put_all OpFitsWord k op c.body (op_fits op (subst Fits h.0 fits)) (recursion_from_All OpFitsWord c.body b.whole.word)) in
    let front = fore ls b (head_keyed c ++ take k lines) (drop k lines ++ ending) (parted_at c k) (len ∙ sym (front_count c k (omega (arith, lt)))) in
    let rest = drop (suc k) lines ++ ending in
    let split : map op_keyed body ≡ take k lines ++ (l ∷ drop (suc k) lines) = put_split k op c.body lt ∙ ap (λ (x : Keyed). take k lines ++ (x ∷ drop (suc k) lines)) (sym h.0) in
    let whole : keyed_listing d ≡ (head_keyed c ++ take k lines) ++ (l ∷ rest) =
    ap (λ (n : ℕ). headed c n ++ (map op_keyed body ++ ending)) long ∙ ap (λ (ms : List Keyed). head_keyed c ++ (ms ++ ending)) split
    ∙ ap (λ (ms : List Keyed). head_keyed c ++ ms) (append_assoc (take k lines) (l ∷ drop (suc k) lines) ending) ∙ sym (append_assoc (head_keyed c) (take k lines) (l ∷ rest)) in
    made ls l d rest (repeating c c.repetitions body is is.repetitions (subst (LiesIn 1 100000) (sym long) is.instructions) ops) word (whole ∙ ap (λ (ms : List Keyed). ms ++ (l ∷ rest)) front)

end_on : (ls : List Keyed) (l : Keyed) (b : IsBeginning IsWholeListing ls) → length ls ≡ 9 + length b.whole.numbers.body → IsEnd l → IsBeginning IsWholeListing (ls ++ l ∷ [])
end_on ls l b len h =
    let c = b.whole.numbers in
    let lines = map op_keyed c.body in
    let front = fore ls b (head_keyed c ++ lines) ending refl (omega (arith, len, length-append (head_keyed c) lines, length-map c.body op_keyed)) in
    let last = sym h in
    made ls l c [] b.whole.listing b.whole.word (λ i. front i ++ (last i ∷ []))

body_on : (ls : List Keyed) (l : Keyed) (n : ℕ) → 9 ≤ n → length ls ≡ n → IsBeginning IsWholeListing ls → Fits l → IsBodyLine n ls l → IsBeginning IsWholeListing (ls ++ l ∷ [])
body_on ls l n le len b fits h =
    let words = words_in ls b (omega (arith, le, len)) in
    let count = count_in ls b (omega (arith, le, len)) in
    elim h [
      | inl op ↦ op_on ls l b (n - 9) (omega (arith, le, len)) (omega (arith, le, op.0, count)) fits (subst (λ (w : ℕ). IsOpLine w l) words op.1)
      | inr end ↦ end_on ls l b (len ∙ end.0 ∙ ap (λ (k : ℕ). 9 + k) count) end.1
    ]

-- a line of the body
body_line : (c : Instructions) (k : ℕ) → k < length c.body → get_or (keyed_listing c) (9 + k) no_line ≡ op_keyed (get_or c.body k Clear)
body_line c k lt = get_or-append-add (head_keyed c) (map op_keyed c.body ++ ending) k no_line
    ∙ get_or_append_left (map op_keyed c.body) ending no_line k (omega (arith, lt, length-map c.body op_keyed)) ∙ get_or-map op_keyed c.body k Clear no_line lt

last_line : (c : Instructions) (k : ℕ) → length c.body ≡ k → get_or (keyed_listing c) (9 + k) no_line ≡ keyed_line (codes "end") []
last_line c k e = get_or-append-add (head_keyed c) (map op_keyed c.body ++ ending) k no_line ∙ get_or_at (map op_keyed c.body) (keyed_line (codes "end") []) [] no_line k (length-map c.body op_keyed ∙ e)

-- whether an index is one of so many, or the next
sided : (k n : ℕ) → k ≤ n → (k < n) ⊎ (k ≡ n)
sided zero zero le = inr refl
sided zero (suc n) le = inl (omega arith)
sided (suc k) zero le = absurd (omega (arith, le))
sided (suc k) (suc n) le = elim (sided k n (omega (arith, le))) [
  | inl lt ↦ inl (omega (arith, lt))
  | inr e ↦ inr (ap suc e)
]

op_of_body : (c : Instructions) (op : Op) → IsListing c → IsOp c.words op → IsOpLine c.words (op_keyed op)
op_of_body c op is h =
    let same = sym (op_again c.words op is.words.1 h) in
    (ap op_keyed same, subst (IsOp c.words) same h)

body_in : (ls : List Keyed) (l : Keyed) (k : ℕ) → length ls ≡ 9 + k → IsBeginning IsWholeListing (ls ++ l ∷ []) → IsBodyLine (9 + k) ls l
body_in ls l k len more =
    let c = more.whole.numbers in
    let is = more.whole.listing in
    let words = sym (words_in ls (before ls l more) (omega (arith, len))) in
    let count = sym (count_in ls (before ls l more) (omega (arith, len))) in
    let most : k ≤ length c.body = omega (arith, len, line_count c, ap length more.whole.lines, length-append (ls ++ l ∷ []) more.more, length-append ls (l ∷ [])) in
    let here = last_is ls l more (9 + k) len in
    elim (sided k (length c.body) most) [
      | inl lt ↦
          let op = get_or c.body k Clear in
          let own : IsOpLine c.words l = subst (IsOpLine c.words) (sym (body_line c k lt) ∙ here) (op_of_body c op is (is.ops k Clear lt)) in
          inl (omega (arith, lt, count), subst (λ (w : ℕ). IsOpLine w l) words own)
      | inr e ↦ inr (ap (λ (m : ℕ). 9 + m) (e ∙ count), sym here ∙ last_line c k (sym e))
    ]

pub body_follows : (ls : List Keyed) (l : Keyed) (n : ℕ) → 9 ≤ n → length ls ≡ n → IsBeginning IsWholeListing ls → Fits l → IsBodyLine n ls l ↔ IsBeginning IsWholeListing (ls ++ l ∷ [])
body_follows ls l n le len b fits = (
  λ h. body_on ls l n le len b fits h,
  λ more.
      let e : 9 + (n - 9) ≡ n = omega (arith, le) in
      subst (λ (m : ℕ). IsBodyLine m ls l) e (body_in ls l (n - 9) (len ∙ sym e) more),
)

-- ---- all lines
