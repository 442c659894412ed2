-- The lines of a listing are its text, each of them can be read, and they are those of one listing.
use Rattle.std.proofs.Common.{◌≡◌, ℕ, suc, ◌+◌, ◌-◌, ◌*◌, ◌^◌, ◌<◌, ◌≤◌, ℤ, pos, ◌≤ℤ◌, List, [], ◌∷◌, ◌++◌, length, take, map, FitsSigned, refl, sym, ap, subst, ◌∙◌, arith}
use Rattle.std.specs.Prelude.{All, codes}
use Rattle.std.specs.Int.{w128}
use Rattle.std.proofs.lemmas.Bool.Decides.{nat_tests}
use Rattle.std.proofs.lemmas.Int.{ints}
use Rattle.std.proofs.lemmas.Nat.{mul-le}
use Rattle.std.proofs.lemmas.List.{map-append, take_at, length-append, length-map}
use Rattle.std.proofs.lemmas.List.Elements.{All-nil, All-cons, All-append, All-from_recursion, All-replicate}
use Rattle.number_text.specs.Lines.{text_of}
use Rattle.text_lines.specs.Lines.{Keyed, keyed_line, IsKeyedLine, spelled, small}
use Rattle.text_lines.specs.Grammar.{IsGrammar}
use Rattle.text_lines.proofs.Beginnings.{begins}
use Rattle.text_lines.proofs.Good.{natural_fits, half_words_fit, quarter_fits, good, good_of}
use Rattle.text_lines.proofs.OneText.{one_text, no_prefix_of}
use Rattle.mac_listing.specs.declared.instruction.Op.{Op}
use Rattle.mac_listing.specs.declared.instruction.Op.TheVariants.{Clear, Load, Store, Mac, Con, AddM, Shl, Shr, Neg, Low, Cap}
use Rattle.mac_listing.specs.Listing.{Instructions, IsOp, IsListing}
use Rattle.mac_listing.specs.Text.{op_keyed, op_line, head_keyed, keyed_listing, listing_lines, listing_text, OpFitsWord}
use Rattle.mac_listing.specs.Whole.{IsWholeListing}
use Rattle.mac_listing.specs.Reading.{small_in, op_in, body_in, listing_in}
use Rattle.mac_listing.specs.Laws.{HasOneListing, ListingHasNoPrefix, AreLines}
use Rattle.mac_listing.proofs.Blank.{blank, blank_is}

-- ---- the text

ops_spelled : (body : List Op) → map spelled (map op_keyed body) ≡ map op_line body
ops_spelled [] = refl
ops_spelled (op ∷ body) = ap (λ (ls : List (List ℕ)). op_line op ∷ ls) (ops_spelled body)

lines_spelled : (l : Instructions) → map spelled (keyed_listing l) ≡ listing_lines l
lines_spelled l =
    let end = keyed_line (codes "end") [] ∷ [] in
    let body : map spelled (map op_keyed l.body ++ end) ≡ map op_line l.body ++ map spelled end = map-append spelled (map op_keyed l.body) end ∙ ap (λ (ls : List (List ℕ)). ls ++ map spelled end) (ops_spelled l.body) in
    map-append spelled (head_keyed l ++ map op_keyed l.body) end
    ∙ ap (λ (ls : List (List ℕ)). ls ++ map spelled end) (map-append spelled (head_keyed l) (map op_keyed l.body) ∙ ap (λ (ls : List (List ℕ)). map spelled (head_keyed l) ++ ls) (ops_spelled l.body))

pub keyed_text : (l : Instructions) → text_of (map spelled (keyed_listing l)) ≡ listing_text l
keyed_text l = ap text_of (lines_spelled l)

-- ---- lines that can be read

address_fits : (a words : ℕ) → words ≤ 1000 → a < words → FitsSigned w128 (pos a)
address_fits a words le lt = natural_fits a (omega (arith, le, lt))

shift_fits : (k : ℕ) → k ≤ 126 → FitsSigned w128 (pos k)
shift_fits k le = natural_fits k (omega (arith, le))

op_good : (words : ℕ) (op : Op) → words ≤ 1000 → IsOp words op → OpFitsWord op → IsKeyedLine (op_keyed op)
op_good words Clear le is fits = good (codes "clear") [] refl tt
op_good words (Load a) le is fits = good (codes "load") (pos a ∷ []) refl (address_fits a words le is, tt)
op_good words (Store a) le is fits = good (codes "store") (pos a ∷ []) refl (address_fits a words le is, tt)
op_good words (Mac a c k) le is fits = good (codes "mac") (pos a ∷ c ∷ pos k ∷ []) refl (address_fits a words le is.0, (fits, (shift_fits k is.1, tt)))
op_good words (Con c k) le is fits = good (codes "con") (c ∷ pos k ∷ []) refl (fits, (shift_fits k is, tt))
op_good words (AddM a) le is fits = good (codes "addm") (pos a ∷ []) refl (address_fits a words le is, tt)
op_good words (Shl k) le is fits = good (codes "shl") (pos k ∷ []) refl (shift_fits k is, tt)
op_good words (Shr k) le is fits = good (codes "shr") (pos k ∷ []) refl (shift_fits k is, tt)
op_good words Neg le is fits = good (codes "neg") [] refl tt
op_good words Low le is fits = good (codes "low") [] refl tt
op_good words (Cap c) le is fits = good (codes "cap") (c ∷ []) refl (fits, tt)

body_good : (words : ℕ) (body : List Op) → words ≤ 1000 → All (IsOp words) body → All OpFitsWord body → All IsKeyedLine (map op_keyed body)
body_good words [] le are fits = All-nil IsKeyedLine
body_good words (op ∷ body) le are fits =
    All-cons IsKeyedLine (op_keyed op) (map op_keyed body) (op_good words op le (are 0 op (omega arith)) (fits 0 op (omega arith)))
    (body_good words body le (λ k d lt. are (suc k) d (omega (arith, lt))) (λ k d lt. fits (suc k) d (omega (arith, lt))))

-- the numbers of the head
below : (n m : ℕ) → n ≤ m → m < 2 ^ 32 → FitsSigned w128 (pos n)
below n m le lt = natural_fits n (omega (arith, le, lt))

count_fits : (k n : ℕ) → k ≤ 4194304 → n ≤ 100000 → FitsSigned w128 (pos (k * n))
count_fits k n a b = record { sfits = omega (arith, mul-le k n 4194304 100000 a b) }

denominator_fits : (z : ℤ) → pos 1 ≤ℤ z → z ≤ℤ pos (2 ^ 126) → FitsSigned w128 z
denominator_fits z low high = quarter_fits z (omega (arith, ints, low)) high

pub head_good : (l : Instructions) → IsListing l → All IsKeyedLine (head_keyed l)
head_good l is =
    let nine = good (codes "count") (pos (l.repetitions * length l.body) ∷ []) refl (count_fits l.repetitions (length l.body) is.repetitions.1 is.instructions.1, tt) in
    let eight = good (codes "repeat") (pos l.repetitions ∷ pos (length l.body) ∷ []) refl (below l.repetitions 4194304 is.repetitions.1 (omega arith), (below (length l.body) 100000 is.instructions.1 (omega arith), tt)) in
    let seven = good (codes "output") (pos l.first ∷ pos l.outputs ∷ l.denominator ∷ []) refl
    (below l.first 1000 (omega (arith, is.inside, is.words.1)) (omega arith), (below l.outputs 1000 (omega (arith, is.inside, is.words.1)) (omega arith), (denominator_fits l.denominator is.denominator_low is.denominator_high, tt))) in
    let six = good (codes "words") (pos l.words ∷ []) refl (below l.words 1000 is.words.1 (omega arith), tt) in
    let five = good_of (codes "hi") l.high refl (half_words_fit l.high is.high) in
    let four = good_of (codes "lo") l.low refl (half_words_fit l.low is.low) in
    let three = good (codes "input") (pos l.states ∷ pos l.shift ∷ []) refl (below l.states 6 is.states.1 (omega arith), (below l.shift 48 is.shift (omega arith), tt)) in
    let two = good (codes "word") (pos l.width ∷ []) refl (below l.width 128 is.width.1 (omega arith), tt) in
    let one = good (codes "mpc-listing") (pos 1 ∷ []) refl (natural_fits 1 (omega arith), tt) in
    All-from_recursion IsKeyedLine (head_keyed l) (one, (two, (three, (four, (five, (six, (seven, (eight, (nine, tt)))))))))

pub good_lines : (l : Instructions) → IsListing l → All OpFitsWord l.body → All IsKeyedLine (keyed_listing l)
good_lines l is fits =
    let end = good (codes "end") [] refl tt in
    All-append IsKeyedLine (head_keyed l ++ map op_keyed l.body) (keyed_line (codes "end") [] ∷ [])
    (All-append IsKeyedLine (head_keyed l) (map op_keyed l.body) (head_good l is) (body_good l.words l.body is.words.1 is.ops fits)) (All-cons IsKeyedLine _ [] end (All-nil IsKeyedLine))

-- ---- an instruction from its line

pub small_is : (n : ℕ) → n < 2 ^ 32 → small (pos n) ≡ n
small_is n lt = grind (arith, nat_tests)

address_is : (a words : ℕ) → words ≤ 1000 → a < words → small (pos a) ≡ a
address_is a words le lt = small_is a (omega (arith, le, lt))

shift_is : (k : ℕ) → k ≤ 126 → small (pos k) ≡ k
shift_is k le = small_is k (omega (arith, le))

pub op_again : (words : ℕ) (op : Op) → words ≤ 1000 → IsOp words op → op_in (op_keyed op) ≡ op
op_again words Clear le is = refl
op_again words (Load a) le is = ap (λ (n : ℕ). Load n) (address_is a words le is)
op_again words (Store a) le is = ap (λ (n : ℕ). Store n) (address_is a words le is)
op_again words (Mac a c k) le is =
    let address = address_is a words le is.0 in
    let shift = shift_is k is.1 in
    (λ i. Mac (address i) c (shift i))
op_again words (Con c k) le is = ap (λ (n : ℕ). Con c n) (shift_is k is)
op_again words (AddM a) le is = ap (λ (n : ℕ). AddM n) (address_is a words le is)
op_again words (Shl k) le is = ap (λ (n : ℕ). Shl n) (shift_is k is)
op_again words (Shr k) le is = ap (λ (n : ℕ). Shr n) (shift_is k is)
op_again words Neg le is = refl
op_again words Low le is = refl
op_again words (Cap c) le is = refl

body_again : (words : ℕ) (body : List Op) → words ≤ 1000 → All (IsOp words) body → map op_in (map op_keyed body) ≡ body
body_again words [] le are = refl
body_again words (op ∷ body) le are =
    let first = op_again words op le (are 0 op (omega arith)) in
    let rest = body_again words body le (λ k d lt. are (suc k) d (omega (arith, lt))) in
    (λ i. first i ∷ rest i)

-- ---- one listing

pub line_count : (l : Instructions) → length (keyed_listing l) ≡ length l.body + 10
line_count l = omega (arith, length-append (head_keyed l ++ map op_keyed l.body) (keyed_line (codes "end") [] ∷ []), length-append (head_keyed l) (map op_keyed l.body), length-map l.body op_keyed)

pub listing_again : (l : Instructions) → IsListing l → listing_in (keyed_listing l) ≡ l
listing_again l is =
    let width = small_is l.width (omega (arith, is.width.1)) in
    let states = small_is l.states (omega (arith, is.states.1)) in
    let shift = small_is l.shift (omega (arith, is.shift)) in
    let words = small_is l.words (omega (arith, is.words.1)) in
    let first = small_is l.first (omega (arith, is.inside, is.words.1)) in
    let outputs = small_is l.outputs (omega (arith, is.inside, is.words.1)) in
    let repetitions = small_is l.repetitions (omega (arith, is.repetitions.1)) in
    let count : length (keyed_listing l) - 10 ≡ length l.body = omega (arith, line_count l) in
    let body : body_in (keyed_listing l) ≡ l.body =
    ap (λ (n : ℕ). map op_in (take n (map op_keyed l.body ++ keyed_line (codes "end") [] ∷ []))) count
    ∙ ap (map op_in) (take_at (map op_keyed l.body) (keyed_line (codes "end") [] ∷ []) (length l.body) (length-map l.body op_keyed)) ∙ body_again l.words l.body is.words.1 is.ops in
    (λ i. record l { width = width i; states = states i; shift = shift i; words = words i; first = first i; outputs = outputs i; repetitions = repetitions i; body = body i })

one_lines_listing : (l m : Instructions) → IsListing l → IsListing m → keyed_listing l ≡ keyed_listing m → l ≡ m
one_lines_listing l m p q e = sym (listing_again l p) ∙ ap listing_in e ∙ listing_again m q

pub one_listing : HasOneListing
one_listing bytes l m p q =
    one_lines_listing l m p.listing q.listing (one_text (keyed_listing l) (keyed_listing m) (good_lines l p.listing p.word) (good_lines m q.listing q.word) (keyed_text l ∙ sym p.text ∙ q.text ∙ sym (keyed_text m)))

-- ---- no prefix

no_more : (l m : Instructions) (rest : List Keyed) → IsListing l → IsListing m → keyed_listing m ≡ keyed_listing l ++ rest → rest ≡ []
no_more l m rest p q e = empty rest (omega (arith, same, line_count l, line_count m, ap length e, length-append (keyed_listing l) rest))
  where
    same : length m.body ≡ length l.body
    same = sym (small_is (length m.body) (omega (arith, q.instructions.1))) ∙ ap (λ (ls : List Keyed). small_in ls 7 1) e ∙ small_is (length l.body) (omega (arith, p.instructions.1))

    empty : (ls : List Keyed) → length ls ≡ 0 → ls ≡ []
    empty [] h = refl
    empty (x ∷ ls) h = absurd (omega (arith, h))

pub no_prefix : ListingHasNoPrefix
no_prefix bytes more l m p q =
    no_prefix_of (keyed_listing l) (keyed_listing m) more (good_lines l p.listing p.word) (good_lines m q.listing q.word)
    (ap (λ (t : List ℕ). t ++ more) (keyed_text l ∙ sym p.text) ∙ q.text ∙ sym (keyed_text m)) (λ rest e. no_more l m rest p.listing q.listing e)

-- ---- the grammar

blank_whole : IsWholeListing (keyed_listing (blank 2 1 0))
blank_whole = record { numbers = blank 2 1 0; listing = blank_is 2 1 0 (omega arith, omega arith) (omega arith, omega arith) (omega arith); word = All-replicate OpFitsWord 1 Clear tt; lines = refl }

pub grammar : IsGrammar IsWholeListing
grammar = record {
  some = begins IsWholeListing 0 (keyed_listing (blank 2 1 0)) blank_whole;
  each = λ ls w. subst (All IsKeyedLine) w.lines (good_lines w.numbers w.listing w.word);
  few = λ ls w. omega (arith, line_count w.numbers, ap length w.lines, w.listing.instructions.1);
}

pub are_lines : AreLines
are_lines = record {
  grammar = grammar;
  from = λ bytes l t. record { lines = keyed_listing l; whole = record { numbers = l; listing = t.listing; word = t.word; lines = refl }; text = t.text ∙ sym (keyed_text l) };
  to = λ bytes t. record { listing = t.whole.listing; word = t.whole.word; text = t.text ∙ ap (λ (ls : List Keyed). text_of (map spelled ls)) (sym t.whole.lines) ∙ keyed_text t.whole.numbers };
}
