-- The text of a controller's listing is no longer than a file may be.
use Rattle.std.proofs.Common.{◌≡◌, ◌∙◌, ℕ, suc, ◌+◌, ◌*◌, ◌<◌, ◌≤◌, pos, List, [], ◌∷◌, ◌++◌, length, map, ap, arith}
use Rattle.std.specs.Prelude.{All, codes}
use Rattle.std.specs.Fmt.{signed_decimal}
use Rattle.std.proofs.lemmas.Fmt.{length-decimal-le_wide}
use Rattle.std.proofs.lemmas.List.{length-append}
use Rattle.number_text.specs.Lines.{line_of, text_of}
use Rattle.text_lines.proofs.OneText.{text_append}
use Rattle.text_lines.proofs.Lengths.{line_length, number_short, text_length, text_short as lines_short}
use Rattle.qp_model.specs.machine.Controller.{Numbers}
use Rattle.qp_model.specs.machine.AbsoluteSums.{IsController}
use Rattle.mac_listing.specs.declared.instruction.Op.{Op}
use Rattle.mac_listing.specs.declared.instruction.Op.TheVariants.{Clear, Load, Store, Mac, Con, AddM, Shl, Shr, Neg, Low, Cap}
use Rattle.mac_listing.specs.Listing.{Instructions, IsOp, IsListing, listing_of}
use Rattle.mac_listing.specs.Text.{op_line, head_keyed, head_lines, listing_text, OpFitsWord, IsListingText}
use Rattle.mac_listing.proofs.Ranges.{body_short}
use Rattle.mac_listing.proofs.Texts.{head_good}

-- ---- numbers
below_thousand : (n : ℕ) → n < 1000 → length (signed_decimal (pos n)) ≤ 3
below_thousand n lt = length-decimal-le_wide 3 n (omega arith) (omega (arith, lt)) (omega (arith, lt))

-- ---- an instruction
address_short : (a words : ℕ) → words ≤ 1000 → a < words → length (signed_decimal (pos a)) ≤ 3
address_short a words le lt = below_thousand a (omega (arith, le, lt))

op_short : (words : ℕ) (op : Op) → words ≤ 1000 → IsOp words op → OpFitsWord op → length (op_line op) ≤ 52
op_short words Clear le is fits = omega arith
op_short words (Load a) le is fits = omega (arith, line_length (codes "load") (pos a ∷ []), address_short a words le is)
op_short words (Store a) le is fits = omega (arith, line_length (codes "store") (pos a ∷ []), address_short a words le is)
op_short words (Mac a c k) le is fits =
    omega (arith, line_length (codes "mac") (pos a ∷ c ∷ pos k ∷ []), address_short a words le is.0, number_short c fits, below_thousand k (omega (arith, is.1)))
op_short words (Con c k) le is fits = omega (arith, line_length (codes "con") (c ∷ pos k ∷ []), number_short c fits, below_thousand k (omega (arith, is)))
op_short words (AddM a) le is fits = omega (arith, line_length (codes "addm") (pos a ∷ []), address_short a words le is)
op_short words (Shl k) le is fits = omega (arith, line_length (codes "shl") (pos k ∷ []), below_thousand k (omega (arith, is)))
op_short words (Shr k) le is fits = omega (arith, line_length (codes "shr") (pos k ∷ []), below_thousand k (omega (arith, is)))
op_short words Neg le is fits = omega arith
op_short words Low le is fits = omega arith
op_short words (Cap c) le is fits = omega (arith, line_length (codes "cap") (c ∷ []), number_short c fits)

-- ---- texts
body_text_short : (words : ℕ) (body : List Op) → words ≤ 1000 → All (IsOp words) body → All OpFitsWord body → length (text_of (map op_line body)) ≤ 53 * length body
body_text_short words [] le are fits = omega arith
body_text_short words (op ∷ body) le are fits =
    omega (
      arith,
      text_length (op_line op) (map op_line body),
      op_short words op le (are 0 op (omega arith)) (fits 0 op (omega arith)),
      body_text_short words body le (λ k d lt. are (suc k) d (omega (arith, lt))) (λ k d lt. fits (suc k) d (omega (arith, lt))),
    )

head_short : (l : Instructions) → IsListing l → length (text_of (head_lines l)) ≤ 998
head_short l is =
    omega (arith, lines_short (head_keyed l) (λ k d lt. (head_good l is k d lt).fits), is.low_long, is.high_long, is.states.1)

-- by how many instructions it has
listing_short : (l : Instructions) → IsListing l → All OpFitsWord l.body → length (listing_text l) ≤ 53 * length l.body + 1002
listing_short l is fits =
    let head = text_of (head_lines l) in
    let body = text_of (map op_line l.body) in
    let end = text_of (line_of (codes "end") [] ∷ []) in
    let all : length (listing_text l) ≡ length head + length body + length end =
    ap length (text_append (head_lines l ++ map op_line l.body) (line_of (codes "end") [] ∷ [])) ∙ length-append (text_of (head_lines l ++ map op_line l.body)) end
    ∙ ap (λ (k : ℕ). k + length end) (ap length (text_append (head_lines l) (map op_line l.body)) ∙ length-append head body) in
    omega (arith, all, head_short l is, body_text_short l.words l.body is.words.1 is.ops fits)

pub text_short : (c : Numbers) (bytes : List ℕ) → IsController c → IsListingText bytes (listing_of c) → length bytes ≤ 4194304
text_short c bytes sound text = omega (arith, ap length text.text, listing_short (listing_of c) text.listing text.word, body_short c sound)
