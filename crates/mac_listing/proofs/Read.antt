-- What is read from the lines of a listing.
use Rattle.std.proofs.Common.{◌≡◌, ◌∙◌, ℕ, ◌-◌, List, [], ◌∷◌, Result, Ok, length, take, drop, map, refl, sym, ap, subst}
use Rattle.std.specs.Prelude.{MatchResult}
use Rattle.std.specs.Global.{Vec}
use Rattle.std.proofs.lemmas.List.{length-map, take-map, drop-map}
use Rattle.number_text.specs.Lines.{text_of}
use Rattle.text_lines.specs.declared.line.Line.{Line}
use Rattle.text_lines.specs.Lines.{Keyed, view, views, spelled}
use Rattle.mac_listing.specs.declared.instruction.Op.{Op}
use Rattle.mac_listing.specs.Listing.{Instructions, IsListing}
use Rattle.mac_listing.specs.Text.{IsListingText}
use Rattle.mac_listing.specs.FirstLine.{IsBadListingLine}
use Rattle.mac_listing.specs.Whole.{IsWholeListing}
use Rattle.mac_listing.specs.Reading.{op_in, body_in, listing_in}
use Rattle.mac_listing.proofs.Texts.{listing_again, one_listing, are_lines}

-- the listing whose lines they are
whole_is : (ls : List Keyed) (w : IsWholeListing ls) → listing_in ls ≡ w.numbers
whole_is ls w = ap listing_in (sym w.lines) ∙ listing_again w.numbers w.listing

pub whole_listing : (ls : List Keyed) → IsWholeListing ls → IsListing (listing_in ls)
whole_listing ls w = subst IsListing (sym (whole_is ls w)) w.listing

pub whole_text : (bytes : List ℕ) (ls : List Keyed) → IsWholeListing ls → bytes ≡ text_of (map spelled ls) → IsListingText bytes (listing_in ls)
whole_text bytes ls w e = subst (λ (l : Instructions). IsListingText bytes l) (sym (whole_is ls w)) (are_lines.to bytes (record { lines = ls; whole = w; text = e }))

-- ---- the instructions of the lines after the head
ops_seen : (lines : List Line) → map (λ (l : Line). op_in (view l)) lines ≡ map op_in (views lines)
ops_seen [] = refl
ops_seen (l ∷ lines) = ap (λ (ops : List Op). op_in (view l) ∷ ops) (ops_seen lines)

pub body_seen : (lines : List Line) → map (λ (l : Line). op_in (view l)) (take (length lines - 10) (drop 9 lines)) ≡ body_in (views lines)
body_seen lines =
    let n = length lines - 10 in
    ops_seen (take n (drop 9 lines)) ∙ ap (map op_in) (sym (take-map view n (drop 9 lines)) ∙ ap (take n) (sym (drop-map view 9 lines))) ∙ ap (λ (k : ℕ). map op_in (take (k - 10) (drop 9 (views lines)))) (sym (length-map lines view))

-- ---- the whole reader

-- what was read is the listing of the bytes
pub read_text : (bytes : List ℕ) (told : Result (Vec Line) ℕ) (v : Vec Line) (lines : List Line) (l : Instructions)
    → MatchResult told (λ v. IsWholeListing (views v.items) × (bytes ≡ text_of (map spelled (views v.items)))) (IsBadListingLine bytes) → told ≡ Ok v → lines ≡ v.items → l ≡ listing_in (views lines) → IsListingText bytes l
read_text bytes told v lines l h is same made =
    let both : IsWholeListing (views v.items) × (bytes ≡ text_of (map spelled (views v.items))) =
    subst (λ (r : Result (Vec Line) ℕ). MatchResult r (λ v. IsWholeListing (views v.items) × (bytes ≡ text_of (map spelled (views v.items)))) (IsBadListingLine bytes)) is h in
    subst (λ (m : Instructions). IsListingText bytes m) (sym (made ∙ ap (λ (ls : List Line). listing_in (views ls)) same)) (whole_text bytes (views v.items) both.0 both.1)

-- and that of any listing whose text they are
pub read_right : (bytes : List ℕ) (l m : Instructions) → IsListingText bytes l → IsListingText bytes m → l ≡ m
read_right bytes l m p q = one_listing bytes l m p q
