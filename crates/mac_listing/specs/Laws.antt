-- What is said of all listing texts.
use Rattle.std.specs.Prelude.{◌≡◌, ℕ, List, [], ◌++◌}
use Rattle.text_lines.specs.Grammar.{IsGrammar, IsTextOf}
use Rattle.mac_listing.specs.Listing.{Instructions}
use Rattle.mac_listing.specs.Text.{IsListingText}
use Rattle.mac_listing.specs.Whole.{IsWholeListing}

-- a text is the text of one listing
abbrev pub HasOneListing : Type 0
HasOneListing = (bytes : List ℕ) (l m : Instructions) → IsListingText bytes l → IsListingText bytes m → l ≡ m

-- no text goes on where another ends
abbrev pub ListingHasNoPrefix : Type 0
ListingHasNoPrefix = (bytes more : List ℕ) (l m : Instructions) → IsListingText bytes l → IsListingText (bytes ++ more) m → more ≡ []

-- the lines of listings are a grammar, and its texts are those of listings
pub record AreLines : Type 0 where
  pub grammar : IsGrammar IsWholeListing
  pub from : (bytes : List ℕ) (l : Instructions) → IsListingText bytes l → IsTextOf IsWholeListing bytes
  pub to : (bytes : List ℕ) (t : IsTextOf IsWholeListing bytes) → IsListingText bytes t.whole.numbers
