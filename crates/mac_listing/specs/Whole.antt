-- Lists of lines that are all lines of a listing.
use Rattle.std.specs.Prelude.{◌≡◌, List, All}
use Rattle.text_lines.specs.Lines.{Keyed}
use Rattle.mac_listing.specs.Listing.{Instructions, IsListing}
use Rattle.mac_listing.specs.Text.{keyed_listing, OpFitsWord}

pub record IsWholeListing (ls : List Keyed) : Type 0 where
  pub numbers : Instructions
  pub listing : IsListing numbers
  pub word : All OpFitsWord numbers.body
  pub lines : keyed_listing numbers ≡ ls
