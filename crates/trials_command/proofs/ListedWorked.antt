-- What `list` leaves, said of files with the names 1 and 2.
use Rattle.std.proofs.Common.{ℕ, ◌≤◌, List, [], ◌∷◌, length, Some, inl, refl}
use Rattle.io_edge.specs.Faults.{Files, IsWritten, IsCutShort}
use Rattle.qp_model.specs.machine.Controller.{Numbers}
use Rattle.mac_listing.specs.Listing.{listing_of}
use Rattle.mac_listing.specs.Text.{IsListingText}
use Rattle.command_line.specs.declared.status.Status.TheVariants.{Done, WriteFault}
use Rattle.command_list.specs.Listed.{IsListed, IsListingCut, ListLeaves, list_deeds}

abbrev named : List (List ℕ)
named = [] ∷ (1 ∷ []) ∷ (2 ∷ []) ∷ []

-- `play` reads so many bytes
short_enough_to_be_read : (c : Numbers) (files new : Files) (it : IsListed named c files new) → length it.text ≤ 4194304
short_enough_to_be_read c files new it = it.short

text_of_the_listing : (c : Numbers) (files new : Files) (it : IsListed named c files new) → IsListingText it.text (listing_of c)
text_of_the_listing c files new it = it.is_text

in_the_second : (c : Numbers) (files new : Files) (it : IsListed named c files new) → IsWritten files new (2 ∷ []) it.text
in_the_second c files new it = it.written

-- a text that was cut short is one that could have been read
cut_of_a_short_one : (c : Numbers) (files new : Files) (it : IsListingCut named c files new) → length it.text ≤ 4194304
cut_of_a_short_one c files new it = it.short

cut_of_the_listing : (c : Numbers) (files new : Files) (it : IsListingCut named c files new) → IsListingText it.text (listing_of c)
cut_of_the_listing c files new it = it.is_text

cut_in_the_second : (c : Numbers) (files new : Files) (it : IsListingCut named c files new) → IsCutShort files new (2 ∷ []) it.text
cut_in_the_second c files new it = it.cut

when_done : (c : Numbers) (files new : Files) → ListLeaves c named Done (Some files) (Some new) → IsListed named c files new
when_done c files new it = it.listed refl

when_the_write_failed : (c : Numbers) (files new : Files) → ListLeaves c named (WriteFault 2) (Some files) (Some new) → IsListingCut named c files new
when_the_write_failed c files new it = it.cut refl

reads_the_first : list_deeds.reads 1
reads_the_first = inl refl

writes_the_second : list_deeds.writes 2
writes_the_second = refl
