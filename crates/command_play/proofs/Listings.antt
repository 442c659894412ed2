-- What the reader of listings says of a fault.
use Rattle.std.proofs.Common.{◌≡◌, ◌⊎◌, ◌∙◌, inl, inr, ℕ, ◌≤◌, List, length, Option, refl, sym, ap}
use Rattle.io_edge.specs.Faults.{Files}
use Rattle.mac_listing.specs.Listing.{Instructions}
use Rattle.mac_listing.specs.Text.{IsListingText}
use Rattle.mac_listing.specs.FirstLine.{IsBadListingLine}
use Rattle.mac_listing.specs.declared.bad_listing.BadListing.{BadListing}
use Rattle.mac_listing.specs.declared.bad_listing.BadListing.TheVariants.{Line, Memory as no_listing}
use Rattle.command_line.specs.Kind.{EndsRead}
use Rattle.command_line.specs.Limit.{file_limit}
use Rattle.command_line.specs.declared.status.Status.{Status}
use Rattle.command_line.specs.declared.status.Status.TheVariants.{Memory, Listing}
use Rattle.command_design_files.proofs.Readers.{HeldBytes, AreSame, wrong_bytes}
use Rattle.command_play.specs.Texts.{ListingWrong, listing_kind}

module _ {D : Type 0} (file : ℕ) (held : Option Files) (name bytes : List ℕ) (known : HeldBytes held name bytes) (short : length bytes ≤ file_limit) where
  -- a reader that answers a fault
  pub ends_line : (before now : ℕ) (fault : BadListing) (s : Status) → (fault ≡ no_listing → s ≡ Memory) → ((l : ℕ) → fault ≡ Line l → s ≡ Listing file l) →
      ((l : ℕ) → AreSame D BadListing fault (Line l) → IsBadListingLine bytes l) → ((l : ℕ) → IsBadListingLine bytes l → AreSame D BadListing fault (Line l) ⊎ AreSame D BadListing fault no_listing) →
      ((l : Instructions) → IsListingText bytes l → fault ≡ no_listing) → EndsRead listing_kind file held name before now s
  ends_line before now no_listing s memory line bad first refused = inl (memory refl)
  ends_line before now (Line k) s memory line bad first refused =
      inr (inr (wrong_bytes bytes known short s (k, bad k refl, line k refl) only (λ l text. let same = refused l text in cc)))
    where
      told : (j : ℕ) (t : Status) → t ≡ Listing file j → AreSame D BadListing (Line k) (Line j) ⊎ AreSame D BadListing (Line k) no_listing → t ≡ s
      told j t is (inl same) = let e : k ≡ j = cc same in is ∙ ap (Listing file) (sym e) ∙ sym (line k refl)
      told j t is (inr never) = absurd (let no : ⊥ = cc never in no)

      only : (t : Status) → ListingWrong file bytes t → t ≡ s
      only t wrong = told wrong.0 t wrong.2 (first wrong.0 wrong.1)
