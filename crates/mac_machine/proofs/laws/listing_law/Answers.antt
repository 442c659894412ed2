use Rattle.mac_machine.proofs.ListingLaw as law
use Rattle.mac_machine.proofs.laws.listing_law.Goals as goal

pub returns : goal.returns
returns c = law.listing_law
