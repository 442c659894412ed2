use Rattle.mac_listing.proofs.Lengths as lengths
use Rattle.mac_listing.proofs.laws.length_law.Goals as goal

pub returns : goal.returns
returns c = lengths.length_law
