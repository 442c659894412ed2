use Rattle.scaled_run.proofs.RoomLaws as laws
use Rattle.scaled_run.proofs.laws.exact_corner_room_law.Goals as goal

pub returns : goal.returns
returns c = laws.exact_corner_room_law
