use Rattle.std.proofs.Common.{arith}
use Rattle.std.proofs.lemmas.Map.Text.{text_keys}
use Rattle.trials_stores.proofs.Slots.{slot_seen}
use Rattle.trials_stores.proofs.mem_store.MemStore.held.Goals as goal

pub returns-in_err-get : goal.returns-in_err-get
returns-in_err-get c = rw (← c.self.view_is) (simp slot_seen (grind (arith, text_keys)))

pub returns : goal.returns
returns c = rw (← c.self.view_is) (simp slot_seen (grind (arith, text_keys)))
