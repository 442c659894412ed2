use Rattle.std.proofs.Common.{arith}
use Rattle.std.proofs.lemmas.Map.Text.{text_keys}
use Rattle.trials_stores.proofs.Slots.{slot_seen}
use Rattle.trials_stores.proofs.mem_store.MemStore.put.Goals as goal

pub returns-clause-slots : goal.returns-clause-slots
returns-clause-slots c = rw (← c.self.view_is) (simp slot_seen (grind (arith, text_keys)), λ q ne. simp slot_seen (grind (arith, text_keys)))
