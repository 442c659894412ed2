use Rattle.std.proofs.Common.{◌≡◌, ◌∙◌, Some, ap, arith, max, option_map, unwrap_or, length}
use Rattle.std.specs.Option.{option_and_then}
use Rattle.std.proofs.lemmas.Map.Text.{text_keys}
use Rattle.std.proofs.lemmas.Result.{on_ok_weaker}
use Rattle.trials_stores.specs.Memory.{rooms_of}
use Rattle.trials_stores.specs.Slot.{Slot}
use Rattle.trials_stores.proofs.Slots.{slot_seen}
use Rattle.trials_stores.proofs.mem_store.MemStore.hold.Goals as goal

pub returns-clause-held : goal.returns-clause-held
returns-clause-held c =
    on_ok_weaker c.put.result (λ slots. record {
      here = ap (option_and_then (λ (e : Slot). e.held)) (slots.0 ∙ ap Some c.in_ok-entry.ensures);
      others = λ q ne. ap (option_and_then (λ (e : Slot). e.held)) (slots.1 q ne);
    }) c.put.ensures.slots

pub returns-clause-room : goal.returns-clause-room
returns-clause-room c =
    let room : c.match-get.room ≡ max (unwrap_or (rooms_of c.args.self.now c.args.name.now) 0) (length c.args.bytes.now) = rw (← c.self.view_is) (simp slot_seen (grind (arith, text_keys))) in
    on_ok_weaker c.put.result (λ slots. ap (option_map (λ (e : Slot). e.room)) (slots.0 ∙ ap Some c.in_ok-entry.ensures) ∙ ap Some room) c.put.ensures.slots

pub returns-clause-rooms : goal.returns-clause-rooms
returns-clause-rooms c = on_ok_weaker c.put.result (λ slots q ne. ap (option_map (λ (e : Slot). e.room)) (slots.1 q ne)) c.put.ensures.slots
