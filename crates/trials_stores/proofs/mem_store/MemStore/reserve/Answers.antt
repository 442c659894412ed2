use Rattle.std.proofs.Common.{◌≡◌, ◌∙◌, ℕ, List, map, refl, string_bytes, Option, None, Some, ap, sym, max, option_map, unwrap_or, rules, arith}
use Rattle.std.proofs.lemmas.Map.Text.{text_keys}
use Rattle.std.proofs.lemmas.Map.Steps.{set_value_same}
use Rattle.std.specs.BTreeMap.{get_by_text}
use Rattle.std.specs.Map.{lookup}
use Rattle.std.specs.Str.{bytes_eq}
use Rattle.std.proofs.lemmas.Result.{on_ok_weaker}
use Rattle.std.specs.Option.{option_and_then}
use Rattle.trials_stores.specs.Memory.{slot_at}
use Rattle.trials_stores.specs.Slot.{Slot}
use Rattle.trials_stores.proofs.Names.{at_each_name}
use Rattle.trials_stores.proofs.Slots.{slot_seen}
use Rattle.trials_stores.proofs.mem_store.MemStore.reserve.Goals as goal

pub returns-in-Some-clause-room : goal.returns-in-Some-clause-room
returns-in-Some-clause-room c = rw (← c.self.view_is) (simp slot_seen (grind (arith, text_keys)))

pub returns-in-Some-clause-rooms : goal.returns-in-Some-clause-rooms
returns-in-Some-clause-rooms c = λ q ne. rw (← c.self.view_is) (simp slot_seen (grind (arith, text_keys)))

pub returns-in-Some-clause-files : goal.returns-in-Some-clause-files
returns-in-Some-clause-files c = rw (← c.self.view_is) (at_each_name _ _ c.args.name.now (simp slot_seen (grind (arith, text_keys))) (λ q ne. simp slot_seen (grind (arith, text_keys))))

pub returns-in_err-reserve-clause-err : goal.returns-in_err-reserve-clause-err
returns-in_err-reserve-clause-err c =
    let e : (c.get_mut.follows.lender c.reserve.new.self).entries ≡ c.self.inside.files.entries =
    (let found : get_by_text c.self.inside.files c.args.name.now ≡ Some c.reserve.new.self = grind arith in
    (c.get_mut.follows.holds c.reserve.new.self).0 ∙ set_value_same _ _ _ found) in
    rw (← c.self.view_is, e) (search rules)

-- there was no entry
none_there : (c : goal.After-put) → slot_at c.args.self.now c.args.name.now ≡ None
none_there c = rw (← c.self.view_is) (simp slot_seen (grind (arith, text_keys)))

pub returns-clause-room : goal.returns-clause-room
returns-clause-room c =
    let room : c.args.bytes ≡ max (unwrap_or (option_map (λ (e : Slot). e.room) None) 0) c.args.bytes = omega arith in
    on_ok_weaker c.put.result (λ slots. ap (option_map (λ (e : Slot). e.room)) (slots.0 ∙ ap Some c.in_ok-entry.ensures)
    ∙ ap Some (room ∙ ap (λ (slot : Option Slot). max (unwrap_or (option_map (λ (e : Slot). e.room) slot) 0) c.args.bytes) (sym (none_there c)))) c.put.ensures.slots

-- the look-up left what was there
kept : (c : goal.After-put) (q : List ℕ) → lookup (bytes_eq q) (map (λ e. (string_bytes e.0, e.1)) c.get_mut.follows.lender-at-none.entries) ≡ slot_at c.args.self.now q
kept c q =
    let same : c.get_mut.follows.lender-at-none.entries ≡ c.self.inside.files.entries = search rules in
    rw (← c.self.view_is, same) refl

pub returns-clause-rooms : goal.returns-clause-rooms
returns-clause-rooms c = on_ok_weaker c.put.result (λ slots q ne. ap (option_map (λ (e : Slot). e.room)) (slots.1 q ne ∙ kept c q)) c.put.ensures.slots

pub returns-clause-files : goal.returns-clause-files
returns-clause-files c =
    let held = option_and_then (λ (e : Slot). e.held) in
    on_ok_weaker c.put.result (λ slots. at_each_name _ _ c.args.name.now (ap held (slots.0 ∙ ap Some c.in_ok-entry.ensures) ∙ ap held (sym (none_there c))) (λ q ne. ap held (slots.1 q ne ∙ kept c q))) c.put.ensures.slots
