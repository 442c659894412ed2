use Rattle.std.proofs.Common.{◌≡◌, Some, None, true, false, arith}
use Rattle.std.proofs.lemmas.Map.Text.{text_keys}
use Rattle.std.proofs.lemmas.Grind.{common_steps}
use Rattle.std.specs.BTreeMap.{get_by_text}
use Rattle.trials_stores.proofs.Names.{at_each_name}
use Rattle.trials_stores.proofs.Slots.{slot_seen}
use Rattle.trials_stores.proofs.mem_store.MemStore.write.Goals as goal
use Rattle.trials_stores.proofs.mem_store.MemStore.write.Goals.{in-Some, in-None}

pub returns-then-written-clause-here : goal.returns-then-written-clause-here
returns-then-written-clause-here c = rw (← c.self.view_is) (simp slot_seen (grind (arith, text_keys)))

pub returns-clause-here : goal.returns-clause-here
returns-clause-here c = rw (← c.self.view_is) (simp slot_seen (grind (arith, text_keys)))

pub returns-then-written-clause-ok : goal.returns-then-written-clause-ok
returns-then-written-clause-ok c = rw (← c.self.view_is) (simp slot_seen (grind (arith, text_keys)))

pub returns-clause-ok : goal.returns-clause-ok
returns-clause-ok c = elim c.match-get_mut.branch [
  | in-Some w ↦ (let found : get_by_text c.self.inside.files c.args.name.now ≡ Some w.in-Some.entry.now = grind arith in
      rw (← c.self.view_is) (simp (slot_seen, found) (
        λ e. absurd (let no : false ≡ true = e in cc),
        λ h. let none : c.keep_of-keep.result ≡ None = grind (arith, h.1) in
            let yes : w.write-written.result ≡ true = w.write-written.ensures.written.1 (h.0, none) in cc,
      )))
  | in-None w ↦ rw (← c.self.view_is) (simp slot_seen (grind (arith, common_steps)))
]

pub returns-then-written-clause-others : goal.returns-then-written-clause-others
returns-then-written-clause-others c = λ q ne. rw (← c.self.view_is) (simp slot_seen (grind (arith, text_keys)))

pub returns-clause-others : goal.returns-clause-others
returns-clause-others c = λ q ne. rw (← c.self.view_is) (simp slot_seen (grind (arith, text_keys)))

pub returns-then-written-clause-rooms : goal.returns-then-written-clause-rooms
returns-then-written-clause-rooms c = rw (← c.self.view_is) (at_each_name _ _ c.args.name.now (simp slot_seen (grind (arith, text_keys))) (λ q ne. simp slot_seen (grind (arith, text_keys))))

pub returns-clause-rooms : goal.returns-clause-rooms
returns-clause-rooms c = rw (← c.self.view_is) (at_each_name _ _ c.args.name.now (simp slot_seen (grind (arith, text_keys))) (λ q ne. simp slot_seen (grind (arith, text_keys))))
