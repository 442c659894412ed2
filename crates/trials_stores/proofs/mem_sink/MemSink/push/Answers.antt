use Rattle.std.proofs.Common.{◌≡◌, ◌↔◌, IsTrue, length, inl, inr, refl, ap, sym, arith}
use Rattle.std.specs.List.{Contains}
use Rattle.trials_stores.specs.Memory.{MemorySink}
use Rattle.trials_stores.proofs.mem_sink.MemSink.push.Goals as goal
use Rattle.trials_stores.proofs.mem_sink.MemSink.push.Goals.{then-is_listed-via-then-is_listed, then-is_listed-via-else-is_listed+then-bytes-self}

pub returns-then-is_listed-clause-failed : goal.returns-then-is_listed-clause-failed
returns-then-is_listed-clause-failed c =
    let listed : IsTrue c.is_listed.result ↔ Contains c.args.self.now.fails c.saturating_add-self-inside.result = rw (← c.self.view_is, ← c.deref.ensures.value) c.is_listed.ensures in
    let room : c.args.self.now.room ≡ c.self.inside.room = ap (λ (s : MemorySink). s.room) (sym c.self.view_is) in
    let got : length c.args.self.now.got ≡ length c.self.inside.got.items = ap (λ (s : MemorySink). length s.got) (sym c.self.view_is) in (
      λ e. elim c.then-is_listed.branch [
        | then-is_listed-via-then-is_listed w ↦ inl (listed.0 w.if-is_listed.true)
        | then-is_listed-via-else-is_listed+then-bytes-self w ↦ inr (omega (arith, room, got))
      ],
      λ h. refl,
    )

pub returns-clause-failed : goal.returns-clause-failed
returns-clause-failed c =
    let listed : IsTrue c.is_listed.result ↔ Contains c.args.self.now.fails c.saturating_add-self-inside.result = rw (← c.self.view_is, ← c.deref.ensures.value) c.is_listed.ensures in
    let room : c.args.self.now.room ≡ c.self.inside.room = ap (λ (s : MemorySink). s.room) (sym c.self.view_is) in
    let got : length c.args.self.now.got ≡ length c.self.inside.got.items = ap (λ (s : MemorySink). length s.got) (sym c.self.view_is) in (
      λ e. cc,
      λ h. elim h [
        | inl has ↦ cc (listed.1 has)
        | inr more ↦ absurd (omega (arith, room, got, more))
      ],
    )
