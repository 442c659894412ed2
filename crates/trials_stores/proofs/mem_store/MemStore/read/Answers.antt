use Rattle.std.proofs.Common.{◌≡◌, ◌↔◌, ◌∙◌, IsTrue, option_map, Some, inl, inr, refl, ap, sym, length, arith}
use Rattle.std.specs.List.{Contains}
use Rattle.trials_stores.specs.Memory.{files_of}
use Rattle.trials_stores.proofs.mem_store.MemStore.read.Goals as goal
use Rattle.trials_stores.proofs.mem_store.MemStore.read.Goals.{then-is_listed, else-is_listed}

pub returns-in_default-clause-failed : goal.returns-in_default-clause-failed
returns-in_default-clause-failed c =
    let listed : IsTrue c.is_listed.result ↔ Contains c.args.self.now.failing_reads c.saturating_add-self-inside.result = rw (← c.self.view_is, ← c.deref.ensures.value) c.is_listed.ensures in (
      λ e. elim c.if-is_listed.branch [
        | then-is_listed w ↦ inl (listed.0 w.if-is_listed.true)
        | else-is_listed w ↦ inr (rw (← c.self.view_is) (sym w.held-bytes.ensures ∙ ap (option_map (λ b. b.now)) (sym w.bytes-is ∙ c.in_default.is)))
      ],
      λ h. refl,
    )

-- what was found stands under the name, and its read is not listed
found : (c : goal.Then-bytes-limit) → (files_of c.args.self.now c.args.name.now ≡ Some c.in-Some.bytes.now) × (Contains c.args.self.now.failing_reads c.saturating_add-self-inside.result → ⊥)
found c =
    let listed : IsTrue c.is_listed.result ↔ Contains c.args.self.now.failing_reads c.saturating_add-self-inside.result = rw (← c.self.view_is, ← c.deref.ensures.value) c.is_listed.ensures in
    elim c.if-is_listed.branch [
      | then-is_listed w ↦ (let none = sym w.bytes-is ∙ c.in-Some.is in cc)
      | else-is_listed w ↦
          (rw (← c.self.view_is) (sym w.held-bytes.ensures ∙ ap (option_map (λ b. b.now)) (sym w.bytes-is ∙ c.in-Some.is)), λ has. let yes = listed.1 has in cc)
    ]

pub returns-then-bytes-limit-clause-failed : goal.returns-then-bytes-limit-clause-failed
returns-then-bytes-limit-clause-failed c = (
  λ e. cc,
  λ h. elim h [
    | inl has ↦ absurd ((found c).1 has)
    | inr none ↦ (let is = (found c).0 in cc)
  ],
)

pub returns-then-bytes-limit-clause-long : goal.returns-then-bytes-limit-clause-long
returns-then-bytes-limit-clause-long c = λ e. record { bytes = c.in-Some.bytes.now; held = (found c).0; longer = c.if-bytes-limit.true }

-- and where it was copied
copied : (c : goal.In_ok-from_slice) → (files_of c.args.self.now c.args.name.now ≡ Some c.in-Some.bytes.now) × (Contains c.args.self.now.failing_reads c.saturating_add-self-inside.result → ⊥)
copied c =
    let listed : IsTrue c.is_listed.result ↔ Contains c.args.self.now.failing_reads c.saturating_add-self-inside.result = rw (← c.self.view_is, ← c.deref.ensures.value) c.is_listed.ensures in
    elim c.if-is_listed.branch [
      | then-is_listed w ↦ (let none = sym w.bytes-is ∙ c.in-Some.is in cc)
      | else-is_listed w ↦
          (rw (← c.self.view_is) (sym w.held-bytes.ensures ∙ ap (option_map (λ b. b.now)) (sym w.bytes-is ∙ c.in-Some.is)), λ has. let yes = listed.1 has in cc)
    ]

pub returns-clause-ok : goal.returns-clause-ok
returns-clause-ok c =
    let items = c.in_ok-from_slice.ensures.items in
    ((copied c).0 ∙ ap Some (sym items), omega (arith, ap length items))

pub returns-clause-failed : goal.returns-clause-failed
returns-clause-failed c = (
  λ e. cc,
  λ h. elim h [
    | inl has ↦ absurd ((copied c).1 has)
    | inr none ↦ (let is = (copied c).0 in cc)
  ],
)
