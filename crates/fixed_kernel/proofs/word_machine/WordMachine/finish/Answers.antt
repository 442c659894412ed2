use Rattle.std.proofs.Common.{◌≡◌, ℕ, List, ℤ, Vec, Global, length, ap, sym, subst, ◌∙◌, rules, arith}
use Rattle.std.specs.Vec.{with_items}
use Rattle.std.proofs.lemmas.List.{with_items_is}
use Rattle.qp_model.specs.machine.Controller.{numbers}
use Rattle.qp_model.specs.machine.Machine.{after}
use Rattle.qp_model.specs.machine.AbsoluteSums.{state_magnitudes}
use Rattle.qp_model.specs.machine.Within.{AreWithin}
use Rattle.fixed_kernel.specs.Raised.{with_raised}
use Rattle.fixed_kernel.specs.Spans.{words_of}
use Rattle.fixed_kernel.proofs.Words.{made_lent_in}
use Rattle.fixed_kernel.proofs.word_machine.WordMachine.finish.Goals as goal

-- room whose words were lent and written is as long as it was
refilled : (room : Vec ℤ Global) (lent new : List ℤ) (n : ℕ) → length new ≡ length lent → length lent ≡ room.len → lent ≡ room.items → length room.items ≡ n → length (with_items room new).items ≡ n
refilled room lent new n kept whole was long = ap (λ (xs : List ℤ). length xs) (with_items_is room new (kept ∙ whole)) ∙ kept ∙ ap (λ (xs : List ℤ). length xs) was ∙ long

pub finish_in_words-requires : goal.finish_in_words-requires
finish_in_words-requires c =
    let n = numbers c.args.c.now in
    let machine = c.requires.machine in
    let shaped = c.requires.sound.form.sized.shaped in
    let state = c.split_at_mut-state.ensures in
    let multipliers = c.split_at_mut-multipliers.ensures in
    let plan = c.split_at_mut-plan.ensures in
    let entries : c.len.result ≡ length n.offsets = search rules in
    record {
      setting = record {
        sound = c.requires.sound;
        sized = machine.sized;
        form = machine.form;
        state = subst (λ (xs : List ℤ). AreWithin xs (state_magnitudes n)) (sym state.front) c.requires.state;
      };
      entry_room = ap (λ (xs : List ℤ). length xs) c.deref_mut.ensures.value ∙ machine.room.entry_starts;
      row_room = ap (λ (xs : List ℤ). length xs) c.deref_mut-2.ensures.value ∙ machine.room.row_starts;
      multiplier_room = ap (λ (xs : List ℤ). length xs) c.deref_mut-3.ensures.value ∙ machine.room.multipliers ∙ shaped.bounds ∙ sym multipliers.front_len;
      plan_room = ap (λ (xs : List ℤ). length xs) c.deref_mut-4.ensures.value ∙ machine.room.plan ∙ sym entries ∙ sym plan.front_len;
      sum_room = omega (arith, ap (λ (xs : List ℤ). length xs) c.deref_mut-5.ensures.value, machine.room.sums, entries, plan.back_len, multipliers.back_len, state.back_len, c.requires.long, c.requires.sound.form.sized.words, shaped.offsets);
      made = c.requires.made;
      start = made_lent_in n c.args.words.now _ _ _ _ _ _ state.back multipliers.front multipliers.back entries plan.front plan.back ∙ c.requires.start
          ∙ ap (λ (xs : List ℤ). with_raised n (after n xs c.args.made)) (sym state.front);
    }

pub returns-clause-machine : goal.returns-clause-machine
returns-clause-machine c =
    let machine = c.requires.machine in
    let room = c.args.self.now.room in
    let new = c.finish_in_words.new in
    let kept = c.finish_in_words.auto in
    record {
      sized = machine.sized;
      form = machine.form;
      room = record {
        entry_starts = refilled room.entry_starts _ new.entry_room _ kept.entry_room c.deref_mut.ensures.len c.deref_mut.ensures.value machine.room.entry_starts;
        row_starts = refilled room.row_starts _ new.row_room _ kept.row_room c.deref_mut-2.ensures.len c.deref_mut-2.ensures.value machine.room.row_starts;
        multipliers = refilled room.multipliers _ new.multiplier_room _ kept.multiplier_room c.deref_mut-3.ensures.len c.deref_mut-3.ensures.value machine.room.multipliers;
        plan = refilled room.plan _ new.plan_room _ kept.plan_room c.deref_mut-4.ensures.len c.deref_mut-4.ensures.value machine.room.plan;
        sums = refilled room.sums _ new.sum_room _ kept.sum_room c.deref_mut-5.ensures.len c.deref_mut-5.ensures.value machine.room.sums;
      };
    }

pub returns-clause-words : goal.returns-clause-words
returns-clause-words c =
    let n = numbers c.args.c.now in
    let state = c.split_at_mut-state in
    ap (words_of state.result.0.now) c.finish_in_words.ensures ∙ ap (λ (ys : List ℤ). words_of ys (with_raised n (after n ys n.steps))) state.ensures.front
