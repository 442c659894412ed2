use Rattle.std.proofs.Common.{length, ap, sym, subst, ◌∙◌}
use Rattle.qp_model.specs.machine.Controller.{numbers}
use Rattle.overflow_check.specs.FastMachine.{fast_lists}
use Rattle.fast_machine.specs.FastReady.{IsFastReady}
use Rattle.fast_machine.proofs.FastRuns.{run_kept}
use Rattle.fast_machine.proofs.FastHeld.{refilled}
use Rattle.fast_machine.proofs.word_machine.FastWords.finish.Goals as goal
use Rattle.fast_machine.proofs.word_machine.FastWords.finish.Goals.{Start}

-- how long the lists are that were made
ready : (c : Start) → IsFastReady (numbers c.args.c.now) c.args.made (fast_lists c.args.means.now c.args.plan.now c.args.multipliers.now c.args.reached.now c.args.sums.now)
ready c =
    let n = numbers c.args.c.now in
    subst (IsFastReady n c.args.made) (sym c.requires.start) (run_kept n c.args.state.now c.args.made c.requires.setting.sound.form.sized.rest.clamp_low c.requires.setting.within)

pub finish_in_words-requires : goal.finish_in_words-requires
finish_in_words-requires c =
    let machine = c.requires.machine.machine in
    let room = machine.room in
    let was = ready (goal.at.finish_in_words-requires c).Start in
    record {
      setting = record { sound = c.requires.setting.sound; sized = machine.sized; form = machine.form; state = c.requires.setting.within };
      entry_room = ap length c.deref_mut.ensures.value ∙ room.entry_starts;
      row_room = ap length c.deref_mut-2.ensures.value ∙ room.row_starts;
      mean_room = ap length c.deref_mut-3.ensures.value ∙ c.requires.machine.means ∙ sym was.means_long;
      plan_room = ap length c.deref_mut-4.ensures.value ∙ room.plan ∙ sym was.plan_long;
      multiplier_room = ap length c.deref_mut-5.ensures.value ∙ room.multipliers ∙ sym was.rows.multipliers_long;
      reached_room = ap length c.deref_mut-6.ensures.value ∙ c.requires.machine.reached ∙ sym was.rows.reached_long;
      sum_room = ap length c.deref_mut-7.ensures.value ∙ room.sums ∙ sym was.entries.sums_long;
      made = c.requires.made;
      start = c.requires.start;
    }

pub returns-clause-machine : goal.returns-clause-machine
returns-clause-machine c =
    let own = c.requires.machine in
    let machine = own.machine in
    let words = c.args.self.now in
    let room = words.machine.room in
    let new = c.finish_in_words.new in
    let kept = c.finish_in_words.auto in
    record {
      machine = record {
        sized = machine.sized;
        form = machine.form;
        room = record {
          entry_starts = refilled room.entry_starts _ new.entry_room _ kept.entry_room c.deref_mut.ensures.len c.deref_mut.ensures.value machine.room.entry_starts;
          row_starts = refilled room.row_starts _ new.row_room _ kept.row_room c.deref_mut-2.ensures.len c.deref_mut-2.ensures.value machine.room.row_starts;
          multipliers = refilled room.multipliers _ new.multiplier_room _ kept.multiplier_room c.deref_mut-5.ensures.len c.deref_mut-5.ensures.value machine.room.multipliers;
          plan = refilled room.plan _ new.plan_room _ kept.plan_room c.deref_mut-4.ensures.len c.deref_mut-4.ensures.value machine.room.plan;
          sums = refilled room.sums _ new.sum_room _ kept.sum_room c.deref_mut-7.ensures.len c.deref_mut-7.ensures.value machine.room.sums;
        };
      };
      means = refilled words.means _ new.mean_room _ kept.mean_room c.deref_mut-3.ensures.len c.deref_mut-3.ensures.value own.means;
      reached = refilled words.reached _ new.reached_room _ kept.reached_room c.deref_mut-6.ensures.len c.deref_mut-6.ensures.value own.reached;
    }

pub returns-clause-lists : goal.returns-clause-lists
returns-clause-lists c = c.finish_in_words.ensures
