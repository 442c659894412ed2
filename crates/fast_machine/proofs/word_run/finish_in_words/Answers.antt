use Rattle.std.proofs.Common.{sym, subst}
use Rattle.qp_model.specs.machine.Controller.{numbers}
use Rattle.overflow_check.specs.FastMachine.{fast_lists}
use Rattle.fast_machine.proofs.FastWordRooms.{AreNarrow, after_narrow, sum_setting}
use Rattle.fast_machine.proofs.word_run.finish_in_words.Goals as goal
use Rattle.fast_machine.proofs.word_run.finish_in_words.Goals.{Start}

pub put_entry_bases-requires : goal.put_entry_bases-requires
put_entry_bases-requires c = record { sound = (sum_setting _ _ _ c.requires.setting).sound; words = c.requires.setting.sized; state = c.requires.setting.state; out = c.requires.entry_room }

pub put_row_bases-requires : goal.put_row_bases-requires
put_row_bases-requires c = record { sound = (sum_setting _ _ _ c.requires.setting).sound; words = c.requires.setting.sized; state = c.requires.setting.state; out = c.requires.row_room }

-- what the kernel's lists hold fits the word
narrow : (c : Start) → AreNarrow (fast_lists c.args.means.now c.args.plan.now c.args.multipliers.now c.args.reached.now c.args.sums.now)
narrow c =
    let s = c.requires.setting in
    subst AreNarrow (sym c.requires.start) (after_narrow (numbers c.args.c.now) c.args.state.now c.args.made s.sound s.sized s.state c.requires.made)

pub take_words-requires : goal.take_words-requires
take_words-requires c = record { narrow = (narrow (goal.at.take_words-requires c).Start).means; long = c.requires.mean_room }

pub take_words-requires-2 : goal.take_words-requires-2
take_words-requires-2 c = record { narrow = (narrow (goal.at.take_words-requires-2 c).Start).plan; long = c.requires.plan_room }

pub take_words-requires-3 : goal.take_words-requires-3
take_words-requires-3 c = record { narrow = (narrow (goal.at.take_words-requires-3 c).Start).multipliers; long = c.requires.multiplier_room }

pub take_words-requires-4 : goal.take_words-requires-4
take_words-requires-4 c = record { narrow = (narrow (goal.at.take_words-requires-4 c).Start).reached; long = c.requires.reached_room }

pub take_words-requires-5 : goal.take_words-requires-5
take_words-requires-5 c = record { narrow = (narrow (goal.at.take_words-requires-5 c).Start).sums; long = c.requires.sum_room }

pub word_steps-requires : goal.word_steps-requires
word_steps-requires c = record {
  setting = c.requires.setting;
  bases = record { entries = c.put_entry_bases.ensures; rows = c.put_row_bases.ensures };
  made = c.requires.made;
  start = rw (c.take_words.ensures, c.take_words-2.ensures, c.take_words-3.ensures, c.take_words-4.ensures, c.take_words-5.ensures) c.requires.start;
}

pub returns : goal.returns
returns c = rw (c.put_words.ensures, c.put_words-2.ensures, c.put_words-3.ensures, c.put_words-4.ensures, c.put_words-5.ensures) c.word_steps.ensures
