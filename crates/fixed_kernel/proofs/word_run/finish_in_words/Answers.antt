use Rattle.std.proofs.Common.{ap, sym, subst}
use Rattle.std.specs.Prelude.{All}
use Rattle.mat_products.specs.Narrow.{IsNarrow}
use Rattle.qp_model.specs.machine.Controller.{numbers}
use Rattle.qp_model.specs.machine.Machine.{Iterate}
use Rattle.fixed_kernel.proofs.Words.{made_as}
use Rattle.fixed_kernel.proofs.WordRooms.{after_multipliers_narrow, after_plan_narrow, after_sums_narrow, sum_setting}
use Rattle.fixed_kernel.proofs.word_run.finish_in_words.Goals as goal

pub put_entry_bases-requires : goal.put_entry_bases-requires
put_entry_bases-requires c = record { sound = (sum_setting _ _ _ c.requires.setting).sound; words = c.requires.setting.sized; state = c.requires.setting.state; out = c.requires.entry_room }

pub put_row_bases-requires : goal.put_row_bases-requires
put_row_bases-requires c = record { sound = (sum_setting _ _ _ c.requires.setting).sound; words = c.requires.setting.sized; state = c.requires.setting.state; out = c.requires.row_room }

pub take_words-requires : goal.take_words-requires
take_words-requires c =
    let s = c.requires.setting in
    let narrow = after_multipliers_narrow (numbers c.args.c.now) c.args.state.now c.args.made s.sound s.sized in
    record { narrow = subst (All IsNarrow) (sym (ap (λ (m : Iterate). m.multipliers) c.requires.start)) narrow; long = c.requires.multiplier_room }

pub take_words-requires-2 : goal.take_words-requires-2
take_words-requires-2 c =
    let s = c.requires.setting in
    let narrow = after_plan_narrow (numbers c.args.c.now) c.args.state.now c.args.made s.sound s.sized s.state in
    record { narrow = subst (All IsNarrow) (sym (ap (λ (m : Iterate). m.plan) c.requires.start)) narrow; long = c.requires.plan_room }

pub take_words-requires-3 : goal.take_words-requires-3
take_words-requires-3 c =
    let s = c.requires.setting in
    let narrow = after_sums_narrow (numbers c.args.c.now) c.args.state.now c.args.made s.sound s.sized s.state c.requires.made in
    record { narrow = subst (All IsNarrow) (sym (ap (λ (m : Iterate). m.sums) c.requires.start)) narrow; long = c.requires.sum_room }

pub word_steps-requires : goal.word_steps-requires
word_steps-requires c = record {
  setting = c.requires.setting;
  entry_starts = c.put_entry_bases.ensures;
  row_starts = c.put_row_bases.ensures;
  made = c.requires.made;
  start = made_as _ _ _ _ _ _ _ c.take_words-2.ensures c.take_words.ensures c.take_words-3.ensures c.requires.start;
}

pub returns : goal.returns
returns c = made_as _ _ _ _ _ _ _ c.put_words-2.ensures c.put_words.ensures c.put_words-3.ensures c.word_steps.ensures
