use Rattle.std.proofs.Common.{◌≡◌, ℕ, ◌≤◌, ◌+◌, ◌*◌, ◌^◌, arith, ◌∙◌}
use Rattle.condensed_form.specs.Form.{held}
use Rattle.step_error.specs.Gains.{gain_at}
use Rattle.step_error.proofs.GainRooms.{sum_small, states_room, rows_room, states_read, own_read, rows_read}
use Rattle.step_error.proofs.real_gains.Gains.missed_sum.Goals as goal

pub missed_by-requires-clause-room : goal.missed_by-requires-clause-room
missed_by-requires-clause-room c = rw c.cols-states.ensures (states_room c.args.self.now.c.now _ _ _ _ _ _ c.args.self.now.made c.args.j c.requires.entry)

pub missed_by-requires-2-clause-room : goal.missed_by-requires-2-clause-room
missed_by-requires-2-clause-room c = rw c.rows.ensures.count (rows_room c.args.self.now.c.now _ _ _ _ _ _ c.args.self.now.made c.args.j c.requires.room)

pub weighed-requires : goal.weighed-requires
weighed-requires c =
    let self = c.args.self.now in
    let gains = gain_at self.p_mat.now self.t.now self.w_mat.now in
    let states = states_read (held self.c.now) self.f gains _ c.args.j _ c.missed_by.ensures c.cols-states.ensures in
    let own = own_read (held self.c.now) self.f gains _ c.args.j _ c.missed.ensures c.cols-states.ensures in
    let rows = rows_read (held self.c.now) self.f gains _ _ c.args.j _ c.missed_by-2.ensures c.cols-states.ensures c.rows.ensures.count in
    close (λ t. self.state * states t + own t + self.top * rows t) (sum_small self.c.now _ _ _ _ _ _ self.made c.args.j c.requires.entry c.requires.room)
  where
    close : {a b : ℕ} → a ≡ b → b ≤ 2 ^ 125 → a ≤ 2 ^ 126
    close {a} {b} e h = omega (arith, e, h)

pub returns : goal.returns
returns c =
    let self = c.args.self.now in
    let gains = gain_at self.p_mat.now self.t.now self.w_mat.now in
    let states = states_read (held self.c.now) self.f gains _ c.args.j _ c.missed_by.ensures c.cols-states.ensures in
    let own = own_read (held self.c.now) self.f gains _ c.args.j _ c.missed.ensures c.cols-states.ensures in
    let rows = rows_read (held self.c.now) self.f gains _ _ c.args.j _ c.missed_by-2.ensures c.cols-states.ensures c.rows.ensures.count in
    c.weighed.ensures ∙ (λ t. self.state * states t + own t + self.top * rows t)
