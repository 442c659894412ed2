use Rattle.std.proofs.Common.{◌≡◌, ap, refl, ◌∙◌}
use Rattle.command_line.proofs.Following.{follows, stopped, went_on, acted, printed}
use Rattle.plan_lines.proofs.LineByLine.{ok_both}
use Rattle.command_serve.specs.Served.{cell_states, controllers_of}
use Rattle.command_serve.specs.Making.{ArePreparedFor}
use Rattle.command_serve.specs.Deeds.{serve_work}
use Rattle.command_serve.proofs.Serving.{some_cell, some_cells, have_width}
use Rattle.command_serve.proofs.Answering.{serve_sound, serve_ended}
use Rattle.command_serve.proofs.command.serve.Goals as goal

-- the file of cells ends it
pub returns-in-Err : goal.returns-in-Err
returns-in-Err g c =
    let did = c.read_cells_file.ensures in
    follows serve_work serve_sound (stopped did.passes (rw c.at.ensures at c.in-Err.ensures.ends))

-- the cells are right, and there is one
pub state_size-requires : goal.state_size-requires
state_size-requires g c = rw c.deref.ensures.value (some_cells c.in-Ok.cells.items c.in-Ok.ensures.right.right.right.form.are)

-- and the states' file ends it
pub returns : goal.returns
returns g c =
    let kept = c.in-Ok.ensures in
    let did = c.read_states_file.ensures.read in
    follows serve_work serve_sound
    (went_on kept.passes (rw c.at.ensures at kept.right)
    (stopped did.passes
    (rw (c.state_size.ensures ∙ ap cell_states c.deref.ensures.value, c.at-2.ensures) at c.in-Err-read_states_file.ensures.read.ends)))

-- the states are right, too
pub returns-in-Ok-read_states_file : goal.returns-in-Ok-read_states_file
returns-in-Ok-read_states_file g c =
    let cells = c.in-Ok.cells.items in
    let m = c.in-Ok-read_states_file.states in
    let kept = c.in-Ok.ensures in
    let did = c.read_states_file.ensures.read in
    follows serve_work serve_sound
    (went_on kept.passes (rw c.at.ensures at kept.right)
    (went_on did.passes
    (rw (c.state_size.ensures ∙ ap cell_states c.deref.ensures.value, c.at-2.ensures) at c.in-Ok-read_states_file.ensures.read.right)
    (acted (printed tt (serve_ended (some_cell cells 0 (some_cells cells kept.right.right.right.form.are)) cells m g.O.Sink c.args.out.now c.print_prepared.new.out c.print_prepared.result
    (c.print_prepared.ensures cells (rw c.deref-in-Ok-read_states_file.ensures.value at c.cells_of.ensures.cells))) refl))))

-- and as wide as those of each cell
pub print_prepared-requires-clause-size : goal.print_prepared-requires-clause-size
print_prepared-requires-clause-size g c =
    let cells = c.in-Ok.cells.items in
    let m = c.in-Ok-read_states_file.states in
    let are = c.in-Ok.ensures.right.right.right.form.are in
    let width = have_width cells m.cols are (c.in-Ok-read_states_file.ensures.width ∙ c.state_size.ensures ∙ ap cell_states c.deref.ensures.value) in
    ok_both c.cells_of.result (λ v. v.cells.now ≡ cells) (λ v. controllers_of v.kernels.items ≡ cells) (λ v. ArePreparedFor v.cells.now v.kernels.items m.cols)
    (λ v is kernels. rw is (record { some = some_cells cells are; kernels_are = kernels; width = width }))
    (rw c.deref-in-Ok-read_states_file.ensures.value at c.cells_of.ensures.cells) (rw c.deref-in-Ok-read_states_file.ensures.value at c.cells_of.ensures.kernels)
