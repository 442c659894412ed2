use Rattle.std.proofs.Common.{refl, true, false}
use Rattle.command_line.proofs.Beside.{beside}
use Rattle.command_line.proofs.Following.{does_along, acted, printed}
use Rattle.command_demo.specs.Demo.{demo_work}
use Rattle.command_demo.proofs.Row.{demo_sound}
use Rattle.command_list.specs.Listed.{list_work}
use Rattle.command_make.specs.Make.{make_work, generate_asked, stay_asked, lean_asked}
use Rattle.command_make.proofs.Written.{make_silent}
use Rattle.command_split.specs.Split.{split_work}
use Rattle.command_c.specs.Compiled.{compile_work}
use Rattle.command_run.proofs.command.answer.Goals as goal

-- ---- those that have no output
pub returns-in-Generate : goal.returns-in-Generate
returns-in-Generate g c =
    rw c.in-Generate.is
    (beside g.S.Store g.O.Sink c.args.words.now (make_work generate_asked) (λ never. never) (make_silent generate_asked) c.args.store.now c.generate.new.store c.args.out.now c.generate.result c.generate.ensures)

pub returns-in-List : goal.returns-in-List
returns-in-List g c =
    rw c.in-List.is
    (beside g.S.Store g.O.Sink c.args.words.now list_work (λ never. never) (λ c s old. refl) c.args.store.now c.list.new.store c.args.out.now c.list.result c.list.ensures)

pub returns-in-Stay : goal.returns-in-Stay
returns-in-Stay g c =
    rw c.in-Stay.is
    (beside g.S.Store g.O.Sink c.args.words.now (make_work (stay_asked c.in-Stay.disturbed)) (λ never. never) (make_silent (stay_asked c.in-Stay.disturbed)) c.args.store.now c.stay.new.store c.args.out.now c.stay.result c.stay.ensures)

pub returns-in-Lean : goal.returns-in-Lean
returns-in-Lean g c =
    rw c.in-Lean.is
    (beside g.S.Store g.O.Sink c.args.words.now (make_work (lean_asked false false)) (λ never. never) (make_silent (lean_asked false false)) c.args.store.now c.lean.new.store c.args.out.now c.lean.result c.lean.ensures)

pub returns-in-LeanStay : goal.returns-in-LeanStay
returns-in-LeanStay g c =
    rw c.in-LeanStay.is
    (beside g.S.Store g.O.Sink c.args.words.now (make_work (lean_asked true c.in-LeanStay.disturbed)) (λ never. never) (make_silent (lean_asked true c.in-LeanStay.disturbed)) c.args.store.now c.lean_stay.new.store c.args.out.now c.lean_stay.result c.lean_stay.ensures)

pub returns-in-Split : goal.returns-in-Split
returns-in-Split g c =
    rw c.in-Split.is
    (beside g.S.Store g.O.Sink c.args.words.now split_work (λ never. never) (λ p cuts policies s old. refl) c.args.store.now c.split.new.store c.args.out.now c.split.result c.split.ensures)

pub returns-in-C : goal.returns-in-C
returns-in-C g c =
    rw c.in-C.is
    (beside g.S.Store g.O.Sink c.args.words.now compile_work (λ never. never) (λ c s old. refl) c.args.store.now c.write_c.new.store c.args.out.now c.write_c.result c.write_c.ensures)

-- ---- `demo`, which uses no file
pub returns-in-Demo : goal.returns-in-Demo
returns-in-Demo g c = rw c.in-Demo.is (does_along (demo_work c.in-Demo.number) (demo_sound c.in-Demo.number) (λ unused. refl) (acted (printed tt c.demo.ensures refl)))
