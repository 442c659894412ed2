use Rattle.std.proofs.Common.{◌∙◌, ◌∷◌, [], ℕ, ap, codes, string_bytes}
use Rattle.qp_model.specs.machine.Controller.{numbers}
use Rattle.c_language.specs.Syntax.{variable}
use Rattle.c_language.specs.Syntax.Family.{Moved}
use Rattle.c_language.specs.Syntax.Expression.{Value}
use Rattle.c_language.specs.Syntax.Statement.{Declare, Assign, AtLeastZero, AtMost}
use Rattle.c_program.specs.Of.{kind_for}
use Rattle.c_language.specs.Text.{kind_text}
use Rattle.c_program.specs.ByMachine.{moved_family, top_for, reached_for}
use Rattle.c_writer.specs.Measured.{kinds_in, moved_in}
use Rattle.c_writer.proofs.Texts.{blocks_more}
use Rattle.c_writer.proofs.rows.push_move.Goals as goal

pub push_moved-requires-clause-kind : goal.push_moved-requires-clause-kind
push_moved-requires-clause-kind c = c.kind_word-kind.ensures ∙ ap (λ (top : ℕ). kind_text (kind_for top)) c.moved_top.ensures

pub push_ceiling-requires-clause-kind : goal.push_ceiling-requires-clause-kind
push_ceiling-requires-clause-kind c = c.kind_word-kind.ensures ∙ ap (λ (top : ℕ). kind_text (kind_for top)) c.moved_top.ensures

pub returns : goal.returns
returns c =
    let n = numbers c.args.from.now.c.now in
    let m = c.args.from.now.machine in
    let more = blocks_more (kinds_in c.args.from.now) (codes "        ") in
    let i = c.args.i in
    let old = string_bytes c.args.text.now in
    let one = Declare (variable Moved i) (moved_in c.args.from.now i) in
    let two = AtLeastZero (variable Moved i) in
    let three = AtMost (variable Moved i) (top_for m n i) in
    let four = Assign (variable (moved_family m) i) (Value (variable Moved i)) in
    let t1 = string_bytes c.push_moved.new.text in
    let t2 = string_bytes c.push_floor.new.text in
    let t3 = string_bytes c.push_ceiling.new.text in
    let t4 = string_bytes c.push_back.new.text in
    more (one ∷ two ∷ three ∷ four ∷ []) (reached_for m i) old t4 (string_bytes c.push_reached_where.new.text)
    (more (one ∷ two ∷ three ∷ []) (four ∷ []) old t3 t4
    (more (one ∷ two ∷ []) (three ∷ []) old t2 t3 (more (one ∷ []) (two ∷ []) old t1 t2 c.in_ok-push_moved.ensures c.in_ok-push_floor.ensures) c.in_ok-push_ceiling.ensures)
    c.in_ok-push_back.ensures) c.in_ok-push_reached_where.ensures
