use Rattle.std.proofs.Common.{◌≡◌, ◌<◌, ◌+◌, ◌∷◌, ◌++◌, [], ℕ, ℤ, pos, length, rules, arith, ap, ◌∙◌, refl, true, inl}
use Rattle.std.specs.Int.{w128}
use Rattle.std.proofs.lemmas.Grind.{common_steps}
use Rattle.std.specs.Result.{is_ok}
use mir.Val.{SFits}
use Rattle.std.proofs.lemmas.Result.{err_from_is_err_and}
use Rattle.std.proofs.lemmas.Int.{to_z-of_z}
use Rattle.std.proofs.lemmas.List.{take_rest, get_or_read, length_push}
use Rattle.integer_algebra.specs.Sums.{at}
use Rattle.mat_int.specs.Matrix.{row_of}
use Rattle.policy_file.proofs.MatrixFacts.{none_filled}
use Rattle.number_text.specs.declared.text_fault.TextFault.TheVariants.{Memory}
use Rattle.policy_file.specs.Layout.{rule_of}
use Rattle.policy_file.proofs.TextFacts.{record_is, records_count, entry_small, room_small, passed_on, first_fault}
use Rattle.policy_file.proofs.RecordFacts.{records_few}
use Rattle.policy_file.proofs.HeadedFacts.{numbered, rest_long, headed_more, headed_found, number_fault, either_fault}
use Rattle.policy_file.proofs.headed.read_headed.Goals as goal

pub overflow_cast-i : goal.overflow_cast-i
overflow_cast-i c =
    let lt : c.loop-i.i < length c.in_ok-records.records.items = omega arith in
    let small = entry_small c.in_ok-records.records.items c.args.bytes.now c.loop-i.i c.in_ok-records.ensures c.requires.small lt in
    omega (arith, small)

pub overflow_add-i : goal.overflow_add-i
overflow_add-i c =
    let lt : c.loop-i.i < length c.in_ok-records.records.items = omega arith in
    let small = entry_small c.in_ok-records.records.items c.args.bytes.now c.loop-i.i c.in_ok-records.ensures c.requires.small lt in
    omega (arith, small)

pub numbers_of-requires : goal.numbers_of-requires
numbers_of-requires c =
    let lt : c.loop-i.i < length c.in_ok-records.records.items = omega arith in
    room_small c.in_ok-records.records.items c.args.bytes.now c.record-item.result c.loop-i.i c.in_ok-records.ensures c.requires.small lt
    (rw (← c.deref-record-items.ensures.value) c.record-item.is)

pub returns-in_err-numbers-clause-fault : goal.returns-in_err-numbers-clause-fault
returns-in_err-numbers-clause-fault c =
    let lt : c.loop-i.i < length c.in_ok-records.records.items = omega arith in
    passed_on _ _ _ c.from_residual-in_err-numbers.ensures.1
    (either_fault (rule_of c.args.layout) c.args.bytes.now c.args.width c.args.number _
    (first_fault (rule_of c.args.layout) (c.args.width + 1) c.in_ok-records.records.items c.args.bytes.now c.record-item.result c.loop-i.i _
    (λ e. at c.loop-i.heads.items e ∷ row_of c.loop-i.rows e) c.in_ok-records.ensures lt (rw (← c.deref-record-items.ensures.value) c.record-item.is)
    c.loop-i.invariant.rows.each c.in_err-numbers.ensures.fault))

pub loop-i-preserved : goal.loop-i-preserved
loop-i-preserved c =
    let records = c.in_ok-records.records.items in
    let zs = c.in_ok-numbers.numbers.items in
    let lt : c.loop-i.i < length records = omega arith in
    let found = rw (record_is records c.args.bytes.now c.record-item.result c.loop-i.i c.in_ok-records.ensures lt (rw (← c.deref-record-items.ensures.value) c.record-item.is)) at c.in_ok-numbers.ensures.found in
    let some : 0 < length zs = omega (arith, found.numbers) in
    let first : c.index.result.now ≡ at zs 0 = get_or_read zs 0 _ some c.index.ensures (pos 0) in
    let f : SFits w128 c.index.result.now = search rules in
    let good : is_ok c.push.result ≡ true = search rules in
    let items : c.push.new.self.items ≡ c.loop-i.heads.items ++ c.index.result.now ∷ [] =
    (rw good at c.push.ensures.items) ∙ ap (λ (z : ℤ). c.loop-i.heads.items ++ z ∷ []) (to_z-of_z w128 c.index.result.now f) in
    record {
      heads = ap length items ∙ length_push c.loop-i.heads.items c.index.result.now ∙ ap (λ (n : ℕ). n + 1) c.loop-i.invariant.heads;
      rows = headed_more (rule_of c.args.layout) c.args.bytes.now c.args.width c.loop-i.i c.loop-i.heads.items c.push.new.self.items c.index.result.now c.loop-i.rows _ zs
          items first c.loop-i.invariant.heads found (rw (← take_rest zs 1, ← c.deref.ensures.value) c.in_ok-push_row.ensures.ok) c.loop-i.invariant.rows;
    }

pub overflow_cast-result : goal.overflow_cast-result
overflow_cast-result c =
    let n = records_count c.in_ok-records.records.items c.args.bytes.now c.in_ok-records.ensures in
    let few = records_few c.args.bytes.now in
    omega (arith, n, few)

pub returns-then-len-number-clause-fault : goal.returns-then-len-number-clause-fault
returns-then-len-number-clause-fault c =
    number_fault (rule_of c.args.layout) c.args.bytes.now c.args.width c.args.number c.in_ok-records.records.items c.loop-i.i c.loop-i.heads.items c.loop-i.rows c.in_ok-records.ensures (omega arith)
    _ (search rules) (λ q. absurd (omega (arith, q, c.if-len-number.true))) c.loop-i.invariant.rows.each

pub returns-clause-found : goal.returns-clause-found
returns-clause-found c =
    headed_found (rule_of c.args.layout) c.args.bytes.now c.args.width c.args.number c.in_ok-records.records.items c.loop-i.i c.loop-i.heads.items c.loop-i.rows c.in_ok-records.ensures (omega arith)
    (omega (arith, c.len.ensures)) c.loop-i.invariant.rows c.loop-i.invariant.heads (omega arith)

pub returns-in_err-records-clause-found : goal.returns-in_err-records-clause-found
returns-in_err-records-clause-found c = rw (err_from_is_err_and c.from_residual.result c.from_residual.ensures.1).1 tt

pub returns-in_err-records-clause-fault : goal.returns-in_err-records-clause-fault
returns-in_err-records-clause-fault c = passed_on _ _ Memory c.from_residual.ensures.1 (inl refl)

pub zero-requires : goal.zero-requires
zero-requires c = tt

pub returns-in_err-rows-clause-found : goal.returns-in_err-rows-clause-found
returns-in_err-rows-clause-found c = rw (err_from_is_err_and c.from_residual-in_err-rows.result c.from_residual-in_err-rows.ensures.1).1 tt

pub returns-in_err-rows-clause-fault : goal.returns-in_err-rows-clause-fault
returns-in_err-rows-clause-fault c = passed_on _ _ Memory c.from_residual-in_err-rows.ensures.1 (inl refl)

pub loop-i-init : goal.loop-i-init
loop-i-init c =
    record {
      heads = ap length c.new-heads.ensures.items;
      rows = none_filled _ c.in_ok-rows.rows _ (ap (λ m. m.cols) c.in_ok-rows.ensures) (ap (λ m. length m.rows) c.in_ok-rows.ensures);
    }

pub offset_bounds-record-items-i : goal.offset_bounds-record-items-i
offset_bounds-record-items-i c = grind (arith, common_steps)

pub bounds-record-items-i : goal.bounds-record-items-i
bounds-record-items-i c = c.loop-i-test.true

pub returns-in_err-numbers-clause-found : goal.returns-in_err-numbers-clause-found
returns-in_err-numbers-clause-found c = rw (err_from_is_err_and c.from_residual-in_err-numbers.result c.from_residual-in_err-numbers.ensures.1).1 tt

pub index-requires : goal.index-requires
index-requires c = omega (arith, c.in_ok-numbers.ensures.found.numbers)

pub returns-then-is_err-clause-found : goal.returns-then-is_err-clause-found
returns-then-is_err-clause-found c = tt

pub returns-then-is_err-clause-fault : goal.returns-then-is_err-clause-fault
returns-then-is_err-clause-fault c = inl refl

pub slice_bounds-push_row-count : goal.slice_bounds-push_row-count
slice_bounds-push_row-count c = rw c.deref.ensures.value (numbered c.in_ok-numbers.numbers.items _ c.in_ok-numbers.ensures.found.numbers)

pub slice_bounds-push_row-start : goal.slice_bounds-push_row-start
slice_bounds-push_row-start c = omega (arith, c.in_ok-numbers.ensures.found.numbers)

pub slice_bounds-push_row-end : goal.slice_bounds-push_row-end
slice_bounds-push_row-end c = grind (arith, common_steps)

pub push_row-requires : goal.push_row-requires
push_row-requires c = rw c.deref.ensures.value (rest_long c.in_ok-numbers.numbers.items _ _ c.in_ok-numbers.ensures.found.numbers c.loop-i.invariant.rows.cols)

pub returns-in_err-push_row-clause-found : goal.returns-in_err-push_row-clause-found
returns-in_err-push_row-clause-found c = rw (err_from_is_err_and c.from_residual-in_err-push_row.result c.from_residual-in_err-push_row.ensures.1).1 tt

pub returns-in_err-push_row-clause-fault : goal.returns-in_err-push_row-clause-fault
returns-in_err-push_row-clause-fault c = passed_on _ _ Memory c.from_residual-in_err-push_row.ensures.1 (inl refl)

pub loop-i-smaller : goal.loop-i-smaller
loop-i-smaller c = grind (arith, common_steps)

pub returns-then-len-number-clause-found : goal.returns-then-len-number-clause-found
returns-then-len-number-clause-found c = tt

pub returns-clause-fault : goal.returns-clause-fault
returns-clause-fault c = tt
