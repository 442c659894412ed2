use Rattle.std.proofs.Common.{◌≡◌, ◌+◌, ◌%◌, ◌/◌, ◌++◌, ◌∷◌, [], ℕ, true, append_assoc, arith, rules, sym, ap, refl, ◌∙◌}
use Rattle.std.specs.Prelude.{FitsSigned}
use Rattle.std.specs.Int.{w128}
use Rattle.std.specs.Result.{is_ok}
use Rattle.std.proofs.lemmas.Int.{to_z-of_z}
use Rattle.std.proofs.lemmas.List.{append-nil}
use Rattle.packed_rows.specs.Packing.{digits_128}
use Rattle.packed_rows.proofs.NumberFacts.{zigzag_small, one_digit, end_digit}
use Rattle.packed_rows.proofs.packing.push_number.Goals as goal

pub loop-rest-init : goal.loop-rest-init
loop-rest-init c =
    let f : FitsSigned w128 c.args.z = search rules in
    record {
      more = 18;
      small = rw c.zigzag-rest.ensures (omega (arith, zigzag_small c.args.z f));
      digits = rw (c.zigzag-rest.ensures, to_z-of_z w128 c.args.z f) refl;
      made = [];
      begins = sym (append-nil c.args.bytes.now.items);
    }

pub loop-rest-preserved : goal.loop-rest-preserved
loop-rest-preserved c =
    let r = c.loop-rest.invariant in
    let d = one_digit r.more c.loop-rest.rest (omega arith) r.small in
    let good : is_ok c.push.result ≡ true = search rules in
    let items : c.push.new.self.items ≡ c.loop-rest.bytes.items ++ (128 + c.loop-rest.rest % 128) ∷ [] = (rw good at c.push.ensures.items) ∙ ap (λ (n : ℕ). c.loop-rest.bytes.items ++ n ∷ []) (omega arith) in
    record {
      more = d.less;
      small = d.small;
      digits = rw (items, append_assoc c.loop-rest.bytes.items ((128 + c.loop-rest.rest % 128) ∷ []) (digits_128 d.less (c.loop-rest.rest / 128)), ← d.split) r.digits;
      made = r.made ++ (128 + c.loop-rest.rest % 128) ∷ [];
      begins = rw (items, r.begins) (append_assoc c.args.bytes.now.items r.made ((128 + c.loop-rest.rest % 128) ∷ []));
    }

pub returns-clause-ok : goal.returns-clause-ok
returns-clause-ok c =
    let r = c.loop-rest.invariant in
    let good : is_ok c.push-2.result ≡ true = search rules in
    let f : FitsSigned w128 c.args.z = search rules in
    let items = rw good at c.push-2.ensures.items in
    items ∙ (rw (end_digit r.more c.loop-rest.rest (omega arith), to_z-of_z w128 c.args.z f) at r.digits)
