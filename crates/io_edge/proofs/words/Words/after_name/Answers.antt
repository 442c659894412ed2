use Rattle.std.proofs.Common.{rules, ◌≡◌, length, map, refl, sym, ap, ◌∙◌, string_bytes}
use Rattle.std.specs.Vec.Iter.{into_iter_items, into_iter_len}
use Rattle.std.proofs.lemmas.List.{map-id}
use Rattle.std.proofs.lemmas.Iterator.Adapters.{YieldsList-from_vec, YieldsList-from_skip}
use Rattle.std.proofs.lemmas.Iterator.Consumers.{YieldsList-at, YieldsList-end}
use Rattle.io_edge.proofs.words.Words.after_name.Goals as goal

-- the loop has taken all words but the first
pub returns : goal.returns
returns c =
    let count : into_iter_len c.args.arguments ≡ length (into_iter_items c.args.arguments) = search rules in
    let rest = YieldsList-from_skip 1 (YieldsList-at c.skip-word-items.ensures.source (YieldsList-from_vec _ refl count)) c.skip-word-items.ensures.count in
    let taken = YieldsList-end (YieldsList-at c.into_iter-word-iterator.ensures.into_iter_gives rest) c.loop-word.yielded _ c.loop-word.yielded_by _ c.next.new.self c.in-None.is c.next.ensures.steps in
    c.loop-word.invariant ∙ ap (map string_bytes) (sym (map-id _) ∙ taken.0)
