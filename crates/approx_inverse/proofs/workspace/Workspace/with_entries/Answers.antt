use Rattle.std.proofs.Common.{◌≡◌, pos, true, false, length, ap, arith, ◌∙◌}
use Rattle.std.proofs.lemmas.List.{length-replicate}
use Rattle.approx_inverse.proofs.WordLaws.{fresh_room, fresh_span}
use Rattle.approx_inverse.proofs.workspace.Workspace.with_entries.Goals as goal

pub overflow_mul-n : goal.overflow_mul-n
overflow_mul-n c = omega (arith, c.requires)

pub unreachable-requires : goal.unreachable-requires
unreachable-requires c =
    let e : false ≡ true = c.in_default.ensures.fits.1 (fresh_room c.in_ok-region.region c.args.n c.in_ok-region.ensures) in
    cc

pub returns : goal.returns
returns c =
    let taken = c.in-Some.ensures in
    let fresh = fresh_span c.in_ok-region.region c.take.new.self c.in-Some.solution c.args.n c.in_ok-region.ensures taken.span taken.used taken.cleared.size in
    record {
      column = ap length (c.in_ok-column.ensures.items_if_clones_equal (λ y q. q)) ∙ length-replicate c.args.n (pos 0);
      guess = ap length (c.in_ok-guess.ensures.items_if_clones_equal (λ y q. q)) ∙ length-replicate c.args.n (pos 0);
      rest = ap length (c.in_ok-rest.ensures.items_if_clones_equal (λ y q. q)) ∙ length-replicate c.args.n (pos 0);
      live = fresh.live;
      len = fresh.len;
      free = fresh.free;
    }
