use Rattle.std.proofs.Common.{pos, length, ap, ◌∙◌}
use Rattle.std.proofs.lemmas.List.{length-replicate}
use Rattle.approx_inverse.proofs.FormLaws.{zero_shape}
use Rattle.approx_inverse.proofs.inverse.Inverse.zero.Goals as goal

pub returns : goal.returns
returns c = record {
  p_mat = zero_shape _ c.args.entries c.args.states c.in_ok-zero.ensures;
  t = ap length (c.in_ok-vec.ensures.items_if_clones_equal (λ y q. q)) ∙ length-replicate c.args.entries (pos 0);
  w_mat = zero_shape _ c.args.entries c.args.rows c.in_ok-zero-2.ensures;
}
