use Rattle.std.proofs.Common.{◌≡◌, ◌+◌, ◌++◌, length, pos, replicate, ap, sym, ◌∙◌, arith, ℕ, ℤ, List}
use Rattle.std.proofs.lemmas.List.{replicate-append-replicate}
use Rattle.qp_model.specs.machine.Controller.{numbers}
use Rattle.qp_model.specs.machine.Machine.{loaded}
use Rattle.fixed_kernel.proofs.state.put_start.Goals as goal

zeros : (w m p : ℕ) → w ≡ m + (p + p) → replicate w (pos 0) ≡ replicate m (pos 0) ++ (replicate p (pos 0) ++ replicate p (pos 0))
zeros w m p e =
    ap (λ (i : ℕ). replicate i (pos 0)) e ∙ sym (replicate-append-replicate m (p + p) (pos 0)) ∙ ap (λ (xs : List ℤ). replicate m (pos 0) ++ xs) (sym (replicate-append-replicate p p (pos 0)))

pub returns : goal.returns
returns c =
    let n = numbers c.args.c.now in
    let sized = c.requires.sound.form.sized in
    let behind : length c.split_at_mut-first.result.1.now ≡ length n.bounds + (length n.offsets + length n.offsets) = omega (arith, c.split_at_mut-first.ensures.back_len, c.requires.long, sized.words, sized.shaped.bounds, sized.shaped.offsets) in
    ap (λ (xs : List ℤ). xs ++ c.clear.new.numbers) c.load_state.ensures ∙ ap (λ (xs : List ℤ). loaded n c.args.state.now ++ xs) (c.clear.ensures ∙ zeros _ _ _ behind)
