use Rattle.std.proofs.Common.{inl, inr, ℕ, subst, sym, refl, le_refl}
use Rattle.io_edge.specs.Faults.{Files, Rose, IsWritten, IsCutShort}
use Rattle.mac_listing.proofs.Sizes.{text_short}
use Rattle.command_line.specs.Words.{word_of}
use Rattle.command_line.proofs.Results.{both_some}
use Rattle.command_line.proofs.Following.{nothing_done}
use Rattle.command_list.specs.Listed.{IsListed, IsListingCut}
use Rattle.command_list.proofs.Written.{written_done, written_no_read, written_none, written_second}
use Rattle.command_list.proofs.command.list_with.Goals as goal

pub returns-in-Ok : goal.returns-in-Ok
returns-in-Ok g c =
    let words = c.args.words.now in
    let held = g.S.Store.held c.args.store.now in
    let now = g.S.Store.held c.write_text.new.store in
    let n = c.args.controller.now in
    let text = c.in-Ok.text.items in
    let is = c.in-Ok.ensures in
    let short = text_short n text c.requires.right.right.right.controller is in
    let s = c.write_text.result in
    let did = c.write_text.ensures in
    let done = rw (c.at.ensures, c.deref.ensures.value) at did.done in
    let cut = rw (c.at.ensures, c.deref.ensures.value) at did.cut in
    let failed = rw c.at.ensures at did.failed in
    record {
      called = written_done s did.only;
      read_fault = written_no_read s did.only;
      write_fault = λ file e.
          let second = written_second s did.only file e in
          let at = word_of words in
          (tt, inr (second.0, subst (λ (k : ℕ). Rose (g.S.Store.write_faults c.args.store.now (at k)) (g.S.Store.write_faults c.write_text.new.store (at k))) (sym second.0) (failed second.1)));
      shows = tt;
      quiet = λ unprinted. refl;
      leaves = record {
        listed = λ e.
            both_some (λ (old new : Files). IsWritten old new (word_of words 2) text) (IsListed words n)
            (λ old new w. record { text = text; is_text = is; short = short; written = w }) held now (done e);
        cut = λ e.
            both_some (λ (old new : Files). IsCutShort old new (word_of words 2) text) (IsListingCut words n)
            (λ old new w. record { text = text; is_text = is; short = short; cut = w }) held now (cut e);
      };
      held = λ unwritten. elim unwritten [ inl never ↦ absurd (never 2 refl) | inr none ↦ absurd (written_none s did.only none.0 none.1) ];
      reads = did.reads;
      writes = did.writes;
      no_fewer = le_refl 0;
    }

pub returns-in-Err : goal.returns-in-Err
returns-in-Err g c =
    nothing_done (λ caused. absurd (caused.memory refl)) (λ file e. cc) (λ file e. cc) (λ old. refl)
    (record { listed = λ e. absurd (let never : ⊥ = cc in never); cut = λ e. absurd (let never : ⊥ = cc in never) })
