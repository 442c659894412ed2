use Rattle.std.proofs.Common.{inl, inr, refl, sym, ◌∙◌}
use Rattle.command_line.specs.Words.{word_of}
use Rattle.command_line.proofs.Counts.{rose_later, none_falls_twice}
use Rattle.command_line.proofs.TwoTexts.{write_failed, write_went, in_turn, both_stand, first_stands, done_no_fault, fault_not_done, faults_apart}
use Rattle.command_line.proofs.two_texts.write_both.Goals as goal

pub returns-then-is_err : goal.returns-then-is_err
returns-then-is_err g c =
    let is = sym c.is_err.ensures.value ∙ c.if-is_err.true in
    let wrote = rw (c.deref.ensures.value, c.at.ensures) at c.write_all.ensures in
    record {
      only = inr (inl refl);
      both = λ e. fault_not_done _ c.args.first e;
      first_cut = λ e. write_failed c.write_all.result _ is wrote.err;
      second_cut = λ e. faults_apart _ c.args.words.now c.args.first c.args.second c.requires.apart e;
      first_failed = λ e. write_failed c.write_all.result _ is wrote.failed;
      second_failed = λ e. faults_apart _ c.args.words.now c.args.first c.args.second c.requires.apart e;
      reads = wrote.reads;
      writes = wrote.writes;
    }

pub returns-in-Ok : goal.returns-in-Ok
returns-in-Ok g c =
    let words = c.args.words.now in
    let one = word_of words c.args.first in
    let two = word_of words c.args.second in
    let text = c.args.texts.now.first.items in
    let report = c.args.texts.now.second.items in
    let is = sym c.is_err.ensures.value ∙ c.if-is_err.false in
    let mid = c.write_all.new.self in
    let first = write_went c.write_all.result _ is (rw (c.deref.ensures.value, c.at.ensures) at c.write_all.ensures.ok) in
    let second = rw (c.deref-2.ensures.value, c.at-2.ensures) at c.in-Ok.ensures.ok in
    record {
      only = inl refl;
      both = λ e. in_turn _ (g.S.Store.held mid) _ _ _ _ (λ old mid new p q. both_stand one two text report c.requires.apart old mid new p q) first second;
      first_cut = λ e. done_no_fault _ c.args.first e;
      second_cut = λ e. done_no_fault _ c.args.second e;
      first_failed = λ e. done_no_fault _ c.args.first e;
      second_failed = λ e. done_no_fault _ c.args.second e;
      reads = none_falls_twice _ (g.S.Store.read_faults mid) _ c.write_all.ensures.reads c.write_all-2.ensures.reads;
      writes = none_falls_twice _ (g.S.Store.write_faults mid) _ c.write_all.ensures.writes c.write_all-2.ensures.writes;
    }

pub returns-in-Err : goal.returns-in-Err
returns-in-Err g c =
    let words = c.args.words.now in
    let one = word_of words c.args.first in
    let two = word_of words c.args.second in
    let text = c.args.texts.now.first.items in
    let report = c.args.texts.now.second.items in
    let is = sym c.is_err.ensures.value ∙ c.if-is_err.false in
    let mid = c.write_all.new.self in
    let first = write_went c.write_all.result _ is (rw (c.deref.ensures.value, c.at.ensures) at c.write_all.ensures.ok) in
    let second = rw (c.deref-2.ensures.value, c.at-2.ensures) at c.in-Err.ensures.err in
    record {
      only = inr (inr refl);
      both = λ e. fault_not_done _ c.args.second e;
      first_cut = λ e. faults_apart _ words c.args.second c.args.first (λ same. c.requires.apart (sym same)) e;
      second_cut = λ e. in_turn _ (g.S.Store.held mid) _ _ _ _ (λ old mid new p q. first_stands one two text report c.requires.apart old mid new p q) first second;
      first_failed = λ e. faults_apart _ words c.args.second c.args.first (λ same. c.requires.apart (sym same)) e;
      second_failed = λ e. rose_later _ (g.S.Store.write_faults mid two) _ (c.write_all.ensures.writes.each two) (c.write_all-2.ensures.writes.each two) (rw c.at-2.ensures at c.in-Err.ensures.failed);
      reads = none_falls_twice _ (g.S.Store.read_faults mid) _ c.write_all.ensures.reads c.write_all-2.ensures.reads;
      writes = none_falls_twice _ (g.S.Store.write_faults mid) _ c.write_all.ensures.writes c.write_all-2.ensures.writes;
    }
