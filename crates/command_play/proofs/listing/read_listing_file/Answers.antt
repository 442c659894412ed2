use Rattle.std.proofs.Common.{sym}
use Rattle.mac_listing.specs.declared.bad_listing.BadListing.TheVariants.{Line, Memory as no_listing}
use Rattle.command_line.proofs.Results.{err_same}
use Rattle.command_design_files.proofs.Readers.{unread, right_bytes, ok_never}
use Rattle.command_play.proofs.Listings.{ends_line}
use Rattle.command_play.proofs.listing.read_listing_file.Goals as goal

pub returns-in_err-bytes : goal.returns-in_err-bytes
returns-in_err-bytes g c = rw (err_same c.from_residual.result _ c.from_residual.ensures.1) (unread _ c.in_err-bytes.ensures.ends c.in_err-bytes.ensures.passes)

pub returns-in-Ok : goal.returns-in-Ok
returns-in-Ok g c =
    let l = c.in-Ok.listing in
    let right = right_bytes c.in_ok-bytes.bytes.items c.in_ok-bytes.ensures.told c.in_ok-bytes.ensures.short
    l (rw c.deref.ensures.value at c.in-Ok.ensures.found)
    (λ y right. sym (rw c.deref.ensures.value at c.in-Ok.ensures.right y right))
    (λ s wrong. ok_never l (Line wrong.0) no_listing (rw c.deref.ensures.value at c.in-Ok.ensures.bad_first wrong.0 wrong.1)) in
    record { right = right; ends = tt; passes = c.in_ok-bytes.ensures.passes }

pub returns : goal.returns
returns g c =
    let ends = ends_line c.args.file (g.S.Store.held c.args.store.now) c.args.name.now c.in_ok-bytes.bytes.items c.in_ok-bytes.ensures.told c.in_ok-bytes.ensures.short
    (g.S.Store.read_faults c.args.store.now c.args.name.now) (g.S.Store.read_faults c.read_bytes.new.store c.args.name.now) c.in-Err.fault c.listing_status.result
    c.listing_status.ensures.memory c.listing_status.ensures.line (rw c.deref.ensures.value at c.in-Err.ensures.bad_line) (rw c.deref.ensures.value at c.in-Err.ensures.bad_first)
    (λ x right. rw c.deref.ensures.value at c.in-Err.ensures.right x right) in
    record { right = tt; ends = ends; passes = c.in_ok-bytes.ensures.passes }
