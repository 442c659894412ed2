use Rattle.std.proofs.Common.{◌≡◌, ℕ, List, Result, Ok, Err, map}
use Rattle.std.specs.Prelude.{IfOk, MatchResult}
use Rattle.std.specs.Global.{Vec}
use Rattle.number_text.specs.Lines.{text_of}
use Rattle.text_lines.specs.declared.line.Line.{Line}
use Rattle.text_lines.specs.Lines.{views, spelled}
use Rattle.text_lines.specs.Grammar.{IsTextOf}
use Rattle.text_lines.specs.FirstLine.{IsBadLineOf}
use Rattle.text_lines.proofs.FirstLines.{bad_line_so}
use Rattle.mac_listing.specs.FirstLine.{IsSomeListing, IsBadListingLine}
use Rattle.mac_listing.specs.Whole.{IsWholeListing}
use Rattle.mac_listing.proofs.Texts.{grammar, are_lines}
use Rattle.mac_listing.proofs.reader.listing_lines.Goals as goal

-- the first bad line of the grammar is that of the listing texts
told : {E : Type 0} (r : Result (Result (Vec Line) ℕ) E) (bytes : List ℕ)
    → IfOk r (λ o. MatchResult o (λ v. IsWholeListing (views v.items) × (bytes ≡ text_of (map spelled (views v.items)))) (IsBadLineOf (IsTextOf IsWholeListing) bytes))
    → IfOk r (λ o. MatchResult o (λ v. IsWholeListing (views v.items) × (bytes ≡ text_of (map spelled (views v.items)))) (IsBadListingLine bytes))
told (Ok (Ok v)) bytes h = h
told (Ok (Err l)) bytes h = bad_line_so (IsTextOf IsWholeListing) IsSomeListing (λ bs t. record { numbers = t.whole.numbers; text = are_lines.to bs t }) (λ bs t. are_lines.from bs t.numbers t.text) bytes l h
told (Err e) bytes h = tt

pub lines_in-requires : goal.lines_in-requires
lines_in-requires c = grammar

pub returns : goal.returns
returns c = told c.lines_in.result c.args.bytes.now c.lines_in.ensures
