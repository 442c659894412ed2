use Rattle.std.proofs.Common.{Err, ap, refl, ◌∙◌}
use Rattle.corner_margin.specs.declared.fault.MarginFault.{MarginFault}
use Rattle.design_engine.proofs.CornerFacts.{exact_answer, fine_answer}
use Rattle.design_engine.proofs.corners.margins.Goals as goal

-- ---- in enclosures
pub margins_in-requires-in-Err-TooWide : goal.margins_in-requires-in-Err-TooWide
margins_in-requires-in-Err-TooWide c = c.requires

pub returns-in-Err-TooWide-clause-slack : goal.returns-in-Err-TooWide-clause-slack
returns-in-Err-TooWide-clause-slack c = c.margins_in-in-Err-TooWide.ensures.slack

pub returns-in-Err-TooWide-clause-cost : goal.returns-in-Err-TooWide-clause-cost
returns-in-Err-TooWide-clause-cost c = c.margins_in-in-Err-TooWide.ensures.cost

pub returns-in-Err-TooWide-clause-room : goal.returns-in-Err-TooWide-clause-room
returns-in-Err-TooWide-clause-room c =
    let e = c.margins_in-in-Err-TooWide.ensures in
    (fine_answer _ _ _ _ _ (c.in-Err-TooWide.is ∙ ap (λ (f : MarginFault). Err f) c.in-Err-TooWide.field-0-is) c.margins_in.ensures.wide
    (record { room = e.room; margin = e.margin; wide = e.wide; short = e.short; no_give_up = e.no_give_up })).room

pub returns-in-Err-TooWide-clause-margin : goal.returns-in-Err-TooWide-clause-margin
returns-in-Err-TooWide-clause-margin c =
    let e = c.margins_in-in-Err-TooWide.ensures in
    (fine_answer _ _ _ _ _ (c.in-Err-TooWide.is ∙ ap (λ (f : MarginFault). Err f) c.in-Err-TooWide.field-0-is) c.margins_in.ensures.wide
    (record { room = e.room; margin = e.margin; wide = e.wide; short = e.short; no_give_up = e.no_give_up })).margin

pub returns-in-Err-TooWide-clause-wide : goal.returns-in-Err-TooWide-clause-wide
returns-in-Err-TooWide-clause-wide c =
    let e = c.margins_in-in-Err-TooWide.ensures in
    (fine_answer _ _ _ _ _ (c.in-Err-TooWide.is ∙ ap (λ (f : MarginFault). Err f) c.in-Err-TooWide.field-0-is) c.margins_in.ensures.wide
    (record { room = e.room; margin = e.margin; wide = e.wide; short = e.short; no_give_up = e.no_give_up })).wide

pub returns-in-Err-TooWide-clause-short : goal.returns-in-Err-TooWide-clause-short
returns-in-Err-TooWide-clause-short c =
    let e = c.margins_in-in-Err-TooWide.ensures in
    (fine_answer _ _ _ _ _ (c.in-Err-TooWide.is ∙ ap (λ (f : MarginFault). Err f) c.in-Err-TooWide.field-0-is) c.margins_in.ensures.wide
    (record { room = e.room; margin = e.margin; wide = e.wide; short = e.short; no_give_up = e.no_give_up })).short

pub returns-in-Err-TooWide-clause-no_give_up : goal.returns-in-Err-TooWide-clause-no_give_up
returns-in-Err-TooWide-clause-no_give_up c =
    let e = c.margins_in-in-Err-TooWide.ensures in
    (fine_answer _ _ _ _ _ (c.in-Err-TooWide.is ∙ ap (λ (f : MarginFault). Err f) c.in-Err-TooWide.field-0-is) c.margins_in.ensures.wide
    (record { room = e.room; margin = e.margin; wide = e.wide; short = e.short; no_give_up = e.no_give_up })).no_give_up

-- ---- in exact numbers
pub margins_in-requires : goal.margins_in-requires
margins_in-requires c = c.requires

pub returns-in-Ok-clause-slack : goal.returns-in-Ok-clause-slack
returns-in-Ok-clause-slack c = c.in-Ok.ensures.slack

pub returns-in-Ok-clause-cost : goal.returns-in-Ok-clause-cost
returns-in-Ok-clause-cost c = c.in-Ok.ensures.cost

pub returns-in-Ok-clause-short : goal.returns-in-Ok-clause-short
returns-in-Ok-clause-short c = λ corner row slack e. absurd (cc)

pub returns-in-Ok-clause-room : goal.returns-in-Ok-clause-room
returns-in-Ok-clause-room c =
    let e = c.margins_in.ensures in
    (exact_answer _ _ _ _ (c.in-Ok.is) (λ q f. (cc)) (record { room = e.room; margin = e.margin; wide = e.wide; short = e.short; no_give_up = e.no_give_up })).room

pub returns-in-Ok-clause-margin : goal.returns-in-Ok-clause-margin
returns-in-Ok-clause-margin c =
    let e = c.margins_in.ensures in
    (exact_answer _ _ _ _ (c.in-Ok.is) (λ q f. (cc)) (record { room = e.room; margin = e.margin; wide = e.wide; short = e.short; no_give_up = e.no_give_up })).margin

pub returns-in-Ok-clause-wide : goal.returns-in-Ok-clause-wide
returns-in-Ok-clause-wide c =
    let e = c.margins_in.ensures in
    (exact_answer _ _ _ _ (c.in-Ok.is) (λ q f. (cc)) (record { room = e.room; margin = e.margin; wide = e.wide; short = e.short; no_give_up = e.no_give_up })).wide

pub returns-in-Ok-clause-no_give_up : goal.returns-in-Ok-clause-no_give_up
returns-in-Ok-clause-no_give_up c =
    let e = c.margins_in.ensures in
    (exact_answer _ _ _ _ (c.in-Ok.is) (λ q f. (cc)) (record { room = e.room; margin = e.margin; wide = e.wide; short = e.short; no_give_up = e.no_give_up })).no_give_up

pub returns-in-Err-NoMargin-clause-wide : goal.returns-in-Err-NoMargin-clause-wide
returns-in-Err-NoMargin-clause-wide c =
    let e = c.margins_in.ensures in
    (exact_answer _ _ _ _ (c.in-Err-NoMargin.is ∙ ap (λ (f : MarginFault). Err f) c.in-Err-NoMargin.field-0-is) (λ q f. (cc)) (record { room = e.room; margin = e.margin; wide = e.wide; short = e.short; no_give_up = e.no_give_up })).wide

pub returns-in-Err-NoMargin-clause-short : goal.returns-in-Err-NoMargin-clause-short
returns-in-Err-NoMargin-clause-short c =
    let e = c.margins_in.ensures in
    (exact_answer _ _ _ _ (c.in-Err-NoMargin.is ∙ ap (λ (f : MarginFault). Err f) c.in-Err-NoMargin.field-0-is) (λ q f. (cc)) (record { room = e.room; margin = e.margin; wide = e.wide; short = e.short; no_give_up = e.no_give_up })).short

pub returns-in-Err-Memory-clause-wide : goal.returns-in-Err-Memory-clause-wide
returns-in-Err-Memory-clause-wide c =
    let e = c.margins_in.ensures in
    (exact_answer _ _ _ _ (c.in-Err-Memory.is ∙ ap (λ (f : MarginFault). Err f) c.in-Err-Memory.field-0-is) (λ q f. (cc)) (record { room = e.room; margin = e.margin; wide = e.wide; short = e.short; no_give_up = e.no_give_up })).wide

pub returns-in-Err-NoMargin-clause-no_give_up : goal.returns-in-Err-NoMargin-clause-no_give_up
returns-in-Err-NoMargin-clause-no_give_up c = λ corner row slack short. refl

pub returns-in-Err-Memory-clause-short : goal.returns-in-Err-Memory-clause-short
returns-in-Err-Memory-clause-short c = λ corner row slack e. absurd (cc)

pub returns-in-Err-Memory-clause-no_give_up : goal.returns-in-Err-Memory-clause-no_give_up
returns-in-Err-Memory-clause-no_give_up c = λ corner row slack short. refl
