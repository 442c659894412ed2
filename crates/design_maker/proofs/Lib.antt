-- The lemmas by topic.

-- ---- lists and lines as they are written
pub mod InBrackets
pub mod Lines
pub mod PolicyLines
pub mod WrittenValues
pub mod AsciiText
-- ---- the drawn numbers
pub mod DrawnNumbers
-- ---- what is read of the texts
pub mod ReadsLines
pub mod MadeDocument
pub mod MadeNumbers
pub mod MadeFields
pub mod MadePolicy
pub mod MadeStates
-- ---- the law
pub mod MadeValue
pub mod MadeLaws
