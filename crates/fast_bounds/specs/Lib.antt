pub mod FastDesign
pub mod FastCertified
pub mod FastRefusals
pub mod FastTerms
pub mod FastAnswers
pub mod FastMargin
pub mod ByMachine
