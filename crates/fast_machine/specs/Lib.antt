pub mod Fast
pub mod FastReady
pub mod FastValues
pub mod FastErrors
pub mod FastWords
pub mod FastProgress
