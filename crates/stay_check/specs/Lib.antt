pub mod FirstRows
pub mod FaceForms
pub mod Staying
pub mod Columns
pub mod StaySize
pub mod Answers
pub mod FacesText
pub mod LoopStay
