pub mod Still
pub mod StillSize
pub mod ClosedRows
pub mod TurnSize
pub mod Tube
pub mod Course
pub mod Settling
pub mod Answers
pub mod Certificates
pub mod CertificateText
pub mod Beyond
pub mod Tubes
pub mod Settles
pub mod Worked
-- what the contracts are stated in besides, which is handed on
pub use Rattle.stay_check.specs as Stay
