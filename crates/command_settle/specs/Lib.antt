pub mod CertificateFile
pub mod Disturbances
pub mod SettledText
pub mod Loops
pub mod Settle
pub mod Files
pub mod Settled
