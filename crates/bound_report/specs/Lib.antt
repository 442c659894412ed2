pub mod Report
pub mod Document
