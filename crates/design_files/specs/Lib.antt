pub mod Document
pub mod Numbers
pub mod Values
pub mod Keys
pub mod Places
pub mod DesignText
pub mod Sections
pub mod AskedText
