pub mod Enclosures
