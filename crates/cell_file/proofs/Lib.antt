-- The lemmas by topic.
pub mod Chains
pub mod Alikes
pub mod Places
pub mod Follows
pub mod Grammars
pub mod Texts
pub mod Reading
pub mod Lengths
