-- The lemmas by topic.
pub mod Carries
pub mod ProductLaws
