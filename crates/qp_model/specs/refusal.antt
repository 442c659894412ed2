-- Why a design with a policy has no controller, and the words that say so.
pub mod Refusing
pub mod Words
