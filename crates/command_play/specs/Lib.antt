pub mod Texts
pub mod Plays
pub mod Printing
pub mod Making
pub mod Play
pub mod AsSolved
