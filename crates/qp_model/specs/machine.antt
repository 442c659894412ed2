-- The machine: a controller, its steps and runs, each value that it meets, and its loop with the plant.
pub mod Controller
pub mod Machine
pub mod AbsoluteSums
pub mod ValuesMet
pub mod Within
pub mod Successor
pub mod LoopSize
