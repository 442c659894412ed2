-- The texts: of a controller, of a state, and the lines of plans and loops.
pub mod ControllerText
pub mod StateText
pub mod LoopLines
