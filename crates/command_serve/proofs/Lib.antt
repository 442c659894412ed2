-- which cell serves a state, what is printed of the cells and their states, what is answered, and that all is done where the boxes hold all states
pub mod Serving
pub mod Unserving
pub mod ServedLines
pub mod Answering
pub mod Held
