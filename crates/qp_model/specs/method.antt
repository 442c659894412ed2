-- The method: quadratic costs multiplied out, and an inexact projected dual gradient method for any quadratic program.
pub mod Quadratic
pub mod Objective
pub mod Dual
