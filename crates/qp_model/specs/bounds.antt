-- The bounds: what a policy shows at the corners, the choices that follow from it, the errors of rounding, and the promise.
pub mod Margin
pub mod CornerSizes
pub mod FineCorners
pub mod CornerClass
pub mod Excess
pub mod Choices
pub mod Least
pub mod Errors
pub mod RealErrors
pub mod Printed
pub mod Certified
pub mod Built
