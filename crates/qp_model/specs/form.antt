-- The condensed form: the problem in the inputs alone, in exact numbers or in enclosures, its curvature, and the systems that gains solve.
pub mod Condensed
pub mod Condensing
pub mod Form
pub mod FineForm
pub mod Class
pub mod Convex
pub mod Curvature
pub mod CurvatureSize
pub mod Quantities
pub mod FineSizes
pub mod Columns
pub mod GoodSolution
