pub mod Distance
pub mod Near
pub mod LeanNear
pub mod FarRows
pub mod FarTube
pub mod FarSettling
pub mod Worked
