pub mod TextForm
pub mod Lines
pub mod Table
pub mod BlockPlace
pub mod Laws
