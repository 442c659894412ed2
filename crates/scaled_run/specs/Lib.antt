pub mod Lists
pub mod ScaledForm
pub mod ScaledSizes
pub mod ScaledLaws
pub mod ScaledCorners
