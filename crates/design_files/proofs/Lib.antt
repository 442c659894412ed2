pub mod NumberLaws
pub mod ReadLaws
pub mod PartLaws
pub mod FoundLaws
pub mod FurtherLaws
pub mod KeyLaws
pub mod PlaceLaws
pub mod TextLaws
