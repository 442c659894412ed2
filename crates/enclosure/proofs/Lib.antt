pub mod RoomLaws
pub mod SumLaws
pub mod GramLaws
pub mod WideLaws
