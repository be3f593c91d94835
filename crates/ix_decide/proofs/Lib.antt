pub mod LineLaws
pub mod GroupLaws
pub mod CountLaws
pub mod OwnerLaws
pub mod ReplyLaws
pub mod PointLaws
